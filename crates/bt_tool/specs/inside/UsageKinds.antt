-- The numbers of what can be wrong with a command line.
use Rattle.std.specs.Prelude.{ℕ}
use Rattle.bt_tool.specs.declared.options.usage.UsageKind.{UsageKind}
use Rattle.bt_tool.specs.declared.options.usage.UsageKind.TheVariants.{BadValue, InputNamedTwice, NoCommand, OptionsExclusive, RequiredMissing, UnknownOption, ValueMissing}

abbrev pub number_of : UsageKind → ℕ
number_of NoCommand = 1
number_of UnknownOption = 2
number_of ValueMissing = 3
number_of BadValue = 4
number_of RequiredMissing = 5
number_of OptionsExclusive = 6
number_of InputNamedTwice = 7
