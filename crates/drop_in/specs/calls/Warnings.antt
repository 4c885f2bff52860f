-- On which lines bedtools 2.30.0 loses or changes output silently, so that a warning is due.
use Rattle.std.specs.Prelude.{ℕ, Bool, true, false, ◌&&◌, ◌||◌, if◌then◌else◌, Option, Some, None, option_map}
use Rattle.bt_lines.specs.declared.fault.Fault.{Fault}
use Rattle.bt_lines.specs.declared.fault.Input.{Input}
use Rattle.bt_lines.specs.declared.fault.Input.TheVariants.{First, Second}
use Rattle.bt_lines.specs.declared.fault.Kind.{Kind}
use Rattle.bt_lines.specs.declared.fault.Kind.TheVariants.{OutOfOrder}
use Rattle.bt_sweep.specs.declared.output.shape.Shape.{Shape}
use Rattle.bt_sweep.specs.declared.output.shape.Shape.TheVariants.{CutAndB, OrigBoth, Overlap}
use Rattle.bt_front.specs.declared.survey.oddity.Oddity.{Oddity}
use Rattle.bt_front.specs.declared.survey.oddity.Oddity.TheVariants.{Blank, DoubleReturn, HeaderName, Long, Nul}
use Rattle.bt_front.specs.declared.survey.trouble.Trouble.{Trouble}
use Rattle.bt_front.specs.declared.survey.trouble.Trouble.TheVariants.{ComesBack, Odd, Refused}
use Rattle.bt_tool.specs.declared.planning.plan_type.Command.{Command}
use Rattle.bt_tool.specs.declared.planning.plan_type.Command.TheVariants.{Complement, Coverage, Intersect, Merge, Subtract}
use Rattle.drop_in.specs.declared.warning.Case.{Case}
use Rattle.drop_in.specs.declared.warning.Silent.{Silent}
use Rattle.drop_in.specs.declared.warning.Silent.TheVariants.{CutsColumn, CutsLine, DropsReturns, EndsInput, EndsRun, LosesHits, SkipsRecord}
use Rattle.drop_in.specs.declared.warning.Warning.{Warning}
use Rattle.drop_in.specs.declared.why.Why.{Why}
use Rattle.drop_in.specs.declared.why.Why.TheVariants.{Text}

-- Commands.

-- each hit has the line of the second input: -wb, -wa -wb and -wo
abbrev pub writes_second : Shape → Bool
writes_second CutAndB = true
writes_second OrigBoth = true
writes_second Overlap = true
writes_second shape = false

-- bedtools writes lines of an input as they are, except for their numbers
abbrev pub writes_lines : Command → Input → Bool
writes_lines (Intersect shape rule held) First = true
writes_lines (Intersect shape rule held) Second = writes_second shape
writes_lines (Subtract whole rule held) First = true
writes_lines command input = false

-- bedtools reads them by the reader that its newer commands have
abbrev pub has_one_reader : Command → Bool
has_one_reader (Merge d strand) = true
has_one_reader (Complement limit) = true
has_one_reader (Intersect shape rule held) = true
has_one_reader (Subtract whole rule held) = true
has_one_reader command = false

-- bedtools may pass over a record whose name begins as a header line does
abbrev pub passes_headers : Command → Bool
passes_headers (Coverage zeros strand) = true
passes_headers command = has_one_reader command

abbrev pub is_merge : Command → Bool
is_merge (Merge d strand) = true
is_merge command = false

-- What bedtools does silently.

abbrev pub silent_if : Bool → Silent → Option Silent
silent_if is_met silent = if is_met then Some silent else None

-- with a blank line: with -sorted it ends an input, and merge and complement merge nothing across it
abbrev pub blank_does : Command → Bool → Option Silent
blank_does (Merge d strand) is_sorted = Some EndsRun
blank_does (Complement limit) is_sorted = Some EndsRun
blank_does (Intersect shape rule held) is_sorted = silent_if is_sorted EndsInput
blank_does command is_sorted = None

-- with an odd line
abbrev pub silent_on : Case → Input → Oddity → Option Silent
silent_on call input Blank = blank_does call.command call.is_sorted
silent_on call input DoubleReturn = silent_if (writes_lines call.command input) DropsReturns
silent_on call input Nul = silent_if (has_one_reader call.command) CutsColumn
silent_on call input Long = silent_if (is_merge call.command || writes_lines call.command input) CutsLine
silent_on call input HeaderName = silent_if (passes_headers call.command) SkipsRecord
silent_on call input oddity = None

-- with a record out of order: of the second input it isn't noticed if it comes once the first has ended
abbrev pub order_of : Command → Bool → Input → Option Silent
order_of (Intersect shape rule held) is_by_genome Second = silent_if is_by_genome LosesHits
order_of command is_by_genome input = None

abbrev pub order_does : Case → Input → Option Silent
order_does call input = order_of call.command (call.is_sorted && call.has_genome) input

abbrev pub fault_does : Case → Input → Kind → Option Silent
fault_does call input OutOfOrder = order_does call input
fault_does call input kind = None

-- with a text that something leaves to it
abbrev pub silent_of : Case → Input → Trouble → Option Silent
silent_of call input (Odd odd) = silent_on call input odd.oddity
silent_of call input (ComesBack line) = order_does call input
silent_of call input (Refused fault) = fault_does call input fault.kind

-- The warning.

-- the line that it is about
abbrev pub line_of : Trouble → Option ℕ
line_of (Odd odd) = Some odd.line
line_of (ComesBack line) = Some line
line_of (Refused fault) = option_map (λ place. place.line) fault.place

abbrev pub warning_with : Option Silent → Option ℕ → Option Warning
warning_with (Some silent) (Some line) = Some (record { line = line; silent = silent })
warning_with silent line = None

-- a call that goes to bedtools for this reason has this warning
abbrev pub warning_of : Case → Why → Option Warning
warning_of call (Text input trouble) = warning_with (silent_of call input trouble) (line_of trouble)
warning_of call why = None
