-- What every command goes by.
use Rattle.std.specs.Prelude.{List, Option, option_map}
use Rattle.bt_bed.specs.calls.GenomeTable.{entries}
use Rattle.bt_bed.specs.model.Genome.{Entry}
use Rattle.bt_tool.specs.declared.running.Setup.{Setup}

-- the chromosomes of the genome file, if there is one
abbrev pub chromosomes_in : Setup → Option (List Entry)
chromosomes_in setup = option_map entries setup.genome.now
