use Rattle.bt_lines.proofs.Std.{refl}
use Rattle.std.specs.Fmt.{digits}
use Rattle.bt_lines.specs.model.Lines.{lines_from, value_of}
use Rattle.bt_bed.specs.model.Good.{good_after, line_says}
use Rattle.bt_bed.specs.model.BedLine.{record_of}
use Rattle.bt_sweep.specs.model.Hits.{has_fraction, is_hit, is_enough, strands_agree}
use Rattle.bt_sweep.specs.model.Lines.{lines_for}
use Rattle.bt_tool.specs.model.Report.{report_of}
use Rattle.bt_laws.proofs.pipes.some_strands_change.Goals as goal

pub returns-clause-returns : goal.returns-clause-returns
unfolding report_of good_after lines_from line_says record_of value_of lines_for is_hit strands_agree is_enough has_fraction digits
returns-clause-returns c = record { written = refl; before = refl; after = refl }

pub returns-clause-names : goal.returns-clause-names
unfolding report_of good_after lines_from line_says record_of value_of lines_for is_hit strands_agree is_enough has_fraction digits
returns-clause-names c = record { written = refl; before = refl; after = refl }
