use Rattle.bt_lines.proofs.Std.{refl}
use Rattle.std.specs.Fmt.{digits}
use Rattle.bt_lines.specs.model.Lines.{lines_from, value_of}
use Rattle.bt_bed.specs.model.Good.{good_after, line_says}
use Rattle.bt_bed.specs.calls.Stretches.{stretches_from, with_position}
use Rattle.bt_bed.specs.model.BedLine.{record_of}
use Rattle.bt_seq.specs.model.Alignment.{alignment_of, fields_say}
use Rattle.bt_seq.specs.model.BedLines.{blocks_of}
use Rattle.bt_seq.specs.model.Cigar.{operations_in}
use Rattle.bt_sweep.specs.model.Hits.{has_fraction, is_hit, is_enough, strands_agree}
use Rattle.bt_sweep.specs.model.Lines.{lines_for, pieces}
use Rattle.bt_tool.specs.model.Report.{report_of}
use Rattle.bt_laws.proofs.pipes.some_outputs_go_back.Goals as goal

pub returns-clause-cuts : goal.returns-clause-cuts
unfolding report_of good_after lines_from line_says record_of value_of lines_for is_hit strands_agree is_enough has_fraction digits
returns-clause-cuts c = record { written = refl; refused = refl }

pub returns-clause-pieces : goal.returns-clause-pieces
unfolding report_of good_after lines_from line_says record_of value_of lines_for is_hit strands_agree is_enough has_fraction digits pieces stretches_from with_position
returns-clause-pieces c = record { written = refl; refused = refl }

pub returns-clause-blocks : goal.returns-clause-blocks
unfolding report_of good_after lines_from line_says record_of value_of digits alignment_of fields_say blocks_of operations_in
returns-clause-blocks c = record { written = refl; refused = refl }
