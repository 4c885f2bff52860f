use Rattle.bt_lines.proofs.Std.{refl}
use Rattle.bt_bed.specs.model.BedLine.{record_of}
use Rattle.bt_bed.specs.model.Good.{good_after, line_says}
use Rattle.bt_bed.specs.calls.Stretches.{stretches_from, with_position}
use Rattle.bt_lines.specs.model.Lines.{lines_from, value_of}
use Rattle.bt_sweep.specs.model.Hits.{has_fraction, is_hit, is_enough, strands_agree}
use Rattle.bt_sweep.specs.model.Lines.{lines_for, pieces}
use Rattle.bt_tool.specs.model.Report.{report_of}
use Rattle.std.specs.Fmt.{digits}
use Rattle.bt_laws.proofs.worked.pieces.Goals as goal

pub returns-clause-pieces : goal.returns-clause-pieces
unfolding report_of lines_from value_of good_after line_says record_of digits lines_for is_hit strands_agree is_enough has_fraction stretches_from with_position pieces
returns-clause-pieces c = refl

pub returns-clause-nothing : goal.returns-clause-nothing
unfolding report_of lines_from value_of good_after line_says record_of lines_for is_hit strands_agree is_enough has_fraction stretches_from with_position pieces
returns-clause-nothing c = refl

pub returns-clause-other_chromosome : goal.returns-clause-other_chromosome
unfolding report_of lines_from value_of good_after line_says record_of digits lines_for is_hit stretches_from with_position pieces
returns-clause-other_chromosome c = refl

pub returns-clause-too_little : goal.returns-clause-too_little
unfolding report_of lines_from value_of good_after line_says record_of digits lines_for is_hit strands_agree is_enough has_fraction stretches_from with_position pieces
returns-clause-too_little c = refl
