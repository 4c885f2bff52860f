use Rattle.bt_lines.proofs.Std.{refl}
use Rattle.bt_bed.specs.model.BedLine.{record_of}
use Rattle.bt_bed.specs.model.Good.{good_after, line_says}
use Rattle.bt_bed.specs.calls.Stretches.{stretches_from, with_position}
use Rattle.bt_lines.specs.model.Lines.{lines_from, value_of}
use Rattle.bt_sweep.specs.model.Hits.{has_fraction, is_hit, is_enough, strands_agree}
use Rattle.bt_sweep.specs.model.Lines.{lines_for, pieces}
use Rattle.bt_tool.specs.model.Report.{report_of}
use Rattle.std.specs.Fmt.{digits}
use Rattle.bt_laws.proofs.worked.strands.Goals as goal

pub returns-clause-both_plus : goal.returns-clause-both_plus
unfolding report_of lines_from value_of good_after line_says record_of digits lines_for is_hit strands_agree is_enough has_fraction with_position
returns-clause-both_plus c = refl

pub returns-clause-both_minus : goal.returns-clause-both_minus
unfolding report_of lines_from value_of good_after line_says record_of digits lines_for is_hit strands_agree is_enough has_fraction with_position
returns-clause-both_minus c = refl

pub returns-clause-without_a_strand : goal.returns-clause-without_a_strand
unfolding report_of lines_from value_of good_after line_says record_of digits lines_for is_hit strands_agree is_enough has_fraction with_position
returns-clause-without_a_strand c = refl

pub returns-clause-none_beside_a_point : goal.returns-clause-none_beside_a_point
unfolding report_of lines_from value_of good_after line_says record_of digits lines_for is_hit strands_agree is_enough has_fraction with_position
returns-clause-none_beside_a_point c = refl

pub returns-clause-not_asked : goal.returns-clause-not_asked
unfolding report_of lines_from value_of good_after line_says record_of digits lines_for is_hit strands_agree is_enough has_fraction with_position
returns-clause-not_asked c = refl

pub returns-clause-left_by_the_other : goal.returns-clause-left_by_the_other
unfolding report_of lines_from value_of good_after line_says record_of digits lines_for is_hit strands_agree stretches_from with_position pieces
returns-clause-left_by_the_other c = refl

pub returns-clause-cut_by_its_own : goal.returns-clause-cut_by_its_own
unfolding report_of lines_from value_of good_after line_says record_of digits lines_for is_hit strands_agree is_enough has_fraction stretches_from with_position pieces
returns-clause-cut_by_its_own c = refl
