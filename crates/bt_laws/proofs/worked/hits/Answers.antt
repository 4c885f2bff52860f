use Rattle.bt_lines.proofs.Std.{refl}
use Rattle.bt_bed.specs.model.BedLine.{record_of}
use Rattle.bt_bed.specs.model.Good.{good_after, line_says}
use Rattle.bt_lines.specs.model.Lines.{lines_from, value_of}
use Rattle.bt_sweep.specs.model.Hits.{has_fraction, is_hit, is_enough, strands_agree}
use Rattle.bt_sweep.specs.model.Lines.{lines_for}
use Rattle.bt_tool.specs.model.Report.{report_of}
use Rattle.std.specs.Fmt.{digits}
use Rattle.bt_laws.proofs.worked.hits.Goals as goal

pub returns-clause-bookended_missing : goal.returns-clause-bookended_missing
unfolding report_of lines_from value_of good_after line_says record_of digits lines_for is_hit
returns-clause-bookended_missing c = refl

pub returns-clause-half : goal.returns-clause-half
unfolding report_of lines_from value_of good_after line_says record_of digits lines_for is_hit strands_agree is_enough has_fraction
returns-clause-half c = refl

pub returns-clause-half_of_both : goal.returns-clause-half_of_both
unfolding report_of lines_from value_of good_after line_says record_of digits lines_for is_hit strands_agree is_enough has_fraction
returns-clause-half_of_both c = refl

pub returns-clause-all_pairs : goal.returns-clause-all_pairs
unfolding report_of lines_from value_of good_after line_says record_of digits lines_for is_hit strands_agree is_enough has_fraction
returns-clause-all_pairs c = refl

pub returns-clause-numbers : goal.returns-clause-numbers
unfolding report_of lines_from value_of good_after line_says record_of digits lines_for is_hit strands_agree is_enough has_fraction
returns-clause-numbers c = refl

pub returns-clause-three_held : goal.returns-clause-three_held
unfolding report_of lines_from value_of good_after line_says record_of digits lines_for is_hit strands_agree is_enough has_fraction
returns-clause-three_held c = refl

pub returns-clause-original : goal.returns-clause-original
unfolding report_of lines_from value_of good_after line_says record_of digits lines_for is_hit strands_agree is_enough has_fraction
returns-clause-original c = refl

pub returns-clause-with_the_second : goal.returns-clause-with_the_second
unfolding report_of lines_from value_of good_after line_says record_of digits lines_for is_hit strands_agree is_enough has_fraction
returns-clause-with_the_second c = refl

pub returns-clause-both_original : goal.returns-clause-both_original
unfolding report_of lines_from value_of good_after line_says record_of digits lines_for is_hit strands_agree is_enough has_fraction
returns-clause-both_original c = refl

pub returns-clause-overlap : goal.returns-clause-overlap
unfolding report_of lines_from value_of good_after line_says record_of digits lines_for is_hit strands_agree is_enough has_fraction
returns-clause-overlap c = refl

pub returns-clause-once : goal.returns-clause-once
unfolding report_of lines_from value_of good_after line_says record_of digits lines_for is_hit strands_agree is_enough has_fraction
returns-clause-once c = refl

pub returns-clause-whole_dropped : goal.returns-clause-whole_dropped
unfolding report_of lines_from value_of good_after line_says record_of digits lines_for is_hit strands_agree is_enough has_fraction
returns-clause-whole_dropped c = refl

pub returns-clause-zeros_before : goal.returns-clause-zeros_before
unfolding report_of lines_from value_of good_after line_says record_of digits lines_for is_hit strands_agree is_enough has_fraction
returns-clause-zeros_before c = refl

pub returns-clause-second_at_fault : goal.returns-clause-second_at_fault
unfolding report_of lines_from value_of good_after line_says record_of digits lines_for is_hit strands_agree is_enough has_fraction
returns-clause-second_at_fault c = refl

pub returns-clause-first_at_fault : goal.returns-clause-first_at_fault
unfolding report_of lines_from value_of good_after line_says record_of digits lines_for is_hit strands_agree is_enough has_fraction
returns-clause-first_at_fault c = refl

pub returns-clause-returns_to_a_chromosome : goal.returns-clause-returns_to_a_chromosome
unfolding report_of lines_from value_of good_after line_says record_of digits lines_for is_hit strands_agree is_enough has_fraction
returns-clause-returns_to_a_chromosome c = refl
