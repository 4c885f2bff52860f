use Rattle.bt_lines.proofs.Std.{refl}
use Rattle.bt_bed.specs.model.BedLine.{record_of}
use Rattle.bt_bed.specs.model.Genome.{entry_of}
use Rattle.bt_bed.specs.model.Good.{good_after, line_says}
use Rattle.bt_bed.specs.calls.Stretches.{stretches_from, with_position}
use Rattle.bt_lines.specs.model.Lines.{lines_from, value_of}
use Rattle.bt_runs.specs.model.Merged.{is_bridged, merged, ordered_runs, runs_of, settled_strand_runs, strand_runs}
use Rattle.bt_tool.specs.model.Report.{report_of}
use Rattle.std.specs.Fmt.{digits}
use Rattle.bt_laws.proofs.worked.merges.Goals as goal

pub returns-clause-touching : goal.returns-clause-touching
unfolding report_of lines_from value_of good_after line_says record_of digits stretches_from with_position is_bridged runs_of merged ordered_runs
returns-clause-touching c = refl

pub returns-clause-across_a_gap : goal.returns-clause-across_a_gap
unfolding report_of lines_from value_of good_after line_says record_of digits stretches_from with_position is_bridged runs_of merged ordered_runs
returns-clause-across_a_gap c = refl

pub returns-clause-each_strand : goal.returns-clause-each_strand
unfolding report_of lines_from value_of good_after line_says record_of digits stretches_from with_position is_bridged runs_of merged strand_runs
returns-clause-each_strand c = refl

pub returns-clause-one_strand : goal.returns-clause-one_strand
unfolding report_of lines_from value_of good_after line_says record_of digits stretches_from with_position is_bridged runs_of merged ordered_runs
returns-clause-one_strand c = refl

pub returns-clause-without_strands : goal.returns-clause-without_strands
unfolding report_of lines_from value_of good_after line_says record_of digits stretches_from with_position is_bridged runs_of merged strand_runs
returns-clause-without_strands c = refl

pub returns-clause-by_name : goal.returns-clause-by_name
unfolding report_of lines_from value_of good_after line_says record_of digits stretches_from with_position is_bridged runs_of merged ordered_runs
returns-clause-by_name c = refl

pub returns-clause-by_rank : goal.returns-clause-by_rank
unfolding report_of lines_from value_of good_after line_says record_of digits stretches_from with_position is_bridged runs_of merged ordered_runs entry_of
returns-clause-by_rank c = refl

pub returns-clause-out_of_order : goal.returns-clause-out_of_order
unfolding report_of lines_from value_of good_after line_says record_of digits stretches_from with_position is_bridged runs_of merged ordered_runs
returns-clause-out_of_order c = refl

pub returns-clause-settled_strands : goal.returns-clause-settled_strands
unfolding report_of lines_from value_of good_after line_says record_of digits stretches_from with_position is_bridged runs_of merged strand_runs settled_strand_runs
returns-clause-settled_strands c = refl

pub returns-clause-an_index : goal.returns-clause-an_index
unfolding report_of lines_from value_of good_after line_says record_of digits stretches_from with_position is_bridged runs_of merged ordered_runs entry_of
returns-clause-an_index c = refl
