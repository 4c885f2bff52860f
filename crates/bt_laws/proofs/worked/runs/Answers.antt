use Rattle.bt_lines.proofs.Std.{refl}
use Rattle.bt_bed.specs.model.BedLine.{record_of}
use Rattle.bt_bed.specs.model.Genome.{entry_of}
use Rattle.bt_bed.specs.model.Good.{good_after, line_says}
use Rattle.bt_bed.specs.calls.Stretches.{stretches_from, with_position}
use Rattle.bt_lines.specs.model.Lines.{lines_from, value_of}
use Rattle.bt_runs.specs.model.Merged.{is_bridged, merged, ordered_runs, runs_of}
use Rattle.bt_sweep.specs.model.Hits.{has_fraction, is_hit, is_enough, strands_agree}
use Rattle.bt_sweep.specs.model.Lines.{lines_for}
use Rattle.bt_tool.specs.model.Options.{options, word_fault}
use Rattle.bt_tool.specs.model.Report.{report, report_of}
use Rattle.bt_tool.specs.model.Usage.{items_of}
use Rattle.std.specs.Fmt.{digits}
use Rattle.bt_laws.proofs.worked.runs.Goals as goal

pub returns-clause-without_a_fault : goal.returns-clause-without_a_fault
unfolding report_of lines_from value_of good_after line_says record_of digits stretches_from with_position is_bridged runs_of merged ordered_runs report options word_fault items_of
returns-clause-without_a_fault c = refl

pub returns-clause-of_the_first : goal.returns-clause-of_the_first
unfolding report_of lines_from value_of good_after line_says record_of digits stretches_from with_position is_bridged runs_of merged ordered_runs report options word_fault items_of
returns-clause-of_the_first c = refl

pub returns-clause-of_standard_input : goal.returns-clause-of_standard_input
unfolding report_of lines_from value_of good_after line_says record_of digits stretches_from with_position is_bridged runs_of merged ordered_runs report options word_fault items_of
returns-clause-of_standard_input c = refl

pub returns-clause-of_the_genome_file : goal.returns-clause-of_the_genome_file
unfolding report_of lines_from value_of record_of digits with_position good_after entry_of report options word_fault items_of
returns-clause-of_the_genome_file c = refl

pub returns-clause-of_the_second : goal.returns-clause-of_the_second
unfolding report_of lines_from value_of good_after line_says record_of digits with_position lines_for is_hit strands_agree is_enough has_fraction report options word_fault items_of
returns-clause-of_the_second c = refl
