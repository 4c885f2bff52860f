use Rattle.bt_lines.proofs.Std.{refl}
use Rattle.bt_bed.specs.model.BedLine.{record_of}
use Rattle.bt_bed.specs.model.Good.{good_after, line_says}
use Rattle.bt_bed.specs.calls.Stretches.{with_position}
use Rattle.bt_lines.specs.model.Lines.{lines_from, value_of}
use Rattle.bt_sweep.specs.model.Hits.{has_fraction, is_hit, is_enough, strands_agree}
use Rattle.bt_sweep.specs.model.Lines.{lines_for}
use Rattle.bt_tool.specs.model.Options.{options, word_fault}
use Rattle.bt_tool.specs.model.Report.{report, report_of}
use Rattle.bt_tool.specs.model.Usage.{items_of}
use Rattle.std.specs.Fmt.{digits}
use Rattle.bt_laws.proofs.worked.meanings.Goals as goal

pub returns-clause-once : goal.returns-clause-once
unfolding report_of lines_from value_of good_after line_says record_of digits with_position lines_for is_hit strands_agree is_enough has_fraction report options word_fault items_of
returns-clause-once c = refl

pub returns-clause-missing : goal.returns-clause-missing
unfolding report_of lines_from value_of good_after line_says record_of digits with_position lines_for is_hit strands_agree is_enough has_fraction report options word_fault items_of
returns-clause-missing c = refl

pub returns-clause-count : goal.returns-clause-count
unfolding report_of lines_from value_of good_after line_says record_of digits with_position lines_for is_hit strands_agree is_enough has_fraction report options word_fault items_of
returns-clause-count c = refl

pub returns-clause-overlap : goal.returns-clause-overlap
unfolding report_of lines_from value_of good_after line_says record_of digits with_position lines_for is_hit strands_agree is_enough has_fraction report options word_fault items_of
returns-clause-overlap c = refl

pub returns-clause-with_the_second : goal.returns-clause-with_the_second
unfolding report_of lines_from value_of good_after line_says record_of digits with_position lines_for is_hit strands_agree is_enough has_fraction report options word_fault items_of
returns-clause-with_the_second c = refl

pub returns-clause-both_original : goal.returns-clause-both_original
unfolding report_of lines_from value_of good_after line_says record_of digits with_position lines_for is_hit strands_agree is_enough has_fraction report options word_fault items_of
returns-clause-both_original c = refl

pub returns-clause-once_original : goal.returns-clause-once_original
unfolding report_of lines_from value_of good_after line_says record_of digits with_position lines_for is_hit strands_agree is_enough has_fraction report options word_fault items_of
returns-clause-once_original c = refl

pub returns-clause-one_held : goal.returns-clause-one_held
unfolding report_of lines_from value_of good_after line_says record_of digits with_position report options word_fault items_of
returns-clause-one_held c = refl
