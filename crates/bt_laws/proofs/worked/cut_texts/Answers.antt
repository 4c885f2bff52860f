use Rattle.bt_lines.proofs.Std.{refl}
use Rattle.bt_bed.specs.model.BedLine.{record_of}
use Rattle.bt_bed.specs.model.Good.{good_after, line_says}
use Rattle.bt_bed.specs.calls.Stretches.{stretches_from, with_position}
use Rattle.bt_lines.specs.model.Lines.{value_of, whole_lines_from}
use Rattle.bt_runs.specs.model.Merged.{is_bridged, merged, ordered_runs, runs_of}
use Rattle.bt_tool.specs.model.Report.{report_of}
use Rattle.std.specs.Fmt.{digits}
use Rattle.bt_laws.proofs.worked.cut_texts.Goals as goal

pub returns-clause-within_a_line : goal.returns-clause-within_a_line
unfolding whole_lines_from report_of value_of good_after line_says record_of digits stretches_from with_position is_bridged runs_of merged ordered_runs
returns-clause-within_a_line c = refl
