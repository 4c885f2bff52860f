use Rattle.bt_lines.proofs.Std.{refl}
use Rattle.bt_bed.specs.model.BedLine.{record_of}
use Rattle.bt_bed.specs.model.Genome.{entry_of}
use Rattle.bt_bed.specs.model.Good.{good_after, line_says}
use Rattle.bt_bed.specs.calls.Stretches.{stretches_from, with_position}
use Rattle.bt_lines.specs.model.Lines.{lines_from, value_of}
use Rattle.bt_runs.specs.model.Gaps.{complement, gaps_of, settled_gaps}
use Rattle.bt_tool.specs.model.Report.{report_of}
use Rattle.std.specs.Fmt.{digits}
use Rattle.bt_laws.proofs.worked.gaps.Goals as goal

pub returns-clause-gaps : goal.returns-clause-gaps
unfolding report_of lines_from value_of good_after line_says record_of digits stretches_from with_position entry_of gaps_of complement
returns-clause-gaps c = refl

pub returns-clause-with_records : goal.returns-clause-with_records
unfolding report_of lines_from value_of good_after line_says record_of digits stretches_from with_position entry_of gaps_of complement
returns-clause-with_records c = refl

pub returns-clause-empty : goal.returns-clause-empty
unfolding report_of lines_from value_of good_after record_of digits stretches_from with_position entry_of gaps_of complement
returns-clause-empty c = refl

pub returns-clause-settled : goal.returns-clause-settled
unfolding report_of lines_from value_of good_after line_says record_of digits stretches_from with_position entry_of gaps_of complement settled_gaps
returns-clause-settled c = refl
