use Rattle.bt_lines.proofs.Std.{refl}
use Rattle.bt_bed.specs.calls.LevelScan.{begun_after, ended_after}
use Rattle.bt_bed.specs.model.BedLine.{record_of}
use Rattle.bt_bed.specs.model.Genome.{entry_of}
use Rattle.bt_bed.specs.model.Good.{good_after, line_says}
use Rattle.bt_lines.specs.model.Lines.{lines_from, value_of}
use Rattle.bt_runs.specs.model.Depth.{coverage, depth_of, settled_depths}
use Rattle.bt_tool.specs.model.Report.{report_of}
use Rattle.std.specs.Fmt.{digits}
use Rattle.bt_laws.proofs.worked.depths.Goals as goal

pub returns-clause-one_stretch : goal.returns-clause-one_stretch
unfolding report_of lines_from value_of good_after line_says record_of digits entry_of begun_after ended_after depth_of coverage
returns-clause-one_stretch c = refl

pub returns-clause-two_deep : goal.returns-clause-two_deep
unfolding report_of lines_from value_of good_after line_says record_of digits entry_of begun_after ended_after depth_of coverage
returns-clause-two_deep c = refl

pub returns-clause-one_strand : goal.returns-clause-one_strand
unfolding report_of lines_from value_of good_after line_says record_of digits entry_of begun_after ended_after depth_of coverage
returns-clause-one_strand c = refl

pub returns-clause-zeros : goal.returns-clause-zeros
unfolding report_of lines_from value_of good_after line_says record_of digits entry_of begun_after ended_after depth_of coverage
returns-clause-zeros c = refl

pub returns-clause-settled : goal.returns-clause-settled
unfolding report_of lines_from value_of good_after line_says record_of digits entry_of begun_after ended_after depth_of coverage settled_depths
returns-clause-settled c = refl

pub returns-clause-not_settled : goal.returns-clause-not_settled
unfolding report_of lines_from value_of good_after line_says record_of entry_of begun_after ended_after depth_of coverage settled_depths
returns-clause-not_settled c = refl
