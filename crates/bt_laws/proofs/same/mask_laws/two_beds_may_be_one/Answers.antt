use Rattle.bt_lines.proofs.Std.{refl}
use Rattle.std.specs.Fmt.{digits}
use Rattle.bt_lines.specs.model.Lines.{lines_from, value_of}
use Rattle.bt_bed.specs.model.Good.{good_after, line_says}
use Rattle.bt_bed.specs.model.BedLine.{record_of}
use Rattle.bt_tool.specs.model.Report.{report_of}
use Rattle.bt_laws.proofs.lemmas.same.MaskTwice.{by_sorted}
use Rattle.bt_laws.proofs.same.mask_laws.two_beds_may_be_one.Goals as goal

pub returns-clause-sorted : goal.returns-clause-sorted
returns-clause-sorted c = by_sorted

pub returns-clause-names : goal.returns-clause-names
unfolding report_of good_after lines_from line_says record_of value_of digits
returns-clause-names c = (record { output = refl; faultless = refl }, record { output = refl; faultless = refl }, record { output = refl; faultless = refl })
