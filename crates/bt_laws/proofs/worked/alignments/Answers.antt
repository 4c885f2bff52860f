use Rattle.bt_lines.proofs.Std.{refl}
use Rattle.bt_bed.specs.model.BedLine.{record_of}
use Rattle.bt_bed.specs.model.Good.{good_after}
use Rattle.bt_lines.specs.model.Lines.{lines_from, value_of}
use Rattle.bt_seq.specs.model.Alignment.{alignment_of, fields_say}
use Rattle.bt_seq.specs.model.BedLines.{blocks_of}
use Rattle.bt_seq.specs.model.Cigar.{operations_in}
use Rattle.bt_tool.specs.model.Report.{report_of}
use Rattle.std.specs.Fmt.{digits}
use Rattle.bt_laws.proofs.worked.alignments.Goals as goal

pub returns-clause-neither : goal.returns-clause-neither
unfolding report_of lines_from value_of good_after record_of digits alignment_of fields_say operations_in
returns-clause-neither c = refl

pub returns-clause-first : goal.returns-clause-first
unfolding report_of lines_from value_of good_after record_of digits alignment_of fields_say operations_in
returns-clause-first c = refl

pub returns-clause-last : goal.returns-clause-last
unfolding report_of lines_from value_of good_after record_of digits alignment_of fields_say operations_in
returns-clause-last c = refl

pub returns-clause-both : goal.returns-clause-both
unfolding report_of lines_from value_of good_after record_of digits alignment_of fields_say operations_in
returns-clause-both c = refl

pub returns-clause-first_of_a_pair : goal.returns-clause-first_of_a_pair
unfolding report_of lines_from value_of good_after record_of digits alignment_of fields_say operations_in
returns-clause-first_of_a_pair c = refl

pub returns-clause-last_of_a_pair : goal.returns-clause-last_of_a_pair
unfolding report_of lines_from value_of good_after record_of digits alignment_of fields_say operations_in
returns-clause-last_of_a_pair c = refl

pub returns-clause-other_bits : goal.returns-clause-other_bits
unfolding report_of lines_from value_of good_after record_of digits alignment_of fields_say operations_in
returns-clause-other_bits c = refl

pub returns-clause-reversed : goal.returns-clause-reversed
unfolding report_of lines_from value_of good_after record_of digits alignment_of fields_say operations_in
returns-clause-reversed c = refl

pub returns-clause-consumed : goal.returns-clause-consumed
unfolding report_of lines_from value_of good_after record_of digits alignment_of fields_say operations_in
returns-clause-consumed c = refl

pub returns-clause-cut : goal.returns-clause-cut
unfolding report_of lines_from value_of good_after record_of digits alignment_of fields_say blocks_of operations_in
returns-clause-cut c = refl

pub returns-clause-whole : goal.returns-clause-whole
unfolding report_of lines_from value_of good_after record_of digits alignment_of fields_say operations_in
returns-clause-whole c = refl
