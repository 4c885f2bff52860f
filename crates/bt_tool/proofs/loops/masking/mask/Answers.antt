use Rattle.bt_lines.proofs.Std.{refl, sym, ◌∙◌, ap}
use Rattle.bt_lines.specs.calls.Reader.{source_of}
use Rattle.bt_lines.specs.declared.fault.Input.TheVariants.{Second}
use Rattle.bt_bed.specs.calls.Blocks.{view_of}
use Rattle.bt_bed.proofs.lemmas.Definitions.{good_in_blocks}
use Rattle.bt_tool.specs.model.Reaches.{mask_reaches}
use Rattle.bt_tool.specs.model.TwoInputs.{mask_settles}
use Rattle.bt_tool.specs.inside.MaskLoop.{line_members, nothing_reached}
use Rattle.bt_tool.proofs.lemmas.running.mask.MaskFacts.{mask_limits, mask_needs}
use Rattle.bt_tool.proofs.lemmas.running.mask.MaskRounds.{as_asked, masks_start}
use Rattle.bt_bed.proofs.lemmas.read.good.ReadingLemmas.{good_at_first}
use Rattle.bt_tool.proofs.lemmas.running.members.CursorLemmas.{begins_over, fresh_over}
use Rattle.bt_tool.proofs.lemmas.running.pair.PairMet.{err_told, writes_both}
use Rattle.bt_tool.proofs.lemmas.running.pair.PairNear.{near_both}
use Rattle.bt_tool.proofs.loops.masking.mask.Goals as goal

pub run_two-masked-requires : goal.run_two-masked-requires
run_two-masked-requires g c =
    let reader = c.new-lines.ensures in
    let reader_2 = c.new.ensures in
    let records = c.new-records.ensures in
    masks_start g.A.Source g.B.Source (record { lines = c.new-lines.result; records = c.new-records.result; mask = c.new-mask.result }) c.args.out.now.output reader.input
    (fresh_over g.A.Source (line_members c.new-mask.result.full nothing_reached c.new-lines.result) refl reader.none_taken.0 reader.none_fed reader.none_given reader.going.0 reader.going.0 refl reader.sound)
    (fresh_over g.B.Source (view_of c.new-records.result) records.below reader_2.none_taken.0 reader_2.none_fed reader_2.none_given (records.fault ∙ reader_2.going.0) reader_2.going.0 records.none_buffered reader_2.sound)
    c.requires c.new-mask.ensures.stands.stands

pub returns : goal.returns
returns g c =
    let reader = c.new-lines.ensures in
    let reader_2 = c.new.ensures in
    let records = c.new-records.ensures in
    let stands = c.new-mask.ensures.stands in
    let ends = as_asked g.A.Source g.B.Source
    stands.how_is stands.full_is c.run_two-masked.ensures in
    let lines = line_members c.args.full nothing_reached c.new-lines.result in
    let begins = begins_over g.A.Source lines refl reader.none_taken.0 reader.none_fed reader.source reader.input reader.going.0 reader.going.2 reader.lines (λ going. good_at_first g.A.Source lines going refl) in
    let begins_second = begins_over g.B.Source (view_of c.new-records.result) records.below reader_2.none_taken.0 reader_2.none_fed reader_2.source reader_2.input reader_2.going.0 reader_2.going.2 reader_2.lines records.good in
    let ended = ap source_of ends.1 ∙ sym c.into_source-first.ensures in
    let ended_second = sym (c.into_source-second.ensures ∙ ap source_of c.into_reader.ensures) in
    rw (c.err.ensures.value, err_told c.run_two-masked.result) (writes_both (λ two. good_in_blocks Second two) (mask_limits c.args.how) begins begins_second ended ended_second ends.2.kept_first ends.2.kept_second ends.2.finishes
    (mask_settles c.args.how c.args.full) (mask_reaches c.args.full) (near_both (λ two. good_in_blocks Second two) (mask_needs c.args.how) begins begins_second
    ended ended_second ends.2.finishes) ends.2.none_kept)
