use Rattle.bt_lines.proofs.Std.{sym, ◌∙◌}
use Rattle.bt_lines.proofs.lemmas.reader.lines.BufferedLemmas.{begins_lines}
use Rattle.bt_bed.proofs.lemmas.read.good.SaidRuns.{token_is}
use Rattle.bt_bed.specs.calls.Blocks.{count_in}
use Rattle.bt_tool.proofs.lemmas.running.members.BlockMembers.{blocks_given, blocks_taken, lent_are, lent_at, none_over}
use Rattle.bt_tool.proofs.lemmas.running.members.CursorLemmas.{lines_consumed, lines_numbered}
use Rattle.bt_tool.proofs.lemmas.running.mask.MaskBoth.{gives_both}
use Rattle.bt_tool.proofs.lemmas.running.mask.MaskRounds.{gave_both}
use Rattle.bt_tool.proofs.loops.masking.MaskRunTwoInputEngine.give_buffered.Goals as goal

pub consume-requires : goal.consume-requires
consume-requires g c =
    let gives = c.advance-masked.ensures.gives in
    (lines_consumed c.args.self.now.lines c.buffered-texts.result c.advance-masked.new.lines gives.texts c.buffered-texts.ensures.begins gives.passes.left_is gives.passes.all_is gives.passes.given gives.passes.open_is c.consumed-consumed.result c.consumed-consumed.ensures).taken

pub consume-requires-2 : goal.consume-requires-2
consume-requires-2 g c =
    let gives = c.advance-masked.ensures.gives in
    token_is c.args.self.now.records.sorted c.buffered-beds.result c.advance-masked.new.records gives.taken c.consumed-consumed-2.result c.buffered-beds.ensures.lends gives.given c.consumed-consumed-2.ensures

pub returns : goal.returns
returns g c = λ start out begun.
    let gives = c.advance-masked.ensures.gives in
    let lines = c.args.self.now.lines in
    let records = c.args.self.now.records in
    let first_lines = c.buffered-texts.result in
    let last_lines = c.advance-masked.new.lines in
    let begins = c.buffered-texts.ensures.begins in
    let parts = sym (begins_lines first_lines _ _ _ begins) ∙ gives.passes.left_is in
    let numbered = lines_numbered lines first_lines last_lines gives.texts begins gives.passes.left_is gives.passes.all_is gives.passes.given gives.passes.open_is in
    let are = lines_consumed lines first_lines last_lines gives.texts begins gives.passes.left_is gives.passes.all_is gives.passes.given gives.passes.open_is c.consumed-consumed.result c.consumed-consumed.ensures in
    let taken = blocks_given records c.buffered-beds.result c.advance-masked.new.records gives.taken c.consumed-consumed-2.result c.buffered-beds.ensures.lends gives.given c.consumed-consumed-2.ensures in
    let has = blocks_taken g.B.Source records c.consume-2.new.self (count_in records c.consumed-consumed-2.result) gives.taken taken c.buffered-beds.ensures.comes c.consume-2.ensures in
    gave_both begun
    (record { lines = c.consume.new.self; records = c.consume-2.new.self; mask = c.advance-masked.new.self }) c.advance-masked.new.out.output
    c.consume.ensures.fault_is has.takes.goes has.takes.below_stays
    c.advance-masked.result (λ start before going.
    let s = going.1 in
    gives_both s begins last_lines gives.texts parts numbered (lent_are records c.buffered-beds.result c.buffered-beds.ensures.lends) (lent_at records c.buffered-beds.result c.buffered-beds.ensures.lends)
    gives.given (none_over lines) are c.consume.ensures has
    c.advance-masked.result c.advance-masked.new.self c.advance-masked.new.out.output (λ next. gives.comes s.stage s.stands next) c.advance-masked.ensures.stops)
