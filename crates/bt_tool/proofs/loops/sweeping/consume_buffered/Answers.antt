use Rattle.bt_lines.proofs.Std.{◌≡◌, [], ◌∷◌, ◌++◌, subst, sym, ap, arith, length}
use Rattle.bt_bed.specs.calls.Batch.{Passes, left}
use Rattle.bt_bed.specs.declared.read.batch.Batch.{Batch}
use Rattle.bt_bed.specs.calls.CursorLaws.{batch_gives_more, batch_gives_none}
use Rattle.bt_bed.specs.calls.Bed.{record_in}
use Rattle.bt_tool.proofs.lemmas.running.pair.PairNear.{all_taken, batch_taken}
use Rattle.bt_tool.proofs.loops.sweeping.consume_buffered.Goals as goal

pub loop-next-init : goal.loop-next-init
loop-next-init g c = ([], batch_gives_none c.buffered-seconds.result)

pub loop-next-preserved : goal.loop-next-preserved
loop-next-preserved g c =
    let so = c.loop-next.invariant in
    (so.0 ++ record_in c.in-Some._next ∷ [], batch_gives_more c.buffered-seconds.result c.loop-next.seconds c.next.new.self so.0 (record_in c.in-Some._next ∷ []) so.1 c.in-Some.ensures.some)

pub loop-next-smaller : goal.loop-next-smaller
loop-next-smaller g c = omega (arith, ap length c.in-Some.ensures.some.left_is)

pub consume-requires : goal.consume-requires
consume-requires g c =
    let so = c.loop-next.invariant in
    batch_taken c.args.second.now c.buffered-seconds.ensures.lends (subst (Passes c.buffered-seconds.result so.0) (sym c.in_default.ensures.unchanged) so.1) c.consumed-consumed.ensures

pub returns-clause-takes : goal.returns-clause-takes
returns-clause-takes g c =
    let so = c.loop-next.invariant in
    all_taken c.args.second.now c.buffered-seconds.ensures.lends (subst (Passes c.buffered-seconds.result so.0) (sym c.in_default.ensures.unchanged) so.1)
    c.consumed-consumed.ensures c.buffered-seconds.ensures.comes c.consume.new.self c.consume.ensures (subst (λ (b : Batch). left b ≡ []) (sym c.in_default.ensures.unchanged) c.in_default.ensures.none)
