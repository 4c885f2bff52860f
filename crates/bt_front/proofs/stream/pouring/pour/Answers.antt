use Rattle.std.proofs.Common.{[], ◌++◌, ◌∙◌, append_assoc, take, arith, ap}
use Rattle.std.proofs.lemmas.List.{append-nil}
use Rattle.bt_lines.proofs.lemmas.reader.block.ReadsLemmas.{ends_later, ends_once}
use Rattle.bt_lines.specs.calls.Device.{begun, gave}
use Rattle.bt_front.proofs.stream.pouring.pour.Goals as goal

pub loop-init : goal.loop-init
loop-init g c = ([], begun, rw (append-nil c.args.kept.now) (c.in_ok-put.ensures.put), c.in_ok-put.ensures.taken)

pub loop-preserved : goal.loop-preserved
loop-preserved g c =
    let before = c.loop.invariant in (
      before.0 ++ take c.in-Ok.count c.read.new.block,
      gave before.1 _ _ (c.in-Ok.ensures.handed (omega (arith, c.read.auto.block))),
      c.in_ok-put-in-Ok.ensures.put ∙ ap (λ l. l ++ take c.in-Ok.count c.read.new.block) before.2
          ∙ append_assoc c.args.taker.now.output.put (c.args.kept.now ++ before.0) (take c.in-Ok.count c.read.new.block)
          ∙ ap (λ l. c.args.taker.now.output.put ++ l) (append_assoc c.args.kept.now before.0 (take c.in-Ok.count c.read.new.block)),
      c.in_ok-put-in-Ok.ensures.taken,
    )

pub returns-in-Ok-eq0-clause-all : goal.returns-in-Ok-eq0-clause-all
returns-in-Ok-eq0-clause-all g c = record {
  bytes = c.loop.invariant.0 ++ take c.in-Ok-eq0.field-0 c.read.new.block;
  served = ends_later g.S.Source.is_read c.loop.invariant.1
      (ends_once g.S.Source.is_read _ _ _ (ap (λ count. take count c.read.new.block) c.in-Ok-eq0.field-0-test) (c.in-Ok-eq0.ensures.handed (omega (arith, c.read.auto.block))));
  taken = rw c.in-Ok-eq0.field-0-test (rw (append-nil c.loop.invariant.0) (c.loop.invariant.3 ∙ c.loop.invariant.2));
}
