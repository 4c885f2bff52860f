use Rattle.bt_lines.proofs.Std.{arith, ◌≡◌, ◌-◌, drop, length, min, take, ◌+◌, [], ◌++◌, sym, ◌∙◌, ap, inl, inr, subst, refl, append-nil, length-append, length-take-le, false≢true}
use Rattle.bt_lines.proofs.lemmas.reader.block.ReadsLemmas.{ends_later, ends_once}
use Rattle.bt_lines.specs.calls.Device.{begun, gave}
use Rattle.std.proofs.lemmas.Slice.{take-put_mid}
use Rattle.drop_in.specs.calls.Marks.{HasMark, overlap}
use Rattle.drop_in.proofs.lemmas.MarkLemmas.{is_within, last_on, mark_last, mark_near, no_mark, read_behind}
use Rattle.drop_in.proofs.marks.Mark.search.Goals as goal

pub loop-init : goal.loop-init
loop-init g c = ([], begun, no_mark c.args.self, refl, refl, omega arith)

pub returns : goal.returns
returns g c = (c.loop.invariant.0, c.loop.invariant.1, omega (arith, c.loop.invariant.5, c.loop-test.false))

pub returns-in-Ok-eq0 : goal.returns-in-Ok-eq0
returns-in-Ok-eq0 g c =
    let bytes = c.loop.invariant.0 in
    let piece = take c.in-Ok-eq0.field-0 c.read.new.block in (
      bytes ++ piece,
      inl (ends_later g.S.Source.is_read c.loop.invariant.1
          (ends_once g.S.Source.is_read _ _ _ (ap (λ count. take count c.read.new.block) c.in-Ok-eq0.field-0-test) (c.in-Ok-eq0.ensures.handed (omega (arith, c.read.auto.block, c.loop.invariant.3))))),
      rw c.in-Ok-eq0.field-0-test (subst (λ all. ¬ HasMark c.args.self all) (sym (append-nil bytes)) c.loop.invariant.2),
    )

pub returns-in-Err : goal.returns-in-Err
returns-in-Err g c = (
  c.loop.invariant.0,
  inr (record { before = c.loop.source; served = c.loop.invariant.1; fails = c.in-Err.ensures.handed (omega (arith, c.read.auto.block, c.loop.invariant.3)) }),
  c.loop.invariant.2,
)

pub returns-then-is_in : goal.returns-then-is_in
returns-then-is_in g c =
    let bytes = c.loop.invariant.0 in
    let piece = take c.in-Ok.count c.read.new.block in
    let kept = c.loop.kept in
    let fits = is_within bytes c.loop.block kept c.loop.invariant.3 c.loop.invariant.4 in
    let block : take (kept + c.in-Ok.count) _ ≡ drop (length bytes - kept) bytes ++ piece =
    read_behind _ c.loop.block c.read.new.block kept c.in-Ok.count fits c.in-Ok.ensures.within
    (take-put_mid kept (65564 - kept) c.loop.block c.read.new.block (kept + length c.read.new.block) refl fits)
    ∙ ap (λ last. last ++ piece) c.loop.invariant.4 in
    let has = subst (HasMark c.args.self) block (c.is_in.ensures.0 c.if-is_in.true) in
    (bytes ++ piece, gave c.loop.invariant.1 _ _ (c.in-Ok.ensures.handed (omega (arith, c.read.auto.block, c.loop.invariant.3))), mark_last bytes piece kept c.loop.invariant.3 c.args.self has)

pub loop-preserved : goal.loop-preserved
loop-preserved g c =
    let bytes = c.loop.invariant.0 in
    let piece = take c.in-Ok.count c.read.new.block in
    let kept = c.loop.kept in
    let fits = is_within bytes c.loop.block kept c.loop.invariant.3 c.loop.invariant.4 in
    let long : length piece ≡ c.in-Ok.count = length-take-le c.in-Ok.count c.read.new.block c.in-Ok.ensures.within in
    let block : take (kept + c.in-Ok.count) _ ≡ drop (length bytes - kept) bytes ++ piece =
    read_behind _ c.loop.block c.read.new.block kept c.in-Ok.count fits c.in-Ok.ensures.within
    (take-put_mid kept (65564 - kept) c.loop.block c.read.new.block (kept + length c.read.new.block) refl fits)
    ∙ ap (λ last. last ++ piece) c.loop.invariant.4 in
    let none : ¬ HasMark c.args.self (bytes ++ piece) = λ has. elim (mark_near bytes piece kept c.loop.invariant.3 c.args.self has) [
      | inl old ↦ c.loop.invariant.2 old
      | inr new ↦ false≢true (sym c.if-is_in.false ∙ c.is_in.ensures.1 (subst (HasMark c.args.self) (sym block) new))
    ] in
    let count : c.keep_last-kept.result ≡ min (kept + length piece) overlap = rw long c.keep_last-kept.ensures.count in (
      bytes ++ piece,
      gave c.loop.invariant.1 _ _ (c.in-Ok.ensures.handed (omega (arith, c.read.auto.block, c.loop.invariant.3))),
      none,
      omega (arith, length-append bytes piece, count, c.loop.invariant.3),
      c.keep_last-kept.ensures.last
          ∙ last_on bytes piece kept c.loop.invariant.3 c.keep_last-kept.result c.in-Ok.count _ long (omega (arith, count)) block,
      omega (arith, length-append bytes piece, long, c.loop.invariant.5, c.in-Ok.count-test.1),
    )
