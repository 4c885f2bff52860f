use Rattle.bt_lines.proofs.Std.{◌≡◌, ℕ, ◌+◌, List, [], ◌∷◌, ◌++◌, ◌∙◌, append-nil, ap, arith, drop, drop_all, err_from_is_err_and, flat_map, refl, subst, sym}
use Rattle.bt_lines.specs.calls.Output.{Grown}
use Rattle.bt_lines.proofs.lemmas.Writer.{grown_more, grown_none}
use Rattle.bt_bed.specs.calls.Orders.{ArePlaced}
use Rattle.bt_bed.specs.model.Feature.{Feature, intervals_of}
use Rattle.bt_hits.specs.inside.Meeting.{Sees}
use Rattle.bt_hits.specs.model.Bins.{lines_by_bins}
use Rattle.bt_hits.proofs.lemmas.Listing.{drop_get, got_one, more_put, next_cut, sees_all}
use Rattle.bt_hits.proofs.listing.put_hits_by_bins.Goals as goal

pub loop-index-init : goal.loop-index-init
loop-index-init g c =
    let all = c.args.second.items in
    record {
      firsts = c.requires.first;
      seconds = c.requires.second;
      sees = subst (λ (l : List Feature). Sees c.args.listing.rule all (l ++ all) c.args.first.now.items) (sym c.new-active.ensures.items) (sees_all c.args.listing.rule all c.args.first.now.items);
      put = [];
      grown = grown_none c.args.out.now.output;
      all = refl;
    }

pub put_next-requires-clause-known : goal.put_next-requires-clause-known
put_next-requires-clause-known g c =
    let is = drop_get c.args.first.now.items c.loop-index.index c.in-Some.a.now (sym c.in-Some.ensures) in
    let placed = subst (λ (l : List Feature). ArePlaced (g.O.ChromOrder.order c.args.order.now) (intervals_of l)) is c.loop-index.invariant.firsts in
    placed.0

pub returns-in_err-put_next : goal.returns-in_err-put_next
returns-in_err-put_next g c =
    let p = err_from_is_err_and c.from_residual.result c.from_residual.ensures.1 in
    let all = c.args.second.items in
    let a = c.in-Some.a.now in
    let later = drop (c.loop-index.index + 1) c.args.first.now.items in
    let f = lines_by_bins c.args.listing.shape c.args.listing.rule all in
    let whole = flat_map f c.args.first.now.items in
    let kept = c.loop-index.invariant in
    let is = drop_get c.args.first.now.items c.loop-index.index a (sym c.in-Some.ensures) in
    let placed = subst (λ (l : List Feature). ArePlaced (g.O.ChromOrder.order c.args.order.now) (intervals_of l)) is kept.firsts in
    let sees = subst (λ (l : List Feature). Sees c.args.listing.rule all (c.loop-index.active.items ++ c.loop-index.rest.items) l) is kept.sees in
    let are = subst (λ (l : List Feature). kept.put ++ flat_map f l ≡ whole) is kept.all in
    rw (p.1, p.2) (next_cut f a later kept.put whole are c.args.out.now.output c.loop-index.out.output c.put_next.new.out.output c.in_err-put_next.field-0.0 kept.grown
    (c.in_err-put_next.ensures all later c.requires.second placed sees))

pub loop-index-preserved : goal.loop-index-preserved
loop-index-preserved g c =
    let all = c.args.second.items in
    let a = c.in-Some.a.now in
    let later = drop (c.loop-index.index + 1) c.args.first.now.items in
    let f = lines_by_bins c.args.listing.shape c.args.listing.rule all in
    let whole = flat_map f c.args.first.now.items in
    let kept = c.loop-index.invariant in
    let is = drop_get c.args.first.now.items c.loop-index.index a (sym c.in-Some.ensures) in
    let placed = subst (λ (l : List Feature). ArePlaced (g.O.ChromOrder.order c.args.order.now) (intervals_of l)) is kept.firsts in
    let sees = subst (λ (l : List Feature). Sees c.args.listing.rule all (c.loop-index.active.items ++ c.loop-index.rest.items) l) is kept.sees in
    let are = subst (λ (l : List Feature). kept.put ++ flat_map f l ≡ whole) is kept.all in
    let listed = c.in_ok-put_next.ensures all later c.requires.second placed sees in
    record {
      firsts = placed.2;
      seconds = listed.placed;
      sees = listed.sees;
      put = kept.put ++ f a;
      grown = grown_more c.args.out.now.output c.loop-index.out.output c.put_next.new.out.output kept.put (f a) kept.grown listed.puts;
      all = more_put f a later kept.put whole are;
    }

pub returns : goal.returns
returns g c =
    let f = lines_by_bins c.args.listing.shape c.args.listing.rule c.args.second.items in
    let kept = c.loop-index.invariant in
    let none : drop c.loop-index.index c.args.first.now.items ≡ [] = drop_all c.loop-index.index c.args.first.now.items (omega arith) in
    let all : kept.put ≡ flat_map f c.args.first.now.items = sym (append-nil kept.put) ∙ ap (λ (l : List Feature). kept.put ++ flat_map f l) (sym none) ∙ kept.all in
    subst (λ (l : List ℕ). Grown c.args.out.now.output l c.loop-index.out.output) all kept.grown
