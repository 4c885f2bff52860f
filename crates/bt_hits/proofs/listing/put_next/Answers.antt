use Rattle.bt_lines.proofs.Std.{◌≡◌, ◌++◌, List, flat_map, subst, take}
use Rattle.bt_lines.specs.calls.Output.{Adds}
use Rattle.bt_bed.specs.calls.Orders.{ArePlaced}
use Rattle.bt_bed.specs.model.Feature.{Feature, intervals_of}
use Rattle.bt_sweep.specs.model.Lines.{hit_line}
use Rattle.bt_sweep.proofs.lemmas.definitions.HitLemmas.{placed_back}
use Rattle.bt_hits.specs.inside.Writing.{hits_by_level}
use Rattle.bt_hits.specs.model.Bins.{all_levels}
use Rattle.bt_hits.proofs.lemmas.Listing.{lists_next}
use Rattle.bt_hits.proofs.lemmas.Meeting.{placed_known}
use Rattle.bt_hits.proofs.listing.put_next.Goals as goal

pub take_up_to-requires-clause-all : goal.take_up_to-requires-clause-all
take_up_to-requires-clause-all g c = placed_known (g.O.ChromOrder.order c.args.order.now) c.args.rest.now.items c.requires.rest

pub count_undecided-requires-clause-all : goal.count_undecided-requires-clause-all
count_undecided-requires-clause-all g c =
    let order = g.O.ChromOrder.order c.args.order.now in
    let up = c.in-Ok.ensures in
    let left = c.take_up_to.new.rest.items in
    placed_known order left (placed_back order up.moved left (subst (λ (l : List Feature). ArePlaced order (intervals_of l)) up.were c.requires.rest))

pub returns : goal.returns
returns g c = λ all later placed first sees.
    let rule = c.args.listing.rule in
    let f = hit_line c.args.listing.shape c.args.a.now in
    let left = c.take_up_to.new.rest.items in
    let ahead = c.count_undecided.result in
    let adds = subst (λ (l : List Feature). Adds c.args.out.now.output (flat_map f (hits_by_level rule c.args.a.now all_levels (l ++ take ahead left))) c.put_levels.result c.put_levels.new.out.output) c.as_slice.ensures.value c.put_levels.ensures in
    lists_next (g.O.ChromOrder.order c.args.order.now) (g.met.O.ChromOrder.total c.args.order.now) c.args.listing.shape c.requires.shape rule c.args.a.now all placed
    later c.args.active.now.items c.args.rest.now.items c.take_up_to.new.active.items left c.drop_passed.new.active.items ahead c.in-Ok.ensures c.drop_passed.ensures c.requires.rest first sees c.count_undecided.ensures.reached
    c.put_levels.result c.args.out.now.output c.put_levels.new.out.output adds
