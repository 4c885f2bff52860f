use Rattle.bt_lines.proofs.Std.{◌≡◌, ◌++◌, List, ℕ, drop, flat_map}
use Rattle.bt_lines.specs.calls.Output.{Grown}
use Rattle.bt_bed.specs.model.Feature.{intervals_of}
use Rattle.bt_bed.specs.calls.Orders.{ArePlaced}
use Rattle.bt_hits.specs.inside.Meeting.{Sees}
use Rattle.bt_hits.specs.model.Bins.{intersect_by_bins}
use Rattle.bt_hits.proofs.listing.put_hits_by_bins.Given as goal

-- the lines of those so far were put, and those that are left see what is at hand
abbrev pub invariant-loop-index : goal.invariant-loop-index
invariant-loop-index g l = record {
  firsts : ArePlaced (g.O.ChromOrder.order l.order) (intervals_of (drop l.index l.first.items));
  seconds : ArePlaced (g.O.ChromOrder.order l.order) (intervals_of l.rest.items);
  sees : Sees l.listing.rule l.fn.second.items (l.active.items ++ l.rest.items) (drop l.index l.first.items);
  put : List ℕ;
  grown : Grown l.fn.out.output put l.out.output;
  all : put ++ intersect_by_bins l.listing.shape l.listing.rule (drop l.index l.first.items) l.fn.second.items
      ≡ intersect_by_bins l.listing.shape l.listing.rule l.first.items l.fn.second.items;
}
