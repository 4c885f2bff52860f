use Rattle.bt_lines.proofs.Std.{◌≡◌, ◌-◌, ◌<◌, ℕ, false}
use Rattle.bt_hits.specs.model.Bins.{bin_at, is_within_one}
use Rattle.bt_hits.proofs.bins.level_of.Given as goal

-- the bins of both ends, which differ on all levels before
abbrev pub invariant-loop-level : goal.invariant-loop-level
invariant-loop-level l = record {
  first_bin : l.first ≡ bin_at l.level l.rec.start;
  last_bin : l.last ≡ bin_at l.level (l.rec.stop - 1);
  differ : (k : ℕ) → k < l.level → is_within_one l.rec k ≡ false;
}
