use Rattle.bt_lines.proofs.Std.{◌≡◌, ℕ, ◌<◌, btree_map_len, get, nat_cmp}
use Rattle.bt_sweep.proofs.active.held_index.remove_ends.Given as goal

-- the ends after the place stay
abbrev pub invariant-loop-ends : goal.invariant-loop-ends
invariant-loop-ends l = (end : ℕ) → l.place < end → get nat_cmp l.ends end ≡ get nat_cmp l.fn.ends end

abbrev pub decreases-loop-ends : goal.decreases-loop-ends
decreases-loop-ends l = btree_map_len l.ends
