-- The bases of the line given last, and the records that reach into them.
use Rattle.std.specs.Prelude.{ℕ, ◌+◌, List, [], filter, min, nat_lt}
use Rattle.bt_bed.specs.model.Feature.{Feature}

-- how far bases are counted: above every number of a BED file
abbrev pub limit : ℕ
limit = 1000000000000

-- how many bases of the sequence come before the line and up to its end, as far as they are
-- counted, and the records that are held
pub record Bounds : Type 0 where
  pub before : ℕ
  pub bases : ℕ
  pub held : List Feature

-- before the first base
abbrev pub no_bases : Bounds
no_bases = record { before = 0; bases = 0; held = [] }

-- with the next line, which has `count` bases
abbrev pub gone_on : Bounds → ℕ → Bounds
gone_on w count = record {
  before = w.bases;
  bases = min (w.bases + count) limit;
  held = filter (λ r. nat_lt w.bases r.stop) w.held;
}
