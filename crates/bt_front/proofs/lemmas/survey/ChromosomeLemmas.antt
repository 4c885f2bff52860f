-- Lemmas on the table of chromosomes that a survey holds.
use Rattle.bt_lines.proofs.Std.{arith, common_steps, ◌≡◌, ℕ, ◌+◌, ◌-◌, ◌<◌, ◌≤◌, ◌++◌, ◌&&◌, ◌||◌, Bool, cases_lt, cond, inl, inr, is_some, subst, sym, true, is_lt, nat_cmp, slice_cmp, List, [], ◌∷◌, Option, Some, None, Vec, bytes_eq, false, keys_of, length, map, map-append, max, option_map, or_parts, position, position_from, position_from-zero, refl, ap, slice_get, slice_get-map, suc, zero}
use Rattle.std.specs.declared.alloc.Global.{Global}
use Rattle.indexmap.specs.IndexMap.{insert_entry}
use Rattle.indexmap.specs.Layout.{set_value_at}
use Rattle.bt_bed.specs.model.Feature.{Interval}
use Rattle.bt_bed.specs.model.Order.{is_among, rank_of}
use Rattle.bt_bed.proofs.lemmas.parse.NameLemmas.{name_eq-sym}
use Rattle.bt_front.specs.model.Extents.{extent_seen, ascend_by_bytes}
use Rattle.bt_front.specs.calls.Chromosomes.{is_last_name, placed, widened}
use Rattle.bt_front.specs.declared.survey.chromosomes.Extent.{Extent}

abbrev Table : Type 0
Table = List (Vec ℕ Global × Extent)

-- the names of the table, in its order
abbrev pub table_names : Table → List (List ℕ)
table_names table = map (λ extent. extent.chrom) (map extent_seen table)

-- a rank is counted from n
plus : ℕ → Option ℕ → Option ℕ
plus n o = option_map (λ k. n + k) o

plus_none : (o : Option ℕ) → plus 0 o ≡ o
unfolding plus
plus_none o = grind arith

-- the position of a name among the keys, counted from n, is its rank counted from n
placed_from : (table : Table) (name : List ℕ) (n : ℕ)
    → position_from (λ key. bytes_eq name key.items) n (keys_of table) ≡ plus n (rank_of (table_names table) name)
unfolding plus
placed_from [] name n = refl
placed_from (entry ∷ more) name n = grind (arith, (placed_from more name (n + 1)), name_eq-sym)

-- the index of a name among the keys is its rank
pub placed_by_rank : (table : Table) (name : List ℕ)
    → position (λ key. bytes_eq name key.items) (keys_of table) ≡ rank_of (table_names table) name
placed_by_rank table name = grind (arith, position_from-zero, placed_from, plus_none)

inserted_last : (table : Table) (name : Vec ℕ Global) (extent : Extent) → is_among (table_names table) name.items ≡ false
    → insert_entry (λ a b. bytes_eq a.items b.items) table name extent ≡ table ++ (name, extent) ∷ []
inserted_last [] name extent e = refl
inserted_last (entry ∷ more) name extent e =
    let parts = or_parts (bytes_eq entry.0.items name.items) (is_among (table_names more) name.items) e in
    rw (name_eq-sym name.items entry.0.items, parts.0, inserted_last more name extent parts.1) refl

-- a name that isn't in the table goes last
pub extents_push : (table : Table) (name : Vec ℕ Global) (extent : Extent) (text : List ℕ) → name.items ≡ text → is_among (table_names table) text ≡ false
    → map extent_seen (insert_entry (λ a b. bytes_eq a.items b.items) table name extent) ≡ map extent_seen table ++ record { chrom = text; start = extent.start; stop = extent.stop } ∷ []
extents_push table name extent text is new = grind (arith, inserted_last, map-append)

-- the name at a place is that of the chromosome there
pub chrom_at : (table : Table) (at : ℕ) → slice_get (table_names table) at ≡ option_map (λ entry. entry.0.items) (slice_get table at)
chrom_at table at = grind (arith, slice_get-map)

-- and so is its extent
pub extent_at : (table : Table) (at : ℕ) → option_map placed (slice_get (map extent_seen table) at) ≡ slice_get (map (λ entry. entry.1) table) at
extent_at [] at = refl
extent_at (entry ∷ more) zero = refl
extent_at (entry ∷ more) (suc at) = extent_at more at

-- the last extent is widened by a write at its place
pub widened_at : (table : Table) (at : ℕ) (extent : Extent) (stop : ℕ) → suc at ≡ length table → slice_get (map (λ entry. entry.1) table) at ≡ Some extent
    → map extent_seen (set_value_at table at (record { start = extent.start; stop = max extent.stop stop })) ≡ widened stop (map extent_seen table)
widened_at [] at extent stop last is = absurd (omega arith)
widened_at (entry ∷ []) zero extent stop last is =
    let same : entry.1 ≡ extent = cc in rw same refl
widened_at (entry ∷ []) (suc at) extent stop last is = absurd (omega arith)
widened_at (entry ∷ next ∷ more) zero extent stop last is = absurd (omega arith)
widened_at (entry ∷ next ∷ more) (suc at) extent stop last is =
    ap (λ (rest : List Interval). extent_seen entry ∷ rest) (widened_at (next ∷ more) at extent stop (omega arith) is)

-- the name at the last place is the last name
pub last_at : (names : List (List ℕ)) (at : ℕ) (name text : List ℕ) → suc at ≡ length names → slice_get names at ≡ Some name
    → bytes_eq name text ≡ is_last_name names text
last_at [] at name text last is = absurd (omega arith)
last_at (n ∷ []) zero name text last is = let same : n ≡ name = cc in rw same refl
last_at (n ∷ []) (suc at) name text last is = absurd (omega arith)
last_at (n ∷ m ∷ ns) zero name text last is = absurd (omega arith)
last_at (n ∷ m ∷ ns) (suc at) name text last is = last_at (m ∷ ns) at name text (omega arith) is

-- each of the first names comes before the next one by their bytes
pub record AscendUpTo (names : List (List ℕ)) (at : ℕ) : Type 0 where
  pub each : (k : ℕ) (one other : List ℕ) → suc k < at → slice_get names k ≡ Some one → slice_get names (suc k) ≡ Some other
      → is_lt (slice_cmp nat_cmp one other) ≡ true

-- so do all
pub all_ascend : (names : List (List ℕ)) → AscendUpTo names (length names) → ascend_by_bytes names ≡ true
all_ascend [] up = refl
all_ascend (n ∷ []) up = refl
all_ascend (n ∷ m ∷ ns) up =
    rw (up.each 0 n m (omega arith) refl refl, all_ascend (m ∷ ns) (record { each = λ k one other low here next. up.each (suc k) one other (omega arith) here next })) refl

-- one that doesn't
falls_at : (names : List (List ℕ)) (k : ℕ) (one other : List ℕ) → slice_get names k ≡ Some one → slice_get names (suc k) ≡ Some other
    → is_lt (slice_cmp nat_cmp one other) ≡ false → ascend_by_bytes names ≡ false
falls_at [] zero one other here next falls = cc
falls_at [] (suc k) one other here next falls = cc
falls_at (n ∷ []) zero one other here next falls = cc
falls_at (n ∷ []) (suc k) one other here next falls = cc
falls_at (n ∷ m ∷ ns) zero one other here next falls =
    let first : n ≡ one = cc in let second : m ≡ other = cc in rw (first, second, falls) refl
falls_at (n ∷ m ∷ ns) (suc k) one other here next falls = rw (falls_at (m ∷ ns) k one other here next falls) (and_none _)
  where
    and_none : (b : Bool) → (b && false) ≡ false
    and_none true = refl
    and_none false = refl

pub one_falls : (names : List (List ℕ)) (k at : ℕ) (one other : List ℕ) → suc k ≡ at → slice_get names k ≡ Some one → slice_get names at ≡ Some other
    → is_lt (slice_cmp nat_cmp one other) ≡ false → ascend_by_bytes names ≡ false
one_falls names k at one other is here next falls =
    falls_at names k one other here (subst (λ (n : ℕ). slice_get names n ≡ Some other) (sym is) next) falls

-- one more that does
pub ascend_more : (names : List (List ℕ)) (at k : ℕ) (one other : List ℕ) → AscendUpTo names at → suc k ≡ at → slice_get names k ≡ Some one → slice_get names at ≡ Some other
    → is_lt (slice_cmp nat_cmp one other) ≡ true → AscendUpTo names (at + 1)
ascend_more names at k one other up is here next rises = record { each = each }
  where
    each : (j : ℕ) (first second : List ℕ) → suc j < at + 1 → slice_get names j ≡ Some first → slice_get names (suc j) ≡ Some second
        → is_lt (slice_cmp nat_cmp first second) ≡ true
    each j first second low this then = elim (cases_lt (suc j) at) [
      | inl below ↦ up.each j first second below this then
      | inr not_below ↦ (let same : j ≡ k = omega (arith, not_below) in
          let here_too : slice_get names j ≡ Some one = rw same here in
          let next_at : suc j ≡ at = omega arith in
          let next_too : slice_get names (suc j) ≡ Some other = rw next_at next in
          let one_is : first ≡ one = cc in let other_is : second ≡ other = cc in
          rw (one_is, other_is) rises)
    ]

-- a name that has a rank is among the names
pub ranked_among : (names : List (List ℕ)) (name : List ℕ) → is_some (rank_of names name) ≡ is_among names name
ranked_among [] name = refl
ranked_among (n ∷ ns) name = ranked (bytes_eq n name) (rank_of ns name) (is_among ns name) (ranked_among ns name)
  where
    ranked : (first : Bool) (rest : Option ℕ) (among : Bool) → is_some rest ≡ among → is_some (cond first (Some 0) (option_map (λ (rank : ℕ). suc rank) rest)) ≡ (first || among)
    ranked true rest among e = refl
    ranked false None among e = e
    ranked false (Some rank) among e = e
