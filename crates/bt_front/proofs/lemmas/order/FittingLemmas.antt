-- Whether chromosomes come in the order of a genome file, by their ranks.
use Rattle.bt_lines.proofs.Std.{arith, ◌≡◌, ℕ, suc, zero, ◌+◌, ◌<◌, ◌≤◌, Bool, true, false, ◌&&◌, List, [], ◌∷◌, Option, Some, None, add-one, bytes_eq, cond, drop, drop-cons, drop_of_length-le, get_or, length, length-drop, leb, le-ltb, lt-ltb, ltb, slice_get-map, ◌||◌, le-leb, lt-leb, nat_lt, option_map, slice_get, refl, sym, ap, ◌∙◌, ranked, is_some, find, map, list_all, list_any}
use Rattle.std.proofs.lemmas.Option.{get_or_from_slice_get, slice_get_within}
use Rattle.std.specs.Ordering.{is_lt, nat_cmp}
use Rattle.std.specs.declared.cmp.Ordering.{Ordering}
use Rattle.std.specs.declared.cmp.Ordering.TheVariants.{Less, Equal, Greater}
use Rattle.bt_bed.specs.model.Feature.{Interval}
use Rattle.bt_bed.specs.model.Genome.{Entry, genome_names}
use Rattle.bt_bed.specs.model.Order.{byte_order, compare_ranks, is_among, rank_of, rank_order}
use Rattle.bt_front.specs.calls.Chromosomes.{placed}
use Rattle.bt_front.specs.declared.survey.chromosomes.Extent.{Extent}
use Rattle.bt_front.specs.model.Fitting.{are_first, are_in_order, ends_fit, is_within}

-- whether a rank is high enough, and what follows it
abbrev pub after : ℕ → Option ℕ → (ℕ → Bool) → Bool
after least None rest = false
after least (Some rank) rest = leb least rank && rest (suc rank)

-- whether the ranks of names ascend, from this least one on
abbrev pub ascends : List (List ℕ) → ℕ → List (List ℕ) → Bool
ascends names least [] = true
ascends names least (n ∷ ns) = after least (rank_of names n) (λ now. ascends names now ns)

abbrev leads : ℕ → Option ℕ → Bool
leads least None = false
leads least (Some rank) = leb least rank

lt_by : (x y : ℕ) (o : Ordering) → o ≡ nat_cmp x y → is_lt o ≡ leb (suc x) y
lt_by x y Less e = let h = ranked x y Less e in sym (le-leb (suc x) y (omega (arith, h)))
lt_by x y Equal e = let h = ranked x y Equal e in sym (lt-leb (suc x) y (omega (arith, h)))
lt_by x y Greater e = let h = ranked x y Greater e in sym (lt-leb (suc x) y (omega (arith, h)))

pub less_ranks : (x y : ℕ) → is_lt (nat_cmp x y) ≡ leb (suc x) y
less_ranks x y = lt_by x y (nat_cmp x y) refl

one_leads : (least : ℕ) (o : Option ℕ) → after least o (λ now. true) ≡ (leads least o && is_some o)
one_leads least None = refl
one_leads least (Some rank) = refl

two_lead : (least : ℕ) (o p : Option ℕ) (rest : ℕ → Bool) (more : Bool) → ((now : ℕ) → rest now ≡ (leads now p && more))
    → after least o rest ≡ (leads least o && (is_some o && (is_lt (compare_ranks o p) && more)))
two_lead least None p rest more h = refl
two_lead least (Some x) None rest more h = rw (h (suc x)) refl
two_lead least (Some x) (Some y) rest more h = rw (h (suc x), less_ranks x y) refl

ascends_leads : (names : List (List ℕ)) (n : List ℕ) (ns : List (List ℕ)) (least : ℕ)
    → ascends names least (n ∷ ns) ≡ (leads least (rank_of names n) && are_in_order (rank_order names) (n ∷ ns))
ascends_leads names n [] least = one_leads least (rank_of names n)
ascends_leads names n (m ∷ ms) least =
    two_lead least (rank_of names n) (rank_of names m) (λ now. ascends names now (m ∷ ms))
    (are_in_order (rank_order names) (m ∷ ms)) (ascends_leads names m ms)

from_zero : (o : Option ℕ) (b : Bool) → (is_some o ≡ false → b ≡ false) → (leads 0 o && b) ≡ b
from_zero None b h = sym (h refl)
from_zero (Some rank) b h = rw (le-leb 0 rank (omega arith)) refl

unknown_first : (names : List (List ℕ)) (n : List ℕ) (ns : List (List ℕ)) → is_some (rank_of names n) ≡ false
    → are_in_order (rank_order names) (n ∷ ns) ≡ false
unknown_first names n [] e = e
unknown_first names n (m ∷ ms) e = rw e refl

-- names are in an order by ranks exactly if these ascend
pub ascends_zero : (names ns : List (List ℕ)) → ascends names 0 ns ≡ are_in_order (rank_order names) ns
ascends_zero names [] = refl
ascends_zero names (n ∷ ns) =
    ascends_leads names n ns 0
    ∙ from_zero (rank_of names n) (are_in_order (rank_order names) (n ∷ ns)) (unknown_first names n ns)

-- One name after another.

-- the names from a place on begin with the one there
pub at_drop : {A : Type 0} (xs : List A) (at : ℕ) (x : A) → slice_get xs at ≡ Some x → drop at xs ≡ x ∷ drop (at + 1) xs
at_drop xs at x is =
    let inside = slice_get_within xs at x is in
    drop-cons xs at x inside ∙ ap (λ y. y ∷ drop (suc at) xs) (get_or_from_slice_get xs at x x is)
    ∙ ap (λ n. x ∷ drop n xs) (sym (add-one at))

-- whether all from a place on pass a test
pub next_pass : {A : Type 0} (test : A → Bool) (xs : List A) (at : ℕ) (x : A) → slice_get xs at ≡ Some x → (b : Bool) → test x ≡ b
    → list_all test (drop at xs) ≡ (b && list_all test (drop (at + 1) xs))
next_pass test xs at x is b e = rw (at_drop xs at x is, e) refl

pub last_pass : {A : Type 0} (test : A → Bool) (xs : List A) (at : ℕ) → length xs ≤ at → list_all test (drop at xs) ≡ true
last_pass test xs at past = rw (drop_of_length-le xs past) refl

module _ (names chroms : List (List ℕ)) (at : ℕ) where
  pub all_ascend : (least : ℕ) → length chroms ≤ at → ascends names least (drop at chroms) ≡ true
  all_ascend least past = rw (drop_of_length-le chroms past) refl

  module _ (name : List ℕ) (is : slice_get chroms at ≡ Some name) (least : ℕ) where
    pub next_ascends : (rank : ℕ) → rank_of names name ≡ Some rank → least ≤ rank
        → ascends names least (drop at chroms) ≡ ascends names (rank + 1) (drop (at + 1) chroms)
    next_ascends rank found enough = rw (at_drop chroms at name is, found, le-leb least rank enough, add-one rank) refl

    pub unknown_ends : rank_of names name ≡ None → ascends names least (drop at chroms) ≡ false
    unknown_ends none = rw (at_drop chroms at name is, none) refl

    pub lower_ends : (rank : ℕ) → rank_of names name ≡ Some rank → rank < least → ascends names least (drop at chroms) ≡ false
    lower_ends rank found less = rw (at_drop chroms at name is, found, lt-leb least rank less) refl

-- a rank is below the number of names
rank_below : (b : Bool) (o : Option ℕ) (count rank : ℕ) → ((k : ℕ) → o ≡ Some k → k < count)
    → cond b (Some 0) (option_map (λ k. suc k) o) ≡ Some rank → rank < suc count
rank_below true o count rank below e = let first : 0 ≡ rank = cc in omega arith
rank_below false None count rank below e = absurd (cc)
rank_below false (Some k) count rank below e =
    let later : suc k ≡ rank = cc in let h = below k refl in omega arith

pub rank_within : (names : List (List ℕ)) (name : List ℕ) (rank : ℕ) → rank_of names name ≡ Some rank → rank < length names
rank_within [] name rank e = absurd (cc)
rank_within (n ∷ ns) name rank e = rank_below (bytes_eq n name) (rank_of ns name) (length ns) rank (rank_within ns name) e

-- Ends and lengths.

entry_there : (entry : Entry) (entries : List Entry) (name : List ℕ) (b : Bool) (o : Option ℕ) (rank : ℕ) → bytes_eq entry.name name ≡ b
    → ((k : ℕ) → o ≡ Some k → find (λ entry. bytes_eq entry.name name) entries ≡ slice_get entries k)
    → cond b (Some 0) (option_map (λ k. suc k) o) ≡ Some rank
    → cond b (Some entry) (find (λ entry. bytes_eq entry.name name) entries) ≡ slice_get (entry ∷ entries) rank
entry_there entry entries name true o rank e later is = let first : 0 ≡ rank = cc in rw (← first) refl
entry_there entry entries name false None rank e later is = absurd (cc)
entry_there entry entries name false (Some k) rank e later is = let next : suc k ≡ rank = cc in rw (← next) (later k refl)

-- the entry of a name is the one at its rank
pub entry_at_rank : (entries : List Entry) (name : List ℕ) (rank : ℕ) → rank_of (genome_names entries) name ≡ Some rank
    → find (λ entry. bytes_eq entry.name name) entries ≡ slice_get entries rank
entry_at_rank [] name rank e = absurd (cc)
entry_at_rank (entry ∷ entries) name rank e =
    entry_there entry entries name (bytes_eq entry.name name) (rank_of (genome_names entries) name) rank refl (entry_at_rank entries name) e

entry_not : (entry : Entry) (entries : List Entry) (name : List ℕ) (b : Bool) (o : Option ℕ)
    → (o ≡ None → find (λ entry. bytes_eq entry.name name) entries ≡ None)
    → cond b (Some 0) (option_map (λ k. suc k) o) ≡ None → cond b (Some entry) (find (λ entry. bytes_eq entry.name name) entries) ≡ None
entry_not entry entries name true o later e = absurd (cc)
entry_not entry entries name false None later e = later refl
entry_not entry entries name false (Some k) later e = absurd (cc)

pub entry_unknown : (entries : List Entry) (name : List ℕ) → rank_of (genome_names entries) name ≡ None
    → find (λ entry. bytes_eq entry.name name) entries ≡ None
entry_unknown [] name e = refl
entry_unknown (entry ∷ entries) name e =
    entry_not entry entries name (bytes_eq entry.name name) (rank_of (genome_names entries) name) (entry_unknown entries name) e

-- the extent at a place, of which name and end are known
abbrev IsThere : List ℕ → Extent → Option Interval → Type 0
IsThere name extent o = (r : Interval) × (o ≡ Some r) × (r.chrom ≡ name) × (r.stop ≡ extent.stop)

there_by : (name : List ℕ) (extent : Extent) (o : Option Interval) → option_map (λ r. r.chrom) o ≡ Some name
    → option_map placed o ≡ Some extent → IsThere name extent o
there_by name extent None is at = absurd (cc)
there_by name extent (Some r) is at =
    let chrom : r.chrom ≡ name = cc in
    let same : placed r ≡ extent = cc in
    (r, refl, chrom, ap (λ (e : Extent). e.stop) same)

extent_there : (extents : List Interval) (at : ℕ) (name : List ℕ) (extent : Extent) → slice_get (map (λ r. r.chrom) extents) at ≡ Some name
    → option_map placed (slice_get extents at) ≡ Some extent → IsThere name extent (slice_get extents at)
extent_there extents at name extent is at_it =
    there_by name extent (slice_get extents at) (sym (slice_get-map (λ r. r.chrom) extents at) ∙ is) at_it

length_there : (entries : List Entry) (rank length : ℕ) (o : Option Entry) → o ≡ slice_get entries rank
    → option_map (λ entry. entry.length) (slice_get entries rank) ≡ Some length → (stop : ℕ) → is_within stop o ≡ leb stop length
length_there entries rank length None same is stop = absurd (cc)
length_there entries rank length (Some entry) same is stop = let long : entry.length ≡ length = cc in rw long refl

module _ (entries : List Entry) (extents : List Interval) (at : ℕ) (name : List ℕ) (extent : Extent)
    (is : slice_get (map (λ r. r.chrom) extents) at ≡ Some name) where
  within_from : (there : IsThere name extent (slice_get extents at)) → (b : Bool)
      → is_within extent.stop (find (λ entry. bytes_eq entry.name name) entries) ≡ b
      → ends_fit entries (drop at extents) ≡ (b && ends_fit entries (drop (at + 1) extents))
  within_from there b within = rw (at_drop extents at there.0 there.1, there.2, there.3, within) refl

  module _ (placed_at : option_map placed (slice_get extents at) ≡ Some extent) (rank length : ℕ)
      (found : rank_of (genome_names entries) name ≡ Some rank)
      (long : option_map (λ entry. entry.length) (slice_get entries rank) ≡ Some length) where
    judged : is_within extent.stop (find (λ entry. bytes_eq entry.name name) entries) ≡ leb extent.stop length
    judged = length_there entries rank length (find (λ entry. bytes_eq entry.name name) entries) (entry_at_rank entries name rank found) long extent.stop

    pub next_fits : extent.stop ≤ length → ends_fit entries (drop at extents) ≡ ends_fit entries (drop (at + 1) extents)
    next_fits enough = within_from (extent_there extents at name extent is placed_at) true (judged ∙ le-leb extent.stop length enough)

    pub past_ends : length < extent.stop → ends_fit entries (drop at extents) ≡ false
    past_ends less = within_from (extent_there extents at name extent is placed_at) false (judged ∙ lt-leb extent.stop length less)

-- an extent whose chromosome is unknown doesn't fit
no_entry_by : (entries : List Entry) (extents : List Interval) (at : ℕ) (name : List ℕ) (o : Option Interval) → slice_get extents at ≡ o
    → option_map (λ r. r.chrom) o ≡ Some name → find (λ entry. bytes_eq entry.name name) entries ≡ None → ends_fit entries (drop at extents) ≡ false
no_entry_by entries extents at name None is named none = absurd (cc)
no_entry_by entries extents at name (Some r) is named none =
    let chrom : r.chrom ≡ name = cc in rw (at_drop extents at r is, chrom, none) refl

pub no_entry_ends : (entries : List Entry) (extents : List Interval) (at : ℕ) (name : List ℕ)
    → slice_get (map (λ r. r.chrom) extents) at ≡ Some name → rank_of (genome_names entries) name ≡ None → ends_fit entries (drop at extents) ≡ false
no_entry_ends entries extents at name is none =
    no_entry_by entries extents at name (slice_get extents at) refl (sym (slice_get-map (λ r. r.chrom) extents at) ∙ is)
    (entry_unknown entries name none)

pub all_fit : (entries : List Entry) (extents : List Interval) (at : ℕ) → length extents ≤ at → ends_fit entries (drop at extents) ≡ true
all_fit entries extents at past = rw (drop_of_length-le extents past) refl

-- The first names of a genome file.

module _ (names chroms : List (List ℕ)) (at : ℕ) where
  pub all_first : length chroms ≤ at → are_first (drop at names) (drop at chroms) ≡ true
  all_first past = rw (drop_of_length-le chroms past) refl

  module _ (name : List ℕ) (is : slice_get chroms at ≡ Some name) where
    pub none_left : length names ≤ at → are_first (drop at names) (drop at chroms) ≡ false
    none_left past = rw (drop_of_length-le names past, at_drop chroms at name is) refl

    pub next_first : (other : List ℕ) → slice_get names at ≡ Some other → (b : Bool) → bytes_eq other name ≡ b
        → are_first (drop at names) (drop at chroms) ≡ (b && are_first (drop (at + 1) names) (drop (at + 1) chroms))
    next_first other there b same = rw (at_drop names at other there, at_drop chroms at name is, same) refl

-- Lengths of a genome file.

any_by : (entries : List Entry) (rank : ℕ) (limit length : ℕ) (o : Option Entry) → slice_get entries rank ≡ o
    → option_map (λ entry. entry.length) o ≡ Some length
    → list_any (λ entry. ltb limit entry.length) (drop rank entries) ≡ (ltb limit length || list_any (λ entry. ltb limit entry.length) (drop (rank + 1) entries))
any_by entries rank limit length None is long = absurd (cc)
any_by entries rank limit length (Some entry) is long = let same : entry.length ≡ length = cc in rw (at_drop entries rank entry is, same) refl

module _ (entries : List Entry) (rank limit : ℕ) where
  pub none_longer : length entries ≤ rank → list_any (λ entry. ltb limit entry.length) (drop rank entries) ≡ false
  none_longer past = rw (drop_of_length-le entries past) refl

  module _ (size : ℕ) (is : option_map (λ entry. entry.length) (slice_get entries rank) ≡ Some size) where
    pub one_longer : limit < size → list_any (λ entry. ltb limit entry.length) (drop rank entries) ≡ true
    one_longer less = any_by entries rank limit size (slice_get entries rank) refl is ∙ ap (λ b. b || list_any (λ entry. ltb limit entry.length) (drop (rank + 1) entries)) (lt-ltb limit size less)

    pub next_longer : size ≤ limit → list_any (λ entry. ltb limit entry.length) (drop rank entries) ≡ list_any (λ entry. ltb limit entry.length) (drop (rank + 1) entries)
    next_longer enough = any_by entries rank limit size (slice_get entries rank) refl is ∙ ap (λ b. b || list_any (λ entry. ltb limit entry.length) (drop (rank + 1) entries)) (le-ltb limit size enough)

-- Names of a genome file.

module _ (names : List (List ℕ)) (rank limit : ℕ) where
  pub none_longer_name : length names ≤ rank → list_any (λ name. ltb limit (length name)) (drop rank names) ≡ false
  none_longer_name past = rw (drop_of_length-le names past) refl

  module _ (name : List ℕ) (is : slice_get names rank ≡ Some name) where
    pub one_longer_name : limit < length name → list_any (λ name. ltb limit (length name)) (drop rank names) ≡ true
    one_longer_name less = rw (at_drop names rank name is, lt-ltb limit (length name) less) refl

    pub next_longer_name : length name ≤ limit → list_any (λ name. ltb limit (length name)) (drop rank names) ≡ list_any (λ name. ltb limit (length name)) (drop (rank + 1) names)
    next_longer_name enough = rw (at_drop names rank name is, le-ltb limit (length name) enough) refl
