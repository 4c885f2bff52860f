-- Lemmas on what is written of a record.
use Rattle.bt_lines.proofs.Std.{common_steps, ◌≡◌, ℕ, ◌+◌, ◌<◌, ◌≤◌, Bool, true, false, ◌||◌, List, [], ◌∷◌, zero, suc, add-one, arith, drop, length, nat_le, leb-true, option_to_list, take, AllByRecursion, list_any, slice_get, leb-false, or_parts, All-from_recursion, cond, ◌++◌, Err, refl, sym, ap, ◌∙◌, subst, append_assoc, filter, flat_map, length-append, or_left, or_right, or_from, take-append-drop, filter-append, list_any-append, ◌-◌, not, ltb, min, max, All, length-take-le, All-take, recursion_from_All, Result, ◌⊎◌, inl, inr, decimal}
use Rattle.bt_bed.specs.model.Feature.{Feature, is_same_strand}
use Rattle.bt_bed.specs.model.BedLine.{bed_text}
use Rattle.bt_sweep.specs.calls.Held.{AreRising, AreRisingFrom, StartBefore, StartFrom, AreOn, CanHit}
use Rattle.bt_lines.specs.calls.Names.{fault_value}
use Rattle.bt_lines.specs.calls.Output.{Output, Adds, FailsToAdd, Grown, Puts}
use Rattle.bt_lines.specs.declared.fault.Fault.{Fault}
use Rattle.bt_lines.proofs.lemmas.Writer.{adds_more, cut_off, fails_then, grown_more, adds_some}
use Rattle.bt_bed.proofs.lemmas.parse.NameLemmas.{name_eq}
use Rattle.bt_sweep.specs.model.Hits.{is_hit, hits_among, shared_bases, strands_agree}
use Rattle.bt_sweep.specs.declared.hits.hit_rule.HitRule.{HitRule}
use Rattle.bt_sweep.proofs.lemmas.definitions.HitLemmas.{enough_of_nothing}
use Rattle.bt_sweep.specs.model.Lines.{piece_line, pieces, hit_line, line_with, lines_for, lines_of}
use Rattle.bt_sweep.specs.inside.Pieces.{free_after, gap_lines, lines_before}
use Rattle.bt_sweep.proofs.lemmas.definitions.PieceLemmas.{walked}
use Rattle.bt_sweep.specs.inside.Shapes.{shape_with}
use Rattle.bt_sweep.specs.declared.output.shape.HitShape.{HitShape}
use Rattle.bt_sweep.specs.declared.output.shape.HitShape.TheVariants.{Cut as EachCut, OrigA as EachOrigA, CutAndB as EachCutAndB, OrigBoth as EachOrigBoth, Overlap as EachOverlap}
use Rattle.bt_sweep.specs.declared.output.shape.Shape.{Shape}
use Rattle.bt_sweep.specs.declared.output.shape.Shape.TheVariants.{Once, Missing, Count, Pieces, Whole}

-- Lemmas on records that come by their starts, and where those begin that start at a place or after it.

pub only_one : (c : Bool) → (c || false) ≡ true → c ≡ true
only_one c e = grind arith

took_from : (low : ℕ) (bs : List Feature) (n : ℕ) → AreRisingFrom low bs → AreRisingFrom low (take n bs)
took_from low bs zero rises = tt
took_from low [] (suc n) rises = tt
took_from low (b ∷ bs) (suc n) rises = (rises.0, took_from b.start bs n rises.1)

-- the first of them come by their starts too
pub rising_took : (bs : List Feature) (n : ℕ) → AreRising bs → AreRising (take n bs)
rising_took bs n rises = took_from 0 bs n rises

module _ (place : ℕ) where
  abbrev Starts : Feature → Type 0
  Starts b = place ≤ b.start

  -- they all start where the first does or after that
  all_start : (low : ℕ) (bs : List Feature) → place ≤ low → AreRisingFrom low bs → AllByRecursion Starts bs
  all_start low [] h rises = tt
  all_start low (b ∷ bs) h rises = (omega (arith, rises.0), all_start b.start bs (omega (arith, rises.0)) rises.1)

  only : (n : ℕ) → (nat_le place n || false) ≡ true → place ≤ n
  only n e = leb-true place n (only_one (nat_le place n) e)

  start_rec : (low : ℕ) (bs : List Feature) (i : ℕ) → list_any (λ r. nat_le place r.start) (option_to_list (slice_get bs i)) ≡ true → AreRisingFrom low bs → AllByRecursion Starts (drop i bs)
  start_rec low [] zero e rises = tt
  start_rec low [] (suc i) e rises = tt
  start_rec low (b ∷ bs) zero e rises = (only b.start e, all_start b.start bs (only b.start e) rises.1)
  start_rec low (b ∷ bs) (suc i) e rises = start_rec b.start bs i e rises.1

  -- those from this one on start there or after it
  pub start_behind : (bs : List Feature) (i : ℕ) → list_any (λ r. nat_le place r.start) (option_to_list (slice_get bs i)) ≡ true → AreRising bs → StartFrom place (drop i bs)
  start_behind bs i e rises = All-from_recursion Starts (drop i bs) (start_rec 0 bs i e rises)

  abbrev StartsBefore : Feature → Type 0
  StartsBefore b = b.start < place

  before_rec : (low : ℕ) (bs : List Feature) (i : ℕ) → i < length bs → list_any (λ r. nat_le place r.start) (option_to_list (slice_get bs i)) ≡ false → AreRisingFrom low bs → AllByRecursion StartsBefore (take (suc i) bs)
  before_rec low [] i h e rises = absurd (omega (arith, h))
  before_rec low (b ∷ bs) zero h e rises = ((leb-false place b.start (or_parts (nat_le place b.start) false e).0), tt)
  before_rec low (b ∷ []) (suc i) h e rises = absurd (omega (arith, h))
  before_rec low (b ∷ next ∷ bs) (suc i) h e rises = grind (arith, (before_rec b.start (next ∷ bs) i (omega (arith, h)) e rises.1))

  -- if this one starts before it, it and those before it do
  pub start_ahead : (bs : List Feature) (i : ℕ) → i < length bs → list_any (λ r. nat_le place r.start) (option_to_list (slice_get bs i)) ≡ false → AreRising bs → StartBefore place (take (i + 1) bs)
  start_ahead bs i h e rises = rw add-one (All-from_recursion StartsBefore (take (suc i) bs) (before_rec 0 bs i h e rises))

-- Lemmas on a walk through what is held.

module _ {X : Type 0} where
  take_suc : (xs : List X) (i : ℕ) → take (suc i) xs ≡ take i xs ++ option_to_list (slice_get xs i)
  take_suc [] zero = refl
  take_suc [] (suc i) = refl
  take_suc (x ∷ xs) zero = refl
  take_suc (x ∷ xs) (suc i) = ap (λ l. x ∷ l) (take_suc xs i)

  pub take_next : (xs : List X) (i : ℕ) → take (i + 1) xs ≡ take i xs ++ option_to_list (slice_get xs i)
  take_next xs i = rw add-one (take_suc xs i)

  pub take_whole : (xs : List X) (i : ℕ) → length xs ≤ i → take i xs ≡ xs
  take_whole [] zero h = refl
  take_whole [] (suc i) h = refl
  take_whole (x ∷ xs) zero h = absurd (omega arith)
  take_whole (x ∷ xs) (suc i) h = ap (λ l. x ∷ l) (take_whole xs i (omega arith))

  -- the first n stay where they were
  pub get_took : (xs : List X) (n i : ℕ) → i < n → slice_get (take n xs) i ≡ slice_get xs i
  get_took xs zero i h = absurd (omega arith)
  get_took [] (suc n) i h = refl
  get_took (x ∷ xs) (suc n) zero h = refl
  get_took (x ∷ xs) (suc n) (suc i) h = get_took xs n i (omega arith)

  pub took_few : (xs : List X) (n : ℕ) → length (take n xs) ≤ n
  took_few xs zero = omega arith
  took_few [] (suc n) = omega arith
  took_few (x ∷ xs) (suc n) = omega (arith, took_few xs n)

  module _ (p : X → Bool) where
    -- one that passes is one of all
    pub any_at : (xs : List X) (i : ℕ) → list_any p (option_to_list (slice_get xs i)) ≡ true → list_any p xs ≡ true
    any_at [] zero e = e
    any_at [] (suc i) e = e
    any_at (x ∷ xs) zero e = or_left (p x) (list_any p xs) (only_one (p x) e)
    any_at (x ∷ xs) (suc i) e = or_right (p x) (list_any p xs) (any_at xs i e)

    -- none passes so far
    pub none_next : (xs : List X) (i : ℕ) → list_any p (take i xs) ≡ false → list_any p (option_to_list (slice_get xs i)) ≡ false → list_any p (take (i + 1) xs) ≡ false
    none_next xs i e f = ap (list_any p) (take_next xs i) ∙ list_any-append p (take i xs) (option_to_list (slice_get xs i)) ∙ or_from (list_any p (take i xs)) (list_any p (option_to_list (slice_get xs i))) e f

    -- how many pass so far
    pub count_next : (xs : List X) (i n : ℕ) (b : Bool) → n ≡ length (filter p (take i xs)) → list_any p (option_to_list (slice_get xs i)) ≡ b → n + cond b 1 0 ≡ length (filter p (take (i + 1) xs))
    count_next xs i n b e f = grind (arith, take_next, filter-append, length-append)

module _ (f : Feature → List ℕ) (p : Feature → Bool) (xs : List Feature) where
  found_append : (ys zs : List Feature) → flat_map f (filter p (ys ++ zs)) ≡ flat_map f (filter p ys) ++ flat_map f (filter p zs)
  found_append ys zs = ap (flat_map f) (filter-append p ys zs) ∙ (grind (arith, common_steps))

  module _ (i : ℕ) where
    found_next : flat_map f (filter p (take (i + 1) xs)) ≡ flat_map f (filter p (take i xs)) ++ flat_map f (filter p (option_to_list (slice_get xs i)))
    found_next = ap (λ l. flat_map f (filter p l)) (take_next xs i) ∙ found_append (take i xs) (option_to_list (slice_get xs i))

    -- the lines of one more
    pub lines_next : (old mid new : Output) → Grown old (flat_map f (filter p (take i xs))) mid → Grown mid (flat_map f (filter p (option_to_list (slice_get xs i)))) new → Grown old (flat_map f (filter p (take (i + 1) xs))) new
    lines_next old mid new so_far here =
        rw found_next (grown_more old mid new (flat_map f (filter p (take i xs))) (flat_map f (filter p (option_to_list (slice_get xs i)))) so_far here)

    found_all : flat_map f (filter p (take (i + 1) xs)) ++ flat_map f (filter p (drop (i + 1) xs)) ≡ flat_map f (filter p xs)
    found_all = sym (found_append (take (i + 1) xs) (drop (i + 1) xs)) ∙ ap (λ l. flat_map f (filter p l)) (take-append-drop (i + 1) xs)

    -- the line of one couldn't be written
    pub lines_cut : (A : Type 0) (old mid new : Output) (fault : Fault) → Grown old (flat_map f (filter p (take i xs))) mid → Adds {A = A} mid (flat_map f (filter p (option_to_list (slice_get xs i)))) (Err fault) new → FailsToAdd old (flat_map f (filter p xs)) (fault_value fault) new
    lines_cut A old mid new fault so_far here =
        let cut = fails_then old mid new (flat_map f (filter p (take i xs))) (flat_map f (filter p (option_to_list (slice_get xs i)))) (fault_value fault) so_far here in
        let next : FailsToAdd old (flat_map f (filter p (take (i + 1) xs))) (fault_value fault) new = subst (λ (l : List ℕ). FailsToAdd old l (fault_value fault) new) (sym found_next) cut in
        rw (← found_all) (cut_off old new (flat_map f (filter p (take (i + 1) xs))) (flat_map f (filter p (drop (i + 1) xs))) (fault_value fault) next)

-- Lemmas on held records that can hit one.

module _ (a : Feature) where
  on_rec : (bs : List Feature) → AllByRecursion (CanHit a) bs → AllByRecursion (λ b. b.chrom ≡ a.chrom) bs
  on_rec [] all = tt
  on_rec (b ∷ bs) all = (all.0.0, on_rec bs all.1)

  -- they lie on its chromosome
  pub on_name : (bs : List Feature) → All (CanHit a) bs → AreOn a.chrom bs
  on_name bs all = All-from_recursion (λ (b : Feature). b.chrom ≡ a.chrom) bs (on_rec bs (recursion_from_All (CanHit a) bs all))

module _ (last a : Feature) (same : last.chrom ≡ a.chrom) where
  abbrev stays : Feature → Bool
  stays b = ltb a.start b.stop

  kept_at : (b : Feature) (bs : List Feature) (c : Bool) → stays b ≡ c → CanHit last b → AllByRecursion (CanHit a) (filter stays bs) → AllByRecursion (CanHit a) (cond c (b ∷ filter stays bs) (filter stays bs))
  kept_at b bs c e one rest = grind arith

  kept_rec : (bs : List Feature) → AllByRecursion (CanHit last) bs → AllByRecursion (CanHit a) (filter stays bs)
  kept_rec [] all = tt
  kept_rec (b ∷ bs) all = kept_at b bs (stays b) refl all.0 (kept_rec bs all.1)

-- those that end after the start of the next record can hit it
pub open_kept : (last a : Feature) (bs : List Feature) → last.chrom ≡ a.chrom → All (CanHit last) bs → All (CanHit a) (filter (λ b. ltb a.start b.stop) bs)
open_kept last a bs same all = All-from_recursion (CanHit a) (filter (λ b. ltb a.start b.stop) bs) (kept_rec last a same bs (recursion_from_All (CanHit last) bs all))

module _ (rule : HitRule) (a : Feature) (any : rule.billionths ≡ 0) (no_strand : rule.same_strand ≡ false) (some : a.start < a.stop) where
  strands : (b : Feature) → strands_agree rule a b ≡ true
  unfolding strands_agree
  strands b = ap (λ c. not c || is_same_strand a.strand b.strand) no_strand

  one_hits : (b : Feature) → CanHit a b → b.start < a.stop → is_hit rule a b ≡ true
  unfolding is_hit
  one_hits b one before = grind (arith, name_eq, strands, enough_of_nothing)

  hit_rec : (bs : List Feature) → AllByRecursion (CanHit a) bs → AllByRecursion (λ b. b.start < a.stop) bs → hits_among rule a bs ≡ bs
  hit_rec [] able before = refl
  hit_rec (b ∷ bs) able before = grind (arith, (hit_rec bs able.1 before.1), one_hits)

-- if one shared base is enough, those that can hit a record and start before its end do
pub all_hit : (rule : HitRule) (a : Feature) (bs : List Feature) (n : ℕ) → rule.billionths ≡ 0 → rule.same_strand ≡ false → a.start < a.stop → n ≤ length bs → All (CanHit a) bs → StartBefore a.stop (take n bs)
    → n ≡ length (hits_among rule a (take n bs))
all_hit rule a bs n any no_strand some within able before =
    sym (ap length
    (hit_rec rule a any no_strand some (take n bs) (recursion_from_All (CanHit a) (take n bs) (All-take (CanHit a) n bs able))
    (recursion_from_All (λ (b : Feature). b.start < a.stop) (take n bs) before))
    ∙ length-take-le n bs within)

-- Lemmas on a walk through what is held, which puts the pieces before each record that hits one.

free_append : (free : ℕ) (xs ys : List Feature) → free_after free (xs ++ ys) ≡ free_after (free_after free xs) ys
free_append free [] ys = refl
free_append free (x ∷ xs) ys = free_append (max free x.stop) xs ys

lines_append : (a : Feature) (free : ℕ) (xs ys : List Feature) → lines_before a free (xs ++ ys) ≡ lines_before a free xs ++ lines_before a (free_after free xs) ys
lines_append a free [] ys = refl
lines_append a free (x ∷ xs) ys = grind (arith, (lines_append a (max free x.stop) xs ys), append_assoc)

module _ (rule : HitRule) (a : Feature) (held : List Feature) where
  abbrev found_to : ℕ → List Feature
  found_to i = hits_among rule a (take i held)

  abbrev found_at : ℕ → List Feature
  found_at i = hits_among rule a (option_to_list (slice_get held i))

  abbrev before_to : ℕ → List ℕ
  before_to i = lines_before a a.start (found_to i)

  module _ (i : ℕ) {free : ℕ} (reached : free ≡ free_after a.start (found_to i)) where
    next_found : found_to (i + 1) ≡ found_to i ++ found_at i
    next_found = ap (filter (is_hit rule a)) (take_next held i) ∙ filter-append (is_hit rule a) (take i held) (option_to_list (slice_get held i))

    pub free_next : (next : ℕ) → next ≡ free_after free (found_at i) → next ≡ free_after a.start (found_to (i + 1))
    free_next next e = grind (arith, free_append, next_found)

    next_lines : before_to (i + 1) ≡ before_to i ++ lines_before a free (found_at i)
    next_lines = grind (arith, next_found, lines_append)

    -- the pieces before one more
    pub pieces_next : (old mid new : Output) → Grown old (before_to i) mid → Grown mid (lines_before a free (found_at i)) new → Grown old (before_to (i + 1)) new
    pieces_next old mid new so_far here = grind (arith, next_found, lines_append, (grown_more old mid new (before_to i) (lines_before a free (found_at i)) so_far here))

    abbrev rest : List Feature
    rest = hits_among rule a (drop (i + 1) held)

    all_found : found_to (i + 1) ++ rest ≡ hits_among rule a held
    all_found = sym (filter-append (is_hit rule a) (take (i + 1) held) (drop (i + 1) held)) ∙ ap (filter (is_hit rule a)) (take-append-drop (i + 1) held)

    abbrev lines_behind : List ℕ
    lines_behind = lines_before a (free_after a.start (found_to (i + 1))) rest ++ gap_lines a (free_after a.start (hits_among rule a held)) a.stop

    all_lines : AreRising held → before_to (i + 1) ++ lines_behind ≡ flat_map (piece_line a) (pieces a (hits_among rule a held))
    all_lines rises = grind (arith, append_assoc, (lines_append a a.start (found_to (i + 1)) rest), all_found, (walked rule a held rises))

    -- the piece before one couldn't be put
    pub pieces_cut : (A : Type 0) {old mid new : Output} (fault : Fault) → AreRising held → Grown old (before_to i) mid → Adds {A = A} mid (lines_before a free (found_at i)) (Err fault) new
        → FailsToAdd old (flat_map (piece_line a) (pieces a (hits_among rule a held))) (fault_value fault) new
    pieces_cut A {old} {mid} {new} fault rises so_far here =
        let cut = fails_then old mid new (before_to i) (lines_before a free (found_at i)) (fault_value fault) so_far here in
        rw (← all_lines rises) (cut_off old new (before_to (i + 1)) lines_behind (fault_value fault) (subst (λ (l : List ℕ). FailsToAdd old l (fault_value fault) new) (sym next_lines) cut))

  -- the last piece
  pub pieces_end : {A : Type 0} (r : Result A Fault) {i free : ℕ} {old mid : Output} (new : Output) → length held ≤ i → free ≡ free_after a.start (found_to i) → AreRising held
      → Grown old (before_to i) mid → Adds mid (gap_lines a free a.stop) r new → Adds old (flat_map (piece_line a) (pieces a (hits_among rule a held))) r new
  pieces_end r {i} {free} {old} {mid} new past reached rises so_far here =
      let all : before_to i ++ gap_lines a free a.stop ≡ flat_map (piece_line a) (pieces a (hits_among rule a held)) = grind (arith, (take_whole held i past), (walked rule a held rises)) in
      subst (λ (l : List ℕ). Adds old l r new) all (adds_more old mid new (before_to i) (gap_lines a free a.stop) r so_far here)

-- Lemmas on the lines of a record.

ended : (xs : List ℕ) (b : ℕ) → xs ++ b ∷ [] ≡ [] → ⊥
ended [] b e = cc
ended (x ∷ xs) b e = cc

behind : (xs ys : List ℕ) → (ys ≡ [] → ⊥) → xs ++ ys ≡ [] → ⊥
behind [] ys some e = some e
behind (x ∷ xs) ys some e = cc

-- a line has a byte at least
pub line_some : (texts : List (List ℕ)) → line_with texts ≡ [] → ⊥
line_some [] e = cc
line_some (text ∷ []) e = ended text 10 e
line_some (text ∷ next ∷ more) e = behind (text ++ 9 ∷ []) (line_with (next ∷ more)) (line_some (next ∷ more)) e

-- a line that was put was added
pub line_adds : {A : Type 0} (texts : List (List ℕ)) (out grown : Output) (r : Result A Fault) → Puts out (line_with texts) r grown → Adds out (line_with texts) r grown
line_adds texts out grown r puts = adds_some out grown (line_with texts) r (line_some texts) puts

-- the bases that two records share, if they share one
pub hit_shares : (a b : Feature) → 0 < shared_bases a b → min a.stop b.stop - max a.start b.start ≡ shared_bases a b
hit_shares a b e = grind arith

once_at : (a : Feature) (p : Feature → Bool) (b : Feature) (bs : List Feature) (c : Bool) → p b ≡ c → lines_of Once a (filter p bs) ≡ cond (list_any p bs) (line_with (bed_text a ∷ [])) []
    → lines_of Once a (cond c (b ∷ filter p bs) (filter p bs)) ≡ cond (c || list_any p bs) (line_with (bed_text a ∷ [])) []
once_at a p b bs c e rest = grind arith

once_of : (a : Feature) (p : Feature → Bool) (bs : List Feature) → lines_of Once a (filter p bs) ≡ cond (list_any p bs) (line_with (bed_text a ∷ [])) []
once_of a p [] = refl
once_of a p (b ∷ bs) = once_at a p b bs (p b) refl (once_of a p bs)

missing_at : (a : Feature) (p : Feature → Bool) (b : Feature) (bs : List Feature) (c : Bool) → p b ≡ c → lines_of Missing a (filter p bs) ≡ cond (not (list_any p bs)) (line_with (bed_text a ∷ [])) []
    → lines_of Missing a (cond c (b ∷ filter p bs) (filter p bs)) ≡ cond (not (c || list_any p bs)) (line_with (bed_text a ∷ [])) []
missing_at a p b bs c e rest = grind arith

missing_of : (a : Feature) (p : Feature → Bool) (bs : List Feature) → lines_of Missing a (filter p bs) ≡ cond (not (list_any p bs)) (line_with (bed_text a ∷ [])) []
missing_of a p [] = refl
missing_of a p (b ∷ bs) = missing_at a p b bs (p b) refl (missing_of a p bs)

module _ {A : Type 0} (a : Feature) (bs : List Feature) (out grown : Output) (r : Result A Fault) (shape : Shape) (rule : HitRule) where
  -- a record that is put if something hits it
  pub once_adds : (any : Bool) → shape ≡ Once → any ≡ list_any (is_hit rule a) bs → Adds out (cond any (line_with (bed_text a ∷ [])) []) r grown → Adds out (lines_for shape rule a bs) r grown
  unfolding lines_for
  once_adds any is e adds = grind (arith, once_of)

  -- a record that is put if nothing does
  missing_as : (s : Shape) (none : Bool) → shape ≡ s → lines_of s a (hits_among rule a bs) ≡ cond (not (list_any (is_hit rule a) bs)) (line_with (bed_text a ∷ [])) [] → none ≡ not (list_any (is_hit rule a) bs)
      → Adds out (cond none (line_with (bed_text a ∷ [])) []) r grown → Adds out (lines_for shape rule a bs) r grown
  unfolding lines_for
  missing_as s none is lines e adds = grind (arith)

  pub unmatched_adds : (none : Bool) → (shape ≡ Missing) ⊎ (shape ≡ Whole) → none ≡ not (list_any (is_hit rule a) bs) → Adds out (cond none (line_with (bed_text a ∷ [])) []) r grown → Adds out (lines_for shape rule a bs) r grown
  unmatched_adds none is e adds =
      elim is [
        | inl is ↦ missing_as Missing none is (missing_of a (is_hit rule a) bs) e adds
        | inr is ↦ missing_as Whole none is ((grind arith) ∙ missing_of a (is_hit rule a) bs) e adds
      ]

  -- the pieces that those leave that hit it
  pub pieces_add : shape ≡ Pieces → Adds out (flat_map (piece_line a) (pieces a (hits_among rule a bs))) r grown → Adds out (lines_for shape rule a bs) r grown
  unfolding lines_for
  pieces_add is adds = subst (λ (s : Shape). Adds out (lines_of s a (hits_among rule a bs)) r grown) (sym is) adds

  -- a record and the number of its hits
  pub count_adds : (n : ℕ) → shape ≡ Count → n ≡ length (hits_among rule a bs) → Puts out (line_with (bed_text a ∷ decimal n ∷ [])) r grown → Adds out (lines_for shape rule a bs) r grown
  unfolding lines_for
  count_adds n is e puts =
      rw is (line_adds (bed_text a ∷ decimal (length (hits_among rule a bs)) ∷ []) out grown r
      (subst (λ (m : ℕ). Puts out (line_with (bed_text a ∷ decimal m ∷ [])) r grown) e puts))

  each_line : (hit : HitShape) → lines_for (shape_with hit) rule a bs ≡ flat_map (hit_line (shape_with hit) a) (hits_among rule a bs)
  unfolding lines_for
  each_line EachCut = refl
  each_line EachOrigA = refl
  each_line EachCutAndB = refl
  each_line EachOrigBoth = refl
  each_line EachOverlap = refl

  -- a line for each hit
  pub hits_adds : (hit : HitShape) → shape ≡ shape_with hit → Adds out (flat_map (hit_line (shape_with hit) a) (hits_among rule a bs)) r grown → Adds out (lines_for shape rule a bs) r grown
  hits_adds hit is adds = subst (λ (s : Shape). Adds out (lines_for s rule a bs) r grown) (sym is) (subst (λ (l : List ℕ). Adds out l r grown) (sym (each_line hit)) adds)
