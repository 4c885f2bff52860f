-- Lemmas on the steps of a masking engine.
use Rattle.bt_lines.proofs.Std.{common_steps, rules, ◌≡◌, ℕ, nat_eq, Bool, true, false, cond, not, nat_lt, length, List, [], ◌∷◌, ◌++◌, arith, Some, None, if◌then◌else◌, Result, Ok, Err, refl, sym, ap, ◌∙◌, subst, inl, nat_tests, IsErr, IsOk, ◌+◌, ◌<◌, zero, suc, map, take, drop, slice_index_or, slice_set, ◌-◌, ◌≤◌, eqb, Fits, w8, ap₂, append-nil, append_assoc, length-append, Each1, chunk, put_chunk, sel_l, top, agree_below, agree_below_at, eqb_yes, T, drop-drop, drop_all, drop_at, length-drop, length-map, length-take-le, map-append, take-append-drop, take_at, take_rest, put_chunk_is, take-add, ◌==◌, take_while, take_all, All-head, All-tail, All-take, take_while-cons}
use Rattle.bt_bed.specs.model.Feature.{Feature}
use Rattle.bt_lines.specs.calls.Names.{fault_value}
use Rattle.bt_lines.specs.calls.Output.{Output, Adds, FailsToAdd, Grown}
use Rattle.bt_lines.specs.model.Lines.{end_bytes}
use Rattle.bt_lines.specs.declared.fault.Fault.{Fault}
use Rattle.bt_seq.proofs.lemmas.Sam.{none_masked}
use Rattle.bt_seq.specs.calls.MaskState.{Keeps, Masking, TakesSequenceLine, Waiting, WritesWaiting, WritesGiven, decides_line, decides_by, decides_up_to, is_stray, line_bytes, moved_to, passed, stays_as_given, with_owner, writes_at_once, Matched, matched_with, owner_of}
use Rattle.bt_bed.specs.model.BedLine.{ends_word}
use Rattle.bt_seq.specs.declared.mask.MaskWant.TheVariants.{Line, Bed, Nothing}
use Rattle.bt_seq.specs.declared.mask.matching.Owner.{Owner}
use Rattle.bt_lines.specs.calls.Columns.{IsBefore, Lacks}

pub none_held : (held : List Feature) → nat_eq (length held) 0 ≡ true → held ≡ []
none_held held e = grind (arith, common_steps)

-- it was written as it was given
pub wrote_given : {A : Type 0} (r : Result A Fault) (old new : Masking) (line : Waiting) (out grown : Output)
    → old.window.held ≡ [] → Adds out (line.text ++ end_bytes line.ending) r grown
    → (IsOk r → new ≡ record old { waiting = None; want = Line }) → (IsErr r → new.want ≡ Nothing)
    → WritesGiven old line out r new grown
wrote_given r old new line out grown none adds next stops = grind (arith, none_masked)

-- the line that waits
pub waiting_is : (waits : Bool) (waiting line : Waiting) → (if waits then Some waiting else None) ≡ Some line → waiting ≡ line
waiting_is true waiting line e = cc
waiting_is false waiting line e = cc

-- it was written
pub wrote_waiting : {A : Type 0} (r : Result A Fault) (old new : Masking) (line : Waiting) (bytes : List ℕ) (out grown : Output)
    → bytes ≡ line_bytes old line → Adds out bytes r grown
    → (IsOk r → new ≡ record old { waiting = None; want = Line }) → (IsErr r → new.want ≡ Nothing)
    → WritesWaiting old line out r new grown
wrote_waiting (Ok done) old new line bytes out grown is adds next stops = (next refl, subst (λ (l : List ℕ). Grown out l grown) is adds)
wrote_waiting (Err fault) old new line bytes out grown is adds next stops = (stops refl, subst (λ (l : List ℕ). FailsToAdd out l (fault_value fault) grown) is adds)

-- it was kept and then written
pub wrote_kept : {A : Type 0} (r : Result A Fault) (old kept new : Masking) (line : Waiting) (out grown : Output)
    → kept ≡ record old { waiting = Some line; want = Bed }
    → ((l : Waiting) → kept.waiting ≡ Some l → WritesWaiting kept l out r new grown) → WritesGiven old line out r new grown
wrote_kept {A} r old kept new line out grown is writes = grind (arith, kept_by)
  where
    kept_by : (r : Result A Fault) → WritesWaiting (record old { waiting = Some line; want = Bed }) line out r new grown
        → WritesGiven old line out r new grown
    kept_by (Ok done) w = w
    kept_by (Err fault) w = (w.0, inl w.1)

-- a line was written as soon as it was given
pub writes_line : {A : Type 0} (r : Result A Fault) (old moved new : Masking) (number : ℕ) (line : Waiting) (out grown : Output)
    → (moved ≡ moved_to old line.text) × (is_stray old line.text ≡ false) → writes_at_once moved line.text ≡ true
    → WritesGiven moved line out r new grown → TakesSequenceLine old number line out r new grown
writes_line r old moved new number line out grown m now writes = grind arith

-- a line was kept until it is decided
pub keeps_line : {A : Type 0} (r : Result A Fault) (old moved new : Masking) (number : ℕ) (line : Waiting) (out : Output)
    → (moved ≡ moved_to old line.text) × (is_stray old line.text ≡ false) → writes_at_once moved line.text ≡ false
    → Keeps moved line r new → TakesSequenceLine old number line out r new out
keeps_line r old moved new number line out m later keeps = search rules

-- a line that stays as it was given was written
pub passes_line : {A : Type 0} (done : A) (old new : Masking) (number : ℕ) (line : Waiting) (out grown : Output)
    → (stays_as_given old line.text ≡ true) × (new ≡ passed old line.text) × Grown out (line.text ++ end_bytes line.ending) grown → TakesSequenceLine old number line out (Ok done) new grown
passes_line done old new number line out grown p = grind (arith, none_held, none_masked)

-- a record decided the line that waits, which was written
pub wrote_line : {old inside new : Masking} (r : Feature) {owner : Owner} {matched : Matched} {to : ℕ} (line : Waiting) {out grown : Output}
    → to ≡ decides_up_to owner r.start → inside ≡ old
    → owner ≡ owner_of inside.matched r.chrom → matched ≡ matched_with inside.matched r.chrom
    → decides_by owner inside.window.bases r.start ≡ true
    → (new ≡ record inside { matched = matched; decided_to = to; waiting = None; want = Line })
    × Grown out (line_bytes (record inside { matched = matched; decided_to = to }) line) grown
    → (decides_line old r ≡ true)
    × (new ≡ record (with_owner old r.chrom) { waiting = None; want = Line; decided_to = decides_up_to (owner_of old.matched r.chrom) r.start })
    × Grown out (line_bytes old line) grown
wrote_line r line k e o m d w = grind arith

-- Lemmas on masked bases.

-- a byte is mapped after those that were
pub one_mapped : (f : ℕ → ℕ) (bytes : List ℕ) (i : ℕ) → i < length bytes
    → slice_set (map f (take i bytes) ++ drop i bytes) i (f (slice_index_or (map f (take i bytes) ++ drop i bytes) i 0)) ≡ map f (take (i + 1) bytes) ++ drop (i + 1) bytes
one_mapped f [] i low = absurd (omega arith)
one_mapped f (byte ∷ bytes) zero low = refl
one_mapped f (byte ∷ bytes) (suc i) low = let next : suc i + 1 ≡ suc (i + 1) = omega arith in rw next (ap (λ bs. f byte ∷ bs) (one_mapped f bytes i (omega arith)))

-- Lemmas on bases that are masked by lanes.

module _ (f : ℕ → ℕ) (old : List ℕ) (at : ℕ) (within : at + 32 ≤ length old) where
  -- as many were masked as come before these lanes
  as_many : length (map f (take at old)) ≡ at
  as_many = length-map (take at old) f ∙ length-take-le at old (omega (arith, within))

  so_many : length (map f (take 32 (drop at old))) ≡ 32
  so_many = length-map (take 32 (drop at old)) f ∙ length-take-le 32 (drop at old) (omega (arith, within, length-drop at old))

  so_long : (bases : List ℕ) → bases ≡ map f (take at old) ++ drop at old → length bases ≡ length old
  so_long bases is = omega (arith, within, ap length is, length-append (map f (take at old)) (drop at old), as_many, length-drop at old)

  -- once the lanes are masked, the ones before the next lanes are
  pub masked_more : (bases lanes : List ℕ) → bases ≡ map f (take at old) ++ drop at old → lanes ≡ map f (chunk at 32 bases)
      → put_chunk at bases lanes ≡ map f (take (at + 32) old) ++ drop (at + 32) old
  masked_more bases lanes is masked = grind (arith, so_many, take_at, as_many, drop_at, drop-drop, put_chunk_is, so_long, append_assoc, map-append, take-add)

-- once the rest is masked too, all are
module _ (f : ℕ → ℕ) (old bases : List ℕ) (at : ℕ) (within : at ≤ length old) (is : bases ≡ map f (take at old) ++ drop at old) where
  so_far : length (map f (take at old)) ≡ at
  so_far = length-map (take at old) f ∙ length-take-le at old within

  front_masked : take at bases ≡ map f (take at old)
  front_masked = ap (take at) is ∙ take_at (map f (take at old)) (drop at old) at so_far

  back : drop at bases ≡ drop at old
  back = ap (drop at) is ∙ drop_at (map f (take at old)) (drop at old) at so_far

  pub masked_rest : (rest : List ℕ) → rest ≡ map f (take (length bases - at) (drop at bases)) → take at bases ++ (rest ++ drop (length bases - at) (drop at bases)) ≡ map f old
  masked_rest rest masked =
      let none : drop (length bases - at) (drop at bases) ≡ [] = drop_all (length bases - at) (drop at bases) (omega (arith, length-drop at bases)) in
      ap₂ (λ l r. l ++ r) front_masked (ap₂ (λ l r. l ++ r) (masked ∙ ap (map f) (take_rest bases at) ∙ ap (map f) back) none ∙ append-nil (map f (drop at old)))
      ∙ sym (map-append f (take at old) (drop at old)) ∙ ap (map f) (take-append-drop at old)

-- two functions that agree on each byte
same_at : (f g : ℕ → ℕ) (byte : ℕ) → agree_below (λ b. eqb (f b) (g b)) (λ b. true) 256 ≡ true → Fits w8 byte → f byte ≡ g byte
same_at f g byte agrees fits = eqb_yes (subst T (sym (agree_below_at (λ b. eqb (f b) (g b)) (λ b. true) 256 byte agrees fits.fits)) tt)

same_on_bytes : (f g : ℕ → ℕ) (bytes : List ℕ) → agree_below (λ b. eqb (f b) (g b)) (λ b. true) 256 ≡ true → Each1 (Fits w8) bytes → map f bytes ≡ map g bytes
same_on_bytes f g [] agrees fits = refl
same_on_bytes f g (byte ∷ bytes) agrees fits = ap₂ (λ b bs. b ∷ bs) (same_at f g byte agrees fits.0) (same_on_bytes f g bytes agrees fits.1)

-- a choice between lanes that were computed from a vector and that vector
chosen : (f g : ℕ → ℕ) (bytes : List ℕ) → sel_l (map (top 7) (map f bytes)) (map g bytes) bytes ≡ map (λ b. cond (top 7 (f b)) (g b) b) bytes
chosen f g [] = refl
chosen f g (byte ∷ bytes) = ap (λ bs. cond (top 7 (f byte)) (g byte) byte ∷ bs) (chosen f g bytes)

pub chosen_lanes : (f g h : ℕ → ℕ) (bytes : List ℕ) {tests lanes : List ℕ} → Each1 (Fits w8) bytes → tests ≡ map f bytes → lanes ≡ map g bytes
    → agree_below (λ b. eqb (cond (top 7 (f b)) (g b) b) (h b)) (λ b. true) 256 ≡ true
    → sel_l (map (top 7) tests) lanes bytes ≡ map h bytes
chosen_lanes f g h bytes fits tests lanes agrees = grind (arith, chosen, same_on_bytes)

-- Lemmas on the names that headers give.

abbrev in_name : ℕ → Bool
in_name byte = not (ends_word byte)

goes_on : (byte : ℕ) → (byte == 32) ≡ false → (byte == 9) ≡ false → in_name byte ≡ true
goes_on byte space tab = rw (space, tab) refl

-- bytes up to one that ends the name
before_end : (xs ys : List ℕ) (last : ℕ) → Lacks 32 xs → Lacks 9 xs → ends_word last ≡ true → take_while in_name (xs ++ last ∷ ys) ≡ xs
before_end [] ys last space tab ends = take_while-cons in_name last ys ∙ ap (λ b. cond (not b) (last ∷ take_while in_name ys) []) ends
before_end (x ∷ xs) ys last space tab ends =
    take_while-cons in_name x (xs ++ last ∷ ys)
    ∙ ap (λ b. cond b (x ∷ take_while in_name (xs ++ last ∷ ys)) [])
    (goes_on x (All-head (λ byte. (byte == 32) ≡ false) x xs space) (All-head (λ byte. (byte == 9) ≡ false) x xs tab))
    ∙ ap (λ l. x ∷ l) (before_end xs ys last (All-tail (λ byte. (byte == 32) ≡ false) x xs space) (All-tail (λ byte. (byte == 9) ≡ false) x xs tab) ends)

-- all bytes
all_named : (xs : List ℕ) → Lacks 32 xs → Lacks 9 xs → take_while in_name xs ≡ xs
all_named [] space tab = refl
all_named (x ∷ xs) space tab =
    take_while-cons in_name x xs
    ∙ ap (λ b. cond b (x ∷ take_while in_name xs) [])
    (goes_on x (All-head (λ byte. (byte == 32) ≡ false) x xs space) (All-head (λ byte. (byte == 9) ≡ false) x xs tab))
    ∙ ap (λ l. x ∷ l) (all_named xs (All-tail (λ byte. (byte == 32) ≡ false) x xs space) (All-tail (λ byte. (byte == 9) ≡ false) x xs tab))

module _ (text : List ℕ) (end n : ℕ) (space : IsBefore 32 text end) (tab : IsBefore 9 (take end text) n) where
  abbrev front : List ℕ
  front = take end text

  size : length front ≡ end
  size = length-take-le end text space.within

  pub name_within : n ≤ length text
  name_within = omega (arith, size, tab.within, space.within)

  -- a tab ends it
  by_tab : n < length front → take n text ≡ take_while in_name text
  by_tab below =
      let name = take n front in
      let rest = drop (n + 1) front ++ drop end text in
      let whole : text ≡ name ++ 9 ∷ rest =
      sym (take-append-drop end text) ∙ ap (λ l. l ++ drop end text) (tab.cut below) ∙ append_assoc name (9 ∷ drop (n + 1) front) (drop end text) in
      grind (arith, (take_at name (9 ∷ rest) n (length-take-le n front tab.within)), (before_end name rest 9 (All-take (λ byte. (byte == 32) ≡ false) n front space.clear) tab.clear refl))

  -- else a space does, or the end of the text
  module _ (none : n ≡ length front) where
    clear : Lacks 9 front
    clear = subst (Lacks 9) (take_all n front (omega (arith, none))) tab.clear

    by_rest : (b : Bool) → nat_lt end (length text) ≡ b → take n text ≡ take_while in_name text
    by_rest b e = grind (arith, take_all, all_named, size, before_end, clear)

  by_front : (b : Bool) → nat_lt n (length front) ≡ b → take n text ≡ take_while in_name text
  by_front true e = by_tab (let below : n < length front = grind (arith, nat_tests) in below)
  by_front false e =
      let over : length front ≤ n = grind (arith, nat_tests) in
      by_rest (omega (arith, over, tab.within)) (nat_lt end (length text)) refl

  pub name_is : take n text ≡ take_while in_name text
  name_is = by_front (nat_lt n (length front)) refl
