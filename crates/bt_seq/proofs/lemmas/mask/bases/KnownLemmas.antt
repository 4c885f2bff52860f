-- Lemmas on what is known of blocks, from call to call.
use Rattle.bt_lines.proofs.Std.{common_steps, ◌≡◌, ℕ, ◌⊎◌, Bool, true, false, cond, List, [], ◌∷◌, ◌++◌, Option, Some, None, refl, sym, ap, ◌∙◌, inl, inr, bytes_eq, arith, bytes_decides, is_some, option_map}
use Rattle.std.specs.List.{last_or}
use Rattle.bt_bed.specs.model.Feature.{Feature}
use Rattle.bt_seq.proofs.lemmas.definitions.KnowsLemmas.{owners_found, goes_on_or_begins}
use Rattle.bt_seq.proofs.lemmas.mask.steps.CopyLemmas.{left_grows, last_more}
use Rattle.bt_seq.specs.calls.MaskStage.{MayComeNext}
use Rattle.bt_seq.specs.calls.MaskState.{Knows, KnowsEarlier, last_chrom, owner_by, Matched, is_it, matched_with, named, owner_of, goes_on_block, left_after}
use Rattle.bt_seq.specs.inside.Masking.{KnowsAhead, KnowsLast, KnowsNext, KnowsNone}
use Rattle.bt_seq.specs.model.Masked.{is_unnamed}
use Rattle.bt_seq.specs.model.SequenceBlocks.{left_by, names_behind}
use Rattle.bt_seq.specs.declared.mask.matching.Owner.TheVariants.{Nobody}

pub never : false ≡ true → ⊥
never e = absurd (let apart : false ≡ true = e in cc)

chrom_more : (rs : List Feature) (r : Feature) → last_chrom (rs ++ r ∷ []) ≡ Some r.chrom
chrom_more rs r = ap (option_map (λ (s : Feature). s.chrom)) (last_more rs r)

bytes_same : (name : List ℕ) → bytes_eq name name ≡ true
bytes_same name = (bytes_decides name name).1 refl

goes_more : (rs : List Feature) (r : Feature) → goes_on_block (rs ++ r ∷ []) r ≡ true
goes_more rs r = sym (grind arith) ∙ ap (λ l. is_it l r.chrom) (chrom_more rs r) ∙ bytes_same r.chrom

-- the last of a list with one more
snoc_front : (xs ys : List (List ℕ)) (x y : List ℕ) → xs ++ x ∷ [] ≡ ys ++ y ∷ [] → xs ≡ ys
snoc_front [] [] x y e = refl
snoc_front [] (b ∷ []) x y e = absurd (let apart : x ∷ [] ≡ b ∷ y ∷ [] = e in cc)
snoc_front [] (b ∷ c ∷ ys) x y e = absurd (let apart : x ∷ [] ≡ b ∷ c ∷ (ys ++ y ∷ []) = e in cc)
snoc_front (a ∷ []) [] x y e = absurd (let apart : a ∷ x ∷ [] ≡ y ∷ [] = e in cc)
snoc_front (a ∷ c ∷ xs) [] x y e = absurd (let apart : a ∷ c ∷ (xs ++ x ∷ []) ≡ y ∷ [] = e in cc)
snoc_front (a ∷ xs) (b ∷ ys) x y e = grind (arith, (snoc_front xs ys x y (cc)))

module _ (names : List (List ℕ)) (taken : List Feature) (r : Feature) (m : Matched) where
  next_left : left_after names (taken ++ r ∷ []) ≡ cond (goes_on_block taken r) (left_after names taken) (left_by (left_after names taken) r.chrom)
  next_left = goes_on_or_begins names taken r

  -- the record may be taken
  pub record MayTake : Type 0 where
    pub knows : Knows names taken m
    pub none : goes_on_block taken r ≡ false → (e : KnowsEarlier names taken m) → names_behind r.chrom e.before ≡ None
    pub near : goes_on_block taken r ≡ true → (e : KnowsEarlier names taken m) → e.before ≡ []

  goes_is : Knows names taken m → is_it m.last r.chrom ≡ goes_on_block taken r
  goes_is k = ap (λ l. is_it l r.chrom) k.last ∙ (grind arith)

  pub may_last : KnowsLast names taken m → MayTake
  may_last k = record { knows = k.knows; none = λ begins e. ap (names_behind r.chrom) (k.near e); near = λ goes e. k.near e }

  pub owner_may : MayTake → owner_of m r.chrom ≡ owner_by (left_after names (taken ++ r ∷ []))
  owner_may k = owners_found names taken m r k.knows k.none

  -- it goes on with the last block
  goes_known : MayTake → goes_on_block taken r ≡ true → KnowsLast names (taken ++ r ∷ []) (matched_with m r.chrom)
  goes_known k goes =
      let left : left_after names (taken ++ r ∷ []) ≡ left_after names taken = next_left ∙ ap (λ b. cond b (left_after names taken) (left_by (left_after names taken) r.chrom)) goes in
      let known : Knows names (taken ++ r ∷ []) m = record {
        last = (grind (arith, bytes_decides)) ∙ sym (chrom_more taken r);
        where_last = elim k.knows.where_last [
          | inl own ↦ inl (record { left = left ∙ own.left; own = own.own })
          | inr e ↦ inr (record { before = e.before; name = e.name; left = left ∙ e.left; named = e.named; own = e.own })
        ];
      } in
      let near : (e : KnowsEarlier names (taken ++ r ∷ []) m) → e.before ≡ [] = λ e. k.near goes (record { before = e.before; name = e.name; left = sym left ∙ e.left; named = e.named; own = e.own }) in
      rw (goes_is k.knows ∙ goes) (record { knows = known; near = near })

  -- it begins a block of the last sequence
  begins_known : MayTake → goes_on_block taken r ≡ false → (owner_of m r.chrom ≡ Nobody → ⊥) → KnowsLast names (taken ++ r ∷ []) (matched_with m r.chrom)
  begins_known k begins some = grind (arith, owner_may, bytes_decides, chrom_more)

  -- it is taken
  pub take_may : MayTake → (owner_of m r.chrom ≡ Nobody → ⊥) → KnowsLast names (taken ++ r ∷ []) (matched_with m r.chrom)
  take_may k some = grind (arith, goes_known, begins_known)

  -- it was ahead, and its block is known
  known_it : KnowsLast names (taken ++ r ∷ []) m → is_it m.last r.chrom ≡ true
  known_it k = ap (λ l. is_it l r.chrom) (k.knows.last ∙ chrom_more taken r) ∙ bytes_same r.chrom

  pub take_known : KnowsLast names (taken ++ r ∷ []) m → KnowsLast names (taken ++ r ∷ []) (matched_with m r.chrom)
  take_known k = rw (known_it k) k

  pub next_can_be : (waits : Bool) (ahead : Option Feature) → KnowsNext waits names taken ahead m → MayComeNext ahead r → KnowsNone names taken m ⊎ (MayTake ⊎ KnowsLast names (taken ++ r ∷ []) m)
  next_can_be waits ahead known next = grind (arith, may_last)

  left_none : KnowsNone names taken m → left_after names (taken ++ r ∷ []) ≡ None
  left_none k = ap (λ ns. left_after ns (taken ++ r ∷ [])) k.unnamed ∙ ap (λ (rs : List Feature). left_after [] (rs ++ r ∷ [])) k.untaken

  -- the sequence of its block is found
  pub owner_next : KnowsNone names taken m ⊎ (MayTake ⊎ KnowsLast names (taken ++ r ∷ []) m) → m.name ≡ last_or None names → owner_of m r.chrom ≡ owner_by (left_after names (taken ++ r ∷ []))
  owner_next can name = grind (arith, owner_may, owners_found, (goes_on_or_begins names (taken ++ r ∷ []) r), (goes_more taken r))

  not_nobody : (left : Option (List (List ℕ))) → is_some left ≡ true → owner_by left ≡ Nobody → ⊥
  not_nobody left e o = grind arith

  -- it is taken: its block belongs to a sequence
  pub take_next : KnowsNone names taken m ⊎ (MayTake ⊎ KnowsLast names (taken ++ r ∷ []) m) → is_some (left_after names (taken ++ r ∷ [])) ≡ true → KnowsLast names (taken ++ r ∷ []) (matched_with m r.chrom)
  take_next can some = elim can [
    | inl none ↦ absurd (never (sym (ap is_some (left_none none)) ∙ some))
    | inr more ↦ elim more [
      | inl may ↦ take_may may (λ nobody. not_nobody (left_after names (taken ++ r ∷ [])) some (sym (owner_may may) ∙ nobody))
      | inr last ↦ take_known last
    ]
  ]

  -- it stays ahead: its block belongs to the last sequence, or to none
  pub own_ahead : KnowsNone names taken m ⊎ (MayTake ⊎ KnowsLast names (taken ++ r ∷ []) m) → left_after names (taken ++ r ∷ []) ≡ Some [] → KnowsNext false names taken (Some r) (matched_with m r.chrom)
  own_ahead can left = inl (take_next can (ap is_some left), λ e. left)

  pub none_ahead : KnowsNone names taken m ⊎ (MayTake ⊎ KnowsLast names (taken ++ r ∷ []) m) → is_unnamed names ≡ false → left_after names (taken ++ r ∷ []) ≡ None → KnowsNext false names taken (Some r) (matched_with m r.chrom)
  none_ahead can is_named left = grind (arith, owner_may, common_steps)

-- one more sequence
module _ (names : List (List ℕ)) (n : List ℕ) (taken : List Feature) (m : Matched) where
  -- after the names that are left
  grown_known : (rs : List Feature) (left : List (List ℕ)) → m.last ≡ last_chrom rs → left_after names rs ≡ Some left → Knows (names ++ n ∷ []) rs (named m n)
  grown_known rs left last e = grind (arith, (left_grows n names left rs e))

  front_is : (rs : List Feature) (left : List (List ℕ)) → left_after names rs ≡ Some left → (e : KnowsEarlier (names ++ n ∷ []) rs (named m n)) → e.before ≡ left
  front_is rs left is e =
      let both : Some (e.before ++ e.name ∷ []) ≡ Some (left ++ n ∷ []) = sym e.left ∙ left_grows n names left rs is in
      snoc_front e.before left e.name n cc

  grown_last : (rs : List Feature) → m.last ≡ last_chrom rs → left_after names rs ≡ Some [] → KnowsLast (names ++ n ∷ []) rs (named m n)
  grown_last rs last e = record { knows = grown_known rs [] last e; near = λ k. front_is rs [] e k }

  left_known : Knows names taken m → (left : List (List ℕ)) × (left_after names taken ≡ Some left)
  left_known k = grind arith

  ahead_grows : (r : Feature) → KnowsAhead names taken r m → left_after names (taken ++ r ∷ []) ≡ None → KnowsAhead (names ++ n ∷ []) taken r (named m n)
  ahead_grows r k none =
      let is = left_known k.knows in
      let behind : names_behind r.chrom is.0 ≡ None =
      ap (λ l. left_by l r.chrom) (sym is.1) ∙ sym (ap (λ b. cond b (left_after names taken) (left_by (left_after names taken) r.chrom)) k.begins) ∙ sym (goes_on_or_begins names taken r) ∙ none in
      record {
        knows = grown_known taken is.0 k.knows.last is.1;
        begins = k.begins;
        none = λ e. ap (names_behind r.chrom) (front_is taken is.0 is.1 e) ∙ behind;
      }

  pub with_header : (ahead : Option Feature) → (is_some ahead ≡ false → (names ≡ []) × (taken ≡ [])) → KnowsNext false names taken ahead m → KnowsNext true (names ++ n ∷ []) taken ahead (named m n)
  with_header ahead first known = grind (arith, grown_last, ahead_grows)
