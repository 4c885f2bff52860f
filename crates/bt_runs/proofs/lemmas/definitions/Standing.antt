-- Chromosomes in an order, each once, and where a name is found among them. Records in that order have reached the chromosome of the last record, with none on any after it. The next record goes on there, or to a later chromosome.
use Rattle.bt_lines.proofs.Std.{◌≡◌, ℕ, suc, ◌+◌, ◌<◌, ◌≤◌, inl, inr, List, [], ◌∷◌, ◌++◌, append_assoc, refl, sym, ap, ◌∙◌, subst, arith, length, length-append, map, true, false, bytes_eq, Option, Some, option_map, ◌⊎◌, ◌||◌, ⊤, is_some, nat_cmp, cases_Bool, cond-true, cond-false, lt-ltb, le-ltb, ne_eqb, or_parts, or_from, or_left, or_right, map-append, filter, Bool, not, nat_lt, append-nil, not_from_true, not_from_false, filter-append}
use Rattle.std.specs.declared.cmp.Ordering.{Ordering}
use Rattle.std.specs.declared.cmp.Ordering.TheVariants.{Less, Equal, Greater}
use Rattle.bt_bed.specs.model.Order.{is_among, compare_ranks, rank_of, rank_order}
use Rattle.bt_bed.specs.calls.Orders.{AreDistinct, ArePlaced, IsUpTo}
use Rattle.bt_bed.proofs.lemmas.parse.NameLemmas.{same_name, name_eq, name_ne-sym, name_ne}
use Rattle.bt_bed.specs.model.Feature.{Interval, last_from, last_of, Span, placed_on, Feature, interval_of, intervals_of}
use Rattle.bt_bed.specs.model.Sorted.{locus_of, has_records}
use Rattle.bt_bed.proofs.lemmas.order.OrderLemmas.{last_of-push}
use Rattle.bt_runs.specs.model.Merged.{is_closed, is_counted, counted}
use Rattle.bt_runs.proofs.lemmas.merge.Bridging.{AreApartBy}
use Rattle.bt_runs.specs.declared.merge.merge_strand.MergeStrand.{MergeStrand}
use Rattle.bt_runs.proofs.lemmas.Lists.{filter_map_all}
use Rattle.bt_runs.specs.calls.Engine.{SettlesMore, SettledStays, SettledBegins}

-- ranks compared
pub cmp_less : (a b : ℕ) → a < b → nat_cmp a b ≡ Less
cmp_less a b h = rw (lt-ltb a b h) refl

pub cmp_greater : (a b : ℕ) → b < a → nat_cmp a b ≡ Greater
cmp_greater a b h = rw (le-ltb a b (omega arith), ne_eqb a b (λ e. absurd (omega arith))) refl

pub less_cmp : (a b : ℕ) → nat_cmp a b ≡ Less → a < b
less_cmp a b e = grind arith

-- a name compares as equal with itself, and so never as less
pub compare_same : (names : List (List ℕ)) (a b : List ℕ) → a ≡ b → (rank_order names).compare a b ≡ Equal
compare_same names a b same = ap (λ c. (rank_order names).compare c b) same ∙ (grind arith)

pub not_less : (names : List (List ℕ)) (a b : List ℕ) → a ≡ b → (rank_order names).compare a b ≡ Less → ⊥
not_less names a b same less = let apart : Equal ≡ Less = sym (compare_same names a b same) ∙ less in cc

-- a chromosome of a lower rank compares as less, and one of a higher rank as greater
compare_at : (names : List (List ℕ)) (name other : List ℕ) (k n : ℕ) (way : Ordering) → rank_of names name ≡ Some k → rank_of names other ≡ Some n → compare_ranks (Some k) (Some n) ≡ way → (rank_order names).compare name other ≡ way
compare_at names name other k n way a b e = rw (a, b) e

-- a known name has a rank
pub known_rank : (o : Option ℕ) → is_some o ≡ true → (k : ℕ) × (o ≡ Some k)
known_rank o e = grind arith

pub later_rank : (o : Option ℕ) (rank : ℕ) → option_map (λ n. suc n) o ≡ Some rank → (k : ℕ) × (o ≡ Some k) × (rank ≡ suc k)
later_rank o rank e = grind arith

-- the names before a name aren't it, if no name comes twice
among_both : (xs ys : List (List ℕ)) (name : List ℕ) → is_among (xs ++ ys) name ≡ false → (is_among xs name ≡ false) × (is_among ys name ≡ false)
among_both [] ys name f = (refl, f)
among_both (x ∷ xs) ys name f = grind (arith, (among_both xs ys name (or_parts (bytes_eq x name) (is_among (xs ++ ys) name) f).1))

-- of two chromosomes of a list, the later one comes after the other
pub record Later {K : Type 0} (before : List K) (e : K) (after before_other : List K) (other : K) (after_other : List K) : Type 0 where
  pub middle : List K
  pub front : before_other ≡ before ++ e ∷ middle
  pub rest : after ≡ middle ++ other ∷ after_other

pub later : {K : Type 0} (before : List K) (e : K) (after before_other : List K) (other : K) (after_other : List K) → before ++ e ∷ after ≡ before_other ++ other ∷ after_other → length before < length before_other → Later before e after before_other other after_other
later [] e after [] other after_other same h = absurd (omega arith)
later [] e after (c ∷ cs) other after_other same h = grind arith
later (b ∷ bs) e after [] other after_other same h = absurd (omega arith)
later (b ∷ bs) e after (c ∷ cs) other after_other same h = grind (arith, (later bs e after cs other after_other (cc) (omega arith)))

module _ {K : Type 0} (name : K → List ℕ) where
  -- a chromosome of this name and rank, the first of its name
  pub record Found (keys : List K) (wanted : List ℕ) (rank : ℕ) : Type 0 where
    pub before : List K
    pub key : K
    pub after : List K
    pub split : keys ≡ before ++ key ∷ after
    pub at : length before ≡ rank
    pub is : name key ≡ wanted
    pub first : is_among (map name before) wanted ≡ false

  pub found : (keys : List K) (wanted : List ℕ) (rank : ℕ) → rank_of (map name keys) wanted ≡ Some rank → Found keys wanted rank
  found [] wanted rank e = cc
  found (e ∷ es) wanted rank is =
      elim (cases_Bool (bytes_eq (name e) wanted)) [
        | inl t ↦
            record { before = []; key = e; after = es; split = refl; at = cc; is = same_name (name e) wanted t; first = refl }
        | inr f ↦
            let more = later_rank (rank_of (map name es) wanted) rank (sym (cond-false (bytes_eq (name e) wanted) (Some 0) (option_map (λ n. suc n) (rank_of (map name es) wanted)) f) ∙ is) in
            let rest = found es wanted more.0 more.1 in
            record {
              before = e ∷ rest.before;
              key = rest.key;
              after = rest.after;
              split = ap (λ l. e ∷ l) rest.split;
              at = let a = rest.at in let m = more.2 in omega arith;
              is = rest.is;
              first = or_from (bytes_eq (name e) wanted) (is_among (map name rest.before) wanted) f rest.first;
            }
      ]

  -- the parts of a list in which no name comes twice
  pub record Apart (before : List K) (e : K) (after : List K) : Type 0 where
    pub none_before : is_among (map name before) (name e) ≡ false
    pub none_after : is_among (map name after) (name e) ≡ false

  pub apart : (before : List K) (e : K) (after : List K) → AreDistinct (map name (before ++ e ∷ after)) → Apart before e after
  apart [] e after d = record { none_before = refl; none_after = d.0 }
  apart (b ∷ bs) e after d = grind (arith, (apart bs e after d.1), map-append, among_both, name_ne-sym)

  -- the rank of a chromosome is how many come before it
  rank_behind : (before : List K) (e : K) (after : List K) → is_among (map name before) (name e) ≡ false → rank_of (map name (before ++ e ∷ after)) (name e) ≡ Some (length before)
  rank_behind [] e after f = cond-true (bytes_eq (name e) (name e)) (Some 0) (option_map (λ n. suc n) (rank_of (map name after) (name e))) (name_eq (name e) (name e) refl)
  rank_behind (b ∷ bs) e after f =
      grind (arith, (rank_behind bs e after (or_parts (bytes_eq (name b) (name e)) (is_among (map name bs) (name e)) f).1))

  pub rank_at : (before : List K) (e : K) (after : List K) → AreDistinct (map name (before ++ e ∷ after)) → rank_of (map name (before ++ e ∷ after)) (name e) ≡ Some (length before)
  rank_at before e after d = rank_behind before e after (apart before e after d).none_before

  -- each of the chromosomes compares so with that of a name
  abbrev pub AllCompare : List (List ℕ) → List ℕ → Ordering → List K → Type 0
  AllCompare names other way [] = ⊤
  AllCompare names other way (k ∷ ks) = ((rank_order names).compare (name k) other ≡ way) × AllCompare names other way ks

  -- those before a chromosome are less, and those after it greater
  module _ (keys : List K) (distinct : AreDistinct (map name keys)) (other : List ℕ) (n : ℕ) (ranked : rank_of (map name keys) other ≡ Some n) where
    rank_in : (front : List K) (e : K) (rest : List K) → keys ≡ front ++ e ∷ rest → rank_of (map name keys) (name e) ≡ Some (length front)
    rank_in front e rest split = rw split (rank_at front e rest (rw (← split) distinct))

    next_split : (front : List K) (e : K) (es rest : List K) → keys ≡ front ++ (e ∷ es ++ rest) → keys ≡ (front ++ e ∷ []) ++ (es ++ rest)
    next_split front e es rest split = split ∙ sym (append_assoc front (e ∷ []) (es ++ rest))

    pub all_before : (front es rest : List K) → keys ≡ front ++ (es ++ rest) → length front + length es ≤ n → AllCompare (map name keys) other Less es
    all_before front [] rest split h = tt
    all_before front (e ∷ es) rest split h =
        let longer = length-append front (e ∷ []) in (
          compare_at (map name keys) (name e) other (length front) n Less (rank_in front e (es ++ rest) split) ranked (cmp_less (length front) n (omega arith)),
          all_before (front ++ e ∷ []) es rest (next_split front e es rest split) (omega arith),
        )

    pub all_after : (front es rest : List K) → keys ≡ front ++ (es ++ rest) → n < length front → AllCompare (map name keys) other Greater es
    all_after front [] rest split h = tt
    all_after front (e ∷ es) rest split h =
        let longer = length-append front (e ∷ []) in (
          compare_at (map name keys) (name e) other (length front) n Greater (rank_in front e (es ++ rest) split) ranked (cmp_greater (length front) n h),
          all_after (front ++ e ∷ []) es rest (next_split front e es rest split) (omega arith),
        )

-- one more record on another chromosome, and on this one
pub has_records-push : (name : List ℕ) (past : List Interval) (r : Interval) → bytes_eq r.chrom name ≡ false → has_records name (past ++ r ∷ []) ≡ has_records name past
has_records-push name [] r f = rw f refl
has_records-push name (q ∷ qs) r f = ap (λ b. bytes_eq q.chrom name || b) (has_records-push name qs r f)

pub has_records-here : (name : List ℕ) (past : List Interval) (r : Interval) → r.chrom ≡ name → has_records name (past ++ r ∷ []) ≡ true
has_records-here name [] r e = or_left (bytes_eq r.chrom name) false (name_eq r.chrom name e)
has_records-here name (q ∷ qs) r e = or_right (bytes_eq q.chrom name) (has_records name (qs ++ r ∷ [])) (has_records-here name qs r e)

-- the last of records and the next one are in order
next_up : (names : List (List ℕ)) (q : Interval) (qs : List Interval) (r : Interval) → ArePlaced (rank_order names) (q ∷ qs ++ r ∷ []) → IsUpTo (rank_order names) (locus_of (last_from q qs)) (locus_of r)
next_up names q [] r placed = placed.1
next_up names q (s ∷ ss) r placed = next_up names s ss r placed.2

last_up : (names : List (List ℕ)) (records : List Interval) (last r : Interval) → last_of records ≡ Some last → ArePlaced (rank_order names) (records ++ r ∷ []) → IsUpTo (rank_order names) (locus_of last) (locus_of r)
last_up names records last r is placed = grind (arith, next_up)

known_at_end : (names : List (List ℕ)) (records : List Interval) (r : Interval) → ArePlaced (rank_order names) (records ++ r ∷ []) → is_some (rank_of names r.chrom) ≡ true
known_at_end names [] r placed = placed.0
known_at_end names (q ∷ qs) r placed = known_at_end names qs r placed.2

module _ {K : Type 0} (name : K → List ℕ) where
  -- no record lies on any of the chromosomes
  abbrev pub NoneOn : List Interval → List K → Type 0
  NoneOn records [] = ⊤
  NoneOn records (k ∷ ks) = (has_records (name k) records ≡ false) × NoneOn records ks

  pub none_at_first : (keys : List K) → NoneOn [] keys
  none_at_first [] = tt
  none_at_first (k ∷ ks) = (refl, none_at_first ks)

  pub none_parts : (records : List Interval) (xs ys : List K) → NoneOn records (xs ++ ys) → NoneOn records xs × NoneOn records ys
  none_parts records [] ys n = (tt, n)
  none_parts records (x ∷ xs) ys n = let rest = none_parts records xs ys n.1 in ((n.0, rest.0), rest.1)

  pub none_other : (records : List Interval) (r : Interval) (keys : List K) → is_among (map name keys) r.chrom ≡ false → NoneOn records keys → NoneOn (records ++ r ∷ []) keys
  none_other records r [] f n = tt
  none_other records r (k ∷ ks) f n =
      let tests = or_parts (bytes_eq (name k) r.chrom) (is_among (map name ks) r.chrom) f in
      (has_records-push (name k) records r (name_ne-sym (name k) r.chrom tests.0) ∙ n.0, none_other records r ks tests.1 n.1)

  module _ (keys : List K) where
    -- the records reach this chromosome, the last one's, and none after it
    pub record Stand (records : List Interval) (last : Interval) (before : List K) (key : K) (after : List K) : Type 0 where
      pub split : keys ≡ before ++ key ∷ after
      pub last_is : last_of records ≡ Some last
      pub is : name key ≡ last.chrom
      pub some : has_records (name key) records ≡ true
      pub none_after : NoneOn records after

    -- a record on a chromosome after which there are none
    pub record Arrives (records : List Interval) (r : Interval) (before : List K) (key : K) (after : List K) : Type 0 where
      pub split : keys ≡ before ++ key ∷ after
      pub is : name key ≡ r.chrom
      pub none_after : NoneOn records after

    -- the next record lies on a later chromosome
    pub record GoesTo (records : List Interval) (r : Interval) (before : List K) (key : K) (after : List K) : Type 0 where
      pub middle : List K
      pub next : K
      pub behind : List K
      pub rest : after ≡ middle ++ next ∷ behind
      pub rank : rank_of (map name keys) r.chrom ≡ Some (length (before ++ key ∷ middle))
      pub none_between : NoneOn records middle
      pub none_here : has_records (name next) records ≡ false
      pub other : bytes_eq (name key) r.chrom ≡ false
      pub arrives : Arrives records r (before ++ key ∷ middle) next behind

    module _ (distinct : AreDistinct (map name keys)) where
      pub elsewhere_of : (records : List Interval) (r : Interval) (before : List K) (key : K) (after : List K) → Arrives records r before key after
          → (is_among (map name before) r.chrom ≡ false) × (is_among (map name after) r.chrom ≡ false)
      elsewhere_of records r before key after a = grind (arith, apart)

      pub stand_at : (records : List Interval) (r : Interval) (before : List K) (key : K) (after : List K) → Arrives records r before key after → Stand (records ++ r ∷ []) r before key after
      stand_at records r before key after a =
          grind (arith, (last_of-push records r), (has_records-here (name key) records r (sym a.is)), (none_other records r after (elsewhere_of records r before key after a).1 a.none_after))

      pub last_rank : (records : List Interval) (last : Interval) (before : List K) (key : K) (after : List K) → Stand records last before key after → rank_of (map name keys) last.chrom ≡ Some (length before)
      last_rank records last before key after s = rw (← s.is, s.split) (rank_at name before key after (rw (← s.split) distinct))

      -- a chromosome of a higher rank than the last record's lies after it
      further : (records : List Interval) (r : Interval) (before : List K) (key : K) (after : List K) (rank : ℕ) → keys ≡ before ++ key ∷ after → NoneOn records after → (name key ≡ r.chrom → ⊥) → rank_of (map name keys) r.chrom ≡ Some rank → length before < rank
          → Found name keys r.chrom rank → GoesTo records r before key after
      further records r before key after rank split none_after other known higher f =
          let between = later before key after f.before f.key f.after (sym split ∙ f.split) (let a = f.at in omega arith) in
          grind (arith, (none_parts records between.middle (f.key ∷ f.after) (rw (← between.rest) none_after)), (name_ne (name key) r.chrom other))

      -- the next record goes on, or to a later chromosome
      pub goes : (records : List Interval) (r last : Interval) (before : List K) (key : K) (after : List K) → Stand records last before key after → ArePlaced (rank_order (map name keys)) (records ++ r ∷ [])
          → ((r.chrom ≡ last.chrom) × (last.start ≤ r.start)) ⊎ GoesTo records r before key after
      goes records r last before key after s placed =
          let names = map name keys in
          let known = known_rank (rank_of names r.chrom) (known_at_end names records r placed) in
          let mine = last_rank records last before key after s in
          elim (last_up names records last r s.last_is placed) [
            | inl less ↦
                let higher = less_cmp (length before) known.0 (rw mine at (rw known.1 at less)) in
                let other = λ (e : name key ≡ r.chrom).
                let same : length before ≡ known.0 = cc in
                absurd (omega arith) in
                inr (further records r before key after known.0 s.split s.none_after other known.1 higher (found name keys r.chrom known.0 known.1))
            | inr same ↦ inl (sym same.0, same.1)
          ]

      -- the first record
      pub begins_at : (r : Interval) → ArePlaced (rank_order (map name keys)) (r ∷ []) → (rank : ℕ) × (f : Found name keys r.chrom rank) × (rank_of (map name keys) r.chrom ≡ Some rank) × Arrives [] r f.before f.key f.after
      begins_at r placed =
          let known = known_rank (rank_of (map name keys) r.chrom) placed.0 in
          let f = found name keys r.chrom known.0 known.1 in
          (known.0, f, known.1, record { split = f.split; is = f.is; none_after = none_at_first f.after })

-- Which runs a record closes, and which records are merged, among others.

pub passed_elsewhere : (gap : ℕ) (last run : Interval) → bytes_eq run.chrom last.chrom ≡ false → is_closed gap last run ≡ true
passed_elsewhere gap last run other = or_left (not (bytes_eq run.chrom last.chrom)) (nat_lt (run.stop + gap) last.start) (not_from_false (bytes_eq run.chrom last.chrom) other)

pub not_passed : (gap : ℕ) (last run : Interval) → run.chrom ≡ last.chrom → last.start ≤ run.stop + gap → is_closed gap last run ≡ false
not_passed gap last run same near = or_from (not (bytes_eq run.chrom last.chrom)) (nat_lt (run.stop + gap) last.start) (not_from_true (bytes_eq run.chrom last.chrom) (name_eq run.chrom last.chrom same)) (le-ltb (run.stop + gap) last.start near)

-- a record closes all runs on other chromosomes than its own
pub placed_elsewhere : (gap : ℕ) (last : Interval) (name : List ℕ) (spans : List Span) → bytes_eq name last.chrom ≡ false → filter (is_closed gap last) (map (placed_on name) spans) ≡ map (placed_on name) spans
placed_elsewhere gap last name spans other = filter_map_all (placed_on name) (is_closed gap last) spans (λ s. passed_elsewhere gap last (placed_on name s) other)

first_up_to : (gap first : ℕ) (done : List Span) (run : Span) → AreApartBy gap first (done ++ run ∷ []) → first ≤ run.start
first_up_to gap first [] run a = a.0
first_up_to gap first (x ∷ done) run a = let h = first_up_to gap (x.stop + gap + 1) done run a.2 in omega arith

-- a record at or past the start of the last run closes those before that
pub passed_before : (gap first : ℕ) (last : Interval) (name : List ℕ) (done : List Span) (run : Span) → AreApartBy gap first (done ++ run ∷ []) → run.start ≤ last.start → filter (is_closed gap last) (map (placed_on name) done) ≡ map (placed_on name) done
passed_before gap first last name [] run apart up = refl
passed_before gap first last name (x ∷ done) run apart up = grind (arith, (passed_before gap (x.stop + gap + 1) last name done run apart.2 up), first_up_to)

module _ (keep : Feature → Bool) where
  -- a chromosome without records has none of some of them
  pub some_absent : (name : List ℕ) (records : List Feature) (more : List Interval) → has_records name (intervals_of records ++ more) ≡ false → has_records name (intervals_of (filter keep records) ++ more) ≡ false
  some_absent name [] more f = f
  some_absent name (r ∷ rs) more f =
      grind (arith, (some_absent name rs more (or_parts (bytes_eq r.chrom name) (has_records name (intervals_of rs ++ more)) f).1))

module _ (strand : MergeStrand) where
  pub counted_absent : (name : List ℕ) (past : List Feature) → has_records name (intervals_of past) ≡ false → has_records name (counted strand past) ≡ false
  counted_absent name past f =
      let all : has_records name (intervals_of past ++ []) ≡ false = ap (λ rs. has_records name rs) (append-nil (intervals_of past)) ∙ f in
      ap (λ rs. has_records name rs) (sym (append-nil (counted strand past))) ∙ some_absent (λ r. is_counted strand r.strand) name past [] all

  pub counted-append : (xs ys : List Feature) → counted strand (xs ++ ys) ≡ counted strand xs ++ counted strand ys
  counted-append xs ys = grind (arith, filter-append, map-append)

  -- one more that is merged, and one that isn't
  pub counted_next : (past : List Feature) (r : Feature) → is_counted strand r.strand ≡ true → counted strand (past ++ r ∷ []) ≡ counted strand past ++ interval_of r ∷ []
  counted_next past r t = counted-append past (r ∷ []) ∙ ap (λ rs. counted strand past ++ intervals_of rs) (cond-true (is_counted strand r.strand) (r ∷ []) [] t)

-- What follows of every list of which more and more is settled as records come.

-- what is settled begins what is settled later
pub stays : {T : Type 0} (settled whole : List Feature → List T) (Taken : List Feature → Type 0) → SettlesMore settled whole Taken → SettledStays settled Taken
stays settled whole Taken h past [] t = ([], ap settled (append-nil past) ∙ sym (append-nil (settled past)))
stays {T} settled whole Taken h past (r ∷ rs) t =
    let grown : (past ++ r ∷ []) ++ rs ≡ past ++ r ∷ rs = append_assoc past (r ∷ []) rs in
    let t_grown = subst Taken (sym grown) t in
    let one = h.next past r (h.prefix (past ++ r ∷ []) rs t_grown) in
    let more = stays {T = T} settled whole Taken h (past ++ r ∷ []) rs t_grown in
    (one.0 ++ more.0, ap settled (sym grown) ∙ more.1 ∙ ap (λ l. l ++ more.0) one.1 ∙ append_assoc (settled past) one.0 more.0)

-- and the whole of every longer list
pub begins : {T : Type 0} (settled whole : List Feature → List T) (Taken : List Feature → Type 0) → SettlesMore settled whole Taken → SettledBegins settled whole Taken
begins settled whole Taken h = grind (arith, stays, append_assoc)
