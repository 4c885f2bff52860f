-- Lemmas on records of one chromosome that come after others.
use Rattle.std.specs.List.{All}
use Rattle.bt_lines.proofs.Std.{arith, common_steps, nat_tests, ◌≡◌, ◌∙◌, ◌⊎◌, ℕ, suc, ◌+◌, ◌-◌, ◌^◌, ◌<◌, ◌≤◌, ◌&&◌, ◌||◌, ◌++◌, Bool, List, [], ◌∷◌, All-cons, All-head, All-nil, All-tail, and_parts, ap, append-nil, append_assoc, bytes_eq, cases_Bool, false, false≢true, inl, inr, le-ltb, length, length-append, list_all, list_all-append, list_any, list_any-append, map, map-append, max, min, nat_lt, not, refl, subst, sym, true}
use Rattle.bt_bed.specs.model.Feature.{Feature, Interval, interval_of, intervals_of, is_same_strand, length_of}
use Rattle.bt_bed.specs.model.Order.{is_among}
use Rattle.bt_bed.proofs.lemmas.parse.NameLemmas.{same_name, name_eq, name_eq-sym}
use Rattle.bt_front.specs.model.Extents.{extents_in}
use Rattle.bt_front.specs.calls.Chromosomes.{is_last_name, widened}
use Rattle.bt_front.specs.declared.survey.Survey.{Survey}
use Rattle.bt_front.specs.declared.survey.records_seen.RecordsSeen.{RecordsSeen}
use Rattle.bt_front.specs.inside.Seeing.{HasEntered, Sees, last_end}
use Rattle.bt_front.specs.model.Odd.{is_header_name}
use Rattle.bt_front.specs.calls.Survey.{AreQuiet}
use Rattle.bt_front.specs.model.Survey.{AreRecordsSeen, AreSeen, are_together, chroms_of, distinct, extents_of, is_plain_record, largest, largest_end}
use Rattle.bt_front.proofs.lemmas.survey.ExtentLemmas.{chroms_more, extent_names, extents_again, extents_new, largest_more}
use Rattle.bt_front.proofs.lemmas.survey.SeenLemmas.{lacks, longest_of}
use Rattle.bt_front.proofs.lemmas.survey.TogetherLemmas.{among_distinct, comes_back, last_among, last_distinct, together_again, together_new}

-- ---- widening

widened_none : (rs : List Interval) → widened 0 rs ≡ rs
widened_none [] = refl
widened_none (r ∷ []) = same_stop r (max r.stop 0) (omega arith)
  where
    same_stop : (r : Interval) (stop : ℕ) → stop ≡ r.stop
        → (let e : Interval = record { chrom = r.chrom; start = r.start; stop = stop } in e ∷ []) ≡ r ∷ []
    same_stop r stop e = rw e refl
widened_none (r ∷ s ∷ rs) = ap (λ (l : List Interval). r ∷ l) (widened_none (s ∷ rs))

widened_twice : (a b : ℕ) (rs : List Interval) → widened b (widened a rs) ≡ widened (max a b) rs
widened_twice a b [] = refl
widened_twice a b (r ∷ []) = stops_same r (max (max r.stop a) b) (max r.stop (max a b)) (omega arith)
  where
    stops_same : (r : Interval) (one other : ℕ) → one ≡ other
        → (let e : Interval = record { chrom = r.chrom; start = r.start; stop = one } in e ∷ []) ≡ (let f : Interval = record { chrom = r.chrom; start = r.start; stop = other } in f ∷ [])
    stops_same r one other e = rw e refl
widened_twice a b (r ∷ s ∷ rs) = twice_after a b r s rs (widened_twice a b (s ∷ rs))
  where
    twice_after : (a b : ℕ) (r s : Interval) (rs : List Interval) → widened b (widened a (s ∷ rs)) ≡ widened (max a b) (s ∷ rs)
        → widened b (r ∷ widened a (s ∷ rs)) ≡ r ∷ widened (max a b) (s ∷ rs)
    twice_after a b r s [] e = ap (λ (l : List Interval). r ∷ l) e
    twice_after a b r s (t ∷ rs) e = ap (λ (l : List Interval). r ∷ l) e

widened_last : (n : ℕ) (rs : List Interval) (r : Interval) → widened n (rs ++ r ∷ []) ≡ rs ++ record { chrom = r.chrom; start = r.start; stop = max r.stop n } ∷ []
widened_last n [] r = refl
widened_last n (s ∷ []) r = refl
widened_last n (s ∷ t ∷ rs) r = ap (λ (l : List Interval). s ∷ l) (widened_last n (t ∷ rs) r)

-- ---- one more record

last_push : (ns : List (List ℕ)) (c name : List ℕ) → is_last_name (ns ++ c ∷ []) name ≡ bytes_eq c name
last_push [] c name = refl
last_push (n ∷ []) c name = refl
last_push (n ∷ m ∷ ns) c name = last_push (m ∷ ns) c name

-- the chromosome that was gone on to is the last one, or new
pub entered_last : (past : List Interval) (name : List ℕ) (start : ℕ) (table : List Interval) → are_together (chroms_of past) ≡ true → HasEntered (extents_of past) name start table
    → (is_last_name (chroms_of past) name ≡ true) ⊎ (is_among (chroms_of past) name ≡ false)
entered_last past name start table together entered = go entered.is
  where
    go : ((is_last_name (chroms_of (extents_of past)) name ≡ true) × (table ≡ extents_of past))
        ⊎ ((is_among (chroms_of (extents_of past)) name ≡ false) × (is_header_name name ≡ false)
        × (table ≡ extents_of past ++ record { chrom = name; start = start; stop = 0 } ∷ []))
        → (is_last_name (chroms_of past) name ≡ true) ⊎ (is_among (chroms_of past) name ≡ false)
    go (inl is) = inl (sym (last_distinct (chroms_of past) name together) ∙ sym (ap (λ (l : List (List ℕ)). is_last_name l name) (extent_names past)) ∙ is.0)
    go (inr is) = inr (sym (among_distinct (chroms_of past) name) ∙ sym (ap (λ (l : List (List ℕ)). is_among l name) (extent_names past)) ∙ is.0)

-- its first record keeps the names together
together_first : (past : List Interval) (r : Interval) → are_together (chroms_of past) ≡ true
    → (is_last_name (chroms_of past) r.chrom ≡ true) ⊎ (is_among (chroms_of past) r.chrom ≡ false) → are_together (chroms_of (past ++ r ∷ [])) ≡ true
together_first past r together (inl last) = ap are_together (chroms_more past r) ∙ together_again (chroms_of past) r.chrom together last
together_first past r together (inr new) = ap are_together (chroms_more past r) ∙ together_new (chroms_of past) r.chrom together new

last_first : (past : List Interval) (r : Interval) (name : List ℕ) → r.chrom ≡ name → is_last_name (chroms_of (past ++ r ∷ [])) name ≡ true
last_first past r name on = rw (chroms_more past r, last_push (chroms_of past) r.chrom name) (name_eq r.chrom name on)

-- and it widens the extent
pub extents_first : (past : List Interval) (r : Interval) (table : List Interval) → are_together (chroms_of past) ≡ true → HasEntered (extents_of past) r.chrom r.start table
    → extents_of (past ++ r ∷ []) ≡ widened r.stop table
extents_first past r table together entered = go entered.is
  where
    zero_first : (rs : List Interval) (r : Interval)
        → rs ++ record { chrom = r.chrom; start = r.start; stop = max r.stop 0 } ∷ [] ≡ rs ++ record { chrom = r.chrom; start = r.start; stop = max 0 r.stop } ∷ []
    zero_first rs r = ap (λ (n : ℕ). rs ++ record { chrom = r.chrom; start = r.start; stop = n } ∷ []) (omega arith)

    go : ((is_last_name (chroms_of (extents_of past)) r.chrom ≡ true) × (table ≡ extents_of past))
        ⊎ ((is_among (chroms_of (extents_of past)) r.chrom ≡ false) × (is_header_name r.chrom ≡ false)
        × (table ≡ extents_of past ++ record { chrom = r.chrom; start = r.start; stop = 0 } ∷ []))
        → extents_of (past ++ r ∷ []) ≡ widened r.stop table
    go (inl is) =
        let last : is_last_name (chroms_of past) r.chrom ≡ true = sym (last_distinct (chroms_of past) r.chrom together) ∙ sym (ap (λ (l : List (List ℕ)). is_last_name l r.chrom) (extent_names past)) ∙ is.0 in
        rw is.1 (extents_again past r together last)
    go (inr is) =
        let new : is_among (chroms_of past) r.chrom ≡ false = sym (among_distinct (chroms_of past) r.chrom) ∙ sym (ap (λ (l : List (List ℕ)). is_among l r.chrom) (extent_names past)) ∙ is.0 in
        rw (is.2, widened_last) (extents_new past r new ∙ zero_first (extents_of past) r)

-- ---- more records on the last chromosome

-- what becomes of names and extents
pub record GoesOn (past more : List Interval) : Type 0 where
  pub together : are_together (chroms_of (past ++ more)) ≡ true
  pub extents : extents_of (past ++ more) ≡ widened (largest (map (λ r. r.stop) more)) (extents_of past)

pub goes_on : (past more : List Interval) (name : List ℕ) → are_together (chroms_of past) ≡ true → is_last_name (chroms_of past) name ≡ true → All (λ r. r.chrom ≡ name) more → GoesOn past more
goes_on past [] name together last on = record {
  together = rw (append-nil past) together;
  extents = rw (append-nil past) (sym (widened_none (extents_of past)));
}
goes_on past (r ∷ more) name together last on =
    let here : r.chrom ≡ name = All-head (λ (s : Interval). s.chrom ≡ name) r more on in
    let last_r : is_last_name (chroms_of past) r.chrom ≡ true = rw here last in
    let rest = goes_on (past ++ r ∷ []) more name (together_first past r together (inl last_r)) (last_first past r name here)
    (All-tail (λ (s : Interval). s.chrom ≡ name) r more on) in
    let joined : (past ++ r ∷ []) ++ more ≡ past ++ r ∷ more = append_assoc past (r ∷ []) more in record {
      together = subst (λ (l : List Interval). are_together (chroms_of l) ≡ true) joined rest.together;
      extents = ap extents_of (sym joined) ∙ rest.extents ∙ ap (widened (largest (map (λ (s : Interval). s.stop) more))) (extents_again past r together last_r)
          ∙ widened_twice r.stop (largest (map (λ (s : Interval). s.stop) more)) (extents_of past);
    }

-- ---- records that nothing leaves to bedtools

chroms_on : (name : List ℕ) (rs : List Feature) → All (λ r. r.chrom ≡ name) rs → All (λ r. r.chrom ≡ name) (intervals_of rs)
chroms_on name [] on = All-nil (λ (r : Interval). r.chrom ≡ name)
chroms_on name (r ∷ rs) on =
    All-cons (λ (s : Interval). s.chrom ≡ name) (interval_of r) (intervals_of rs) (All-head (λ (s : Feature). s.chrom ≡ name) r rs on)
    (chroms_on name rs (All-tail (λ (s : Feature). s.chrom ≡ name) r rs on))

stops_of : (rs : List Feature) → map (λ (r : Interval). r.stop) (intervals_of rs) ≡ map (λ (r : Feature). r.stop) rs
stops_of [] = refl
stops_of (r ∷ rs) = ap (λ (l : List ℕ). r.stop ∷ l) (stops_of rs)

plain_one : (header far : Bool) → header ≡ false → far ≡ false → not (header || far) ≡ true
plain_one header far one other = rw (one, other) refl

-- records on a chromosome whose name isn't odd, which end before the last bin does
plain_on : (name : List ℕ) (rs : List Feature) → All (λ r. r.chrom ≡ name) rs → is_header_name name ≡ false → last_end rs ≤ largest_end → list_all is_plain_record rs ≡ true
plain_on name [] on header low = refl
plain_on name (r ∷ rs) on header low =
    let here : r.chrom ≡ name = All-head (λ (s : Feature). s.chrom ≡ name) r rs on in
    let within : r.stop ≤ largest_end = omega (arith, low) in
    let rest = plain_on name rs (All-tail (λ (s : Feature). s.chrom ≡ name) r rs on) header (omega (arith, low)) in
    rw (plain_one (is_header_name r.chrom) (nat_lt largest_end r.stop) (rw here header) (le-ltb largest_end r.stop within), rest) refl

not_header : (header far : Bool) → not (header || far) ≡ true → header ≡ false
not_header true far e = absurd (false≢true e)
not_header false far e = refl

-- the name of a chromosome of plain records isn't odd
plain_name : (name : List ℕ) (rs : List Feature) → list_all is_plain_record rs ≡ true → is_among (chroms_of (intervals_of rs)) name ≡ true → is_header_name name ≡ false
plain_name name [] plain among = absurd (false≢true among)
plain_name name (r ∷ rs) plain among =
    let parts = and_parts (is_plain_record r) (list_all is_plain_record rs) plain in
    elim (cases_Bool (bytes_eq r.chrom name)) [
      | inl is ↦ (let same : r.chrom ≡ name = same_name r.chrom name is in
          subst (λ (n : List ℕ). is_header_name n ≡ false) same (not_header (is_header_name r.chrom) (nat_lt largest_end r.stop) parts.0))
      | inr isnt ↦ (let rest : is_among (chroms_of (intervals_of rs)) name ≡ true = rw isnt at among in plain_name name rs parts.1 rest)
    ]

-- what is known of a chromosome that was gone on to
pub record OnChrom (past : List Feature) (name : List ℕ) (start : ℕ) (table : List Interval) : Type 0 where
  pub entered : HasEntered (extents_of (intervals_of past)) name start table
  pub quiet : AreQuiet past

pub on_chrom : (past : List Feature) (old : Survey) (name : List ℕ) (start : ℕ) (table : List Interval) → AreSeen past old
    → HasEntered (extents_in old.chromosomes) name start table → OnChrom past name start table
on_chrom past old name start table seen entered = record {
  entered = subst (λ (l : List Interval). HasEntered l name start table) seen.chromosomes entered;
  quiet = record { plain = seen.plain; together = seen.together };
}

name_is_plain : (past : List Feature) (name : List ℕ) (start : ℕ) (table : List Interval) → OnChrom past name start table → is_header_name name ≡ false
name_is_plain past name start table on = go on.entered.is
  where
    go : ((is_last_name (chroms_of (extents_of (intervals_of past))) name ≡ true) × (table ≡ extents_of (intervals_of past)))
        ⊎ ((is_among (chroms_of (extents_of (intervals_of past))) name ≡ false) × (is_header_name name ≡ false)
        × (table ≡ extents_of (intervals_of past) ++ record { chrom = name; start = start; stop = 0 } ∷ []))
        → is_header_name name ≡ false
    go (inl is) =
        let last : is_last_name (chroms_of (intervals_of past)) name ≡ true =
        sym (last_distinct (chroms_of (intervals_of past)) name on.quiet.together) ∙ sym (ap (λ (l : List (List ℕ)). is_last_name l name) (extent_names (intervals_of past))) ∙ is.0 in
        plain_name name past on.quiet.plain (last_among (chroms_of (intervals_of past)) name last)
    go (inr is) = is.1

together_on : (past : List Interval) (rs : List Interval) (name : List ℕ) → are_together (chroms_of past) ≡ true
    → (is_last_name (chroms_of past) name ≡ true) ⊎ (is_among (chroms_of past) name ≡ false) → All (λ r. r.chrom ≡ name) rs → are_together (chroms_of (past ++ rs)) ≡ true
together_on past [] name together either on = rw (append-nil past) together
together_on past (r ∷ rs) name together either on =
    let here : r.chrom ≡ name = All-head (λ (s : Interval). s.chrom ≡ name) r rs on in
    let first = together_first past r together (rw here either) in
    let rest = goes_on (past ++ r ∷ []) rs name first (last_first past r name here) (All-tail (λ (s : Interval). s.chrom ≡ name) r rs on) in
    subst (λ (l : List Interval). are_together (chroms_of l) ≡ true) (append_assoc past (r ∷ []) rs) rest.together

-- records on it that end before the last bin does
pub quiet_on : (past : List Feature) (name : List ℕ) (start : ℕ) (table : List Interval) (rs : List Feature) → OnChrom past name start table
    → All (λ r. r.chrom ≡ name) rs → last_end rs ≤ largest_end → AreQuiet (past ++ rs)
quiet_on past name start table rs on all low = record {
  plain = rw (list_all-append, on.quiet.plain, plain_on name rs all (name_is_plain past name start table on) low) refl;
  together = rw (map-append interval_of past rs) (together_on (intervals_of past) (intervals_of rs) name on.quiet.together
      (entered_last (intervals_of past) name start table on.quiet.together on.entered) (chroms_on name rs all));
}

extents_on : (past : List Interval) (r : Interval) (more : List Interval) (name : List ℕ) (start : ℕ) (table : List Interval) → are_together (chroms_of past) ≡ true
    → HasEntered (extents_of past) name start table → r.chrom ≡ name → r.start ≡ start → All (λ s. s.chrom ≡ name) more
    → extents_of (past ++ r ∷ more) ≡ widened (largest (map (λ s. s.stop) (r ∷ more))) table
extents_on past r more name start table together entered here starts on =
    let entered_here : HasEntered (extents_of past) r.chrom r.start table = rw (here, starts) entered in
    let first = together_first past r together (entered_last past r.chrom r.start table together entered_here) in
    let rest = goes_on (past ++ r ∷ []) more name first (last_first past r name here) on in
    ap extents_of (sym (append_assoc past (r ∷ []) more)) ∙ rest.extents
    ∙ ap (widened (largest (map (λ (s : Interval). s.stop) more))) (extents_first past r table together entered_here)
    ∙ widened_twice r.stop (largest (map (λ (s : Interval). s.stop) more)) table

-- what was looked at after other records
seen_more : (past rs : List Feature) (old new : RecordsSeen) → AreRecordsSeen past old → Sees old rs new → AreRecordsSeen (past ++ rs) new
seen_more past rs old new seen sees = record {
  count = omega (arith, sees.count, seen.count, length-append past rs);
  longest = sees.longest ∙ rw (map-append interval_of past rs, map-append length_of (intervals_of past) (intervals_of rs), largest_more, seen.longest) refl;
  lacks_strand = sees.lacks_strand ∙ rw (list_any-append, seen.lacks_strand) refl;
}

-- all records of a batch were seen
pub all_seen : (past rs : List Feature) (r : Feature) (more : List Feature) (name : List ℕ) (start : ℕ) (table : List Interval) (old new : Survey) → AreSeen past old
    → OnChrom past name start table → rs ≡ r ∷ more → All (λ r. r.chrom ≡ name) rs → r.start ≡ start → last_end rs ≤ largest_end
    → extents_in new.chromosomes ≡ widened (last_end rs) table → Sees old.records rs new.records → AreSeen (past ++ rs) new
all_seen past rs r more name start table old new seen on are all starts low widens sees =
    let quiet = quiet_on past name start table rs on all low in
    let all_are : All (λ (s : Feature). s.chrom ≡ name) (r ∷ more) = subst (λ (l : List Feature). All (λ (s : Feature). s.chrom ≡ name) l) are all in
    let here : r.chrom ≡ name = All-head (λ (s : Feature). s.chrom ≡ name) r more all_are in
    let intervals : intervals_of (past ++ rs) ≡ intervals_of past ++ interval_of r ∷ intervals_of more = map-append interval_of past rs ∙ rw are refl in
    let extents = extents_on (intervals_of past) (interval_of r) (intervals_of more) name start table on.quiet.together on.entered here starts
    (chroms_on name more (All-tail (λ (s : Feature). s.chrom ≡ name) r more all_are)) in
    let ends : largest (map (λ (s : Interval). s.stop) (interval_of r ∷ intervals_of more)) ≡ last_end rs =
    ap (λ (l : List ℕ). largest (r.stop ∷ l)) (stops_of more) ∙ ap last_end (sym are) in
    record {
      plain = quiet.plain;
      together = quiet.together;
      chromosomes = widens ∙ ap (λ (n : ℕ). widened n table) (sym ends) ∙ sym (ap extents_of intervals ∙ extents);
      seen = seen_more past rs old.records new.records seen.seen sees;
    }
