-- What a complement says of one chromosome: its gaps, if they are wanted; those that are done by the last start, and the place up to which they are.
-- The file has what it owes of one chromosome.
use Rattle.bt_lines.proofs.Std.{rules, Option, ◌≡◌, ℕ, ◌<◌, inl, inr, List, [], ◌∷◌, ◌++◌, refl, ap, ◌∙◌, map, filter, flat_map, cond, Bool, true, false, bytes_eq, ◌≤◌, sym, arith, max, min, cases_Bool, cond-true, le-leb, map-append, Some, length, None, ◌⊎◌, suc, eqb, Result, Ok, Err, OnOk, option_map, option_eq, cond-false, flat_map-append, filter-append}
use Rattle.std.specs.declared.cmp.Ordering.TheVariants.{Equal}
use Rattle.bt_bed.specs.model.Feature.{Feature, intervals_of, interval_of, Interval, Span, placed_on, spans_on, span_of}
use Rattle.bt_bed.specs.model.BedLine.{interval_line, interval_lines}
use Rattle.bt_bed.specs.model.Genome.{Entry, genome_names}
use Rattle.bt_bed.specs.model.Order.{rank_order, rank_of}
use Rattle.bt_bed.specs.calls.Orders.{AreDistinct}
use Rattle.bt_bed.specs.model.Sorted.{has_records, Locus}
use Rattle.bt_runs.specs.model.Gaps.{gaps_of, gaps_on, is_asked, is_over, complement, settled_gaps}
use Rattle.bt_runs.specs.inside.Walk.{AreReached, Place, left_before, places, Does, EnterAnswers, FitsPast, PutsRestAtEnd, IsNamed, IsRanked, entry_at, going, is_reached, walk_step}
use Rattle.bt_runs.specs.inside.GapStep.{bare_gap, gap_between, gap_walk, last_gap}
use Rattle.bt_runs.proofs.lemmas.definitions.Standing.{has_records-push, compare_same, apart, found}
use Rattle.bt_runs.proofs.lemmas.Lists.{filter_map_all, filter_map_none}
use Rattle.bt_runs.proofs.lemmas.order.FileOrder.{spans_on-push_elsewhere, spans_on-none, spans_on-push_here}
use Rattle.bt_runs.proofs.lemmas.complement.Walks.{OneGap, one_gaps, span_between, EndBy, cover_gap, end_both, end_later, Walked, form_of, Held, Steps, ends, rank_entry, reaches, settles_items, steps, taken_front, entered_steps, going_to, step_starts}
use Rattle.bt_runs.proofs.lemmas.order.ByChromosome.{Divides, Owes, Written, intervals_next, name_at, size_there, found_at, found_entry, size_ranked}
use Rattle.bt_runs.specs.calls.Engine.{SettlesMore, AfterEach}
use Rattle.bt_lines.specs.calls.Names.{fault_value}
use Rattle.bt_lines.specs.calls.Output.{Output, Adds, FailsToAdd, Grown}
use Rattle.bt_lines.specs.declared.fault.Fault.{Fault}
use Rattle.bt_lines.proofs.lemmas.Writer.{grown_none}
use Rattle.bt_bed.specs.calls.GenomeTable.{entries}
use Rattle.bt_bed.proofs.lemmas.parse.NameLemmas.{name_eq, name_ne, same_name}
use Rattle.bt_runs.specs.calls.Complementing.{Complementing, IsAfter, complementing, kept_in, settled_lines, AreInGenomeOrder, kept_place, length_in}
use Rattle.bt_runs.specs.inside.GapRule.{Covers, seen, StandsOnChrom, complement_at, gap_rule, next_gap_lines}
use Rattle.bt_runs.specs.declared.complement.gap_cursor.GapCursor.{GapCursor}
use Rattle.bt_runs.proofs.lemmas.Engine.{enters, enters_cut, none_more}

-- the gaps of a chromosome, if they are wanted
abbrev pub part : Bool → List Interval → Entry → List Interval
part limit records entry = cond (is_asked limit records entry) (gaps_on records entry) []

flat_map-filter : {A : Type 0} (f : Entry → List A) (test : Entry → Bool) (xs : List Entry) → flat_map f (filter test xs) ≡ flat_map (λ x. cond (test x) (f x) []) xs
flat_map-filter f test [] = refl
flat_map-filter f test (x ∷ xs) = grind (arith, (flat_map-filter f test xs))

pub complement_parts : (limit : Bool) (entries : List Entry) (records : List Feature) → complement limit entries records ≡ flat_map (part limit (intervals_of records)) entries
unfolding complement
complement_parts limit entries records = flat_map-filter (gaps_on (intervals_of records)) (is_asked limit (intervals_of records)) entries

-- a gap as the only one of a list, or none
pub placed_between : (name : List ℕ) (start stop : ℕ) → map (placed_on name) (span_between start stop) ≡ gap_between name start stop
placed_between name start stop = grind arith

-- a chromosome without records is one gap
gaps_none : (size : ℕ) → gaps_of size [] ≡ span_between 0 size
gaps_none size = one_gaps size [] [] 0 (grind arith)

-- a record on another chromosome changes nothing
pub part_other : (limit : Bool) (past : List Interval) (r : Interval) (e : Entry) → bytes_eq r.chrom e.name ≡ false → part limit (past ++ r ∷ []) e ≡ part limit past e
part_other limit past r e f = rw (has_records-push e.name past r f, spans_on-push_elsewhere e.name past r f) refl

-- on the last record's chromosome those that end by its start are over, and the last gap isn't
pub placed_done : (names : List (List ℕ)) (last : Interval) (name : List ℕ) (done : List Span) → (rank_order names).compare name last.chrom ≡ Equal → EndBy last.start done → filter (is_over names last) (map (placed_on name) done) ≡ map (placed_on name) done
placed_done names last name [] equal ended = refl
placed_done names last name (s ∷ ss) equal ended = rw (equal, le-leb s.stop last.start ended.0, placed_done names last name ss equal ended.1) refl

-- the gaps of a chromosome by the last start on it, those that are done and the place that is kept
pub record Own (entry : Entry) (past : List Feature) (start : ℕ) (done : List Interval) (kept : ℕ) : Type 0 where
  pub spans : List Span
  pub done_is : done ≡ map (placed_on entry.name) spans
  pub one : OneGap entry.length (spans_on entry.name (intervals_of past)) spans kept
  pub ended : EndBy start spans
  pub ahead : kept < entry.length → start < entry.length

-- a record takes its span out of the last gap, and settles what lies before it
own_next : (entry : Entry) (past : List Feature) (start : ℕ) (done : List Interval) (kept : ℕ) (r : Feature) → Own entry past start done kept → entry.name ≡ r.chrom → start ≤ r.start → r.start < r.stop
    → Own entry (past ++ r ∷ []) r.start (done ++ gap_between entry.name kept (min r.start entry.length)) (max kept (min r.stop entry.length))
own_next entry past start done kept r own is up full =
    let gap = span_between kept (min r.start entry.length) in
    let ended = end_later start r.start own.spans up own.ended in
    let spans_are = ap (spans_on entry.name) (intervals_next past r) ∙ spans_on-push_here entry.name (intervals_of past) (interval_of r) (sym is) in
    record {
      spans = own.spans ++ gap;
      done_is =
          ap (λ l. l ++ gap_between entry.name kept (min r.start entry.length)) own.done_is
          ∙ ap (λ l. map (placed_on entry.name) own.spans ++ l) (sym (grind arith))
          ∙ sym (map-append (placed_on entry.name) own.spans gap);
      one = rw spans_are (cover_gap entry.length (spans_on entry.name (intervals_of past)) own.spans kept (span_of (interval_of r)) own.one ended full);
      ended = end_both r.start own.spans gap ended (grind arith);
      ahead = λ less. omega arith;
    }

module _ (limit : Bool) (entries : List Entry) where
  abbrev pub gaps : Walked Interval ℕ
  gaps = record {
    walk = gap_walk limit;
    part = λ entry past. part limit (intervals_of past) entry;
    pick = λ last gaps. filter (is_over (genome_names entries) last) gaps;
    whole = complement limit entries;
    settled = settled_gaps limit entries;
  }

  -- the gaps that are done end by the last start, and the last one doesn't
  divides_own : (entry : Entry) (past : List Feature) (last : Interval) (done : List Interval) (kept : ℕ) → Own entry past last.start done kept → entry.name ≡ last.chrom → has_records entry.name (intervals_of past) ≡ true → Divides (form_of gaps) Own entry past last done kept
  divides_own entry past last done kept own is some =
      let names = genome_names entries in
      let placed = placed_between entry.name kept entry.length in
      record {
        all = (grind (arith, one_gaps))
            ∙ map-append (placed_on entry.name) own.spans (span_between kept entry.length)
            ∙ ap (λ l. map (placed_on entry.name) own.spans ++ l) placed
            ∙ ap (λ l. l ++ gap_between entry.name kept entry.length) (sym own.done_is);
        done_over = rw own.done_is (placed_done names last entry.name own.spans (compare_same names entry.name last.chrom is) own.ended);
        left_open = ap (filter (is_over names last)) (sym placed) ∙ (grind arith);
      }

  nothing_settled : settled_gaps limit entries [] ≡ []
  unfolding settled_gaps
  nothing_settled = refl

  pub owes : Owes (form_of gaps) Own (genome_names entries)
  owes = record {
    nothing = nothing_settled;
    picks = λ last. grind (arith, filter-append);
    elsewhere = λ entry past r other. ap (λ l. part limit l entry) (intervals_next past r) ∙ part_other limit (intervals_of past) (interval_of r) entry other;
    is_before = λ last entry past less. grind (arith, filter_map_all);
    is_behind = λ last entry past greater none. grind (arith, filter_map_none);
    none = grind (arith, spans_on-none, gaps_none);
    next = λ entry past start done kept r own is up full. own_next entry past start done kept r own is up full;
    divides = divides_own;
  }

  -- the gaps come in the order of the genome file
  pub written : (past : List Feature) → Written (form_of gaps) Own entries past
  unfolding settled_gaps
  written past = grind (arith, complement_parts)

-- What a complement keeps shows which chromosome its walk has reached, and up to where; so its exact step writes what the records settle.

-- with -L no chromosome without records is written
pub no_bares : (entries : List Entry) → flat_map (bare_gap true) entries ≡ []
no_bares [] = refl
no_bares (entry ∷ entries) = no_bares entries

-- the place that a complement shows
abbrev pub shown_place : List Entry → Option (Place ℕ) → List Locus
shown_place entries current = places (λ end. end) entries current

module _ (limit : Bool) (entries : List Entry) where
  -- what is reached is kept
  pub held_kept : (past : List Feature) (current : Option (Place ℕ)) → AreDistinct (genome_names entries) → Held (gaps limit entries) Own entries past current → shown_place entries current ≡ kept_place entries past
  unfolding kept_place
  held_kept past current distinct none = grind (arith, rank_entry, apart, size_there)

  -- a complement whose place is the one that is kept has reached the last record's chromosome
  held_is : (past : List Feature) (current : Option (Place ℕ)) → AreInGenomeOrder entries past → AreReached entries current → shown_place entries current ≡ kept_place entries past → Held (gaps limit entries) Own entries past current
  held_is past current t at same =
      let other = reaches (gaps limit entries) Own entries (owes limit entries) (written limit entries) past t in
      grind (arith, held_kept)

  -- so one more record moves it as its walk does, and at the end its walk's rest is left
  pub moves : (past : List Feature) (r : Feature) (current : Option (Place ℕ)) → AreInGenomeOrder entries (past ++ r ∷ []) → AreReached entries current → shown_place entries current ≡ kept_place entries past → Steps (gaps limit entries) Own entries past r current
  moves past r current t at same = steps (gaps limit entries) Own entries (owes limit entries) (written limit entries) past r current t (held_is past current (taken_front entries past (r ∷ []) t) at same)

  pub leaves : (past : List Feature) (current : Option (Place ℕ)) → AreInGenomeOrder entries past → AreReached entries current → shown_place entries current ≡ kept_place entries past
      → complement limit entries past ≡ settled_gaps limit entries past ++ left_before last_gap (bare_gap limit) entries current (length entries)
  leaves past current t at same = ends (gaps limit entries) Own entries (owes limit entries) (written limit entries) past current t.distinct (held_is past current t at same)

  -- more and more gaps are settled
  pub settles_gaps : SettlesMore (settled_gaps limit entries) (complement limit entries) (AreInGenomeOrder entries)
  settles_gaps = settles_items (gaps limit entries) Own entries (owes limit entries) (written limit entries)

-- What the rule of a complement does with a record: by the step of its walk, and so after every past.

-- a chromosome that the genome file lacks has no bases
pub no_bases : (table : List Entry) (name : List ℕ) → rank_of (genome_names table) name ≡ None → length_in table name ≡ 0
no_bases [] name none = refl
no_bases (entry ∷ table) name none =
    elim (cases_Bool (bytes_eq entry.name name)) [
      | inl t ↦ let first = cond-true (bytes_eq entry.name name) (Some 0) (option_map (λ n. suc n) (rank_of (genome_names table) name)) t in absurd (cc)
      | inr f ↦
          cond-false (bytes_eq entry.name name) entry.length (length_in table name) f ∙ no_bases table name (grind arith)
    ]

-- the chromosome of the rank of a name has that name
pub on_found : (table : List Entry) (name : List ℕ) (rank : ℕ) → rank_of (genome_names table) name ≡ Some rank → bytes_eq (entry_at table rank).name name ≡ true
on_found table name rank is = grind (arith, name_eq, (found_entry table name rank (found name_at table name rank is)))

-- one that was reached is the one of a name, if that is its name
module _ (table : List Entry) (place : Place ℕ) (at : IsRanked table place.rank) (name : List ℕ) where
  rank_on : is_reached table (Some place) name ≡ true → rank_of (genome_names table) name ≡ Some place.rank
  rank_on on = ap (rank_of (genome_names table)) (sym (same_name (entry_at table place.rank).name name on)) ∙ at.named

  pub not_on : (rank_of (genome_names table) name ≡ Some place.rank → ⊥) → is_reached table (Some place) name ≡ false
  not_on other = name_ne (entry_at table place.rank).name name (λ e. other (ap (rank_of (genome_names table)) (sym e) ∙ at.named))

abbrev place_at : ℕ → Option ℕ → Option (Place ℕ)
place_at end rank = option_map (λ rank. record { rank = rank; known = end }) rank

-- the step of the walk on the chromosome that the records are on
module _ (limit : Bool) (table : List Entry) (r : Feature) (name : List ℕ) (end bases : ℕ) (is : bases ≡ length_in table r.chrom) where
  -- if none counts
  nothing : (rank : Option ℕ) → bases ≡ 0 → ◌≡◌ {A = Option (Place ℕ) × List Interval} (place_at end rank, []) (place_at (max end (min r.stop bases)) rank, gap_between name end (min r.start bases))
  nothing rank none = grind arith

  pub step_at : (rank : Option ℕ) → ((n : ℕ) → rank ≡ Some n → IsNamed table n name)
      → (is_reached table (place_at end rank) r.chrom ≡ true) ⊎ (rank_of (genome_names table) r.chrom ≡ None)
      → walk_step (gap_walk limit) table (place_at end rank) r ≡ (place_at (max end (min r.stop bases)) rank, gap_between name end (min r.start bases))
  step_at None named (inl on) = absurd (cc)
  step_at None named (inr none) = grind (arith, no_bases)
  step_at (Some rank) named (inl on) = grind (arith, (size_ranked table r.chrom rank (rank_on table (record { rank = rank; known = end }) (named rank refl).placed r.chrom on)))
  step_at (Some rank) named (inr none) =
      let place : Place ℕ = record { rank = rank; known = end } in
      grind (arith, (not_on table place (named rank refl).placed r.chrom (λ e. let n = none in absurd (cc))), (nothing (Some rank) (is ∙ no_bases table r.chrom none)))

pub cursor_reached : (cursor : GapCursor) → AreReached (entries cursor.genome.now) (seen cursor)
cursor_reached cursor = grind arith

-- a rule of gaps
module _ (old : Complementing) (at : AreReached old.entries old.current) where
  -- whatever complement took the records of the past, it has this table and limit, and its place is the one that is kept
  record Same (first : Complementing) (past : List Feature) : Type 0 where
    same_entries : first.entries ≡ old.entries
    same_limit : first.limit ≡ old.limit
    kept : kept_in old ≡ kept_place old.entries past

  same : (first : Complementing) (past : List Feature) → IsAfter first past old → Same first past
  same first past stands = grind arith

  -- what is done with a record exactly is done after every past
  pub fits : (r : Feature) → FitsPast gap_rule old r
  fits r =
      let settles : AfterEach complementing old r (λ first past. settled_lines first (past ++ r ∷ []) ≡ settled_lines first past ++ next_gap_lines old r) = λ first past stands taken.
      let s = same first past stands in
      rw (s.same_entries, s.same_limit) (ap interval_lines (moves old.limit old.entries past r old.current (rw s.same_entries at taken) at s.kept).settles
      ∙ flat_map-append interval_line (settled_gaps old.limit old.entries past) (walk_step (gap_walk old.limit) old.entries old.current r).1) in
      record {
        settles = settles;
        next = λ new is first past stands taken.
            let s = same first past stands in
            let more = rw s.same_entries at taken in
            rw is (record {
              same_entries = sym s.same_entries;
              same_limit = sym s.same_limit;
              kept = rw s.same_entries (held_kept old.limit old.entries (past ++ r ∷ []) _ more.distinct (moves old.limit old.entries past r old.current more at s.kept).held);
            });
        quiet = λ first past stands taken q. (none_more (settled_lines first past) (next_gap_lines old r) _ (settles first past stands taken) q.settles, λ wanted. wanted);
      }

  -- the lines that are left
  abbrev left : ℕ → List Interval
  left stop = left_before last_gap (bare_gap old.limit) old.entries old.current stop

  pub gap_finishes : {A : Type 0} (out : Output) (stop : ℕ) (result : Result A Fault) (grown : Output) → stop ≡ length old.entries → Adds out (interval_lines (left stop)) result grown
      → PutsRestAtEnd gap_rule old out result grown
  gap_finishes out stop result grown all p = record {
    left = interval_lines (left stop);
    is = λ first past stands taken.
        let s = same first past stands in
        rw (s.same_entries, s.same_limit, all) (ap interval_lines (leaves old.limit old.entries past old.current (rw s.same_entries at taken) at s.kept)
        ∙ flat_map-append interval_line (settled_gaps old.limit old.entries past) (left (length old.entries)));
    adds = p;
  }

  -- a chromosome is entered
  module _ (chrom : List ℕ) (out : Output) where
    abbrev Enters : Result (Unit {0}) Fault → Complementing → Output → Type 0
    Enters result new grown = EnterAnswers gap_rule old chrom out result new grown

    -- the one that was reached, or one that the genome file lacks
    pub enters_here : (bases : ℕ) → Enters (Ok tt) (record { entries = old.entries; limit = old.limit; current = old.current; bases = bases }) out
    enters_here bases = enters fits [] {mid = record { entries = old.entries; limit = old.limit; current = old.current; bases = bases }} (grown_none out) (λ r on. refl) (λ r on new is. is) (λ r on wanted. wanted)

    module _ (place : Place ℕ) (items : List Interval) (goes : going (gap_walk old.limit) old.entries old.current chrom ≡ (Some place, items)) where
      -- the next one, after what is left before it
      pub enters_next : (bases : ℕ) (mid : Output) → is_reached old.entries (Some place) chrom ≡ true → Grown out (interval_lines items) mid
          → Enters (Ok tt) (record { entries = old.entries; limit = old.limit; current = Some place; bases = bases }) mid
      enters_next bases mid here p =
          let steps = λ (r : Feature) (on : r.chrom ≡ chrom). entered_steps (gap_walk old.limit) old.entries old.current r place items (ap (going (gap_walk old.limit) old.entries old.current) on ∙ goes) (ap (is_reached old.entries (Some place)) on ∙ here) in
          enters fits (interval_lines items) {mid = record { entries = old.entries; limit = old.limit; current = Some place; bases = bases }} p
          (λ r on. ap interval_lines (steps r on).1 ∙ flat_map-append interval_line items (walk_step (gap_walk old.limit) old.entries (Some place) r).1)
          (λ r on new is. is ∙ ap (λ (current : Option (Place ℕ)). record { entries = old.entries; limit = old.limit; current = current; bases = length_in old.entries r.chrom }) (sym (steps r on).0))
          (λ r on wanted. wanted)

      -- what is left before it can't be written
      pub enters_failing : (fault : Fault) (new : Complementing) (grown : Output) → FailsToAdd out (interval_lines items) (fault_value fault) grown → Enters (Err fault) new grown
      enters_failing fault new grown p = enters_cut fits (interval_lines items) fault new grown p (λ r on.
          let starts = step_starts (gap_walk old.limit) old.entries old.current r in
          let way = ap (going (gap_walk old.limit) old.entries old.current) on ∙ goes in
          (interval_lines starts.0, ap interval_lines (starts.1 ∙ ap (λ s. s.1 ++ starts.0) way) ∙ flat_map-append interval_line items starts.0))

-- a cursor takes a record on its chromosome
module _ (limit : Bool) (old : GapCursor) (r : Feature) (on : StandsOnChrom (complement_at limit old) r.chrom) where
  step_is : walk_step (gap_walk limit) (entries old.genome.now) (seen old) r ≡ (place_at (max old.end (min r.stop old.length)) old.rank, gap_between old.name.now old.end (min r.start old.length))
  step_is = step_at limit (entries old.genome.now) r old.name.now old.end old.length on.bases old.rank old.named on.at

  pub cursor_covers : (out : Output) (result : Result (Unit {0}) Fault) (new : GapCursor) (grown : Output) → Adds out (interval_lines (gap_between old.name.now old.end (min r.start old.length))) result grown → OnOk result (Covers old r.stop new)
      → Does gap_rule (complement_at limit old) r out result (complement_at limit new) grown
  cursor_covers out result new grown p c = grind (arith, step_is)

-- whether the chromosome of a rank is the one that was reached
pub same_rank : (o : Option ℕ) (rank : ℕ) (test : Bool) → test ≡ option_eq eqb o (Some rank) → test ≡ true → o ≡ Some rank
same_rank o rank test is t = grind arith

pub other_rank : (o : Option ℕ) (rank : ℕ) (test : Bool) → test ≡ option_eq eqb o (Some rank) → test ≡ false → o ≡ Some rank → ⊥
other_rank o rank test is f e = grind arith

-- a cursor on the way to the chromosome of a name
module _ (limit : Bool) (cursor : GapCursor) (chrom : List ℕ) where
  abbrev table : List Entry
  table = entries cursor.genome.now

  abbrev on_chrom : Option (Place ℕ) → ℕ → Complementing
  on_chrom current bases = record { entries = table; limit = limit; current = current; bases = bases }

  -- one that the genome file lacks
  pub lacks_chrom : rank_of (genome_names table) chrom ≡ None → StandsOnChrom (on_chrom (seen cursor) 0) chrom
  lacks_chrom none = record { bases = sym (no_bases table chrom none); at = inr none }

  module _ (rank : ℕ) (is : rank_of (genome_names table) chrom ≡ Some rank) where
    -- the one that was reached
    pub has_chrom : (end bases : ℕ) (current : Option (Place ℕ)) → current ≡ place_at end (Some rank) → (entry_at table rank).length ≡ bases → StandsOnChrom (on_chrom current bases) chrom
    has_chrom end bases current here size = grind (arith, size_ranked, on_found)

    -- another one
    pub goes_other : (cursor.rank ≡ Some rank → ⊥) → going (gap_walk limit) table (seen cursor) chrom ≡ (place_at 0 (Some rank), left_before last_gap (bare_gap limit) table (seen cursor) rank)
    goes_other other = going_to (gap_walk limit) table (seen cursor) chrom (Some rank) (search rules) (sym is)

    pub rank_placed : IsRanked table rank
    rank_placed = found_at table chrom rank is
