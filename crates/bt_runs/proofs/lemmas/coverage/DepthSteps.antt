-- What a count of depths says of one chromosome, and what it owes of it. It says which intervals are settled by the last start, and what is known for the rest.
use Rattle.bt_lines.proofs.Std.{rules, max, ◌≡◌, ℕ, ◌<◌, ◌≤◌, ◌+◌, List, [], ◌∷◌, ◌++◌, refl, sym, ap, ap₂, ◌∙◌, filter, nat_lt, Bool, true, false, append-nil, Option, lt-ltb, le-ltb, map-append, length, inl, inr, arith, Some, None, Result, Ok, Err, flat_map-append, append_assoc, codes, decimal, length-append, ◌-◌, All, filter-append}
use Rattle.std.specs.declared.cmp.Ordering.TheVariants.{Equal}
use Rattle.bt_bed.specs.model.Feature.{Feature, interval_of, intervals_of, Interval, span_of, Span}
use Rattle.bt_bed.specs.model.Genome.{Entry, genome_names}
use Rattle.bt_bed.specs.model.Order.{rank_order, rank_of}
use Rattle.bt_bed.specs.calls.Orders.{AreDistinct}
use Rattle.bt_bed.specs.model.Sorted.{has_records, comes_first}
use Rattle.bt_bed.specs.declared.record.strand.Strand.{Strand}
use Rattle.bt_bed.specs.model.Levels.{Level}
use Rattle.bt_bed.specs.calls.LevelScan.{Begun, begun_after, ended_after, next_begun, next_ended}
use Rattle.bt_runs.specs.model.Depth.{DepthInterval, counted_on, coverage, depth_of, depth_on, depths_on, is_counted_by, is_ended_by, settled_depths, levels_of, depth_lines, depth_line, reported}
use Rattle.bt_runs.specs.inside.Coverage.{Known, depth_walk, known_by, levels_by, levels_left, levels_on, bare_of, depths_left, known_seen, place_seen, seen, CountAnswers, OpenAt, depth_text, still_open}
use Rattle.bt_runs.proofs.lemmas.order.ByChromosome.{Divides, Owes, Written, found_at, size_there, size_ranked, found_entry, name_at}
use Rattle.bt_runs.proofs.lemmas.coverage.OpenLemmas.{counted_elsewhere, counted_append, counted_none, bare_levels, known_at, known_first, known_next, left_end, settled_and_left, settled_at, settled_end, settled_first, settled_next, with_counted, across_known, none_open, all_open, walk_depth}
use Rattle.bt_runs.specs.calls.Complementing.{AreInGenomeOrder}
use Rattle.bt_runs.proofs.lemmas.definitions.Standing.{compare_same, apart, found}
use Rattle.bt_runs.proofs.lemmas.Lists.{filter_map_all, filter_map_none}
use Rattle.bt_runs.proofs.lemmas.coverage.LevelLemmas.{StopIn, scan_run, scan_split}
use Rattle.bt_runs.proofs.lemmas.complement.Walks.{Walked, form_of, Held, Steps, ends, reaches, settles_items, steps, rank_entry, taken_front}
use Rattle.bt_runs.specs.calls.Engine.{SettlesMore, fault_of}
use Rattle.bt_runs.specs.inside.Walk.{AreReached, Place, is_reached, left_before, places, taking, Does, EnterAnswers, FitsPast, PutsRestAtEnd, IsRanked, entry_at}
use Rattle.bt_lines.proofs.lemmas.Writer.{grown_none, line_alone, adds_lines, cut_lines}
use Rattle.bt_lines.specs.calls.Output.{Output, Adds, FailsToAdd, Grown, Puts}
use Rattle.bt_lines.specs.calls.Names.{fault_value}
use Rattle.bt_lines.specs.declared.fault.Fault.{Fault}
use Rattle.bt_runs.specs.calls.Covering.{Covering, IsAfter, IsOnBy, begun_of, depth_rule, depth_step, held_of, next_lines, wants_memory, IsOnChrom, with_begun, with_chrom, kept_records, known_place, unfinished}
use Rattle.bt_runs.proofs.lemmas.Engine.{enters, enters_cut}
use Rattle.bt_bed.specs.declared.parse.bounds.Bounds.{Bounds}
use Rattle.bt_bed.proofs.lemmas.parse.NameLemmas.{same_name, name_eq}
use Rattle.bt_runs.specs.declared.coverage.depth_rule.CurrentChrom.{CurrentChrom}
use Rattle.bt_runs.specs.declared.coverage.depths.OpenInterval.{OpenInterval}
use Rattle.bt_runs.specs.declared.coverage.depths.DepthCursor.{DepthCursor}
use Rattle.bt_runs.specs.declared.engine.failure.Failure.{Failure}
use Rattle.bt_runs.specs.declared.engine.failure.Failure.TheVariants.{Write, Memory}

-- the counted records of a chromosome, with one more on it
pub counted_next : (strand : Option Strand) (name : List ℕ) (past : List Feature) (r : Feature) → r.chrom ≡ name → counted_on strand name (past ++ r ∷ []) ≡ with_counted (is_counted_by strand r.strand) (counted_on strand name past) r.start r.stop
counted_next strand name past r is = counted_append strand name past (r ∷ []) ∙ ap (λ l. counted_on strand name past ++ l) (search rules)

-- intervals of which all are over, or none
module _ (names : List (List ℕ)) (last : Interval) (name : List ℕ) where
  all_ended : (levels : List Level) → (rank_order names).compare name last.chrom ≡ Equal → StopIn 0 last.start levels → filter (is_ended_by names last) (levels_on name levels) ≡ levels_on name levels
  all_ended [] equal s = refl
  all_ended (l ∷ ls) equal s = rw (equal, lt-ltb l.stop last.start s.1, all_ended ls equal s.2) refl

  none_ended : (high : ℕ) (levels : List Level) → (rank_order names).compare name last.chrom ≡ Equal → StopIn last.start high levels → filter (is_ended_by names last) (levels_on name levels) ≡ []
  none_ended high [] equal s = refl
  none_ended high (l ∷ ls) equal s = rw (equal, le-ltb l.stop last.start s.0, none_ended high ls equal s.2) refl

module _ (zeros : Bool) (strand : Option Strand) where
  -- what is settled and known of a chromosome by the last start on it
  pub record Own (entry : Entry) (past : List Feature) (start : ℕ) (done : List DepthInterval) (known : Known) : Type 0 where
    pub done_is : done ≡ levels_on entry.name (settled_at zeros entry.length (counted_on strand entry.name past) start)
    pub known_is : known ≡ known_at zeros entry.length (counted_on strand entry.name past) start

  module _ (entries : List Entry) where
    abbrev pub depths : Walked DepthInterval Known
    depths = record {
      walk = depth_walk zeros strand;
      part = λ entry past. depths_on zeros strand past entry;
      pick = λ last depths. filter (is_ended_by (genome_names entries) last) depths;
      whole = coverage zeros strand entries;
      settled = settled_depths zeros strand entries;
    }

    own_next : (entry : Entry) (past : List Feature) (start : ℕ) (done : List DepthInterval) (known : Known) (r : Feature) → Own entry past start done known → entry.name ≡ r.chrom → start ≤ r.start → r.start < r.stop
        → Own entry (past ++ r ∷ []) r.start (done ++ levels_on entry.name (levels_by zeros entry.length known (max r.start known.to))) (known_by zeros (is_counted_by strand r.strand) entry.length known (max r.start known.to) r.stop)
    own_next entry past start done known r own is up full =
        let spans = counted_on strand entry.name past in
        let counted = is_counted_by strand r.strand in
        let s = span_of (interval_of r) in
        let size = entry.length in
        let settled = settled_at zeros size spans start in
        let more = levels_by zeros size (known_at zeros size spans start) r.start in
        let next = counted_next strand entry.name past r (sym is) in
        grind (arith, (map-append (depth_on entry.name) settled more), (settled_next zeros counted size spans start s up full), (known_next zeros counted size spans start s up full))

    -- the settled intervals end below the last start, and the others don't
    divides_own : (entry : Entry) (past : List Feature) (last : Interval) (done : List DepthInterval) (known : Known) → Own entry past last.start done known → entry.name ≡ last.chrom → has_records entry.name (intervals_of past) ≡ true → Divides (form_of depths) Own entry past last done known
    divides_own entry past last done known own is some =
        let names = genome_names entries in
        let size = entry.length in
        let spans = counted_on strand entry.name past in
        let here : (rank_order names).compare entry.name last.chrom ≡ Equal = compare_same names entry.name last.chrom is in
        let settled = settled_at zeros size spans last.start in
        let left = levels_left zeros size (known_at zeros size spans last.start) in
        rw (own.done_is, own.known_is) (record {
          all = ap (levels_on entry.name) (settled_and_left zeros size spans last.start) ∙ map-append (depth_on entry.name) settled left;
          done_over = all_ended names last entry.name settled here (settled_end zeros size spans last.start);
          left_open = none_ended names last entry.name (size + 1) left here (left_end zeros size spans last.start);
        })

    nothing_settled : settled_depths zeros strand entries [] ≡ []
    unfolding settled_depths
    nothing_settled = refl

    pub owes : Owes (form_of depths) Own (genome_names entries)
    owes = record {
      nothing = nothing_settled;
      picks = λ last. grind (arith, filter-append);
      elsewhere = λ entry past r other.
          ap (λ l. levels_on entry.name (levels_of (depth_of zeros l) entry.length)) (counted_append strand entry.name past (r ∷ []) ∙ ap (λ l. counted_on strand entry.name past ++ l) (counted_elsewhere strand entry.name r other) ∙ append-nil (counted_on strand entry.name past));
      is_before = λ last entry past less. filter_map_all (depth_on entry.name) (is_ended_by (genome_names entries) last) (levels_of (depth_of zeros (counted_on strand entry.name past)) entry.length) (λ l. ap (λ o. comes_first o (nat_lt l.stop last.start)) less);
      is_behind = λ last entry past greater none. filter_map_none (depth_on entry.name) (is_ended_by (genome_names entries) last) (levels_of (depth_of zeros (counted_on strand entry.name past)) entry.length) (λ l. ap (λ o. comes_first o (nat_lt l.stop last.start)) greater);
      none = grind (arith, counted_none, bare_levels, settled_first, known_first);
      next = own_next;
      divides = divides_own;
    }

    -- the intervals come in the order of the genome file
    pub written : (past : List Feature) → Written (form_of depths) Own entries past
    unfolding settled_depths coverage
    written past = grind arith

-- A coverage walks as any engine that goes through a genome file. What it holds is what the definitions keep of the records of the past, and so its exact step writes what they settle.

module _ (zeros : Bool) (strand : Option Strand) (entries : List Entry) where
  abbrev pub Reaches : List Feature → Option (Place Known) → Type 0
  Reaches past current = Held (depths zeros strand entries) (Own zeros strand) entries past current

  pub reached : (past : List Feature) → AreInGenomeOrder entries past → (current : Option (Place Known)) × Reaches past current × AreReached entries current
  reached past t = reaches (depths zeros strand entries) (Own zeros strand) entries (owes zeros strand entries) (written zeros strand entries) past t

  pub moves : (past : List Feature) (r : Feature) (current : Option (Place Known)) → AreInGenomeOrder entries (past ++ r ∷ []) → Reaches past current → Steps (depths zeros strand entries) (Own zeros strand) entries past r current
  moves past r current t h = steps (depths zeros strand entries) (Own zeros strand) entries (owes zeros strand entries) (written zeros strand entries) past r current t h

  pub leaves : (past : List Feature) (current : Option (Place Known)) → AreDistinct (genome_names entries) → Reaches past current
      → coverage zeros strand entries past ≡ settled_depths zeros strand entries past ++ left_before (depths_left zeros) (bare_of zeros) entries current (length entries)
  leaves past current distinct h = ends (depths zeros strand entries) (Own zeros strand) entries (owes zeros strand entries) (written zeros strand entries) past current distinct h

  -- more and more intervals are settled
  pub settles_depths : SettlesMore (settled_depths zeros strand entries) (coverage zeros strand entries) (AreInGenomeOrder entries)
  settles_depths = settles_items (depths zeros strand entries) (Own zeros strand) entries (owes zeros strand entries) (written zeros strand entries)

module _ (zeros : Bool) (strand : Option Strand) (entries : List Entry) where
  -- what is kept of the records
  pub record Keeps (past : List Feature) (current : Option (Place Known)) : Type 0 where
    pub place : places (λ known. known.to) entries current ≡ known_place entries past
    pub begun : begun_of current ≡ unfinished zeros strand entries past
    pub held : held_of current ≡ kept_records strand entries past

  pub keeps : (past : List Feature) (current : Option (Place Known)) → AreDistinct (genome_names entries) → Reaches zeros strand entries past current → Keeps past current
  unfolding known_place unfinished kept_records
  keeps past current distinct none = grind (arith, rank_entry, apart, size_there, across_known, none_open)

module _ (zeros : Bool) (strand : Option Strand) (entries : List Entry) where
  -- a coverage that keeps what is to be kept has reached the last record's chromosome
  held_is : (past : List Feature) (current : Option (Place Known)) → AreInGenomeOrder entries past → AreReached entries current → places (λ known. known.to) entries current ≡ known_place entries past → begun_of current ≡ unfinished zeros strand entries past → held_of current ≡ kept_records strand entries past
      → Reaches zeros strand entries past current
  held_is past current t at p g h =
      let other = reached zeros strand entries past t in
      grind (arith, keeps)

-- entering a chromosome
abbrev pub Enters : Covering → List ℕ → Output → Result (Unit {0}) Fault → Covering → Output → Type 0
Enters = EnterAnswers depth_rule

module _ (old : Covering) where
  -- whatever coverage took the records of the past, it has this table and these rules, and keeps what is to be kept
  record Same (first : Covering) (past : List Feature) : Type 0 where
    same_entries : first.entries ≡ old.entries
    same_zeros : first.zeros ≡ old.zeros
    same_strand : first.strand ≡ old.strand
    reached : AreInGenomeOrder old.entries past → Reaches old.zeros old.strand old.entries past old.current

  same : (first : Covering) (past : List Feature) → IsAfter first past old → Same first past
  same first past stands = grind (arith, held_is)

  -- what is done with a record exactly is done after every past
  pub fits : (r : Feature) → FitsPast depth_rule old r
  fits r = record {
    settles = λ first past stands taken.
        let s = same first past stands in
        let more = rw s.same_entries at taken in
        rw (s.same_entries, s.same_zeros, s.same_strand) (ap depth_lines (moves old.zeros old.strand old.entries past r old.current more (s.reached (taken_front old.entries past (r ∷ []) more))).settles
        ∙ flat_map-append depth_line (settled_depths old.zeros old.strand old.entries past) (depth_step old r).1);
    next = λ new c first past stands taken.
        let s = same first past stands in
        let more = rw s.same_entries at taken in
        let m = moves old.zeros old.strand old.entries past r old.current more (s.reached (taken_front old.entries past (r ∷ []) more)) in
        let k = keeps old.zeros old.strand old.entries (past ++ r ∷ []) (depth_step old r).0 more.distinct m.held in
        record {
          same_entries = c.same_entries ∙ sym s.same_entries;
          same_zeros = c.same_zeros ∙ sym s.same_zeros;
          same_strand = c.same_strand ∙ sym s.same_strand;
          place = rw s.same_entries (ap₂ (places (λ known. known.to)) c.same_entries c.current ∙ k.place);
          begun = rw (s.same_entries, s.same_zeros, s.same_strand) (ap begun_of c.current ∙ k.begun);
          kept = rw (s.same_entries, s.same_strand) (ap held_of c.current ∙ k.held);
          reached = rw c.same_entries (c.at stands.reached);
        };
    quiet = λ first past stands taken q. absurd q;
  }

  -- a record of a chromosome that the genome file doesn't have changes nothing
  pub counts_none : (r : Feature) (out : Output) → IsOnBy false old.entries old.current old.name old.length r.chrom → Does depth_rule old r out (Ok tt) old out
  counts_none r out off = search rules

  -- one of the chromosome that was reached
  pub step_here : (r : Feature) (place : Place Known) → old.current ≡ Some place → is_reached old.entries old.current r.chrom ≡ true
      → depth_step old r ≡ (Some (taking (depth_walk old.zeros old.strand) old.entries place r).0, (taking (depth_walk old.zeros old.strand) old.entries place r).1)
  step_here r place is on = grind arith

  -- on which chromosome the last record lies changes nothing
  pub enters_moved : (is_known : Bool) (name : List ℕ) (size : ℕ) (chrom : List ℕ) (out : Output)
      → Enters old chrom out (Ok tt) (record { entries = old.entries; zeros = old.zeros; strand = old.strand; current = old.current; is_known = is_known; name = name; length = size }) out
  enters_moved is_known name size chrom out = enters fits [] {mid = record { entries = old.entries; zeros = old.zeros; strand = old.strand; current = old.current; is_known = is_known; name = name; length = size }} (grown_none out) (λ r same. refl)
      (λ r same new c. record { same_entries = c.same_entries; same_zeros = c.same_zeros; same_strand = c.same_strand; current = c.current; at = c.at }) (λ r same wanted. wanted)

  -- another chromosome of the genome file
  module _ (name : List ℕ) (size : ℕ) (chrom : List ℕ) (rank : ℕ) (off : is_reached old.entries old.current chrom ≡ false) (is : Some rank ≡ rank_of (genome_names old.entries) chrom) where
    abbrev pub place_first : Place Known
    place_first = record { rank = rank; known = record { to = 0; begun = None; held = [] } }

    abbrev pub begun_there : Covering
    begun_there = record { entries = old.entries; zeros = old.zeros; strand = old.strand; current = Some place_first; is_known = true; name = name; length = size }

    abbrev before : List DepthInterval
    before = left_before (depths_left old.zeros) (bare_of old.zeros) old.entries old.current rank

    pub is_there : is_reached old.entries (Some place_first) chrom ≡ true
    is_there = grind (arith, name_eq, (found_entry old.entries chrom rank (found name_at old.entries chrom rank (sym is))))

    there_steps : (r : Feature) → r.chrom ≡ chrom → ((depth_step old r).0 ≡ (depth_step begun_there r).0) × ((depth_step old r).1 ≡ before ++ (depth_step begun_there r).1)
    there_steps r same = grind (arith, is_there)

    lines_are : (r : Feature) → r.chrom ≡ chrom → next_lines old r ≡ depth_lines before ++ next_lines begun_there r
    lines_are r same = ap depth_lines (there_steps r same).1 ∙ flat_map-append depth_line before (depth_step begun_there r).1

    pub enters_there : (out mid : Output) → Grown out (depth_lines before) mid → Enters old chrom out (Ok tt) begun_there mid
    enters_there out mid p = enters fits (depth_lines before) {mid = begun_there} p lines_are
        (λ r same new c. record {
          same_entries = c.same_entries;
          same_zeros = c.same_zeros;
          same_strand = c.same_strand;
          current = c.current ∙ sym (there_steps r same).0;
          at = λ at. c.at (found_at old.entries chrom rank (sym is));
        })
        (λ r same wanted. wanted)

    -- or what is left before it couldn't be written
    pub enters_failing : (out : Output) (fault : Fault) (new : Covering) (grown : Output) → FailsToAdd out (depth_lines before) (fault_value fault) grown → Enters old chrom out (Err fault) new grown
    enters_failing out fault new grown cut = enters_cut fits (depth_lines before) fault new grown cut (λ r same. (next_lines begun_there r, lines_are r same))

  -- the lines that are left
  pub finishes_left : (out : Output) {A : Type 0} (stop : ℕ) (result : Result A Fault) (grown : Output) → stop ≡ length old.entries → Adds out (depth_lines (left_before (depths_left old.zeros) (bare_of old.zeros) old.entries old.current stop)) result grown
      → PutsRestAtEnd depth_rule old out result grown
  finishes_left out stop result grown all p = grind (arith, same, leaves, flat_map-append)

-- What a coverage does with one record on the chromosome that it has reached.

module _ (entries : List Entry) (current : Option (Place Known)) (name : List ℕ) (size : ℕ) (chrom : List ℕ) where
  -- whether it lies there is known
  pub on_here : (is_known : Bool) → is_known ≡ true → IsOnBy is_known entries current name size chrom → IsOnBy true entries current name size chrom
  on_here is_known is on = grind arith

  pub off_here : (is_known : Bool) → is_known ≡ false → IsOnBy is_known entries current name size chrom → IsOnBy false entries current name size chrom
  off_here is_known is on = grind arith

-- a record comes next, of these bounds, and counted or not
pub record IsNext (strand : Option Strand) (r : Feature) (bounds : Bounds) (counted : Bool) : Type 0 where
  pub starts : r.start ≡ bounds.start
  pub stops : r.stop ≡ bounds.stop
  pub counts : is_counted_by strand r.strand ≡ counted

-- a record lies on the chromosome that a coverage has reached
pub record IsOnReached (old : Covering) (place : Place Known) (chrom : List ℕ) (size : ℕ) (r : Feature) : Type 0 where
  pub reached : old.current ≡ Some place
  pub placed : IsRanked old.entries place.rank
  pub named : (entry_at old.entries place.rank).name ≡ chrom
  pub sized : (entry_at old.entries place.rank).length ≡ size
  pub on : is_reached old.entries old.current r.chrom ≡ true

module _ {old : Covering} {place : Place Known} {chrom : List ℕ} {size : ℕ} {r : Feature} (there : IsOnReached old place chrom size r)
    {bounds : Bounds} {counted : Bool} (next : IsNext old.strand r bounds counted) (out : Output) where
  step_is : depth_step old r ≡ (Some (record { rank = place.rank; known = known_by old.zeros counted size place.known (max bounds.start place.known.to) bounds.stop }), levels_on chrom (levels_by old.zeros size place.known (max bounds.start place.known.to)))
  step_is = step_here old r place there.reached there.on ∙ rw (there.named, there.sized, next.counts, next.starts, next.stops) refl

  to_keep : (counted ≡ true) × (bounds.start < size) → wants_memory old r
  to_keep is =
      let here = rw there.reached at there.on in
      let ranked : rank_of (genome_names old.entries) r.chrom ≡ Some place.rank = ap (rank_of (genome_names old.entries)) (sym (same_name (entry_at old.entries place.rank).name r.chrom here)) ∙ there.placed.named in
      (next.counts ∙ is.0, rw (next.starts, size_ranked old.entries r.chrom place.rank ranked, there.sized) is.1)

  -- it couldn't be
  pub counts_err : (failure : Failure) (fault : Fault) (new : Covering) (held : OpenAt) {grown : Output} → fault_value fault ≡ fault_of failure → CountAnswers chrom (levels_by old.zeros size place.known (max bounds.start place.known.to)) (known_by old.zeros counted size place.known (max bounds.start place.known.to) bounds.stop) (Err failure) held out grown
      → (failure ≡ Memory → (counted ≡ true) × (bounds.start < size)) → Does depth_rule old r out (Err fault) new grown
  counts_err Write fault new held is cut want = inl (rw (step_is, is) cut)
  counts_err Memory fault new held is puts want = inr (is, (to_keep (want refl), rw step_is puts))

-- a record is counted at the place that the code has
module _ (base : Covering) (on : CurrentChrom) (here : on.is_known ≡ true) {r : Feature} {bounds : Bounds} {counted : Bool} (next : IsNext base.strand r bounds counted) (out grown : Output) where
  -- a coverage with these open records
  abbrev pub covering : Option DepthCursor → OpenAt → Covering
  covering current held = record base { current = seen current held }

  abbrev pub ended_with : Option OpenInterval → CurrentChrom
  ended_with begun = record { is_known = on.is_known; name = on.name; length = on.length; begun = begun }

  pub step_ok : (current : Option DepthCursor) (held : OpenAt) → AreReached base.entries (seen current held) → IsOnChrom (with_chrom (covering current held) on) r.chrom → (begun : Option OpenInterval) (now_held : OpenAt)
      → CountAnswers on.name.now (levels_by base.zeros on.length (known_seen on.begun held) (max bounds.start held.at)) (known_by base.zeros counted on.length (known_seen on.begun held) (max bounds.start held.at) bounds.stop) (Ok begun) now_held out grown
      → Does depth_rule (with_chrom (covering current held) on) r out (Ok tt) (with_chrom (covering current now_held) (ended_with begun)) grown
  step_ok current held placed lies begun now_held c = grind arith

  pub step_err : (current : Option DepthCursor) (held : OpenAt) → AreReached base.entries (seen current held) → IsOnChrom (with_chrom (covering current held) on) r.chrom → {failure : Failure} (fault : Fault) (new : Covering) (now_held : OpenAt) → fault_value fault ≡ fault_of failure
      → CountAnswers on.name.now (levels_by base.zeros on.length (known_seen on.begun held) (max bounds.start held.at)) (known_by base.zeros counted on.length (known_seen on.begun held) (max bounds.start held.at) bounds.stop) (Err failure) now_held out grown
      → (failure ≡ Memory → (counted ≡ true) × (bounds.start < on.length)) → Does depth_rule (with_chrom (covering current held) on) r out (Err fault) new grown
  step_err None held placed lies fault new now_held is c want = absurd (on_here base.entries None on.name.now on.length r.chrom on.is_known here lies).1
  step_err (Some reached) held placed lies {failure} fault new now_held is c want =
      let place = place_seen (record { rank = reached.rank; begun = on.begun }) held in
      let l = on_here base.entries (Some place) on.name.now on.length r.chrom on.is_known here lies in
      let there : IsOnReached (with_chrom (covering (Some reached) held) on) place on.name.now on.length r = record { reached = refl; placed = placed; named = l.1.0; sized = l.1.1; on = l.0 } in
      counts_err there next out failure fault new now_held is c want

-- what is known of a chromosome changes nothing of where it lies
pub stays_on : (table : List Entry) (current : Option DepthCursor) (held now_held : OpenAt) (begun now_begun : Option OpenInterval) (is_known : Bool) (name : List ℕ) (size : ℕ) (chrom : List ℕ)
    → IsOnBy is_known table (with_begun begun (seen current held)) name size chrom → IsOnBy is_known table (with_begun now_begun (seen current now_held)) name size chrom
stays_on table current held now_held begun now_begun is_known name size chrom on = grind arith

-- The lines of intervals with their depths, and what the private calls of a coverage write of them.

-- the name, and what follows it
pub line_parts : (r : DepthInterval) → r.chrom ++ depth_text r.start r.stop r.depth ≡ depth_line r
line_parts r = grind (arith, append_assoc)

-- no line is empty
pub line_has_bytes : (r : DepthInterval) → depth_line r ≡ [] → ⊥
line_has_bytes r e =
    grind (arith, (length-append r.chrom ((codes "\t" ++ decimal r.start ++ codes "\t" ++ decimal r.stop ++ codes "\t" ++ decimal r.depth) ++ codes "\n")))

-- the line of an interval alone
pub adds_line : {A : Type 0} (r : DepthInterval) (old new : Output) (result : Result A Fault) → Puts old (depth_line r) result new → Adds old (depth_lines (r ∷ [])) result new
adds_line r old new result p = line_alone depth_line r old new result (line_has_bytes r) p

-- levels on a chromosome, one list after another
module _ (chrom : List ℕ) (old mid new : Output) (xs ys all : List Level) where
  pub adds_levels : {A : Type 0} (r : Result A Fault) → all ≡ xs ++ ys → Grown old (depth_lines (levels_on chrom xs)) mid → Adds mid (depth_lines (levels_on chrom ys)) r new → Adds old (depth_lines (levels_on chrom all)) r new
  adds_levels r is p q = rw (is, map-append (depth_on chrom) xs ys) (adds_lines depth_line old mid new (levels_on chrom xs) (levels_on chrom ys) r p q)

  pub cut_levels : (zs : List Level) (fault : Fault) → all ≡ (xs ++ ys) ++ zs → Grown old (depth_lines (levels_on chrom xs)) mid → FailsToAdd mid (depth_lines (levels_on chrom ys)) (fault_value fault) new → FailsToAdd old (depth_lines (levels_on chrom all)) (fault_value fault) new
  cut_levels zs fault is p q =
      rw (is, map-append (depth_on chrom) (xs ++ ys) zs, map-append (depth_on chrom) xs ys)
      (cut_lines depth_line old new (levels_on chrom xs ++ levels_on chrom ys) (levels_on chrom zs) (fault_value fault) (adds_lines depth_line old mid new (levels_on chrom xs) (levels_on chrom ys) {A = Unit {0}} (Err fault) p q))

pub left_cut : (chrom : List ℕ) (old new : Output) (xs ys : List Level) (fault : Fault) → FailsToAdd old (depth_lines (levels_on chrom xs)) (fault_value fault) new → FailsToAdd old (depth_lines (levels_on chrom (xs ++ ys))) (fault_value fault) new
left_cut chrom old new xs ys fault p = rw (map-append (depth_on chrom) xs ys) (cut_lines depth_line old new (levels_on chrom xs) (levels_on chrom ys) (fault_value fault) p)

-- one bare chromosome
pub bare_some : (zeros : Bool) (entries : List Entry) (rank size : ℕ) (name : List ℕ) → (entry_at entries rank).length ≡ size → (entry_at entries rank).name ≡ name → zeros ≡ true → 0 < size
    → bare_of zeros (entry_at entries rank) ≡ record { chrom = name; start = 0; stop = size; depth = 0 } ∷ []
bare_some zeros entries rank size name is named t some = rw (is, named, t, lt-ltb 0 size some) refl

-- one that isn't written: depth 0 isn't reported, or it has no base
pub bare_unasked : (zeros : Bool) (entry : Entry) → zeros ≡ false → bare_of zeros entry ≡ []
bare_unasked zeros entry f = rw f refl

pub bare_empty : (zeros : Bool) (entry : Entry) (size : ℕ) → entry.length ≡ size → size ≡ 0 → bare_of zeros entry ≡ []
bare_empty zeros entry size is none = grind arith

-- The walk over the positions of a chromosome, from one where the depth changes to the next.

-- the depth of the positions from one up to the next at which a record ends
module _ (zeros : Bool) (at position : ℕ) (first now : List Span) (low : at ≤ position) (same : still_open position now ≡ still_open position first) (started : All (λ s. s.start ≤ at) now) (value : Option ℕ) (is : value ≡ reported zeros (length (still_open (position + 1) now))) where
  pub run_depth : (next : ℕ) → All (λ s. next ≤ s.stop) (still_open (position + 1) now) → (q : ℕ) → position ≤ q → q < next → depth_of zeros first q ≡ value
  unfolding depth_of
  run_depth next ends q lower higher = ap (reported zeros) (walk_depth at position first now low same next q started ends lower higher) ∙ sym is

  pub here_depth : depth_of zeros first position ≡ value
  here_depth = run_depth (position + 1) (all_open (position + 1) now) position (omega arith) (omega arith)

-- one step of the walk
module _ (u : ℕ → Option ℕ) (from at next : ℕ) (g : Option Begun) (value : Option ℕ) (low : from ≤ at) (up : at < next) (run : (q : ℕ) → at ≤ q → q < next → u q ≡ value) where
  parts_are : next - from ≡ (at - from) + (next - at)
  parts_are = omega arith

  here_is : from + (at - from) ≡ at
  here_is = omega arith

  pub turn_ended : ended_after u from (next - from) g ≡ ended_after u from (at - from) g ++ next_ended at value (begun_after u from (at - from) g)
  turn_ended = grind (arith, (scan_split u (at - from) (next - at) from g), (scan_run u value (next - at)))

  pub turn_begun : begun_after u from (next - from) g ≡ next_begun at value (begun_after u from (at - from) g)
  turn_begun = grind (arith, parts_are, scan_split, here_is, scan_run)

-- no step
pub no_ended : (u : ℕ → Option ℕ) (p n : ℕ) (g : Option Begun) → n ≡ 0 → ended_after u p n g ≡ []
unfolding ended_after
no_ended u p n g none = rw none refl

pub no_begun : (u : ℕ → Option ℕ) (p n : ℕ) (g : Option Begun) → n ≡ 0 → begun_after u p n g ≡ g
unfolding begun_after
no_begun u p n g none = rw none refl

one_ended : (u : ℕ → Option ℕ) (p : ℕ) (g : Option Begun) → ended_after u p 1 g ≡ next_ended p (u p) g
unfolding ended_after
one_ended u p g = append-nil (next_ended p (u p) g)

-- what one step ends, and what comes after it
pub turn_more : (u : ℕ → Option ℕ) (from at stop : ℕ) (g begun : Option Begun) (value : Option ℕ) → from ≤ at → at < stop → u at ≡ value → begun ≡ begun_after u from (at - from) g
    → (more : List Level) × (ended_after u from (stop - from) g ≡ (ended_after u from (at - from) g ++ next_ended at value begun) ++ more)
turn_more u from at stop g begun value low up is same =
    let more = ended_after u (at + 1) (stop - (at + 1)) (begun_after u at 1 begun) in
    let ended = ended_after u from (at - from) g in (
      more,
      ap (λ n. ended_after u from n g) (omega arith)
          ∙ (scan_split u (at - from) (1 + (stop - (at + 1))) from g).1
          ∙ ap₂ (λ n b. ended ++ ended_after u n (1 + (stop - (at + 1))) b) (omega arith) (sym same)
          ∙ ap (λ l. ended ++ l) ((scan_split u 1 (stop - (at + 1)) at begun).1 ∙ ap (λ l. l ++ more) (one_ended u at begun ∙ ap (λ v. next_ended at v begun) is))
          ∙ sym (append_assoc ended (next_ended at value begun) more),
    )
