-- Lemmas on the reader of records.
use Rattle.bt_lines.proofs.Std.{common_steps, arith, ◌≡◌, ℕ, suc, Bool, true, false, List, [], ◌∷◌, Option, Some, None, Ok, Err, take, refl, sym, ap, ◌∙◌, subst, IfSome, IsSome, IsTrue, Result, option_map, ForSome, false≢true, ◌≤◌, bytes_eq, ◌&&◌, is_some, nat_lt, unwrap_or, nat_tests, bytes_eq-Decides, ◌+◌, ◌<◌, ◌++◌, drop, length, length-append, IfNone, strip_last, take-append-add, take-append_seam, ◌-◌, slice_range, take-add}
use Rattle.bt_lines.specs.declared.device.Source.{Ghosts as Source}
use Rattle.bt_lines.specs.calls.Reader.{input_of, lines_coming, lines_given, fault_kept as line_fault, lines_in, lines_after, shown_text_line, rest_in}
use Rattle.bt_lines.specs.declared.fault.Fault.{Fault}
use Rattle.bt_lines.specs.declared.reader.line_reader.LineReader.{LineReader}
use Rattle.bt_bed.proofs.lemmas.Definitions.{line_said}
use Rattle.bt_bed.proofs.lemmas.read.good.ReadingLemmas.{good_at_first}
use Rattle.bt_bed.proofs.lemmas.read.good.SaidLemmas.{said_features, wrong_is_of_line, wrong_is_of_record}
use Rattle.bt_bed.proofs.lemmas.order.OrderLemmas.{sorted_up_to}
use Rattle.bt_bed.specs.calls.Batch.{StandsFirst, chrom_in, cursor_in, left, left_after, start_in}
use Rattle.bt_bed.specs.calls.SortedReader.{FillsByName, IsPlaced, buffered_in as records_in, view_in, view_with}
use Rattle.bt_bed.specs.model.Feature.{Feature}
use Rattle.bt_bed.specs.model.BedLine.{is_bed_kind, is_record_kind, record_of}
use Rattle.bt_bed.specs.calls.Features.{IsFeature, wrong_lines_are_of_bed}
use Rattle.bt_bed.specs.model.Good.{Member, good, bed_format, line_says, locus_at, said_after, in_order}
use Rattle.bt_bed.specs.inside.OrderedLookahead.{IsElsewhere, last_in, start_after}
use Rattle.bt_bed.specs.model.Order.{Order}
use Rattle.bt_bed.specs.calls.Orders.{IsTotal, IsUpTo}
use Rattle.bt_bed.specs.model.Sorted.{Locus, Sorting, sorting_of}
use Rattle.bt_bed.specs.calls.Reading.{FillAnswers, GivesMember, MemberReader, Takes, ahead_in, first_from, coming}
use Rattle.bt_bed.specs.calls.Records.{FillsRecords, IsNext, TakesRecords, order_in, view_of}
use Rattle.bt_bed.specs.calls.Bed.{is_on, record_on, run_of, run_then, IsOnLine, raw_in, record_in, text_in}
use Rattle.bt_bed.specs.declared.read.sorted_reader.SortedReader.{SortedReader}
use Rattle.bt_bed.specs.declared.read.sorted.ByOrder.{ByOrder}
use Rattle.bt_bed.specs.declared.order.ChromOrder.{Ghosts}
use Rattle.bt_bed.specs.declared.read.records.Records.{Records}
use Rattle.bt_lines.specs.declared.fault.Kind.{Kind}
use Rattle.bt_lines.specs.declared.fault.Kind.TheVariants.{UnknownChrom}
use Rattle.bt_lines.specs.model.Lines.{TextLine}
use Rattle.bt_lines.specs.calls.Line.{Cut, shown_of}
use Rattle.bt_bed.proofs.lemmas.read.ColumnLemmas.{name_within}
use Rattle.bt_bed.specs.declared.read.batch.Batch.{Batch}
use Rattle.bt_bed.specs.declared.record.raw_record.RawRecord.{RawRecord}

-- what is known of a record that a line says after the last one
pub record BehindLast (order : Order) (last : Option Locus) (r : Feature) : Type 0 where
  pub feature : IsFeature r
  pub known : IsTrue (order.knows r.chrom)
  pub in_order : IfSome last (λ place. IsUpTo order place (locus_at r))

pub said_behind : (order : Order) (last : Option Locus) (text : List ℕ) (r : Feature) → IsTotal order → ForSome last (λ place. IsTrue (order.knows place.chrom)) → line_says (sorting_of order) last text ≡ Ok (Some r)
    → BehindLast order last r
said_behind order last text r total known says =
    let said = line_said (sorting_of order) last text r says in
    grind (arith, (said_features text r said.says), (sorted_up_to order last (locus_at r) total (grind arith) said.known said.stays))

pub some_first : {A : Type 0} (line : ℕ) (items : List A) → IsSome (option_map (λ m. m.line) (first_from line items)) → (item : A) × (more : List A) × (items ≡ item ∷ more)
some_first line items item = grind arith

-- what holds of the record ahead
module _ {S : Type 0} (reader : MemberReader S Feature (Option Locus)) (P : Member Feature → Type 0) where
  pub ahead_is : (m : Member Feature) → ahead_in reader ≡ Some m → P m → IfSome (ahead_in reader) P
  ahead_is m is holds = subst (λ (o : Option (Member Feature)). IfSome o P) (sym is) holds

-- if the first of those buffered is taken, the record ahead is the last one
pub passed_last : {S Q : Type 0} (device : Source S) (sorting : Sorting) (old new : SortedReader S Q) (item : Feature) (more : List Feature) → records_in old ≡ item ∷ more
    → Takes device (view_in sorting old) (take 1 (records_in old)) (view_in sorting new) → last_in new.lookahead ≡ option_map (λ m. locus_at m.item) (ahead_in (view_in sorting old))
unfolding view_with
passed_last device sorting old new item more is takes = grind arith

-- no record is ahead if none is buffered
pub none_ahead : {S : Type 0} (reader : MemberReader S Feature (Option Locus)) (P : Member Feature → Type 0) → reader.buffered ≡ [] → IfSome (ahead_in reader) P
none_ahead reader P none = subst (λ (records : List Feature). IfSome (first_from (suc (lines_given reader.below)) records) P) (sym none) tt

module _ {S O : Type 0} {g : Ghosts O} (device : Source S) where
  given : (old new : Records S O g) (m : Member Feature) → IsTotal (order_in old) → GivesMember device (view_of old) m (view_of new) → IfSome (ahead_in (view_of new)) (λ m. IsFeature m.item × IsNext old m.item)
  unfolding view_of view_with order_in
  given old new m total gives = grind (arith, (said_behind (order_in old) (view_of old).state gives.said.0.text m.item total old.placed.last gives.said.1))

  -- the record ahead after `fill` of the reader below
  filled : (old new : Records S O g) (result : Result Bool Fault) → IsTotal (order_in old) → FillAnswers device (view_of old) result (view_of new) → IfSome (ahead_in (view_of new)) (λ m. IsFeature m.item × IsNext old m.item)
  filled old new (Ok true) total makes = given old new makes.0 total makes.1
  filled old new (Ok false) total makes = none_ahead (view_of new) (λ m. IsFeature m.item × IsNext old m.item) makes.none_buffered
  filled old new (Err fault) total makes = none_ahead (view_of new) (λ m. IsFeature m.item × IsNext old m.item) makes.none_buffered

module _ {S Q : Type 0} (device : Source S) (sorting : Sorting) (sorted : SortedReader S Q) where
  -- a reader that has given no record has all of the good ones left
  pub good_at_start : (reader : LineReader S) → sorted.reader ≡ reader → sorted.fault ≡ None → last_in sorted.lookahead ≡ None → line_fault reader ≡ None
      → (rest : List ℕ) → coming rest (view_in sorting sorted) ≡ good (bed_format sorting) (input_of reader) (lines_coming rest reader)
  unfolding view_with
  good_at_start reader same own last going rest = grind (arith, good_at_first)

  pub placed_at_start : records_in sorted ≡ [] → last_in sorted.lookahead ≡ None → IsPlaced sorting (view_in sorting sorted)
  unfolding view_with
  placed_at_start none last = grind arith

module _ {S O : Type 0} (g : Ghosts O) where
  -- how the records of a reader are sorted
  abbrev pub sorting_at : SortedReader S (ByOrder O) → Sorting
  sorting_at sorted = sorting_of (g.order sorted.lookahead.rule.order.now)

module _ {S O : Type 0} (g : Ghosts O) (old new : SortedReader S (ByOrder O)) (rule : new.lookahead.rule ≡ old.lookahead.rule) where
  -- the order stays with the rule
  pub placed_by : IsPlaced (sorting_at g old) (view_in (sorting_at g old) new) → IsPlaced (sorting_at g new) (view_in (sorting_at g new) new)
  placed_by placed = subst (λ (by : ByOrder O). IsPlaced (sorting_of (g.order by.order.now)) (view_in (sorting_of (g.order by.order.now)) new)) (sym rule) placed

module _ {S O : Type 0} {g : Ghosts O} (device : Source S) (old new : Records S O g) (rule : new.sorted.lookahead.rule ≡ old.sorted.lookahead.rule) where
  same_order : order_in new ≡ order_in old
  unfolding order_in
  same_order = ap (λ (by : ByOrder O). g.order by.order.now) rule

  same_view : view_of new ≡ view_in (sorting_at g old.sorted) new.sorted
  unfolding view_of
  same_view = ap (λ (by : ByOrder O). view_in (sorting_of (g.order by.order.now)) new.sorted) rule

  was_view : view_in (sorting_at g old.sorted) old.sorted ≡ view_of old
  unfolding view_of
  was_view = refl

  -- `fill` of the reader below
  pub fills_records : (result : Result Bool Fault) → IsTotal (order_in old) → FillsByName device (view_in (sorting_at g old.sorted) old.sorted) result (view_in (sorting_at g old.sorted) new.sorted) → FillsRecords device old result new
  unfolding view_of view_with
  fills_records result total fills =
      let there : FillsByName device (view_of old) result (view_of new) = rw (same_view, ← was_view) fills in
      record { answers = there.fills.answers; next = filled device old new result total there.fills.answers; for_name = there.for_name; kept = there.fills.kept; order = same_order }

  -- `consume` of the reader below
  pub takes_records : (count : ℕ) → Takes device (view_in (sorting_at g old.sorted) old.sorted) (take count (records_in old.sorted)) (view_in (sorting_at g old.sorted) new.sorted) → TakesRecords device old count new
  unfolding view_of view_with
  takes_records count takes = record { takes = rw (← same_view) at takes; order = same_order }

-- Lemmas on what a line says after the last place, and on the chromosome of the record ahead.

module _ (sorting : Sorting) (last : Option Locus) (text : List ℕ) where
  pub says_nothing : Ok None ≡ record_of text → line_says sorting last text ≡ Ok None
  unfolding line_says
  says_nothing e = ap (said_after sorting last) (sym e)

  pub says_wrong : (kind : Kind) → Err kind ≡ record_of text → line_says sorting last text ≡ Err kind
  unfolding line_says
  says_wrong kind e = ap (said_after sorting last) (sym e)

  pub says_misplaced : (r : Feature) (kind : Kind) → Ok (Some r) ≡ record_of text → in_order sorting last r ≡ Err kind → line_says sorting last text ≡ Err kind
  unfolding line_says
  says_misplaced r kind e wrong = ap (said_after sorting last) (sym e) ∙ wrong

  pub says_record : (r : Feature) → Ok (Some r) ≡ record_of text → in_order sorting last r ≡ Ok (Some r) → line_says sorting last text ≡ Ok (Some r)
  unfolding line_says
  says_record r e fits = ap (said_after sorting last) (sym e) ∙ fits

said_is_of_line : (sorting : Sorting) (last : Option Locus) (said : Result (Option Feature) Kind) (kind : Kind) → said_after sorting last said ≡ Err kind → ((k : Kind) → said ≡ Err k → is_bed_kind k ≡ true) → is_bed_kind kind ≡ true
said_is_of_line sorting last said kind e h = grind arith

-- so is what a line says wrong
pub says_of_line : (sorting : Sorting) (last : Option Locus) (text : List ℕ) (kind : Kind) → line_says sorting last text ≡ Err kind → is_bed_kind kind ≡ true
unfolding line_says
says_of_line sorting last text kind e = said_is_of_line sorting last (record_of text) kind e (λ k h. wrong_is_of_line text k (sym h))

unknown_said : (order : Order) (last : Option Locus) (said : Result (Option Feature) Kind) → said_after (sorting_of order) last said ≡ Err UnknownChrom → ((k : Kind) → said ≡ Err k → is_record_kind k ≡ true) → (name : List ℕ) × (order.knows name ≡ false)
unknown_said order last (Ok None) e h = cc
unknown_said order last (Ok (Some r)) e h = (r.chrom, grind arith)
unknown_said order last (Err k) e h =
    let is : k ≡ UnknownChrom = cc in
    absurd (false≢true (subst (λ (kind : Kind). is_record_kind kind ≡ true) is (h k refl)))

pub wrong_of_bed : wrong_lines_are_of_bed
unfolding line_says
wrong_of_bed order last text kind e = grind (arith, says_of_line, unknown_said, wrong_is_of_record)

-- ---- the chromosome of the record ahead

-- a start on the chromosome of this name
abbrev start_at : List ℕ → Option ℕ → Option Locus
start_at name start = option_map (λ s. record { chrom = name; start = s }) start

-- if it is that of the last record
pub held_same : (name chrom : List ℕ) (last : Option ℕ) → is_some last && bytes_eq name chrom ≡ true → (name ≡ chrom) × (unwrap_or last 0 ≡ start_after (start_at name last) chrom)
held_same name chrom last e = grind (arith, bytes_eq-Decides)

-- a line that is at fault says no record
pub elsewhere_wrong : (last : Option Locus) (said : Result (Option Feature) Kind) (kind : Kind) → said ≡ Err kind → IsElsewhere last said
elsewhere_wrong last said kind e = rw e tt

-- a record that doesn't go on with the last one's chromosome lies on another
pub elsewhere_item : (name : List ℕ) (last : Option ℕ) (said : Result (Option Feature) Kind) (r : Feature) → said ≡ Ok (Some r) → is_some last && bytes_eq name r.chrom ≡ false → IsElsewhere (start_at name last) said
elsewhere_item name None said r says on = rw says tt
elsewhere_item name (Some start) said r says on = rw says on

-- Lemmas on the records on one chromosome that lines begin with.

-- a record on the chromosome that doesn't start below
pub placed_there : (name : List ℕ) (start : ℕ) (text : List ℕ) (r : Feature) → record_of text ≡ Ok (Some r) → r.chrom ≡ name → start ≤ r.start → record_on name start text ≡ Some r
unfolding record_on
placed_there name start text r says on above = grind (arith, bytes_eq-Decides)

-- one that starts below
pub placed_below : (name : List ℕ) (start : ℕ) (text : List ℕ) (r : Feature) → record_of text ≡ Ok (Some r) → nat_lt r.start start ≡ true → record_on name start text ≡ None
unfolding record_on
placed_below name start text r says below = grind arith

-- no record on the chromosome
pub placed_elsewhere : (name : List ℕ) (start : ℕ) (text : List ℕ) → is_on name (record_of text) ≡ false → record_on name start text ≡ None
unfolding record_on
placed_elsewhere name start text e = grind arith

-- the records that lines begin with, by their first one
pub run_some : (name : List ℕ) (start : ℕ) (line : TextLine) (lines : List TextLine) (r : Feature) → record_on name start line.text ≡ Some r → run_of name start (line ∷ lines) ≡ r ∷ run_of name r.start lines
unfolding run_of
run_some name start line lines r e = ap (λ o. run_then o (λ next. run_of name next lines)) e

pub run_none : (name : List ℕ) (start : ℕ) (line : TextLine) (lines : List TextLine) → record_on name start line.text ≡ None → run_of name start (line ∷ lines) ≡ []
unfolding run_of
run_none name start line lines e = ap (λ o. run_then o (λ next. run_of name next lines)) e

pub run_nil : (name : List ℕ) (start : ℕ) (lines : List TextLine) → lines ≡ [] → run_of name start lines ≡ []
unfolding run_of
run_nil name start lines e = ap (run_of name start) e

-- Lemmas on the next record of a batch.

pub none_holds : {A : Type 0} (o : Option A) (P : Type 0) → P → IfNone o P
none_holds o P p = grind arith

-- bytes that a record's line begins aren't empty
pub some_bytes : (raw : RawRecord) (line bytes : List ℕ) → raw.line.now ≡ line → take (length line) bytes ≡ line → 0 < length bytes
some_bytes raw line bytes is front = grind (arith, name_within)

-- none is left without a line, and else where the next one says so
pub none_either : (batch : Batch) (bytes : List ℕ) → rest_in (cursor_in batch) ≡ bytes → (rest_in (cursor_in batch) ≡ [] → lines_in (cursor_in batch) ≡ [])
    → (0 < length (rest_in (cursor_in batch)) → left batch ≡ []) → left batch ≡ []
unfolding left cursor_in
none_either batch bytes e none some = grind (arith, common_steps, run_nil)

module _ (batch : Batch) (line : List ℕ) (front : take (length line) (rest_in (cursor_in batch)) ≡ line) (cut : Cut (rest_in (cursor_in batch)) (shown_of line))
    (first : lines_in (cursor_in batch) ≡ shown_text_line (cursor_in batch) (shown_of line) ∷ lines_after (cursor_in batch) (length line + 1)) where
  -- the record of the next line, which doesn't start below, comes next
  pub stands_first : (raw : RawRecord) → IsOnLine line (chrom_in batch) raw → start_in batch ≤ (record_in raw).start → StandsFirst batch raw
  unfolding left left_after chrom_in start_in cursor_in text_in raw_in rest_in
  stands_first raw is above = record {
    left_is =
        ap (λ l. run_of batch.name.now batch.start l) first
        ∙ run_some (chrom_in batch) (start_in batch) (shown_text_line (cursor_in batch) (shown_of line)) (lines_after (cursor_in batch) (length line + 1)) (record_in raw)
        (placed_there (chrom_in batch) (start_in batch) (strip_last 13 line) (record_in raw) is.says is.chrom above)
        ∙ ap (λ l. record_in raw ∷ (run_of batch.name.now (record_in raw).start (drop 1 l))) (sym first);
    line = shown_of line;
    cut = cut;
    text_is = ap (strip_last 13) is.line_is;
    size_is = sym (length-append line (10 ∷ [])) ∙ ap (λ l. length (l ++ 10 ∷ [])) (sym is.line_is);
    bytes_are = (grind (arith, take-append_seam, take-append-add)) ∙ ap (λ l. l ++ 10 ∷ []) (sym is.line_is);
  }

  -- none is left if it starts below
  pub none_below : (raw : RawRecord) → IsOnLine line (chrom_in batch) raw → (record_in raw).start < start_in batch → left batch ≡ []
  unfolding left chrom_in start_in cursor_in
  none_below raw is below =
      let test : nat_lt (record_in raw).start batch.start ≡ true = grind (arith, nat_tests) in
      grind (arith, run_none, placed_below)

  -- or the line says none on the chromosome
  pub none_elsewhere : is_on (chrom_in batch) (record_of (strip_last 13 line)) ≡ false → left batch ≡ []
  unfolding left chrom_in start_in cursor_in
  none_elsewhere other = grind (arith, run_none, placed_elsewhere)

-- Lemmas on the bytes of lines that were consumed.

-- one more line was consumed
pub one_more : (at size : ℕ) (bytes line : List ℕ) → take size (drop at bytes) ≡ line → take (at + size) bytes ≡ take at bytes ++ line
one_more at size bytes line is = take-add at size bytes ∙ ap (λ l. take at bytes ++ l) is

-- the bytes between two offsets
pub bytes_between : (from to at : ℕ) (bytes : List ℕ) → from ≤ to → to ≤ at → at ≤ length bytes
    → take to (take at bytes) ≡ take from (take at bytes) ++ slice_range bytes from to
bytes_between from to at bytes ordered within inside =
    let same : to ≡ from + (to - from) = omega (arith, ordered) in
    grind (arith, common_steps, take-add)
