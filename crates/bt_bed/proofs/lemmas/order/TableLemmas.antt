-- Lemmas on the entries of a genome file.
use Rattle.bt_lines.proofs.Std.{common_steps, ◌≡◌, ℕ, arith, false, List, [], ◌∷◌, ◌++◌, Option, Some, None, Result, Ok, Err, refl, sym, ap, ◌∙◌, append_assoc, append-nil, bytes_eq, or_parts, ◌⊎◌, IsErrAnd, OnOk, OnErr, inl, inr, suc, ◌+◌, ◌-◌, ◌^◌, ◌<◌, ◌≤◌, length, take, zero, true, map, subst, length-append, All-head, All-tail, All, Vec, is_some, option_map, position, slice_get, option_to_list, map-append, slice_get-map, position_from, keys_of, position_from-zero}
use Rattle.bt_lines.specs.model.Fault.{FaultValue, read_failed}
use Rattle.bt_lines.specs.calls.Faults.{no_memory}
use Rattle.bt_lines.specs.model.Lines.{TextLine}
use Rattle.bt_lines.specs.declared.fault.Input.{Input}
use Rattle.bt_lines.specs.declared.fault.Kind.{Kind}
use Rattle.bt_bed.specs.model.Order.{is_among, rank_of}
use Rattle.bt_bed.specs.calls.Orders.{AreDistinct}
use Rattle.bt_bed.specs.model.Genome.{Entry, all_or_fault, entry_of, genome_format, genome_names, genome_of, new_entry}
use Rattle.bt_bed.specs.model.Good.{Good, good_after, good_with, with_member}
use Rattle.std.specs.List.{AllByRecursion, IsDistinct}
use Rattle.bt_bed.proofs.lemmas.parse.NameLemmas.{name_eq, name_ne-sym, name_eq-sym}
use Rattle.bt_lines.specs.declared.fault.Place.{Place}
use Rattle.bt_bed.specs.calls.Reading.{IsLost, LinesPass}
use Rattle.bt_bed.specs.model.BedLine.{fault_at_line}
use Rattle.bt_lines.specs.declared.device.Source.{Ghosts as Source}
use Rattle.bt_lines.proofs.lemmas.reader.block.ReadsLemmas.{comes_before, hands_none, hands_both, memory_failed, none_failed}
use Rattle.bt_lines.proofs.lemmas.reader.lines.ComingLemmas.{none_came}
use Rattle.bt_lines.proofs.lemmas.reader.lines.TakingLemmas.{taken_below, not_told}
use Rattle.bt_lines.proofs.lemmas.reader.lines.TextLemmas.{line_feeds-append}
use Rattle.bt_lines.specs.calls.Reader.{CutsOff, GivesFault, GivesLine, Hands, IsNear, IsSound, MayStillCome, bytes_taken, fault_kept, input_of, lines_coming, lines_given, source_of, end_told, GivesEnd, FailsToRead}
use Rattle.bt_lines.specs.declared.reader.line_reader.LineReader.{LineReader}
use Rattle.bt_bed.proofs.lemmas.read.good.ReadingLemmas.{front_of_both, near_after, near_pass, none_pass, one_passes, pass_more}
use Rattle.bt_bed.proofs.lemmas.order.OrderLemmas.{among_ranked}
use Rattle.std.specs.declared.alloc.Global.{Global}
use Rattle.indexmap.specs.IndexMap.{insert_entry}
use Rattle.bt_bed.specs.calls.GenomeTable.{entries, names_of, entry_seen, LineAdded, ReadsAll, EntryIsWrong, ReadingStops, StopCause, is_genome_kind}
use Rattle.bt_bed.specs.declared.order.genome.Genome.{Genome}

-- a name that isn't among names is none of them
pub among_push : (names : List (List ℕ)) (n name : List ℕ) → is_among names name ≡ false → bytes_eq n name ≡ false → is_among (names ++ n ∷ []) name ≡ false
among_push [] n name e d = rw d refl
among_push (m ∷ ms) n name e d = grind (arith, (among_push ms n name (or_parts (bytes_eq m name) (is_among ms name) e).1 d))

-- a new name keeps the names distinct
pub distinct_push : (names : List (List ℕ)) (n : List ℕ) → AreDistinct names → is_among names n ≡ false → AreDistinct (names ++ n ∷ [])
distinct_push [] n d e = (refl, tt)
distinct_push (m ∷ ms) n d e =
    let parts = or_parts (bytes_eq m n) (is_among ms n) e in
    (among_push ms n m d.0 (name_ne-sym m n parts.0), distinct_push ms n d.1 parts.1)

-- what the lines say after these names
abbrev pub genome_from : Input → List (List ℕ) → List TextLine → Result (List Entry) FaultValue
genome_from input names lines = all_or_fault (good_after genome_format input names lines)

-- what a line says, and then what is good after it
abbrev pub genome_with : Input → ℕ → List (List ℕ) → Result (Option Entry) Kind → (List (List ℕ) → Good Entry) → Result (List Entry) FaultValue
genome_with input line names said rest = all_or_fault (good_with genome_format input line names said rest)

pub ok_entries : (line : ℕ) (entry : Entry) (rest : Good Entry) (entries : List Entry) → all_or_fault (with_member (record { line = line; item = entry }) rest) ≡ Ok entries → (more : List Entry) × (all_or_fault rest ≡ Ok more) × (entries ≡ entry ∷ more)
ok_entries line entry rest entries more = grind (arith, rest.fault)

-- an entry that is taken has a new name
pub is_new : (names : List (List ℕ)) (said : Result (Option Entry) Kind) (entry : Entry) → new_entry names said ≡ Ok (Some entry) → is_among names entry.name ≡ false
is_new names said entry e = grind arith

-- entries before those of a result
pub before : List Entry → Result (List Entry) FaultValue → Result (List Entry) FaultValue
before front (Ok more) = Ok (front ++ more)
before front (Err fault) = Err fault

before_none : (result : Result (List Entry) FaultValue) → before [] result ≡ result
unfolding before
before_none result = grind arith

before_more : (line : ℕ) (entry : Entry) (front : List Entry) (rest : Good Entry) (result : Result (List Entry) FaultValue) → all_or_fault rest ≡ before front result → all_or_fault (with_member (record { line = line; item = entry }) rest) ≡ before (entry ∷ front) result
unfolding before
before_more line entry front rest result e = grind (arith, rest.fault, result)

pub before_ok : (front more : List Entry) (result : Result (List Entry) FaultValue) → result ≡ Ok more → before front result ≡ Ok (front ++ more)
unfolding before
before_ok front more result e = rw e refl

pub before_err : (front : List Entry) (fault : FaultValue) (result : Result (List Entry) FaultValue) → result ≡ Err fault → before front result ≡ Err fault
unfolding before
before_err front fault result e = rw e refl

-- what lines without a fault say, and then what the others say
abbrev SaysThen : Input → List (List ℕ) → List TextLine → List TextLine → Type 0
SaysThen input names given others = (entries : List Entry) → genome_from input names given ≡ Ok entries → genome_from input names (given ++ others) ≡ before entries (genome_from input (names ++ genome_names entries) others)

said_with : (input : Input) (number : ℕ) (names : List (List ℕ)) (given others : List TextLine) (said : Result (Option Entry) Kind) (entries : List Entry)
    → ((now : List (List ℕ)) → SaysThen input now given others)
    → genome_with input number names said (λ now. good_after genome_format input now given) ≡ Ok entries
    → genome_with input number names said (λ now. good_after genome_format input now (given ++ others)) ≡ before entries (genome_from input (names ++ genome_names entries) others)
said_with input number names given others (Err kind) entries h e = cc
said_with input number names given others (Ok None) entries h e = h names entries e
said_with input number names given others (Ok (Some entry)) entries h e =
    let now = names ++ entry.name ∷ [] in
    let parts = ok_entries number entry (good_after genome_format input now given) entries e in
    grind (arith, (before_more number entry parts.0 (good_after genome_format input now (given ++ others)) (genome_from input (now ++ genome_names parts.0) others)), (h now parts.0 parts.1), (append_assoc names (entry.name ∷ []) (genome_names parts.0)))

pub says_then : (input : Input) (names : List (List ℕ)) (given others : List TextLine) → SaysThen input names given others
unfolding good_after
says_then input names [] others entries e = grind (arith, append-nil, before_none)
says_then input names (line ∷ given) others entries e = grind (arith, (said_with input line.number names given others (new_entry names (entry_of line.text)) entries (λ now. says_then input now given others) e))

-- Lemmas on results and options that are passed on.

-- what holds of the error holds of the result that passes it on
pub passed_on : {T E : Type 0} (P : Result T E → Type 0) (result : Result T E) (error : E) → IsErrAnd result (λ e. e ≡ error) → P (Err error) → P result
passed_on P result error is p = grind arith

-- what holds if a result is fine and if it isn't, holds
pub either_way : {T E : Type 0} {X : Type 0} (P : X → Type 0) (result : Result T E) (new fine kept : X) → OnOk result (new ≡ fine) → OnErr result (new ≡ kept) → P fine → P kept → P new
either_way P result new fine kept p q f k = grind arith

module _ {A : Type 0} (place : Place) where
  -- a line that wasn't taken is at fault
  pub record IsWrong (said : Result (Option A) Kind) (fault : FaultValue) : Type 0 where
    pub kind : Kind
    pub says : said ≡ Err kind
    pub is : fault ≡ fault_at_line place.input place.line kind

  -- or memory ran out for its item
  pub record IsUnkept (said : Result (Option A) Kind) (fault : FaultValue) : Type 0 where
    pub item : A
    pub says : said ≡ Ok (Some item)
    pub is : fault ≡ no_memory

  pub lost_parts : (said : Result (Option A) Kind) (fault : FaultValue) → IsLost place said fault → IsWrong said fault ⊎ IsUnkept said fault
  lost_parts said fault lost = grind arith

  pub lost_wrong : (said : Result (Option A) Kind) (fault : FaultValue) (kind : Kind) → said ≡ Err kind → fault ≡ fault_at_line place.input place.line kind → IsLost place said fault
  lost_wrong said fault kind says is = rw says is

  pub lost_item : (said : Result (Option A) Kind) (fault : FaultValue) (item : A) → said ≡ Ok (Some item) → fault ≡ no_memory → IsLost place said fault
  lost_item said fault item says is = rw says is

-- Lemmas on lines that were given one after another.

module _ {S : Type 0} (device : Source S) where
  -- lines were given, in some calls one after another
  pub record Passed (old now : LineReader S) : Type 0 where
    pub bytes : (bytes : List ℕ) × Hands device old bytes now
    pub lines : LinesPass old bytes.0 now
    pub least : lines_given old ≤ lines_given now
    pub sound : IsSound device old → IsSound device now

  module _ (old now new : LineReader S) (p : Passed old now) where
    abbrev pub passed_line : (line : TextLine) → GivesLine device now line new → (IsSound device now → IsSound device new) → Passed old new
    passed_line line gives sound = record {
      bytes = (p.bytes.0 ++ gives.bytes.0, hands_both device old now new p.bytes.0 gives.bytes.0 p.bytes.1 gives.bytes.1);
      lines = pass_more device old now new p.bytes.0 gives.bytes.0 gives.bytes.1 p.lines (one_passes now new gives.bytes.0 line gives.bytes.3 gives.counted) p.least (omega (arith, gives.counted));
      least = omega (arith, gives.counted, p.least);
      sound = λ was. sound (p.sound was);
    }

    -- a line couldn't be read: what follows it is still to come
    pub near_fault : (fault : FaultValue) (gives : GivesFault device now fault new) → fault_kept now ≡ None → IsNear old (p.bytes.0 ++ gives.bytes.0) new
    near_fault fault gives going = near_pass device old now new p.bytes.0 gives.bytes.0 gives.bytes.1 p.lines (gives.near going) p.least (omega (arith, gives.counted))

    -- the line feeds among the bytes taken all end lines that were given
    pub cut_fault : (fault : FaultValue) (gives : GivesFault device now fault new) → fault_kept now ≡ None → fault ≡ read_failed (input_of now) (suc (lines_given now)) → CutsOff old (p.bytes.0 ++ gives.bytes.0) new
    cut_fault fault gives going is =
        let within : bytes_taken now < 2 ^ 63 = taken_below now going in
        let fed = p.bytes.1.fed (gives.before_end going) within in
        let counted = p.bytes.1.counted in
        let given = gives.cut_off going is in
        let front = front_of_both p.bytes.0 gives.bytes.0 (2 ^ 63 - 1 - bytes_taken old) (2 ^ 63 - 1 - bytes_taken now) (omega arith) in
        grind (arith, (line_feeds-append p.bytes.0 (take (2 ^ 63 - 1 - bytes_taken now) gives.bytes.0)))

-- Lemmas on a table of chromosomes and on reading one.

-- a line's entry is new if its name has no rank, and else repeated
pub says_new : (names : List (List ℕ)) (said : Result (Option Entry) Kind) (entry : Entry) → said ≡ Ok (Some entry) → is_some (rank_of names entry.name) ≡ false → new_entry names said ≡ Ok (Some entry)
says_new names said entry e unranked = grind (arith, among_ranked)

-- what is wrong with a line is of a line
pub refused_at_place : (names : List (List ℕ)) (text : List ℕ) (kind : Kind) → new_entry names (entry_of text) ≡ Err kind → is_genome_kind kind ≡ true
unfolding entry_of
refused_at_place names text kind e = grind arith

-- a rank is counted from n
plus : ℕ → Option ℕ → Option ℕ
plus n o = option_map (λ k. n + k) o

plus_none : (o : Option ℕ) → plus 0 o ≡ o
unfolding plus
plus_none o = grind arith

-- the position of a name among the keys, counted from n, is its rank counted from n
placed_from : (chromosomes : List (Vec ℕ Global × ℕ)) (name : List ℕ) (n : ℕ)
    → position_from (λ key. bytes_eq name key.items) n (keys_of chromosomes) ≡ plus n (rank_of (genome_names (map entry_seen chromosomes)) name)
unfolding plus
placed_from [] name n = refl
placed_from (chromosome ∷ more) name n = grind (arith, (placed_from more name (n + 1)), name_eq-sym)

-- the index of a name among the keys is its rank
pub placed_by_rank : (chromosomes : List (Vec ℕ Global × ℕ)) (name : List ℕ)
    → position (λ key. bytes_eq name key.items) (keys_of chromosomes) ≡ rank_of (genome_names (map entry_seen chromosomes)) name
placed_by_rank chromosomes name = grind (arith, position_from-zero, placed_from, plus_none)

-- a name that isn't that of any of these chromosomes isn't the one at a rank
other_at : (name : List ℕ) (chromosomes : List (Vec ℕ Global × ℕ)) (one : List ℕ) (rank : ℕ) → AllByRecursion (λ key. bytes_eq name key.items ≡ false) (keys_of chromosomes)
    → slice_get (genome_names (map entry_seen chromosomes)) rank ≡ Some one → bytes_eq name one ≡ false
other_at name [] one rank others at = cc
other_at name (chromosome ∷ more) one zero others at =
    let same : chromosome.0.items ≡ one = cc in
    subst (λ (n : List ℕ). bytes_eq name n ≡ false) same others.0
other_at name (chromosome ∷ more) one (suc rank) others at = other_at name more one rank others.1 at

-- the name at a rank has that rank, since no name comes twice
pub ranked_at : (chromosomes : List (Vec ℕ Global × ℕ)) (name : List ℕ) (rank : ℕ) → IsDistinct (λ a b. bytes_eq a.items b.items) (keys_of chromosomes)
    → slice_get (genome_names (map entry_seen chromosomes)) rank ≡ Some name → rank_of (genome_names (map entry_seen chromosomes)) name ≡ Some rank
unfolding IsDistinct
ranked_at [] name rank distinct at = cc
ranked_at (chromosome ∷ more) name zero distinct at =
    let same : chromosome.0.items ≡ name = cc in
    rw (name_eq chromosome.0.items name same) refl
ranked_at (chromosome ∷ more) name (suc rank) distinct at =
    rw (other_at chromosome.0.items more name rank distinct.0 at, ranked_at more name rank distinct.1 at) refl

inserted_last : (chromosomes : List (Vec ℕ Global × ℕ)) (name : Vec ℕ Global) (size : ℕ) → is_among (genome_names (map entry_seen chromosomes)) name.items ≡ false
    → insert_entry (λ a b. bytes_eq a.items b.items) chromosomes name size ≡ chromosomes ++ (name, size) ∷ []
inserted_last [] name size e = refl
inserted_last (chromosome ∷ more) name size e =
    let parts = or_parts (bytes_eq chromosome.0.items name.items) (is_among (genome_names (map entry_seen more)) name.items) e in
    rw (name_eq-sym name.items chromosome.0.items, parts.0, inserted_last more name size parts.1) refl

-- a name that isn't among the chromosomes goes last
pub entries_push : (chromosomes : List (Vec ℕ Global × ℕ)) (name : Vec ℕ Global) (size : ℕ) (text : List ℕ) → name.items ≡ text → is_among (genome_names (map entry_seen chromosomes)) text ≡ false
    → map entry_seen (insert_entry (λ a b. bytes_eq a.items b.items) chromosomes name size) ≡ map entry_seen chromosomes ++ record { name = text; length = size } ∷ []
entries_push chromosomes name size text is new = grind (arith, inserted_last, map-append)

-- the name at a rank is that of the chromosome there
pub name_at : (chromosomes : List (Vec ℕ Global × ℕ)) (rank : ℕ) → slice_get (genome_names (map entry_seen chromosomes)) rank ≡ option_map (λ chromosome. chromosome.0.items) (slice_get chromosomes rank)
name_at chromosomes rank = grind (arith, slice_get-map)

-- and so is the length
pub length_at : (chromosomes : List (Vec ℕ Global × ℕ)) (rank : ℕ) → option_map (λ entry. entry.length) (slice_get (map entry_seen chromosomes) rank) ≡ slice_get (map (λ chromosome. chromosome.1) chromosomes) rank
length_at chromosomes rank = grind (arith, slice_get-map)

-- the lines before those that come now were given, and have these entries
abbrev Continues : Input → List TextLine → ℕ → List Entry → List TextLine → ℕ → Type 0
Continues input old from front new to = (given : List TextLine) × (old ≡ given ++ new) × (from + length given ≡ to) × (genome_of input given ≡ Ok front)

continues_start : (input : Input) (lines : List TextLine) (n : ℕ) → Continues input lines n [] lines n
unfolding good_after
continues_start input lines n = ([], refl, omega arith, refl)

says_more : (input : Input) (names : List (List ℕ)) (line : TextLine) (entry : Option Entry) → new_entry names (entry_of line.text) ≡ Ok entry → genome_from input names (line ∷ []) ≡ Ok (option_to_list entry)
unfolding good_after
says_more input names line entry e = grind arith

says_wrong : (input : Input) (names : List (List ℕ)) (line : TextLine) (lines : List TextLine) (kind : Kind) → new_entry names (entry_of line.text) ≡ Err kind → genome_from input names (line ∷ lines) ≡ Err (fault_at_line input line.number kind)
unfolding good_after
says_wrong input names line lines kind e = rw e refl

continues_line : (input : Input) (old now next : List TextLine) (from : ℕ) {to further : ℕ} (front : List Entry) (line : TextLine) {entry : Option Entry} → Continues input old from front now to → now ≡ line ∷ next → further ≡ suc to
    → new_entry (genome_names front) (entry_of line.text) ≡ Ok entry → Continues input old from (front ++ option_to_list entry) next further
continues_line input old now next from front line {entry} c g n e = (
  c.0 ++ line ∷ [],
  c.1 ∙ ap (λ lines. c.0 ++ lines) g ∙ sym (append_assoc c.0 (line ∷ []) next),
  omega (arith, c.2, n, length-append c.0 (line ∷ [])),
  says_then input [] c.0 (line ∷ []) front c.3 ∙ before_ok front (option_to_list entry) (genome_from input (genome_names front) (line ∷ [])) (says_more input (genome_names front) line entry e),
)

continues_end : (input : Input) (old now : List TextLine) (from to : ℕ) (front : List Entry) → Continues input old from front now to → now ≡ [] → genome_of input old ≡ Ok front
continues_end input old now from to front c e = ap (genome_of input) (c.1 ∙ ap (λ lines. c.0 ++ lines) e ∙ append-nil c.0) ∙ c.3

-- a line that is at fault after those given
fault_behind : (input : Input) (given : List TextLine) (front : List Entry) (line : TextLine) (lines : List TextLine) (kind : Kind) → genome_of input given ≡ Ok front
    → new_entry (genome_names front) (entry_of line.text) ≡ Err kind → genome_of input (given ++ line ∷ lines) ≡ Err (fault_at_line input line.number kind)
fault_behind input given front line lines kind good e = grind (arith, (says_then input [] given (line ∷ lines) front good), before_err, (says_wrong input (genome_names front) line lines kind e))

continues_fault : (input : Input) (old now next : List TextLine) (from to : ℕ) (front : List Entry) (line : TextLine) (kind : Kind) → Continues input old from front now to → now ≡ line ∷ next
    → new_entry (genome_names front) (entry_of line.text) ≡ Err kind → genome_of input old ≡ Err (fault_at_line input line.number kind)
continues_fault input old now next from to front line kind c g e = ap (genome_of input) (c.1 ∙ ap (λ lines. c.0 ++ lines) g) ∙ fault_behind input c.0 front line next kind c.3 e

first_lines : (old given new : List TextLine) (from to : ℕ) → old ≡ given ++ new → from + length given ≡ to → take (to - from) old ≡ given
first_lines old given new from to e n = grind (arith, common_steps)

-- if one of the first lines is at fault, its fault is the one reported
abbrev IsToldFirst : Input → List TextLine → ℕ → FaultValue → Type 0
IsToldFirst input lines count fault = (other : FaultValue) → genome_of input (take count lines) ≡ Err other → fault ≡ other

-- the lines given made entries
given_entries : (input : Input) (old now : List TextLine) (from to : ℕ) (front : List Entry) → Continues input old from front now to → genome_of input (take (to - from) old) ≡ Ok front
given_entries input old now from to front c = ap (λ lines. genome_of input lines) (first_lines old c.0 now from to c.1 c.2) ∙ c.3

-- so none of them is at fault
none_wrong : (input : Input) (old now : List TextLine) (from to : ℕ) (front : List Entry) (fault : FaultValue) → Continues input old from front now to → IsToldFirst input old (to - from) fault
none_wrong input old now from to front fault c other f = absurd (let apart : ◌≡◌ {A = Result (List Entry) FaultValue} (Ok front) (Err other) = sym (given_entries input old now from to front c) ∙ f in cc)

-- the last line given is
last_wrong : (input : Input) (old now next : List TextLine) (from : ℕ) {to further : ℕ} (front : List Entry) (line : TextLine) {kind : Kind} → Continues input old from front now to → now ≡ line ∷ next → further ≡ suc to
    → new_entry (genome_names front) (entry_of line.text) ≡ Err kind → IsToldFirst input old (further - from) (fault_at_line input line.number kind)
last_wrong input old now next from {to} {further} front line {kind} c g n e = λ other f.
    let whole : old ≡ (c.0 ++ line ∷ []) ++ next = c.1 ∙ ap (λ lines. c.0 ++ lines) g ∙ sym (append_assoc c.0 (line ∷ []) next) in
    let count : from + length (c.0 ++ line ∷ []) ≡ further = omega (arith, c.2, n, length-append c.0 (line ∷ [])) in
    let wrong : genome_of input (take (further - from) old) ≡ Err (fault_at_line input line.number kind) =
    ap (λ lines. genome_of input lines) (first_lines old (c.0 ++ line ∷ []) next from further whole count) ∙ fault_behind input c.0 front line [] kind c.3 e in
    cc

distinct_more : (front : List Entry) (said : Result (Option Entry) Kind) (entry : Option Entry) → AreDistinct (genome_names front) → new_entry (genome_names front) said ≡ Ok entry → AreDistinct (genome_names (front ++ option_to_list entry))
distinct_more front said entry d e = grind (arith, append-nil, map-append, distinct_push)

-- how far the reading of a genome file is: nothing was read by a reader that had a fault
pub record Going {S : Type 0} (device : Source S) (old now : LineReader S) (genome : Genome) : Type 0 where
  pub passed : Passed device old now
  pub continues : (rest : List ℕ) → MayStillCome now rest → Continues (input_of old) (lines_coming (passed.bytes.0 ++ rest) old) (lines_given old) (entries genome) (lines_coming rest now) (lines_given now)
  pub distinct : AreDistinct (names_of genome)
  pub stays : (before : FaultValue) → fault_kept old ≡ Some before → now ≡ old
  pub going : fault_kept old ≡ None → fault_kept now ≡ None
  pub served : device.has_failed (source_of now) ≡ device.has_failed (source_of old)

module _ {S : Type 0} (device : Source S) (old : LineReader S) where
  pub going_start : (genome : Genome) → entries genome ≡ [] → Going device old old genome
  going_start genome none = record {
    passed = record { bytes = ([], hands_none device old); lines = none_pass old old [] (λ rest. refl) refl; least = omega arith; sound = λ h. h };
    continues = λ rest follows. rw none (continues_start (input_of old) (lines_coming rest old) (lines_given old));
    distinct = grind arith;
    stays = λ before e. refl;
    going = λ e. e;
    served = refl;
  }

  -- a reader that returns anything but a fault had none from the start
  had_none : (now : LineReader S) (genome : Genome) → Going device old now genome → fault_kept now ≡ None → fault_kept old ≡ None
  had_none now genome g none = grind arith

  distinct_line : (text : List ℕ) (genome grown : Genome) → AreDistinct (names_of genome) → LineAdded text genome grown → AreDistinct (names_of grown)
  distinct_line text genome grown d added = rw added.added (distinct_more (entries genome) (entry_of text) added.entry d added.says)

  same_input : (now : LineReader S) (genome : Genome) → Going device old now genome → input_of now ≡ input_of old
  same_input now genome g = g.passed.bytes.1.same_input

  module _ (now next : LineReader S) (genome : Genome) (g : Going device old now genome) {bytes : List ℕ} (hands : Hands device now bytes next) where
    abbrev all : List ℕ
    all = g.passed.bytes.0 ++ bytes

    abbrev together : (bytes : List ℕ) × Hands device old bytes next
    together = (all, hands_both device old now next g.passed.bytes.0 bytes g.passed.bytes.1 hands)

    -- the lines that come, by those that came
    continues_then : (rest : List ℕ) → MayStillCome next rest → Continues (input_of old) (lines_coming (all ++ rest) old) (lines_given old) (entries genome) (lines_coming (bytes ++ rest) now) (lines_given now)
    continues_then rest follows =
        rw (append_assoc g.passed.bytes.0 bytes rest) (g.continues (bytes ++ rest) (comes_before device hands rest follows))

  pub going_line : (now next : LineReader S) (line : TextLine) (genome grown : Genome) → Going device old now genome → GivesLine device now line next → (IsSound device now → IsSound device next) → LineAdded line.text genome grown → Going device old next grown
  going_line now next line genome grown g gives sound added = record {
    passed = passed_line device old now next g.passed line gives sound;
    continues = λ rest follows. rw added.added (continues_line (input_of old) _ _ _ (lines_given old) (entries genome) line (continues_then now next genome g gives.bytes.1 rest follows) (gives.bytes.3 rest follows) gives.counted added.says);
    distinct = distinct_line line.text genome grown g.distinct added;
    stays = λ before e. let none = had_none now genome g gives.was_going.0 in cc;
    going = λ e. gives.goes;
    served = gives.served ∙ g.served;
  }

  pub going_end : (now new : LineReader S) (genome : Genome) → Going device old now genome → GivesEnd device now new → ReadsAll device old new genome
  going_end now new genome g gives =
      let still : MayStillCome now gives.bytes.0 = λ told. sym (append-nil gives.bytes.0) ∙ comes_before device gives.bytes.1 [] (λ e. refl) told in
      record {
        bytes = together now new genome g gives.bytes.1;
        was_going = had_none now genome g gives.was_going;
        is = continues_end (input_of old) _ _ (lines_given old) (lines_given now) (entries genome) (g.continues gives.bytes.0 still) (none_came device now new gives);
        distinct = g.distinct;
        ended = gives.ends;
        told = gives.told;
        going = gives.goes;
        served = gives.served ∙ g.served;
      }

  pub going_refused : (now next : LineReader S) (line : TextLine) (genome : Genome) (place : Place) (fault : FaultValue) (g : Going device old now genome) (gives : GivesLine device now line next)
      → place ≡ record { input = input_of old; line = line.number } → IsWrong place (new_entry (names_of genome) (entry_of line.text)) fault → EntryIsWrong device old (g.passed.bytes.0 ++ gives.bytes.0) next fault
  going_refused now next line genome place fault g gives at refused =
      let is : fault ≡ fault_at_line (input_of old) line.number refused.kind = refused.is ∙ ap (λ (p : Place). fault_at_line p.input p.line refused.kind) at in
      let counted : line.number ≡ lines_given next = gives.number ∙ sym gives.counted in
      record {
        is = λ rest follows.
            continues_fault (input_of old) _ _ _ (lines_given old) (lines_given now) (entries genome) line refused.kind (continues_then now next genome g gives.bytes.1 rest follows) (gives.bytes.3 rest follows) refused.says ∙ ap Err (sym is);
        kind = refused.kind;
        names = names_of genome;
        text = line.text;
        says = refused.says;
        of_line = refused_at_place (names_of genome) line.text refused.kind refused.says;
        place = is ∙ ap (λ n. fault_at_line (input_of old) n refused.kind) counted;
        going = gives.goes;
        served = gives.served ∙ g.served;
      }

  module _ (now new : LineReader S) (genome : Genome) (fault : FaultValue) (g : Going device old now genome) (gives : GivesFault device now fault new) where
    abbrev handed : List ℕ
    handed = g.passed.bytes.0 ++ gives.bytes.0

    stops_by : fault_kept now ≡ None → FailsToRead device now fault new ⊎ (fault ≡ no_memory) → StopCause device old handed new fault
    stops_by going (inl fails) = inr (inl (record {
      fails = record {
        is = fails.is ∙ ap (λ i. read_failed i (suc (lines_given now))) (same_input now genome g) ∙ ap (λ n. read_failed (input_of old) (suc n)) (sym gives.counted);
        kept = gives.kept;
        cause = fails.cause;
        before_end = not_told (end_told old) (end_told now) g.passed.bytes.1.told_stays (gives.before_end going);
        cut = λ kept. cut_fault device old now new g.passed fault gives going fails.is;
      };
      given = entries genome;
      passed = λ rest follows. rw gives.counted (given_entries (input_of old) _ _ (lines_given old) (lines_given now) (entries genome) (continues_then now new genome g gives.bytes.1 rest follows));
    }))
    stops_by going (inr is) = inr (inr (record { is = is; served = gives.served is ∙ g.served; no_read = memory_failed (fault_kept new) (gives.kept ∙ ap Some is) }))

    pub going_fault : ReadingStops device old new fault
    going_fault = record {
      bytes = together now new genome g gives.bytes.1;
      again = λ before e.
          let same = g.stays before e in
          let told = gives.again before (ap fault_kept same ∙ e) in
          (told.0, told.1 ∙ same);
      first = λ none. stops_by (g.going none) (gives.first (g.going none));
      checked = λ rest follows. rw gives.counted (none_wrong (input_of old) _ _ (lines_given old) (lines_given now) (entries genome) fault (continues_then now new genome g gives.bytes.1 rest follows));
      near = λ none. near_fault device old now new g.passed fault gives (g.going none);
    }

  module _ (now next : LineReader S) (line : TextLine) (genome : Genome) (place : Place) (fault : FaultValue) (g : Going device old now genome) (gives : GivesLine device now line next) (sound : IsSound device now → IsSound device next) where
    abbrev passes : Passed device old next
    passes = passed_line device old now next g.passed line gives sound

    -- a line was refused
    going_wrong : place ≡ record { input = input_of old; line = line.number } → IsWrong place (new_entry (names_of genome) (entry_of line.text)) fault → ReadingStops device old next fault
    going_wrong at refused =
        let none = had_none now genome g gives.was_going.0 in
        let is : fault ≡ fault_at_line (input_of old) line.number refused.kind = refused.is ∙ ap (λ (p : Place). fault_at_line p.input p.line refused.kind) at in
        record {
          bytes = passes.bytes;
          again = λ before e. cc;
          first = λ going. inl (going_refused now next line genome place fault g gives at refused);
          checked = λ rest follows.
              rw is (last_wrong (input_of old) _ _ _ (lines_given old) (entries genome) line (continues_then now next genome g gives.bytes.1 rest follows) (gives.bytes.3 rest follows) gives.counted refused.says);
          near = λ none. near_after old next passes.bytes.0 passes.lines passes.least;
        }

    -- or had no room
    going_unkept : IsUnkept place (new_entry (names_of genome) (entry_of line.text)) fault → ReadingStops device old next fault
    going_unkept unkept =
        let none = had_none now genome g gives.was_going.0 in
        record {
          bytes = passes.bytes;
          again = λ before e. cc;
          first = λ going. inr (inr (record { is = unkept.is; served = gives.served ∙ g.served; no_read = none_failed (fault_kept next) gives.goes }));
          checked = λ rest follows. none_wrong (input_of old) _ _ (lines_given old) (lines_given next) (entries genome ++ unkept.item ∷ []) fault
              (continues_line (input_of old) _ _ _ (lines_given old) (entries genome) line (continues_then now next genome g gives.bytes.1 rest follows) (gives.bytes.3 rest follows) gives.counted unkept.says);
          near = λ none. near_after old next passes.bytes.0 passes.lines passes.least;
        }

  -- a line could not be added
  pub going_err : (now next : LineReader S) (line : TextLine) (genome : Genome) (place : Place) (fault : FaultValue) → Going device old now genome → GivesLine device now line next → (IsSound device now → IsSound device next)
      → place ≡ record { input = input_of old; line = line.number } → IsLost place (new_entry (names_of genome) (entry_of line.text)) fault → ReadingStops device old next fault
  going_err now next line genome place fault g gives sound at lost =
      elim (lost_parts place (new_entry (names_of genome) (entry_of line.text)) fault lost) [
        | inl refused ↦ going_wrong now next line genome place fault g gives sound at refused
        | inr unkept ↦ going_unkept now next line genome place fault g gives sound unkept
      ]

-- a length at a rank is that of a chromosome
pub some_length : (chromosomes : List (Vec ℕ Global × ℕ)) (rank size : ℕ) → All (λ chromosome. 0 < chromosome.1) chromosomes → slice_get (map (λ chromosome. chromosome.1) chromosomes) rank ≡ Some size → 0 < size
some_length [] rank size all e = cc
some_length (first ∷ others) zero size all e = let is : first.1 ≡ size = cc in subst (λ n. 0 < n) is (All-head (λ (chromosome : Vec ℕ Global × ℕ). 0 < chromosome.1) first others all)
some_length (first ∷ others) (suc rank) size all e = some_length others rank size (All-tail (λ (chromosome : Vec ℕ Global × ℕ). 0 < chromosome.1) first others all) e

-- a chromosome after others that have bases
pub entries_non_empty : (chromosomes : List (Vec ℕ Global × ℕ)) (name : Vec ℕ Global) (size : ℕ) (text : List ℕ) → name.items ≡ text → is_among (genome_names (map entry_seen chromosomes)) text ≡ false → All (λ chromosome. 0 < chromosome.1) chromosomes → 0 < size
    → All (λ chromosome. 0 < chromosome.1) (insert_entry (λ a b. bytes_eq a.items b.items) chromosomes name size)
entries_non_empty chromosomes name size text is new all some = grind (arith, common_steps, inserted_last)
