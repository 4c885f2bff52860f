-- What a masking engine keeps, and its steps.
use Rattle.std.specs.Prelude.{◌≡◌, ◌⊎◌, ℕ, ◌&&◌, not, Bool, true, false, List, [], ◌∷◌, ◌++◌, Option, Some, None, bytes_eq, option_map, if◌then◌else◌, ◌||◌, length, nat_lt, is_none, nat_le, Result, Ok, Err, cond, is_some, nat_eq}
use Rattle.std.specs.List.{last_or}
use Rattle.std.specs.Option.{option_map_or}
use Rattle.bt_bed.specs.model.Feature.{Feature}
use Rattle.bt_bed.specs.model.BedLine.{fault_at_line}
use Rattle.bt_seq.specs.model.Masked.{masked_from}
use Rattle.bt_seq.specs.model.Fasta.{is_sequence_header, name_in}
use Rattle.bt_seq.specs.model.SequenceBlocks.{names_behind, left_by, Owned, owned}
use Rattle.bt_seq.specs.declared.mask.matching.Owner.{Owner}
use Rattle.bt_seq.specs.declared.mask.matching.Owner.TheVariants.{Own, Earlier, Nobody}
use Rattle.bt_bed.specs.declared.record.taken.Taken.TheVariants.{Yes, No}
use Rattle.bt_bed.specs.declared.record.taken.Taken.{Taken}
use Rattle.bt_lines.specs.calls.Faults.{no_memory}
use Rattle.bt_lines.specs.model.Lines.{end_bytes}
use Rattle.bt_lines.specs.calls.Names.{fault_value}
use Rattle.bt_lines.specs.calls.Output.{Output, FailsToAdd, Grown}
use Rattle.bt_lines.specs.declared.fault.Fault.{Fault}
use Rattle.bt_lines.specs.declared.fault.Input.TheVariants.{First, Second}
use Rattle.bt_lines.specs.declared.fault.Kind.TheVariants.{TextBeforeHeader, NoSequence}
use Rattle.bt_lines.specs.declared.reader.line.LineEnd.{LineEnd}
use Rattle.bt_seq.specs.inside.Window.{Bounds, gone_on, limit, no_bases}
use Rattle.bt_seq.specs.declared.mask.mask_how.MaskHow.{MaskHow}
use Rattle.bt_seq.specs.declared.mask.MaskWant.{MaskWant}
use Rattle.bt_seq.specs.declared.mask.MaskWant.TheVariants.{Line, Bed, Nothing}

-- Which sequence the block of a record belongs to, as an engine comes to know it line by line.

-- The name of the sequence given last, if there is one, and the chromosome of the last block that
-- belongs to a sequence, if there is one. Then whether that is the sequence given last.
pub record Matched : Type 0 where
  pub name : Option (List ℕ)
  pub last : Option (List ℕ)
  pub own : Bool

abbrev pub is_it : Option (List ℕ) → List ℕ → Bool
is_it None name = false
is_it (Some n) name = bytes_eq n name

-- whether a new block on a chromosome belongs to the sequence given last
abbrev pub begins_own : Matched → List ℕ → Bool
begins_own m chrom = not m.own && is_it m.name chrom

-- the sequence of the block of the next record, on this chromosome
abbrev pub owner_of : Matched → List ℕ → Owner
owner_of m chrom =
    if is_it m.last chrom then (if m.own then Own else Earlier)
    else (if begins_own m chrom then Own else Nobody)

-- with that record
abbrev pub matched_with : Matched → List ℕ → Matched
matched_with m chrom =
    if is_it m.last chrom then m
    else (if begins_own m chrom then record { name = m.name; last = m.name; own = true } else m)

-- with a new sequence of this name
abbrev pub named : Matched → List ℕ → Matched
named m name = record { name = Some name; last = m.last; own = false }

-- the chromosome of the last record, if there is one
abbrev pub last_chrom : List Feature → Option (List ℕ)
last_chrom records = option_map (λ r. r.chrom) (last_or None records)

-- the names after the sequence of the last block: these, if there is none
abbrev pub left_at_last : {A : Type 0} → Option (List (List ℕ)) → List (Owned A)
    → Option (List (List ℕ))
left_at_last left [] = left
left_at_last left (o ∷ os) = left_at_last o.left os

abbrev pub left_after : List (List ℕ) → List Feature → Option (List (List ℕ))
left_after names records = left_at_last (Some names) (owned names records)

-- whether a record goes on with the block of the last of the records
abbrev pub goes_on_block : List Feature → Feature → Bool
goes_on_block records r = option_map_or (λ s. bytes_eq s.chrom r.chrom) (last_or None records) false

-- one more record goes on with the last block, or begins one, whose sequence comes after that of
-- the last one
abbrev pub next_goes_on_or_begins : Type 0
next_goes_on_or_begins = (names : List (List ℕ)) (records : List Feature) (r : Feature)
    → left_after names (records ++ r ∷ [])
    ≡ (if goes_on_block records r then left_after names records
    else left_by (left_after names records) r.chrom)

-- the last block belongs to the last of the names
pub record KnowsOwn (names : List (List ℕ)) (records : List Feature) (m : Matched) : Type 0 where
  pub left : left_after names records ≡ Some []
  pub own : m.own ≡ true

-- names are left after the sequence of the last block, and the last of them is the last of all
pub record KnowsEarlier (names : List (List ℕ)) (records : List Feature)
    (m : Matched) : Type 0 where
  pub before : List (List ℕ)
  pub name : List ℕ
  pub left : left_after names records ≡ Some (before ++ name ∷ [])
  pub named : m.name ≡ Some name
  pub own : m.own ≡ false

pub record Knows (names : List (List ℕ)) (records : List Feature) (m : Matched) : Type 0 where
  pub last : m.last ≡ last_chrom records
  pub where_last : KnowsOwn names records m ⊎ KnowsEarlier names records m

-- the sequence of a block after which these names are left
abbrev pub owner_by : Option (List (List ℕ)) → Owner
owner_by None = Nobody
owner_by (Some []) = Own
owner_by (Some (name ∷ names)) = Earlier

-- The sequence of the next record's block is found, if a record that begins a block has none of the
-- names that are left before the last.
abbrev pub owners_are_found : Type 0
owners_are_found = (names : List (List ℕ)) (records : List Feature) (m : Matched) (r : Feature)
    → Knows names records m
    → (goes_on_block records r ≡ false → (e : KnowsEarlier names records m)
    → names_behind r.chrom e.before ≡ None)
    → owner_of m r.chrom ≡ owner_by (left_after names (records ++ r ∷ []))

-- What a masking engine keeps, and its steps.

-- a line that isn't written yet
pub record Waiting : Type 0 where
  pub text : List ℕ
  pub ending : LineEnd

pub record Masking : Type 0 where
  pub how : MaskHow
  pub full : Bool
  pub matched : Matched
  pub window : Bounds
  pub waiting : Option Waiting
  pub want : MaskWant
  pub bed_ended : Bool
  -- up to which base of the sequence the record ahead decides lines; it means something while a
  -- line is wanted after the first header and the records haven't ended
  pub decided_to : ℕ

-- whether a line of this text is at fault: there is text, and no header yet
abbrev pub is_stray : Masking → List ℕ → Bool
is_stray m text = not (is_sequence_header text) && (is_none m.matched.name && nat_lt 0 (length text))

-- with the next line, before it waits or is written
abbrev pub moved_to : Masking → List ℕ → Masking
moved_to m text =
    if is_sequence_header text
    then record m { matched = named m.matched (name_in m.full text); window = no_bases }
    else record m { window = gone_on m.window (length text) }

-- what is written of a line
abbrev pub line_bytes : Masking → Waiting → List ℕ
line_bytes m line = masked_from m.how m.window.held m.window.before line.text ++ end_bytes line.ending

-- Whether a line of this text, to which it has moved, is written at once. It is if the records have ended,
-- if no header has come, or if it is no header and lies where the record ahead decides it.
abbrev pub writes_at_once : Masking → List ℕ → Bool
writes_at_once m text =
    m.bed_ended || (is_none m.matched.name
    || (not (is_sequence_header text) && nat_le m.window.bases m.decided_to))

-- whether a line may need memory: a header for its name, and what waits or is masked for its text
abbrev pub may_grow : Masking → List ℕ → Bool
may_grow m text =
    is_sequence_header text || (not (writes_at_once m text) || nat_lt 0 (length m.window.held))

-- moving to a line
abbrev pub Moves : {A : Type 0} → Masking → ℕ → List ℕ → Result A Fault → Masking → Type 0
Moves old number text (Ok done) new = (new ≡ moved_to old text) × (is_stray old text ≡ false)
Moves old number text (Err fault) new =
    ((fault_value fault ≡ fault_at_line First number TextBeforeHeader) × (is_stray old text ≡ true))
    ⊎ ((fault_value fault ≡ no_memory) × (is_stray old text ≡ false) × (is_sequence_header text ≡ true))

-- writing the line that waits
abbrev pub WritesWaiting : {A : Type 0} → Masking → Waiting → Output → Result A Fault → Masking → Output
    → Type 0
WritesWaiting old line out (Ok done) new grown =
    (new ≡ record old { waiting = None; want = Line }) × Grown out (line_bytes old line) grown
WritesWaiting old line out (Err fault) new grown =
    (new.want ≡ Nothing) × FailsToAdd out (line_bytes old line) (fault_value fault) grown

-- keeping a line until it is decided
abbrev pub Keeps : {A : Type 0} → Masking → Waiting → Result A Fault → Masking → Type 0
Keeps old line (Ok done) new = new ≡ record old { waiting = Some line; want = Bed }
Keeps old line (Err fault) new = (new.want ≡ Nothing) × (fault_value fault ≡ no_memory)

-- writing a line when it is given: it is kept only if something is held
abbrev pub WritesGiven : {A : Type 0} → Masking → Waiting → Output → Result A Fault → Masking
    → Output → Type 0
WritesGiven old line out (Ok done) new grown =
    (new ≡ record old { waiting = None; want = Line }) × Grown out (line_bytes old line) grown
WritesGiven old line out (Err fault) new grown =
    (new.want ≡ Nothing)
    × (FailsToAdd out (line_bytes old line) (fault_value fault) grown
    ⊎ ((fault_value fault ≡ no_memory) × (grown ≡ out) × (nat_lt 0 (length old.window.held) ≡ true)))

-- the lines that are written once a line is given: itself if it is written at once,
-- and else none
abbrev pub bytes_at_once : Masking → Waiting → List ℕ
bytes_at_once moved line = cond (writes_at_once moved line.text) (line_bytes moved line) []

-- taking a line: it is written, or waits
abbrev pub TakesSequenceLine : {A : Type 0} → Masking → ℕ → Waiting → Output → Result A Fault → Masking
    → Output → Type 0
TakesSequenceLine old number line out (Ok done) new grown =
    (is_stray old line.text ≡ false)
    × (new ≡ record (moved_to old line.text) {
      waiting = cond (writes_at_once (moved_to old line.text) line.text) None (Some line);
      want = cond (writes_at_once (moved_to old line.text) line.text) Line Bed;
    })
    × Grown out (bytes_at_once (moved_to old line.text) line) grown
TakesSequenceLine old number line out (Err fault) new grown =
    (new.want ≡ Nothing)
    × (((fault_value fault ≡ fault_at_line First number TextBeforeHeader) × (is_stray old line.text ≡ true)
    × (grown ≡ out))
    ⊎ ((is_stray old line.text ≡ false)
    × (FailsToAdd out (bytes_at_once (moved_to old line.text) line) (fault_value fault) grown
    ⊎ ((fault_value fault ≡ no_memory) × (grown ≡ out)
    × (may_grow (moved_to old line.text) line.text ≡ true)))))

-- Whether the next line, of this text, is known to be written as it is. Then it is no header but comes
-- after one, nothing is held, and the records have ended or the record ahead decides it.
abbrev pub stays_as_given : Masking → List ℕ → Bool
stays_as_given m text =
    not (is_sequence_header text) && (is_some m.matched.name && (nat_eq (length m.window.held) 0
    && (m.bed_ended || nat_le (gone_on m.window (length text)).bases m.decided_to)))

-- with such a line, once it is written
abbrev pub passed : Masking → List ℕ → Masking
passed m text =
    record m { window = gone_on m.window (length text); waiting = None; want = Line }

-- with the sequence of the block of a record on this chromosome
abbrev pub with_owner : Masking → List ℕ → Masking
with_owner m chrom = record m { matched = matched_with m.matched chrom }

-- whether a record decides the line that waits
abbrev pub decides_by : Owner → ℕ → ℕ → Bool
decides_by Earlier bases start = false
decides_by Own bases start = nat_le bases start
decides_by Nobody bases start = true

abbrev pub decides_line : Masking → Feature → Bool
decides_line m r = decides_by (owner_of m.matched r.chrom) m.window.bases r.start

-- up to which base of the sequence given last a record decides lines, if it decides one: up to
-- its start, or all if its block belongs to nobody
abbrev pub decides_up_to : Owner → ℕ → ℕ
decides_up_to Own start = start
decides_up_to Earlier start = start
decides_up_to Nobody start = limit

-- whether a record that doesn't decide it has to be held
abbrev pub holds_by : Owner → Bounds → Feature → Bool
holds_by Earlier w r = false
holds_by Own w r = nat_lt w.before r.stop
holds_by Nobody w r = false

abbrev pub holds : Masking → Feature → Bool
holds m r = holds_by (owner_of m.matched r.chrom) m.window r

-- with the record held, if it has to be
abbrev pub with_held : Bool → Bounds → Feature → Bounds
with_held to_hold w r = if to_hold then record w { held = w.held ++ r ∷ [] } else w

abbrev pub holding : Masking → Feature → Masking
holding m r = record (with_owner m r.chrom) { window = with_held (holds m r) m.window r }

-- taking a record while a line waits
abbrev pub TakesBed : Masking → Waiting → Feature → Output → Result Taken Fault → Masking → Output
    → Type 0
TakesBed old line r out (Ok Yes) new grown =
    (decides_line old r ≡ false) × (new ≡ holding old r) × (grown ≡ out)
TakesBed old line r out (Ok No) new grown =
    (decides_line old r ≡ true)
    × (new ≡ record (with_owner old r.chrom) {
      waiting = None;
      want = Line;
      decided_to = decides_up_to (owner_of old.matched r.chrom) r.start;
    })
    × Grown out (line_bytes old line) grown
TakesBed old line r out (Err fault) new grown =
    (new.want ≡ Nothing)
    × (((decides_line old r ≡ true) × FailsToAdd out (line_bytes old line) (fault_value fault) grown)
    ⊎ ((decides_line old r ≡ false) × (holds old r ≡ true) × (fault_value fault ≡ no_memory) × (grown ≡ out)))

-- checking a record after the last line: its block belongs to a sequence
abbrev pub ChecksBed : {A : Type 0} → Masking → Feature → ℕ → Result A Fault → Masking → Type 0
ChecksBed old r line (Ok done) new =
    (owner_of old.matched r.chrom ≡ Nobody → ⊥) × (new ≡ with_owner old r.chrom)
ChecksBed old r line (Err fault) new =
    (owner_of old.matched r.chrom ≡ Nobody) × (fault_value fault ≡ fault_at_line Second line NoSequence)
    × (new.want ≡ Nothing)
