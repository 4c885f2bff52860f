-- What a reader keeps.
use Rattle.std.specs.Prelude.{◌≡◌, ◌<◌, length, drop, take, ℕ, Bool, true, false, List, [], ◌∷◌, ◌++◌, cond, Result, Ok, Err, slice_range, suc, Option, Some, None}
use Rattle.bt_lines.specs.calls.Line.{NoLineFeed}
use Rattle.bt_lines.specs.declared.reader.read_buffer.ReadBuffer.{ReadBuffer}
use Rattle.bt_lines.specs.model.Fault.{FaultValue, read_failed}
use Rattle.bt_lines.specs.calls.Faults.{no_memory}
use Rattle.bt_lines.specs.declared.fault.Input.{Input}
use Rattle.bt_lines.specs.declared.reader.line_reader.State.{State}
use Rattle.bt_lines.specs.declared.reader.line_reader.State.TheVariants.{Reading, LastLine, Ended, ReadFailed, TooLong, NoMemory}

-- What a reader has buffered: complete lines, and what was read after them.

-- the complete lines
unfoldable pub complete : ReadBuffer → List ℕ
complete buffer =
    cond buffer.is_spilled (drop buffer.start buffer.spilled.items)
    (slice_range buffer.bytes buffer.start buffer.whole)

-- what was read after them
unfoldable pub unread : ReadBuffer → List ℕ
unread buffer = slice_range buffer.bytes buffer.whole buffer.end

-- what comes before the lines where they are: those that were consumed last end there
unfoldable pub gone : ReadBuffer → List ℕ
gone buffer = take buffer.start (cond buffer.is_spilled buffer.spilled.items buffer.bytes)

-- what was read after the lines was searched for others
abbrev pub FindsLines : ReadBuffer → Bool → ReadBuffer → Type 0
FindsLines old true new = (complete new ++ unread new ≡ unread old) × (0 < length (complete new))
FindsLines old false new =
    (complete new ≡ []) × (unread new ≡ unread old) × NoLineFeed (unread new)

-- the bytes up to the first line feed, or else all, were moved to the end of a line
abbrev pub MovesPiece : {E : Type 0} → List ℕ → List ℕ → Result Bool E → List ℕ → List ℕ → Type 0
MovesPiece unread text (Ok true) new_unread new_text =
    (piece : List ℕ) × NoLineFeed piece × (unread ≡ piece ++ 10 ∷ new_unread)
    × (new_text ≡ text ++ (piece ++ 10 ∷ []))
MovesPiece unread text (Ok false) new_unread new_text =
    NoLineFeed unread × (new_unread ≡ []) × (new_text ≡ text ++ unread)
MovesPiece unread text (Err e) new_unread new_text = (new_unread ≡ unread) × (new_text ≡ text)

-- How far a reader is.

-- the fault that ended the reading, if one did
abbrev pub fault_at : State → Input → ℕ → Option FaultValue
fault_at ReadFailed input number = Some (read_failed input (suc number))
fault_at TooLong input number = Some (read_failed input (suc number))
fault_at NoMemory input number = Some no_memory
fault_at _ input number = None

-- whether the end was reported
abbrev pub told_at : State → Bool
told_at LastLine = true
told_at Ended = true
told_at _ = false

-- whether the last line that is buffered has no line feed of its own
abbrev pub open_at : State → Bool
open_at LastLine = true
open_at _ = false

-- whether the reader is after the last line
abbrev pub ended_at : State → Bool
ended_at Ended = true
ended_at _ = false

-- whether a line may be buffered
abbrev pub lends_at : State → Bool
lends_at Reading = true
lends_at LastLine = true
lends_at _ = false

-- how many bytes were taken: one past the bound isn't counted apart
abbrev pub taken_at : State → ℕ → ℕ
taken_at TooLong taken = suc taken
taken_at _ taken = taken
