-- CIGAR strings.
use Rattle.std.specs.Prelude.{ℕ, ◌==◌, ◌||◌, Bool, List, [], ◌∷◌, codes, bytes_eq, sum_by, Option, Some, None, option_and_then, option_map, if◌then◌else◌}
use Rattle.bt_lines.specs.model.Lines.{value_of}
use Rattle.bt_seq.specs.declared.sam.cigar.Operation.{Operation}

-- CIGAR strings (Sequence Alignment/Map Format Specification, section 1.4, field 6): `*`, or one or
-- more operations, each a number and a letter. The laws on them are in `sequences` of bt_laws.

-- the letters of operations: M, I, D, N, S, H, P, = and X
abbrev pub is_letter : ℕ → Bool
is_letter byte =
    (byte == 77) || (byte == 73) || (byte == 68) || (byte == 78) || (byte == 83) || (byte == 72)
    || (byte == 80) || (byte == 61) || (byte == 88)

-- the letters of the operations that consume reference bases: M, D, N, = and X
abbrev pub consumes_reference : ℕ → Bool
consumes_reference letter =
    (letter == 77) || (letter == 68) || (letter == 78) || (letter == 61) || (letter == 88)

-- how many reference bases an operation covers
abbrev pub covered_by : Operation → ℕ
covered_by operation = if consumes_reference operation.letter then operation.length else 0

-- how many reference bases operations cover
abbrev pub reference_length : List Operation → ℕ
reference_length operations = sum_by covered_by operations

-- a part of a text: some bytes, and the letter after them
pub record Part : Type 0 where
  pub digits : List ℕ
  pub letter : ℕ

-- a part before others
abbrev pub with_part : Part → Option (List Part) → Option (List Part)
with_part part parts = option_map (λ others. part ∷ others) parts

-- a byte before the first of the parts, if there is one
abbrev pub onto_part : ℕ → Option (List Part) → Option (List Part)
onto_part byte None = None
onto_part byte (Some []) = None
onto_part byte (Some (part ∷ parts)) =
    Some (record { digits = byte ∷ part.digits; letter = part.letter } ∷ parts)

-- the parts of a text that is cut after each letter; there are none if bytes are left after
-- the last letter
abbrev pub parts_of : List ℕ → Option (List Part)
parts_of [] = Some []
parts_of (byte ∷ bytes) =
    if is_letter byte then with_part (record { digits = []; letter = byte }) (parts_of bytes)
    else onto_part byte (parts_of bytes)

-- the operation of a part whose digits denote a number
abbrev pub operation_of : Part → Option Operation
operation_of part =
    option_map (λ length. record { length = length; letter = part.letter }) (value_of part.digits)

-- an operation before others, if all are there
abbrev pub with_operation : Option Operation → Option (List Operation) → Option (List Operation)
with_operation operation operations =
    option_and_then (λ first. option_map (λ others. first ∷ others) operations) operation

-- the operations of parts, if each has one
abbrev pub each_operation : List Part → Option (List Operation)
each_operation [] = Some []
each_operation (part ∷ parts) = with_operation (operation_of part) (each_operation parts)

-- the operations of a text that can be divided into numbers and letters
unfoldable pub operations_in : List ℕ → Option (List Operation)
operations_in text = option_and_then each_operation (parts_of text)

-- The operations of a CIGAR, if it is well formed: none for `*`, which says that there is no
-- information, and else at least one.
abbrev pub operations_of : List ℕ → Option (List Operation)
operations_of [] = None
operations_of (byte ∷ bytes) =
    if bytes_eq (byte ∷ bytes) (codes "*") then Some [] else operations_in (byte ∷ bytes)

-- the reference length of a CIGAR, if it is well formed
abbrev pub cigar_length : List ℕ → Option ℕ
cigar_length cigar = option_map reference_length (operations_of cigar)
