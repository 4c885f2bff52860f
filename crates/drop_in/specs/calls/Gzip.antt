-- Gzip files, by RFC 1952, and what their texts may be.
use Rattle.std.specs.Prelude.{ℕ, Bool, List, [], ◌∷◌, ◌||◌, ◌&&◌, ◌==◌, ◌-◌, ◌%◌, ◌^◌, nat_le, length, drop}
use Rattle.std.specs.Int.{from_le_bytes, w32}
use Rattle.std.specs.List.{starts_with}

-- The header of the first part (section 2.3.1): ID1 and ID2 say that it is a gzip file, CM that it is deflated, and of FLG only
-- FEXTRA is set, so that there are extra fields. Blocks as bgzip writes them have such headers, and others rarely do.
abbrev pub has_extra_fields : List ℕ → Bool
has_extra_fields zipped = starts_with (λ a b. a == b) zipped (31 ∷ 139 ∷ 8 ∷ 4 ∷ [])

-- ISIZE, the last four bytes, the least significant first (sections 2.1 and 2.3.1): the length of the text of the last part
-- modulo 2^32
abbrev pub tells_length : List ℕ → ℕ → Bool
tells_length zipped count =
    nat_le 4 (length zipped) && (from_le_bytes w32 (drop (length zipped - 4) zipped) == (count % (2 ^ 32)))

-- a gzip file whose text has this length is one part, as far as that can be known: or it is in blocks as bgzip writes them
abbrev pub is_one_part : List ℕ → ℕ → Bool
is_one_part zipped count = has_extra_fields zipped || tells_length zipped count

-- the text is a BAM file, by its magic string (SAM specification, section 4.2): "BAM" and the byte 1
abbrev pub is_bam : List ℕ → Bool
is_bam text = starts_with (λ a b. a == b) text (66 ∷ 65 ∷ 77 ∷ 1 ∷ [])
