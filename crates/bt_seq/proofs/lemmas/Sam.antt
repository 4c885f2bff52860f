-- Lemmas on SAM lines and on blocks.
use Rattle.bt_lines.proofs.Std.{common_steps, ◌≡◌, ℕ, ◌+◌, ◌≤◌, Bool, true, false, List, [], ◌∷◌, ◌++◌, length, Option, Some, None, refl, sym, ap, ◌∙◌, arith, cond, append-nil, add-zero, flat_map, false≢true, nat_tests, sum_by_push, ◌<◌, take, drop, get_or, length-append, length-take, IfSome, is_ascii_digit, list_all, list_all_more, digits_value, and_parts, take-append-drop, take_more, drop_more, take-append-le, get_or_append_left, take_all, ◌-◌, zero, suc, min, ◌||◌, map, list_any, list_any-append, Ok, Err, nat_le, bytes_decides, ⊤, flat_map-append}
use Rattle.bt_bed.specs.model.Feature.{Span, Feature, record_covers}
use Rattle.bt_seq.specs.model.Alignment.{Fields, alignment_of, sam_columns_say, fields_of, fields_say, is_skipped_sam, is_sam_kind}
use Rattle.bt_seq.specs.model.BedLines.{begins_block, block_at, blocks_in, blocks_of, cuts, is_skip, up_to_skip, with_bases}
use Rattle.bt_seq.specs.model.Cigar.{covered_by, operations_in, reference_length, with_operation, Part, is_letter, onto_part, operation_of, each_operation, parts_of}
use Rattle.bt_seq.specs.calls.Alignments.{span_with, sam_kinds_are_of_lines, wrong_have_sam_kinds}
use Rattle.bt_seq.specs.inside.Sam.{none_left, FitBehind}
use Rattle.bt_seq.specs.declared.sam.cigar.Operation.{Operation}
use Rattle.std.specs.Prelude.{option_and_then}
use Rattle.bt_lines.proofs.lemmas.numbers.NumberLemmas.{value_of_digits, value_of_empty, value_of_large, value_of_other}
use Rattle.bt_lines.specs.model.Lines.{value_of, pieces}
use Rattle.bt_seq.specs.model.Masked.{masked_byte, masked_from}
use Rattle.bt_seq.specs.model.SequenceBlocks.{Block, Owned, block_decides, block_with, blocks_by, items_if_last, left_by, own_records, owned, owned_from}
use Rattle.bt_seq.specs.declared.mask.mask_how.MaskHow.{MaskHow}
use Rattle.bt_lines.specs.declared.fault.Kind.{Kind}
use Rattle.bt_seq.proofs.lemmas.definitions.KnowsLemmas.{is_last, leave}

-- The blocks of an alignment, as they are found in one pass over its operations.

-- the blocks of operations, of which the first begins here and has come so far
abbrev pub open_blocks : ℕ → ℕ → List Operation → List Span
open_blocks start stop [] = with_bases start stop
open_blocks start stop (operation ∷ operations) =
    cond (is_skip operation) (with_bases start stop ++ open_blocks (stop + operation.length) (stop + operation.length) operations) (open_blocks start (stop + covered_by operation) operations)

abbrev pub open_in : ℕ → ℕ → Option (List Operation) → List Span
open_in start stop None = []
open_in start stop (Some operations) = open_blocks start stop operations

begins_push : (before : List Operation) (operation : Operation) → begins_block (before ++ operation ∷ []) ≡ is_skip operation
begins_push [] operation = refl
begins_push (x ∷ []) operation = refl
begins_push (x ∷ y ∷ ys) operation = begins_push (y ∷ ys) operation

length_push : (before : List Operation) (operation : Operation) → reference_length (before ++ operation ∷ []) ≡ reference_length before + covered_by operation
length_push before operation = sum_by_push covered_by before operation

-- an N covers all of its number
pub skip_covers : (operation : Operation) → is_skip operation ≡ true → covered_by operation ≡ operation.length
skip_covers operation e = grind arith

-- how far the operations up to the next N go
up_length : (operation : Operation) (operations : List Operation) → reference_length (up_to_skip (operation ∷ operations)) ≡ cond (is_skip operation) 0 (covered_by operation + reference_length (up_to_skip operations))
up_length operation operations = grind (arith, common_steps)

-- the block that is open, if none begins here
abbrev still_open : Bool → ℕ → ℕ → List Operation → List Span
still_open b start at operations = cond b [] (with_bases start (at + reference_length (up_to_skip operations)))

module _ (s : ℕ) where
  found_open : (operations before : List Operation) (b : Bool) (start at : ℕ) → at ≡ s + reference_length before → begins_block before ≡ b → (b ≡ true → start ≡ at)
      → still_open b start at operations ++ flat_map (block_at s) (cuts before operations) ≡ open_blocks start at operations
  found_open [] before b start at e begins same = grind arith
  found_open (operation ∷ operations) before b start at e begins same =
      let found = flat_map (block_at s) (cuts (before ++ operation ∷ []) operations) in
      let more : at + covered_by operation ≡ s + reference_length (before ++ operation ∷ []) = omega (arith, length_push before operation) in
      let skipped : is_skip operation ≡ true → found ≡ open_blocks (at + operation.length) (at + operation.length) operations =
      λ k. found_open operations (before ++ operation ∷ []) true (at + operation.length) (at + operation.length) (ap (λ n. at + n) (sym (skip_covers operation k)) ∙ more) (begins_push before operation ∙ k) (λ h. refl) in
      let going : is_skip operation ≡ false → with_bases start (at + covered_by operation + reference_length (up_to_skip operations)) ++ found ≡ open_blocks start (at + covered_by operation) operations =
      λ k. found_open operations (before ++ operation ∷ []) false start (at + covered_by operation) more (begins_push before operation ∙ k) (λ h. absurd (false≢true h)) in
      grind (arith, up_length)

-- the blocks are those that are found in one pass
pub blocks_open : (start : ℕ) (operations : List Operation) → blocks_of start operations ≡ open_blocks start start operations
unfolding blocks_of
blocks_open start operations = found_open start operations [] true start start (sym (add-zero start)) refl (λ h. refl)

pub blocks_open_in : (start : ℕ) (operations : Option (List Operation)) → blocks_in start operations ≡ open_in start start operations
blocks_open_in start operations = grind (arith, blocks_open)

-- an N ends the block
module _ (start stop : ℕ) (operation : Operation) where
  pub block_ends : (more : Option (List Operation)) → is_skip operation ≡ true → FitBehind stop (with_operation (Some operation) more)
      → open_in start stop (with_operation (Some operation) more) ≡ with_bases start stop ++ blocks_in (stop + operation.length) more
  block_ends more k h = grind (arith, blocks_open)

-- no operation is left
pub block_is_last : (start stop : ℕ) (rest : List ℕ) → operations_in rest ≡ none_left rest → FitBehind stop (operations_in rest)
    → open_in start stop (operations_in rest) ≡ with_bases start stop ++ blocks_in stop (operations_in rest)
block_is_last start stop rest e h = grind (arith, blocks_open)

-- an empty text has no blocks
pub no_blocks : (start : ℕ) (rest : List ℕ) → length rest ≡ 0 → blocks_in start (operations_in rest) ≡ []
unfolding operations_in
no_blocks start rest e = grind (arith, common_steps, blocks_open)

pub is_skip_by : (operation : Operation) → operation.letter ≡ 78 → is_skip operation ≡ true
is_skip_by operation e = grind arith

-- an empty text has operations, none of them
pub nothing_fits : (start : ℕ) → start ≤ 999999999999 → FitBehind start (operations_in [])
unfolding operations_in
nothing_fits start small = grind arith

-- Lemmas on the operations of a CIGAR.

-- no digit is a letter of an operation
pub digit_no_letter : (byte : ℕ) → is_ascii_digit byte ≡ true → is_letter byte ≡ false
digit_no_letter byte digit = grind arith

-- some bytes before the first of the parts
abbrev onto_front : List ℕ → Option (List Part) → Option (List Part)
onto_front [] parts = parts
onto_front (byte ∷ bytes) parts = onto_part byte (onto_front bytes parts)

-- none of these is a letter
abbrev pub no_letters : List ℕ → Bool
no_letters bytes = list_all (λ byte. cond (is_letter byte) false true) bytes

parts_behind : (front rest : List ℕ) → no_letters front ≡ true → parts_of (front ++ rest) ≡ onto_front front (parts_of rest)
parts_behind [] rest e = refl
parts_behind (byte ∷ bytes) rest e =
    grind (arith, (parts_behind bytes rest (and_parts (cond (is_letter byte) false true) (no_letters bytes) e).1))

-- digits before the parts, of which the first begins so
onto_some : (front : List ℕ) (part : Part) (parts : List Part)
    → onto_front front (Some (part ∷ parts)) ≡ Some (record { digits = front ++ part.digits; letter = part.letter } ∷ parts)
onto_some [] part parts = refl
onto_some (byte ∷ bytes) part parts = rw (onto_some bytes part parts) refl

onto_none : (front : List ℕ) → onto_front front None ≡ None
onto_none [] = refl
onto_none (byte ∷ bytes) = rw (onto_none bytes) refl

onto_nothing : (byte : ℕ) (bytes : List ℕ) → onto_front (byte ∷ bytes) (Some []) ≡ None
onto_nothing byte [] = refl
onto_nothing byte (b ∷ bs) = rw (onto_nothing b bs) refl

-- a prefix without letters that no number begins with
no_number_by : (byte : ℕ) (bytes : List ℕ) (parts : Option (List Part)) → ((more : List ℕ) → value_of ((byte ∷ bytes) ++ more) ≡ None)
    → option_and_then each_operation (onto_front (byte ∷ bytes) parts) ≡ None
no_number_by byte bytes None none = rw (onto_none (byte ∷ bytes)) refl
no_number_by byte bytes (Some []) none = rw (onto_nothing byte bytes) refl
no_number_by byte bytes (Some (part ∷ parts)) none = rw (onto_some (byte ∷ bytes) part parts, none part.digits) refl

pub no_number : (front rest : List ℕ) → 0 < length front → no_letters front ≡ true → ((more : List ℕ) → value_of (front ++ more) ≡ None) → operations_in (front ++ rest) ≡ None
unfolding operations_in
no_number [] rest some e none = absurd (omega arith)
no_number (byte ∷ bytes) rest some e none = grind (arith, parts_behind, no_number_by)

pub first_operation_is : (digits : List ℕ) (letter : ℕ) (rest : List ℕ) → no_letters digits ≡ true → is_letter letter ≡ true
    → operations_in (digits ++ letter ∷ rest) ≡ with_operation (operation_of (record { digits = digits; letter = letter })) (operations_in rest)
unfolding operations_in
first_operation_is digits letter rest e is = grind (arith, parts_behind, onto_none, onto_some, append-nil)

-- digits aren't letters
pub digits_no_letters : (bytes : List ℕ) → list_all is_ascii_digit bytes ≡ true → no_letters bytes ≡ true
digits_no_letters [] e = refl
digits_no_letters (byte ∷ bytes) e =
    let p = and_parts (is_ascii_digit byte) (list_all is_ascii_digit bytes) e in
    rw (digit_no_letter byte p.0, digits_no_letters bytes p.1) refl

cut_there : (text : List ℕ) (n : ℕ) → n < length text → text ≡ take n text ++ get_or text n 0 ∷ drop (n + 1) text
cut_there text n inside = sym (take-append-drop n text) ∙ ap (λ l. take n text ++ l) (drop_more text n 0 inside)

-- digits, and the letter of an operation after them
pub first_is : (text : List ℕ) (value end letter : ℕ) → end < length text → 0 < end → value ≡ digits_value 10 (take end text) → list_all is_ascii_digit (take end text) ≡ true
    → value ≤ 999999999999 → letter ≡ get_or text end 0 → is_letter letter ≡ true
    → operations_in text ≡ with_operation (Some (record { length = value; letter = letter })) (operations_in (drop (end + 1) text))
first_is text value end letter inside some is digits small at named =
    let low : digits_value 10 (take end text) ≤ 999999999999 = rw (← is) small in
    let number : value_of (take end text) ≡ Some value = sym (value_of_digits (take end text) (omega (arith, length-take end text)) digits low) ∙ ap Some (sym is) in
    grind (arith, (cut_there text end inside), (first_operation_is (take end text) letter (drop (end + 1) text) (digits_no_letters (take end text) digits) named))

-- a letter without a number
pub bare_letter : (text : List ℕ) → 0 < length text → is_letter (get_or text 0 0) ≡ true → operations_in text ≡ none_left text
bare_letter [] some named = absurd (omega arith)
bare_letter (byte ∷ bytes) some named = first_operation_is [] byte bytes refl named ∙ rw (sym (value_of_empty [] refl)) refl

-- digits, and a byte after them that is neither a digit nor a letter
pub other_byte : (text : List ℕ) (end : ℕ) → end < length text → list_all is_ascii_digit (take end text) ≡ true → is_ascii_digit (get_or text end 0) ≡ false
    → is_letter (get_or text end 0) ≡ false → operations_in text ≡ none_left text
other_byte text end inside digits no_digit no_letter =
    let front = take (end + 1) text in
    let size : length front ≡ end + 1 = omega (arith, length-take (end + 1) text) in
    let at : (more : List ℕ) → get_or (front ++ more) end 0 ≡ get_or text end 0 =
    λ more. get_or_append_left front more 0 end (omega arith) ∙ get_or_front text end inside in
    let clear : no_letters front ≡ true = rw (list_all_more (λ byte. cond (is_letter byte) false true) text end 0 inside, digits_no_letters (take end text) digits, no_letter) refl in
    grind (arith, value_of_other, length-append, (take-append-drop (end + 1) text), no_number)
  where
    get_or_front : (text : List ℕ) (end : ℕ) → end < length text → get_or (take (end + 1) text) end 0 ≡ get_or text end 0
    get_or_front text end inside = sym (get_or_append_left (take (end + 1) text) (drop (end + 1) text) 0 end (omega (arith, length-take (end + 1) text))) ∙ ap (λ l. get_or l end 0) (take-append-drop (end + 1) text)

-- a text that begins with no digit
pub no_operation_at_all : (text : List ℕ) (end : ℕ) → end ≡ 0 → end < length text → is_ascii_digit (get_or text end 0) ≡ false → operations_in text ≡ none_left text
no_operation_at_all text end e inside no_digit = by (is_letter (get_or text 0 0)) refl
  where
    by : (b : Bool) → is_letter (get_or text 0 0) ≡ b → operations_in text ≡ none_left text
    by true is = bare_letter text (omega arith) is
    by false is = other_byte text 0 (omega arith) refl (ap (λ n. is_ascii_digit (get_or text n 0)) (sym e) ∙ no_digit) is

-- digits that are too many
pub large_number : (text : List ℕ) (end value : ℕ) → end < length text → list_all is_ascii_digit (take (end + 1) text) ≡ true → value ≡ digits_value 10 (take (end + 1) text)
    → 999999999999 < value → operations_in text ≡ none_left text
large_number text end value inside digits is large =
    let front = take (end + 1) text in
    let size : length front ≡ end + 1 = omega (arith, length-take (end + 1) text) in
    let none : (more : List ℕ) → value_of (front ++ more) ≡ None =
    λ more. sym (value_of_large (front ++ more) (end + 1) (rw (take-append-le (end + 1) front more (omega arith), take_front text (end + 1), ← is) large)) in
    grind (arith, (take-append-drop (end + 1) text), (no_number front (drop (end + 1) text) (omega arith) (digits_no_letters front digits) none))
  where
    take_front : (text : List ℕ) (n : ℕ) → take n (take n text) ≡ take n text
    take_front text n = take_all n (take n text) (omega (arith, length-take n text))

-- digits alone
pub digits_alone : (text : List ℕ) (end : ℕ) → length text ≤ end → list_all is_ascii_digit (take end text) ≡ true → operations_in text ≡ none_left text
unfolding operations_in
digits_alone [] end past digits = refl
digits_alone (byte ∷ bytes) end past digits =
    let all : list_all is_ascii_digit (byte ∷ bytes) ≡ true = sym (ap (list_all is_ascii_digit) (take_all end (byte ∷ bytes) past)) ∙ digits in
    grind (arith, (append-nil (byte ∷ bytes)), (parts_behind (byte ∷ bytes) [] (digits_no_letters (byte ∷ bytes) all)), (onto_nothing byte bytes))

-- no operation is left
pub span_end : (total : ℕ) (rest : List ℕ) → length rest ≡ 0 → total ≤ 1000000000000 → Some total ≡ span_with total (operations_in rest)
unfolding operations_in
span_end total rest e small = grind (arith, common_steps)

-- an operation covers no more bases than its number
pub covered_within : (operation : Operation) → covered_by operation ≤ operation.length
covered_within operation = grind arith

-- a part before the parts of the rest
pub parts_cut : (digits : List ℕ) (letter : ℕ) (rest : List ℕ) (parts : List Part) → no_letters digits ≡ true → is_letter letter ≡ true → parts_of rest ≡ Some parts
    → parts_of (digits ++ letter ∷ rest) ≡ Some (record { digits = digits; letter = letter } ∷ parts)
parts_cut digits letter rest parts e is found = grind (arith, parts_behind, onto_some, append-nil)

-- a single M covers as many bases as its number says
single_match : (digits : List ℕ) (value : ℕ) → length digits ≤ 12 → Some value ≡ value_of digits → span_with 0 (operations_in (digits ++ 77 ∷ [])) ≡ Some value
unfolding operations_in value_of
single_match digits value few e = grind (arith, first_operation_is, digits_no_letters)

pub single_span_is : (text : List ℕ) (end : ℕ) (number : Option ℕ) → end ≤ 12 → length text ≡ end + 1 → get_or text end 0 ≡ 77 → number ≡ value_of (take end text) → IfSome number (λ span. span_with 0 (operations_in text) ≡ Some span)
single_span_is text end number few size last e = grind (arith, take_all, take_more, single_match, length-take)

-- Lemmas on records that mask bases.

-- without a record nothing changes
pub none_masked : (how : MaskHow) (position : ℕ) (bases : List ℕ) → bases ≡ masked_from how [] position bases
none_masked how position [] = refl
none_masked how position (base ∷ bases) = ap (λ bs. base ∷ bs) (none_masked how (suc position) bases)

-- records mask one after another
pub one_behind : (how : MaskHow) (rs : List Feature) (r : Feature) (position : ℕ) (bases : List ℕ) → masked_from how (rs ++ r ∷ []) position bases ≡ masked_from how (r ∷ []) position (masked_from how rs position bases)
one_behind how rs r position [] = refl
one_behind how rs r position (base ∷ bases) = grind (arith, list_any-append, one_behind how rs r (suc position) bases)

module _ (how : MaskHow) (r : Feature) where
  outside : (position base : ℕ) (bases : List ℕ) → record_covers position r ≡ false → base ∷ masked_from how (r ∷ []) (suc position) bases ≡ masked_from how (r ∷ []) position (base ∷ bases)
  outside position base bases e = sym (ap (λ b. cond (b || false) (masked_byte how base) base ∷ masked_from how (r ∷ []) (suc position) bases) e)

  inside : (position base : ℕ) (bases : List ℕ) → record_covers position r ≡ true → masked_byte how base ∷ masked_from how (r ∷ []) (suc position) bases ≡ masked_from how (r ∷ []) position (base ∷ bases)
  inside position base bases e = sym (ap (λ b. cond (b || false) (masked_byte how base) base ∷ masked_from how (r ∷ []) (suc position) bases) e)

  -- from a position in or after the record on
  from_inside : (bases : List ℕ) (position to : ℕ) → r.start ≤ position → to ≡ min (r.stop - position) (length bases)
      → map (masked_byte how) (take to bases) ++ drop to bases ≡ masked_from how (r ∷ []) position bases
  from_inside [] position zero low e = refl
  from_inside [] position (suc to) low e = absurd (omega arith)
  from_inside (base ∷ bases) position zero low e = grind (arith, (from_inside bases (suc position) zero (omega arith) (omega arith)))
  from_inside (base ∷ bases) position (suc to) low e = grind (arith, (from_inside bases (suc position) to (omega arith) (omega arith)))

  -- from any position on
  pub masked_between : (bases : List ℕ) (position from count : ℕ) → from ≡ min (r.start - position) (length bases) → from + count ≡ min (r.stop - position) (length bases)
      → take from bases ++ (map (masked_byte how) (take count (drop from bases)) ++ drop count (drop from bases)) ≡ masked_from how (r ∷ []) position bases
  masked_between [] position zero zero d e = refl
  masked_between [] position zero (suc count) d e = absurd (omega arith)
  masked_between [] position (suc from) count d e = absurd (omega arith)
  masked_between (base ∷ bases) position zero count d e = from_inside (base ∷ bases) position count (omega arith) (omega arith)
  masked_between (base ∷ bases) position (suc from) count d e = grind (arith, (masked_between bases (suc position) from count (omega arith) (omega arith)))

  -- if nothing is between, nothing changes
  pub masked_nowhere : (bases : List ℕ) (position from to : ℕ) → from ≡ min (r.start - position) (length bases) → to ≡ min (r.stop - position) (length bases) → to ≤ from
      → bases ≡ masked_from how (r ∷ []) position bases
  masked_nowhere [] position from to d e high = refl
  masked_nowhere (base ∷ bases) position from to d e high =
      ap (λ bs. base ∷ bs) (masked_nowhere bases (suc position) (min (r.start - suc position) (length bases)) (min (r.stop - suc position) (length bases)) refl refl (omega arith))
      ∙ outside position base bases (grind (arith, nat_tests))

-- What is wrong with a line of a SAM file.

of_columns : (f : Fields) (flag : Option ℕ) (chrom : List ℕ) (p q s : Option ℕ) (kind : Kind) → sam_columns_say f flag chrom p q s ≡ Err kind → is_sam_kind kind ≡ true
of_columns f flag chrom p q s kind e = grind arith

of_fields : (fields : Option Fields) (kind : Kind) → fields_say fields ≡ Err kind → is_sam_kind kind ≡ true
unfolding fields_say
of_fields fields kind e = grind (arith, of_columns)

of_line : (b : Bool) (fields : Option Fields) (kind : Kind) → cond b (Ok None) (fields_say fields) ≡ Err kind → is_sam_kind kind ≡ true
of_line true fields kind e = cc
of_line false fields kind e = of_fields fields kind e

pub wrong_kinds : wrong_have_sam_kinds
unfolding alignment_of
wrong_kinds text kind e = of_line (is_skipped_sam text) (fields_of (pieces 9 text)) kind e

pub kinds_of_lines : sam_kinds_are_of_lines
kinds_of_lines x0 e = grind arith

-- Lemmas on blocks, record by record: each with the names that its block leaves.

-- a record, and the names that its block leaves
pub record Tagged (A : Type 0) : Type 0 where
  pub item : A
  pub left : Option (List (List ℕ))

-- there is one at least
abbrev pub HasOne : {A : Type 0} → List A → Type 0
HasOne [] = ⊥
HasOne (x ∷ xs) = ⊤

abbrev pub AllHaveOne : {A : Type 0} → List (Block A) → Type 0
AllHaveOne [] = ⊤
AllHaveOne (b ∷ bs) = HasOne b.items × AllHaveOne bs

module _ {A : Type 0} where
  abbrev pub tag_items : Option (List (List ℕ)) → List A → List (Tagged A)
  tag_items left xs = map (λ x. record { item = x; left = left }) xs

  abbrev pub spread : List (Owned A) → List (Tagged A)
  spread [] = []
  spread (o ∷ os) = tag_items o.left o.block.items ++ spread os

module _ {A : Type 0} (chrom : A → List ℕ) where
  abbrev pub next_left : Option (List (List ℕ)) → Option (List ℕ) → A → Option (List (List ℕ))
  next_left left last x = cond (is_last last (chrom x)) left (left_by left (chrom x))

  abbrev pub tags : Option (List (List ℕ)) → Option (List ℕ) → List A → List (Tagged A)
  tags left last [] = []
  tags left last (x ∷ xs) = record { item = x; left = next_left left last x } ∷ tags (next_left left last x) (Some (chrom x)) xs

  abbrev blocks : List A → List (Block A)
  blocks xs = blocks_by chrom xs

  -- the tags of blocks, of which the first goes on with the last chromosome if that is its own
  abbrev blocks_tags : Option (List (List ℕ)) → Option (List ℕ) → List (Block A) → List (Tagged A)
  blocks_tags left last [] = []
  blocks_tags left last (b ∷ bs) = cond (is_last last b.chrom) (tag_items left b.items ++ spread (owned_from left bs)) (spread (owned_from left (b ∷ bs)))

  tags_on : (left : Option (List (List ℕ))) (last : Option (List ℕ)) (xs : List A) → tags left last xs ≡ blocks_tags left last (blocks xs)
  tags_on left last [] = refl
  tags_on left last (x ∷ xs) = grind (arith, (tags_on (next_left left last x) (Some (chrom x)) xs), bytes_decides)

  -- the tags of all
  pub tags_all : (left : Option (List (List ℕ))) (xs : List A) → tags left None xs ≡ spread (owned_from left (blocks xs))
  tags_all left xs = tags_on left None xs ∙ (grind arith)

  with_one : (x : A) (bs : List (Block A)) → AllHaveOne bs → AllHaveOne (block_with (chrom x) x bs)
  with_one x bs h = grind arith

  -- each block has a record
  pub blocks_have_one : (xs : List A) → AllHaveOne (blocks xs)
  blocks_have_one [] = tt
  blocks_have_one (x ∷ xs) = with_one x (blocks xs) (blocks_have_one xs)

-- the records whose block belongs to the last sequence
abbrev pub own_in : List (Tagged Feature) → List Feature
own_in ts = flat_map (λ t. items_if_last t.left (t.item ∷ [])) ts

-- whether a record decides a line up to whose end there are this many bases
abbrev pub tag_decides : ℕ → Tagged Feature → Bool
tag_decides bases t = block_decides bases t.left (t.item ∷ [])

abbrev pub tags_of : List (List ℕ) → List Feature → List (Tagged Feature)
tags_of names records = tags (λ (r : Feature). r.chrom) (Some names) None records

own_items : (left : Option (List (List ℕ))) (rs : List Feature) → items_if_last left rs ≡ own_in (tag_items left rs)
own_items None [] = refl
own_items None (r ∷ rs) = own_items None rs
own_items (Some []) [] = refl
own_items (Some []) (r ∷ rs) = ap (λ (l : List Feature). r ∷ l) (own_items (Some []) rs)
own_items (Some (n ∷ ns)) [] = refl
own_items (Some (n ∷ ns)) (r ∷ rs) = own_items (Some (n ∷ ns)) rs

own_spread : (os : List (Owned Feature)) → flat_map (λ (o : Owned Feature). items_if_last o.left o.block.items) os ≡ own_in (spread os)
own_spread [] = refl
own_spread (o ∷ os) = grind (arith, own_items, flat_map-append, own_spread os)

pub own_tagged : (names : List (List ℕ)) (records : List Feature) → own_records names records ≡ own_in (tags_of names records)
own_tagged names records = own_spread (owned names records) ∙ sym (ap own_in (tags_all (λ (r : Feature). r.chrom) (Some names) records))

module _ (bases : ℕ) where
  own_decides : (rs : List Feature) → list_any (λ (r : Feature). nat_le bases r.start) rs ≡ list_any (tag_decides bases) (tag_items (Some []) rs)
  own_decides [] = refl
  own_decides (r ∷ rs) = ap (λ b. nat_le bases r.start || b) (own_decides rs) ∙ sym (grind arith)

  early_decides : (n : List ℕ) (ns : List (List ℕ)) (rs : List Feature) → list_any (tag_decides bases) (tag_items (Some (n ∷ ns)) rs) ≡ false
  early_decides n ns [] = refl
  early_decides n ns (r ∷ rs) = early_decides n ns rs

  any_decides : (left : Option (List (List ℕ))) (bs : List (Block Feature)) → AllHaveOne bs
      → list_any (λ (o : Owned Feature). block_decides bases o.left o.block.items) (owned_from left bs) ≡ list_any (tag_decides bases) (spread (owned_from left bs))
  any_decides left [] h = refl
  any_decides left (b ∷ bs) h = grind (arith, list_any-append, any_decides (left_by left b.chrom) bs h.1, own_decides, early_decides)

  pub decided_tagged : (names : List (List ℕ)) (records : List Feature)
      → list_any (λ (o : Owned Feature). block_decides bases o.left o.block.items) (owned names records) ≡ list_any (tag_decides bases) (tags_of names records)
  decided_tagged names records = grind (arith, any_decides, blocks_have_one, tags_all)

-- one more record
pub tags_more : (left : Option (List (List ℕ))) (last : Option (List ℕ)) (rs : List Feature) (r : Feature)
    → tags (λ (r : Feature). r.chrom) left last (rs ++ r ∷ []) ≡ tags (λ (r : Feature). r.chrom) left last rs ++ record { item = r; left = leave left last (rs ++ r ∷ []) } ∷ []
tags_more left last [] r = refl
tags_more left last (s ∷ ss) r = grind (arith, (tags_more (next_left (λ (r : Feature). r.chrom) left last s) (Some s.chrom) ss r))

-- the chromosome of the last record, or else this
abbrev pub last_from : Option (List ℕ) → List Feature → Option (List ℕ)
last_from last [] = last
last_from last (r ∷ rs) = last_from (Some r.chrom) rs

pub tags_append : (left : Option (List (List ℕ))) (last : Option (List ℕ)) (rs more : List Feature)
    → tags (λ (r : Feature). r.chrom) left last (rs ++ more)
    ≡ tags (λ (r : Feature). r.chrom) left last rs ++ tags (λ (r : Feature). r.chrom) (leave left last rs) (last_from last rs) more
tags_append left last [] more = refl
tags_append left last (s ∷ ss) more = grind (arith, (tags_append (next_left (λ (r : Feature). r.chrom) left last s) (Some s.chrom) ss more))
