-- Lemmas on alignments and masked sequences.
use Rattle.bt_lines.proofs.Std.{common_steps, rules, ◌≡◌, ℕ, ◌<◌, ◌≤◌, Bool, true, false, cond, List, [], ◌∷◌, ◌++◌, length, Option, Some, None, refl, sym, ap, ◌∙◌, length-append, arith, bytes_eq, append_cancel_right, ◌+◌, subst, sum_by-cons, add-zero, not, list_all, and_parts, append_assoc, flat_map, AllByRecursion, ◌≢◌, bytes_decides}
use Rattle.bt_bed.specs.model.Feature.{Feature, Span}
use Rattle.bt_seq.specs.model.Masked.{mask_rule}
use Rattle.bt_seq.specs.model.Fasta.{SequenceLine}
use Rattle.bt_seq.specs.model.SequenceBlocks.{Block, blocks_by, names_behind, owned_from}
use Rattle.bt_seq.specs.calls.MaskState.{left_at_last}
use Rattle.bt_laws.specs.Sequences.{owners_stay, owners_were, AreBetween, blocks_are_within, unskipped_are_one_block, Divides, division_is_found, division_is_one, is_operation, operations_are_divided, part_bytes, early_mask_rule, faultless_are_masked, masked_are_a_prefix, AreApart, AreOfChrom, DividesAt, blocks_are_maximal_runs, items_of, owners_are_first, unowned_find_no_name, quiet_records_are_taken, taken_are_first}
use Rattle.bt_seq.specs.model.BedLines.{is_skip, with_bases}
use Rattle.bt_seq.specs.model.Cigar.{covered_by, reference_length, Part, each_operation, is_letter, onto_part, operations_in, parts_of, with_part}
use Rattle.bt_seq.specs.declared.sam.cigar.Operation.{Operation}
use Rattle.bt_seq.proofs.lemmas.Sam.{blocks_open, open_blocks, skip_covers, digits_no_letters, parts_cut}
use Rattle.bt_lines.specs.model.Lines.{value_of}
use Rattle.bt_bed.specs.model.Good.{Good, items_in}
use Rattle.bt_bed.specs.calls.Orders.{AreInBlocks}
use Rattle.bt_bed.proofs.lemmas.Definitions.{all_written}
use Rattle.bt_laws.proofs.lemmas.single.Records.{written_begins}
use Rattle.bt_seq.proofs.lemmas.definitions.MaskPrefixLemmas.{decided_stays, masked_stay}
use Rattle.bt_seq.specs.declared.mask.mask_how.MaskHow.{MaskHow}
use Rattle.bt_laws.specs.Records.{StaysDecided}
use Rattle.std.specs.List.{last_or}

-- A block belongs to the same sequence among the names up to a line and among all names.

-- ---- one name
behind_more : (name : List ℕ) (names more rest : List (List ℕ)) → names_behind name names ≡ Some rest → names_behind name (names ++ more) ≡ Some (rest ++ more)
behind_more name [] more rest e = cc
behind_more name (n ∷ ns) more rest e = grind (arith, (behind_more name ns more rest))

-- fewer names come after the one that is found than there are
pub behind_fewer : (name : List ℕ) (names rest : List (List ℕ)) → names_behind name names ≡ Some rest → length rest < length names
behind_fewer name [] rest e = cc
behind_fewer name (n ∷ ns) rest e = grind (arith, (behind_fewer name ns rest))

-- if as many names come after it as there are others, it is one of the first
record Within (name : List ℕ) (names more all : List (List ℕ)) : Type 0 where
  left : List (List ℕ)
  is : all ≡ left ++ more
  found : names_behind name names ≡ Some left

behind_within : (name : List ℕ) (names more all : List (List ℕ)) → length more ≤ length all → names_behind name (names ++ more) ≡ Some all → Within name names more all
behind_within name [] more all least e = grind (arith, behind_fewer)
behind_within name (n ∷ ns) more all least e = grind (arith, (behind_within name ns more all least))

-- ---- blocks
module _ {A : Type 0} where
  none_at_last : (bs : List (Block A)) → left_at_last None (owned_from None bs) ≡ None
  none_at_last [] = refl
  none_at_last (b ∷ bs) = none_at_last bs

  abbrev at_last : Option (List (List ℕ)) → List (Block A) → Option (List (List ℕ))
  at_last o bs = left_at_last o (owned_from o bs)

  last_fewer : (rest : List (List ℕ)) (bs : List (Block A)) (names : List (List ℕ)) → at_last (Some names) bs ≡ Some rest → length rest ≤ length names
  last_fewer rest [] names e = grind arith
  last_fewer rest (b ∷ bs) names e = grind (arith, none_at_last, behind_fewer, (names_behind b.chrom names), (last_fewer rest bs))

  last_more : (more rest : List (List ℕ)) (bs : List (Block A)) (names : List (List ℕ)) → at_last (Some names) bs ≡ Some rest → at_last (Some (names ++ more)) bs ≡ Some (rest ++ more)
  last_more more rest [] names e = grind arith
  last_more more rest (b ∷ bs) names e = grind (arith, none_at_last, behind_more, (names_behind b.chrom names), (last_more more rest bs))

  last_first : (more rest : List (List ℕ)) (bs : List (Block A)) (names : List (List ℕ)) → at_last (Some (names ++ more)) bs ≡ Some (rest ++ more) → at_last (Some names) bs ≡ Some rest
  last_first more rest [] names e = grind (arith, append_cancel_right)
  last_first more rest (b ∷ bs) names e =
      grind (arith, none_at_last, found, (names_behind b.chrom (names ++ more)), (last_first more rest bs))
    where
      found : (all : List (List ℕ)) → names_behind b.chrom (names ++ more) ≡ Some all → at_last (Some all) bs ≡ Some (rest ++ more)
          → Within b.chrom names more all
      found all is e = behind_within b.chrom names more all (omega (arith, last_fewer (rest ++ more) bs all e, length-append rest more)) is

pub owners_stay_so : owners_stay
owners_stay_so names more records rest e = grind (arith, last_more)

pub owners_were_so : owners_were
owners_were_so names more records rest e = grind (arith, last_first)

-- The blocks of an alignment ascend, and lie within it.

-- they may begin later
later : (less more stop : ℕ) (blocks : List Span) → less ≤ more → AreBetween more stop blocks → AreBetween less stop blocks
later less more stop [] h b = omega (arith, b)
later less more stop (block ∷ blocks) h b = (omega (arith, b.0), b.1, b.2)

between_by : (k : Bool) (operation : Operation) (operations : List Operation) (start stop last : ℕ) → is_skip operation ≡ k → start ≤ stop
    → (is_skip operation ≡ true → AreBetween (stop + operation.length) last (open_blocks (stop + operation.length) (stop + operation.length) operations))
    → (is_skip operation ≡ false → AreBetween start last (open_blocks start (stop + covered_by operation) operations))
    → AreBetween start last (cond k (with_bases start stop ++ open_blocks (stop + operation.length) (stop + operation.length) operations) (open_blocks start (stop + covered_by operation) operations))
between_by k operation operations start stop last e h skipped more = grind (arith, later)

open_between : (start stop : ℕ) (operations : List Operation) → start ≤ stop → AreBetween start (stop + reference_length operations) (open_blocks start stop operations)
open_between start stop [] h = grind arith
open_between start stop (operation ∷ operations) h = grind (arith, (sum_by-cons covered_by operation operations), between_by, skip_covers, (open_between (stop + operation.length) (stop + operation.length) operations (omega arith)), (open_between start (stop + covered_by operation) operations (omega arith)))

pub within : blocks_are_within
within = grind (arith, blocks_open, open_between)

-- The blocks of an alignment, as they are found in one pass over its operations.

-- operations without an N go on to their end
open_unskipped : (start stop : ℕ) (operations : List Operation) → list_all (λ operation. not (is_skip operation)) operations ≡ true → open_blocks start stop operations ≡ with_bases start (stop + reference_length operations)
open_unskipped start stop [] all = ap (with_bases start) (sym (add-zero stop))
open_unskipped start stop (operation ∷ operations) all =
    let p = and_parts (not (is_skip operation)) (list_all (λ o. not (is_skip o)) operations) all in
    grind (arith, (sum_by-cons covered_by operation operations), (open_unskipped start (stop + covered_by operation) operations p.1))

pub one_block : unskipped_are_one_block
one_block start operations all = grind (arith, blocks_open, open_unskipped)

-- A CIGAR's division into numbers and letters: there is one at most, and it is the one that is found.

-- the parts of a division are those that are found_parts
found_parts : (parts : List Part) → list_all is_operation parts ≡ true → parts_of (flat_map part_bytes parts) ≡ Some parts
found_parts [] all = refl
found_parts (part ∷ parts) all =
    grind (arith, (found_parts parts (and_parts (is_operation part) (list_all is_operation parts) all).1), append_assoc, parts_cut, digits_no_letters)

pub parts_found : (text : List ℕ) (parts : List Part) → Divides text parts → parts_of text ≡ Some parts
parts_found text parts d = ap parts_of (sym d.whole) ∙ found_parts parts d.all

pub one_division : division_is_one
one_division text parts others p q = grind (arith, (parts_found text parts p), (parts_found text others q))

pub division_found : division_is_found
unfolding operations_in
division_found text parts p = grind (arith, parts_found)

-- the parts that are found_parts are all bytes of the text
byte_whole : (byte : ℕ) (bytes : List ℕ) (found_parts : Option (List Part)) (parts : List Part) → onto_part byte found_parts ≡ Some parts
    → ((others : List Part) → found_parts ≡ Some others → flat_map part_bytes others ≡ bytes) → flat_map part_bytes parts ≡ byte ∷ bytes
byte_whole byte bytes None parts e h = cc
byte_whole byte bytes (Some []) parts e h = cc
byte_whole byte bytes (Some (part ∷ others)) parts e h = grind (arith, (h (part ∷ others) refl))

whole_by : (byte : ℕ) (bytes : List ℕ) (b : Bool) (parts : List Part) → cond b (with_part (record { digits = []; letter = byte }) (parts_of bytes)) (onto_part byte (parts_of bytes)) ≡ Some parts
    → ((others : List Part) → parts_of bytes ≡ Some others → flat_map part_bytes others ≡ bytes) → flat_map part_bytes parts ≡ byte ∷ bytes
whole_by byte bytes true parts e h = grind (arith)
whole_by byte bytes false parts e h = byte_whole byte bytes (parts_of bytes) parts e h

whole : (text : List ℕ) (parts : List Part) → parts_of text ≡ Some parts → flat_map part_bytes parts ≡ text
whole [] parts e = grind arith
whole (byte ∷ bytes) parts e = whole_by byte bytes (is_letter byte) parts e (λ others h. whole bytes others h)

-- each ends with a letter
abbrev letters : List Part → Bool
letters parts = list_all (λ part. is_letter part.letter) parts

byte_lettered : (byte : ℕ) (found_parts : Option (List Part)) (parts : List Part) → onto_part byte found_parts ≡ Some parts
    → ((others : List Part) → found_parts ≡ Some others → letters others ≡ true) → letters parts ≡ true
byte_lettered byte None parts e h = cc
byte_lettered byte (Some []) parts e h = cc
byte_lettered byte (Some (part ∷ others)) parts e h = grind (arith, (h (part ∷ others) refl))

lettered : (text : List ℕ) (parts : List Part) → parts_of text ≡ Some parts → letters parts ≡ true
lettered [] parts e = let is : [] ≡ parts = cc in ap letters (sym is)
lettered (byte ∷ bytes) parts e = grind (arith, (parts_of bytes), byte_lettered, (lettered bytes))

each_is : (parts : List Part) (operations : List Operation) → each_operation parts ≡ Some operations → letters parts ≡ true → list_all is_operation parts ≡ true
unfolding value_of
each_is [] operations e h = refl
each_is (part ∷ parts) operations e h = grind (arith, (each_is parts))

pub divided : operations_are_divided
unfolding operations_in
divided text operations e = grind (arith, whole, each_is, lettered)

-- Lemmas on what is written early of masked sequences.

module _ (how : MaskHow) (names : List (List ℕ)) (second : Good Feature) where
  all_stay : (first : List SequenceLine) (seen more : List Feature) → items_in second ≡ seen ++ more → AreInBlocks (seen ++ more)
      → AllByRecursion (StaysDecided (early_mask_rule how seen) (mask_rule how names second)) first
  all_stay [] seen more is placed = tt
  all_stay (line ∷ lines) seen more is placed = grind (arith, masked_stay, decided_stays, (all_stay lines seen more is placed))

  pub all_decided : (first : List SequenceLine) → second.fault ≡ None → list_all (mask_rule how names second).decided first ≡ true
  all_decided [] e = refl
  all_decided (line ∷ lines) e = grind (arith, (all_decided lines e))

pub masked_front : masked_are_a_prefix
masked_front how names first more_first fault second seen more is placed =
    grind (arith, (written_begins (early_mask_rule how seen) (mask_rule how names second) first more_first fault (all_stay how names second first seen more is placed)))

pub faultless_masked : faultless_are_masked
faultless_masked how names first fault second e = grind (arith, (all_written (mask_rule how names second) first (all_decided how names second first e)))

-- Lemmas on blocks of records, and on the sequences to which they belong.

-- blocks are the maximal runs of these records
record Runs (records : List Feature) (bs : List (Block Feature)) : Type 0 where
  items : items_of bs ≡ records
  apart : AreApart bs
  chroms : AllByRecursion AreOfChrom bs

runs_step : (r : Feature) (rs : List Feature) (bs : List (Block Feature)) → blocks_by (λ r. r.chrom) rs ≡ bs → Runs rs bs → Runs (r ∷ rs) (blocks_by (λ r. r.chrom) (r ∷ rs))
runs_step r rs bs e runs = search rules

runs_of : (records : List Feature) → Runs records (blocks_by (λ r. r.chrom) records)
runs_of [] = record { items = refl; apart = tt; chroms = tt }
runs_of (r ∷ rs) = runs_step r rs (blocks_by (λ r. r.chrom) rs) refl (runs_of rs)

pub maximal_runs : blocks_are_maximal_runs
maximal_runs records = let runs = runs_of records in (runs.items, runs.apart, runs.chroms)

other_name : (n name : List ℕ) → bytes_eq n name ≡ false → n ≢ name
other_name n name e is = let same = (bytes_decides n name).1 is in cc

-- the names after the first of a name divide them there
module _ (name : List ℕ) where
  divides_with : (n : List ℕ) (ns behind : List (List ℕ)) → (names_behind name ns ≡ Some behind → DividesAt name ns behind)
      → (t : Bool) → bytes_eq n name ≡ t → cond t (Some ns) (names_behind name ns) ≡ Some behind → DividesAt name (n ∷ ns) behind
  divides_with n ns behind later true e is = let same = (bytes_decides n name).0 e in ([], cc, tt)
  divides_with n ns behind later false e is =
      let d = later is in
      (n ∷ d.0, ap (λ (names : List (List ℕ)). n ∷ names) d.1, (other_name n name e, d.2))

  pub divides : (names behind : List (List ℕ)) → names_behind name names ≡ Some behind → DividesAt name names behind
  divides [] behind is = cc
  divides (n ∷ ns) behind is = grind (arith, divides_with, (divides ns behind))

  found : (before behind : List (List ℕ)) → AllByRecursion (λ (other : List ℕ). other ≢ name) before → names_behind name (before ++ name ∷ behind) ≡ Some behind
  found [] behind others = rw ((bytes_decides name name).1 refl) refl
  found (n ∷ ns) behind others = grind (arith, (found ns behind others.1), (bytes_decides n name))

  none_has : (names : List (List ℕ)) → names_behind name names ≡ None → AllByRecursion (λ (other : List ℕ). other ≢ name) names
  none_has [] is = tt
  none_has (n ∷ ns) is = grind (arith, (none_has ns), other_name)

  none_found : (names : List (List ℕ)) → AllByRecursion (λ (other : List ℕ). other ≢ name) names → names_behind name names ≡ None
  none_found [] others = refl
  none_found (n ∷ ns) others = grind (arith, (none_found ns others.1), (bytes_decides n name))

pub first_owners : owners_are_first
first_owners name names behind = (divides name names behind, λ d. rw d.1 (found name d.0 behind d.2))

pub lacking_names : unowned_find_no_name
lacking_names name names = (none_has name names, none_found name names)

-- Lemmas on records that change nothing.

pub quiet_taken : quiet_records_are_taken
quiet_taken = grind (arith, common_steps)

-- Of the records that a masking engine took no prefix decides all lines given.

-- what is so of all lines is so of the last
of_last : (P : SequenceLine → Type 0) (lines : List SequenceLine) (line : SequenceLine) → last_or None lines ≡ Some line → AllByRecursion P lines → P line
of_last P [] line e all = cc
of_last P (first ∷ []) line e all = let same : first ≡ line = cc in subst P same all.0
of_last P (first ∷ next ∷ lines) line e all = of_last P (next ∷ lines) line e all.1

pub none_before : taken_are_first
none_before lines front rest open_end = grind (arith, decided_stays, of_last)
