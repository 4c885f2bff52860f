-- The lines of alignments that are sorted are an input.
use Rattle.bt_lines.proofs.Std.{common_steps, rules, ◌≡◌, ℕ, ◌<◌, ◌≤◌, Bool, true, false, cond, List, [], ◌∷◌, ◌++◌, append-nil, append_assoc, map, filter, length, Option, Some, None, Ok, refl, sym, ap, ◌∙◌, subst, arith, eqb, decimal, codes, if◌then◌else◌, AllByRecursion, join_with_byte, ends_with_byte, strip_last, All-append, join_with_byte-slice_split, suc, flat_map, get_or-append-add, length-append}
use Rattle.bt_lines.specs.model.Lines.{lines_handed, TextLine, pieces, end_bytes, fed_line, last_line, lines_from}
use Rattle.bt_lines.specs.calls.Line.{NoLineFeed}
use Rattle.bt_lines.specs.declared.fault.Input.{Input}
use Rattle.bt_lines.specs.declared.fault.Input.TheVariants.{First}
use Rattle.bt_lines.proofs.lemmas.reader.lines.TextLemmas.{IsColumn, IsInside, strip_last-other, lines_from-fed, lines_from-last, lines_from-nil, by_lines}
use Rattle.bt_bed.specs.model.Good.{Good, good_after, items_in}
use Rattle.bt_bed.specs.model.BedLine.{kept_columns, strand_of}
use Rattle.bt_bed.specs.calls.Features.{IsName, columns_in}
use Rattle.bt_bed.specs.declared.record.strand.Strand.TheVariants.{Plus, Minus}
use Rattle.bt_bed.proofs.lemmas.parse.FeatureLemmas.{kept_is_cut, pieces_are_columns}
use Rattle.bt_seq.specs.model.Alignment.{Alignment, Fields, alignment_of, sam_columns_say, fields_of, fields_say, value_up_to, sam_format}
use Rattle.bt_seq.specs.model.BedLines.{bed_lines, read_name, strand_sign}
use Rattle.bt_seq.specs.model.Cigar.{cigar_length, operations_in, parts_of}
use Rattle.bt_tool.specs.model.Written.{alignment_lines}
use Rattle.bt_tool.specs.model.Report.{Inputs, report_of}
use Rattle.bt_tool.specs.declared.planning.plan_type.Command.TheVariants.{BamToBed}
use Rattle.bt_laws.specs.Pipes.{aligned_at, aligned_record, alignments_of, bamtobed_is_input, IsInput, is_no_header}
use Rattle.bt_laws.proofs.lemmas.pipes.LinesBack.{clear_back, clear_both, clear_front, clear_number, Columns, IsColumns, record_back, text_of_columns, written_back, ends_both, strip_both, clear_handed, clear_strip}
use Rattle.bt_runs.proofs.lemmas.Lists.{all_so}
use Rattle.bt_lines.specs.declared.reader.line.LineEnd.{LineEnd}
use Rattle.bt_lines.specs.declared.reader.line.LineEnd.TheVariants.{Absent, Cr, CrLf, Lf}
use Rattle.bt_seq.specs.model.Fasta.{Reached, SequenceLine, is_sequence_header, sequence_format}
use Rattle.bt_laws.proofs.lemmas.parts.PartLines.{items_so}
use Rattle.bt_laws.proofs.lemmas.single.Records.{number_column}

-- ---- columns of a text

clear_joined : (parts : List (List ℕ)) → NoLineFeed (join_with_byte 9 parts) → AllByRecursion NoLineFeed parts
clear_joined [] h = tt
clear_joined (part ∷ []) h = (h, tt)
clear_joined (part ∷ next ∷ rest) h =
    (clear_front part (9 ∷ join_with_byte 9 (next ∷ rest)) h, clear_joined (next ∷ rest) (clear_back (part ++ 9 ∷ []) (join_with_byte 9 (next ∷ rest)) (subst NoLineFeed (sym (append_assoc part (9 ∷ []) (join_with_byte 9 (next ∷ rest)))) h)))

clear_columns : (text : List ℕ) → NoLineFeed text → AllByRecursion NoLineFeed (pieces 9 text)
clear_columns text h = clear_joined (pieces 9 text) (subst NoLineFeed (sym (join_with_byte-slice_split 9 text)) h)

-- ---- a CIGAR

-- a carriage return at the end leaves a part without a letter
parts_none : (text : List ℕ) → parts_of (text ++ 13 ∷ []) ≡ None
parts_none [] = refl
parts_none (byte ∷ bytes) = grind (arith, (parts_none bytes))

none_in : (text : List ℕ) → operations_in (text ++ 13 ∷ []) ≡ None
unfolding operations_in
none_in text = grind (arith, (parts_none text))

record IsPlain (text : List ℕ) : Type 0 where
  some : 0 < length text
  plain : ends_with_byte 13 text ≡ false

plain_cigar : (text : List ℕ) (span : ℕ) → cigar_length text ≡ Some span → IsPlain text
plain_cigar text span e = grind (arith, common_steps, none_in)

-- ---- an alignment that a line said

pub record IsAligned (a : Alignment) : Type 0 where
  pub named : IsName a.chrom
  pub clear_chrom : NoLineFeed a.chrom
  pub clear_name : NoLineFeed a.name
  pub clear_cigar : NoLineFeed a.cigar
  pub below : a.start < a.stop
  pub small : a.stop ≤ 999999999999
  pub one_name : IsColumn a.name
  pub one_cigar : IsColumn a.cigar
  pub some_cigar : 0 < length a.cigar
  pub plain_cigar : ends_with_byte 13 a.cigar ≡ false

record AreColumns (fields : Fields) : Type 0 where
  name : IsColumn fields.name
  chrom : IsColumn fields.chrom
  cigar : IsColumn fields.cigar
  clear_chrom : NoLineFeed fields.chrom
  clear_name : NoLineFeed fields.name
  clear_cigar : NoLineFeed fields.cigar

fields_columns : (columns : List (List ℕ)) (fields : Fields) → AllByRecursion IsColumn columns → AllByRecursion NoLineFeed columns → fields_of columns ≡ Some fields → AreColumns fields
fields_columns columns fields h k e = grind arith

module _ (fields : Fields) (are : AreColumns fields) where
  columns_by : (flag : Option ℕ) (chrom : List ℕ) (position quality span : Option ℕ) (a : Alignment) → chrom ≡ fields.chrom → cigar_length fields.cigar ≡ span → sam_columns_say fields flag chrom position quality span ≡ Ok (Some a) → IsAligned a
  columns_by flag chrom position quality span a e long is = grind (arith, plain_cigar)

said_by : (fields : Option Fields) (a : Alignment) → ((f : Fields) → fields ≡ Some f → AreColumns f) → fields_say fields ≡ Ok (Some a) → IsAligned a
unfolding fields_say
said_by None a h e = cc
said_by (Some fields) a h e =
    columns_by fields (h fields refl) (value_up_to 65535 fields.flag) fields.chrom (value_up_to 2147483647 fields.position) (value_up_to 255 fields.quality) (cigar_length fields.cigar) a refl refl e

line_aligned : (text : List ℕ) (a : Alignment) → NoLineFeed text → alignment_of text ≡ Ok (Some a) → IsAligned a
unfolding alignment_of
line_aligned text a clear e =
    said_by (fields_of (pieces 9 text)) a (λ f is. fields_columns (pieces 9 text) f (pieces_are_columns text) (clear_columns text clear) is) (grind arith)

-- ---- its line

cigar_tail : Bool → Alignment → List ℕ
cigar_tail false a = []
cigar_tail true a = 9 ∷ a.cigar

abbrev tail_of : Bool → Alignment → List ℕ
tail_of cigar a = 9 ∷ (read_name a ++ 9 ∷ (decimal a.quality ++ 9 ∷ (strand_sign a.reverse ++ cigar_tail cigar a)))

abbrev aligned_columns : Bool → Alignment → Columns
aligned_columns cigar a = record { at = aligned_at a; tail = tail_of cigar a }

line_as : (cigar : Bool) (a : Alignment) → bed_lines false cigar a ≡ text_of_columns (aligned_columns cigar a) ++ 10 ∷ []
unfolding cigar_tail
line_as cigar a = grind (arith, append_assoc)

columns_aligned : (cigar : Bool) (a : Alignment) → IsAligned a → IsColumns (aligned_columns cigar a)
unfolding cigar_tail
columns_aligned cigar a is = grind (arith, clear_both, codes, eqb, (clear_number a.quality))

-- ---- the record that is read of it

whole_tail : (front back tail : List ℕ) → tail ≡ front ++ back → 0 < length back → strip_last 13 back ≡ back → strip_last 13 tail ≡ tail
whole_tail front back tail e some plain = grind (arith, strip_both)

tail_plain : (cigar : Bool) (a : Alignment) → IsAligned a → strip_last 13 (tail_of cigar a) ≡ tail_of cigar a
unfolding cigar_tail
tail_plain false a is = whole_tail (9 ∷ (read_name a ++ 9 ∷ (decimal a.quality ++ 9 ∷ []))) (strand_sign a.reverse) (tail_of false a) (simp (append_assoc, append-nil)) (grind arith) (grind arith)
tail_plain true a is =
    whole_tail (9 ∷ (read_name a ++ 9 ∷ (decimal a.quality ++ 9 ∷ strand_sign a.reverse))) (9 ∷ a.cigar) (tail_of true a) (simp append_assoc) (omega arith)
    (strip_last-other 13 (9 ∷ a.cigar) ((grind (arith, length-append, get_or-append-add)) ∙ is.plain_cigar))

abbrev columns_after : Bool → Alignment → List (List ℕ)
columns_after cigar a = decimal a.quality ∷ strand_sign a.reverse ∷ (if cigar then a.cigar ∷ [] else [])

tail_kept : (cigar : Bool) (a : Alignment) → tail_of cigar a ≡ kept_columns (read_name a ∷ columns_after cigar a)
unfolding cigar_tail
tail_kept cigar a = search rules

column_both : (xs ys : List ℕ) → IsColumn xs → IsColumn ys → IsColumn (xs ++ ys)
column_both xs ys h k = All-append IsInside xs ys h k

name_column : (a : Alignment) → IsColumn a.name → IsColumn (read_name a)
name_column a h = grind (arith, column_both)

strand_is : (cigar : Bool) (a : Alignment) → IsAligned a → strand_of (columns_in (kept_columns (read_name a ∷ columns_after cigar a))) ≡ (if a.reverse then Minus else Plus)
strand_is cigar a is = ap strand_of (kept_is_cut (read_name a) (columns_after cigar a) (name_column a is.one_name) (grind (arith, number_column))) ∙ (grind arith)

record_is : (cigar : Bool) (a : Alignment) → IsAligned a → record_back (aligned_columns cigar a) ≡ aligned_record cigar a
record_is cigar a is = grind (arith, tail_plain, tail_kept, strand_is)

output_is : (inputs : Inputs) (cigar : Bool) → inputs.genome ≡ None → (report_of (BamToBed false cigar) inputs).output ≡ alignment_lines false cigar (alignments_of inputs)
unfolding report_of
output_is inputs cigar none = grind arith

pub bamtobed_input : bamtobed_is_input
unfolding report_of
bamtobed_input cigar inputs order total none placed =
    let all = alignments_of inputs in
    let aligned = items_so sam_format First IsAligned tt (lines_handed inputs.first) (all_so _ _ (lines_handed inputs.first) (λ line clear now a e. line_aligned line.text a clear e) (clear_handed inputs.first)) in
    subst (λ text. IsInput order text (filter is_no_header (map (aligned_record cigar) all))) (sym (output_is inputs cigar none))
    (written_back order total (bed_lines false cigar) (aligned_columns cigar) (aligned_record cigar) all (line_as cigar) (all_so _ _ all (record_is cigar) aligned) (all_so _ _ all (columns_aligned cigar) aligned) placed)

-- Masked sequences, read again.

-- a line with another text
abbrev pub with_text : SequenceLine → List ℕ → SequenceLine
with_text line text = record { names = line.names; before = line.before; text = text; ending = line.ending }

-- a text that may replace another
pub record Stands (old new : List ℕ) : Type 0 where
  pub clear : NoLineFeed new
  pub size : length new ≡ length old
  pub header : is_sequence_header new ≡ is_sequence_header old
  -- no carriage return ends it, if none ended the other
  pub last : ends_with_byte 13 old ≡ false → ends_with_byte 13 new ≡ false
  -- a header stays
  pub same : is_sequence_header old ≡ true → new ≡ old

-- ---- line ends

clear_return : (text : List ℕ) → NoLineFeed text → NoLineFeed (text ++ 13 ∷ [])
clear_return text h = grind (arith, clear_both, eqb)

abbrev line_at : ℕ → List ℕ → LineEnd → TextLine
line_at number text ending = record { number = number; text = text; ending = ending }

fed_by : (m : ℕ) (new rest : List ℕ) (b : Bool) → NoLineFeed new → (b ≡ false → ends_with_byte 13 new ≡ false) → lines_from m ((new ++ end_bytes (cond b CrLf Lf)) ++ rest) ≡ line_at m new (cond b CrLf Lf) ∷ lines_from (suc m) rest
fed_by m new rest true clear last = grind (arith, (append_assoc new (13 ∷ 10 ∷ []) rest), (append_assoc new (13 ∷ []) (10 ∷ rest)), (lines_from-fed m (new ++ 13 ∷ []) rest (clear_return new clear)), strip_both, append-nil, ends_both)
fed_by m new rest false clear last = grind (arith, append_assoc, lines_from-fed)

last_some : (m : ℕ) (bytes : List ℕ) → 0 < length bytes → last_line m bytes ≡ record { number = m; text = strip_last 13 bytes; ending = if ends_with_byte 13 bytes then Cr else Absent } ∷ []
last_some m bytes some = grind arith

last_by : (m : ℕ) (new : List ℕ) (b : Bool) → NoLineFeed new → (b ≡ false → ends_with_byte 13 new ≡ false) → (b ≡ false → 0 < length new) → lines_from m (new ++ end_bytes (cond b Cr Absent)) ≡ line_at m new (cond b Cr Absent) ∷ []
last_by m new b clear last some = grind (arith, lines_from-last, clear_return, last_some, strip_both, ends_both, append-nil)

-- ---- all lines

module _ (full : Bool) (input : Input) (f : SequenceLine → List ℕ) (safe : (line : SequenceLine) → NoLineFeed line.text → Stands line.text (f line)) where
  abbrev written_line : SequenceLine → List ℕ
  written_line line = f line ++ end_bytes line.ending

  abbrev again_line : SequenceLine → SequenceLine
  again_line line = with_text line (f line)

  abbrev goods : Reached → List TextLine → Good SequenceLine
  goods reached lines = good_after (sequence_format full) input reached lines

  pub record IsAgain (lines : List SequenceLine) (again : Good SequenceLine) : Type 0 where
    pub items : items_in again ≡ map again_line lines
    pub faultless : again.fault ≡ None

  -- these lines, written and read again
  abbrev pub ReadAgain : ℕ → Reached → List TextLine → Type 0
  ReadAgain m reached lines = IsAgain (items_in (goods reached lines)) (goods reached (lines_from m (flat_map written_line (items_in (goods reached lines)))))

  abbrev pub ReadsAgain : List TextLine → Type 0
  ReadsAgain lines = (m : ℕ) (reached : Reached) → (goods reached lines).fault ≡ None → ReadAgain m reached lines

  piece_again : (n : ℕ) (piece : List ℕ) → NoLineFeed piece → ReadsAgain (last_line n piece)
  unfolding good_after
  piece_again n [] clear m reached none = grind (arith, lines_from-nil)
  piece_again n (byte ∷ bytes) clear m reached none = grind (arith, (clear_strip 13 (byte ∷ bytes) clear), append-nil, last_by)

  next_again : (n : ℕ) (piece rest : List ℕ) → NoLineFeed piece → ReadsAgain (lines_from (suc n) rest) → ReadsAgain (fed_line n piece ∷ lines_from (suc n) rest)
  unfolding good_after
  next_again n piece rest clear h m reached none = grind (arith, (clear_strip 13 piece clear), fed_by)

  last_again : (n : ℕ) (piece : List ℕ) → NoLineFeed piece → ReadsAgain (lines_from n piece)
  last_again n piece clear m reached none = grind (arith, (lines_from-last n piece clear), (piece_again n piece clear m reached (subst (λ ls. (goods reached ls).fault ≡ None) (lines_from-last n piece clear) none)))

  fed_again : (n : ℕ) (piece rest : List ℕ) → NoLineFeed piece → ReadsAgain (lines_from (suc n) rest) → ReadsAgain (lines_from n (piece ++ 10 ∷ rest))
  fed_again n piece rest clear h m reached none =
      grind (arith, (lines_from-fed n piece rest clear), (next_again n piece rest clear h m reached (subst (λ ls. (goods reached ls).fault ≡ None) (lines_from-fed n piece rest clear) none)))

  pub again_lines : (n : ℕ) (bytes : List ℕ) → ReadsAgain (lines_from n bytes)
  again_lines n bytes = by_lines (λ n bytes. ReadsAgain (lines_from n bytes)) last_again fed_again n bytes
