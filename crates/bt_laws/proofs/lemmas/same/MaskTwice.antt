-- What maskfasta writes has the lines of its input, and is masked already; BEDs that mask the same.
use Rattle.bt_lines.proofs.Std.{common_steps, ◌≡◌, ◌||◌, ℕ, suc, ◌+◌, ◌≤◌, Bool, false, List, [], ◌∷◌, ◌++◌, map, length, Option, Some, None, refl, sym, ap, ap₂, ◌∙◌, arith, eqb, flat_map, if◌then◌else◌, list_any, ends_with_byte, All-head, All-nil, All-tail, ◌<◌, Result, subst, is_some, AllByRecursion, flat_map-map, ◌&&◌, true, append_assoc, length-append, append_cancel_right, same_from_push, ⊤, filter, bytes_eq, IsPermutation, or_parts, list_any-append, list_any-IsPermutation}
use Rattle.bt_lines.specs.model.Lines.{Handed, cut_fault, lines_handed, whole_text, text_lines}
use Rattle.bt_lines.specs.calls.Line.{NoLineFeed}
use Rattle.bt_lines.specs.declared.fault.Input.TheVariants.{First, Second}
use Rattle.bt_bed.specs.model.Feature.{Feature, intervals_of, Interval, record_covers}
use Rattle.bt_bed.specs.model.Genome.{Entry}
use Rattle.bt_bed.specs.model.Good.{Good, good, items_in, block_good, bed_good, said_after}
use Rattle.bt_seq.specs.model.Masked.{masked_byte, masked_from, masked_line, masked_text, names_of_sequences}
use Rattle.bt_seq.specs.model.Fasta.{SequenceLine, sequence_format, sequence_good, bases_up_to}
use Rattle.bt_seq.specs.model.SequenceBlocks.{own_records, items_if_last, names_behind}
use Rattle.bt_seq.specs.declared.mask.mask_how.MaskHow.{MaskHow}
use Rattle.bt_seq.specs.declared.mask.mask_how.MaskHow.TheVariants.{Soft, Hard}
use Rattle.bt_tool.specs.model.Report.{Inputs, report_of}
use Rattle.bt_tool.specs.model.Behaviour.{or_empty, order_in_use}
use Rattle.bt_bed.specs.model.Meeting.{Report}
use Rattle.bt_tool.specs.declared.planning.plan_type.Command.TheVariants.{MaskFasta, Merge}
use Rattle.bt_laws.specs.Same.{KeepsLines, layout_of, masked_keep_layout, masked_twice, sequence_lines, masked_by_both, masked_by_positions, masked_goes_on, with_bed, masked_by_merged, with_merged_bed, NamesOne, bed_records, is_masked, masked_by_sorted}
use Rattle.bt_laws.specs.WholeRuns.{RunsWithoutFault, piped, second_alone}
use Rattle.bt_laws.proofs.lemmas.pipes.ConvertPipes.{IsAgain, Stands, again_lines, with_text}
use Rattle.bt_laws.proofs.lemmas.pipes.PipeLaws.{well_there, runs_cover, merge_whole, output_is, report_there}
use Rattle.bt_laws.proofs.lemmas.same.SameRuns.{back, run_names, run_spans, all_counted}
use Rattle.bt_laws.proofs.lemmas.pipes.LinesBack.{ends_both, IsSaid, good_are_said}
use Rattle.bt_runs.proofs.lemmas.Lists.{all_any, flat_map_same, all_so}
use Rattle.bt_laws.proofs.lemmas.same.SameSweeps.{cut_none, leave_alike, own_alike, IsLike, SaidToo, read_again}
use Rattle.bt_lines.specs.declared.fault.Kind.{Kind}
use Rattle.bt_bed.specs.model.Sorted.{Locus, block_sorting, sorting_of}
use Rattle.bt_bed.specs.calls.Orders.{AreContiguous, ArePlaced, IsTotal}
use Rattle.bt_bed.specs.model.Order.{Order, is_among}
use Rattle.bt_bed.proofs.lemmas.Definitions.{placed_good}
use Rattle.bt_bed.proofs.lemmas.order.OrderLemmas.{placed_contiguous}
use Rattle.bt_runs.specs.model.Merged.{counted, chromosomes, ordered_runs}
use Rattle.bt_runs.specs.declared.merge.merge_strand.MergeStrand.TheVariants.{All}
use Rattle.bt_seq.proofs.lemmas.definitions.KnowsLemmas.{leave, one_leaves}
use Rattle.bt_laws.specs.Pipes.{IsInput, three_columns}
use Rattle.bt_laws.proofs.lemmas.pipes.RunsBack.{merge_back, merge_in_order}
use Rattle.bt_laws.proofs.lemmas.parts.PartTexts.{order_total}
use Rattle.bt_laws.proofs.lemmas.parts.PartMaskReports.{IsSound, report_sound, sound_report, sound_output}
use Rattle.bt_bed.proofs.lemmas.parse.NameLemmas.{cases_name, name_eq, name_ne}
use Rattle.bt_seq.proofs.lemmas.Sam.{own_in, own_tagged, tags}
use Rattle.bt_seq.proofs.lemmas.definitions.MaskPrefixLemmas.{chrom_of, none_leaves, unnamed_own}
use Rattle.bt_laws.proofs.lemmas.single.Sequences.{behind_fewer, divides}
use Rattle.bt_laws.proofs.lemmas.parts.PartGenomes.{among_append, next_enters, next_more}
use Rattle.bt_laws.proofs.lemmas.parts.PartSequences.{names_begin}

-- ---- a masked byte

-- the mask isn't this byte
abbrev IsNot : MaskHow → ℕ → Type 0
IsNot Soft byte = Unit {0}
IsNot (Hard mask) byte = mask ≡ byte → ⊥

-- ---- masked bases

size_of : (how : MaskHow) (records : List Feature) (position : ℕ) (bases : List ℕ) → length (masked_from how records position bases) ≡ length bases
size_of how records position [] = refl
size_of how records position (base ∷ bases) = ap suc (size_of how records (suc position) bases)

module _ (how : MaskHow) (keeps : KeepsLines how) where
  module _ (records : List Feature) where
    abbrev kept_base : ℕ → ℕ → ℕ
    kept_base position base = if list_any (record_covers position) records then masked_byte how base else base

    clear_from : (position : ℕ) (bases : List ℕ) → NoLineFeed bases → NoLineFeed (masked_from how records position bases)
    clear_from position [] h = All-nil (λ b. eqb b 10 ≡ false)
    clear_from position (base ∷ bases) h = grind (arith, (clear_from (suc position) bases (All-tail (λ b. eqb b 10 ≡ false) base bases h)), All-head)

    last_from : (position : ℕ) (bases : List ℕ) → ends_with_byte 13 bases ≡ false → ends_with_byte 13 (masked_from how records position bases) ≡ false
    last_from position [] e = e
    last_from position (base ∷ []) e = grind arith
    last_from position (base ∷ next ∷ bases) e = grind (arith, common_steps, (last_from (suc position) (next ∷ bases) (sym (ends_both 13 (base ∷ []) (next ∷ bases) (omega arith)) ∙ e)), size_of)

  module _ (records : List Feature) where
    safe_text : (line : SequenceLine) → NoLineFeed line.text → Stands line.text (masked_text how records line)
    safe_text line clear = grind (arith, clear_from, size_of, last_from)

-- the last names stay
pub names_same : (f : SequenceLine → List ℕ) (items : List SequenceLine) → names_of_sequences (map (λ line. with_text line (f line)) items) ≡ names_of_sequences items
names_same f [] = refl
names_same f (line ∷ []) = refl
names_same f (line ∷ next ∷ lines) = names_same f (next ∷ lines)

-- ---- a run without a fault

uncut_lines : (handed : Handed) → cut_fault First handed ≡ None → lines_handed handed ≡ text_lines handed.text
uncut_lines handed e = grind arith

module _ (how : MaskHow) (full : Bool) (inputs : Inputs) (chromosomes : Option (List Entry)) (well : RunsWithoutFault (MaskFasta how full) inputs chromosomes) where
  abbrev first : Good SequenceLine
  first = sequence_good full First inputs.first

  abbrev second : Good Feature
  second = block_good Second (or_empty inputs.second)

  abbrev records : List Feature
  records = items_in second

  abbrev items : List SequenceLine
  items = items_in first

  abbrev new_text : SequenceLine → List ℕ
  new_text line = masked_text how records line

  abbrev again_line : SequenceLine → SequenceLine
  again_line line = with_text line (new_text line)

  abbrev output : List ℕ
  output = flat_map (masked_line how records) items

  pub sound : IsSound first second
  sound = report_sound how first second (well_there (MaskFasta how full) inputs chromosomes well)

  pub output_there : (report_of (MaskFasta how full) inputs).output ≡ output
  output_there = output_is (MaskFasta how full) inputs chromosomes well ∙ sound_output how first second sound.records

  parts : ((good (sequence_format full) First (lines_handed inputs.first)).fault ≡ None) × (cut_fault First inputs.first ≡ None)
  parts = cut_none (good (sequence_format full) First (lines_handed inputs.first)).fault (cut_fault First inputs.first) sound.lines

  abbrev all_lines : Good SequenceLine
  all_lines = good (sequence_format full) First (text_lines inputs.first.text)

  -- what is read of the output
  abbrev read : Good SequenceLine
  read = sequence_good full First (whole_text (report_of (MaskFasta how full) inputs).output)

  module _ (keeps : KeepsLines how) where
    is_again : IsAgain full First new_text (safe_text how keeps records) (items_in all_lines) (good (sequence_format full) First (text_lines (flat_map (masked_line how records) (items_in all_lines))))
    is_again = again_lines full First new_text (safe_text how keeps records) 1 inputs.first.text 1 (sequence_format full).begin (ap (λ ls. (good (sequence_format full) First ls).fault) (sym (uncut_lines inputs.first parts.1)) ∙ parts.0)

    pub read_items : items_in read ≡ map again_line items
    read_items = grind (arith, output_there, (uncut_lines inputs.first parts.1), is_again)

    pub read_none : read.fault ≡ None
    read_none = grind (arith, output_there, (uncut_lines inputs.first parts.1), is_again)

    layouts : (all : List SequenceLine) → map layout_of (map again_line all) ≡ map layout_of all
    layouts [] = refl
    layouts (line ∷ all) = grind (arith, size_of, (layouts all))

    pub layout : (read.fault ≡ None) × (map layout_of (items_in read) ≡ map layout_of items)
    layout = grind (arith, read_none, read_items, layouts)

    -- records that have sequences in the input have them in the output
    pub read_sound : (other : Good Feature) → IsSound first other → IsSound read other
    read_sound other is = grind (arith, read_none, is_some, leave, read_items, (names_same new_text items))

pub layout_kept : masked_keep_layout
layout_kept how full inputs chromosomes keeps well = layout how full inputs chromosomes well keeps

-- BEDs that mask the same: two and one, and a merged one.

-- ---- the same positions

module _ (how : MaskHow) where
  same_from : (rs ss : List Feature) (position : ℕ) (bases : List ℕ) → ((p : ℕ) → position ≤ p → p < position + length bases → list_any (record_covers p) rs ≡ list_any (record_covers p) ss) → masked_from how rs position bases ≡ masked_from how ss position bases
  same_from rs ss position [] e = refl
  same_from rs ss position (base ∷ bases) e = ap₂ (λ (b : Bool) rest. (if b then masked_byte how base else base) ∷ rest) (e position (omega arith) (omega arith)) (same_from rs ss (suc position) bases (λ p from to. e p (omega (arith, from)) (omega (arith, to))))

  pub same_line : (rs ss : List Feature) (line : SequenceLine) → ((p : ℕ) → line.before ≤ p → p < bases_up_to line → list_any (record_covers p) (own_records line.names rs) ≡ list_any (record_covers p) (own_records line.names ss)) → masked_line how rs line ≡ masked_line how ss line
  same_line rs ss line e = grind (arith, same_from)

  both_from : (rs ss ts : List Feature) (position : ℕ) (bases : List ℕ) → ((p : ℕ) → position ≤ p → p < position + length bases → list_any (record_covers p) ts ≡ (list_any (record_covers p) rs || list_any (record_covers p) ss)) → masked_from how ss position (masked_from how rs position bases) ≡ masked_from how ts position bases
  both_from rs ss ts position [] e = refl
  both_from rs ss ts position (base ∷ bases) e = grind (arith, (both_from rs ss ts (suc position) bases (λ p from to. e p (omega (arith, from)) (omega (arith, to)))))

  both_line : (keeps : KeepsLines how) (rs ss ts : List Feature) (line : SequenceLine)
      → ((p : ℕ) → line.before ≤ p → p < bases_up_to line → list_any (record_covers p) (own_records line.names ts) ≡ (list_any (record_covers p) (own_records line.names rs) || list_any (record_covers p) (own_records line.names ss)))
      → masked_line how ss (with_text line (masked_text how rs line)) ≡ masked_line how ts line
  both_line keeps rs ss ts line e = grind (arith, both_from)

abbrev pub bed_of : Inputs → Good Feature
bed_of inputs = block_good Second (or_empty inputs.second)

pub by_positions : masked_by_positions
by_positions how full inputs other chromosomes one two same =
    output_there how full inputs chromosomes one
    ∙ flat_map_same _ _ (sequence_lines full inputs) (all_so _ _ (sequence_lines full inputs) (same_line how (items_in (bed_of inputs)) (items_in (bed_of other))) same)
    ∙ sym (output_there how full (with_bed inputs other) chromosomes two)

pub goes_on : masked_goes_on
goes_on how next full inputs other chromosomes keeps one two = record {
  genome = one.genome;
  faultless = ap (λ (r : Report). r.fault) (report_there (MaskFasta next full) (with_bed (piped (MaskFasta how full) inputs) other) chromosomes one.genome)
      ∙ sound_report next (read how full inputs chromosomes one) (bed_of other) (read_sound how full inputs chromosomes one keeps (bed_of other) (sound next full (with_bed inputs other) chromosomes two));
}

pub by_both : masked_by_both
by_both how full inputs other both chromosomes keeps one two three same =
    let lines = sequence_lines full inputs in
    let again = goes_on how how full inputs other chromosomes keeps one two in
    record {
      output = output_there how full (with_bed (piped (MaskFasta how full) inputs) other) chromosomes again
          ∙ ap (flat_map (masked_line how (items_in (bed_of other)))) (read_items how full inputs chromosomes one keeps) ∙ flat_map-map _ _ lines
          ∙ flat_map_same _ _ lines (all_so _ _ lines (both_line how keeps (items_in (bed_of inputs)) (items_in (bed_of other)) (items_in (bed_of both))) same)
          ∙ sym (output_there how full (with_bed inputs both) chromosomes three);
      faultless = again.faultless;
    }

pub mask_twice : masked_twice
mask_twice how full inputs chromosomes keeps well = grind (arith, by_both, all_any)

-- ---- records in an order, read in blocks

in_blocks : (order : Order) (handed : Handed) → (bed_good First order handed).fault ≡ None → IsLike (bed_good First order handed) (block_good Second handed)
in_blocks order = read_again (sorting_of order) block_sorting blocks_too First Second
  where
    blocks_too : (last : Option Locus) (said : Result (Option Feature) Kind) → SaidToo (said_after (sorting_of order) last said) (said_after block_sorting last said)
    blocks_too last said = grind arith

-- ---- a BED and what merge makes of it

module _ (inputs : Inputs) (genome : Option Handed) (merging : Option (List Entry)) (merged : RunsWithoutFault (Merge 0 All) (second_alone genome inputs) merging) where
  abbrev order : Order
  order = order_in_use merging

  total : IsTotal order
  total = order_total merging

  abbrev bed : Handed
  bed = or_empty inputs.second

  abbrev as_read : List Feature
  as_read = items_in (bed_good First order bed)

  abbrev runs : List Interval
  runs = ordered_runs order 0 All as_read

  abbrev text : List ℕ
  text = (report_of (Merge 0 All) (second_alone genome inputs)).output

  said : AllByRecursion IsSaid as_read
  said = good_are_said First order bed

  placed : ArePlaced order (intervals_of as_read)
  placed = placed_good First order bed total

  input : IsInput order text (map three_columns runs)
  input = grind (arith, (merge_whole 0 All (second_alone genome inputs) merging merged), (merge_back order total 0 All as_read said placed))

  runs_are : IsLike (bed_good First order (whole_text text)) (block_good Second (whole_text text))
  runs_are = in_blocks order (whole_text text) (input.faultless First)

  runs_items : items_in (block_good Second (whole_text text)) ≡ map three_columns runs
  runs_items = runs_are.items ∙ input.records_are First

  full : AllByRecursion (λ (r : Feature). r.start < r.stop) as_read
  full = all_so IsSaid (λ (r : Feature). r.start < r.stop) as_read (λ r is. is.feature.non_empty) said

  all : counted All as_read ≡ intervals_of as_read
  all = all_counted as_read

  bed_contiguous : AreContiguous (intervals_of as_read)
  bed_contiguous = placed_contiguous order (intervals_of as_read) total placed

  runs_contiguous : AreContiguous (intervals_of (map three_columns runs))
  runs_contiguous = subst AreContiguous (sym (back runs)) (placed_contiguous order runs total (merge_in_order order total 0 All as_read said placed).placed)

  same_chroms : chromosomes (intervals_of (map three_columns runs)) ≡ chromosomes (intervals_of as_read)
  same_chroms = ap chromosomes (back runs) ∙ run_names order total 0 All as_read placed full ∙ ap chromosomes all

  own_covers : (names : List (List ℕ)) (p : ℕ) → list_any (record_covers p) (own_records names (items_in (block_good Second bed))) ≡ list_any (record_covers p) (own_records names (items_in (block_good Second (whole_text text))))
  own_covers names p = grind (arith, in_blocks, (well_there (Merge 0 All) (second_alone genome inputs) merging merged), own_alike, bed_contiguous, runs_contiguous, same_chroms, back, run_spans, total, placed, full, all, runs_cover, runs_items)

  leaves : (names : List (List ℕ)) → leave (Some names) None (items_in (block_good Second (whole_text text))) ≡ leave (Some names) None (items_in (block_good Second bed))
  leaves names = grind (arith, runs_items, leave_alike, bed_contiguous, runs_contiguous, same_chroms, in_blocks, (well_there (Merge 0 All) (second_alone genome inputs) merging merged))

pub by_merged : masked_by_merged
by_merged how full inputs chromosomes genome merging well merged =
    let lines = sequence_lines full inputs in
    let bed = bed_of (with_merged_bed genome inputs) in
    let old = sound how full inputs chromosomes well in
    let new : IsSound (sequence_good full First inputs.first) bed =
    record { lines = old.lines; records = (runs_are inputs genome merging merged).faultless; owned = ap is_some (leaves inputs genome merging merged (names_of_sequences lines)) ∙ old.owned } in
    let again : RunsWithoutFault (MaskFasta how full) (with_merged_bed genome inputs) chromosomes = record {
      genome = well.genome;
      faultless = ap (λ (r : Report). r.fault) (report_there (MaskFasta how full) (with_merged_bed genome inputs) chromosomes well.genome) ∙ sound_report how (sequence_good full First inputs.first) bed new;
    } in
    record {
      output = sym (by_positions how full inputs (with_merged_bed genome inputs) chromosomes well again (all_any _ lines (λ line p from to. own_covers inputs genome merging merged line.names p)));
      faultless = again.faultless;
    }

-- maskfasta by two BEDs, and by one that has the records of both.

abbrev Names : Type 0
Names = List (List ℕ)

-- ---- which names a record leaves

-- these names are left by a record of this name, if any are
abbrev Leaves : Names → Option Names → List ℕ → Type 0
Leaves names None c = ⊤
Leaves names (Some left) c = (front : Names) × (names ≡ front ++ c ∷ left)

-- by the last record, or there is none and all are left
abbrev From : Names → Option Names → Option (List ℕ) → Type 0
From names left None = left ≡ Some names
From names left (Some c) = Leaves names left c

leaves_by : (names front l : Names) → names ≡ front ++ l → (c : List ℕ) (o : Option Names) → names_behind c l ≡ o → Leaves names o c
leaves_by names front l is c None e = tt
leaves_by names front l is c (Some left) e = let more = divides c l left e in (front ++ more.0, is ∙ ap (λ l. front ++ l) more.1 ∙ sym (append_assoc front more.0 (c ∷ left)))

next_leaves : (names : Names) (left : Option Names) (last : Option (List ℕ)) (r : Feature) → From names left last → Leaves names (one_leaves left last r) r.chrom
next_leaves names left None r from = rw from (leaves_by names [] names refl r.chrom (names_behind r.chrom names) refl)
next_leaves names (Some l) (Some c) r from = grind (arith, name_eq, leaves_by)
next_leaves names None (Some c) r from = grind arith

-- the last name is the one that is followed by the same
same_before : (xs front ys : Names) (n c : List ℕ) → xs ++ n ∷ ys ≡ front ++ c ∷ ys → n ≡ c
same_before xs front ys n c e = (same_from_push xs front n c (append_cancel_right (xs ++ n ∷ []) (front ++ c ∷ []) ys (append_assoc xs (n ∷ []) ys ∙ e ∙ sym (append_assoc front (c ∷ []) ys)))).1

-- a name that comes once is followed by the same
once_same : (n : List ℕ) (xs ys front l : Names) → is_among xs n ≡ false → is_among ys n ≡ false → xs ++ n ∷ ys ≡ front ++ n ∷ l → l ≡ ys
once_same n [] ys [] l off past e = cc
once_same n [] ys (f ∷ front) l off past e = grind (arith, among_append, name_eq)
once_same n (x ∷ xs) ys [] l off past e = grind (arith, name_eq)
once_same n (x ∷ xs) ys (f ∷ front) l off past e = let tail : xs ++ n ∷ ys ≡ front ++ n ∷ l = cc in once_same n xs ys front l (or_parts (bytes_eq x n) (is_among xs n) off).1 past tail

-- ---- the records of a name that comes once

module _ (t : Feature → Bool) (n : List ℕ) where
  abbrev on_it : Feature → Bool
  on_it r = bytes_eq r.chrom n && t r

  module _ (xs ys : Names) (off : is_among xs n ≡ false) (past : is_among ys n ≡ false) where
    -- what is left of the names up to it, beside what is left of all
    abbrev Beside : Option Names → Option Names → Type 0
    Beside (Some l) many = many ≡ Some (l ++ ys)
    Beside None None = ⊤
    Beside None (Some l) = length l < length ys

    beside_next : (few many : Option Names) (last : Option (List ℕ)) (r : Feature) → Beside few many → Beside (one_leaves few last r) (one_leaves many last r)
    beside_next few many last r b = grind (arith, next_more, next_enters, behind_fewer)

    elsewhere : (left : Names) (r : Feature) → Leaves (xs ++ n ∷ ys) (Some left) r.chrom → (left ≡ ys → ⊥) → bytes_eq r.chrom n ≡ false
    elsewhere left r leaves other = grind (arith, name_ne, once_same)

    append_longer : (m : List ℕ) (l ns : Names) → m ∷ (l ++ ns) ≡ ns → ⊥
    append_longer m l ns e = omega (arith, ap (λ (xs : Names). length xs) e, length-append l ns)

    -- a record that has a sequence is one of it where its name is
    own_step : (few many : Option Names) (r : Feature) → Beside few many → Leaves (xs ++ n ∷ ys) many r.chrom → is_some many ≡ true → list_any t (items_if_last few (r ∷ [])) ≡ on_it r
    own_step few None r b leaves some = cc
    own_step (Some []) (Some a) r b leaves some = grind (arith, same_before, name_eq)
    own_step (Some (m ∷ l)) (Some a) r b leaves some = grind (arith, (elsewhere a r leaves), (append_longer m l ys))
    own_step None (Some a) r b leaves some = grind (arith, (elsewhere a r leaves))

    some_first : (left : Option Names) (last : Option (List ℕ)) (rs : List Feature) → is_some (leave left last rs) ≡ true → is_some left ≡ true
    some_first left last rs e = grind (arith, none_leaves)

    own_from : (few many : Option Names) (last : Option (List ℕ)) (rs : List Feature) → Beside few many → From (xs ++ n ∷ ys) many last → is_some (leave many last rs) ≡ true → list_any t (own_in (tags chrom_of few last rs)) ≡ list_any on_it rs
    own_from few many last [] b from owned = refl
    own_from few many last (r ∷ rs) b from owned =
        let beside = beside_next few many last r b in
        let leaves = next_leaves (xs ++ n ∷ ys) many last r from in
        list_any-append t (items_if_last (one_leaves few last r) (r ∷ [])) (own_in (tags chrom_of (one_leaves few last r) (Some r.chrom) rs))
        ∙ ap₂ (λ a b. a || b) (own_step (one_leaves few last r) (one_leaves many last r) r beside leaves (some_first (one_leaves many last r) (Some r.chrom) rs owned)) (own_from (one_leaves few last r) (one_leaves many last r) (Some r.chrom) rs beside leaves owned)

    -- so these are the records of its name
    own_on : (rs : List Feature) → is_some (leave (Some (xs ++ n ∷ ys)) None rs) ≡ true → list_any t (own_records (xs ++ n ∷ []) rs) ≡ list_any on_it rs
    own_on rs owned = ap (list_any t) (own_tagged (xs ++ n ∷ []) rs) ∙ own_from (Some (xs ++ n ∷ [])) (Some (xs ++ n ∷ ys)) None rs (ap (λ l. Some l) (sym (append_assoc xs (n ∷ []) ys))) refl owned

-- ---- a name that no record has

abbrev is_on : List ℕ → Feature → Bool
is_on n r = bytes_eq r.chrom n

none_step : (n : List ℕ) (zs : Names) (left : Option Names) (r : Feature) → Leaves (zs ++ n ∷ []) left r.chrom → bytes_eq r.chrom n ≡ false → items_if_last left (r ∷ []) ≡ []
none_step n zs left r leaves other = grind (arith, same_before, name_eq)

none_from : (t : Feature → Bool) (n : List ℕ) (zs : Names) (left : Option Names) (last : Option (List ℕ)) (rs : List Feature) → From (zs ++ n ∷ []) left last → list_any (is_on n) rs ≡ false → list_any t (own_in (tags chrom_of left last rs)) ≡ false
none_from t n zs left last [] from e = refl
none_from t n zs left last (r ∷ rs) from e =
    let leaves = next_leaves (zs ++ n ∷ []) left last r from in
    let parts = or_parts (bytes_eq r.chrom n) (list_any (is_on n) rs) e in
    ap (λ l. list_any t (l ++ own_in (tags chrom_of (one_leaves left last r) (Some r.chrom) rs))) (none_step n zs (one_leaves left last r) r leaves parts.0) ∙ none_from t n zs (one_leaves left last r) (Some r.chrom) rs leaves parts.1

none_on_it : (t : Feature → Bool) (n : List ℕ) (zs : Names) (rs : List Feature) → list_any (is_on n) rs ≡ false → list_any t (own_records (zs ++ n ∷ []) rs) ≡ false
none_on_it t n zs rs e = ap (list_any t) (own_tagged (zs ++ n ∷ []) rs) ∙ none_from t n zs (Some (zs ++ n ∷ [])) None rs refl e

-- ---- names that come once

abbrev named : List ℕ → Names → Names
named n names = filter (λ name. bytes_eq name n) names

none_few : (n : List ℕ) (ys : Names) → length (named n ys) ≤ 0 → is_among ys n ≡ false
none_few n [] few = refl
none_few n (y ∷ ys) few = grind (arith, (none_few n ys))

once_around : (n : List ℕ) (xs ys : Names) → length (named n (xs ++ n ∷ ys)) ≤ 1 → (is_among xs n ≡ false) × (is_among ys n ≡ false)
once_around n xs ys once = grind (arith, common_steps, name_eq, none_few)

once_named : (n : List ℕ) (names : Names) (rs : List Feature) → AllByRecursion (NamesOne names) rs → list_any (is_on n) rs ≡ true → length (named n names) ≤ 1
once_named n names [] h e = cc
once_named n names (r ∷ rs) h e = grind (arith, (cases_name r.chrom n), (once_named n names rs h.1))

-- names, up to the last of them
record EndsWith (names : Names) : Type 0 where
  front : Names
  last : List ℕ
  is : names ≡ front ++ last ∷ []

ends : (x : List ℕ) (xs : Names) → EndsWith (x ∷ xs)
ends x [] = record { front = []; last = x; is = refl }
ends x (y ∷ ys) = let more = ends y ys in record { front = x ∷ more.front; last = more.last; is = ap (λ l. x ∷ l) more.is }

module _ (t : Feature → Bool) (rs ss : List Feature) {both : List Feature} (permuted : IsPermutation (rs ++ ss) both) where
  -- a sequence has the records of both
  both_by : (q : Feature → Bool) → list_any q both ≡ (list_any q rs || list_any q ss)
  both_by q = sym (list_any-IsPermutation q (rs ++ ss) both permuted) ∙ list_any-append q rs ss

  module _ {names : Names} (ones : AllByRecursion (NamesOne names) both) (one : is_some (leave (Some names) None rs) ≡ true) (two : is_some (leave (Some names) None ss) ≡ true) (all : is_some (leave (Some names) None both) ≡ true) where
    -- of a name that a record has
    some_own : (front : Names) (n : List ℕ) (more : Names) → names ≡ front ++ n ∷ more → list_any (is_on n) both ≡ true
        → list_any t (own_records (front ++ n ∷ []) both) ≡ (list_any t (own_records (front ++ n ∷ []) rs) || list_any t (own_records (front ++ n ∷ []) ss))
    some_own front n more whole some = grind (arith, (once_around n front more (subst (λ l. length (named n l) ≤ 1) whole (once_named n names both ones some))), own_on, both_by)

    both_own : (own more : Names) → names ≡ own ++ more → list_any t (own_records own both) ≡ (list_any t (own_records own rs) || list_any t (own_records own ss))
    both_own [] more e = grind (arith, (unnamed_own both), (unnamed_own rs), (unnamed_own ss))
    both_own (x ∷ xs) more e = grind (arith, (append_assoc (ends x xs).front (((ends x xs).last) ∷ []) more), some_own, both_by, none_on_it)

-- ---- the runs

pub by_sorted : masked_by_sorted
by_sorted how full inputs other both chromosomes keeps ones one two three permuted =
    let lines = sequence_lines full inputs in
    let names = names_of_sequences lines in
    by_both how full inputs other both chromosomes keeps one two three
    (all_so (λ (line : SequenceLine). (more : Names) × (names ≡ line.names ++ more)) (λ line. (p : ℕ) → line.before ≤ p → p < bases_up_to line → is_masked both line p ≡ (is_masked inputs line p || is_masked other line p)) lines
    (λ line begins p from to. both_own (record_covers p) (bed_records inputs) (bed_records other) permuted ones
    (sound how full inputs chromosomes one).owned (sound how full (with_bed inputs other) chromosomes two).owned (sound how full (with_bed inputs both) chromosomes three).owned line.names begins.0 begins.1)
    (names_begin full First (lines_handed inputs.first)))
