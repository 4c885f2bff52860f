-- The genome file of an order is read as its names.
use Rattle.bt_lines.proofs.Std.{arith, common_steps, ◌≡◌, ℕ, suc, ◌+◌, ◌<◌, ◌==◌, Bool, false, List, [], ◌∷◌, ◌++◌, Option, Some, None, Result, Ok, Err, All, All-append, All-from_recursion, ap, append_assoc, bytes_eq, codes, false≢true, length, map, or_parts, or_from, refl, strip_last, sym, ◌∙◌, ◌||◌}
use Rattle.std.proofs.lemmas.List.Splits.{slice_split_at}
use Rattle.bt_lines.specs.model.Lines.{lines_from, pieces, value_of}
use Rattle.bt_lines.specs.calls.Line.{NoLineFeed}
use Rattle.bt_lines.proofs.lemmas.reader.lines.TextLemmas.{lines_from-fed, lines_from-nil}
use Rattle.bt_lines.specs.declared.fault.Input.TheVariants.{Genome}
use Rattle.bt_bed.specs.calls.Orders.{AreDistinct}
use Rattle.bt_bed.specs.model.Genome.{Entry, all_or_fault, entry_of, genome_format, is_skipped}
use Rattle.bt_bed.specs.model.Good.{Good, good_after, with_member}
use Rattle.bt_bed.specs.model.Order.{is_among}
use Rattle.bt_bed.proofs.lemmas.order.TableLemmas.{among_push, genome_from}
use Rattle.bt_bed.proofs.lemmas.parse.NameLemmas.{name_ne-sym}
use Rattle.bt_front.specs.calls.OrderText.{AreLineNames, IsLineName, longest_entry, order_is_read}
use Rattle.bt_front.specs.model.Fitting.{entry_text, order_text}

-- what follows a name on its line
abbrev far : List ℕ
far = codes "\t999999999999"

-- an entry's line as a piece and a line feed
line_is : (name rest : List ℕ) → entry_text name ++ rest ≡ (name ++ far) ++ 10 ∷ rest
line_is name rest = append_assoc name (codes "\t999999999999\n") rest ∙ sym (append_assoc name far (10 ∷ rest))

no_feed : (name : List ℕ) → NoLineFeed name → NoLineFeed (name ++ far)
no_feed name clear =
    All-append (λ byte. (byte == 10) ≡ false) name far clear (All-from_recursion (λ byte. (byte == 10) ≡ false) far
    (refl, (refl, (refl, (refl, (refl, (refl, (refl, (refl, (refl, (refl, (refl, (refl, (refl, tt))))))))))))))

no_return : (name : List ℕ) → strip_last 13 (name ++ far) ≡ name ++ far
no_return name = grind (arith, common_steps)

not_skipped_by : (name : List ℕ) → is_skipped name ≡ false → is_skipped (name ++ far) ≡ false
not_skipped_by [] plain = absurd (false≢true (sym plain))
not_skipped_by (byte ∷ bytes) plain = plain

columns_are : (name : List ℕ) → All (λ byte. (byte == 9) ≡ false) name → pieces 9 (name ++ far) ≡ name ∷ codes "999999999999" ∷ []
columns_are name clear = slice_split_at (λ byte. byte == 9) name 9 (codes "999999999999") clear refl

entry_by : (name : List ℕ) → IsLineName name → entry_of (name ++ far) ≡ Ok (Some (longest_entry name))
unfolding entry_of value_of
entry_by [] is = absurd (let h = is.column.some in omega arith)
entry_by (byte ∷ bytes) is =
    rw (entry_of, not_skipped_by (byte ∷ bytes) is.no_comment, columns_are (byte ∷ bytes) is.column.one_column) refl

-- no name is among those before
abbrev NoneAmong : List (List ℕ) → List (List ℕ) → Type 0
NoneAmong before [] = Unit {0}
NoneAmong before (n ∷ ns) = (is_among before n ≡ false) × NoneAmong before ns

none_more : (before : List (List ℕ)) (n : List ℕ) (ns : List (List ℕ)) → NoneAmong before ns → is_among ns n ≡ false → NoneAmong (before ++ n ∷ []) ns
none_more before n [] none gone = tt
none_more before n (m ∷ ms) none gone =
    let parts = or_parts (bytes_eq m n) (is_among ms n) gone in
    (among_push before n m none.0 (name_ne-sym m n parts.0), none_more before n ms none.1 parts.1)

none_among : (ns : List (List ℕ)) → NoneAmong [] ns
none_among [] = tt
none_among (n ∷ ns) = (refl, none_among ns)

-- an entry before others
entries_more : (line : ℕ) (entry : Entry) (rest : Good Entry) (entries : List Entry) → all_or_fault rest ≡ Ok entries → all_or_fault (with_member (record { line = line; item = entry }) rest) ≡ Ok (entry ∷ entries)
entries_more line entry rest entries e = grind (arith, rest.fault)

read_from : (number : ℕ) (before names : List (List ℕ)) → AreLineNames names → AreDistinct names → NoneAmong before names
    → genome_from Genome before (lines_from number (order_text names)) ≡ Ok (map longest_entry names)
unfolding good_after
read_from number before [] are distinct none = rw (lines_from-nil number, good_after) refl
read_from number before (name ∷ names) are distinct none =
    let more = read_from (suc number) (before ++ name ∷ []) names are.1 distinct.1 (none_more before name names none.1 distinct.0) in
    rw (
      line_is name (order_text names),
      lines_from-fed number (name ++ far) (order_text names) (no_feed name are.0.line),
      good_after,
      no_return name,
      entry_by name are.0,
      none.0,
    ) (entries_more number (longest_entry name) (good_after genome_format Genome (before ++ name ∷ []) (lines_from (suc number) (order_text names))) (map longest_entry names) more)

pub order_read : order_is_read
order_read names are distinct = read_from 1 [] names are distinct (none_among names)
