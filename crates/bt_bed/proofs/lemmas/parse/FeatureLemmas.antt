-- Lemmas on columns, and on what is kept of them.
use Rattle.bt_lines.proofs.Std.{common_steps, ◌≡◌, ℕ, ◌+◌, ◌≤◌, Bool, List, [], ◌∷◌, ◌++◌, length, drop, refl, sym, ap, ◌∙◌, eqb, append_assoc, append-nil, arith, length-append, drop_at, slice_split_at, slice_split_none, join_with_byte-slice_split, AllByRecursion, join_with_byte, ◌<◌, true, false, cond, Option, Some, None, Result, Ok, subst, ◌||◌, bytes_eq, take, get_or, take-append-drop, All-head, All-tail, bytes_eq-Decides, All}
use Rattle.bt_lines.specs.model.Lines.{pieces, value_of}
use Rattle.bt_lines.proofs.lemmas.reader.lines.TextLemmas.{IsColumn}
use Rattle.bt_bed.specs.model.Feature.{Feature}
use Rattle.bt_bed.specs.model.BedLine.{kept_columns, says_nothing, record_of, not_skipped, columns_say, feature_of, strand_of, ends_word, first_word, is_header_word}
use Rattle.bt_bed.specs.calls.Features.{IsFeature, IsName, is_kept, columns_in}
use Rattle.bt_lines.specs.declared.fault.Kind.{Kind}
use Rattle.bt_bed.specs.calls.Bed.{feature_between}
use Rattle.bt_bed.specs.declared.record.strand.Strand.{Strand}

-- a column and those after it, each with a tab before it
joined : (x : List ℕ) (xs : List (List ℕ)) → join_with_byte 9 (x ∷ xs) ≡ x ++ kept_columns xs
joined x [] = sym (append-nil x)
joined x (y ∷ ys) = rw (joined y ys) refl

-- a text is its first column and then the others, each with a tab before it
pub cut_and_kept : (text : List ℕ) (x : List ℕ) (xs : List (List ℕ)) → pieces 9 text ≡ x ∷ xs → text ≡ x ++ kept_columns xs
cut_and_kept text x xs e = sym (join_with_byte-slice_split 9 text) ∙ ap (join_with_byte 9) e ∙ joined x xs

columns_more : (byte : ℕ) (bytes : List ℕ) (b : Bool) → eqb byte 9 ≡ b → AllByRecursion IsColumn (pieces 9 bytes) → AllByRecursion IsColumn (pieces 9 (byte ∷ bytes))
columns_more byte bytes b e h = grind arith

-- the pieces between tabs have no tabs
pub pieces_are_columns : (text : List ℕ) → AllByRecursion IsColumn (pieces 9 text)
pieces_are_columns [] = ((λ k d l. absurd (omega arith)), tt)
pieces_are_columns (byte ∷ bytes) = columns_more byte bytes (eqb byte 9) refl (pieces_are_columns bytes)

-- columns that were kept are cut as they were
pub kept_is_cut : (x : List ℕ) (xs : List (List ℕ)) → IsColumn x → AllByRecursion IsColumn xs → pieces 9 (x ++ kept_columns xs) ≡ x ∷ xs
kept_is_cut x [] h hs = rw append-nil (slice_split_none (λ byte. eqb byte 9) x h)
kept_is_cut x (y ∷ ys) h hs = slice_split_at (λ byte. eqb byte 9) x 9 (y ++ kept_columns ys) h refl ∙ ap (λ l. x ∷ l) (kept_is_cut y ys hs.0 hs.1)

-- a text of three columns at least
pub three_columns : (text a b c : List ℕ) (rest : List (List ℕ)) → pieces 9 text ≡ a ∷ b ∷ c ∷ rest → text ≡ (a ++ 9 ∷ (b ++ 9 ∷ c)) ++ kept_columns rest
three_columns text a b c rest e = cut_and_kept text a (b ∷ c ∷ rest) e ∙ simp append_assoc

length_of_three : (a b c : List ℕ) → length (a ++ 9 ∷ (b ++ 9 ∷ c)) ≡ length a + length b + length c + 2
length_of_three a b c = simp length-append (omega arith)

pub three_are_within : (text a b c : List ℕ) (rest : List (List ℕ)) → pieces 9 text ≡ a ∷ b ∷ c ∷ rest → length a + length b + length c + 2 + length (kept_columns rest) ≡ length text
three_are_within text a b c rest e = omega (arith, ap length (three_columns text a b c rest e), length_of_three a b c, length-append (a ++ 9 ∷ (b ++ 9 ∷ c)) (kept_columns rest))

pub rest_of_three : (text a b c : List ℕ) (rest : List (List ℕ)) → pieces 9 text ≡ a ∷ b ∷ c ∷ rest → drop (length a + length b + length c + 2) text ≡ kept_columns rest
rest_of_three text a b c rest e = grind (arith, (three_columns text a b c rest e), (drop_at (a ++ 9 ∷ (b ++ 9 ∷ c)) (kept_columns rest) (length a + length b + length c + 2) (length_of_three a b c)))

-- three columns that were taken one after another
pub taken_in_turn : (columns left left2 left3 : List (List ℕ)) (text a b c : List ℕ) → left ≡ pieces 9 text → left ≡ a ∷ left2 → left2 ≡ b ∷ left3 → left3 ≡ c ∷ columns
    → pieces 9 text ≡ a ∷ b ∷ c ∷ columns
taken_in_turn columns left left2 left3 text a b c e first second third = cc

pub taken_are_within : (columns left left2 left3 : List (List ℕ)) (text a b c : List ℕ) → left ≡ pieces 9 text → left ≡ a ∷ left2 → left2 ≡ b ∷ left3 → left3 ≡ c ∷ columns
    → length a + length b + length c + 2 ≤ length text
taken_are_within columns left left2 left3 text a b c e first second third = grind (arith, (three_are_within text a b c columns (cc)))

-- Lemmas on the feature that a line says.

-- a number that a text denotes has at most twelve digits
value_at_most : (text : List ℕ) (n : ℕ) → value_of text ≡ Some n → n ≤ 999999999999
unfolding value_of
value_at_most text n e = grind arith

kept_is_kept : (columns : List (List ℕ)) → is_kept (kept_columns columns) ≡ true
kept_is_kept [] = refl
kept_is_kept (x ∷ xs) = refl

-- kept columns are the columns of what is kept
pub columns_in_kept : (columns : List (List ℕ)) → AllByRecursion IsColumn columns → columns_in (kept_columns columns) ≡ columns
columns_in_kept [] h = refl
columns_in_kept (x ∷ xs) h = kept_is_cut x xs h.0 h.1

-- the feature of a name, a start, an end and the columns after them
abbrev pub whole : List ℕ → ℕ → ℕ → List (List ℕ) → Feature
whole chrom start stop rest = record { chrom = chrom; start = start; stop = stop; strand = strand_of rest; rest = kept_columns rest }

-- what was found in three columns, if they say a feature
pub record IsWhole (chrom : List ℕ) (start stop : Option ℕ) (rest : List (List ℕ)) (f : Feature) : Type 0 where
  pub some : 0 < length chrom
  pub start_is : start ≡ Some f.start
  pub stop_is : stop ≡ Some f.stop
  pub below : f.start < f.stop
  pub same : whole chrom f.start f.stop rest ≡ f

pub of_whole : (chrom : List ℕ) (start stop : Option ℕ) (rest : List (List ℕ)) (f : Feature) → feature_of chrom start stop rest ≡ Ok f → IsWhole chrom start stop rest f
of_whole chrom start stop rest f e = grind arith

-- the columns of which a feature was made
pub record Made (columns : List (List ℕ)) (f : Feature) : Type 0 where
  chrom : List ℕ
  start : List ℕ
  stop : List ℕ
  rest : List (List ℕ)
  cut : columns ≡ chrom ∷ start ∷ stop ∷ rest
  whole_is : IsWhole chrom (value_of start) (value_of stop) rest f

columns_made : (columns : List (List ℕ)) (f : Feature) → columns_say columns ≡ Ok f → Made columns f
columns_made columns f e = grind arith

whole_is_feature : (chrom : List ℕ) (start stop : ℕ) (rest : List (List ℕ)) → IsName chrom → start < stop → stop ≤ 999999999999 → AllByRecursion IsColumn rest → IsFeature (whole chrom start stop rest)
whole_is_feature chrom start stop rest name below small columns = grind (arith, kept_is_kept, columns_in_kept)

-- a feature that the columns of a text say
pub said_is_feature : (text : List ℕ) (f : Feature) → columns_say (pieces 9 text) ≡ Ok f → IsFeature f
said_is_feature text f e =
    let m = columns_made (pieces 9 text) f e in
    let columns = subst (λ l. AllByRecursion IsColumn l) m.cut (pieces_are_columns text) in
    subst IsFeature m.whole_is.same
    (whole_is_feature m.chrom f.start f.stop m.rest (record { some = m.whole_is.some; one_column = columns.0 }) m.whole_is.below (value_at_most m.stop f.stop m.whole_is.stop_is) columns.1.1.1)

-- a text is the name, what follows its tab, and what is kept
pub said_stands : (text : List ℕ) (f : Feature) → columns_say (pieces 9 text) ≡ Ok f → (between : List ℕ) × (text ≡ (f.chrom ++ 9 ∷ between) ++ f.rest)
said_stands text f e =
    let m = columns_made (pieces 9 text) f e in
    let chrom : m.chrom ≡ f.chrom = ap (λ g. g.chrom) m.whole_is.same in
    let rest : kept_columns m.rest ≡ f.rest = ap (λ g. g.rest) m.whole_is.same in
    grind (arith, (three_columns text m.chrom m.start m.stop m.rest m.cut))

-- a header line says nothing
pub header_says : (text : List ℕ) → says_nothing text ≡ true → record_of text ≡ Ok None
unfolding record_of
header_says text h = rw h refl

-- another line says what its columns say
pub columns_of_line : (text : List ℕ) → says_nothing text ≡ false → record_of text ≡ not_skipped (columns_say (pieces 9 text))
unfolding record_of
columns_of_line text h = rw h refl

-- a line that says a feature is no header, and its columns say it
pub record_said : (text : List ℕ) (f : Feature) → record_of text ≡ Ok (Some f) → (says_nothing text ≡ false) × (columns_say (pieces 9 text) ≡ Ok f)
unfolding record_of
record_said text f e = grind arith

-- a line that is no header says what its columns say
pub said_by_columns : (text : List ℕ) (said : Result Feature Kind) → says_nothing text ≡ false → said ≡ columns_say (pieces 9 text) → not_skipped said ≡ record_of text
said_by_columns text said h e = ap not_skipped e ∙ sym (columns_of_line text h)

-- the feature made of a name, of the start and end that were found, and of what follows their columns is what the text says
pub made_is_said : (text a b c : List ℕ) (rest : List (List ℕ)) (bounds : ℕ × ℕ) (strand : Strand) (kept : List ℕ) → pieces 9 text ≡ a ∷ b ∷ c ∷ rest
    → feature_between a (Ok bounds) rest ≡ feature_of a (value_of b) (value_of c) rest → strand ≡ strand_of (columns_in kept) → kept ≡ drop (length a + length b + length c + 2) text
    → Ok (record { chrom = a; start = bounds.0; stop = bounds.1; strand = strand; rest = kept }) ≡ columns_say (pieces 9 text)
made_is_said text a b c rest bounds strand kept cut found s k = grind (arith, rest_of_three, pieces_are_columns, columns_in_kept)

pub made_is_feature : (text a b c : List ℕ) (rest : List (List ℕ)) (bounds : ℕ × ℕ) (strand : Strand) (kept : List ℕ) → pieces 9 text ≡ a ∷ b ∷ c ∷ rest
    → feature_between a (Ok bounds) rest ≡ feature_of a (value_of b) (value_of c) rest → strand ≡ strand_of (columns_in kept) → kept ≡ drop (length a + length b + length c + 2) text
    → IsFeature (record { chrom = a; start = bounds.0; stop = bounds.1; strand = strand; rest = kept })
made_is_feature text a b c rest bounds strand kept cut found s k = said_is_feature text _ (sym (grind (arith, rest_of_three, pieces_are_columns, columns_in_kept)))

-- Lemmas on the first word of a text.

-- the byte doesn't end a word
abbrev pub IsOfWord : ℕ → Type 0
IsOfWord byte = ends_word byte ≡ false

pub of_word : (byte : ℕ) (bytes : List ℕ) (b : Bool) → ends_word byte ≡ b → first_word (byte ∷ bytes) ≡ cond b [] (byte ∷ first_word bytes)
of_word byte bytes b e = grind arith

-- bytes that don't end a word begin the first one
pub word_first : (word text : List ℕ) → All IsOfWord word → first_word (word ++ text) ≡ word ++ first_word text
word_first [] text h = refl
word_first (byte ∷ word) text h = grind (arith, (of_word byte (word ++ text) false (All-head IsOfWord byte word h)), (word_first word text (All-tail IsOfWord byte word h)))

same_word : (word : List ℕ) → true ≡ bytes_eq (word ++ []) word
same_word word = sym ((bytes_eq-Decides (word ++ []) word).1 (append-nil word))

-- a text of which a word was taken off
stripped : (text word rest : List ℕ) → bytes_eq (take (length word) text) word ≡ true → rest ≡ drop (length word) text → text ≡ word ++ rest
stripped text word rest same e = grind (arith, bytes_eq-Decides, take-append-drop)

ended_by : (word bytes : List ℕ) (byte : ℕ) (b : Bool) → ends_word byte ≡ b → b ≡ bytes_eq (word ++ first_word (byte ∷ bytes)) word
ended_by word bytes byte b e = grind (arith, same_word, common_steps)

-- a text that is a word
pub word_alone : (text word rest : List ℕ) → All IsOfWord word → bytes_eq (take (length word) text) word ≡ true → rest ≡ drop (length word) text → length rest < 1
    → true ≡ bytes_eq (first_word text) word
word_alone text word rest h same e short = rw (stripped text word rest same e) (grind (arith, common_steps, word_first, same_word))

-- a text that goes on after a word
pub word_ended : (text word rest : List ℕ) → All IsOfWord word → bytes_eq (take (length word) text) word ≡ true → rest ≡ drop (length word) text → 1 ≤ length rest
    → ends_word (get_or rest 0 0) ≡ bytes_eq (first_word text) word
word_ended text word rest h same e some = rw (stripped text word rest same e) (grind (arith, common_steps, word_first, ended_by))

more_of_word : (byte : ℕ) (left right : List ℕ) (b : Bool) → ends_word byte ≡ b → first_word left ≡ first_word right → first_word (byte ∷ left) ≡ first_word (byte ∷ right)
more_of_word byte left right b e same = grind (arith, common_steps)

-- the first word ends before the first tab
word_before_tab : (name left right : List ℕ) → first_word (name ++ 9 ∷ left) ≡ first_word (name ++ 9 ∷ right)
word_before_tab [] left right = of_word 9 left true refl ∙ sym (of_word 9 right true refl)
word_before_tab (byte ∷ name) left right = grind (arith, (word_before_tab name left right), more_of_word)

-- whether a text is a header depends only on what comes before its first tab
pub header_before_tab : (name left right : List ℕ) → says_nothing (name ++ 9 ∷ left) ≡ says_nothing (name ++ 9 ∷ right)
header_before_tab [] left right = ap (λ l. eqb 9 35 || is_header_word l) (word_before_tab [] left right)
header_before_tab (byte ∷ name) left right = ap (λ l. eqb byte 35 || is_header_word l) (word_before_tab (byte ∷ name) left right)
