-- Lemmas on devices that play a script.
use Rattle.bt_lines.proofs.Std.{◌≡◌, ℕ, ◌+◌, List, [], ◌++◌, Option, None, Some, refl, subst, drop, slice_range, ap, ◌∙◌, sym, arith, append-nil, append_assoc, drop_split, Consumes, Consumes-nil, Consumes-trans, IsAtEnd}
use Rattle.std.proofs.lemmas.List.{append_cancel_left}
use Rattle.bt_lines.proofs.lemmas.reader.block.ReadsLemmas.{ends_later, reads_then}
use Rattle.bt_lines.specs.calls.Telling.{what_is_left_is_told}
use Rattle.bt_lines.specs.calls.Device.{EndsAfter, Gives, ReadsOn, TellsText, begun, gave}

-- the bytes that were handed over, and those still to come
pub handed_on : (bytes front : List ℕ) (given count : ℕ) → front ≡ slice_range bytes given (given + count) → drop given bytes ≡ front ++ drop (given + count) bytes
handed_on bytes front given count is =
    drop_split bytes given (given + count) (omega arith) ∙ ap (λ l. l ++ drop (given + count) bytes) (sym is)

-- known bytes that were handed over, and those after them
some_rest : (text : List ℕ) (left : Option (List ℕ)) (bytes : List ℕ) → Consumes (Some text) left bytes → (rest : List ℕ) × (text ≡ bytes ++ rest)
some_rest text None bytes consumed = absurd consumed
some_rest text (Some rest) bytes consumed = (rest, consumed)

-- all of them
all_of : (text : List ℕ) (left : Option (List ℕ)) (bytes : List ℕ) → Consumes (Some text) left bytes → IsAtEnd left → text ≡ bytes
all_of text None bytes consumed none = absurd consumed
all_of text (Some rest) bytes consumed none = consumed ∙ ap (λ l. bytes ++ l) none ∙ append-nil bytes

-- a source whose reads hand over what they take from the bytes that are left tells those as its text
module _ {S : Type 0} (IsRead : S → Option (List ℕ) → S → Type 0) (left : S → Option (List ℕ))
    (gives : (before : S) (bytes : List ℕ) (after : S) → IsRead before (Some bytes) after → Gives (left before) (Some bytes) (left after)) where
  handed_over : {source after : S} {bytes : List ℕ} → ReadsOn IsRead source bytes after → Consumes (left source) (left after) bytes
  handed_over {source} begun = Consumes-nil (left source)
  handed_over {source} (gave {bytes} {before} reads piece after is) =
      Consumes-trans (left source) (left before) (left after) bytes piece (handed_over reads) (gives before piece after is).0

  module _ (source : S) (text : List ℕ) (known : left source ≡ Some text) where
    told : (bytes : List ℕ) (after : S) → Consumes (left source) (left after) bytes → Consumes (Some text) (left after) bytes
    told bytes after consumed = subst (λ (o : Option (List ℕ)). Consumes o (left after) bytes) known consumed

    told_all : (bytes : List ℕ) (after : S) → EndsAfter IsRead source bytes after → text ≡ bytes
    told_all bytes after ends =
        let last = gives ends.before [] after ends.tells in
        let all : Consumes (left source) (left after) (bytes ++ []) =
        Consumes-trans (left source) (left ends.before) (left after) bytes [] (handed_over ends.served) last.0 in
        all_of text (left after) (bytes ++ []) (told (bytes ++ []) after all) (last.1 refl) ∙ append-nil bytes

    pub tells_text : TellsText IsRead source text
    tells_text = record {
      hands = λ bytes after reads. some_rest text (left after) bytes (told bytes after (handed_over reads));
      ends = told_all;
    }

-- what is left of a text, once reads handed over the start of it
pub left_told : {S : Type 0} (IsRead : S → Option (List ℕ) → S → Type 0) → what_is_left_is_told IsRead
left_told {S} IsRead source text bytes after tells reads = (rest, parts, record { hands = hands; ends = ends })
  where
    first : (rest : List ℕ) × (text ≡ bytes ++ rest)
    first = tells.hands bytes after reads

    rest : List ℕ
    rest = first.0

    parts : text ≡ bytes ++ rest
    parts = first.1

    hands : (more : List ℕ) (last : S) → ReadsOn IsRead after more last → (others : List ℕ) × (rest ≡ more ++ others)
    hands more last then =
        let all = tells.hands (bytes ++ more) last (reads_then IsRead reads then) in
        (all.0, append_cancel_left bytes rest (more ++ all.0) (sym parts ∙ all.1 ∙ append_assoc bytes more all.0))

    ends : (more : List ℕ) (last : S) → EndsAfter IsRead after more last → rest ≡ more
    ends more last then =
        append_cancel_left bytes rest more (sym parts ∙ tells.ends (bytes ++ more) last (ends_later IsRead reads then))
