-- Lemmas on what a writer holds that knows its contents.
use Rattle.bt_lines.proofs.Std.{◌≡◌, ℕ, true, List, ◌++◌, Option, None, Some, refl, ap, subst, false≢true}
use Rattle.std.specs.Prelude.{is_some}
use Rattle.std.specs.Io.KnownBytes.{Appends, Keeps}
use Rattle.bt_lines.specs.calls.Device.{HoldsKnown, known_or_none}

none_of : (known : Option (List ℕ)) → is_some known ≡ true → known ≡ Some (known_or_none known)
none_of None is = absurd (false≢true is)
none_of (Some bytes) is = refl

grown : (known : Option (List ℕ)) (bytes more : List ℕ) → Appends (Some bytes) known more → known ≡ Some (bytes ++ more)
grown None bytes more appends = absurd appends
grown (Some now) bytes more appends = ap Some appends

same : (known : Option (List ℕ)) (bytes : List ℕ) → Keeps (Some bytes) known → known ≡ Some bytes
same None bytes keeps = absurd keeps
same (Some now) bytes keeps = ap Some keeps

module _ {W : Type 0} (contents : W → Option (List ℕ)) where
  pub holds_none : (writer : W) → HoldsKnown contents writer (known_or_none (contents writer))
  holds_none writer knows = none_of (contents writer) (knows writer)

  pub holds_more : (old new : W) (bytes more : List ℕ) → HoldsKnown contents old bytes → Appends (contents old) (contents new) more → HoldsKnown contents new (bytes ++ more)
  holds_more old new bytes more holds appends knows =
      grown (contents new) bytes more (subst (λ (o : Option (List ℕ)). Appends o (contents new) more) (holds knows) appends)

  pub holds_same : (old new : W) (bytes : List ℕ) → HoldsKnown contents old bytes → Keeps (contents old) (contents new) → HoldsKnown contents new bytes
  holds_same old new bytes holds keeps knows =
      same (contents new) bytes (subst (λ (o : Option (List ℕ)). Keeps o (contents new)) (holds knows) keeps)
