use Rattle.bt_lines.proofs.Std.{Bool, List, Option, [], append-nil, false, false≢true, refl, sym, true, ℕ, ◌++◌, ◌∙◌, ◌≡◌}
use Rattle.bt_lines.specs.calls.Device.{TellsText}
use Rattle.bt_tool.specs.calls.Inputs.{ReadsAs}
use Rattle.bt_tool.proofs.headline.reads_tell_the_text.Goals as goal

-- whether the last read reported the end, or failed
by_last : (told failed : Bool) {S : Type 0} (IsRead : S → Option (List ℕ) → S → Type 0) (before : S) (bytes : List ℕ) (after : S) (text : List ℕ)
    → ReadsAs told failed IsRead before bytes after → TellsText IsRead before text → (rest : List ℕ) × (text ≡ bytes ++ rest) × (told ≡ true → rest ≡ [])
by_last false false IsRead before bytes after text reads tells =
    let rest = tells.hands bytes after reads in (rest.0, rest.1, λ told. absurd (false≢true told))
by_last true false IsRead before bytes after text ends tells = ([], tells.ends bytes after ends ∙ sym (append-nil bytes), λ told. refl)
by_last false true IsRead before bytes after text fails tells =
    let rest = tells.hands bytes fails.before fails.served in (rest.0, rest.1, λ told. absurd (false≢true told))
by_last true true IsRead before bytes after text both tells = absurd both

pub returns : goal.returns
returns g c before read after text reads tells = by_last read.told read.failed g.S.Source.is_read before read.bytes after text reads.went tells
