-- Lemmas on odd lines of a genome file.
use Rattle.bt_lines.proofs.Std.{◌≡◌, ◌∙◌, ℕ, ◌+◌, ◌<◌, ◌≤◌, inl, inr, Bool, true, false, cond, Err, refl, subst, List, [], ◌∷◌, Option, Some, None, ap, arith, cases_lt, drop, length, option_or, sym, take}
use Rattle.bt_lines.specs.calls.Columns.{IsBefore}
use Rattle.bt_lines.specs.calls.Names.{fault_value}
use Rattle.bt_lines.specs.declared.device.Source.{Ghosts as Source}
use Rattle.bt_lines.specs.declared.fault.Fault.{Fault}
use Rattle.bt_lines.specs.declared.fault.Input.TheVariants.{Genome as OfGenome}
use Rattle.bt_lines.specs.model.Lines.{whole_text}
use Rattle.bt_bed.specs.model.Genome.{genome_handed}
use Rattle.bt_hits.proofs.lemmas.Reading.{piece_first, piece_last}
use Rattle.drop_in.specs.calls.GenomeFiles.{IsWhyOfGenome, fault_why, first_odd, is_of_text, odd_in, odd_line}
use Rattle.drop_in.specs.calls.GenomeFiles.IsWhyOfGenome.{at_fault, no_memory}
use Rattle.drop_in.specs.calls.Looks.{ReadsText}
use Rattle.drop_in.specs.declared.why.Why.{Why}
use Rattle.drop_in.specs.declared.why.Why.TheVariants.{Genome as Wrong, NoMemory}

module _ (rest : List ℕ) (count : ℕ) (is : IsBefore 10 rest count) where
  first_then : (o : Option Why) → odd_line (take count rest) ≡ o → count < length rest → odd_in rest ≡ option_or o (odd_in (drop (count + 1) rest))
  first_then o e less = ap first_odd (piece_first rest count is less) ∙ ap (λ (found : Option Why). option_or found (odd_in (drop (count + 1) rest))) e

  last_then : (o : Option Why) → odd_line (take count rest) ≡ o → count ≡ length rest → odd_in rest ≡ option_or o None
  last_then o e all = ap first_odd (piece_last rest count is all) ∙ ap (λ (found : Option Why). option_or found None) e

  -- the first line is odd
  pub odd_now : (o : Option Why) (why : Why) → o ≡ odd_line (take count rest) → o ≡ Some why → odd_in rest ≡ Some why
  odd_now o why e some =
      let first : odd_line (take count rest) ≡ Some why = sym e ∙ some in
      elim (cases_lt count (length rest)) [
        | inl less ↦ first_then (Some why) first less
        | inr least ↦ last_then (Some why) first (omega (arith, is.within))
      ]

  -- it isn't
  pub odd_later : (o : Option Why) → o ≡ odd_line (take count rest) → o ≡ None → count < length rest → odd_in rest ≡ odd_in (drop (count + 1) rest)
  odd_later o e none less = first_then None (sym e ∙ none) less

  pub odd_never : (o : Option Why) → o ≡ odd_line (take count rest) → o ≡ None → count ≡ length rest → odd_in rest ≡ None
  odd_never o e none all = last_then None (sym e ∙ none) all

module _ {I : Type 0} (source : Source I) (opened : I) (text : List ℕ) (reads : ReadsText source opened text) (fault : Fault) where
  fault_by : (c : Bool) → is_of_text fault.kind ≡ c → odd_in text ≡ None → (is_of_text fault.kind ≡ true → genome_handed OfGenome (whole_text text) ≡ Err (fault_value fault)) → IsWhyOfGenome source opened (cond c (Wrong fault) NoMemory)
  fault_by true e none wrong = at_fault text fault reads none (wrong e)
  fault_by false e none wrong = no_memory

  -- a line of a genome file is at fault
  pub genome_at_fault : (read again : List ℕ) (o : Option Why) → read ≡ text → again ≡ text → o ≡ odd_in read → o ≡ None → (is_of_text fault.kind ≡ true → genome_handed OfGenome (whole_text again) ≡ Err (fault_value fault)) → IsWhyOfGenome source opened (fault_why fault)
  genome_at_fault read again o same too found none wrong =
      fault_by (is_of_text fault.kind) refl (ap odd_in (sym same) ∙ sym found ∙ none) (subst (λ (t : List ℕ). is_of_text fault.kind ≡ true → genome_handed OfGenome (whole_text t) ≡ Err (fault_value fault)) too wrong)
