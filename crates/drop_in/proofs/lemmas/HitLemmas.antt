-- Lemmas on hits that are listed.
use Rattle.bt_lines.proofs.Std.{◌≡◌, List, ℕ, true, Option, None, Some, Result, Ok, Err, ap, refl, subst, sym, ◌∙◌, arith, option_map, Vec}
use Rattle.std.specs.Prelude.{IfErr, IfOk}
use Rattle.std.specs.declared.alloc.Global.{Global}
use Rattle.bt_lines.specs.declared.fault.Input.TheVariants.{Genome as OfGenome}
use Rattle.bt_lines.specs.model.Lines.{whole_text}
use Rattle.bt_bed.specs.calls.GenomeTable.{entries, names_of}
use Rattle.bt_bed.specs.declared.order.genome.Genome.{Genome}
use Rattle.bt_bed.specs.model.Genome.{genome_handed}
use Rattle.bt_bed.specs.model.Order.{byte_order, rank_order}
use Rattle.bt_tool.specs.model.Report.{chromosomes_of, of_file}
use Rattle.bt_lines.specs.declared.device.Sink.{Ghosts as Sink}
use Rattle.bt_lines.specs.declared.device.Source.{Ghosts as Source}
use Rattle.bt_files.specs.declared.files.Files.{Ghosts as Files}
use Rattle.bt_tool.specs.calls.Plan.{plan_seen}
use Rattle.drop_in.specs.calls.Answer.{Answers, ListsTaken, Looks}
use Rattle.drop_in.specs.calls.Answer.LeavesCall.{once_taken}
use Rattle.drop_in.specs.calls.Hits.{AreKept, IsOrderOf, IsWhyOfHits, IsWhyOfKept}
use Rattle.drop_in.specs.calls.Hits.IsWhyOfHits.{changed, no_memory}
use Rattle.drop_in.specs.calls.Hits.IsWhyOfKept.{has_changed, ran_out}
use Rattle.drop_in.specs.calls.Whys.{orders_hits}
use Rattle.drop_in.specs.declared.answering.Answered.{Answered}
use Rattle.drop_in.specs.declared.answering.Answered.TheVariants.{Left as IsLeft, Listed as Lists, Took}
use Rattle.drop_in.specs.declared.answering.Inputs.{Inputs}
use Rattle.drop_in.specs.declared.hits.KeptTexts.{KeptTexts}
use Rattle.drop_in.specs.declared.looks.Left.{Left}
use Rattle.drop_in.specs.declared.opening.Ways.{Ways}
use Rattle.drop_in.specs.declared.why.Why.{Why}
use Rattle.drop_in.specs.declared.words.Request.{Request}

-- what follows from what holds of an Ok
pub if_ok : {A E : Type 0} {P Q : A → Type 0} (r : Result A E) → ((x : A) → P x → Q x) → IfOk r P → IfOk r Q
if_ok (Ok x) f h = f x h
if_ok (Err e) f h = h

-- without a genome file the order is that of the names' bytes
pub order_none : (genome : Option (Vec ℕ Global)) → genome ≡ None → IsOrderOf genome byte_order
order_none genome is = record {
  chromosomes = None;
  are = ap (λ (g : Option (Vec ℕ Global)). chromosomes_of (option_map (λ (text : Vec ℕ Global). whole_text text.items) g)) is;
  is = refl;
}

-- with one it is that of its chromosomes
pub order_given : (genome : Option (Vec ℕ Global)) (text : Vec ℕ Global) (read : List ℕ) (found : Genome) → genome ≡ Some text → read ≡ text.items
    → genome_handed OfGenome (whole_text read) ≡ Ok (entries found) → IsOrderOf genome (rank_order (names_of found))
order_given genome text read found is same handed = record {
  chromosomes = Some (entries found);
  are = ap (λ (g : Option (Vec ℕ Global)). chromosomes_of (option_map (λ (t : Vec ℕ Global). whole_text t.items) g)) is
      ∙ ap (λ (l : List ℕ). of_file (genome_handed OfGenome (whole_text l))) (sym same) ∙ ap of_file handed;
  is = refl;
}

module _ {I : Type 0} (source : Source I) (inputs : Inputs I) (room : ℕ) (texts : KeptTexts I) (kept : AreKept source inputs.first inputs.second texts) where
  why_kept : (why : Why) → IsWhyOfKept why → IsWhyOfHits source inputs room why
  why_kept _ ran_out = no_memory refl
  why_kept _ has_changed = changed texts kept refl

  -- texts that are kept leave the call
  pub why_of_kept : {T : Type 0} (listed : Result T (Left I)) → IfErr listed (λ left. IsWhyOfKept left.why) → IfErr listed (λ left. IsWhyOfHits source inputs room left.why)
  why_of_kept (Ok done) is = is
  why_of_kept (Err left) is = why_kept left.why is

module _ {F I O : Type 0} (files : Files F I O) (source : Source I) (sink : Sink O) where
  -- what becomes of a call whose hits have to be put in order, once its inputs were looked at
  pub answers_listed : (before between after : F) (request : Request) (ways : Ways) (room : ℕ) (inputs : Inputs I) (answered : Answered I O)
      → Looks files source before request ways inputs between → orders_hits request ≡ true
      → ListsTaken files source sink between (plan_seen request.plan) inputs room answered after → Answers files source sink before request ways room answered after
  answers_listed before between after request ways room inputs (Took finished) looked hits lists = absurd lists
  answers_listed before between after request ways room inputs (Lists listed) looked hits lists = record { inputs = inputs; between = between; looked = looked; hits = hits; lists = lists }
  answers_listed before between after request ways room inputs (IsLeft left) looked hits lists =
      once_taken inputs hits (subst (λ (f : F). Looks files source before request ways inputs f) (sym lists.0) looked) lists.1 lists.2
