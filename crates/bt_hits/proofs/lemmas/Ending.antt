-- Lemmas on how writing ends.
use Rattle.bt_lines.proofs.Std.{◌≡◌, ◌≢◌, ◌⊎◌, inl, inr, ℕ, Bool, true, false≢true, List, [], ◌++◌, Option, None, Some, Result, Ok, Err, sym, ap, subst, ◌∙◌, append_assoc, append-nil}
use Rattle.bt_lines.specs.calls.Faults.{no_memory, write_failed}
use Rattle.bt_lines.specs.calls.Names.{fault_value}
use Rattle.bt_lines.specs.calls.Output.{FailsToAdd, Grown, IsPrefixOf, Output}
use Rattle.bt_lines.specs.declared.device.Sink.{Ghosts as Sink}
use Rattle.bt_lines.specs.declared.fault.Fault.{Fault}
use Rattle.bt_lines.specs.model.Fault.{FaultValue}
use Rattle.bt_hits.specs.calls.Listing.{CutsOff, ListsHits, TellsOutput, WritesHits}
use Rattle.bt_hits.specs.inside.Ending.{EndsPutting, FailsToPass, PassesOn}

appends_kept : (old mid new lines : List ℕ) → mid ≡ old ++ lines → new ≡ mid → new ≡ old ++ lines
appends_kept old mid new lines appends same = same ∙ appends

kept_prefix : (old new : List ℕ) → new ≡ old → IsPrefixOf new old []
unfolding IsPrefixOf
kept_prefix old new same = ([], ap (λ l. l ++ []) same)

prefix_of : (old mid new put rest lines : List ℕ) → mid ≡ old ++ put → put ++ rest ≡ lines → IsPrefixOf new mid [] → IsPrefixOf new old lines
unfolding IsPrefixOf
prefix_of old mid new put rest lines appends are front = (
  front.0 ++ rest,
  sym (append_assoc new front.0 rest) ∙ ap (λ l. l ++ rest) (front.1 ∙ append-nil mid ∙ appends) ∙ append_assoc old put rest ∙ ap (λ l. old ++ l) are,
)

whole_prefix : (old new lines : List ℕ) → new ≡ old ++ lines → IsPrefixOf new old lines
unfolding IsPrefixOf
whole_prefix old new lines appends = ([], append-nil new ∙ appends)

-- what was put of the lines
pub record Writes (took : List ℕ) (sink_failed : Bool) (lines : List ℕ) (fault : Option FaultValue) (new : Output) : Type 0 where
  pub front : IsPrefixOf new.took took lines
  pub whole : fault ≡ None → new.took ≡ took ++ lines
  pub flushed : fault ≢ Some write_failed → new.sink_is_flushed ≡ true
  pub no_failed_write : fault ≢ Some write_failed → new.sink_has_failed ≡ sink_failed
  pub named : (told : FaultValue) → fault ≡ Some told → TellsOutput new.sink_has_failed new.sink_last_failed told

module _ (old : Output) (lines : List ℕ) where
  -- a write failed
  fails_written : (mid new : Output) (fault : FaultValue) → FailsToPass mid fault new → IsPrefixOf new.took old.put lines → Writes old.put old.sink_has_failed lines (Some fault) new
  fails_written mid new fault fails front = record {
    front = front;
    whole = λ e. absurd (cc);
    flushed = λ ne. absurd (ne (ap Some fails.is));
    no_failed_write = λ ne. absurd (ne (ap Some fails.is));
    named = λ told e. inl ((cc), fails.sink_failed.0, fails.sink_failed.1);
  }

  module _ (mid new : Output) where
    whole_written : Grown old lines mid → PassesOn mid new → Writes old.put old.sink_has_failed lines None new
    whole_written grown passes =
        let appends = appends_kept old.put mid.put new.took lines grown.appends passes.taken in
        record {
          front = whole_prefix old.put new.took lines appends;
          whole = λ e. appends;
          flushed = λ ne. passes.flushed;
          no_failed_write = λ ne. passes.sink_served ∙ grown.sink_served;
          named = λ told e. absurd (cc);
        }

    -- memory ran out after some of them
    cut_written : (put rest : List ℕ) (fault : FaultValue) → put ++ rest ≡ lines → Grown old put mid → fault ≡ no_memory → PassesOn mid new → Writes old.put old.sink_has_failed lines (Some fault) new
    cut_written put rest fault are grown is passes = record {
      front = prefix_of old.put mid.put new.took put rest lines grown.appends are (kept_prefix mid.put new.took passes.taken);
      whole = λ e. absurd (cc);
      flushed = λ ne. passes.flushed;
      no_failed_write = λ ne. passes.sink_served ∙ grown.sink_served;
      named = λ told e. inr (cc);
    }

    -- what the sink took if a write failed
    failed_front : (failure : Fault) (fault : FaultValue) → CutsOff old lines (fault_value failure) mid → FailsToPass mid fault new → IsPrefixOf new.took old.put lines
    failed_front failure fault lists fails =
        elim lists.cause [
          | inl ran_out ↦ prefix_of old.put mid.put new.took lists.put lists.rest lines ran_out.0.appends lists.are fails.front
          | inr failed ↦ subst (λ (o : Output). IsPrefixOf o.took old.put lines) (sym (fails.again failed.puts.failed)) failed.puts.front
        ]

    pub hits_written : {A : Type 0} (put : Result A Fault) (answer : Option FaultValue) → ListsHits old lines put mid → EndsPutting put mid answer new → Writes old.put old.sink_has_failed lines answer new
    hits_written (Ok done) None lists ends = whole_written lists ends
    hits_written (Ok done) (Some fault) lists ends = fails_written mid new fault ends (prefix_of old.put mid.put new.took lines [] lines lists.appends (append-nil lines) ends.front)
    hits_written (Err failure) None lists ends = absurd ends
    hits_written (Err failure) (Some fault) lists (inl fails) = fails_written mid new fault fails (failed_front failure fault lists fails)
    hits_written (Err failure) (Some fault) lists (inr (passes, is)) =
        elim lists.cause [
          | inl ran_out ↦ cut_written lists.put lists.rest fault lists.are ran_out.0 (is ∙ ran_out.1) passes
          | inr failed ↦ absurd (false≢true (sym passes.was_served ∙ failed.puts.failed))
        ]

module _ {K : Type 0} (sink : Sink K) (before after : K) (old new : Output) (lines : List ℕ) (put : old.put ≡ sink.took before) (had_failed : old.sink_has_failed ≡ sink.has_failed before)
    (took : sink.took after ≡ new.took) (failed : sink.has_failed after ≡ new.sink_has_failed) (last : sink.last_failed after ≡ new.sink_last_failed) (flushed : sink.is_flushed after ≡ new.sink_is_flushed) where
  -- as the sink tells it
  pub sink_written : (answer : Option FaultValue) → Writes old.put old.sink_has_failed lines answer new → WritesHits sink before lines answer after
  sink_written answer writes = record {
    front = rw (took, ← put) writes.front;
    whole = λ e. rw (took, ← put) (writes.whole e);
    flushed = λ ne. flushed ∙ writes.flushed ne;
    no_failed_write = λ ne. failed ∙ writes.no_failed_write ne ∙ had_failed;
    named = λ told e. rw (failed, last) (writes.named told e);
  }
