use Rattle.bt_lines.proofs.Std.{[], ◌∷◌, ◌++◌, ◌∙◌, ap, Ok}
use Rattle.bt_lines.proofs.lemmas.reader.block.BufferLemmas.{fed_line, one_line, at_feed, at_refusal, feed_fed, feed_one, no_feed, none_came, none_refused, read_failed, past_bound, some_full}
use Rattle.bt_lines.proofs.reader.spill.read_long.Goals as goal

pub returns-in-Err-clause-buffers : goal.returns-in-Err-clause-buffers
returns-in-Err-clause-buffers g c = at_refusal _ _ _ (some_full _ c.requires.full) c.requires.clear (rw c.begin_spill.ensures.unread at c.reads.invariant.0) _ _ c.spill.ensures.moves c.in-Err.is c.spill.ensures.none

pub use_spilled-requires : goal.use_spilled-requires
use_spilled-requires g c =
    let is = c.in-Ok-true.is ∙ ap Ok c.in-Ok-true.field-0-test in record {
      fed = feed_fed _ _ _ (some_full _ c.requires.full) c.requires.clear (rw c.begin_spill.ensures.unread at c.reads.invariant.0) _ _ c.spill.ensures.moves is;
      one = feed_one _ _ _ (some_full _ c.requires.full) c.requires.clear (rw c.begin_spill.ensures.unread at c.reads.invariant.0) _ _ c.spill.ensures.moves is;
    }

pub returns-in-Ok-true-clause-buffers : goal.returns-in-Ok-true-clause-buffers
returns-in-Ok-true-clause-buffers g c =
    at_feed _ _ _ (some_full _ c.requires.full) c.requires.clear (rw c.begin_spill.ensures.unread at c.reads.invariant.0) _ _ c.spill.ensures.moves (c.in-Ok-true.is ∙ ap Ok c.in-Ok-true.field-0-test) c.use_spilled.ensures.lines c.use_spilled.ensures.unread

pub returns-in-BadRead-clause-buffers : goal.returns-in-BadRead-clause-buffers
returns-in-BadRead-clause-buffers g c =
    read_failed _ _ _ (some_full _ c.requires.full) c.requires.clear (rw c.begin_spill.ensures.unread at c.reads.invariant.0) _ _ c.spill.ensures.moves (c.in-Ok-false.is ∙ ap Ok c.in-Ok-false.field-0-test) _ _ _ c.in-BadRead.ensures.asks c.in-BadRead.ensures.none

pub returns-in-PastBound-clause-buffers : goal.returns-in-PastBound-clause-buffers
returns-in-PastBound-clause-buffers g c =
    past_bound _ _ _ (some_full _ c.requires.full) c.requires.clear (rw c.begin_spill.ensures.unread at c.reads.invariant.0) _ _ c.spill.ensures.moves (c.in-Ok-false.is ∙ ap Ok c.in-Ok-false.field-0-test) _ _ _ c.in-PastBound.ensures.asks c.in-PastBound.ensures.none

pub returns-in-Err-end_spilled-clause-buffers : goal.returns-in-Err-end_spilled-clause-buffers
returns-in-Err-end_spilled-clause-buffers g c =
    none_refused _ _ _ (some_full _ c.requires.full) c.requires.clear (rw c.begin_spill.ensures.unread at c.reads.invariant.0) _ _ c.spill.ensures.moves (c.in-Ok-false.is ∙ ap Ok c.in-Ok-false.field-0-test) _ _ _ c.in-NoBytes.ensures.asks (c.end_spilled.ensures.lines ∙ c.in-NoBytes.ensures.none) c.end_spilled.ensures.unread

pub use_spilled-requires-in-Ok-clause-fed : goal.use_spilled-requires-in-Ok-clause-fed
use_spilled-requires-in-Ok-clause-fed g c = fed_line _ _ c.in-Ok.ensures.ended

pub use_spilled-requires-in-Ok-clause-one : goal.use_spilled-requires-in-Ok-clause-one
use_spilled-requires-in-Ok-clause-one g c =
    one_line _ _ (rw c.in-NoBytes.ensures.spilled (no_feed _ _ _ (some_full _ c.requires.full) c.requires.clear (rw c.begin_spill.ensures.unread at c.reads.invariant.0) _ _ c.spill.ensures.moves (c.in-Ok-false.is ∙ ap Ok c.in-Ok-false.field-0-test))) c.in-Ok.ensures.ended

pub returns-in-Ok-clause-buffers : goal.returns-in-Ok-clause-buffers
returns-in-Ok-clause-buffers g c =
    none_came _ _ _ (some_full _ c.requires.full) c.requires.clear (rw c.begin_spill.ensures.unread at c.reads.invariant.0) _ _ c.spill.ensures.moves (c.in-Ok-false.is ∙ ap Ok c.in-Ok-false.field-0-test) _ _ _ c.in-NoBytes.ensures.asks
    (c.use_spilled-in-Ok.ensures.lines ∙ c.in-Ok.ensures.ended ∙ ap (λ l. l ++ 10 ∷ []) c.in-NoBytes.ensures.spilled) (c.use_spilled-in-Ok.ensures.unread ∙ c.end_spilled.ensures.unread)
