-- Lemmas on the members that were seen and on the lines that were put, when a run stops.
use Rattle.bt_lines.proofs.Std.{◌≡◌, refl, ℕ, List, [], ◌++◌, sym, ap, ◌∙◌, append-nil, append_assoc, map-append}
use Rattle.bt_lines.specs.model.Fault.{FaultValue}
use Rattle.bt_lines.specs.calls.Output.{Output, FailsToAdd}
use Rattle.bt_bed.specs.model.Good.{Good, Member, items_in}
use Rattle.bt_tool.specs.inside.Feed.{CutsLines, PutsLines, member_items}
use Rattle.bt_tool.proofs.lemmas.running.feed.FeedLemmas.{front_all}

-- the members before some others, by their items
pub items_begin : {A : Type 0} (good : Good A) (past : List (Member A)) (written extra : List A) → member_items past ≡ written ++ extra → (more : List (Member A)) × (good.members ≡ past ++ more)
    → (more : List A) × (items_in good ≡ written ++ (extra ++ more))
items_begin good past written extra e b = (
  member_items b.0,
  ap member_items b.1 ∙ map-append (λ m. m.item) past b.0 ∙ ap (λ l. l ++ member_items b.0) e ∙ append_assoc written extra (member_items b.0),
)

-- the first of these lines were put
pub record PutsFront (old : Output) (lines : List ℕ) (new : Output) : Type 0 where
  pub front : List ℕ
  pub rest : List ℕ
  pub parts : lines ≡ front ++ rest
  pub puts : PutsLines old front new

pub puts_front : (out : Output) (lines : List ℕ) (grown : Output) → PutsLines out lines grown → PutsFront out lines grown
puts_front out lines grown puts = record { front = lines; rest = []; parts = sym (append-nil lines); puts = puts }

-- the lines that couldn't be added were cut off
pub cuts_more : (out old new : Output) (lines more : List ℕ) (fault : FaultValue) → PutsLines out lines old → FailsToAdd old more fault new → CutsLines out (lines ++ more) new
cuts_more out old new lines more fault puts fails =
    record { front = front_all new.took old.put out.put lines more (lines ++ more) refl puts fails.puts.front; failed = fails.puts.failed; sink_failed = fails.puts.sink_failed }
