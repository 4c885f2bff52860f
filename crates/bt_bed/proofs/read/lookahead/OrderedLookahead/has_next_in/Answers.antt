use Rattle.bt_lines.proofs.Std.{ℕ, List, sym, ap, ◌∙◌, refl}
use Rattle.bt_lines.specs.calls.Reader.{lines_in}
use Rattle.bt_bed.proofs.lemmas.read.batch.SortedReaderLemmas.{some_first}
use Rattle.bt_bed.specs.calls.Bed.{run_of}
use Rattle.bt_bed.specs.inside.OrderedLookahead.{last_in, name_in, start_in}
use Rattle.bt_bed.proofs.read.lookahead.OrderedLookahead.has_next_in.Goals as goal

pub returns-in-Some : goal.returns-in-Some
unfolding name_in start_in last_in
returns-in-Some g c = λ some.
    let first = some_first c.new-batch.result c.first.result (sym c.is_some.ensures ∙ some) c.first.ensures.some in
    record {
      r = first.0;
      more = first.1;
      run = rw (c.if-not-self.true, c.in-Some.is)
          (ap (λ (name : List ℕ). run_of name c.in-Some.start (lines_in c.args.lines)) (sym c.as_slice.ensures.value) ∙ sym c.new-batch.ensures.left ∙ first.2);
      last = rw (c.if-not-self.true, c.in-Some.is) refl;
    }
