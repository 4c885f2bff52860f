use Rattle.bt_lines.proofs.Std.{◌≡◌, None, [], false}
use Rattle.bt_lines.specs.calls.Reader.{room}
use Rattle.bt_bed.proofs.lemmas.read.good.ReadingLemmas.{Going}
use Rattle.bt_bed.specs.calls.SortedReader.{view_with}
use Rattle.bt_bed.specs.inside.OrderedLookahead.{last_in}
use Rattle.bt_bed.proofs.read.sorted_reader.SortedReader.read_record.Given as goal

-- no record has come yet
abbrev pub invariant-loop-self : goal.invariant-loop-self
invariant-loop-self g l = record {
  going : Going g.S.Source (view_with (g.Q.Sorted.sorting l.initial.self.lookahead.rule) None l.initial.self.reader l.initial.self.lookahead [])
      (view_with (g.Q.Sorted.sorting l.initial.self.lookahead.rule) None l.self.reader l.self.lookahead []);
  none : l.self.is_ahead ≡ false;
  rule : l.self.lookahead.rule ≡ l.initial.self.lookahead.rule;
  last : last_in l.self.lookahead ≡ last_in l.initial.self.lookahead;
  fault : l.self.fault ≡ None;
}

abbrev pub decreases-loop-self : goal.decreases-loop-self
decreases-loop-self g l = room l.self.reader
