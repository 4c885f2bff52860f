use Rattle.bt_lines.proofs.Std.{arith}
use Rattle.bt_bed.specs.calls.Records.{view_of}
use Rattle.bt_bed.specs.calls.SortedReader.{view_with}
use Rattle.bt_bed.proofs.lemmas.read.batch.RecordsLemmas.{passed_last, placed_by, some_first, takes_records}
use Rattle.bt_bed.proofs.read.records.Records.advance.Goals as goal

pub invariant_of-self : goal.invariant_of-self
invariant_of-self g c = record { placed = placed_by g.O.ChromOrder c.args.self.now.sorted c.advance.new.self c.advance.ensures.rule c.advance.ensures.placed }

pub advance-requires-clause-some : goal.advance-requires-clause-some
unfolding view_of view_with
advance-requires-clause-some g c = some_first _ _ c.requires

pub returns-clause-takes : goal.returns-clause-takes
returns-clause-takes g c = takes_records g.S.Source c.args.self.now _ c.advance.ensures.rule 1 c.advance.ensures.takes

pub returns-clause-last : goal.returns-clause-last
unfolding view_of view_with
returns-clause-last g c = grind (arith, some_first, passed_last)
