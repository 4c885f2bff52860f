use Rattle.bt_lines.proofs.Std.{arith, [], ◌∷◌}
use Rattle.bt_bed.proofs.lemmas.read.good.SaidRuns.{count_is, one_given, token_is}
use Rattle.bt_bed.proofs.read.sorted_reader.SortedReader.advance.Goals as goal

pub consume-requires-clause-taken : goal.consume-requires-clause-taken
consume-requires-clause-taken g c =
    let one = one_given c.args.self.now c.buffered-batch.result c.next.new.self c.next.result c.requires.some.0 c.requires.some.1 c.requires.some.2 c.buffered-batch.ensures c.next.ensures.some c.next.ensures.none in
    token_is c.args.self.now c.buffered-batch.result c.next.new.self (one.0 ∷ []) c.consumed-consumed.result c.buffered-batch.ensures one.1 c.consumed-consumed.ensures

pub returns-clause-takes : goal.returns-clause-takes
returns-clause-takes g c =
    let one = one_given c.args.self.now c.buffered-batch.result c.next.new.self c.next.result c.requires.some.0 c.requires.some.1 c.requires.some.2 c.buffered-batch.ensures c.next.ensures.some c.next.ensures.none in
    let count = count_is c.args.self.now c.buffered-batch.result c.next.new.self (one.0 ∷ []) c.consumed-consumed.result c.buffered-batch.ensures one.1 c.consumed-consumed.ensures in
    grind arith
