use Rattle.std.proofs.Common.{rules}
use Rattle.drop_in.proofs.answering.judge.Goals as goal

pub returns-clause-leaves : goal.returns-clause-leaves
returns-clause-leaves g c = record {
  because = c.in-Err.ensures.leaves;
  stream = search rules;
}
