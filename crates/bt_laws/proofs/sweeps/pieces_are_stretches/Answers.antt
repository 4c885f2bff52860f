use Rattle.bt_sweep.proofs.lemmas.definitions.PieceLemmas.{are_pieces, only_pieces}
use Rattle.bt_laws.proofs.sweeps.pieces_are_stretches.Goals as goal

pub returns-clause-are : goal.returns-clause-are
returns-clause-are c = are_pieces

pub returns-clause-only : goal.returns-clause-only
returns-clause-only c = only_pieces
