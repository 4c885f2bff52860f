use Rattle.std.proofs.Common.{length, take}
use Rattle.std.specs.Prelude.{All}
use Rattle.drop_in.specs.calls.Original.{IsPassed, names_on}
use Rattle.drop_in.proofs.original.Original.find.Given as goal

-- The files of the folders so far are passed over.
abbrev pub invariant-loop-folder : goal.invariant-loop-folder
invariant-loop-folder g l =
    All (IsPassed g.P.Programs g.P.Program.Source l.programs l.tried) (take (length l.yielded) (names_on l.path))
