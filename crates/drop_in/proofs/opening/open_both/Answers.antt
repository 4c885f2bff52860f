use Rattle.drop_in.specs.calls.Opening.CannotOpenBoth.{other_one}
use Rattle.drop_in.proofs.opening.open_both.Goals as goal

pub returns-in-Err-open-clause-cannot : goal.returns-in-Err-open-clause-cannot
returns-in-Err-open-clause-cannot g c =
    other_one c.in-Ok.opened c.open.new.files c.in-Ok.ensures.opens c.in-Err-open.ensures.refused
