use Rattle.std.proofs.lemmas.Grind.{common_steps}
use Rattle.bt_lines.proofs.Std.{arith}
use Rattle.bt_front.proofs.lemmas.survey.WatchedLemmas.{end_found, found_ends, plain_so_far}
use Rattle.bt_front.proofs.survey.watched.Watched.finish.Goals as goal

pub returns-then-is_some : goal.returns-then-is_some
returns-then-is_some g c = λ bytes shows. found_ends bytes c.args.self.now shows (grind (arith, common_steps))

pub returns : goal.returns
returns g c = λ bytes shows.
    let so_far = plain_so_far bytes c.args.self.now shows (grind (arith, common_steps)) in
    end_found bytes c.args.self.now c.finish.result c.in_ok-oddity.oddity c.saturating_add.result so_far (c.finish.ensures bytes so_far.shows) (grind (arith, common_steps)) (grind (arith, common_steps))
