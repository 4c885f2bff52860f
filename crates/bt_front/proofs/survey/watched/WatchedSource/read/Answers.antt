use Rattle.bt_front.proofs.survey.watched.WatchedSource.read.Goals as goal

pub returns-clause-handed : goal.returns-clause-handed
returns-clause-handed g c room = record {
  served = rw c.pass.ensures.source (c.in_ok-count.ensures.handed room);
  passes = λ past shows. c.pass.ensures.passes past (record { by = shows.by });
}
