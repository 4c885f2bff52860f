use Rattle.bt_front.proofs.lemmas.survey.SeeingLemmas.{are_taken, sees_buffered}
use Rattle.bt_front.proofs.survey.Survey.see_buffered.Goals as goal

pub consume-requires : goal.consume-requires
consume-requires g c =
    are_taken c.args.blocks.now c.buffered-batch.result c.see-seen.new.batch c.see-seen.ensures.given c.consumed-consumed.result c.buffered-batch.ensures.lends c.see-seen.ensures.passes c.consumed-consumed.ensures

pub returns : goal.returns
returns g c =
    sees_buffered g.S.Source c.args.blocks.now c.consume.new.self c.args.self.now c.see-seen.new.self c.see-seen.result c.buffered-batch.result c.see-seen.new.batch c.consumed-consumed.result
    c.buffered-batch.ensures.lends c.see-seen.ensures c.consumed-consumed.ensures c.buffered-batch.ensures.comes c.consume.ensures
