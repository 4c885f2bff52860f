use Rattle.drop_in.proofs.lemmas.KeptLemmas.{surveyed}
use Rattle.drop_in.proofs.looks.survey_stream.Goals as goal

pub returns : goal.returns
returns g c =
    surveyed g.I.Source c.new-keeping.result c.read-surveyed.result.1 c.args.source c.into_parts-source.result.0 c.into_parts-source.result.1 c.read-surveyed.result.0 c.new-keeping.ensures.source c.new-keeping.ensures.kept c.into_parts-source.ensures.source c.into_parts-source.ensures.kept c.read-surveyed.ensures
