use Rattle.bt_lines.proofs.Std.{Option, Some, subst, sym}
use Rattle.bt_lines.specs.calls.Names.{fault_value}
use Rattle.bt_tool.specs.calls.Inputs.{InputRead}
use Rattle.bt_tool.specs.calls.Run.{KnowsChromosomes, LacksChromosomes}
use Rattle.bt_tool.proofs.lemmas.running.whole.OwnFailureLemmas.{knows_all, lacks_read}
use Rattle.bt_tool.proofs.running.read_genome.Goals as goal

pub returns-in-Ok-clause-read : goal.returns-in-Ok-clause-read
returns-in-Ok-clause-read g c =
    let reader = c.new-lines.ensures in
    subst (λ before. (read : Option InputRead) × KnowsChromosomes g.G.Source before read (Some c.into_source.result) (Some c.in-Ok.table)) (sym c.in-Some.is)
    (knows_all c.read-read.new.reader reader.source (sym c.into_source.ensures) reader.input
    reader.none_taken.0 reader.none_fed reader.none_given reader.going.0 reader.going.2 reader.lines reader.sound c.in-Ok.ensures.answers (c.in-Ok.ensures.sound reader.sound))

pub returns-in-Err-clause-read : goal.returns-in-Err-clause-read
returns-in-Err-clause-read g c =
    let reader = c.new-lines.ensures in
    subst (λ before. (read : Option InputRead) × LacksChromosomes g.G.Source before read (Some c.into_source.result) (fault_value c.in-Err.fault)) (sym c.in-Some.is)
    (lacks_read c.read-read.new.reader reader.source (sym c.into_source.ensures) reader.input
    reader.none_taken.0 reader.none_fed reader.none_given reader.going.0 reader.going.2 reader.lines reader.sound c.in-Err.ensures.answers (c.in-Err.ensures.sound reader.sound))
