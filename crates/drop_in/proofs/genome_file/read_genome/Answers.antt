use Rattle.bt_lines.proofs.Std.{ap, subst, sym, ◌∙◌}
use Rattle.drop_in.specs.calls.GenomeFiles.{IsWhyOfGenome, odd_in}
use Rattle.drop_in.specs.calls.GenomeFiles.IsWhyOfGenome.{no_memory, odd, unread}
use Rattle.drop_in.specs.declared.why.Why.{Why}
use Rattle.drop_in.proofs.lemmas.OddLemmas.{genome_at_fault}
use Rattle.drop_in.proofs.genome_file.read_genome.Goals as goal

pub returns-in-Err-Failed-clause-why : goal.returns-in-Err-Failed-clause-why
returns-in-Err-Failed-clause-why g c = unread (rw c.in-Err-Failed.field-0-is at c.in-Err-Failed.ensures.unfinished)

pub returns-in-Err-clause-why : goal.returns-in-Err-clause-why
returns-in-Err-clause-why g c = no_memory

pub returns-in-Some-clause-why : goal.returns-in-Some-clause-why
returns-in-Some-clause-why g c = odd c.in-Ok.text.items c.in-Some.why c.in-Ok.ensures.text (ap odd_in (sym c.as_slice.ensures.value) ∙ sym c.odd_in.ensures ∙ c.in-Some.is)

pub returns-in-Err-genome_in-clause-why : goal.returns-in-Err-genome_in-clause-why
returns-in-Err-genome_in-clause-why g c =
    subst (λ (why : Why). IsWhyOfGenome g.I.Source c.args.source why) (sym c.fault_why.ensures)
    (genome_at_fault g.I.Source c.args.source c.in-Ok.text.items c.in-Ok.ensures.text c.in-Err-genome_in.fault c.as_slice.result.now c.as_slice-in-None.result.now c.odd_in.result c.as_slice.ensures.value c.as_slice-in-None.ensures.value c.odd_in.ensures c.in-None.is c.in-Err-genome_in.ensures.wrong)
