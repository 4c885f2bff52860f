use Rattle.bt_lines.proofs.Std.{List, ap, arith, subst, sym, take, ℕ, ◌∙◌, ◌++◌, append-nil}
use Rattle.bt_lines.proofs.lemmas.reader.block.ReadsLemmas.{ends_once}
use Rattle.bt_lines.specs.calls.Device.{EndsAfter, begun}
use Rattle.bt_front.specs.calls.Stream.{kept_of, source_of}
use Rattle.drop_in.proofs.lemmas.KeptLemmas.{kept_last, kept_more, kept_unfinished}
use Rattle.drop_in.proofs.genome_file.read_text.Goals as goal

pub loop-init : goal.loop-init
loop-init g c = rw (c.new-keeping.ensures.kept, c.new-keeping.ensures.source) begun

pub loop-preserved : goal.loop-preserved
loop-preserved g c =
    kept_more g.S.Source.is_read c.args.source c.loop.keeping c.read.new.self (take c.in-Ok.field-0 c.read.new.block) c.loop.invariant (c.in-Ok.ensures.handed (omega (arith, c.read.auto.block)))

pub returns-in-Ok-eq0-clause-text : goal.returns-in-Ok-eq0-clause-text
returns-in-Ok-eq0-clause-text g c = record {
  after = source_of c.read.new.self;
  served = subst (λ (text : List ℕ). EndsAfter g.S.Source.is_read c.args.source text (source_of c.read.new.self)) (sym c.into_parts-source.ensures.kept)
      (kept_last g.S.Source.is_read c.args.source c.loop.keeping c.read.new.self (take c.in-Ok-eq0.field-0 c.read.new.block)
      (ap (λ count. take count c.read.new.block) c.in-Ok-eq0.field-0-test) c.loop.invariant (c.in-Ok-eq0.ensures.handed (omega (arith, c.read.auto.block))));
}

pub returns-in-Err-clause-unfinished : goal.returns-in-Err-clause-unfinished
returns-in-Err-clause-unfinished g c =
    kept_unfinished g.S.Source c.args.source c.loop.keeping c.read.new.self c.args.room c.why_unfinished.result c.loop.invariant (c.in-Err.ensures.handed (omega (arith, c.read.auto.block))) c.why_unfinished.ensures
