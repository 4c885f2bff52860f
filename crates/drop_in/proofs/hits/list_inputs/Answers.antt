use Rattle.bt_lines.proofs.Std.{ap, refl, subst, sym, ◌∙◌}
use Rattle.bt_bed.specs.model.Order.{byte_order, rank_order}
use Rattle.bt_bed.specs.calls.GenomeTable.{names_of}
use Rattle.drop_in.specs.calls.Hits.IsWhyOfHits.{no_memory, unkept}
use Rattle.drop_in.proofs.lemmas.HitLemmas.{if_ok, order_given, order_none, why_of_kept}
use Rattle.drop_in.proofs.hits.list_inputs.Goals as goal

pub returns-in-Err-clause-why : goal.returns-in-Err-clause-why
returns-in-Err-clause-why g c = unkept c.in-Err.ensures.why

pub returns-in-None-clause-lists : goal.returns-in-None-clause-lists
returns-in-None-clause-lists g c =
    if_ok c.list_by.result
    (λ listed lists. record {
      texts = c.in-Ok.texts;
      kept = c.in-Ok.ensures.keeps;
      order = byte_order;
      goes_by = order_none c.args.inputs.genome c.in-None.is;
      lists = lists;
    }) c.list_by.ensures.lists

pub returns-in-Ok-genome_in-clause-lists : goal.returns-in-Ok-genome_in-clause-lists
returns-in-Ok-genome_in-clause-lists g c =
    if_ok c.list_by-in-Ok-genome_in.result
    (λ listed lists. record {
      texts = c.in-Ok.texts;
      kept = c.in-Ok.ensures.keeps;
      order = rank_order (names_of c.in-Ok-genome_in.genome);
      goes_by = order_given c.args.inputs.genome c.in-Some.text c.as_slice.result.now c.in-Ok-genome_in.genome c.in-Some.is c.as_slice.ensures.value c.in-Ok-genome_in.ensures.reads;
      lists = lists;
    }) c.list_by-in-Ok-genome_in.ensures.lists

pub returns-in-None-clause-why : goal.returns-in-None-clause-why
returns-in-None-clause-why g c = why_of_kept g.I.Source c.args.inputs c.args.room c.in-Ok.texts c.in-Ok.ensures.keeps c.list_by.result c.list_by.ensures.why

pub returns-in-Ok-genome_in-clause-why : goal.returns-in-Ok-genome_in-clause-why
returns-in-Ok-genome_in-clause-why g c = why_of_kept g.I.Source c.args.inputs c.args.room c.in-Ok.texts c.in-Ok.ensures.keeps c.list_by-in-Ok-genome_in.result c.list_by-in-Ok-genome_in.ensures.why

pub returns-clause-why : goal.returns-clause-why
returns-clause-why g c = no_memory refl
