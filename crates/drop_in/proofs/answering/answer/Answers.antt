use Rattle.bt_lines.proofs.Std.{sym, ◌∙◌}
use Rattle.drop_in.specs.calls.Call.{asked_by, entries_if, survey_if}
use Rattle.drop_in.proofs.lemmas.HitLemmas.{answers_listed}
use Rattle.drop_in.proofs.lemmas.TakenLemmas.{taken_has_survey}
use Rattle.drop_in.proofs.answering.answer.Goals as goal

pub run_inputs-finished-requires : goal.run_inputs-finished-requires
run_inputs-finished-requires g c =
    let looked = c.in-Ok.ensures.looks.looks in
    λ has. taken_has_survey (asked_by c.args.request) looked.first.survey (survey_if looked.second) (entries_if looked.given) looked.taken.order.order looked.taken.order.verdict

pub returns-then-orders_hits : goal.returns-then-orders_hits
returns-then-orders_hits g c =
    answers_listed g.F.Files g.I.Source g.F.Output.Sink c.args.files c.look.new.files c.list_taken.result.1 c.args.request c.args.ways c.args.room c.in-Ok.inputs c.list_taken.result.0
    c.in-Ok.ensures.looks (sym c.orders_hits.ensures ∙ c.if-orders_hits.true) c.list_taken.ensures

pub returns-else-orders_hits : goal.returns-else-orders_hits
returns-else-orders_hits g c = record {
  inputs = c.in-Ok.inputs;
  between = c.look.new.files;
  looked = c.in-Ok.ensures.looks;
  hits = sym c.orders_hits.ensures ∙ c.if-orders_hits.false;
  ran = c.run_inputs-finished.ensures;
}
