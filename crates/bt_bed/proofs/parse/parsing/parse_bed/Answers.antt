use Rattle.bt_lines.proofs.Std.{ℕ, List, Err, ◌∙◌, sym, ap, arith, rules, err_from_is_err_and}
use Rattle.bt_lines.specs.declared.fault.Kind.TheVariants.{TooFewColumns}
use Rattle.bt_bed.proofs.lemmas.parse.FeatureLemmas.{taken_in_turn, taken_are_within, header_says, made_is_feature, made_is_said, said_by_columns}
use Rattle.bt_bed.specs.model.BedLine.{columns_say, strand_of}
use Rattle.bt_bed.specs.calls.Features.{columns_in}
use Rattle.bt_bed.proofs.parse.parsing.parse_bed.Goals as goal

pub returns-then-says_nothing-clause-said : goal.returns-then-says_nothing-clause-said
returns-then-says_nothing-clause-said c = sym (header_says c.args.text.now (sym c.if-says_nothing.ensures))

pub returns-in_default-next-clause-said : goal.returns-in_default-next-clause-said
returns-in_default-next-clause-said c = said_by_columns c.args.text.now (Err TooFewColumns) (sym c.if-says_nothing.ensures) (search rules)

pub returns-in_default-next-2-clause-said : goal.returns-in_default-next-2-clause-said
returns-in_default-next-2-clause-said c = said_by_columns c.args.text.now (Err TooFewColumns) (sym c.if-says_nothing.ensures) (search rules)

pub overflow_add-end-2 : goal.overflow_add-end-2
overflow_add-end-2 c =
    let within = taken_are_within _ _ _ _ c.args.text.now _ _ _ c.columns-columns.ensures
    c.in-Some.ensures.steps c.in-Some-next.ensures.steps c.in-Some-next-2.ensures.steps in
    omega arith

pub overflow_add-end-3 : goal.overflow_add-end-3
overflow_add-end-3 c =
    let within = taken_are_within _ _ _ _ c.args.text.now _ _ _ c.columns-columns.ensures
    c.in-Some.ensures.steps c.in-Some-next.ensures.steps c.in-Some-next-2.ensures.steps in
    omega arith

pub behind-rest-requires : goal.behind-rest-requires
behind-rest-requires c =
    let within = taken_are_within _ _ _ _ c.args.text.now _ _ _ c.columns-columns.ensures
    c.in-Some.ensures.steps c.in-Some-next.ensures.steps c.in-Some-next-2.ensures.steps in
    omega arith

pub kept_strand-strand-requires : goal.kept_strand-strand-requires
kept_strand-strand-requires c =
    let within = taken_are_within _ _ _ _ c.args.text.now _ _ _ c.columns-columns.ensures
    c.in-Some.ensures.steps c.in-Some-next.ensures.steps c.in-Some-next-2.ensures.steps in
    omega arith

pub returns-in_err-start-clause-said : goal.returns-in_err-start-clause-said
returns-in_err-start-clause-said c =
    let p = err_from_is_err_and c.from_residual.result c.from_residual.ensures.1 in
    let cut = taken_in_turn _ _ _ _ c.args.text.now _ _ _ c.columns-columns.ensures c.in-Some.ensures.steps c.in-Some-next.ensures.steps c.in-Some-next-2.ensures.steps in
    rw (p.1, p.2) (said_by_columns c.args.text.now (Err c.in_err-start.field-0.0) (sym c.if-says_nothing.ensures) (c.in_err-start.ensures _ ∙ sym (ap columns_say cut)))

pub invariant_of-result : goal.invariant_of-result
invariant_of-result c =
    let cut = taken_in_turn _ _ _ _ c.args.text.now _ _ _ c.columns-columns.ensures c.in-Some.ensures.steps c.in-Some-next.ensures.steps c.in-Some-next-2.ensures.steps in
    let said = made_is_feature _ _ _ _ _ _ _ _ cut (c.in_ok-start.ensures _)
    (c.kept_strand-strand.ensures ∙ ap (λ (l : List ℕ). strand_of (columns_in l))
    (sym c.behind-rest.ensures)) c.behind-rest.ensures in
    record { non_empty = said.non_empty; in_range = said.in_range; kept = said.kept }

pub returns-clause-said : goal.returns-clause-said
returns-clause-said c =
    let cut = taken_in_turn _ _ _ _ c.args.text.now _ _ _ c.columns-columns.ensures c.in-Some.ensures.steps c.in-Some-next.ensures.steps c.in-Some-next-2.ensures.steps in
    said_by_columns c.args.text.now _ (sym c.if-says_nothing.ensures)
    (made_is_said _ _ _ _ _ _ _ _ cut (c.in_ok-start.ensures _)
    (c.kept_strand-strand.ensures ∙ ap (λ (l : List ℕ). strand_of (columns_in l))
    (sym c.behind-rest.ensures)) c.behind-rest.ensures)
