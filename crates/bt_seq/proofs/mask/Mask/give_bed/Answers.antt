use Rattle.bt_lines.proofs.Std.{◌∙◌, ap, subst, sym, err_from_is_err_and}
use Rattle.bt_bed.specs.calls.Bed.{feature_lent}
use Rattle.bt_seq.proofs.lemmas.mask.steps.BedStepLemmas.{checks_bed, lacks_sequence}
use Rattle.bt_seq.proofs.lemmas.mask.steps.CopyLemmas.{stays_at}
use Rattle.bt_seq.proofs.mask.Mask.give_bed.Goals as goal
use Rattle.bt_seq.specs.calls.MaskSteps.{MaskMovesTo}
use Rattle.bt_seq.specs.calls.MaskState.{Masking}

pub returns-in_err-check_bed-clause-none_waits : goal.returns-in_err-check_bed-clause-none_waits
returns-in_err-check_bed-clause-none_waits g c = λ stage stands none next.
    let at = subst (λ (m : Masking). MaskMovesTo c.args.self.now.how c.args.self.now.full stage m) (sym c.self.view_is) (stays_at stage c.args.self.now stands) in
    let p = err_from_is_err_and c.from_residual.result c.from_residual.ensures.1 in
    rw (p.1, p.2) (
      c.in_err-check_bed.ensures.2,
      lacks_sequence c.args.self.now.how c.args.self.now.full stage none c.self.inside.state at (ap (λ (m : Masking). m.want) c.self.view_is ∙ c.requires) (feature_lent c.args.bed.now) c.args.bed.now.in_range next
          c.args.line c.args.out.now.output c.in_err-check_bed.field-0.0 c.in_err-check_bed.ensures.0 c.in_err-check_bed.ensures.1,
    )

pub returns-clause-none_waits : goal.returns-clause-none_waits
returns-clause-none_waits g c = λ stage stands none next.
    let at = subst (λ (m : Masking). MaskMovesTo c.args.self.now.how c.args.self.now.full stage m) (sym c.self.view_is) (stays_at stage c.args.self.now stands) in
    checks_bed c.args.self.now.how c.args.self.now.full stage none c.self.inside.state at (ap (λ (m : Masking). m.want) c.self.view_is ∙ c.requires) (feature_lent c.args.bed.now) c.args.bed.now.in_range next
    c.args.line c.args.out.now.output c.check_bed.new.self c.in_ok-check_bed.ensures.0 c.in_ok-check_bed.ensures.1
