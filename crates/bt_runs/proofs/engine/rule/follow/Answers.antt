use Rattle.bt_lines.proofs.Std.{common_steps, arith, ◌∙◌, refl, subst, sym}
use Rattle.bt_runs.proofs.lemmas.Engine.{follows, follows_on, follows_up_to}
use Rattle.bt_runs.proofs.engine.rule.follow.Goals as goal

pub returns-in-Err : goal.returns-in-Err
returns-in-Err g c = record {
  mid = _;
  before = _;
  through = _;
  takes = record { records = _; given = g.met.C.Cursor.gives_none c.args.records.now; each = (refl, refl) };
  r = _;
  given = c.in-Some.ensures.some;
  fails = c.in-Err.ensures.enters _ (c.in-Some.ensures.on ∙ sym c.chrom.ensures);
}

pub loop-fault-init : goal.loop-fault-init
loop-fault-init g c = record {
  following = rw c.on_chrom-on.ensures (record {
    mid = _;
    before = _;
    through = _;
    takes = record { records = _; given = g.met.C.Cursor.gives_none c.args.records.now; each = (refl, refl) };
    next = c.in-Some.ensures.some;
    on = c.in-Some.ensures.on;
    entered = subst (g.E.Rule.definition.is_on c.enter.new.self) c.chrom.ensures c.in_default-enter.ensures.on;
    does_so = λ result next later d. c.in_default-enter.ensures.enters _ (c.in-Some.ensures.on ∙ sym c.chrom.ensures) result next later d.does;
  });
  same_name = c.in-Some.ensures.same;
}

pub returns-in-Err-step : goal.returns-in-Err-step
returns-in-Err-step g c =
    let step = c.in-Err-step.ensures in
    grind (arith, (follows_up_to c.loop-fault.invariant.following {new = g.E.Rule.with_on c.step.new.self c.step.new.on} {later = c.step.new.out.output} {fault = c.in-Err-step.fault} (record { does = step.does; fits = step.fits })))

pub loop-fault-preserved : goal.loop-fault-preserved
loop-fault-preserved g c =
    let f = c.loop-fault.invariant.following in
    let name = c.loop-fault.invariant.same_name in
    let step = c.in_default-step.ensures in
    record {
      following = follows_on f g.met.C.Cursor.gives_more (record { does = step.does; fits = step.fits })
          (subst (g.E.Rule.definition.is_on (g.E.Rule.with_on c.step.new.self c.step.new.on)) f.on step.on) c.in-Some-next.ensures.some (c.in-Some-next.ensures.on ∙ name);
      same_name = c.in-Some-next.ensures.same ∙ name;
    }

pub returns : goal.returns
returns g c =
    let step = c.in_default-step.ensures in
    grind (arith, (follows c.loop-fault.invariant.following g.met.C.Cursor.gives_more (record { does = step.does; fits = step.fits })))
