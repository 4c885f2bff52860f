use Rattle.bt_lines.proofs.Std.{arith, [], ◌<◌, ◌∷◌, ℕ, ap, refl, subst, ◌∙◌, err_from_is_err_and}
use Rattle.bt_lines.specs.calls.Names.{fault_value}
use Rattle.bt_sweep.specs.inside.Joining.{LeavesOn, lines_pending, NeedsHit, has_room_in}
use Rattle.bt_sweep.specs.calls.Sweeping.{CannotHold, Sweeping}
use Rattle.bt_sweep.proofs.lemmas.sweep.JoinLemmas.{breaks_take, breaks_write, joins_first, joins_past, joins_take, joins_write, leaves_none}
use Rattle.bt_sweep.proofs.sweep.state.State.join_pending.Goals.{else-stop-start-via-then-stop-start+in_ok-write_up_to+else-not-branch, else-stop-start-via-else-stop-start}
use Rattle.bt_sweep.proofs.sweep.state.State.join_pending.Goals as goal

pub loop-next-init : goal.loop-next-init
loop-next-init g c = record {
  none = c.requires.none;
  phase = refl;
  on = refl;
  line = c.requires.line;
  quiet = c.requires.quiet;
  beside = refl;
  same = refl;
  going = joins_first g.met.A.Cursor.gives_none g.met.B.Cursor.gives_none LeavesOn (λ order total known. refl) (λ order total known. leaves_none order [] (g.A.Record.Record.feature c.args.first) refl) c.requires.hits;
}

pub returns-in_err-write_up_to-clause-joins : goal.returns-in_err-write_up_to-clause-joins
returns-in_err-write_up_to-clause-joins g c =
    let inv = c.loop-next.invariant in
    let rest = lines_pending c.write_up_to.new.firsts in
    let gives_b = subst (λ (x : g.row.B.Denot). g.B.Cursor.gives x ((g.B.Record.Record.feature c.in-Some.next) ∷ []) c.next.new.self) inv.same c.in-Some.ensures.some in
    let e = err_from_is_err_and c.from_residual.result c.from_residual.ensures.1 in
    let cut = rw c.start-then-stop-start.ensures at c.in_err-write_up_to.ensures.writes in
    rw (e.1, e.2) (breaks_write inv.going.0 gives_b (c.in-Some.ensures.on ∙ inv.beside ∙ c.requires.beside) g.met.A.Cursor.gives_more inv.going.1 rest cut)

pub returns-then-not-branch-clause-joins : goal.returns-then-not-branch-clause-joins
returns-then-not-branch-clause-joins g c =
    let inv = c.loop-next.invariant in
    let gives_b = subst (λ (x : g.row.B.Denot). g.B.Cursor.gives x ((g.B.Record.Record.feature c.in-Some.next) ∷ []) c.next.new.self) inv.same c.in-Some.ensures.some in
    let w = rw (c.start-then-stop-start.ensures, c.if-not-branch.true) at c.in_ok-write_up_to.ensures.writes in
    ((joins_write inv.going.0 gives_b (c.in-Some.ensures.on ∙ inv.beside ∙ c.requires.beside) g.met.A.Cursor.gives_more inv.going.1 w.0).0, w.1, tt)

pub returns-in_err-take-clause-joins : goal.returns-in_err-take-clause-joins
returns-in_err-take-clause-joins g c =
    let inv = c.loop-next.invariant in
    let past = c.else-stop-start in
    let rest = lines_pending past.firsts in
    let b = g.B.Record.Record.feature c.in-Some.next in
    let cur2 = g.A.Record.Record.feature past.current in
    let gives_b = subst (λ (x : g.row.B.Denot). g.B.Cursor.gives x (b ∷ []) c.next.new.self) inv.same c.in-Some.ensures.some in
    let on = c.in-Some.ensures.on ∙ inv.beside ∙ c.requires.beside in
    let j = joins_past inv.going.0 gives_b on g.met.A.Cursor.gives_more inv.going.1 g.met.A.Cursor.gives_none past.self past.firsts.cursor rest past.out.output cur2
    (elim past.branch [
      | else-stop-start-via-then-stop-start+in_ok-write_up_to+else-not-branch w ↦ grind arith
      | else-stop-start-via-else-stop-start w ↦ grind arith
    ]) in
    let before_end : b.start < cur2.stop = elim past.branch [
      | else-stop-start-via-then-stop-start+in_ok-write_up_to+else-not-branch w ↦ rw (w.current-is) (rw (w.start-then-stop-start.ensures, w.if-not-branch.false) at w.in_ok-write_up_to.ensures.writes).1.0
      | else-stop-start-via-else-stop-start w ↦ rw w.current-is (rw (c.start.ensures, c.stop.ensures.is) at w.if-stop-start.false)
    ] in
    let e = err_from_is_err_and c.from_residual-in_err-take.result c.from_residual-in_err-take.ensures.1 in
    let lacks = c.in_err-take.ensures.takes in
    rw (e.1, e.2)
    (breaks_take j.0 gives_b on j.1 before_end
    c.in_err-take.field-0.0 lacks.1 (subst (λ (n : ℕ). CannotHold (has_room_in past.self) n (fault_value c.in_err-take.field-0.0)) c.line.ensures lacks.2))

pub loop-next-preserved : goal.loop-next-preserved
loop-next-preserved g c =
    let inv = c.loop-next.invariant in
    let past = c.else-stop-start in
    let rest = lines_pending past.firsts in
    let b = g.B.Record.Record.feature c.in-Some.next in
    let cur2 = g.A.Record.Record.feature past.current in
    let gives_b = subst (λ (x : g.row.B.Denot). g.B.Cursor.gives x (b ∷ []) c.next.new.self) inv.same c.in-Some.ensures.some in
    let on = c.in-Some.ensures.on ∙ inv.beside ∙ c.requires.beside in
    let j = joins_past inv.going.0 gives_b on g.met.A.Cursor.gives_more inv.going.1 g.met.A.Cursor.gives_none past.self past.firsts.cursor rest past.out.output cur2
    (elim past.branch [
      | else-stop-start-via-then-stop-start+in_ok-write_up_to+else-not-branch w ↦ grind arith
      | else-stop-start-via-else-stop-start w ↦ grind arith
    ]) in
    let before_end : b.start < cur2.stop = elim past.branch [
      | else-stop-start-via-then-stop-start+in_ok-write_up_to+else-not-branch w ↦ rw (w.current-is) (rw (w.start-then-stop-start.ensures, w.if-not-branch.false) at w.in_ok-write_up_to.ensures.writes).1.0
      | else-stop-start-via-else-stop-start w ↦ rw w.current-is (rw (c.start.ensures, c.stop.ensures.is) at w.if-stop-start.false)
    ] in
    let takes = c.in_ok-take.ensures.takes in
    record {
      none = ap (λ (s : Sweeping). s.current) takes.0 ∙ elim past.branch [
        | else-stop-start-via-then-stop-start+in_ok-write_up_to+else-not-branch w ↦ ap (λ (s : Sweeping). s.current) w.self-is ∙ w.write_up_to.ensures.none
        | else-stop-start-via-else-stop-start w ↦ ap (λ (s : Sweeping). s.current) w.self-is ∙ inv.none
      ];
      phase = ap (λ (s : Sweeping). s.phase) takes.0 ∙ elim past.branch [
        | else-stop-start-via-then-stop-start+in_ok-write_up_to+else-not-branch w ↦ ap (λ (s : Sweeping). s.phase) w.self-is ∙ w.in_ok-write_up_to.ensures.phase ∙ inv.phase
        | else-stop-start-via-else-stop-start w ↦ ap (λ (s : Sweeping). s.phase) w.self-is ∙ inv.phase
      ];
      on = elim past.branch [
        | else-stop-start-via-then-stop-start+in_ok-write_up_to+else-not-branch w ↦ ap (λ f. g.A.Cursor.name f.cursor) w.firsts-is ∙ w.write_up_to.ensures.on ∙ inv.on
        | else-stop-start-via-else-stop-start w ↦ ap (λ f. g.A.Cursor.name f.cursor) w.firsts-is ∙ inv.on
      ];
      line = elim past.branch [
        | else-stop-start-via-then-stop-start+in_ok-write_up_to+else-not-branch w ↦ rw (w.firsts-is, w.current-is) (w.in_ok-write_up_to.ensures.line w.if-not-branch.false)
        | else-stop-start-via-else-stop-start w ↦ rw (w.firsts-is, w.current-is) inv.line
      ];
      quiet = λ needs. elim past.branch [
        | else-stop-start-via-then-stop-start+in_ok-write_up_to+else-not-branch w ↦ rw w.firsts-is (w.in_ok-write_up_to.ensures.quiet (subst NeedsHit (ap (λ (s : Sweeping). s.shape) takes.0 ∙ ap (λ (s : Sweeping). s.shape) w.self-is) needs))
        | else-stop-start-via-else-stop-start w ↦ rw w.firsts-is (inv.quiet (subst NeedsHit (ap (λ (s : Sweeping). s.shape) takes.0 ∙ ap (λ (s : Sweeping). s.shape) w.self-is) needs))
      ];
      beside = c.next.ensures.same ∙ inv.beside;
      same = refl;
      going = joins_take j.0 gives_b on j.1 before_end g.met.B.Cursor.gives_more c.take.new.self takes.0 takes.1 c.in_ok-take.ensures.hits;
    }

pub returns-clause-joins : goal.returns-clause-joins
returns-clause-joins g c =
    let inv = c.loop-next.invariant in
    (inv.going.0, subst (λ (x : g.row.B.Denot). g.B.Cursor.has_ended x) inv.same c.in_default.ensures.none, inv.going.2)
