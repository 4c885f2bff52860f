use Rattle.bt_lines.proofs.Std.{arith, ◌∷◌, ◌++◌, ℕ, List, [], ap, filter, subst, ◌∙◌, nat_lt, err_from_is_err_and}
use Rattle.bt_bed.specs.model.Feature.{Feature}
use Rattle.bt_sweep.specs.calls.Sweeping.{Sweeping}
use Rattle.bt_sweep.proofs.lemmas.sweep.KeepLemmas.{cuts_off, writes_last, writes_more}
use Rattle.bt_sweep.proofs.sweep.state.State.write_up_to.Goals as goal

pub returns-in_err-write-clause-writes : goal.returns-in_err-write-clause-writes
returns-in_err-write-clause-writes g c =
    let e = err_from_is_err_and c.from_residual.result c.from_residual.ensures.1 in
    rw (e.1, e.2, c.write.ensures.cursor) (cuts_off c.loop-self.invariant.going (rw (← c.stop.ensures.is) c.loop-self-test.true) c.in_err-write.ensures.puts)

pub returns-in_default-clause-writes : goal.returns-in_default-clause-writes
returns-in_default-clause-writes g c = grind (arith, writes_last)

pub loop-self-preserved : goal.loop-self-preserved
loop-self-preserved g c =
    let same = c.in_ok-write.ensures.same in
    let r = g.A.Record.Record.feature c.in-Some.next in
    let given = subst (λ (x : g.row.A.Denot). g.A.Cursor.gives x (r ∷ []) c.next.new.self.cursor) c.write.ensures.cursor c.in-Some.ensures.some in
    let on = c.in-Some.ensures.on ∙ ap (λ (x : g.row.A.Denot). g.A.Cursor.name x) c.write.ensures.cursor ∙ c.loop-self.invariant.on ∙ c.requires.on in
    let more = writes_more c.loop-self.invariant.going c.in_ok-write.ensures.puts g.met.A.Cursor.gives_more r c.drop_ended.new.self c.next.new.self.cursor
    (rw (← c.stop.ensures.is) c.loop-self-test.true) given on
    (c.drop_ended.ensures ∙ ap (λ (s : Sweeping). record s { held = filter (λ (b : Feature). nat_lt c.start.result b.stop) s.held }) same
    ∙ ap (λ (n : ℕ). record c.loop-self.self { held = filter (λ (b : Feature). nat_lt n b.stop) c.loop-self.self.held }) c.start.ensures) in
    record {
      none = ap (λ (s : Sweeping). s.current) c.drop_ended.ensures ∙ ap (λ (s : Sweeping). s.current) same ∙ c.loop-self.invariant.none;
      phase = ap (λ (s : Sweeping). s.phase) c.drop_ended.ensures ∙ ap (λ (s : Sweeping). s.phase) same ∙ c.loop-self.invariant.phase;
      on = c.next.ensures.same ∙ ap (λ (x : g.row.A.Denot). g.A.Cursor.name x) c.write.ensures.cursor ∙ c.loop-self.invariant.on;
      line = c.in-Some.ensures.line ∙ ap (λ (l : List ℕ). l ++ g.A.Record.Record.raw c.in-Some.next) c.in_ok-write.ensures.line;
      quiet = λ needs. c.next.ensures.pending ∙ c.in_ok-write.ensures.quiet (rw (← ap (λ (s : Sweeping). s.shape) c.drop_ended.ensures ∙ ap (λ (s : Sweeping). s.shape) same) needs);
      going = rw c.next.ensures.pending more;
    }
