use Rattle.bt_lines.proofs.Std.{ap, take_rest, ◌++◌, ◌∙◌}
use Rattle.bt_lines.proofs.lemmas.Writer.{always_err, front_filled, front_over, grows_both}
use Rattle.bt_lines.proofs.writer.output.put_blocks.Goals as goal

pub returns-in_err-send-clause-front : goal.returns-in_err-send-clause-front
returns-in_err-send-clause-front g c =
    always_err c.from_residual.result (front_filled _ _ c.args.held.now c.args.piece.now c.room-room.result (rw (← c.append.ensures) c.in_err-send.ensures.front))

pub returns-in_err-write_whole-clause-front : goal.returns-in_err-write_whole-clause-front
returns-in_err-write_whole-clause-front g c =
    always_err c.from_residual-in_err-write_whole.result (front_over c.args.held.now c.args.piece.now c.room-room.result _ _ _ _ _ (take_rest c.args.piece.now c.room-room.result) (c.in_ok-send.ensures.whole ∙ ap (λ l. g.K.Sink.took c.args.sink.now ++ l) c.append.ensures) c.in_err-write_whole.ensures.front)

pub returns-in_err-write_whole-clause-grows : goal.returns-in_err-write_whole-clause-grows
returns-in_err-write_whole-clause-grows g c = grows_both _ _ _ c.in_ok-send.ensures.grows c.write_whole.ensures.grows

pub returns-clause-grows : goal.returns-clause-grows
returns-clause-grows g c = grows_both _ _ _ c.in_ok-send.ensures.grows c.write_whole.ensures.grows
