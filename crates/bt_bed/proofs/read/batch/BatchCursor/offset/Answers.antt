use Rattle.bt_lines.proofs.Std.{◌∙◌, sym, length-take-le}
use Rattle.bt_bed.specs.calls.Batch.{consumed_in}
use Rattle.bt_bed.proofs.read.batch.BatchCursor.offset.Goals as goal

pub returns : goal.returns
unfolding consumed_in
returns c = c.offset.ensures ∙ sym (length-take-le c.args.self.now.lines.at c.args.self.now.lines.all.now c.args.self.now.lines.within)
