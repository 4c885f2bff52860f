use Rattle.bt_lines.proofs.Std.{◌++◌, ap₂, length}
use Rattle.std.proofs.lemmas.List.{drop-replicate}
use Rattle.bt_lines.proofs.reader.newline.padded.Goals as goal

pub returns-then-not-is_empty : goal.returns-then-not-is_empty
returns-then-not-is_empty c = ap₂ (λ text rest. text ++ rest) c.copy_short.ensures (drop-replicate (length c.args.bytes.now) 32 c.args.other)
