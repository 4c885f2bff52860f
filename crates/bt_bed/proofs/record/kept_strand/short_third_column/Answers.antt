use Rattle.bt_lines.proofs.Std.{List, ap, ap₂, length, ◌++◌, ◌-◌, ◌∙◌, ℕ}
use Rattle.std.proofs.lemmas.List.{drop-replicate}
use Rattle.bt_lines.specs.model.Lines.{pieces}
use Rattle.bt_bed.specs.model.BedLine.{strand_of}
use Rattle.bt_bed.proofs.lemmas.parse.StrandLemmas.{strand_before_tabs}
use Rattle.bt_bed.proofs.record.kept_strand.short_third_column.Goals as goal

pub returns : goal.returns
returns c =
    let text : List ℕ = c.args.text.now in
    c.third_column.ensures
    ∙ ap (λ bytes. strand_of (pieces 9 bytes)) (ap₂ (λ bytes tabs. bytes ++ tabs) c.copy_piece.ensures (drop-replicate (length text) 64 9))
    ∙ strand_before_tabs text (64 - length text)
