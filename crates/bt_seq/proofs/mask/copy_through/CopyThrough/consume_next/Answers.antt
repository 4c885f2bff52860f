use Rattle.bt_lines.proofs.Std.{◌∷◌, ◌∙◌, List, and_parts, ap, leb-true, nat_le, not, not-true, refl, sym}
use Rattle.bt_lines.specs.calls.Reader.{PassesLine, shown_text_line}
use Rattle.bt_lines.specs.calls.Line.{Shown, line_shown}
use Rattle.bt_lines.specs.model.Lines.{TextLine}
use Rattle.bt_seq.specs.model.Fasta.{is_sequence_header}
use Rattle.bt_seq.proofs.lemmas.mask.steps.CopyLemmas.{copied_line}
use Rattle.bt_seq.proofs.mask.copy_through.CopyThrough.consume_next.Goals as goal

pub returns-clause-consumed : goal.returns-clause-consumed
returns-clause-consumed c = λ e.
    let line : Shown = line_shown c.in-Some.field-0 in
    let old = c.args.self.now in
    let decided = and_parts (not (is_sequence_header line.text)) (nat_le c.up_to_limit-bases.result c.args.to) (sym c.is_decided_to.ensures ∙ c.if-not-is_decided_to.false) in
    let passes : PassesLine old.lines (shown_text_line old.lines line) c.consume.new.self = record {
      left_is = c.in-Some.ensures.some ∙ ap (λ (l : List TextLine). shown_text_line old.lines line ∷ l) (sym c.consume.ensures.left);
      all_is = c.consume.ensures.same.0;
      given = c.consume.ensures.lines;
      open_is = c.consume.ensures.same.1;
    } in (
      shown_text_line old.lines line,
      copied_line c.in-Some.ensures.cut c.requires passes c.consume.ensures.rest c.consume.ensures.at
          (not-true (is_sequence_header line.text) decided.0) refl c.up_to_limit-bases.ensures (leb-true c.up_to_limit-bases.result c.args.to decided.1),
    )
