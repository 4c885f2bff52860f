use Rattle.bt_lines.proofs.Std.{◌≡◌, ◌∙◌, ◌+◌, ◌++◌, [], ap, append-nil, length, nil_from_length, sym}
use Rattle.bt_lines.specs.inside.ReadBuffer.{unread}
use Rattle.bt_lines.proofs.lemmas.reader.block.ReadsLemmas.{ends_once}
use Rattle.bt_lines.proofs.reader.spill.ask_more.Goals as goal

pub returns-in-Ok-eq0-clause-asks : goal.returns-in-Ok-eq0-clause-asks
returns-in-Ok-eq0-clause-asks g c =
    let got = c.in-Ok-eq0.ensures.bytes.1 in
    let none : got.0 ≡ [] = nil_from_length got.0 (sym got.1 ∙ c.in-Ok-eq0.field-0-test) in
    record {
      bytes = got.0;
      handed = ends_once g.S.Source.is_read c.args.source.now c.read_more.new.source got.0 none got.3;
      counted = ap (λ l. c.args.taken.now + length l) (sym none);
      within = c.requires.counted;
      came = (none, got.2 ∙ ap (λ l. unread c.args.buffer.now ++ l) none ∙ append-nil (unread c.args.buffer.now), c.in-Ok-eq0.ensures.served);
    }
