use Rattle.bt_lines.proofs.lemmas.reader.lines.BufferedLemmas.{begins_lines, are_fed}
use Rattle.bt_lines.proofs.lemmas.reader.lines.TakingLemmas.{prefix_of}
use Rattle.bt_lines.specs.calls.Reader.{buffered_bytes, is_open, lines_given}
use Rattle.bt_lines.proofs.reader.line_reader.LineReader.buffered.Goals as goal

pub new-requires-clause-fed : goal.new-requires-clause-fed
new-requires-clause-fed g c = rw c.lines.ensures (are_fed c.args.self.now.buffer).fed

pub returns-clause-begins : goal.returns-clause-begins
unfolding buffered_bytes lines_given is_open
returns-clause-begins g c = rw (← c.lines.ensures, ← c.is_open.ensures) c.new.ensures.begins

pub returns-clause-lines : goal.returns-clause-lines
unfolding buffered_bytes lines_given is_open
returns-clause-lines g c = rw (← c.lines.ensures, ← c.is_open.ensures) (begins_lines c.new.result _ _ _ c.new.ensures.begins)

pub returns-clause-prefix : goal.returns-clause-prefix
returns-clause-prefix g c = prefix_of c.args.self.now
