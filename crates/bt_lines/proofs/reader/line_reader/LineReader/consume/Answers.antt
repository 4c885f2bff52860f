use Rattle.bt_lines.proofs.Std.{refl}
use Rattle.bt_lines.proofs.lemmas.reader.lines.BufferedLemmas.{are_fed}
use Rattle.bt_lines.proofs.lemmas.reader.lines.TakingLemmas.{last_taken, quiet_taken, spaced_taken, takes_lines}
use Rattle.bt_lines.specs.inside.ReadBuffer.{complete, unread}
use Rattle.bt_lines.specs.calls.Reader.{buffered_bytes, lines_given}
use Rattle.bt_lines.proofs.reader.line_reader.LineReader.consume.Goals as goal

pub invariant_of-self : goal.invariant_of-self
unfolding buffered_bytes lines_given
invariant_of-self g c =
    let old = c.args.self.now in
    let lines = complete old.buffer in
    let rest = unread old.buffer in
    let count = c.args.consumed.bytes in
    let fed = (are_fed old.buffer).fed in
    record {
      counted = old.counted;
      a_byte_each = rw (c.consume.ensures.lines, c.consume.ensures.unread, c.requires.lines) (spaced_taken old.state lines rest old.lines old.taken count c.requires.within fed c.requires.fed old.last old.quiet old.a_byte_each);
      quiet = rw c.consume.ensures.lines (quiet_taken old.state lines rest old.lines old.taken count c.requires.within fed c.requires.fed old.last old.quiet old.a_byte_each);
      last = rw (c.consume.ensures.lines, c.consume.ensures.unread) (last_taken old.state lines rest old.lines old.taken count c.requires.within fed c.requires.fed old.last old.quiet old.a_byte_each);
    }

pub consume-requires : goal.consume-requires
unfolding buffered_bytes
consume-requires g c = c.requires.within

pub returns : goal.returns
unfolding buffered_bytes lines_given
returns g c = takes_lines g.S.Source c.args.self.now _ c.args.consumed refl (record {
  state = refl;
  source = refl;
  input = refl;
  taken = refl;
  more = c.requires.lines;
  lines = c.consume.ensures.lines;
  behind = c.consume.ensures.unread;
  spilled = c.consume.ensures.spilled;
  within = c.requires.within;
  fed = c.requires.fed;
})
