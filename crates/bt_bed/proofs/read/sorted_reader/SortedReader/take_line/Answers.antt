use Rattle.bt_lines.proofs.Std.{◌≡◌, ◌∷◌, refl, sym, ◌∙◌}
use Rattle.bt_lines.proofs.lemmas.reader.lines.BufferedLemmas.{lines_taken}
use Rattle.bt_lines.proofs.lemmas.reader.lines.TakingLemmas.{some_buffered}
use Rattle.bt_lines.specs.calls.Reader.{lines_in, buffered_in as lines_buffered}
use Rattle.bt_lines.specs.calls.Line.{line_seen}
use Rattle.bt_bed.proofs.lemmas.read.batch.SortedReaderLemmas.{found_buffered, found_in_order, found_next, found_of, found_some, skipped_of}
use Rattle.bt_bed.specs.inside.OrderedLookahead.{name_in}
use Rattle.bt_bed.specs.calls.Bed.{run_of}
use Rattle.bt_bed.specs.calls.SortedReader.{buffered_in}
use Rattle.bt_bed.proofs.read.sorted_reader.SortedReader.take_line.Goals as goal

pub returns-then-has_next_in-clause-takes : goal.returns-then-has_next_in-clause-takes
unfolding buffered_in
returns-then-has_next_in-clause-takes g c =
    let sorting = g.Q.Sorted.sorting c.args.self.now.lookahead.rule in
    let lookahead = c.args.self.now.lookahead in
    let lines = lines_buffered c.args.self.now.reader in
    let next = found_next sorting lookahead (lines_in c.buffered-lines.result) c.requires.known (c.has_next_in.ensures c.if-has_next_in.true) in
    let first : lines ≡ next.line ∷ next.more = sym c.buffered-lines.ensures.lines ∙ next.lines_are in
    record {
      line = next.line;
      more = next.more;
      first = first;
      takes = record {
        r = next.found.r;
        says = next.found.says;
        same = refl;
        ahead = refl;
        more = run_of (name_in lookahead) next.found.r.start next.more;
        buffered = found_buffered sorting lookahead lookahead next.line next.more next.found.r next.found.says next.found.holds lines first;
        in_order = found_in_order sorting lookahead lookahead next.line next.more next.found.r next.found.says next.found.holds lines first;
      };
      keeps = record { rule = refl; last = refl };
    }

pub returns-in_default-clause-takes : goal.returns-in_default-clause-takes
returns-in_default-clause-takes g c = absurd (some_buffered c.args.self.now.reader c.requires.some (sym c.buffered-lines.ensures.lines ∙ c.in_default.ensures.none))

pub invariant_of-self-in-Ok-true : goal.invariant_of-self-in-Ok-true
invariant_of-self-in-Ok-true g c =
    let sorting = g.Q.Sorted.sorting c.args.self.now.lookahead.rule in
    let line = line_seen c.in-Some.line in
    let first : lines_buffered c.args.self.now.reader ≡ line ∷ lines_in c.next.new.self = sym c.buffered-lines.ensures.lines ∙ c.in-Some.ensures.some.left_is in
    let taken = rw c.in-Ok-true.field-0-test at c.in-Ok-true.ensures in
    let found = found_of sorting c.args.self.now.lookahead c.take_line.new.self c.in-Some.line.text.now taken in
    record {
      ahead = λ e. found_some sorting c.args.self.now.lookahead c.take_line.new.self line (lines_in c.next.new.self) found.r found.says found.holds (lines_buffered c.args.self.now.reader) first;
      going = λ e. c.requires.going;
    }

pub consume-requires : goal.consume-requires
consume-requires g c = (lines_taken c.args.self.now.reader c.buffered-lines.result c.next.new.self c.consumed-consumed.result 1 c.buffered-lines.ensures.begins c.in-Some.ensures.passes c.consumed-consumed.ensures).taken

pub consume-requires-in-Err : goal.consume-requires-in-Err
consume-requires-in-Err g c = (lines_taken c.args.self.now.reader c.buffered-lines.result c.next.new.self c.consumed-consumed.result 1 c.buffered-lines.ensures.begins c.in-Some.ensures.passes c.consumed-consumed.ensures).taken

pub returns-in-Ok-true-clause-takes : goal.returns-in-Ok-true-clause-takes
unfolding buffered_in
returns-in-Ok-true-clause-takes g c =
    let sorting = g.Q.Sorted.sorting c.args.self.now.lookahead.rule in
    let line = line_seen c.in-Some.line in
    let more = lines_in c.next.new.self in
    let lines = lines_buffered c.args.self.now.reader in
    let first : lines ≡ line ∷ more = sym c.buffered-lines.ensures.lines ∙ c.in-Some.ensures.some.left_is in
    let taken = rw c.in-Ok-true.field-0-test at c.in-Ok-true.ensures in
    let found = found_of sorting c.args.self.now.lookahead c.take_line.new.self c.in-Some.line.text.now taken in
    record {
      line = line;
      more = more;
      first = first;
      takes = record {
        r = found.r;
        says = found.says;
        same = refl;
        ahead = refl;
        more = run_of (name_in c.take_line.new.self) found.r.start more;
        buffered = found_buffered sorting c.args.self.now.lookahead c.take_line.new.self line more found.r found.says found.holds lines first;
        in_order = found_in_order sorting c.args.self.now.lookahead c.take_line.new.self line more found.r found.says found.holds lines first;
      };
      keeps = taken.keeps;
    }

pub returns-in-Ok-false-clause-takes : goal.returns-in-Ok-false-clause-takes
returns-in-Ok-false-clause-takes g c =
    let taken = rw c.in-Ok-false.field-0-test at c.in-Ok-false.ensures in
    record {
      line = line_seen c.in-Some.line;
      more = lines_in c.next.new.self;
      first = sym c.buffered-lines.ensures.lines ∙ c.in-Some.ensures.some.left_is;
      takes = record {
        says = skipped_of (g.Q.Sorted.sorting c.args.self.now.lookahead.rule) c.args.self.now.lookahead c.take_line.new.self c.in-Some.line.text.now taken;
        takes = record {
          consumed = c.consumed-consumed.result;
          are = lines_taken c.args.self.now.reader c.buffered-lines.result c.next.new.self c.consumed-consumed.result 1 c.buffered-lines.ensures.begins c.in-Some.ensures.passes c.consumed-consumed.ensures;
          takes = c.consume.ensures;
        };
        none = c.requires.none;
      };
      keeps = taken.keeps;
    }

pub returns-in-Err-clause-takes : goal.returns-in-Err-clause-takes
returns-in-Err-clause-takes g c =
    let lost = rw c.input.ensures at c.in-Err.ensures in
    record {
      line = line_seen c.in-Some.line;
      more = lines_in c.next.new.self;
      first = sym c.buffered-lines.ensures.lines ∙ c.in-Some.ensures.some.left_is;
      takes = record {
        cause = lost.0;
        elsewhere = lost.1;
        takes = record {
          consumed = c.consumed-consumed.result;
          are = lines_taken c.args.self.now.reader c.buffered-lines.result c.next.new.self c.consumed-consumed.result 1 c.buffered-lines.ensures.begins c.in-Some.ensures.passes c.consumed-consumed.ensures;
          takes = c.consume-in-Err.ensures;
        };
        none = c.requires.none;
      };
      keeps = lost.2;
    }
