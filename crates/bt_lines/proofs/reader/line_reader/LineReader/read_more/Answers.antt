use Rattle.bt_lines.proofs.Std.{common_steps, arith}
use Rattle.bt_lines.proofs.Std.{◌∙◌, ◌++◌, ap, eqb, length, refl, sym, eqb-true, false≢true}
use Rattle.bt_lines.specs.calls.Reader.{fault_kept, input_of, lines_given}
use Rattle.bt_lines.specs.inside.ReadBuffer.{complete, unread}
use Rattle.bt_lines.proofs.lemmas.reader.lines.StepLemmas.{last_closed, last_going, last_of_none, quiet_going, spaced, spaced_fault, spaced_last, line_step, last_step, end_step, failed_step, long_step, refused_step}
use Rattle.bt_lines.proofs.lemmas.reader.block.ReadsLemmas.{some_is}
use Rattle.bt_lines.proofs.reader.line_reader.LineReader.read_more.Goals as goal

pub invariant_of-self : goal.invariant_of-self
invariant_of-self g c = grind (arith, common_steps, spaced, quiet_going, last_going)

pub invariant_of-self-in-End-2 : goal.invariant_of-self-in-End-2
invariant_of-self-in-End-2 g c =
    let old = c.args.self.now in
    let b = c.in-End.ensures.buffers in
    record {
      counted = b.within;
      a_byte_each = spaced_last old.lines (unread old.buffer) b.bytes c.requires.none b.counted old.state c.requires.going old.a_byte_each (complete c.read_lines.new.buffer) (unread c.read_lines.new.buffer) b.stopped.1;
      quiet = λ e. absurd (false≢true (sym e));
      last = last_closed (unread old.buffer ++ b.bytes) _ _ b.stopped.0 b.stopped.1 b.stopped.2;
    }

pub invariant_of-self-in-Failed : goal.invariant_of-self-in-Failed
invariant_of-self-in-Failed g c =
    let old = c.args.self.now in
    let b = c.in-Failed.ensures.buffers in
    record {
      counted = b.within;
      a_byte_each = spaced_fault old.lines (unread old.buffer) b.bytes c.requires.none b.counted c.requires.going old.a_byte_each _ b.stopped.4.0 b.stopped.1 b.stopped.4.1;
      quiet = λ e. b.stopped.1;
      last = last_of_none _ _;
    }

pub invariant_of-self-in-NoMemory : goal.invariant_of-self-in-NoMemory
invariant_of-self-in-NoMemory g c =
    let old = c.args.self.now in
    let b = c.in-NoMemory.ensures.buffers in
    record {
      counted = b.within;
      a_byte_each = spaced_fault old.lines (unread old.buffer) b.bytes c.requires.none b.counted c.requires.going old.a_byte_each _ b.stopped.0.0 b.stopped.1 b.stopped.0.2;
      quiet = λ e. b.stopped.1;
      last = last_of_none _ _;
    }

pub returns-in-LineFeed-clause-fills : goal.returns-in-LineFeed-clause-fills
returns-in-LineFeed-clause-fills g c =
    line_step c.args.self.now _ c.requires.going c.requires.none refl refl c.in-LineFeed.ensures.buffers refl c.requires.going

pub returns-in-End-clause-fills : goal.returns-in-End-clause-fills
returns-in-End-clause-fills g c =
    end_step c.args.self.now _ c.requires.going c.requires.none refl refl c.in-End.ensures.buffers refl (ap length (sym c.lines.ensures) ∙ eqb-true _ _ (sym c.if-is_empty.ensures)) refl

pub returns-in-End-2-clause-fills : goal.returns-in-End-2-clause-fills
returns-in-End-2-clause-fills g c =
    last_step c.args.self.now _ c.requires.going c.requires.none refl refl c.in-End.ensures.buffers refl
    (λ e. false≢true (c.if-is_empty.ensures ∙ ap (λ n. eqb n 0) (ap length c.lines.ensures ∙ e))) refl

pub returns-in-Failed-clause-fills : goal.returns-in-Failed-clause-fills
unfolding fault_kept input_of lines_given
returns-in-Failed-clause-fills g c =
    failed_step c.args.self.now _ c.requires.going c.requires.none refl refl c.in-Failed.ensures.buffers c.fault.result refl (sym (some_is _ _ c.fault.ensures)) refl

pub returns-in-TooLong-clause-fills : goal.returns-in-TooLong-clause-fills
unfolding fault_kept input_of lines_given
returns-in-TooLong-clause-fills g c =
    long_step c.args.self.now _ c.requires.going c.requires.none refl refl c.in-TooLong.ensures.buffers c.fault-in-TooLong.result refl (sym (some_is _ _ c.fault-in-TooLong.ensures)) refl

pub returns-in-NoMemory-clause-fills : goal.returns-in-NoMemory-clause-fills
unfolding fault_kept
returns-in-NoMemory-clause-fills g c =
    refused_step c.args.self.now _ c.requires.going c.requires.none refl refl c.in-NoMemory.ensures.buffers c.fault-in-NoMemory.result refl (sym (some_is _ _ c.fault-in-NoMemory.ensures)) refl
