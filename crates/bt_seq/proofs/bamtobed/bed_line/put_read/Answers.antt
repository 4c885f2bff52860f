use Rattle.bt_lines.proofs.Std.{common_steps, ◌≡◌, ◌++◌, ◌-◌, List, ℕ, append-nil, arith, length, replicate, take, drop, drop_all, length-drop, take_all, err_from_is_err_and, rules}
use Rattle.bt_seq.specs.inside.Sam.{marks, quality_text}
use Rattle.bt_seq.specs.calls.Sam.{alignment_lent}
use Rattle.bt_seq.proofs.lemmas.BamToBed.{read_cut, read_puts}
use Rattle.bt_seq.proofs.bamtobed.bed_line.put_read.Goals as goal

-- the piece is what was written
piece_is : (text before empty : List ℕ) (first from : ℕ) (front tail : List ℕ) → length text ≡ 28 → length empty ≡ 28 → drop first text ≡ front ++ drop from before → drop from before ≡ tail ++ drop 28 empty
    → take (28 - first) (drop first text) ≡ front ++ tail
piece_is text before empty first from front tail size none written is =
    grind (arith, (take_all (28 - first) (drop first text) (omega (arith, length-drop first text))), (drop_all 28 empty (omega (arith, none))), (append-nil tail))

pub returns-then-not-with_cigar : goal.returns-then-not-with_cigar
returns-then-not-with_cigar g c = grind (arith, common_steps, rules, piece_is)

pub returns-in_err-put_both : goal.returns-in_err-put_both
returns-in_err-put_both g c =
    let a = alignment_lent c.args.sam.now in
    let q = c.write_quality-quality in
    let m = c.write_marks-first in
    let p = err_from_is_err_and c.from_residual.result c.from_residual.ensures.1 in
    rw (p.1, p.2) (read_cut c.args.with_cigar a _ _ _ _ (piece_is m.new.text q.new.text (replicate 28 0) m.result q.result (marks a.first a.last) (quality_text c.args.with_cigar a) (omega arith) (omega arith) m.ensures.written q.ensures.written) c.in_err-put_both.ensures)

pub returns : goal.returns
returns g c =
    let a = alignment_lent c.args.sam.now in
    let q = c.write_quality-quality in
    let m = c.write_marks-first in
    read_puts c.args.with_cigar a _ _ _ _ c.put_column.result (piece_is m.new.text q.new.text (replicate 28 0) m.result q.result (marks a.first a.last) (quality_text c.args.with_cigar a) (omega arith) (omega arith) m.ensures.written q.ensures.written)
    c.if-not-with_cigar.false c.in_ok-put_both.ensures c.put_column.ensures
