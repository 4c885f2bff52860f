use Rattle.bt_lines.proofs.Std.{◌≤◌, length, arith, length-take-le}
use Rattle.bt_lines.proofs.lemmas.reader.block.FillLemmas.{before_feed, chunk_first, chunk_of, feed_behind, feed_first, none_behind}
use Rattle.bt_lines.proofs.reader.newline.line_length.Goals as goal

pub returns-in-Some-find_near : goal.returns-in-Some-find_near
returns-in-Some-find_near c =
    before_feed 10 c.args.text.now c.in-Some-find_near.at
    (feed_first 10 c.args.text.now _ 32 c.in-Some-find_near.at c.in-Some.ensures.cases.same c.in-Some.ensures.cases.enough c.in-Some-find_near.ensures)

pub overflow_add-result : goal.overflow_add-result
overflow_add-result c = grind (arith, (length-take-le 32 _ c.in-Some-first_chunk.ensures.cases.enough))

pub returns-in-Some-find_near-2 : goal.returns-in-Some-find_near-2
returns-in-Some-find_near-2 c =
    let text = c.args.text.now in
    let fits : 32 ≤ length text = c.in-Some.ensures.cases.enough in
    let clear = none_behind 10 text 0 (omega arith) (λ k d h. absurd (omega (arith, h))) _ 32 (chunk_first text _ 32 c.in-Some.ensures.cases.same fits) c.in_default-find_near.ensures in
    before_feed 10 text _ (feed_behind 10 text 32 fits clear _ 32 c.in-Some-find_near-2.at (chunk_of text 32 _ 32 c.in-Some-first_chunk.ensures.cases.same c.in-Some-first_chunk.ensures.cases.enough) c.in-Some-find_near-2.ensures)

pub late_length-requires-2-clause-clear : goal.late_length-requires-2-clause-clear
late_length-requires-2-clause-clear c =
    let text = c.args.text.now in
    let fits : 32 ≤ length text = c.in-Some.ensures.cases.enough in
    let clear = none_behind 10 text 0 (omega arith) (λ k d h. absurd (omega (arith, h))) _ 32 (chunk_first text _ 32 c.in-Some.ensures.cases.same fits) c.in_default-find_near.ensures in
    none_behind 10 text 32 fits clear _ 32 (chunk_of text 32 _ 32 c.in-Some-first_chunk.ensures.cases.same c.in-Some-first_chunk.ensures.cases.enough) c.in_default-find_near-2.ensures
