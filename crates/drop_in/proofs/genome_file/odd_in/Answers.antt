use Rattle.bt_lines.proofs.Std.{◌≡◌, ◌<◌, ap, drop-drop, ◌+◌, ◌-◌, ◌∙◌, arith, drop, length, length-drop, List, ℕ, subst, sym, take, take_all}
use Rattle.drop_in.specs.calls.GenomeFiles.{odd_in}
use Rattle.drop_in.proofs.lemmas.OddLemmas.{odd_later, odd_never, odd_now}
use Rattle.drop_in.proofs.genome_file.odd_in.Goals as goal

pub returns-in-Some : goal.returns-in-Some
returns-in-Some c =
    sym (c.loop-why.invariant ∙ odd_now c.loop-why.rest.now c.length_before-count.result c.length_before-count.ensures c.odd_line.result c.in-Some.why c.odd_line.ensures c.in-Some.is)

pub returns-then-count-rest : goal.returns-then-count-rest
returns-then-count-rest c =
    sym (c.loop-why.invariant ∙ odd_never c.loop-why.rest.now c.length_before-count.result c.length_before-count.ensures c.odd_line.result c.odd_line.ensures c.in-None.is c.if-count-rest.true)

pub loop-why-preserved : goal.loop-why-preserved
loop-why-preserved c =
    let rest = c.loop-why.rest.now in
    let count = c.length_before-count.result in
    let behind = take (length rest - count) (drop count rest) in
    let all : behind ≡ drop count rest = take_all (length rest - count) (drop count rest) (omega (arith, length-drop count rest)) in
    let some : count < length rest = omega (arith, c.length_before-count.ensures.within, c.if-count-rest.false) in
    let next : take (length behind - 1) (drop 1 behind) ≡ drop (count + 1) rest = take_all (length behind - 1) (drop 1 behind) (omega (arith, length-drop 1 behind)) ∙ ap (drop 1) all ∙ drop-drop 1 count rest ∙ ap (λ k. drop k rest) (omega arith) in
    subst (λ (l : List ℕ). odd_in c.args.text.now ≡ odd_in l) (sym next)
    (c.loop-why.invariant ∙ odd_later rest count c.length_before-count.ensures c.odd_line.result c.odd_line.ensures c.in-None.is some)
