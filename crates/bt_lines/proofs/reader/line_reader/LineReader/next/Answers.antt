use Rattle.bt_lines.proofs.Std.{arith, ◌≡◌, ◌∙◌, ◌+◌, ◌∷◌, ◌++◌, Bool, None, Ok, Result, Some, ap, length, nat_lt, refl, sym, true}
use Rattle.bt_lines.proofs.lemmas.reader.block.BufferLemmas.{fed_clear, gone_front, gone_size}
use Rattle.bt_lines.proofs.lemmas.reader.block.FillLemmas.{is_made, next_by, passes_on, stops_by}
use Rattle.bt_lines.proofs.lemmas.reader.lines.BufferedLemmas.{are_fed, begins_first, cut_within, cuts_first, last_cut, quiet_cut, spaced_cut, text_within}
use Rattle.bt_lines.specs.calls.Line.{ending_at, line_shown}
use Rattle.bt_lines.specs.calls.Reader.{buffered_bytes, source_of}
use Rattle.bt_lines.specs.declared.fault.Fault.{Fault}
use Rattle.bt_lines.specs.inside.ReadBuffer.{complete, gone}
use Rattle.bt_lines.proofs.reader.line_reader.LineReader.next.Goals as goal

pub returns-in_err-fill : goal.returns-in_err-fill
returns-in_err-fill g c =
    let ensures = c.in_err-fill.ensures in
    let stops = stops_by g.S.Source c.args.self.now c.fill.new.self c.in_err-fill.field-0.0 ensures.fills ensures.memory in
    ((refl, λ reader. tt, passes_on g.S.Source c.args.self.now c.fill.new.self c.from_residual.result c.in_err-fill.field-0.0 c.from_residual.ensures.1 stops), record { after = tt })

pub returns-in_default : goal.returns-in_default
unfolding buffered_bytes
returns-in_default g c =
    let is : c.in_ok-fill.field-0 ≡ true = grind (arith, c.if-not-branch.false) in
    let made : ◌≡◌ {A = Result Bool Fault} c.fill.result (Ok true) = c.in_ok-fill.was ∙ ap Ok is in
    absurd (is_made g.S.Source c.args.self.now c.fill.new.self c.fill.result made c.fill.ensures.fills
    (fed_clear _ (are_fed c.fill.new.self.buffer).fed (begins_first c.buffered.result _ _ _ None c.buffered.ensures.begins c.in_default.ensures.cut)))

pub consume-requires : goal.consume-requires
unfolding buffered_bytes
consume-requires g c =
    let mid = c.fill.new.self in
    let cut = begins_first c.buffered.result _ _ _ (Some (line_shown c.in-Some.field-0)) c.buffered.ensures.begins c.in-Some.ensures.cut in
    cut_within _ _ cut

pub invariant_of-self : goal.invariant_of-self
unfolding buffered_bytes
invariant_of-self g c =
    let mid = c.fill.new.self in
    let cut = begins_first c.buffered.result _ _ _ (Some (line_shown c.in-Some.field-0)) c.buffered.ensures.begins c.in-Some.ensures.cut in
    let now = complete c.consume.new.self in
    let parts = cut.cut ∙ ap (λ l. cut.piece ++ 10 ∷ l) (sym c.consume.ensures.lines) in
    let fed = (are_fed c.consume.new.self).fed in
    record {
      counted = mid.counted;
      a_byte_each = spaced_cut mid.state now mid.lines cut.piece cut.clear parts c.consume.ensures.unread fed mid.last mid.quiet mid.a_byte_each;
      quiet = quiet_cut mid.state now mid.lines cut.piece cut.clear parts c.consume.ensures.unread fed mid.last mid.quiet mid.a_byte_each;
      last = last_cut mid.state now mid.lines cut.piece cut.clear parts c.consume.ensures.unread fed mid.last mid.quiet mid.a_byte_each;
    }

pub consumed-requires-clause-size : goal.consumed-requires-clause-size
unfolding buffered_bytes
consumed-requires-clause-size g c =
    let mid = c.fill.new.self in
    let cut = begins_first c.buffered.result _ _ _ (Some (line_shown c.in-Some.field-0)) c.buffered.ensures.begins c.in-Some.ensures.cut in
    gone_size _ (gone mid.buffer) (complete mid.buffer) c.in-Some.field-0.size c.consume.ensures.gone (cut_within _ _ cut)

pub returns : goal.returns
unfolding buffered_bytes source_of
returns g c =
    let mid = c.fill.new.self in
    let cut = begins_first c.buffered.result _ _ _ (Some (line_shown c.in-Some.field-0)) c.buffered.ensures.begins c.in-Some.ensures.cut in
    let is : c.in_ok-fill.field-0 ≡ true = grind (arith, c.if-not-branch.false) in
    let made : ◌≡◌ {A = Result Bool Fault} c.fill.result (Ok true) = c.in_ok-fill.was ∙ ap Ok is in
    let size = c.in-Some.field-0.size in
    let count = length c.in-Some.field-0.text.now in
    let text = c.consumed.ensures ∙ gone_front (gone c.consume.new.self) (gone mid.buffer) (complete mid.buffer) size c.consume.ensures.gone (cut_within _ _ cut) count (text_within _ _ cut) in
    let ending = c.ending_of-ending.ensures ∙ ap (λ b. ending_at b (nat_lt (count + 1) size)) c.is_open.ensures in (
      (
        refl,
        λ reader. tt,
        next_by g.S.Source c.args.self.now mid _ c.fill.result _ made c.fill.ensures.fills
            (cuts_first g.S.Source mid _ (mid.lines + 1) c.consumed.result.now c.ending_of-ending.result refl refl refl refl refl cut c.consume.ensures.lines c.consume.ensures.unread c.consume.ensures.spilled refl text ending),
      ),
      record { after = tt },
    )
