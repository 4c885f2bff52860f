use Rattle.bt_lines.proofs.Std.{Bool, None, Some, ap, if◌then◌else◌, sym, ◌∙◌}
use Rattle.bt_front.specs.declared.survey.oddity.Oddity.TheVariants.{Blank}
use Rattle.bt_front.proofs.lemmas.survey.WatchLaws.{ends}
use Rattle.bt_front.proofs.survey.byte_watch.ByteWatch.finish.Goals as goal

pub returns-then-is_only_return : goal.returns-then-is_only_return
returns-then-is_only_return c = λ before shows.
    ends before c.args.self.now _ shows (sym (ap (λ (t : Bool). if t then Some Blank else None) (sym c.is_only_return.ensures ∙ c.if-is_only_return.true)))

pub returns-else-is_only_return : goal.returns-else-is_only_return
returns-else-is_only_return c = λ before shows.
    ends before c.args.self.now _ shows (sym (ap (λ (t : Bool). if t then Some Blank else None) (sym c.is_only_return.ensures ∙ c.if-is_only_return.false)))
