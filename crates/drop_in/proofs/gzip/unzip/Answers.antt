use Rattle.std.proofs.Common.{rules}
use Rattle.bt_lines.proofs.Std.{List, refl, subst, ℕ}
use Rattle.drop_in.specs.calls.Looks.{ReadsText}
use Rattle.drop_in.specs.calls.Looks.IsWhyUnzipped.{no_end, parts, text_unread, zipped_unread}
use Rattle.drop_in.proofs.gzip.unzip.Goals as goal

pub returns-in-Err-clause-leaves : goal.returns-in-Err-clause-leaves
returns-in-Err-clause-leaves g c = text_unread c.in-Err.cause c.in-Err.ensures.unfinished c.unread_why.ensures

pub returns-in-None-clause-leaves : goal.returns-in-None-clause-leaves
returns-in-None-clause-leaves g c = no_end c.in-Ok.bytes.items c.in-Ok.ensures.text c.in-None.ensures.cut refl

pub returns-in-Err-read_text-clause-leaves : goal.returns-in-Err-read_text-clause-leaves
returns-in-Err-read_text-clause-leaves g c = zipped_unread c.in-Err-read_text.cause c.in-Err-read_text.ensures.unfinished c.unread_why-in-Err-read_text.ensures

pub returns-else-is_one_part-clause-leaves : goal.returns-else-is_one_part-clause-leaves
returns-else-is_one_part-clause-leaves g c =
    parts c.in-Some.text.items c.in-Ok-read_text.zipped.items
    (subst (λ (bytes : List ℕ). ReadsText g.I.Source c.args.gzip.text bytes) c.in-Some.ensures.whole c.in-Ok.ensures.text)
    c.in-Ok-read_text.ensures.text (search rules) refl
