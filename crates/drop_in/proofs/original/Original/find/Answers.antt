use Rattle.bt_lines.proofs.Std.{arith, ◌+◌, All, All-nil, length, length-map, take, drop, take_all, subst, sym, string_bytes}
use Rattle.std.proofs.lemmas.Iterator.Consumers.{YieldsList-end, YieldsList-turn}
use Rattle.std.proofs.lemmas.Iterator.Splits.{YieldsList-from_str_split}
use Rattle.std.proofs.lemmas.List.{length_push}
use Rattle.bt_lines.specs.model.Lines.{pieces}
use Rattle.drop_in.specs.calls.Original.{IsPassed, name_in, names_on}
use Rattle.drop_in.specs.inside.Judged.{IsJudged}
use Rattle.drop_in.specs.declared.original.Judged.TheVariants.{Original, Unclear}
use Rattle.drop_in.proofs.lemmas.OriginalLemmas.{all_more, around, named}
use Rattle.drop_in.proofs.original.Original.find.Goals as goal

pub loop-folder-init : goal.loop-folder-init
loop-folder-init g c = All-nil _

pub returns-in-Original : goal.returns-in-Original
returns-in-Original g c =
    let at = YieldsList-turn (YieldsList-from_str_split 58 c.args.path.now (omega arith) (cc) (cc) (cc)) c.loop-folder.yielded _ c.loop-folder.yielded_by _ _ c.in-Some.folder c.in-Some.is c.next.ensures.steps in
    let name = string_bytes c.in_ok-name.name in
    let here = named (pieces 58 c.args.path.now) (length c.loop-folder.yielded) c.in-Some.folder.now name at.0 at.1 c.in_ok-name.ensures in
    let judged = subst (λ name. IsJudged g.P.Programs g.P.Program.Source c.args.programs.now c.args.tried.now name Original) c.as_str.ensures.value
    (subst (λ judged. IsJudged g.P.Programs g.P.Program.Source c.args.programs.now c.args.tried.now c.as_str.result.now judged) c.in-Original.is c.in_ok-judge.ensures) in (
      record {
        before = take (length c.loop-folder.yielded) (names_on c.args.path.now);
        after = drop (length c.loop-folder.yielded + 1) (names_on c.args.path.now);
        are = around (names_on c.args.path.now) (length c.loop-folder.yielded) name here.0 here.1;
        passed = c.loop-folder.invariant;
      },
      judged,
    )

pub returns-in-Unclear : goal.returns-in-Unclear
returns-in-Unclear g c =
    let at = YieldsList-turn (YieldsList-from_str_split 58 c.args.path.now (omega arith) (cc) (cc) (cc)) c.loop-folder.yielded _ c.loop-folder.yielded_by _ _ c.in-Some.folder c.in-Some.is c.next.ensures.steps in
    let name = string_bytes c.in_ok-name.name in
    let here = named (pieces 58 c.args.path.now) (length c.loop-folder.yielded) c.in-Some.folder.now name at.0 at.1 c.in_ok-name.ensures in
    let judged = subst (λ name. IsJudged g.P.Programs g.P.Program.Source c.args.programs.now c.args.tried.now name Unclear) c.as_str.ensures.value
    (subst (λ judged. IsJudged g.P.Programs g.P.Program.Source c.args.programs.now c.args.tried.now c.as_str.result.now judged) c.in-Unclear.is c.in_ok-judge.ensures) in (
      name,
      record {
        before = take (length c.loop-folder.yielded) (names_on c.args.path.now);
        after = drop (length c.loop-folder.yielded + 1) (names_on c.args.path.now);
        are = around (names_on c.args.path.now) (length c.loop-folder.yielded) name here.0 here.1;
        passed = c.loop-folder.invariant;
      },
      judged,
    )

pub loop-folder-preserved : goal.loop-folder-preserved
loop-folder-preserved g c =
    let at = YieldsList-turn (YieldsList-from_str_split 58 c.args.path.now (omega arith) (cc) (cc) (cc)) c.loop-folder.yielded _ c.loop-folder.yielded_by _ _ c.in-Some.folder c.in-Some.is c.next.ensures.steps in
    let name = string_bytes c.in_ok-name.name in
    let here = named (pieces 58 c.args.path.now) (length c.loop-folder.yielded) c.in-Some.folder.now name at.0 at.1 c.in_ok-name.ensures in
    let passes = IsPassed g.P.Programs g.P.Program.Source c.args.programs.now c.args.tried.now in
    let passed : passes name = subst passes c.as_str.ensures.value
    (subst (λ judged. IsJudged g.P.Programs g.P.Program.Source c.args.programs.now c.args.tried.now c.as_str.result.now judged) c.in-Passed.is c.in_ok-judge.ensures) in
    subst (λ n. All passes (take n (names_on c.args.path.now))) (sym (length_push c.loop-folder.yielded c.in-Some.folder))
    (all_more (names_on c.args.path.now) (length c.loop-folder.yielded) name here.0 here.1 passes c.loop-folder.invariant passed)

pub returns : goal.returns
returns g c =
    let ends = YieldsList-end (YieldsList-from_str_split 58 c.args.path.now (omega arith) (cc) (cc) (cc)) c.loop-folder.yielded _ c.loop-folder.yielded_by _ _ c.in-None.is c.next.ensures.steps in
    let passes = IsPassed g.P.Programs g.P.Program.Source c.args.programs.now c.args.tried.now in
    subst (All passes) (take_all (length c.loop-folder.yielded) (names_on c.args.path.now)
    (omega (arith, ends.1, length-map (pieces 58 c.args.path.now) name_in))) c.loop-folder.invariant
