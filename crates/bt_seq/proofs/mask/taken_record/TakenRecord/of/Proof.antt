-- `of` is proved by hand, since it makes a value of a type with ghost data: the record that it is given.
use mathlib.Core.Path.{refl}
use mathlib.Core.List.{[], ◌∷◌}
use base.Fml.{Fml, ftrue}
use mir.Syntax.{named}
use mir.Val.{vptr, vstruct, vnil}
use types.Kit.{‵, raw, ◌⊛◌, ◌$◌, ◌∵◌, !, qed, move, keep, split, suffices, done}
use types.Run.{no_more, returns, enter}
use types.Part.{agg}
use types.ByLocal.{alloc_all, pass_all, free_all, look_at, sets}
use denote.Exit.{yes}
use denote.RattleType.{owns}
use denote.Ref.{shr_vals, shr_Tells}
use denote.Shadow.{pure_i}
use denote.Signature.{named_lft, plain, types_at}
use denote.Triple.Entry.{alive}
use denote.Triple.Walked.{says, stay_none_ref, Stays, walk_of, ends_at, Goes-none_ref}
use Rattle.std.proofs.raw_atomic.Walks.{proved}
use Rattle.bt_bed.specs.calls.Bed.{feature_lent}
use Rattle.bt_bed.specs.contracts.record.bed.BedRef as bed
use Rattle.bt_seq.specs.declared.mask.taken_record.TakenRecord.{TakenRecord}
use Rattle.bt_seq.specs.contracts.mask.taken_record.TakenRecord.of.Key.{name as key}
use Rattle.bt_seq.specs.contracts.mask.taken_record.TakenRecord.of as f
use Rattle.bt_seq.specs.contracts.mask.taken_record.TakenRecord as taken
use Rattle.bt_seq.proofs.mask.taken_record.TakenRecord.of.Statement.{statement}
use Rattle.bt_seq.proofs.mask.taken_record.TakenRecord.of.Code as code

abbrev stayed : Stays f.ended.signature.params f.ended.kept
stayed = (stay_none_ref (0 ∷ []) tt (plain (λ κs. bed.the_row (named_lft 2 1 tt κs))) yes, tt)

pub of_spec : {M : Type 1} → statement M
of_spec 𝓤 𝓛 𝓜 𝓡 wired =
    let c = f.clauses 𝓛 𝓜.mem 𝓡.returns in
    let W = walk_of 𝓛 f.ended stayed c in
    proved 𝓛 f.ended stayed c 𝓜 𝓡 (Goes-none_ref 𝓛 2 (0 ∷ []) tt (plain (λ κs. bed.the_row (named_lft 2 1 tt κs))) yes, tt)
    key code.function (code.unfolded 𝓤 𝓛.H 𝓜 𝓡 wired)
    (λ κs. (shr_vals, tt)) (λ κs. (shr_Tells (named 0) κs.0 (bed.the_row (named_lft 2 1 tt κs)), tt)) (λ κs qs bounds a _ are.
    let at = vptr a.0.ref_ptr.0 a.0.ref_ptr.1 in
    let passed : Fml = owns (types_at f.signature.params κs) a (at ∷ [], tt) in
    let y : W.Ghost = ((κs, qs, bounds, a, (at ∷ [], tt)), tt) in
    let it : TakenRecord = record { feature = feature_lent a.0.now } in
    qed 𝓛 ((raw (alive 𝓛 f.signature κs qs) ⊛ ‵ passed) ∷ ‵ ftrue ∷ []) ∵ split ! $ keep ! (0 ∷ 1 ∷ []) $
    enter ! _ _ _ _ _ $ alloc_all ! (λ l. pass_all ! refl ((tt, tt), tt) $
    sets ! (agg ! (no_more !)) refl (tt, tt) $
    returns ! (look_at ! 0 refl) $ free_all ! refl $
    suffices ! _ (ends_at 𝓛 f.ended stayed c y (vstruct vnil) it (tt, tt) (tt, tt)) $
    says ! refl $ pure_i ! (taken.the_row.own_val it (vstruct vnil ∷ [])) ((λ vss. (tt, tt)), tt) ((tt, (refl, tt)), tt) $
    move ! (1 ∷ 2 ∷ 0 ∷ []) $ done !))
