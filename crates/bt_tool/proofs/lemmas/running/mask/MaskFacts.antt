-- The facts of masking that its report and its reading rest on.
use Rattle.bt_lines.proofs.Std.{◌≡◌, ℕ, suc, ◌<◌, ◌≤◌, Bool, true, false, List, [], ◌∷◌, ◌++◌, take, refl, sym, ap, ◌∙◌, subst, append-nil, append_assoc, inl, inr, Option, Some, None, Result, Err, cond, ◌⊎◌, ◌||◌, All, IfSome, IsTrue, list_all, or_left, or_right, All-head, All-tail, list_any-append, flat_map, option_to_list, is_none, and_from, flat_map-append, list_all-append, arith}
use Rattle.bt_lines.specs.model.Lines.{TextLine, bytes_in}
use Rattle.bt_bed.specs.model.Feature.{Feature}
use Rattle.bt_bed.specs.model.BedLine.{is_record_kind, record_of}
use Rattle.bt_bed.specs.model.Good.{Member, line_says, said_after}
use Rattle.bt_seq.specs.model.Masked.{line_decided, masked_line}
use Rattle.bt_seq.specs.model.Fasta.{SequenceLine}
use Rattle.bt_seq.specs.declared.mask.mask_how.MaskHow.{MaskHow}
use Rattle.bt_seq.proofs.lemmas.definitions.MaskPrefixLemmas.{decided_stays}
use Rattle.bt_tool.specs.model.Reaches.{bytes_up_to, last_line_needed, last_needed}
use Rattle.bt_tool.specs.model.TwoInputs.{is_mask_kind}
use Rattle.bt_tool.specs.inside.Feed.{member_items}
use Rattle.bt_tool.specs.inside.MaskLoop.{leaves_some_line, mask_join}
use Rattle.bt_tool.proofs.lemmas.running.pair.PairMet.{AreLimits}
use Rattle.bt_tool.proofs.lemmas.running.pair.PairNear.{AreNeeded, fault_least, least_by, not_all}
use Rattle.bt_lines.specs.declared.fault.Kind.{Kind}
use Rattle.bt_bed.specs.model.Sorted.{Locus, block_sorting}
use Rattle.bt_bed.proofs.lemmas.read.good.SaidLemmas.{wrong_is_of_record}
use Rattle.bt_lines.specs.model.Fault.{FaultValue}
use Rattle.bt_bed.specs.calls.Reading.{IsFaultBeyond, MemberReader}
use Rattle.bt_seq.specs.calls.MaskStage.{GoesOn, MayFollow, seen_at, MaskStage}
use Rattle.bt_tool.proofs.lemmas.running.pair.PairTurns.{all_or}
use Rattle.bt_tool.specs.inside.Pair.{MayCome, SettlesPair, item_ahead}

-- records that leave one of some lines undecided still do if there are fewer
fewer_leave : (lines : List SequenceLine) (records more : List Feature) → leaves_some_line lines (records ++ more) ≡ true → leaves_some_line lines records ≡ true
fewer_leave [] records more e = e
fewer_leave (line ∷ lines) records more e = grind (arith, decided_stays, fewer_leave lines records more)

-- none of these is the last one needed
needed_from : (lines : List SequenceLine) (before : List Feature) (past rest : List (Member Feature)) → (past ≡ []) ⊎ IsTrue (leaves_some_line lines (before ++ member_items past))
    → last_needed lines before (past ++ rest) ≡ last_needed lines (before ++ member_items past) rest
needed_from lines before [] rest h = ap (λ (l : List Feature). last_needed lines l rest) (sym (append-nil before))
needed_from lines before (m ∷ ms) rest (inl none) = cc
needed_from lines before (m ∷ ms) rest (inr some) =
    let parts : (before ++ m.item ∷ []) ++ member_items ms ≡ before ++ m.item ∷ member_items ms = append_assoc before (m.item ∷ []) (member_items ms) in
    grind (arith, (needed_from lines (before ++ m.item ∷ []) ms rest (inr (ap (leaves_some_line lines) parts ∙ some))), not_all, fewer_leave)

-- who leave one of some lines undecided, leave one of more
pub asked_of : (given extra : List SequenceLine) (records : List Feature) → IsTrue (leaves_some_line given records) → IsTrue (leaves_some_line (given ++ extra) records)
asked_of given extra records some = grind (arith, list_any-append)

none_taken : (past : List (Member Feature)) → member_items past ≡ [] → past ≡ []
none_taken [] e = refl
none_taken (m ∷ ms) e = cc

asked_by : (given extra : List SequenceLine) (past : List (Member Feature)) → (member_items past ≡ []) ⊎ IsTrue (leaves_some_line given (member_items past))
    → (past ≡ []) ⊎ IsTrue (leaves_some_line (given ++ extra) (member_items past))
asked_by given extra past (inl none) = inl (none_taken past none)
asked_by given extra past (inr some) = inr (grind (arith, list_any-append))

-- the last one needed is after the first lines
reaches_least : (on : List SequenceLine) (before : List Feature) (rest : List (Member Feature)) (fault : Option FaultValue) (lines : List TextLine) (count : ℕ) → All (λ m. count < m.line) rest
    → IfSome fault (IsFaultBeyond count) → bytes_in (take (suc count) lines) ≤ bytes_up_to lines (last_line_needed (last_needed on before rest) fault)
reaches_least on before [] fault lines count high beyond = fault_least fault lines count beyond
reaches_least on before (m ∷ ms) fault lines count high beyond =
    least_by (list_all (λ line. line_decided line (before ++ m.item ∷ [])) on) m (last_needed on (before ++ m.item ∷ []) ms) fault lines count (All-head (λ (m : Member Feature). count < m.line) m ms high)
    (reaches_least on (before ++ m.item ∷ []) ms fault lines count (All-tail (λ (m : Member Feature). count < m.line) m ms high) beyond)

-- what lines need lies after the records that were taken for them
pub mask_needs : (how : MaskHow) → AreNeeded (mask_join how)
mask_needs how given extra past rest fault lines count asked beyond =
    let same = needed_from (given ++ extra) [] past rest (asked_by given extra past asked) in
    subst (λ (o : Option (Member Feature)). bytes_in (take (suc count) lines) ≤ bytes_up_to lines (last_line_needed o fault)) (sym same) (reaches_least (given ++ extra) (member_items past) rest fault lines count beyond.members beyond.fault)

-- masking has no limit on what is held
pub mask_limits : (how : MaskHow) → AreLimits (mask_join how)
mask_limits how = record {
  more = λ given later past fits. tt;
  whole = λ first past fault fits. refl;
  keeps = λ first past ahead rest fault fits. (rest, refl);
  done = λ first past ahead rest fault fits ordered all. refl;
  ordered = λ first second ordered. ordered;
}

-- what is wrong with a record on its own
of_record : (kind : Kind) → is_record_kind kind ≡ true → is_mask_kind kind ≡ true
of_record kind e = grind arith

of_said : (last : Option Locus) (said : Result (Option Feature) Kind) (kind : Kind) → said_after block_sorting last said ≡ Err kind → ((k : Kind) → said ≡ Err k → is_mask_kind k ≡ true) → is_mask_kind kind ≡ true
of_said last said kind e h = grind arith

pub says_of_blocks : (last : Option Locus) (text : List ℕ) (kind : Kind) → line_says block_sorting last text ≡ Err kind → is_mask_kind kind ≡ true
unfolding line_says
says_of_blocks last text kind e = of_said last (record_of text) kind e (λ k said. of_record k (wrong_is_of_record text k (sym said)))

-- Lemmas on what lines and records that were given to a masking engine settle.

-- the first of some records
abbrev pub first_of : List Feature → Option Feature
first_of [] = None
first_of (r ∷ records) = Some r

pub ahead_first : {S State : Type 0} (reader : MemberReader S Feature State) → item_ahead reader ≡ first_of reader.buffered
ahead_first reader = grind arith

-- what may come after those that a reader has taken and the one ahead, follows what the engine has seen
module _ (stage : MaskStage) (next : Option Feature) (kept : (r : Feature) → stage.ahead ≡ Some r → next ≡ Some r) (over : stage.inputs.second_ended ≡ true → next ≡ None)
    (records : List Feature) (fault : Option FaultValue) (may : MayCome (stage.inputs.taken ++ option_to_list next) stage.inputs.second_ended records fault) where
  follows_by : (ended : Bool) (ahead : Option Feature) → stage.inputs.second_ended ≡ ended → stage.ahead ≡ ahead → MayFollow stage records
  follows_by true ahead e a = grind (arith, append-nil)
  follows_by false None e a =
      let seen : seen_at stage ≡ stage.inputs.taken = ap (λ (b : Bool). stage.inputs.taken ++ cond b [] (option_to_list stage.ahead)) e ∙ ap (λ (o : Option Feature). stage.inputs.taken ++ option_to_list o) a ∙ append-nil stage.inputs.taken in
      grind (arith, append_assoc)
  follows_by false (Some r) e a = grind arith

  pub may_follow : MayFollow stage records
  may_follow = follows_by stage.inputs.second_ended stage.ahead refl refl

-- what may come after more records may come after fewer
pub come_back : (old taken buffered : List Feature) (ended : Bool) (records : List Feature) (fault : Option FaultValue) → (ended ≡ true → taken ≡ []) → MayCome ((old ++ taken) ++ option_to_list (first_of buffered)) ended records fault
    → MayCome (old ++ option_to_list (first_of (taken ++ buffered))) ended records fault
come_back old [] buffered ended records fault none may = grind (arith, append-nil)
come_back old (x ∷ xs) buffered ended records fault none may = record {
  begins = (
    (xs ++ option_to_list (first_of buffered)) ++ may.begins.0,
    may.begins.1 ∙ ap (λ (l : List Feature). l ++ may.begins.0) (ap (λ (l : List Feature). l ++ option_to_list (first_of buffered)) (sym (append_assoc old (x ∷ []) xs)) ∙ append_assoc (old ++ x ∷ []) xs (option_to_list (first_of buffered)))
        ∙ append_assoc (old ++ x ∷ []) (xs ++ option_to_list (first_of buffered)) may.begins.0,
  );
  all = λ e. let gone : x ∷ xs ≡ [] = none e in cc;
}

module _ (how : MaskHow) (full : Bool) where
  -- the lines that are written now are settled with those before
  pub settles_given : {written : List SequenceLine} {bytes more : List ℕ} {stage new : MaskStage} {texts : List TextLine} {taken buffered : List Feature} → SettlesPair (mask_join how) written bytes (stage.inputs.taken ++ option_to_list (first_of (taken ++ buffered))) stage.inputs.second_ended
      → (goes : GoesOn how full stage texts taken new more) → (stage.inputs.second_ended ≡ true → (taken ≡ []) × (buffered ≡ [])) → ((r : Feature) → new.ahead ≡ Some r → first_of buffered ≡ Some r)
      → SettlesPair (mask_join how) (written ++ goes.newly) (bytes ++ more) ((stage.inputs.taken ++ taken) ++ option_to_list (first_of buffered)) stage.inputs.second_ended
  settles_given {written} {bytes} {stage} {new} {taken} {buffered} settles goes over kept = record {
    whatever = λ records fault ordered may.
        let was = settles.whatever records fault ordered (come_back stage.inputs.taken taken buffered stage.inputs.second_ended records fault (λ e. (over e).0) may) in
        let here : MayCome (new.inputs.taken ++ option_to_list (first_of buffered)) new.inputs.second_ended records fault =
        subst (λ (b : Bool). MayCome (new.inputs.taken ++ option_to_list (first_of buffered)) b records fault) (sym goes.follows.second_is)
        (subst (λ (l : List Feature). MayCome (l ++ option_to_list (first_of buffered)) stage.inputs.second_ended records fault) (sym goes.follows.taken_is) may) in
        let follow = may_follow new (first_of buffered) kept (λ e. ap first_of (over (sym goes.follows.second_is ∙ e)).1) records fault here in (
          list_all-append (λ x. is_none fault || line_decided x records) written goes.newly
              ∙ and_from (list_all (λ x. is_none fault || line_decided x records) written) (list_all (λ x. is_none fault || line_decided x records) goes.newly) was.0 (newly_by new.inputs.second_ended refl records fault here follow),
          flat_map-append (λ x. masked_line how records x) written goes.newly ∙ ap (λ l. l ++ flat_map (λ x. masked_line how records x) goes.newly) was.1
              ∙ ap (λ l. bytes ++ l) (goes.settles.bytes_are records ordered follow),
        );
  }
    where
      newly_by : (b : Bool) → new.inputs.second_ended ≡ b → (records : List Feature) (fault : Option FaultValue) → MayCome (new.inputs.taken ++ option_to_list (first_of buffered)) new.inputs.second_ended records fault → MayFollow new records
          → list_all (λ x. is_none fault || line_decided x records) goes.newly ≡ true
      newly_by true e records fault may follow = all_or (λ x. line_decided x records) (is_none fault) goes.newly (or_left (is_none fault) _ (ap is_none (may.all e).1))
      newly_by false e records fault may follow = all_or (λ x. line_decided x records) (is_none fault) goes.newly (or_right (is_none fault) _ (goes.settles.are_decided records follow e))
