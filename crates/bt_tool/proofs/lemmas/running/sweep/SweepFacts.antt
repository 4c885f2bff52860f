-- The facts of a sweep that its report and its reading rest on.
use Rattle.bt_lines.proofs.Std.{◌≡◌, ap, ℕ, Option, suc, ◌<◌, ◌≤◌, not, List, [], ◌∷◌, ◌++◌, take, refl, sym, ◌∙◌, subst, ◌+◌, Bool, true, false, cond, Some, None, arith, append_assoc, append-nil, filter, length, length-append, option_to_list, ◌||◌, inl, inr, All, IsTrue, IfSome, is_none, list_all, list_any, and_from, or_left, and_parts, false≢true, le-ltb, lt-ltb, ltb-false, or_right, cases_Bool, All-head, All-tail, filter-append, list_any-append, list_all-append, map-append}
use Rattle.bt_lines.specs.model.Lines.{TextLine, bytes_in}
use Rattle.bt_bed.specs.model.Feature.{Feature, intervals_of}
use Rattle.bt_bed.specs.model.BedLine.{fault_at_line}
use Rattle.bt_bed.specs.model.Good.{Member, Good, items_in}
use Rattle.bt_bed.specs.model.Order.{Order}
use Rattle.bt_bed.specs.calls.Orders.{IsTotal, ArePlaced}
use Rattle.bt_sweep.specs.model.Hits.{decides, decided, are_too_many, up_to_too_many, is_held, within_limit}
use Rattle.bt_sweep.specs.calls.Sweeping.{leaves_some, Settles, AreDecided, TakenEach, has_room}
use Rattle.bt_sweep.specs.declared.hits.hit_rule.HitRule.{HitRule}
use Rattle.bt_sweep.specs.declared.output.shape.Shape.{Shape}
use Rattle.bt_tool.specs.declared.loops.sweeping.SweepConfig.{SweepConfig}
use Rattle.bt_tool.specs.model.Reaches.{bytes_up_to, decider, last_line_needed}
use Rattle.bt_tool.specs.inside.Feed.{member_items}
use Rattle.bt_tool.specs.inside.SweepLoop.{sweep_join, AreWithin}
use Rattle.bt_tool.proofs.lemmas.running.pair.PairNear.{AreNeeded, fault_least, least_by, not_all}
use Rattle.bt_lines.specs.model.Fault.{FaultValue}
use Rattle.bt_lines.specs.declared.fault.Input.TheVariants.{Second}
use Rattle.bt_lines.specs.declared.fault.Kind.TheVariants.{TooManyHeld}
use Rattle.bt_sweep.proofs.lemmas.definitions.HitLemmas.{cut_front, cut_here, cut_keeps, cut_next, cut_none, cut_on, few_decided, many_by, none_before, placed_back, front_placed}
use Rattle.bt_tool.proofs.lemmas.running.pair.PairMet.{AreLimits}
use Rattle.bt_bed.specs.calls.Reading.{IsFaultBeyond, members_from}
use Rattle.bt_sweep.specs.model.Lines.{intersect}
use Rattle.bt_sweep.specs.declared.sweep.state.Phase.{Phase}
use Rattle.bt_sweep.specs.declared.sweep.state.Phase.TheVariants.{SecondEnded}
use Rattle.bt_sweep.proofs.lemmas.sweep.KeepLemmas.{decided_before, decided_behind, decided_both, lines_stay_so}
use Rattle.bt_tool.specs.inside.Pair.{JoinDef, SettlesPair}
use Rattle.bt_tool.proofs.lemmas.running.pair.PairTurns.{all_or, settles_list}
use Rattle.bt_tool.proofs.lemmas.running.pair.PairTurns as turned

module _ (order : Order) where
  -- who leaves one of some records undecided, leaves one of more undecided
  pub leaves_more : (as_given extra taken : List Feature) → IsTrue (list_all (leaves_some order as_given) taken) → IsTrue (list_all (leaves_some order (as_given ++ extra)) taken)
  leaves_more as_given extra [] h = refl
  leaves_more as_given extra (b ∷ bs) h =
      let rest = (and_parts (leaves_some order as_given b) (list_all (leaves_some order as_given) bs) h).1 in
      grind (arith, (leaves_more as_given extra bs rest), and_from, list_any-append, or_left)

  -- none of these is the first that decides all
  decider_behind : (as_given : List Feature) (past rest : List (Member Feature)) → IsTrue (list_all (leaves_some order as_given) (member_items past))
      → decider order as_given (past ++ rest) ≡ decider order as_given rest
  decider_behind as_given [] rest h = refl
  decider_behind as_given (m ∷ ms) rest h =
      let more = (and_parts (leaves_some order as_given m.item) (list_all (leaves_some order as_given) (member_items ms)) h).1 in
      grind (arith, (decider_behind as_given ms rest more), not_all)

  -- the record that decides all is after the first lines
  reaches_least : (as_given : List Feature) (rest : List (Member Feature)) (fault : Option FaultValue) (lines : List TextLine) (count : ℕ) → All (λ m. count < m.line) rest → IfSome fault (IsFaultBeyond count)
      → bytes_in (take (suc count) lines) ≤ bytes_up_to lines (last_line_needed (decider order as_given rest) fault)
  reaches_least as_given [] fault lines count high beyond = fault_least fault lines count beyond
  reaches_least as_given (m ∷ ms) fault lines count high beyond =
      least_by (list_all (λ a. decides order a m.item) as_given) m (decider order as_given ms) fault lines count (All-head (λ (m : Member Feature). count < m.line) m ms high)
      (reaches_least as_given ms fault lines count (All-tail (λ (m : Member Feature). count < m.line) m ms high) beyond)

  -- what records of the first need lies after those that were taken for them
  pub sweep_needs : (config : SweepConfig) → AreNeeded (sweep_join order config)
  sweep_needs config given extra past rest fault lines count reached beyond =
      let same = decider_behind (given ++ extra) past rest (leaves_more given extra (member_items past) reached) in
      subst (λ (o : Option (Member Feature)). bytes_in (take (suc count) lines) ≤ bytes_up_to lines (last_line_needed o fault)) (sym same) (reaches_least (given ++ extra) rest fault lines count beyond.members beyond.fault)

module _ (order : Order) where
  -- at the start
  pub within_start : (limit : Option ℕ) (as_given : List Feature) → AreWithin order limit as_given []
  within_start limit as_given = grind arith

  -- with more of the first input
  pub within_given : (limit : Option ℕ) (as_given extra : List Feature) (past : List (Member Feature)) → AreWithin order limit as_given past → AreWithin order limit (as_given ++ extra) past
  within_given limit as_given extra past within = grind (arith, append_assoc)

  -- with one more of the second, with which they aren't too many
  pub within_taken : (limit : Option ℕ) (as_given : List Feature) (past : List (Member Feature)) (m : Member Feature) → AreWithin order limit as_given past
      → IfSome limit (λ most. (later : List Feature) → are_too_many order most (as_given ++ later) (member_items (past ++ m ∷ [])) ≡ false) → AreWithin order limit as_given (past ++ m ∷ [])
  within_taken limit as_given past m within few = grind (arith, append_assoc, cut_on)

  -- by the records held for the one that waits
  pub held_few : (limit : Option ℕ) (before : List Feature) (a : Feature) (second : List Feature) → list_all (λ x. decided order x second) before ≡ true → decided order a second ≡ false
      → IfSome limit (λ most. length (filter (is_held a) second) ≤ most) → IfSome limit (λ most. (later : List Feature) → are_too_many order most ((before ++ a ∷ []) ++ later) second ≡ false)
  held_few limit before a second all undecided few = grind (arith, append_assoc, many_by, le-ltb)

  passed_one : (a b : Feature) → is_held a b ≡ true → length (filter (is_held a) (b ∷ [])) ≡ 1
  passed_one a b e = ap (λ c. length (cond c (b ∷ []) [])) e

  held_one : (a : Feature) (past : List (Member Feature)) (m : Member Feature) → is_held a m.item ≡ true → length (filter (is_held a) (member_items (past ++ m ∷ []))) ≡ length (filter (is_held a) (member_items past)) + 1
  held_one a past m e = grind (arith, map-append, filter-append, length-append, passed_one)

  -- with one that there is no room for, the second input is cut
  pub cuts_at : (limit : Option ℕ) (before : List Feature) (a : Feature) (past : List (Member Feature)) (m : Member Feature) {fault : FaultValue} → fault ≡ fault_at_line Second m.line TooManyHeld
      → AreWithin order limit (before ++ a ∷ []) past → list_all (λ x. decided order x (member_items (past ++ m ∷ []))) before ≡ true → decided order a (member_items (past ++ m ∷ [])) ≡ false
      → is_held a m.item ≡ true → has_room limit (length (filter (is_held a) (member_items past))) ≡ false
      → (later : List Feature) (more : List (Member Feature)) (other : Option FaultValue)
      → within_limit order limit (before ++ a ∷ later) (record { members = (past ++ m ∷ []) ++ more; fault = other }) ≡ record { members = past ++ m ∷ []; fault = Some fault }
  cuts_at None before a past m is within all undecided held full later more other = absurd (false≢true (sym full))
  cuts_at (Some most) before a past m is within all undecided held full later more other =
      let count = length (filter (is_held a) (member_items (past ++ m ∷ []))) in
      let many : are_too_many order most (before ++ a ∷ later) (member_items (past ++ m ∷ [])) ≡ true =
      many_by order most (member_items (past ++ m ∷ [])) before later a all undecided
      ∙ lt-ltb most count (omega (arith, held_one a past m held, ltb-false (length (filter (is_held a) (member_items past))) most full)) in
      grind (arith, (append_assoc before (a ∷ []) later), (append_assoc past (m ∷ []) more), (cut_here (are_too_many order most (before ++ a ∷ later)) past more m other many))

  module _ (most : ℕ) (first : List Feature) where
    abbrev too_many : List Feature → Bool
    too_many = are_too_many order most first

    cut_at : (past more : List (Member Feature)) (fault : Option FaultValue) → AreWithin order (Some most) first past → up_to_too_many too_many [] (past ++ more) fault ≡ up_to_too_many too_many past more fault
    cut_at past more fault within = grind (arith, (append-nil first))

    still : (x : Feature) (past extra : List (Member Feature)) → decided order x (member_items past) ≡ true → decided order x (member_items (past ++ extra)) ≡ true
    still x past extra e = grind (arith, map-append, list_any-append, or_left)

    all_still : (xs : List Feature) (past extra : List (Member Feature)) → list_all (λ x. decided order x (member_items past)) xs ≡ true → list_all (λ x. decided order x (member_items (past ++ extra))) xs ≡ true
    all_still [] past extra all = refl
    all_still (x ∷ xs) past extra all =
        let parts = and_parts (decided order x (member_items past)) (list_all (λ x. decided order x (member_items past)) xs) all in
        and_from (decided order x (member_items (past ++ extra))) (list_all (λ x. decided order x (member_items (past ++ extra))) xs) (still x past extra parts.0) (all_still xs past extra parts.1)

    cut_seen : (past : List (Member Feature)) (ahead : Option (Member Feature)) (rest : List (Member Feature)) (fault : Option FaultValue) → AreWithin order (Some most) first past
        → list_all (λ x. decided order x (member_items (past ++ option_to_list ahead))) first ≡ true
        → up_to_too_many too_many [] ((past ++ option_to_list ahead) ++ rest) fault ≡ up_to_too_many too_many (past ++ option_to_list ahead) rest fault
    cut_seen past None rest fault within all = grind (arith, append-nil, cut_at)
    cut_seen past (Some m) rest fault within all = grind (arith, append_assoc, cut_at, cut_on, few_decided)

    -- if all of the first is decided, the second isn't cut
    cut_done : (past : List (Member Feature)) (ahead : Option (Member Feature)) (rest : List (Member Feature)) (fault : Option FaultValue) → AreWithin order (Some most) first past
        → list_all (λ x. decided order x (member_items (past ++ option_to_list ahead))) first ≡ true
        → up_to_too_many too_many [] ((past ++ option_to_list ahead) ++ rest) fault ≡ record { members = (past ++ option_to_list ahead) ++ rest; fault = fault }
    cut_done past ahead rest fault within all =
        cut_seen past ahead rest fault within all
        ∙ cut_none too_many (past ++ option_to_list ahead) rest fault
        (λ front n more e. few_decided order most (member_items ((past ++ option_to_list ahead) ++ (front ++ n ∷ []))) first (all_still first (past ++ option_to_list ahead) (front ++ n ∷ []) all))

    keeps_at : (past : List (Member Feature)) (ahead : Option (Member Feature)) (rest : List (Member Feature)) (fault : Option FaultValue) → AreWithin order (Some most) first past
        → (more : List (Member Feature)) × ((up_to_too_many too_many [] ((past ++ option_to_list ahead) ++ rest) fault).members ≡ (past ++ option_to_list ahead) ++ more)
    keeps_at past None rest fault within = grind (arith, (cut_keeps too_many past rest fault), (append-nil past), (cut_at past rest fault within))
    keeps_at past (Some m) rest fault within = grind (arith, (cut_next too_many past rest m fault), (append_assoc past (m ∷ []) rest), (cut_at past (m ∷ rest) fault within))

  whole_limited : (limit : Option ℕ) (first : List Feature) (past : List (Member Feature)) (fault : Option FaultValue) → AreWithin order limit first past
      → within_limit order limit first (record { members = past; fault = fault }) ≡ record { members = past; fault = fault }
  whole_limited None first past fault within = refl
  whole_limited (Some most) first past fault within = ap (λ l. up_to_too_many (are_too_many order most first) [] l fault) (sym (append-nil past)) ∙ cut_at most first past [] fault within

  keeps_limited : (limit : Option ℕ) (first : List Feature) (past : List (Member Feature)) (ahead : Option (Member Feature)) (rest : List (Member Feature)) (fault : Option FaultValue) → AreWithin order limit first past
      → (more : List (Member Feature)) × ((within_limit order limit first (record { members = (past ++ option_to_list ahead) ++ rest; fault = fault })).members ≡ (past ++ option_to_list ahead) ++ more)
  keeps_limited None first past ahead rest fault within = (rest, refl)
  keeps_limited (Some most) first past ahead rest fault within = keeps_at most first past ahead rest fault within

  members_placed : (past rest : List (Member Feature)) → ArePlaced order (intervals_of (member_items (past ++ rest))) → ArePlaced order (intervals_of (member_items past))
  members_placed past rest placed = front_placed order (member_items past) (member_items rest) (subst (λ l. ArePlaced order (intervals_of l)) (map-append (λ m. m.item) past rest) placed)

  done_limited : (limit : Option ℕ) (first : List Feature) (past : List (Member Feature)) (ahead : Option (Member Feature)) (rest : List (Member Feature)) (fault : Option FaultValue) → AreWithin order limit first past
      → ArePlaced order (intervals_of (member_items ((past ++ option_to_list ahead) ++ rest)))
      → (ArePlaced order (intervals_of (member_items (past ++ option_to_list ahead))) → list_all (λ x. decided order x (member_items (past ++ option_to_list ahead))) first ≡ true)
      → within_limit order limit first (record { members = (past ++ option_to_list ahead) ++ rest; fault = fault }) ≡ record { members = (past ++ option_to_list ahead) ++ rest; fault = fault }
  done_limited None first past ahead rest fault within placed all = refl
  done_limited (Some most) first past ahead rest fault within placed all = cut_done most first past ahead rest fault within (all (members_placed (past ++ option_to_list ahead) rest placed))

  ordered_limited : (limit : Option ℕ) (first : List Feature) (second : Good Feature) → ArePlaced order (intervals_of (items_in second)) → ArePlaced order (intervals_of (items_in (within_limit order limit first second)))
  ordered_limited None first second placed = placed
  ordered_limited (Some most) first second placed = grind (arith, (cut_front (are_too_many order most first) [] second.members second.fault), members_placed)

  -- what a run owes for the limit
  pub sweep_limits : (config : SweepConfig) → AreLimits (sweep_join order config)
  sweep_limits config = grind (arith, append_assoc, whole_limited, keeps_limited, done_limited, ordered_limited)

-- ---- the record that waits is undecided, if the second input gives no more

module _ {order : Order} (total : IsTotal order) where
  -- the last of the records leaves none undecided that they decide
  all_decided : (front : List Feature) (b : Feature) (xs : List Feature) → ArePlaced order (intervals_of (front ++ b ∷ [])) → ArePlaced order (intervals_of xs)
      → list_all (λ x. decided order x (front ++ b ∷ [])) xs ≡ true → list_any (λ x. not (decides order x b)) xs ≡ true → ⊥
  all_decided front b [] placed placed_xs all some = false≢true some
  all_decided front b (x ∷ xs) placed placed_xs all some =
      let parts = and_parts (decided order x (front ++ b ∷ [])) (list_all (λ x. decided order x (front ++ b ∷ [])) xs) all in
      elim (cases_Bool (decides order x b)) [
        | inl here ↦ all_decided front b xs placed placed_xs.2 parts.1 (ap (λ (c : Bool). not c || list_any (λ x. not (decides order x b)) xs) (sym here) ∙ some)
        | inr gone ↦ false≢true (sym (none_before order x front b total placed_xs.0 placed gone) ∙ parts.0)
      ]

  pub open_last : (taken written : List Feature) (a : Feature) → ArePlaced order (intervals_of taken) → ArePlaced order (intervals_of (written ++ a ∷ [])) → list_all (λ x. decided order x taken) written ≡ true
      → IsTrue (list_all (leaves_some order (written ++ a ∷ [])) taken) → decided order a taken ≡ false
  open_last taken written a placed placed_given all reached =
      elim (turned.last_of taken) [
        | inl none ↦ ap (decided order a) none
        | inr some ↦ elim (cases_Bool (decided order a taken)) [
          | inl here ↦
              let every : list_all (λ x. decided order x taken) (written ++ a ∷ []) ≡ true = list_all-append (λ x. decided order x taken) written (a ∷ [])
              ∙ and_from (list_all (λ x. decided order x taken) written) (list_all (λ x. decided order x taken) (a ∷ [])) all (and_from (decided order a taken) true here refl) in
              let last : list_all (leaves_some order (written ++ a ∷ [])) (some.0 ++ some.1 ∷ []) ≡ true = ap (list_all (leaves_some order (written ++ a ∷ []))) (sym some.2) ∙ reached in
              let parts = and_parts (list_all (leaves_some order (written ++ a ∷ [])) some.0) (list_all (leaves_some order (written ++ a ∷ [])) (some.1 ∷ []))
              (sym (list_all-append (leaves_some order (written ++ a ∷ [])) some.0 (some.1 ∷ [])) ∙ last) in
              absurd (all_decided some.0 some.1 (written ++ a ∷ []) (subst (λ (l : List Feature). ArePlaced order (intervals_of l)) some.2 placed) placed_given
              (subst (λ (l : List Feature). list_all (λ x. decided order x l) (written ++ a ∷ []) ≡ true) some.2 every)
              (and_parts (leaves_some order (written ++ a ∷ []) some.1) true parts.1).0)
          | inr gone ↦ gone
        ]
      ]

  -- ---- what is decided has its lines, whatever follows in order

  lines_then : (shape : Shape) (rule : HitRule) (newly taken : List Feature) (o : Option Feature) (rest : List Feature) → ArePlaced order (intervals_of newly) → AreDecided order newly (taken ++ option_to_list o)
      → ArePlaced order (intervals_of ((taken ++ option_to_list o) ++ rest)) → intersect shape rule newly ((taken ++ option_to_list o) ++ rest) ≡ intersect shape rule newly taken
  lines_then shape rule newly taken (Some b) rest known all placed = grind (arith, append_assoc, lines_stay_so)
  lines_then shape rule newly taken None [] known all placed = ap (intersect shape rule newly) (append-nil (taken ++ []) ∙ append-nil taken)
  lines_then shape rule newly taken None (b ∷ rest) known all placed = grind (arith, append-nil, lines_stay_so, decided_before)

  none_true : (newly second : List Feature) → list_all (λ x. is_none {T = FaultValue} None || decided order x second) newly ≡ true
  none_true [] second = refl
  none_true (x ∷ newly) second = none_true newly second

  module _ (config : SweepConfig) where
    abbrev join_of : JoinDef Feature Feature
    join_of = sweep_join order config

    -- more records of the first are settled
    pub settles_newly : {written : List Feature} (newly : List Feature) {bytes : List ℕ} {taken : List Feature} {o : Option Feature} {ended : Bool} {phase : Phase} → SettlesPair join_of written bytes (taken ++ option_to_list o) ended → ArePlaced order (intervals_of newly)
        → (phase ≡ SecondEnded → (ended ≡ true) × (o ≡ None)) → (ss : List Feature) (before : List Feature) → taken ≡ before ++ ss → Settles order phase newly (ss ++ option_to_list o)
        → SettlesPair join_of (written ++ newly) (bytes ++ intersect config.shape config.rule newly taken) (taken ++ option_to_list o) ended
    settles_newly {written} newly {bytes} {taken} {o} {ended} s known ends ss before parts (inl first) =
        let done = ends first in
        settles_list join_of written newly bytes (intersect config.shape config.rule newly taken) (taken ++ option_to_list o) ended s
        (λ second fault ordered may.
        let all = may.all done.0 in (
          subst (λ (f : Option FaultValue). list_all (λ x. is_none f || decided order x second) newly ≡ true) (sym all.1) (none_true newly second),
          ap (intersect config.shape config.rule newly) (all.0 ∙ ap (λ (w : Option Feature). taken ++ option_to_list w) done.1 ∙ append-nil taken),
        ))
    settles_newly {written} newly {bytes} {taken} {o} {ended} s known ends ss before parts (inr each) =
        let all : AreDecided order newly (taken ++ option_to_list o) =
        subst (λ (l : List Feature). AreDecided order newly l) (sym (append_assoc before ss (option_to_list o)) ∙ ap (λ (l : List Feature). l ++ option_to_list o) (sym parts)) (decided_behind order newly before (ss ++ option_to_list o) each) in
        settles_list join_of written newly bytes (intersect config.shape config.rule newly taken) (taken ++ option_to_list o) ended s
        (λ second fault ordered may. (
          all_or (λ x. decided order x second) (is_none fault) newly (or_right (is_none fault) _ (subst (λ (l : List Feature). AreDecided order newly l) (sym may.begins.1) (decided_before order newly (taken ++ option_to_list o) may.begins.0 all))),
          ap (intersect config.shape config.rule newly) may.begins.1 ∙ lines_then config.shape config.rule newly taken o may.begins.0 known all (subst (λ (l : List Feature). ArePlaced order (intervals_of l)) may.begins.1 ordered),
        ))

  -- ---- the limit

  few_more : (limit : Option ℕ) (xs after whole second items : List Feature) → whole ≡ xs ++ after → items ≡ second → IfSome limit (λ most. (later : List Feature) → are_too_many order most (xs ++ later) second ≡ false)
      → IfSome limit (λ most. (later : List Feature) → are_too_many order most (whole ++ later) items ≡ false)
  few_more limit xs after whole second items e f few = grind (arith, append_assoc)

  -- with each that was taken the limit lies as far
  pub fits_each : (limit : Option ℕ) (written rest : List Feature) → ArePlaced order (intervals_of (written ++ rest)) → (n : ℕ) (seconds : List Feature) {taken : List Feature} (past : List (Member Feature)) → member_items past ≡ taken → ArePlaced order (intervals_of (taken ++ seconds))
      → ((b : Feature) (more : List Feature) → seconds ≡ b ∷ more → AreDecided order written (taken ++ b ∷ [])) → TakenEach order limit rest taken seconds → AreWithin order limit (written ++ rest) past
      → AreWithin order limit (written ++ rest) (past ++ members_from n seconds)
  fits_each limit written rest placed n [] past e placed_taken first each within = subst (λ (l : List (Member Feature)). AreWithin order limit (written ++ rest) l) (sym (append-nil past)) within
  fits_each limit written rest placed n (b ∷ seconds) {taken} past e placed_taken first each within =
      let t = each.0 in
      let m : Member Feature = record { line = n; item = b } in
      let items : member_items (past ++ m ∷ []) ≡ taken ++ b ∷ [] = map-append (λ m. m.item) past (m ∷ []) ∙ ap (λ l. l ++ b ∷ []) e in
      let placed_both = subst (λ (l : List Feature). ArePlaced order (intervals_of l)) (sym (append_assoc taken (b ∷ []) seconds)) placed_taken in
      let whole : written ++ rest ≡ (written ++ t.before) ++ t.a ∷ t.after = ap (λ (l : List Feature). written ++ l) t.parts ∙ sym (append_assoc written t.before (t.a ∷ t.after)) in
      let known = (placed_back order (written ++ t.before) (t.a ∷ t.after) (subst (λ (l : List Feature). ArePlaced order (intervals_of l)) whole placed)).0 in
      let decided_now = first b seconds refl in
      let few = held_few order limit (written ++ t.before) t.a (taken ++ b ∷ []) (decided_both order written t.before (taken ++ b ∷ []) decided_now t.settled)
      (none_before order t.a taken b total known (front_placed order (taken ++ b ∷ []) seconds placed_both) t.undecided) t.within in
      subst (λ (l : List (Member Feature)). AreWithin order limit (written ++ rest) l) (append_assoc past (m ∷ []) (members_from (suc n) seconds))
      (fits_each limit written rest placed (suc n) seconds (past ++ m ∷ []) items placed_both (λ next more is. decided_before order written (taken ++ b ∷ []) (next ∷ []) decided_now) each.1
      (within_taken order limit (written ++ rest) past m within (few_more limit ((written ++ t.before) ++ t.a ∷ []) t.after (written ++ rest) (taken ++ b ∷ []) (member_items (past ++ m ∷ []))
      (whole ∙ sym (append_assoc (written ++ t.before) (t.a ∷ []) t.after)) items few)))
