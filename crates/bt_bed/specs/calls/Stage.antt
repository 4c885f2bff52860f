-- How far a run over two inputs has come.
use Rattle.std.specs.Prelude.{◌≡◌, Bool, true, false, List, [], ◌∷◌, ◌++◌, Option, Some, None, cond, option_to_list}

-- The members of the first input that are written, the one that isn't, and the members of the second that
-- were taken. Then whether each input has ended.
pub record Stage (X Y : Type 0) : Type 0 where
  pub written : List X
  pub waiting : Option X
  pub taken : List Y
  pub first_ended : Bool
  pub second_ended : Bool

module _ {X Y : Type 0} where
  -- nothing was given
  abbrev pub at_start : Stage X Y
  at_start =
      record { written = []; waiting = None; taken = []; first_ended = false; second_ended = false }

  -- all members of the first input that were given
  abbrev pub given : Stage X Y → List X
  given stage = stage.written ++ option_to_list stage.waiting

  -- with one more member of the first input, which is written at once, or waits
  abbrev pub with_first : Bool → Stage X Y → X → Stage X Y
  with_first at_once stage x = cond at_once
      (record stage { written = stage.written ++ x ∷ [] }) (record stage { waiting = Some x })

  -- with one more of the second
  abbrev pub with_second : Stage X Y → Y → Stage X Y
  with_second stage y = record stage { taken = stage.taken ++ y ∷ [] }

  -- with the one that waits written
  abbrev pub with_written : Stage X Y → Stage X Y
  with_written stage = record stage { written = given stage; waiting = None }

  -- after the end of the first input, and after that of the second
  abbrev pub with_first_ended : Stage X Y → Stage X Y
  with_first_ended stage = record stage { first_ended = true }

  abbrev pub with_second_ended : Stage X Y → Stage X Y
  with_second_ended stage = record (with_written stage) { second_ended = true }

  -- from one stage on more members of the first input were given, some of those given were written,
  -- and more members of the second were taken
  pub record Follows (old : Stage X Y) (firsts newly : List X) (seconds : List Y)
      (new : Stage X Y) : Type 0 where
    pub given_is : given new ≡ given old ++ firsts
    pub written_is : new.written ≡ old.written ++ newly
    pub taken_is : new.taken ≡ old.taken ++ seconds
    pub first_is : new.first_ended ≡ old.first_ended
    pub second_is : new.second_ended ≡ old.second_ended
