-- What an output holds, and what calls do that put bytes.
use Rattle.std.specs.Prelude.{◌≡◌, ℕ, ◌≤◌, Bool, List, ◌++◌, length, true, false, [], ◌∷◌, Result, Ok, Err, codes, decimal}
use Rattle.bt_lines.specs.model.Fault.{FaultValue}
use Rattle.bt_lines.specs.calls.Faults.{write_failed}
use Rattle.bt_lines.specs.calls.Names.{fault_value}
use Rattle.bt_lines.specs.declared.fault.Fault.{Fault}

-- What an output has put and what its sink has taken.

-- how many bytes a reader may have taken ahead, and an output may hold back
abbrev pub block_size : ℕ
block_size = 8192

-- an output over a sink: the bytes put and the bytes that the sink took, those before the output was made included
pub record Output : Type 0 where
  pub put : List ℕ
  pub took : List ℕ
  pub has_failed : Bool
  pub sink_has_failed : Bool
  -- whether the sink's last call failed
  pub sink_last_failed : Bool
  -- whether the sink has passed on all that it took
  pub sink_is_flushed : Bool

-- an output and its sink, whose bytes and failures the output tells
pub record OutputOver (K : Type 0) : Type 0 where
  pub output : Output
  pub sink : K

-- The sink has failed, and its last call is one that did: after a failed write nothing more was
-- written, and nothing was flushed.
abbrev pub SinkFailed : Output → Type 0
SinkFailed output = (output.sink_has_failed ≡ true) × (output.sink_last_failed ≡ true)

-- what was put and what was taken differ by at most a block, held back
abbrev pub HoldsBlock : List ℕ → List ℕ → Type 0
HoldsBlock took put = (held : List ℕ) × (put ≡ took ++ held) × (length held ≤ block_size)

-- new is a prefix of old with more bytes after it
unfoldable pub IsPrefixOf : List ℕ → List ℕ → List ℕ → Type 0
IsPrefixOf new old more = (rest : List ℕ) × (new ++ rest ≡ old ++ more)

-- the bytes stay as they are, and some may have been appended
abbrev pub Grows : List ℕ → List ℕ → Type 0
Grows old new = (more : List ℕ) × (new ≡ old ++ more)

-- What calls that put bytes do to an output, and how two texts go on to one another there.

-- the output still works: what was put stays put, and at most a block of it is held back
pub record WorksAsBefore (old new : Output) : Type 0 where
  pub served : new.has_failed ≡ old.has_failed
  pub sink_served : new.sink_has_failed ≡ old.sink_has_failed
  pub put : Grows old.put new.put
  pub block : HoldsBlock old.took old.put → HoldsBlock new.took new.put

-- the bytes were put, all of them
pub record PutsAll (old : Output) (bytes : List ℕ) (new : Output) : Type 0 where
  pub appends : new.put ≡ old.put ++ bytes
  pub block : HoldsBlock new.took new.put
  pub grows : Grows old.took new.took
  pub was_served : old.has_failed ≡ false
  pub served : new.has_failed ≡ false
  pub sink_served : new.sink_has_failed ≡ old.sink_has_failed

-- the bytes weren't all put: what the sink took is a prefix of them
pub record FailsToPut (old : Output) (bytes : List ℕ) (fault : FaultValue) (new : Output) : Type 0 where
  pub is : fault ≡ write_failed
  pub front : IsPrefixOf new.took old.put bytes
  pub grows : Grows old.took new.took
  pub failed : new.has_failed ≡ true
  pub sink_failed : SinkFailed new
  pub again : old.has_failed ≡ true → new ≡ old

-- what a call that puts these bytes does to an output
abbrev pub Puts : {A : Type 0} → Output → List ℕ → Result A Fault → Output → Type 0
Puts old bytes (Ok done) new = PutsAll old bytes new
Puts old bytes (Err fault) new = FailsToPut old bytes (fault_value fault) new

-- the output grew by these bytes, which are none if it stays as it is
pub record Grown (old : Output) (bytes : List ℕ) (new : Output) : Type 0 where
  pub appends : new.put ≡ old.put ++ bytes
  pub block : HoldsBlock old.took old.put → HoldsBlock new.took new.put
  pub grows : Grows old.took new.took
  pub served : new.has_failed ≡ old.has_failed
  pub sink_served : new.sink_has_failed ≡ old.sink_has_failed
  pub again : old.has_failed ≡ true → new ≡ old
  pub nothing : bytes ≡ [] → new ≡ old

-- the bytes, of which there are some, weren't all put
pub record FailsToAdd (old : Output) (bytes : List ℕ) (fault : FaultValue) (new : Output) : Type 0 where
  pub puts : FailsToPut old bytes fault new
  pub some : bytes ≡ [] → ⊥

-- what a call does to an output that puts these bytes, which may be none
abbrev pub Adds : {A : Type 0} → Output → List ℕ → Result A Fault → Output → Type 0
Adds old bytes (Ok done) new = Grown old bytes new
Adds old bytes (Err fault) new = FailsToAdd old bytes (fault_value fault) new

module _ (before after : List ℕ) (old new : Output) where
  -- the bytes by which one text goes on to the other were put
  pub record PutsRest : Type 0 where
    pub bytes : List ℕ
    pub goes_on : after ≡ before ++ bytes
    pub appends : new.put ≡ old.put ++ bytes

  -- they weren't all put: what the sink took is a prefix of them
  pub record CutsRest : Type 0 where
    pub bytes : List ℕ
    pub goes_on : after ≡ before ++ bytes
    pub front : IsPrefixOf new.took old.put bytes

-- what follows a name at the beginning of a line: a tab, the start, a tab, the stop and a byte that ends them
-- (UCSC BED description, fields chromStart and chromEnd)
abbrev pub span_text : ℕ → ℕ → ℕ → List ℕ
span_text start stop end =
    codes "\t" ++ (decimal start ++ (codes "\t" ++ (decimal stop ++ end ∷ [])))
