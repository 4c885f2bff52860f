-- What reads do to a source, to what was read after the lines, to a line that is longer than the block, and to the count of
-- bytes.
use Rattle.std.specs.Prelude.{◌≡◌, ◌⊎◌, ℕ, ◌+◌, ◌-◌, ◌^◌, ◌<◌, Bool, true, List, [], ◌∷◌, ◌++◌, length, Option}
use Rattle.bt_lines.specs.declared.device.Source.{Ghosts as Source}
use Rattle.bt_lines.specs.calls.Device.{EndsAfter, FailsAfter, ReadsOn}
use Rattle.bt_lines.specs.calls.Line.{NoLineFeed, line_feeds}
use Rattle.bt_lines.specs.declared.reader.spill.More.{More}
use Rattle.bt_lines.specs.declared.reader.spill.More.TheVariants.{Bytes, NoBytes, BadRead, PastBound}
use Rattle.bt_lines.specs.declared.reader.spill.Stop.{Stop}
use Rattle.bt_lines.specs.declared.reader.spill.Stop.TheVariants.{LineFeed, End, Failed, TooLong, NoMemory}

-- the outcome of a request for more bytes, with this many taken before
abbrev pub MoreComes : More → Bool → Bool → List ℕ → List ℕ → List ℕ → ℕ → Type 0
MoreComes Bytes was_failed is_failed bytes old unread taken =
    (0 < length bytes) × (unread ≡ old ++ bytes) × (is_failed ≡ was_failed)
MoreComes NoBytes was_failed is_failed bytes old unread taken =
    (bytes ≡ []) × (unread ≡ old) × (is_failed ≡ was_failed)
MoreComes BadRead was_failed is_failed bytes old unread taken =
    (bytes ≡ []) × (unread ≡ old) × (is_failed ≡ true)
MoreComes PastBound was_failed is_failed bytes old unread taken =
    (length bytes ≡ 1) × (unread ≡ []) × (taken ≡ 2 ^ 63 - 1)

-- a byte past the bound isn't counted
abbrev pub uncounted : Stop → ℕ
uncounted TooLong = 1
uncounted _ = 0

abbrev pub uncounted_more : More → ℕ
uncounted_more PastBound = 1
uncounted_more _ = 0

-- the reads of a request handed over these bytes, and only the last one may have failed or reported the end
abbrev pub IsHanded : {S : Type 0} → (S → Option (List ℕ) → S → Type 0) → More → S → List ℕ → S → Type 0
IsHanded IsRead BadRead old bytes new = FailsAfter IsRead old bytes new
IsHanded IsRead NoBytes old bytes new = EndsAfter IsRead old bytes new
IsHanded IsRead _ old bytes new = ReadsOn IsRead old bytes new

-- and those up to a stop
abbrev pub AreHanded : {S : Type 0} → (S → Option (List ℕ) → S → Type 0) → Stop → S → List ℕ → S → Type 0
AreHanded IsRead Failed old bytes new = FailsAfter IsRead old bytes new
AreHanded IsRead End old bytes new = EndsAfter IsRead old bytes new
AreHanded IsRead _ old bytes new = ReadsOn IsRead old bytes new

module _ {S : Type 0} (device : Source S) where
  -- more bytes were requested
  pub record AsksMore (old : S) (old_unread : List ℕ) (old_taken : ℕ) (more : More)
      (new : S) (unread : List ℕ) (taken : ℕ) : Type 0 where
    pub bytes : List ℕ
    pub handed : IsHanded device.is_read more old bytes new
    pub counted : taken + uncounted_more more ≡ old_taken + length bytes
    pub within : taken < 2 ^ 63
    pub came : MoreComes more (device.has_failed old) (device.has_failed new) bytes old_unread unread taken

-- a last piece with a line feed; an empty one is no line
abbrev pub closed : List ℕ → List ℕ
closed [] = []
closed (byte ∷ bytes) = byte ∷ bytes ++ 10 ∷ []

-- where the reading stopped, by all bytes that were read after the lines
abbrev pub StopsWith : Stop → Bool → Bool → List ℕ → List ℕ → List ℕ → ℕ → Type 0
StopsWith LineFeed was_failed is_failed all complete unread taken =
    (all ≡ complete ++ unread) × (0 < length complete) × (is_failed ≡ was_failed)
StopsWith End was_failed is_failed all complete unread taken =
    NoLineFeed all × (complete ≡ closed all) × (unread ≡ []) × (is_failed ≡ was_failed)
StopsWith Failed was_failed is_failed all complete unread taken =
    NoLineFeed all × (complete ≡ []) × NoLineFeed unread × (is_failed ≡ true)
    × ((text : List ℕ) × (all ≡ text ++ unread))
StopsWith TooLong was_failed is_failed all complete unread taken =
    ((text : List ℕ) × (byte : List ℕ) × NoLineFeed text × (all ≡ text ++ byte) × (length byte ≡ 1))
    × (complete ≡ []) × (unread ≡ []) × (taken ≡ 2 ^ 63 - 1)
StopsWith NoMemory was_failed is_failed all complete unread taken =
    ((text : List ℕ) × NoLineFeed text × (all ≡ text ++ unread)) × (complete ≡ []) × (is_failed ≡ was_failed)

module _ {S : Type 0} (device : Source S) where
  -- lines were buffered, if none was: those among the bytes that were read already, else by reads
  pub record Buffers (old : S) (old_unread : List ℕ) (old_taken : ℕ) (stop : Stop)
      (new : S) (complete unread : List ℕ) (taken : ℕ) : Type 0 where
    pub bytes : List ℕ
    pub handed : AreHanded device.is_read stop old bytes new
    pub counted : taken + uncounted stop ≡ old_taken + length bytes
    pub within : taken < 2 ^ 63
    -- nothing is read while a line feed is held
    pub ready : 0 < line_feeds old_unread → new ≡ old
    pub first : (line_feeds old_unread ≡ 0) ⊎ (stop ≡ LineFeed)
    pub stopped : StopsWith stop (device.has_failed old) (device.has_failed new)
        (old_unread ++ bytes) complete unread taken
