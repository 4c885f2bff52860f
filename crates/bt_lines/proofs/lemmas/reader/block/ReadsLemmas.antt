-- Lemmas on what the reads of a source handed over.
use Rattle.bt_lines.proofs.Std.{◌∙◌, ◌≡◌, ◌⊎◌, ℕ, ◌+◌, ◌^◌, ◌<◌, ◌≤◌, true, false, false≢true, List, [], ◌++◌, inl, inr, length, refl, subst, IsSome, Bool, Option, Some, None, sym, ap, add-zero, append-nil, append_assoc, length-append, arith}
use Rattle.bt_lines.specs.calls.Line.{line_feeds}
use Rattle.bt_lines.specs.calls.Device.{EndsAfter, FailsAfter, ReadsOn, begun, gave}
use Rattle.bt_lines.specs.model.Fault.{FaultValue, read_failed}
use Rattle.bt_lines.specs.calls.Faults.{no_memory}
use Rattle.bt_lines.specs.declared.fault.Input.{Input}
use Rattle.bt_lines.specs.declared.fault.Kind.TheVariants.{NoMemory as OutOfMemory, ReadFailed}
use Rattle.bt_lines.proofs.lemmas.reader.lines.TextLemmas.{line_feeds-append}
use Rattle.bt_lines.specs.calls.Reader.{AreRead, EndsReads, Hands, IsReadFailed, MayStillCome, bytes_taken, end_told, fault_kept, feeds_taken, input_of, source_of}
use Rattle.bt_lines.specs.declared.device.Source.{Ghosts as Source}
use Rattle.bt_lines.specs.declared.reader.line_reader.LineReader.{LineReader}

module _ {S : Type 0} (IsRead : S → Option (List ℕ) → S → Type 0) where
  -- reads, and then others
  pub reads_then : {a b c : S} {x y : List ℕ} → ReadsOn IsRead a x b → ReadsOn IsRead b y c → ReadsOn IsRead a (x ++ y) c
  reads_then {x} one begun = rw (append-nil x) one
  reads_then {x} one (gave {bytes} two piece after is) = rw (sym (append_assoc x bytes piece)) (gave (reads_then one two) piece after is)

  -- or one that failed
  pub fails_later : {a b c : S} {x y : List ℕ} → ReadsOn IsRead a x b → FailsAfter IsRead b y c → FailsAfter IsRead a (x ++ y) c
  fails_later one two = record { before = two.before; served = reads_then one two.served; fails = two.fails }

  -- or one that reported the end
  pub ends_later : {a b c : S} {x y : List ℕ} → ReadsOn IsRead a x b → EndsAfter IsRead b y c → EndsAfter IsRead a (x ++ y) c
  ends_later one two = record { before = two.before; served = reads_then one two.served; tells = two.tells }

  -- which succeeded
  pub reads_ended : {a b : S} {x : List ℕ} → EndsAfter IsRead a x b → ReadsOn IsRead a x b
  reads_ended {a} {b} {x} ends = subst (λ (l : List ℕ). ReadsOn IsRead a l b) (append-nil x) (gave ends.served [] b ends.tells)

  -- none
  pub reads_nothing : (a b : S) → b ≡ a → ReadsOn IsRead a [] b
  reads_nothing a b same = rw same begun

  pub reads_one : (a b : S) (piece : List ℕ) → IsRead a (Some piece) b → ReadsOn IsRead a piece b
  reads_one a b piece is = gave begun piece b is

  pub fails_once : (a b : S) (none : List ℕ) → none ≡ [] → IsRead a None b → FailsAfter IsRead a none b
  fails_once a b none empty fails = record { before = a; served = reads_nothing_as empty; fails = fails }
    where
      reads_nothing_as : none ≡ [] → ReadsOn IsRead a none a
      reads_nothing_as e = rw e begun

  pub ends_once : (a b : S) (none : List ℕ) → none ≡ [] → IsRead a (Some none) b → EndsAfter IsRead a none b
  ends_once a b none empty tells = record { before = a; served = nothing_as empty; tells = subst (λ (l : List ℕ). IsRead a (Some l) b) empty tells }
    where
      nothing_as : none ≡ [] → ReadsOn IsRead a none a
      nothing_as e = rw e begun

-- out of memory is no failed read
pub memory_no_read : (input : Input) (line : ℕ) → no_memory ≡ read_failed input line → ⊥
memory_no_read input line e = let apart : OutOfMemory ≡ ReadFailed = ap (λ (f : FaultValue). f.kind) e in cc

-- only one fault is reported
pub some_is : (one other : FaultValue) → Some one ≡ Some other → one ≡ other
some_is one other e = cc

-- ---- what a reader was handed

pub no_fault : (kept : Option FaultValue) → kept ≡ None → IsSome kept → ⊥
no_fault kept none some = false≢true (subst (λ (o : Option FaultValue). IsSome o) none some)

-- a reader that keeps no fault keeps no failed read
pub none_failed : (kept : Option FaultValue) → kept ≡ None → IsReadFailed kept → ⊥
none_failed kept none (input, line, e) = absurd (let apart : None ≡ Some (read_failed input line) = sym none ∙ e in cc)

-- nor does one that ran out of memory
pub memory_failed : (kept : Option FaultValue) → kept ≡ Some no_memory → IsReadFailed kept → ⊥
memory_failed kept is (input, line, e) = memory_no_read input line (some_is no_memory (read_failed input line) (sym is ∙ e))

-- a reader keeps a fault, or none
kept_or_none : (kept : Option FaultValue) → (kept ≡ None) ⊎ IsSome kept
kept_or_none None = inl refl
kept_or_none (Some fault) = inr refl

told_or_not : (told : Bool) → (told ≡ true) ⊎ (told ≡ false)
told_or_not true = inl refl
told_or_not false = inr refl

module _ {S : Type 0} (device : Source S) where
  module _ (old new : LineReader S) (bytes : List ℕ) where
    -- bytes came by reads that succeeded
    pub read_on : ReadsOn device.is_read (source_of old) bytes (source_of new) → (fault_kept old ≡ None → IsReadFailed (fault_kept new) → 2 ^ 63 ≤ bytes_taken new) → AreRead device old bytes new
    unfolding AreRead
    read_on reads past = inl (reads, past)

    -- or one failed
    pub read_up_to : FailsAfter device.is_read (source_of old) bytes (source_of new) → IsReadFailed (fault_kept new) → AreRead device old bytes new
    unfolding AreRead
    read_up_to fails kept = inr (fails, kept)

    -- if the end is reported, the last read did it
    abbrev pub Ends : Type 0
    Ends = end_told new ≡ true → EndsAfter device.is_read (source_of old) bytes (source_of new)

    -- the end isn't reported
    pub ends_untold : end_told new ≡ false → Ends
    ends_untold is told = absurd (false≢true (sym is ∙ told))

    -- before any fault
    pub hands_by : fault_kept old ≡ None → AreRead device old bytes new → bytes_taken new ≡ bytes_taken old + length bytes
        → input_of new ≡ input_of old → (end_told new ≡ false → bytes_taken new < 2 ^ 63 → feeds_taken new ≡ feeds_taken old + line_feeds bytes) → end_told old ≡ false → Ends → Hands device old bytes new
    unfolding EndsReads
    hands_by going reads counted input feeds untold ends = record {
      reads = reads;
      ends = λ told. absurd (false≢true (sym untold ∙ told));
      ends_reads = ends_by untold going (λ untold. ends);
      stops = λ some. absurd (no_fault (fault_kept old) going some);
      counted = counted;
      same_input = input;
      fed = feeds;
      told_stays = λ told. absurd (false≢true (sym untold ∙ told));
    }
      where
        ends_by : end_told old ≡ false → fault_kept old ≡ None → (end_told old ≡ false → end_told new ≡ true → EndsAfter device.is_read (source_of old) bytes (source_of new)) → EndsReads device old bytes new
        ends_by untold going reads = (λ told. absurd (false≢true (sym untold ∙ told)), reads, λ some. absurd (no_fault (fault_kept old) going some))

    -- and none is kept
    pub hands_on : fault_kept old ≡ None → fault_kept new ≡ None → ReadsOn device.is_read (source_of old) bytes (source_of new)
        → bytes_taken new ≡ bytes_taken old + length bytes → input_of new ≡ input_of old → (end_told new ≡ false → bytes_taken new < 2 ^ 63 → feeds_taken new ≡ feeds_taken old + line_feeds bytes)
        → end_told old ≡ false → Ends → Hands device old bytes new
    hands_on was is reads = hands_by was (read_on reads (λ none failed. absurd (none_failed (fault_kept new) is failed)))

  reads_still : (old new : LineReader S) → source_of new ≡ source_of old → end_told new ≡ end_told old → EndsReads device old [] new
  unfolding EndsReads
  reads_still old new source same = (λ told. source, λ untold told. absurd (false≢true (sym untold ∙ sym same ∙ told)), λ some. same)

  -- nothing was handed over
  pub hands_still : (old new : LineReader S) → source_of new ≡ source_of old → bytes_taken new ≡ bytes_taken old → input_of new ≡ input_of old
      → (end_told new ≡ false → feeds_taken new ≡ feeds_taken old) → end_told new ≡ end_told old → fault_kept new ≡ fault_kept old → Hands device old [] new
  hands_still old new same taken input feeds told kept = record {
    reads = read_on old new [] (reads_nothing device.is_read (source_of old) (source_of new) same) (λ none failed. absurd (none_failed (fault_kept new) (kept ∙ none) failed));
    ends = λ told. refl;
    ends_reads = reads_still old new same told;
    stops = λ some. (refl, same, kept);
    counted = taken ∙ sym (add-zero (bytes_taken old));
    same_input = input;
    fed = λ untold below. feeds untold ∙ sym (add-zero (feeds_taken old));
    told_stays = λ e. told ∙ e;
  }

  pub hands_none : (reader : LineReader S) → Hands device reader [] reader
  hands_none reader = hands_still reader reader refl refl refl (λ e. refl) refl refl

  -- what may still come after a call may come before it, behind the bytes of the call
  pub comes_before : {old new : LineReader S} {bytes : List ℕ} → Hands device old bytes new → (rest : List ℕ) → MayStillCome new rest → MayStillCome old (bytes ++ rest)
  comes_before hands rest follows = λ told. rw (hands.ends told, follows (hands.told_stays told)) refl

  -- one call after another
  module _ {old mid new : LineReader S} {first second : List ℕ} (p : Hands device old first mid) (q : Hands device mid second new) where
    -- a failed read that is kept was kept before, or came since
    past_joined : (fault_kept old ≡ None → IsReadFailed (fault_kept mid) → 2 ^ 63 ≤ bytes_taken mid) → (fault_kept mid ≡ None → IsReadFailed (fault_kept new) → 2 ^ 63 ≤ bytes_taken new)
        → fault_kept old ≡ None → IsReadFailed (fault_kept new) → 2 ^ 63 ≤ bytes_taken new
    past_joined one two none failed = go (kept_or_none (fault_kept mid))
      where
        go : (fault_kept mid ≡ None) ⊎ IsSome (fault_kept mid) → 2 ^ 63 ≤ bytes_taken new
        go (inl going) = two going failed
        go (inr some) = omega (arith, q.counted, one none (subst IsReadFailed (q.stops some).2 failed))

    reads_joined : AreRead device old (first ++ second) new
    unfolding AreRead
    reads_joined = go p.reads q.reads
      where
        go : AreRead device old first mid → AreRead device mid second new → AreRead device old (first ++ second) new
        go (inl one) (inl two) = inl (reads_then device.is_read one.0 two.0, past_joined one.1 two.1)
        go (inl one) (inr two) = inr (fails_later device.is_read one.0 two.0, two.1)
        go (inr one) two =
            let ends = q.stops (rw one.1.2 refl) in
            inr (rw (ends.0, ends.1, append-nil first) one.0, subst IsReadFailed (sym ends.2) one.1)

    ends_joined : end_told old ≡ true → first ++ second ≡ []
    ends_joined told = rw (p.ends told, q.ends (p.told_stays told)) refl

    reads_ends_joined : EndsReads device old (first ++ second) new
    unfolding EndsReads AreRead
    reads_ends_joined = (
      λ told. q.ends_reads.0 (p.told_stays told) ∙ p.ends_reads.0 told,
      λ untold told. go untold told (told_or_not (end_told mid)) p.reads,
      λ some. q.ends_reads.2 (subst (λ (o : Option FaultValue). IsSome o) (sym (p.stops some).2) some) ∙ p.ends_reads.2 some,
    )
      where
        go : end_told old ≡ false → end_told new ≡ true → (end_told mid ≡ true) ⊎ (end_told mid ≡ false) → AreRead device old first mid → EndsAfter device.is_read (source_of old) (first ++ second) (source_of new)
        go untold told (inl was) reads = rw (q.ends was, append-nil first, q.ends_reads.0 was) (p.ends_reads.1 untold was)
        go untold told (inr was) (inl on) = ends_later device.is_read on.0 (q.ends_reads.1 was told)
        go untold told (inr was) (inr fails) = absurd (false≢true (sym was ∙ sym (q.ends_reads.2 (rw fails.1.2 refl)) ∙ told))

    stops_joined : IsSome (fault_kept old) → (first ++ second ≡ []) × (source_of new ≡ source_of old) × (fault_kept new ≡ fault_kept old)
    stops_joined some =
        let one = p.stops some in
        let two = q.stops (subst (λ (o : Option FaultValue). IsSome o) (sym one.2) some) in
        (rw (one.0, two.0) refl, two.1 ∙ one.1, two.2 ∙ one.2)

  pub hands_both : (old mid new : LineReader S) (first second : List ℕ) → Hands device old first mid → Hands device mid second new → Hands device old (first ++ second) new
  hands_both old mid new first second p q = record {
    reads = reads_joined p q;
    ends = ends_joined p q;
    ends_reads = reads_ends_joined p q;
    stops = stops_joined p q;
    counted = omega (arith, p.counted, q.counted, length-append first second);
    same_input = q.same_input ∙ p.same_input;
    fed = λ untold below. grind (arith, p.fed, q.fed, p.told_stays, q.told_stays, p.counted, q.counted, line_feeds-append first second);
    told_stays = λ e. q.told_stays (p.told_stays e);
  }

  module _ {old new : LineReader S} {bytes : List ℕ} (hands : Hands device old bytes new) where
    -- if no failed read is kept, all reads succeeded
    pub all_served : (IsReadFailed (fault_kept new) → ⊥) → ReadsOn device.is_read (source_of old) bytes (source_of new)
    unfolding AreRead
    all_served never = go hands.reads
      where
        go : AreRead device old bytes new → ReadsOn device.is_read (source_of old) bytes (source_of new)
        go (inl on) = on.0
        go (inr fails) = absurd (never fails.1)

    -- if one is kept since then, the last read failed, or too many bytes came
    pub one_failed : fault_kept old ≡ None → IsReadFailed (fault_kept new)
        → FailsAfter device.is_read (source_of old) bytes (source_of new) ⊎ (ReadsOn device.is_read (source_of old) bytes (source_of new) × (2 ^ 63 ≤ bytes_taken new))
    unfolding AreRead
    one_failed none failed = go hands.reads
      where
        go : AreRead device old bytes new → FailsAfter device.is_read (source_of old) bytes (source_of new) ⊎ (ReadsOn device.is_read (source_of old) bytes (source_of new) × (2 ^ 63 ≤ bytes_taken new))
        go (inl on) = inr (on.0, on.1 none failed)
        go (inr fails) = inl fails.0
