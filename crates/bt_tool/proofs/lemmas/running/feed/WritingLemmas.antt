-- What a command of one input writes, as what any command writes of its inputs.
use Rattle.bt_lines.proofs.Std.{[], ◌≡◌, ℕ, ◌+◌, ◌-◌, ◌≤◌, refl, true, List, ◌++◌, length, Option, None, Some, take, sym, ap, ◌∙◌, subst, arith, inl, inr, ◌⊎◌, IfSome, suc, ◌^◌, ◌<◌, false, drop, All, take-append-add, append_assoc, drop-drop}
use Rattle.bt_lines.specs.declared.device.Source.{Ghosts as Source}
use Rattle.bt_lines.specs.model.Fault.{FaultValue}
use Rattle.bt_lines.specs.model.Lines.{Handed, TextLine, text_lines, bytes_in}
use Rattle.bt_lines.specs.calls.Line.{line_feeds}
use Rattle.bt_lines.specs.calls.Output.{Output, block_size}
use Rattle.bt_lines.specs.declared.fault.Input.TheVariants.{First, Second}
use Rattle.bt_tool.specs.model.Behaviour.{Behaviour}
use Rattle.bt_tool.specs.calls.Inputs.{CameOf, HandsUpTo, InputRead, MayHold, OfBoth, ReadsSo, ReadsSoIf}
use Rattle.bt_lines.specs.calls.Device.{begun}
use Rattle.bt_tool.proofs.lemmas.running.members.CursorLemmas.{IsWhole}
use Rattle.bt_bed.specs.model.Meeting.{Report}
use Rattle.bt_tool.specs.calls.Run.{NoneFailed, IsFaultButWrite, IsOfInput, IsReported, IsWithin, ReadsNoFurther, TellsInput, TellsInputIf, RunsBy}
use Rattle.bt_lines.specs.declared.fault.Kind.{Kind}
use Rattle.bt_lines.specs.calls.Reader.{CutsOff, Hands, bytes_taken, end_told}
use Rattle.bt_lines.specs.declared.reader.line_reader.LineReader.{LineReader}
use Rattle.bt_lines.proofs.lemmas.reader.lines.TextLemmas.{line_feeds-append}
use Rattle.bt_bed.specs.model.Good.{Good, Member}
use Rattle.bt_bed.specs.calls.Reading.{IsBeyond, IsFaultBeyond, with_members}

-- how far an input was read, by lines that settle the same, more that is said beside it, and what was taken and put later
pub near_as : {n : ℕ} (Beside More : Type 0) → (Beside → More) → {faults others : List TextLine → Option FaultValue} → ((lines : List TextLine) → faults lines ≡ others lines) → {mine yours : List TextLine → List ℕ} → ((lines : List TextLine) → mine lines ≡ yours lines)
    → {text handed before took more : List ℕ} (Cut Failed Stopped Stops : Type 0) {put later : List ℕ}
    → ((size : ℕ) → size ≤ length took + block_size → size ≤ length more + block_size)
    → ((size : ℕ) → Cut ⊎ (size ≤ length put) → Failed ⊎ (size ≤ length later)) → ((bytes : List ℕ) → (Stopped → put ≡ bytes) → Stops → later ≡ bytes)
    → ReadsNoFurther n Beside faults mine text handed before took Cut Stopped put → ReadsNoFurther n More others yours text handed before more Failed Stops later
near_as {n} Beside More adds alike {mine} {yours} same {text} {handed} {before} {took} {more} Cut Failed Stopped Stops {put} takes keeps stays near =
    let bytes : List ℕ = before ++ yours (take (n - 1) (text_lines text)) in
    let size : ℕ = length bytes in
    let equal : before ++ mine (take (n - 1) (text_lines text)) ≡ bytes = ap (λ l. before ++ l) (same (take (n - 1) (text_lines text))) in
    let is : length (before ++ mine (take (n - 1) (text_lines text))) ≡ size = ap length equal in
    record {
      some = near.some;
      faultless = sym (alike (take (n - 1) (text_lines text))) ∙ near.faultless;
      read = near.read;
      settled = takes size (subst (λ n. n ≤ length took + block_size) is near.settled);
      kept = keeps size (subst (λ n. Cut ⊎ (n ≤ length put)) is near.kept);
      exact = stays bytes (λ stops. near.exact stops ∙ equal);
      beside = adds near.beside;
    }

-- a whole text of an input of which no failed read is reported
pub is_whole : {read : InputRead} {fault : Option FaultValue} {handed : Handed} → MayHold read handed → IsOfInput fault → IsWhole read fault handed
is_whole holds of_input = record { holds = holds; no_read = of_input.no_read }

-- nothing was read of an input that may be there
pub none_read : {S : Type 0} → Option S → Option InputRead
none_read None = None
none_read (Some source) = Some (record { bytes = []; told = false; failed = false })

-- a source that wasn't read
pub reads_nothing : {S : Type 0} (device : Source S) (source : S) → ReadsSo device source (record { bytes = []; told = false; failed = false }) source
reads_nothing device source = record { went = begun }

pub reads_none : {S : Type 0} (device : Source S) (source : Option S) → ReadsSoIf device source (none_read source) source
unfolding none_read
reads_none device None = tt
reads_none device (Some source) = reads_nothing device source

none_two : {S : Type 0} (device : Source S) (two : Option InputRead) → ReadsSoIf device None two None → two ≡ None
none_two device None reads = refl
none_two device (Some read) reads = absurd reads

pub none_failed : {S : Type 0} (source : Option S) → NoneFailed (none_read source)
unfolding none_read
none_failed None = tt
none_failed (Some source) = refl

pub none_up_to : {S : Type 0} (most : ℕ) (source : Option S) → HandsUpTo most (none_read source)
unfolding none_read
none_up_to most None = tt
none_up_to most (Some source) = omega arith

module _ {A B : Type 0} (source_a : Source A) (source_b : Source B) where
  -- what a command of one input writes, by a behaviour that says the same
  module _ {mine : Behaviour} (yours : Behaviour) (same : (one : Handed) (two : Option Handed) → mine.report one None ≡ yours.report one two) (same_settle : (two : Option Handed) (lines : List TextLine) → mine.settles None lines ≡ yours.settles two lines)
      (same_faults : (lines : List TextLine) → mine.faults lines ≡ yours.faults lines)
      {first : A} {out : Output} {fault : Option FaultValue} {first_after : A} {grown : Output}
      (same_kinds : (t : FaultValue) (read : InputRead) → TellsInput source_a mine.FirstKinds First read first_after t → TellsInput source_a yours.FirstKinds First read first_after t) (w : RunsBy source_a source_a mine first None out fault first_after None grown) where
    alone : w.two ≡ None
    alone = none_two source_a w.two w.two_reads

    none_with : (P : Option InputRead → Option Handed → Type 0) → P None None → P w.two None
    none_with P so = subst (λ two. P two None) (sym alone) so

    pub alone_writes : RunsBy source_a source_b yours first None out fault first_after None grown
    alone_writes = record {
      one = w.one;
      one_reads = w.one_reads;
      two = None;
      two_reads = tt;
      whole = λ one two reads others write memory. subst (λ r. IsReported r out.put fault grown) (same one two) (w.whole one None reads (none_with (OfBoth CameOf) tt) write memory);
      told = λ one two holds others is. subst (λ r. IsReported r out.put fault grown) (same one two) (w.told one None holds (none_with (OfBoth MayHold) tt) is);
      cut = λ is one two holds others.
          let c = w.cut is one None holds (none_with (OfBoth MayHold) tt) in
          (c.0, c.1, ap (λ (r : Report). r.output) (sym (same one two)) ∙ c.2, c.3);
      kept = λ other one two holds others.
          let k = w.kept other one None holds (none_with (OfBoth MayHold) tt) in
          (k.0, k.1, ap (λ (r : Report). r.output) (sym (same one two)) ∙ k.2, k.3);
      grows = w.grows;
      ended = λ none. ((w.ended none).0, tt);
      served = λ none. ((w.served none).0, tt);
      no_failed_write = w.no_failed_write;
      near = (
        w.near.0,
        λ one two holds others.
            near_as _ (IsWithin w.one.told one.text w.near.0 → HandsUpTo (yours.reaches two (take w.near.0 (text_lines one.text)) + block_size) None)
            (λ beside end. tt) same_faults (same_settle two) (grown.has_failed ≡ true) (grown.has_failed ≡ true) (IsFaultButWrite fault) (IsFaultButWrite fault)
            (λ size took. took) (λ size kept. kept) (λ bytes is stops. is stops) (w.near.1 one None holds (none_with (OfBoth MayHold) tt)),
      );
      named = λ t e. elim (w.named t e) [
        | inl tells ↦ elim tells [ inl tells ↦ inl (inl (same_kinds t w.one tells)) | inr none ↦ absurd (subst (λ two. TellsInputIf source_a mine.SecondKinds Second two None t) alone none) ]
        | inr tells ↦ inr tells
      ];
      no_failed = λ never. ((w.no_failed never).0, tt);
    }

  reads_alone : (two : Option InputRead) → ReadsSoIf source_a None two None → ReadsSoIf source_b None two None
  reads_alone None reads = tt
  reads_alone (Some read) reads = absurd reads

  tells_alone : (Kinds : Kind → Type 0) (two : Option InputRead) (t : FaultValue) → TellsInputIf source_a Kinds Second two None t → TellsInputIf source_b Kinds Second two None t
  tells_alone Kinds None t tells = absurd tells
  tells_alone Kinds (Some read) t tells = absurd tells

  -- what a command of one input does, if no second one is there
  pub behaves_alone : {behaviour : Behaviour} {first : A} {out : Output} {fault : Option FaultValue} {first_after : A} {grown : Output}
      → RunsBy source_a source_a behaviour first None out fault first_after None grown → RunsBy source_a source_b behaviour first None out fault first_after None grown
  behaves_alone {behaviour} w = record {
    one = w.one;
    one_reads = w.one_reads;
    two = w.two;
    two_reads = reads_alone w.two w.two_reads;
    whole = w.whole;
    told = w.told;
    cut = w.cut;
    kept = w.kept;
    grows = w.grows;
    ended = w.ended;
    served = λ none. ((w.served none).0, tt);
    no_failed_write = w.no_failed_write;
    near = w.near;
    named = λ t e. elim (w.named t e) [
      | inl tells ↦ elim tells [ inl tells ↦ inl (inl tells) | inr tells ↦ inl (inr (tells_alone behaviour.SecondKinds w.two t tells)) ]
      | inr tells ↦ inr tells
    ];
    no_failed = w.no_failed;
  }

-- Lemmas that tell faults apart.

-- Lemmas on what was taken of a reader's members and lines, and on what is still to come of them.

-- members after others
pub members_both : {A : Type 0} (past more : List (Member A)) (good : Good A) → with_members past (with_members more good) ≡ with_members (past ++ more) good
members_both past more good = ap (λ members. record { members = members; fault = good.fault }) (sym (append_assoc past more good.members))

-- the members that were taken begin those that were to come
pub begins_with : {A : Type 0} (old now : Good A) (past : List (Member A)) → old ≡ with_members past now → (more : List (Member A)) × (old.members ≡ past ++ more)
begins_with old now past c = (now.members, ap (λ g. g.members) c)

-- and those that are still to come lie after the first `count` lines
pub begins_beyond : {A : Type 0} (old now : Good A) (past : List (Member A)) (count : ℕ) → old ≡ with_members past now → IsBeyond count now
    → (more : List (Member A)) × (old.members ≡ past ++ more) × IsBeyond count (record { members = more; fault = old.fault })
begins_beyond old now past count c b = (now.members, ap (λ g. g.members) c, record { members = b.members; fault = subst (λ fault. IfSome fault (IsFaultBeyond count)) (sym (ap (λ g. g.fault) c)) b.fault })

-- the lines after some calls, and after one more
pub lines_on : (start now next : List TextLine) (given more : ℕ) → given ≤ more → now ≡ drop given start → next ≡ drop (more - given) now → next ≡ drop more start
lines_on start now next given more h e f =
    let same : given + (more - given) ≡ more = omega (arith, h) in
    f ∙ ap (drop (more - given)) e ∙ drop-drop (more - given) given start ∙ ap (λ n. drop n start) same

pub near_from_start : (start now : List TextLine) (given count bound : ℕ) → given ≤ count → now ≡ drop given start → bytes_in (drop (suc count - given) now) ≤ bound → bytes_in (drop (suc count) start) ≤ bound
near_from_start start now given count bound h e n = omega (arith, n, ap bytes_in (lines_on start now (drop (suc count - given) now) given (suc count) (omega (arith, h)) e refl))

-- line feeds among the bytes below the bound, of two pieces of which the first is below it
feeds_below : (bound : ℕ) (front back : List ℕ) → length front ≤ bound
    → line_feeds (take bound (front ++ back)) ≡ line_feeds front + line_feeds (take (bound - length front) back)
feeds_below bound front back h = grind (arith, (take-append-add front back (bound - length front)), (line_feeds-append front (take (bound - length front) back)))

-- the piece that was cut off, in two calls
pub cuts_both : {S : Type 0} (device : Source S) (old now new : LineReader S) (first : List ℕ) → Hands device old first now
    → end_told now ≡ false → bytes_taken now < 2 ^ 63 → (bytes : List ℕ) → Hands device now bytes new → CutsOff now bytes new → CutsOff old (first ++ bytes) new
cuts_both device old now new first hands told within bytes more cut =
    let counted = hands.counted in
    let fed = hands.fed told within in
    grind (arith, (feeds_below (2 ^ 63 - 1 - bytes_taken old) first bytes (omega arith)))

pub up_to : {A : Type 0} (less more : ℕ) (past : List (Member A)) → less ≤ more → All (λ m. m.line ≤ less) past → All (λ m. m.line ≤ more) past
up_to less more past h up k d i = omega (arith, up k d i)
