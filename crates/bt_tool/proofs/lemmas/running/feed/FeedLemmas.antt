-- What was taken of a reader's members and written of them so far, whatever they are, and what is so when the reading stops. By it, feeding an engine with the records of a reader.
use Rattle.bt_lines.proofs.Std.{rules, refl, ◌≡◌, ℕ, suc, ◌+◌, ◌<◌, ◌≤◌, true, List, [], ◌∷◌, ◌++◌, length, Option, None, Some, Result, Ok, Err, sym, ap, ◌∙◌, subst, append-nil, append_assoc, length-append, arith, inl, inr, ◌⊎◌, map-append, All-head, All-nil, All-tail}
use Rattle.bt_lines.specs.declared.device.Source.{Ghosts as Source}
use Rattle.bt_lines.proofs.lemmas.Writer.{grown_works, grows_nothing, grows_both}
use Rattle.bt_lines.specs.model.Fault.{FaultValue}
use Rattle.bt_lines.specs.calls.Faults.{write_failed, no_memory}
use Rattle.bt_lines.specs.model.Lines.{TextLine}
use Rattle.bt_lines.specs.calls.Output.{Output, HoldsBlock, IsPrefixOf, Grows, block_size, Grown, WorksAsBefore, SinkFailed}
use Rattle.bt_lines.specs.calls.Reader.{Hands, lines_given}
use Rattle.bt_lines.specs.declared.fault.Kind.{Kind}
use Rattle.bt_lines.specs.declared.fault.Fault.{Fault}
use Rattle.bt_lines.specs.calls.Names.{fault_value}
use Rattle.bt_bed.specs.model.Feature.{Feature, interval_of, intervals_of, Interval}
use Rattle.bt_bed.specs.calls.Orders.{AreNonEmpty, ArePlaced, IsTotal}
use Rattle.bt_bed.specs.model.BedLine.{IsBedKind}
use Rattle.bt_bed.specs.model.Good.{Format, Member, bed_format}
use Rattle.bt_bed.specs.model.Sorted.{sorting_of, Locus}
use Rattle.bt_bed.proofs.lemmas.read.batch.RecordsLemmas.{wrong_of_bed}
use Rattle.bt_bed.proofs.lemmas.order.OrderLemmas.{placed_prefix}
use Rattle.bt_bed.specs.model.Order.{Order}
use Rattle.bt_bed.specs.calls.Reading.{MemberReader, coming, members_from}
use Rattle.bt_bed.specs.calls.Records.{below, last_locus, order_in, view_of}
use Rattle.bt_bed.specs.declared.order.ChromOrder.{Ghosts}
use Rattle.bt_bed.specs.declared.read.records.Records.{Records}
use Rattle.bt_bed.specs.calls.Batch.{Passes as PassesBatch}
use Rattle.bt_bed.specs.calls.CursorLaws.{batch_gives_more, batch_gives_none}
use Rattle.bt_bed.specs.calls.CursorOf.{batch_cursor}
use Rattle.bt_bed.specs.declared.read.batch.Batch.{Batch}
use Rattle.bt_runs.specs.calls.Engine.{EngineDef, FailsAtGiven, FeedsBatch, NotTaken, TakesEach}
use Rattle.bt_tool.specs.inside.Feed.{HasPut, AreInOrder, IsFresh, Took, TookButBlock, FeedsAll, FeedsUpTo, ConsumesGiven, HasTaken, IsReadFor, PassesMembers, member_items}
use Rattle.bt_tool.proofs.lemmas.running.members.MemberLemmas.{IsFilled, IsOver, IsStopped, bytes_more, items_take, passes_all, passes_end, passes_fill, passes_start, passes_stop, passes_take, read_alone, read_at_stop, read_before, read_here}
use Rattle.bt_tool.proofs.lemmas.running.feed.WritingLemmas.{begins_with}
use Rattle.bt_tool.proofs.lemmas.running.members.PassedLemmas.{said_in_order}

-- a sink that took a prefix of the lines took a prefix of all
pub front_all : (took put before done lines whole : List ℕ) → whole ≡ done ++ lines → put ≡ before ++ done → IsPrefixOf took put lines → IsPrefixOf took before whole
unfolding IsPrefixOf
front_all took put before done lines whole e p f = (f.0, f.1 ∙ ap (λ l. l ++ lines) p ∙ append_assoc before done lines ∙ ap (λ l. before ++ l) (sym e))

pub works_both : (old mid new : Output) → WorksAsBefore old mid → WorksAsBefore mid new → WorksAsBefore old new
works_both old mid new w more = record {
  served = more.served ∙ w.served;
  sink_served = more.sink_served ∙ w.sink_served;
  put = grows_both old.put mid.put new.put w.put more.put;
  block = λ block. more.block (w.block block);
}

-- a text grows by the lines
pub text_grows : (old new before done lines whole : List ℕ) → whole ≡ done ++ lines → new ≡ old ++ lines → old ≡ before ++ done → new ≡ before ++ whole
text_grows old new before done lines whole w p e = p ∙ ap (λ l. l ++ lines) e ∙ append_assoc before done lines ∙ ap (λ l. before ++ l) (sym w)

-- and has no less bytes
pub grows_longer : (old new : List ℕ) (size : ℕ) → Grows old new → size ≤ length old → size ≤ length new
grows_longer old new size g h = omega (arith, ap length g.1, length-append old g.0, h)

pub took_more_than : (took more : List ℕ) (size : ℕ) → Grows took more → size ≤ length took + block_size → size ≤ length more + block_size
took_more_than took more size g h = omega (arith, ap length g.1, length-append took g.0, h)

-- an output later on: the sink took no less, and unless a write failed no less was put
pub record GoesOn (old new : Output) : Type 0 where
  pub took : Grows old.took new.took
  pub put : (new.has_failed ≡ true) ⊎ Grows old.put new.put
  pub stays_failed : old.has_failed ≡ true → new.has_failed ≡ true

-- an output goes on as it is, after a failed write, or as it works
pub goes_same : (out : Output) → GoesOn out out
goes_same out = record { took = grows_nothing out.took; put = inr (grows_nothing out.put); stays_failed = λ failed. failed }

pub goes_failed : (old new : Output) → Grows old.took new.took → new.has_failed ≡ true → GoesOn old new
goes_failed old new grows failed = record { took = grows; put = inl failed; stays_failed = λ was. failed }

pub goes_works : (old new : Output) → Grows old.took new.took → WorksAsBefore old new → GoesOn old new
goes_works old new grows works = record { took = grows; put = inr works.put; stays_failed = λ was. works.served ∙ was }

put_later : (Was Failed : Type 0) (put later : List ℕ) (size : ℕ) → (Was → Failed) → Failed ⊎ Grows put later → Was ⊎ (size ≤ length put) → Failed ⊎ (size ≤ length later)
put_later Was Failed put later size stays goes (inl was) = inl (stays was)
put_later Was Failed put later size stays (inl failed) (inr fits) = inl failed
put_later Was Failed put later size stays (inr grows) (inr fits) = inr (grows_longer put later size grows fits)

-- what the sink took stays taken, and what was put stays put
pub took_later : (out grown later : Output) (bytes : List ℕ) → Grows out.took grown.took → GoesOn grown later → TookButBlock out bytes grown
    → TookButBlock out bytes later
took_later out grown later bytes f goes h = record {
  took = took_more_than grown.took later.took (length (out.put ++ bytes)) goes.took h.took;
  put = put_later (grown.has_failed ≡ true) (later.has_failed ≡ true) grown.put later.put (length (out.put ++ bytes)) goes.stays_failed goes.put h.put;
}

-- of lines that were put, the sink took all but a block
pub took_lines : (out grown : Output) (lines : List ℕ) → HasPut out lines grown → TookButBlock out lines grown
took_lines out grown lines put = record {
  took = omega (arith, ap length put.puts, ap length put.block.1, length-append grown.took put.block.0, put.block.2);
  put = inr (omega (arith, ap length put.puts));
}

works_same : (out : Output) → WorksAsBefore out out
works_same out = record { served = refl; sink_served = refl; put = grows_nothing out.put; block = λ block. block }

-- nothing was put yet
pub put_none : (out : Output) → HoldsBlock out.took out.put → HasPut out [] out
put_none out block = record { puts = sym (append-nil out.put); works = works_same out; block = block; grows = grows_nothing out.took }

-- the output grew by more bytes
pub put_more : (out old new : Output) (bytes more : List ℕ) → HasPut out bytes old → Grown old more new → HasPut out (bytes ++ more) new
put_more out old new bytes more put grown = record {
  puts = text_grows old.put new.put out.put bytes more (bytes ++ more) refl grown.appends put.puts;
  works = works_both out old new put.works (grown_works old new more grown);
  block = grown.block put.block;
  grows = grows_both out.took old.took new.took put.grows grown.grows;
}

-- members of a reader were taken, and what they settle was written
pub record Fed {S A State : Type 0} (settled : List A → List ℕ) (device : Source S) (old : MemberReader S A State) (out : Output) (past : List (Member A)) (now : MemberReader S A State) (grown : Output) : Type 0 where
  pub passes : PassesMembers device old past now
  pub put : HasPut out (settled (member_items past)) grown

-- none yet
pub fed_none : {S A State : Type 0} (settled : List A → List ℕ) (device : Source S) (old : MemberReader S A State) (out : Output) → IsFresh device old → settled [] ≡ [] → HoldsBlock out.took out.put
    → Fed settled device old out [] old out
fed_none settled device old out fresh nothing block = grind (arith, (passes_start device old fresh), rules)

module _ {S A State : Type 0} {settled : List A → List ℕ} {device : Source S} {old : MemberReader S A State} {out : Output} {past : List (Member A)} {now : MemberReader S A State} {grown : Output}
    (g : Fed settled device old out past now grown) {new : MemberReader S A State} where
  -- one more member is buffered
  pub fed_fill : IsFilled device now new → Fed settled device old out past new grown
  fed_fill fills = record { passes = passes_fill device old past now g.passes new fills; put = g.put }

  module _ {Kinds : Kind → Type 0} {Sorted : List A → Type 0} where
    -- these members were taken when the reading stops
    abbrev taken : (hands : (bytes : List ℕ) × Hands device now.below bytes new.below) → Sorted (member_items past) → IsReadFor device old (g.passes.bytes.0 ++ hands.0) past past new → Took settled Kinds Sorted device old out past new grown
    taken hands sorted read = record {
      bytes = bytes_more device old past now g.passes new hands;
      sorted = sorted;
      grows = g.put.grows;
      before = past;
      read = read;
      kept = took_lines out grown (settled (member_items past)) g.put;
    }

    -- the reading stops: at the end of the input
    pub fed_all : {Stands : List A → Type 0} → IsOver device now new → Sorted (member_items past) → Stands (member_items past) → FeedsAll settled Kinds Sorted device Stands old out new grown
    unfolding passes_end
    fed_all over sorted stands = record {
      past = past;
      took = taken over.ends.stays.bytes sorted (read_here device old past new (passes_end device old past now g.passes new over));
      whole = passes_all device old past now g.passes new over;
      stands = stands;
      puts = g.put.puts;
      works = g.put.works;
      served = over.ends.served ∙ g.passes.served;
      told = over.ends.told;
      clear = over.ends.below_goes;
      within = (over.kept g.passes.kept).within over.ends.below_goes;
    }

    -- or at a fault
    pub fed_up_to : {fault : FaultValue} → ((state : State) (line : TextLine) (kind : Kind) → old.format.says state line ≡ Err kind → Kinds kind) → IsStopped device now fault new → Sorted (member_items past)
        → FeedsUpTo settled Kinds Sorted device old out fault new grown
    fed_up_to {fault} of_format stopped sorted =
        record {
          past = past;
          took = taken stopped.answers.stays.bytes sorted (read_at_stop device old past now g.passes new fault stopped);
          begins = (read_at_stop device old past now g.passes new fault stopped).begins;
          cause = inl (record { cause = (passes_stop device old past now g.passes Kinds of_format new fault stopped).cause; puts = g.put.puts; works = g.put.works });
          exact = λ other. g.put.puts;
        }

-- members were taken, what those before the last one settle was written, and the last one failed
module _ {S A State : Type 0} {settled : List A → List ℕ} {Kinds : Kind → Type 0} {Sorted : List A → Type 0} {device : Source S} {old : MemberReader S A State} {out : Output}
    {before given : List (Member A)} (a : A) (items : member_items given ≡ member_items before ++ a ∷ []) {new : MemberReader S A State} (passes : PassesMembers device old given new) (read : IsReadFor device old passes.bytes.0 before given new)
    {through : Output} (put : HasPut out (settled (member_items before)) through) (sorted : Sorted (member_items before ++ a ∷ [])) {fault : FaultValue} {later : Output} (lines : List ℕ)
    (more : settled (member_items before ++ a ∷ []) ≡ settled (member_items before) ++ lines) where
  -- what is settled with it couldn't be written
  pub fails_writing : fault ≡ write_failed → IsPrefixOf later.took through.put lines → later.has_failed ≡ true → SinkFailed later → Grows through.took later.took
      → FeedsUpTo settled Kinds Sorted device old out fault new later
  fails_writing is front fails sink grows = record {
    past = given;
    took = record {
      bytes = passes.bytes;
      sorted = rw items sorted;
      grows = grows_both out.took through.took later.took put.grows grows;
      before = before;
      read = read_alone read;
      kept = took_later out through later (settled (member_items before)) put.grows (goes_failed through later grows fails) (took_lines out through (settled (member_items before)) put);
    };
    begins = λ rest follows. begins_with (coming (passes.bytes.0 ++ rest) old) (coming rest new) given (passes.come rest follows);
    cause = inr (record {
      is = is;
      cuts = record {
        front = front_all later.took through.put out.put (settled (member_items before)) lines (settled (member_items given)) (ap settled items ∙ more) put.puts front;
        failed = fails;
        sink_failed = sink;
      };
      served = passes.served;
    });
    exact = λ other. absurd (other is);
  }

  -- what is settled with it was put, but memory ran out with it
  pub fails_growing : fault ≡ no_memory → later.put ≡ through.put ++ lines → WorksAsBefore through later → Grows through.took later.took → FeedsUpTo settled Kinds Sorted device old out fault new later
  fails_growing is appends works grows =
      let now : HasPut out (settled (member_items given)) later = record {
        puts = text_grows through.put later.put out.put (settled (member_items before)) lines (settled (member_items given)) (ap settled items ∙ more) appends put.puts;
        works = works_both out through later put.works works;
        block = works.block put.block;
        grows = grows_both out.took through.took later.took put.grows grows;
      } in
      record {
        past = given;
        took = record {
          bytes = passes.bytes;
          sorted = rw items sorted;
          grows = now.grows;
          before = given;
          read = read_here device old given new passes;
          kept = took_lines out later (settled (member_items given)) now;
        };
        begins = λ rest follows. begins_with (coming (passes.bytes.0 ++ rest) old) (coming rest new) given (passes.come rest follows);
        cause = inl (record { cause = inr (record { is = is; served = passes.served }); puts = now.puts; works = now.works });
        exact = λ other. now.puts;
      }

-- ---- an engine that is given records one after another

-- it is after these, and the lines that they settle were put
pub record EngineAt {E : Type 0} (definition : EngineDef E) (first : E) (out : Output) (past : List Feature) (engine : E) (grown : Output) : Type 0 where
  pub stands : definition.is_after first past engine
  pub put : HasPut out (definition.settled first past) grown

full_front : (front rest : List Interval) → AreNonEmpty (front ++ rest) → AreNonEmpty front
full_front [] rest full = All-nil (λ (r : Interval). r.start < r.stop)
full_front (r ∷ front) rest full = grind (arith, (full_front front rest (All-tail (λ (r : Interval). r.start < r.stop) r (front ++ rest) full)), All-head)

-- the first of records that are in order are
pub order_front : (order : Order) (front rest : List Feature) → AreInOrder order (front ++ rest) → AreInOrder order front
order_front order front rest sorted =
    let parts : intervals_of (front ++ rest) ≡ intervals_of front ++ intervals_of rest = map-append interval_of front rest in (
      placed_prefix order (intervals_of front) (intervals_of rest) (subst (ArePlaced order) parts sorted.0),
      full_front (intervals_of front) (intervals_of rest) (subst AreNonEmpty parts sorted.1),
    )

pub at_each : {E : Type 0} {definition : EngineDef E} {first : E} {out : Output} (order : Order)
    → ((past : List Feature) → ArePlaced order (intervals_of past) → AreNonEmpty (intervals_of past) → definition.takes first past)
    → (past records : List Feature) (engine fed : E) (grown later : Output) → AreInOrder order (past ++ records) → EngineAt definition first out past engine grown
    → TakesEach definition engine grown records fed later → EngineAt definition first out (past ++ records) fed later
at_each order takes past [] engine fed grown later sorted at t = rw (append-nil past, t.0, t.1) at
at_each {definition = definition} {first = first} {out = out} order takes past (r ∷ records) engine fed grown later sorted at t =
    let all : AreInOrder order ((past ++ r ∷ []) ++ records) = rw append_assoc sorted in
    let one = order_front order (past ++ r ∷ []) records all in
    let may = takes (past ++ r ∷ []) one.0 one.1 in
    let fed_one = t.2 in
    let puts = fed_one.answers.puts first past at.stands may in
    subst (λ (l : List Feature). EngineAt definition first out l fed later) (append_assoc past (r ∷ []) records)
    (at_each order takes (past ++ r ∷ []) records t.0 fed t.1 later all
    (record {
      stands = fed_one.answers.stands first past at.stands may;
      put = record {
        puts = text_grows grown.put (t.1).put out.put (definition.settled first past) puts.bytes (definition.settled first (past ++ r ∷ [])) puts.goes_on puts.appends at.put.puts;
        works = works_both out grown t.1 at.put.works fed_one.answers.works;
        block = fed_one.answers.works.block at.put.block;
        grows = grows_both out.took grown.took (t.1).took at.put.grows fed_one.grows;
      };
    })
    t.3)

-- ---- the run

module _ {S O E : Type 0} {ghosts : Ghosts O} (definition : EngineDef E) (first : E) (device : Source S) (old : Records S O ghosts) (out : Output) where
  -- the records so far were taken
  pub record Going (now : Records S O ghosts) (engine : E) (grown : Output) : Type 0 where
    pub past : List (Member Feature)
    pub fed : Fed (definition.settled first) device (view_of old) out past (view_of now) grown
    pub order : order_in now ≡ order_in old
    pub stands : definition.is_after first (member_items past) engine

module _ {S O E : Type 0} {ghosts : Ghosts O} {definition : EngineDef E} {first : E} {device : Source S} {old : Records S O ghosts} {out : Output} where
  -- before the first record
  pub going_start : IsFresh device (view_of old) → definition.is_after first [] first → definition.settled first [] ≡ [] → HoldsBlock out.took out.put → Going definition first device old out old first out
  going_start fresh stands nothing block = grind (arith, (passes_start device (view_of old) fresh), (put_none out block))

  module _ (is_bed : (view_of old).format ≡ bed_format (sorting_of (order_in old))) (total : IsTotal (order_in old)) (none_last : last_locus old ≡ None)
      (takes : (past : List Feature) → ArePlaced (order_in old) (intervals_of past) → AreNonEmpty (intervals_of past) → definition.takes first past)
      {now : Records S O ghosts} {engine : E} {grown : Output} (g : Going definition first device old out now engine grown) where
    abbrev StopsUpTo : FaultValue → Records S O ghosts → Output → Type 0
    StopsUpTo fault new later = FeedsUpTo (definition.settled first) (IsBedKind (order_in old)) (AreInOrder (order_in old)) device (view_of old) out fault (view_of new) later

    in_order : (past : List (Member Feature)) (new : MemberReader S Feature (Option Locus)) → PassesMembers device (view_of old) past new → AreInOrder (order_in old) (member_items past)
    in_order past new passes = grind (arith, said_in_order)

    -- a record is buffered
    pub going_fill : (new : Records S O ghosts) → IsFilled device (view_of now) (view_of new) → order_in new ≡ order_in now → Going definition first device old out new engine grown
    going_fill new fills same = grind (arith, (fed_fill g.fed fills))

    -- after the last record
    pub feeds_all : (new : Records S O ghosts) → IsOver device (view_of now) (view_of new)
        → FeedsAll (definition.settled first) (IsBedKind (order_in old)) (AreInOrder (order_in old)) device (λ past. definition.is_after first past engine) (view_of old) out (view_of new) grown
    feeds_all new over = fed_all g.fed over (in_order g.past (view_of now) g.fed.passes) g.stands

    -- the reader reported a fault
    pub stops_reading : (new : Records S O ghosts) (fault : FaultValue) → IsStopped device (view_of now) fault (view_of new) → StopsUpTo fault new grown
    stops_reading new fault stopped =
        fed_up_to g.fed
        (λ state line kind says. wrong_of_bed (order_in old) state line.text kind (ap (λ (f : Format Feature (Option Locus)). f.says state line) (sym is_bed) ∙ says))
        stopped (grind (arith, said_in_order))

    at_now : EngineAt definition first out (member_items g.past) engine grown
    at_now = record { stands = g.stands; put = g.fed.put }

    -- records that were buffered were taken
    pub going_taken : (new : Records S O ghosts) (fed : E) (later : Output) (records : List Feature) → HasTaken device (view_of now) records (view_of new) → order_in new ≡ order_in now
        → TakesEach definition engine grown records fed later → Going definition first device old out new fed later
    going_taken new fed later records has same taken =
        let passes = passes_take device (view_of old) g.past (view_of now) g.fed.passes records (view_of new) has in
        let items = items_take g.past (suc (lines_given (below now))) records in
        let at = at_each (order_in old) takes (member_items g.past) records engine fed grown later (subst (AreInOrder (order_in old)) items (grind (arith, said_in_order))) at_now taken in
        grind arith

    -- one of them wasn't
    module _ {fault : Fault} {new : Records S O ghosts} {fed : E} {later : Output} {first_batch last_batch : Batch} (consumes : ConsumesGiven device now first_batch last_batch new)
        (f : FailsAtGiven definition batch_cursor engine first_batch grown fault fed last_batch later) where
      abbrev records : List Feature
      records = f.takes.records

      has : HasTaken device (view_of now) (records ++ f.r ∷ []) (view_of new)
      has = consumes.takes (records ++ f.r ∷ []) (batch_gives_more first_batch f.before last_batch records (f.r ∷ []) f.takes.given f.given)

      abbrev from : ℕ
      from = suc (lines_given (below now))

      abbrev before : List (Member Feature)
      before = g.past ++ members_from from records

      abbrev given : List (Member Feature)
      given = g.past ++ members_from from (records ++ f.r ∷ [])

      before_items : member_items before ≡ member_items g.past ++ records
      before_items = items_take g.past from records

      given_items : member_items given ≡ member_items before ++ f.r ∷ []
      given_items = items_take g.past from (records ++ f.r ∷ []) ∙ sym (append_assoc (member_items g.past) records (f.r ∷ [])) ∙ ap (λ (l : List Feature). l ++ f.r ∷ []) (sym before_items)

      abbrev passes : PassesMembers device (view_of old) given (view_of new)
      passes = passes_take device (view_of old) g.past (view_of now) g.fed.passes (records ++ f.r ∷ []) (view_of new) has

      sorted_given : AreInOrder (order_in old) (member_items before ++ f.r ∷ [])
      sorted_given = subst (AreInOrder (order_in old)) given_items (in_order given (view_of new) passes)

      at_mid : EngineAt definition first out (member_items before) f.mid f.through
      at_mid =
          subst (λ (l : List Feature). EngineAt definition first out l f.mid f.through) (sym before_items)
          (at_each (order_in old) takes (member_items g.past) records engine f.mid grown f.through
          (subst (AreInOrder (order_in old)) before_items (order_front (order_in old) (member_items before) (f.r ∷ []) sorted_given)) at_now f.takes.taken)

      read : IsReadFor device (view_of old) g.fed.passes.bytes.0 before given (view_of new)
      read = read_before device (view_of old) g.past (view_of now) g.fed.passes records f.r (view_of new) has

      not_taken : definition.takes first (member_items before ++ f.r ∷ []) → definition.fault f.mid ≡ None → Grows (f.through).took later.took → NotTaken definition f.mid f.r f.through (fault_value fault) fed later → StopsUpTo (fault_value fault) new later
      unfolding passes_take
      not_taken may going grows (inl again) = absurd (let apart : None ≡ Some (fault_value fault) = sym going ∙ again.is in cc)
      not_taken may going grows (inr (inl fails)) =
          let cuts = fails.cuts first (member_items before) at_mid.stands may in
          fails_writing f.r given_items passes read at_mid.put sorted_given cuts.bytes cuts.goes_on fails.is cuts.front fails.failed fails.sink_failed grows
      not_taken may going grows (inr (inr out_of)) =
          let puts = out_of.puts first (member_items before) at_mid.stands may in
          fails_growing f.r given_items passes read at_mid.put sorted_given puts.bytes puts.goes_on out_of.is puts.appends out_of.works grows

      pub stops_feeding : StopsUpTo (fault_value fault) new later
      stops_feeding =
          not_taken (takes (member_items before ++ f.r ∷ []) sorted_given.0 sorted_given.1) (f.fails.going first (member_items before) at_mid.stands) f.fails.grows f.fails.answers

-- an engine that is after some records has failed at one
pub failed_at : {E : Type 0} {definition : EngineDef E} {engine : E} {batch : Batch} {out : Output} {fault : Fault} {fed : E} {last : Batch} {grown : Output}
    → FeedsBatch definition batch_cursor engine batch out {A = Unit {0}} (Err fault) fed last grown → (first : E) (past : List Feature) → definition.is_after first past engine
    → FailsAtGiven definition batch_cursor engine batch out fault fed last grown
failed_at p1 first past stands = grind arith

-- the records of a batch that an engine was given
pub given_by : {E A : Type 0} (definition : EngineDef E) (engine : E) (first : Batch) (out : Output) (result : Result A Fault) (fed : E) (last : Batch) (grown : Output)
    → FeedsBatch definition batch_cursor engine first out result fed last grown → (records : List Feature) × PassesBatch first records last
given_by definition engine first out (Ok done) fed last grown f = (f.0.records, f.0.given)
given_by definition engine first out (Err fault) fed last grown (inl f) = ([], rw f.same_cursor (batch_gives_none first))
given_by definition engine first out (Err fault) fed last grown (inr f) = (f.takes.records ++ f.r ∷ [], batch_gives_more first f.before last f.takes.records (f.r ∷ []) f.takes.given f.given)
