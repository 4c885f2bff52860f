use Rattle.bt_lines.proofs.Std.{arith, ◌≡◌, ◌∙◌, refl, rules, sym, Some}
use Rattle.bt_bed.proofs.lemmas.order.TableLemmas.{lost_item, lost_wrong}
use Rattle.bt_bed.proofs.lemmas.read.good.SaidLemmas.{bed_of_line, wrong_is_of_line}
use Rattle.bt_bed.proofs.lemmas.read.batch.RecordsLemmas.{elsewhere_item, elsewhere_wrong, held_same, says_nothing, says_wrong, says_misplaced, says_record}
use Rattle.bt_bed.specs.calls.Bed.{feature_lent}
use Rattle.bt_bed.specs.inside.OrderedLookahead.{goes_on, last_in, name_in, start_in}
use Rattle.bt_bed.proofs.read.lookahead.OrderedLookahead.take_line.Goals as goal
use Rattle.bt_bed.proofs.read.lookahead.OrderedLookahead.take_line.Goals.{then-is_some, else-is_some}

pub returns-in-Ok-None : goal.returns-in-Ok-None
returns-in-Ok-None g c = grind (arith, says_nothing)

pub at_line-requires : goal.at_line-requires
at_line-requires g c = bed_of_line c.in-Err.kind (wrong_is_of_line c.args.text.now c.in-Err.kind c.in-Err.ensures.said)

pub returns-in-Err : goal.returns-in-Err
returns-in-Err g c =
    let says = says_wrong _ _ c.args.text.now c.in-Err.kind c.in-Err.ensures.said in
    (lost_wrong c.args.place _ _ c.in-Err.kind says c.at_line.ensures, elsewhere_wrong _ _ c.in-Err.kind says, record { rule = refl; last = refl })

pub returns-in-Err-check : goal.returns-in-Err-check
returns-in-Err-check g c =
    let said = rw c.in-Ok-Some.field-0-is at c.in-Ok-Some.ensures.said in
    let says = says_misplaced _ _ c.args.text.now (feature_lent c.in-Ok-Some.bed) c.in-Err-check.kind said c.in-Err-check.ensures in
    (lost_wrong c.args.place _ _ c.in-Err-check.kind says c.at_line-in-Err-check.ensures, elsewhere_wrong _ _ c.in-Err-check.kind says, record { rule = refl; last = refl })

pub returns-then-is_same : goal.returns-then-is_same
unfolding last_in name_in start_in
returns-then-is_same g c =
    let bed = feature_lent c.in-Ok-Some.bed in
    let said = rw c.in-Ok-Some.field-0-is at c.in-Ok-Some.ensures.said in
    let is : c.if-is_some.is_same ≡ goes_on c.args.self.now bed.chrom = elim c.if-is_some.branch [ then-is_some w ↦ search rules | else-is_some w ↦ search rules ] in
    let held = held_same c.args.self.now.last_name.items bed.chrom c.args.self.now.last (sym is ∙ c.if-is_same.true) in
    record {
      said = Some bed;
      says = says_record _ _ c.args.text.now bed said c.in_default.ensures;
      is = refl;
      ahead = rw c.if-is_same.true (record { name_is = held.0; start_is = held.1 });
      keeps = record { rule = refl; last = refl };
    }

pub returns-in-Ok : goal.returns-in-Ok
unfolding last_in name_in start_in
returns-in-Ok g c =
    let bed = feature_lent c.in-Ok-Some.bed in
    let said = rw c.in-Ok-Some.field-0-is at c.in-Ok-Some.ensures.said in
    let is : c.if-is_some.is_same ≡ goes_on c.args.self.now bed.chrom = elim c.if-is_some.branch [ then-is_some w ↦ search rules | else-is_some w ↦ search rules ] in
    record {
      said = Some bed;
      says = says_record _ _ c.args.text.now bed said c.in_default.ensures;
      is = refl;
      ahead = rw c.if-is_same.false
          (record {
            name_is = search rules;
            start_is = grind arith;
          });
      keeps = record { rule = refl; last = refl };
    }

pub returns-in-Err-copied : goal.returns-in-Err-copied
unfolding last_in
returns-in-Err-copied g c =
    let bed = feature_lent c.in-Ok-Some.bed in
    let said = rw c.in-Ok-Some.field-0-is at c.in-Ok-Some.ensures.said in
    let is : c.if-is_some.is_same ≡ goes_on c.args.self.now bed.chrom = elim c.if-is_some.branch [ then-is_some w ↦ search rules | else-is_some w ↦ search rules ] in
    let says = says_record _ _ c.args.text.now bed said c.in_default.ensures in
    (lost_item c.args.place _ _ bed says c.no_memory.ensures, elsewhere_item c.args.self.now.last_name.items c.args.self.now.last _ bed says (sym is ∙ c.if-is_same.false), record { rule = refl; last = refl })
