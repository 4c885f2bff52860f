-- The reports on two parts and on the whole, and from them those on any number of parts.
use Rattle.bt_lines.proofs.Std.{rules, arith, ◌≡◌, ℕ, false, List, [], ◌∷◌, ◌++◌, map, append-nil, append_assoc, Option, Some, None, is_none, flat_map-append}
use Rattle.bt_lines.specs.model.Fault.{FaultValue}
use Rattle.bt_bed.specs.model.Good.{Good, items_in}
use Rattle.bt_laws.specs.Parts.{AddUp, StopWithin, prefixes_begin, outputs_to_fault, unless_fault}
use Rattle.bt_bed.specs.model.Meeting.{Report}
use Rattle.bt_tool.specs.model.Written.{good_report, report_by, Written}
use Rattle.bt_laws.proofs.lemmas.parts.PartLines.{IsJoint, IsJointBy}

-- two parts, and the whole
pub record Adds (one two whole : Report) : Type 0 where
  pub parts : whole.fault ≡ None → (one.fault ≡ None) × (two.fault ≡ None)
  pub both : one.fault ≡ None → two.fault ≡ None → whole.fault ≡ None
  pub output : one.fault ≡ None → two.fault ≡ None → whole.output ≡ one.output ++ two.output

abbrev pub Stops : Report → Report → Report → Type 0
Stops one two whole = (rest : List ℕ) × (one.output ++ unless_fault one.fault two.output ≡ whole.output ++ rest)

-- both
abbrev pub Joins : Report → Report → Report → Type 0
Joins one two whole = Adds one two whole × Stops one two whole

pub stop_one : (part : Report) → StopWithin (part ∷ []) part
stop_one part = grind arith

stop_by : (fault : Option FaultValue) (first whole output outputs left : List ℕ) → outputs ≡ output ++ left
    → (rest : List ℕ) × (first ++ unless_fault fault output ≡ whole ++ rest) → (rest : List ℕ) × (first ++ unless_fault fault outputs ≡ whole ++ rest)
stop_by None first whole output outputs left more stops = grind (arith, (append_assoc first output left), (append_assoc whole stops.0 left))
stop_by (Some fault) first whole output outputs left more stops = stops

pub stop_more : (part : Report) (parts : List Report) (rest whole : Report) → StopWithin parts rest → Stops part rest whole → StopWithin (part ∷ parts) whole
stop_more part parts rest whole more stops = stop_by part.fault part.output whole.output rest.output (outputs_to_fault parts) more.0 more.1 stops

-- what a command of one input writes of the members of two parts; each command may have its own genome file
pub record Splits {A : Type 0} (one two whole : Written A) (ones twos : List A) : Type 0 where
  pub all : whole.whole (ones ++ twos) ≡ one.whole ones ++ two.whole twos
  pub first : whole.settled ones ≡ one.settled ones
  pub begin : (rest : List ℕ) × (one.whole ones ++ two.settled twos ≡ whole.settled (ones ++ twos) ++ rest)

abbrev pub Contiguous : {A : Type 0} → Option FaultValue → Option FaultValue → Option FaultValue → List A → List A → List A → Type 0
Contiguous None g h ones twos all = (all ≡ ones ++ twos) × (is_none h ≡ is_none g)
Contiguous (Some f) g h ones twos all = (all ≡ ones) × (is_none h ≡ false)

module _ {A : Type 0} (one two whole : Written A) (ones twos all : List A) (splits : Splits one two whole ones twos) where
  pub joins_by : (f g h : Option FaultValue) → Contiguous f g h ones twos all → Joins (report_by one ones f) (report_by two twos g) (report_by whole all h)
  joins_by f g h is = search rules

pub together : {A : Type 0} (f : Option FaultValue) (one two whole : Good A) → IsJointBy f one two whole → Contiguous f two.fault whole.fault (items_in one) (items_in two) (items_in whole)
together f one two whole is = grind arith

module _ {A : Type 0} (one two whole : Written A) (first second all : Good A) (joint : IsJoint first second all) (splits : Splits one two whole (items_in first) (items_in second)) where
  pub good_joins : Joins (good_report one first) (good_report two second) (good_report whole all)
  good_joins = joins_by one two whole (items_in first) (items_in second) (items_in all) splits first.fault second.fault all.fault (grind arith)

-- a run that wrote nothing, without a fault
abbrev pub nothing : Report
nothing = record { output = []; fault = None }

-- any number of parts, by two of them
module _ {T : Type 0} (join : List T → T) (report : T → Report) (Fits : List T → Type 0)
    (empty : report (join []) ≡ nothing)
    (one : (t : T) → report (join (t ∷ [])) ≡ report t)
    (less : (t : T) (ts : List T) → Fits (t ∷ ts) → Fits ts) where
  pub parts_add : ((t u : T) (ts : List T) → Fits (t ∷ u ∷ ts) → Adds (report t) (report (join (u ∷ ts))) (report (join (t ∷ u ∷ ts))))
      → (ts : List T) → Fits ts → AddUp (map report ts) (report (join ts))
  parts_add two [] fits = grind arith
  parts_add two (t ∷ []) fits = grind (arith, append-nil)
  parts_add two (t ∷ u ∷ ts) fits = grind (arith, (parts_add two (u ∷ ts) (less t (u ∷ ts) fits)))

  pub parts_stop : ((t u : T) (ts : List T) → Fits (t ∷ u ∷ ts) → Stops (report t) (report (join (u ∷ ts))) (report (join (t ∷ u ∷ ts))))
      → (ts : List T) → Fits ts → StopWithin (map report ts) (report (join ts))
  parts_stop two [] fits = grind arith
  parts_stop two (t ∷ []) fits = grind arith
  parts_stop two (t ∷ u ∷ ts) fits =
      stop_more (report t) (map report (u ∷ ts)) (report (join (u ∷ ts))) (report (join (t ∷ u ∷ ts))) (parts_stop two (u ∷ ts) (less t (u ∷ ts) fits)) (two t u ts fits)

  pub parts_both : ((t u : T) (ts : List T) → Fits (t ∷ u ∷ ts) → Joins (report t) (report (join (u ∷ ts))) (report (join (t ∷ u ∷ ts))))
      → (ts : List T) → Fits ts → AddUp (map report ts) (report (join ts)) × StopWithin (map report ts) (report (join ts))
  parts_both two ts fits = grind (arith, parts_add, parts_stop)

-- a prefix of what one part writes
pub prefixes_begin_whole : prefixes_begin
prefixes_begin_whole = grind (arith, flat_map-append, append_assoc)
