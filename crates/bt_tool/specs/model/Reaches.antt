-- How much of the second input the first lines of the first need.
use Rattle.std.specs.Prelude.{ℕ, Bool, List, Option, option_map, Some, None, [], ◌∷◌, take, if◌then◌else◌, ◌++◌}
use Rattle.bt_bed.specs.model.Feature.{Feature}
use Rattle.bt_bed.specs.model.Order.{Order}
use Rattle.bt_lines.specs.model.Fault.{FaultValue}
use Rattle.bt_lines.specs.model.Lines.{Handed, TextLine, bytes_in, text_lines}
use Rattle.bt_lines.specs.declared.fault.Input.TheVariants.{Second}
use Rattle.bt_bed.specs.model.Good.{Good, Member, bed_good, block_good}
use Rattle.std.specs.List.{list_all}
use Rattle.bt_sweep.specs.model.Hits.{decides}
use Rattle.bt_seq.specs.model.Masked.{line_decided}
use Rattle.bt_seq.specs.model.Fasta.{SequenceLine}
use Rattle.bt_tool.specs.model.TwoInputs.{records_on, lines_on}

-- the first record that decides all of these, if there is one
abbrev pub decider : Order → List Feature → List (Member Feature) → Option (Member Feature)
decider order as_given [] = None
decider order as_given (member ∷ members) =
    if list_all (λ a. decides order a member.item) as_given then Some member
    else decider order as_given members

-- the last line that is needed: that of this member, or if there is none that of the fault
abbrev pub last_line_needed : Option (Member Feature) → Option FaultValue → Option ℕ
last_line_needed (Some member) fault = Some member.line
last_line_needed None None = None
last_line_needed None (Some fault) = option_map (λ place. place.line) fault.place

-- the bytes of the lines up to one of this number, or of all
abbrev pub bytes_up_to : List TextLine → Option ℕ → ℕ
bytes_up_to lines None = bytes_in lines
bytes_up_to lines (Some line) = bytes_in (take line lines)

-- how much of these lines the records of the first input need
abbrev pub records_need : Order → List Feature → Good Feature → List TextLine → ℕ
records_need order as_given second lines =
    bytes_up_to lines (last_line_needed (decider order as_given second.members) second.fault)

-- How much of the second input the records on these lines of the first need: its lines up to the
-- first record that decides all of them. If none does, it is its lines up to the one at fault, if one
-- is. A limit on what is held makes it no more.
abbrev pub intersect_reaches : Order → Handed → List TextLine → ℕ
intersect_reaches order second lines =
    records_need order (records_on order lines) (bed_good Second order second) (text_lines second.text)

-- the first record that with those before it decides all of these lines, if there is one
abbrev pub last_needed : List SequenceLine → List Feature → List (Member Feature)
    → Option (Member Feature)
last_needed lines before [] = None
last_needed lines before (member ∷ members) =
    if list_all (λ line. line_decided line (before ++ member.item ∷ [])) lines then Some member
    else last_needed lines (before ++ member.item ∷ []) members

-- how much of these lines the lines of sequences need
abbrev pub lines_need : List SequenceLine → Good Feature → List TextLine → ℕ
lines_need items second lines =
    bytes_up_to lines (last_line_needed (last_needed items [] second.members) second.fault)

-- How much of the second input the first lines of the first need: its lines up to the first
-- record that with those before it decides all of them. If none does, it is its lines up to the one at
-- fault, if one is.
abbrev pub mask_reaches : Bool → Handed → List TextLine → ℕ
mask_reaches full second lines =
    lines_need (lines_on full lines) (block_good Second second) (text_lines second.text)
