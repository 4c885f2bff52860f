-- What a list of words means: the plan, or the fault of its usage.
use Rattle.std.specs.Prelude.{ℕ, ◌+◌, Bool, List, [], ◌∷◌, ◌++◌, ◌||◌, ◌&&◌, false, true, not, Option, Some, None, Result, Ok, Err, bytes_eq, codes, count_by, drop, if◌then◌else◌, is_some, length, nat_lt, option_and_then, option_map, option_to_list, unwrap_or}
use Rattle.std.specs.List.{list_any}
use Rattle.std.specs.Option.{option_map_or, option_or}
use Rattle.bt_bed.specs.model.BedLine.{strand_named}
use Rattle.bt_lines.specs.model.Lines.{value_of as number_of}
use Rattle.bt_runs.specs.declared.merge.merge_strand.MergeStrand.{MergeStrand}
use Rattle.bt_runs.specs.declared.merge.merge_strand.MergeStrand.TheVariants.{All, Each, One}
use Rattle.bt_seq.specs.declared.mask.mask_how.MaskHow.{MaskHow}
use Rattle.bt_seq.specs.declared.mask.mask_how.MaskHow.TheVariants.{Soft, Hard}
use Rattle.bt_sweep.specs.declared.hits.hit_rule.HitRule.{HitRule}
use Rattle.bt_sweep.specs.declared.output.shape.Shape.{Shape}
use Rattle.bt_sweep.specs.declared.output.shape.Shape.TheVariants.{Cut, OrigA, CutAndB, OrigBoth, Overlap, Once, Missing, Count}
use Rattle.bt_tool.specs.declared.planning.plan_type.Command.{Command}
use Rattle.bt_tool.specs.declared.options.tool.Tool.{Tool}
use Rattle.bt_tool.specs.declared.options.tool.Tool.TheVariants.{Merge, Complement, Intersect, Subtract, Coverage, BamToBed, MaskFasta}
use Rattle.bt_tool.specs.declared.options.usage.Usage.{Usage}
use Rattle.bt_tool.specs.model.Table.{character_of, Word, Table, command_named, table_of, takes}
use Rattle.bt_tool.specs.model.Fraction.{fraction_of}
use Rattle.bt_tool.specs.model.Usage.{Item, items_of, words_spelled, no_command, unknown_option, value_missing, bad_value, required_missing, options_exclusive, input_named_twice}
use Rattle.bt_tool.specs.declared.planning.plan_type.Command.TheVariants as does

-- the names of the inputs and of the output
pub record Named : Type 0 where
  pub genome : Option Word
  pub first : Word
  pub second : Option Word
  pub output : Option Word

-- a plan, its names as bytes
pub record PlanSeen : Type 0 where
  pub command : Command
  pub names : Named

-- the last item of an option
abbrev pub last_item : Word → List Item → Option Item
last_item option [] = None
last_item option (item ∷ later) =
    option_or (last_item option later) (if bytes_eq item.option option then Some item else None)

abbrev pub is_given : List Item → Word → Bool
is_given items option = is_some (last_item option items)

-- the value of an option's last item
abbrev pub value_of : List Item → Word → Option Word
value_of items option = option_and_then (λ item. item.value) (last_item option items)

-- the value of an option that a command may lack
abbrev pub value_if_any : List Item → Option Word → Option Word
value_if_any items option = option_and_then (value_of items) option

-- the fault of the first word that begins no item, at this index among all words
abbrev pub bad_word_fault : Table → ℕ → List Word → Option Usage
bad_word_fault table at [] = None
bad_word_fault table at (option ∷ []) =
    Some (if is_some (takes table option) then value_missing at else unknown_option at)
bad_word_fault table at (option ∷ value ∷ rest) =
    Some (if is_some (takes table option) then bad_value at else unknown_option at)

-- the fault of the first word past these items, of words that begin at this index
abbrev pub fault_past : Table → ℕ → List Item → List Word → Option Usage
fault_past table at items words =
    let read = length (words_spelled items) in
    bad_word_fault table (at + read) (drop read words)

-- the fault of the first word past the items into which the words divide
unfoldable pub word_fault : Table → ℕ → List Word → Option Usage
word_fault table at words = fault_past table at (items_of table words) words

-- names of inputs that mean standard input
abbrev pub is_standard_input : Word → Bool
is_standard_input name = bytes_eq name (codes "-") || bytes_eq name (codes "stdin")

-- the output of this name: none if it is standard output, which `-` and `stdout` mean
abbrev pub output_by : Option Word → Option Word
output_by None = None
output_by (Some name) =
    if bytes_eq name (codes "-") || bytes_eq name (codes "stdout") then None else Some name

-- the records that are merged: with -s those of each strand separately, else those of the strand
-- that is the value of -S, and without one all
abbrev pub strand_by : Bool → Option Word → MergeStrand
strand_by true value = Each
strand_by false None = All
strand_by false (Some word) = One (strand_named word)

-- what the value of an option denotes; without a value, or if it denotes nothing, this
abbrev pub denoted : {A : Type 0} → (Word → Option A) → A → Option Word → A
denoted reading without value = unwrap_or (option_and_then reading value) without

-- what makes a hit: the fraction of -f in billionths, 0 without one, of both records or of the
-- first alone, and equal strands with -s
abbrev pub rule_by : List Item → Bool → HitRule
rule_by items both = record {
  billionths = denoted fraction_of 0 (value_of items (codes "-f"));
  both = both;
  same_strand = is_given items (codes "-s");
}

-- the shape of what intersect writes, by -wa and -wb alone:
-- a hit's own part of the record or the record, and what hits it
abbrev pub hit_shape : Bool → Bool → Shape
hit_shape false false = Cut
hit_shape true false = OrigA
hit_shape false true = CutAndB
hit_shape true true = OrigBoth

-- the shape of what intersect writes: with -u, -v or -c -wa changes nothing
abbrev pub shape_by : List Item → Shape
shape_by items = if is_given items (codes "-u") then Once
    else (if is_given items (codes "-v") then Missing
    else (if is_given items (codes "-c") then Count
    else (if is_given items (codes "-wo") then Overlap
    else hit_shape (is_given items (codes "-wa")) (is_given items (codes "-wb")))))

-- what stands for a masked base: with -soft its lower case, else the character of -mc, or `N`
abbrev pub mask_how_by : List Item → MaskHow
mask_how_by items =
    if is_given items (codes "-soft") then Soft
    else Hard (denoted character_of 78 (value_of items (codes "-mc")))

-- the command that the items mean: with -held at most that many records are held, and with -strand
-- those of one strand are counted
abbrev pub command_by : Tool → List Item → Command
command_by Merge items =
    does.Merge (denoted number_of 0 (value_of items (codes "-d")))
    (strand_by (is_given items (codes "-s")) (value_of items (codes "-S")))
command_by Complement items = does.Complement (is_given items (codes "-L"))
command_by Intersect items =
    does.Intersect (shape_by items) (rule_by items (is_given items (codes "-r")))
    (option_and_then number_of (value_of items (codes "-held")))
command_by Subtract items =
    does.Subtract (is_given items (codes "-A")) (rule_by items false)
    (option_and_then number_of (value_of items (codes "-held")))
command_by Coverage items =
    does.Coverage (is_given items (codes "-bga"))
    (option_map strand_named (value_of items (codes "-strand")))
command_by BamToBed items =
    does.BamToBed (is_given items (codes "-split")) (is_given items (codes "-cigar"))
command_by MaskFasta items =
    does.MaskFasta (mask_how_by items) (is_given items (codes "-fullHeader"))

-- the names that the items of a table give, a first input that is not named being `stdin`
abbrev pub named_by : Table → List Item → Named
named_by table items = record {
  genome = value_if_any items table.genome;
  first = unwrap_or (value_of items table.first) (codes "stdin");
  second = value_if_any items table.second;
  output = output_by (value_if_any items table.output);
}

-- the names of the inputs
abbrev pub inputs_of : Named → List Word
inputs_of named = option_to_list named.genome ++ named.first ∷ option_to_list named.second

-- whether none of the options is given, of which one has to be, if there are such
abbrev pub lacks_one_of : List Word → List Item → Bool
lacks_one_of [] items = false
lacks_one_of (option ∷ others) items = not (list_any (is_given items) (option ∷ others))

-- whether an option is missing that has to be given, or that is one of several
abbrev pub lacks_option : Table → List Item → Bool
lacks_option table items =
    list_any (λ option. not (is_given items option)) table.required
    || lacks_one_of table.one_of items

-- whether two options are given that exclude one another
abbrev pub has_exclusive : Table → List Item → Bool
has_exclusive table items =
    list_any (λ pair. is_given items pair.0 && is_given items pair.1) table.exclusive

-- whether the output has the name of an input, by its text
abbrev pub overwrites : Named → Bool
overwrites named =
    option_map_or (λ output. list_any (bytes_eq output) (inputs_of named)) named.output false

-- whether more than one input is standard input
abbrev pub reads_twice : Named → Bool
reads_twice named = nat_lt 1 (count_by is_standard_input (inputs_of named))

-- what the items have or lack together, if anything is wrong with them
abbrev pub fault_together : Table → List Item → Option Usage
fault_together table items =
    if lacks_option table items then Some required_missing
    else (if has_exclusive table items || overwrites (named_by table items)
    then Some options_exclusive
    else (if reads_twice (named_by table items) then Some input_named_twice
    else None))

-- the plan that the items of a command mean
abbrev pub plan_of : Tool → List Item → PlanSeen
plan_of tool items =
    record { command = command_by tool items; names = named_by (table_of tool) items }

-- the plan of the items, or what they have or lack together
abbrev pub checked : Tool → List Item → Result PlanSeen Usage
checked tool items = elim (fault_together (table_of tool) items) [
  | Some usage ↦ Err usage
  | None ↦ Ok (plan_of tool items)
]

-- what the words after a command mean
abbrev pub asked : Tool → List Word → Result PlanSeen Usage
asked tool words = elim (word_fault (table_of tool) 1 words) [
  | Some usage ↦ Err usage
  | None ↦ checked tool (items_of (table_of tool) words)
]

-- the command that the first of all words names
abbrev pub command_of : List Word → Option Tool
command_of [] = None
command_of (word ∷ words) = command_named word

-- what all the words mean
unfoldable pub options : List Word → Result PlanSeen Usage
options words = elim (command_of words) [
  | None ↦ Err no_command
  | Some tool ↦ asked tool (drop 1 words)
]
