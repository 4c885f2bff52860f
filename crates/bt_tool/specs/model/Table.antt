-- The commands, and for each its options, those that it requires, and what their values name.
-- The options are those of the tool's page in the bedtools manual; that merge has `-g`, and intersect
-- and subtract `-held`, is this program's own rule. A later command is a name, a place in
-- the list of `command_named`, and a table.
use Rattle.std.specs.Prelude.{ℕ, Bool, false, true, ◌&&◌, ◌||◌, List, [], ◌∷◌, Option, Some, None, bytes_eq, codes, find, if◌then◌else◌, is_some, length, nat_le, nat_lt, option_map}
use Rattle.bt_lines.specs.model.Lines.{value_of as number_of}
use Rattle.bt_tool.specs.model.Fraction.{fraction_of}
use Rattle.bt_tool.specs.declared.planning.plan_type.Command.{Command}
use Rattle.bt_tool.specs.declared.options.takes.Takes.{Takes}
use Rattle.bt_tool.specs.declared.options.takes.Takes.TheVariants.{Nothing, FileName, Number, Fraction, Strand, Character}
use Rattle.bt_tool.specs.declared.options.tool.Tool.{Tool}
use Rattle.bt_tool.specs.declared.options.tool.Tool.TheVariants.{Merge, Complement, Intersect, Subtract, Coverage, BamToBed, MaskFasta}
use Rattle.bt_tool.specs.declared.planning.plan_type.Command.TheVariants as does

-- a word of the command line, as its bytes
abbrev pub Word : Type 0
Word = List ℕ

-- the printable characters of ASCII, no space
abbrev pub is_printable : ℕ → Bool
is_printable byte = nat_le 33 byte && nat_le byte 126

-- the byte of a word of one of them
abbrev pub character_of : List ℕ → Option ℕ
character_of [] = None
character_of (byte ∷ []) = if is_printable byte then Some byte else None
character_of (byte ∷ next ∷ bytes) = None

-- Whether an option may have this value, or none. A file name isn't empty, a number is
-- one of bt_lines, a fraction is at most 1, a strand is `+` or `-`,
-- and a character is a printable one of ASCII.
abbrev pub fits : Takes → Option Word → Bool
fits Nothing None = true
fits Nothing (Some value) = false
fits takes None = false
fits FileName (Some value) = nat_lt 0 (length value)
fits Number (Some value) = is_some (number_of value)
fits Fraction (Some value) = is_some (fraction_of value)
fits Strand (Some value) = bytes_eq value (codes "+") || bytes_eq value (codes "-")
fits Character (Some value) = is_some (character_of value)

-- an option of a command
pub record Row : Type 0 where
  pub option : Word
  pub takes : Takes

-- what the command line of one command may say
pub record Table : Type 0 where
  pub options : List Row
  -- the options that have to be given
  pub required : List Word
  -- the options of which one at least has to be given, if the command has such
  pub one_of : List Word
  -- the pairs of options that exclude one another
  pub exclusive : List (Word × Word)
  -- the options whose values name the inputs and the output
  pub genome : Option Word
  pub first : Word
  pub second : Option Word
  pub output : Option Word

-- what the option takes, if the table has it
abbrev pub takes : Table → Word → Option Takes
takes table option =
    option_map (λ row. row.takes) (find (λ row. bytes_eq option row.option) table.options)

abbrev pub row : Word → Takes → Row
row option takes = record { option = option; takes = takes }

-- no options yet; this one will name the first input
abbrev pub plain_table : Word → Table
plain_table first = record {
  options = [];
  required = [];
  one_of = [];
  exclusive = [];
  genome = None;
  first = first;
  second = None;
  output = None;
}

abbrev pub merge_table : Table
merge_table = record (plain_table (codes "-i")) {
  options = row (codes "-i") FileName ∷ row (codes "-g") FileName ∷ row (codes "-d") Number
      ∷ row (codes "-s") Nothing ∷ row (codes "-S") Strand ∷ [];
  exclusive = (codes "-s", codes "-S") ∷ [];
  genome = Some (codes "-g");
}

abbrev pub complement_table : Table
complement_table = record (plain_table (codes "-i")) {
  options = row (codes "-i") FileName ∷ row (codes "-g") FileName ∷ row (codes "-L") Nothing ∷ [];
  required = codes "-g" ∷ [];
  genome = Some (codes "-g");
}

-- Two shapes of output exclude one another, except -wa beside -wb, and beside -u, -v and -c,
-- where it changes nothing.
abbrev pub intersect_table : Table
intersect_table = record (plain_table (codes "-a")) {
  options = row (codes "-a") FileName ∷ row (codes "-b") FileName ∷ row (codes "-g") FileName
      ∷ row (codes "-wa") Nothing ∷ row (codes "-wb") Nothing ∷ row (codes "-wo") Nothing
      ∷ row (codes "-u") Nothing ∷ row (codes "-v") Nothing ∷ row (codes "-c") Nothing
      ∷ row (codes "-f") Fraction ∷ row (codes "-r") Nothing ∷ row (codes "-s") Nothing
      ∷ row (codes "-sorted") Nothing ∷ row (codes "-held") Number ∷ [];
  required = codes "-a" ∷ codes "-b" ∷ [];
  exclusive = (codes "-wa", codes "-wo") ∷ (codes "-wb", codes "-wo") ∷ (codes "-wb", codes "-u")
      ∷ (codes "-wb", codes "-v") ∷ (codes "-wb", codes "-c") ∷ (codes "-wo", codes "-u")
      ∷ (codes "-wo", codes "-v") ∷ (codes "-wo", codes "-c") ∷ (codes "-u", codes "-v")
      ∷ (codes "-u", codes "-c") ∷ (codes "-v", codes "-c") ∷ [];
  genome = Some (codes "-g");
  second = Some (codes "-b");
}

-- The fraction of subtract is always that of the first record alone.
abbrev pub subtract_table : Table
subtract_table = record (plain_table (codes "-a")) {
  options = row (codes "-a") FileName ∷ row (codes "-b") FileName ∷ row (codes "-g") FileName
      ∷ row (codes "-A") Nothing ∷ row (codes "-f") Fraction ∷ row (codes "-s") Nothing
      ∷ row (codes "-held") Number ∷ [];
  required = codes "-a" ∷ codes "-b" ∷ [];
  genome = Some (codes "-g");
  second = Some (codes "-b");
}

-- One of -bg and -bga has to be given, and both together are -bga.
abbrev pub coverage_table : Table
coverage_table = record (plain_table (codes "-i")) {
  options = row (codes "-i") FileName ∷ row (codes "-g") FileName ∷ row (codes "-bg") Nothing
      ∷ row (codes "-bga") Nothing ∷ row (codes "-strand") Strand ∷ [];
  required = codes "-g" ∷ [];
  one_of = codes "-bg" ∷ codes "-bga" ∷ [];
  genome = Some (codes "-g");
}

abbrev pub bamtobed_table : Table
bamtobed_table = record (plain_table (codes "-i")) {
  options = row (codes "-i") FileName ∷ row (codes "-split") Nothing ∷ row (codes "-cigar") Nothing
      ∷ [];
}

abbrev pub maskfasta_table : Table
maskfasta_table = record (plain_table (codes "-fi")) {
  options = row (codes "-fi") FileName ∷ row (codes "-bed") FileName ∷ row (codes "-fo") FileName
      ∷ row (codes "-soft") Nothing ∷ row (codes "-mc") Character
      ∷ row (codes "-fullHeader") Nothing ∷ [];
  required = codes "-fi" ∷ codes "-bed" ∷ [];
  exclusive = (codes "-soft", codes "-mc") ∷ [];
  second = Some (codes "-bed");
  output = Some (codes "-fo");
}

abbrev pub table_of : Tool → Table
table_of Merge = merge_table
table_of Complement = complement_table
table_of Intersect = intersect_table
table_of Subtract = subtract_table
table_of Coverage = coverage_table
table_of BamToBed = bamtobed_table
table_of MaskFasta = maskfasta_table

-- the word that names a tool
abbrev pub tool_name : Tool → Word
tool_name Merge = codes "merge"
tool_name Complement = codes "complement"
tool_name Intersect = codes "intersect"
tool_name Subtract = codes "subtract"
tool_name Coverage = codes "genomecov"
tool_name BamToBed = codes "bamtobed"
tool_name MaskFasta = codes "maskfasta"

-- the tool of this name, if there is one
abbrev pub command_named : Word → Option Tool
command_named word = find (λ tool. bytes_eq word (tool_name tool))
    (Merge ∷ Complement ∷ Intersect ∷ Subtract ∷ Coverage ∷ BamToBed ∷ MaskFasta ∷ [])

-- the tool of a command
abbrev pub tool_of : Command → Tool
tool_of (does.Merge d strand) = Merge
tool_of (does.Complement limit) = Complement
tool_of (does.Intersect shape rule held) = Intersect
tool_of (does.Subtract whole rule held) = Subtract
tool_of (does.Coverage zeros strand) = Coverage
tool_of (does.BamToBed split cigar) = BamToBed
tool_of (does.MaskFasta how full) = MaskFasta
