-- Worked values: what commands give of small inputs, as the public standards and the bedtools manual have it.
use Rattle.std.specs.Prelude.{◌≡◌, ℕ, Bool, true, false, List, [], ◌∷◌, ◌++◌, Option, None, Some, codes}
use Rattle.bt_lines.specs.model.Fault.{read_failed}
use Rattle.bt_lines.specs.model.Lines.{whole_text, text_lines}
use Rattle.bt_lines.specs.declared.fault.Input.{Input}
use Rattle.bt_lines.specs.declared.fault.Input.TheVariants.{First, Genome}
use Rattle.bt_lines.specs.declared.fault.Kind.{Kind}
use Rattle.bt_bed.specs.model.BedLine.{fault_at_line}
use Rattle.bt_bed.specs.model.Order.{byte_order}
use Rattle.bt_sweep.specs.declared.hits.hit_rule.HitRule.{HitRule}
use Rattle.bt_tool.specs.model.Report.{Inputs, report, report_of}
use Rattle.bt_tool.specs.model.Table.{Word}
use Rattle.bt_tool.specs.model.Reaches.{intersect_reaches, mask_reaches}
use Rattle.bt_tool.specs.declared.planning.plan_type.Command.{Command}
use Rattle.bt_tool.specs.declared.planning.plan_type.Command.TheVariants.{BamToBed}

-- Inputs, and what is written of them.

-- one text, without a genome file
abbrev pub one_text : List ℕ → Inputs
one_text first = record { genome = None; first = whole_text first; second = None }

-- one text, with a genome file
abbrev pub with_genome : List ℕ → List ℕ → Inputs
with_genome genome first =
    record { genome = Some (whole_text genome); first = whole_text first; second = None }

-- a command writes this without a fault
abbrev pub Writes : Command → Inputs → List ℕ → Type 0
Writes command inputs output = report_of command inputs ≡ record { output = output; fault = None }

-- it writes this, and then a line is at fault
abbrev pub StopsAtLine : Command → Inputs → List ℕ → Input → ℕ → Kind → Type 0
StopsAtLine command inputs output input line kind =
    report_of command inputs ≡ record { output = output; fault = Some (fault_at_line input line kind) }

-- what a text gives of which no more than this was handed over, as reading failed
abbrev pub CutTo : Command → List ℕ → List ℕ → ℕ → Type 0
CutTo command first output line =
    report_of command (record { genome = None; first = record { text = first; is_cut = true }; second = None })
    ≡ record { output = output; fault = Some (read_failed First line) }

-- what a genome file gives of which no more than this was handed over, as reading failed
abbrev pub CutGenomeTo : Command → List ℕ → ℕ → Type 0
CutGenomeTo command genome line =
    report_of command (record { genome = Some (record { text = genome; is_cut = true }); first = whole_text []; second = None })
    ≡ record { output = []; fault = Some (read_failed Genome line) }

-- words and texts give this on standard output, this line on standard error, and this status
abbrev pub Shows : List Word → List ℕ → List ℕ → List ℕ → List ℕ → Option (List ℕ) → ℕ → Type 0
Shows words genome first second output line status =
    report words genome first second ≡ record { output = output; line = line; status = status }

-- words can't be used, whatever the texts, and this line says why
abbrev pub AreRefused : List Word → List ℕ → Type 0
AreRefused words line =
    (genome first second : List ℕ) → Shows words genome first second [] (Some line) 2

-- two options of intersect can't be used together
abbrev pub Exclude : Word → Word → Type 0
Exclude option other =
    AreRefused (codes "intersect" ∷ codes "-a" ∷ codes "x" ∷ codes "-b" ∷ codes "y" ∷ option ∷ other ∷ [])
    (codes "bedtools: options exclude one another\n")

-- the rule of -s
abbrev pub on_one_strand : HitRule
on_one_strand = record { billionths = 0; both = false; same_strand = true }

-- the rule of -f with this many billionths, and of -r
abbrev pub by_fraction : ℕ → Bool → HitRule
by_fraction billionths both = record { billionths = billionths; both = both; same_strand = false }

-- a line of SAM text with this flag and CIGAR, at the first base of a reference
abbrev pub sam_text : List ℕ → List ℕ → List ℕ
sam_text flag cigar =
    codes "r\t" ++ flag ++ codes "\tc\t1\t9\t" ++ cigar ++ codes "\t*\t0\t0\t*\t*\n"

-- such a line gives an alignment of two bases, with this name and this strand
abbrev pub IsNamed : List ℕ → List ℕ → List ℕ → Type 0
IsNamed flag name strand =
    Writes (BamToBed false false) (one_text (sam_text flag (codes "2M")))
    (codes "c\t0\t2\t" ++ name ++ codes "\t9\t" ++ strand ++ codes "\n")

-- How far the second input is read.

-- the lines of a first input need this many bytes of a second one, in the order of the names' bytes
abbrev pub Reaches : List ℕ → List ℕ → ℕ → Type 0
Reaches first second size =
    intersect_reaches byte_order (whole_text second) (text_lines first) ≡ size

-- lines of FASTA text need this many bytes of the records that mask them
abbrev pub MaskReaches : List ℕ → List ℕ → ℕ → Type 0
MaskReaches first second size = mask_reaches false (whole_text second) (text_lines first) ≡ size
