-- Inputs divided into parts.
use Rattle.std.specs.Prelude.{◌≡◌, ◌↔◌, ◌⊎◌, ℕ, Bool, true, IsTrue, ⊤, List, [], ◌∷◌, ◌++◌, ◌==◌, flat_map, Option, Some, None, Result, Ok, Err, map, IsFalse, option_map, if◌then◌else◌}
use Rattle.std.specs.List.{AllByRecursion}
use Rattle.std.specs.declared.cmp.Ordering.TheVariants.{Less}
use Rattle.bt_lines.specs.model.Fault.{FaultValue}
use Rattle.bt_lines.specs.model.Lines.{text_lines, Handed, whole_text}
use Rattle.bt_lines.specs.declared.fault.Kind.{Kind}
use Rattle.bt_bed.specs.model.Feature.{Feature}
use Rattle.bt_bed.specs.model.BedLine.{record_of}
use Rattle.bt_bed.specs.model.Order.{Order, is_among}
use Rattle.bt_bed.specs.model.Meeting.{Report}
use Rattle.bt_bed.specs.model.Genome.{Entry, genome_names}
use Rattle.bt_runs.specs.declared.merge.merge_strand.MergeStrand.{MergeStrand}
use Rattle.bt_sweep.specs.declared.hits.hit_rule.HitRule.{HitRule}
use Rattle.bt_sweep.specs.declared.output.shape.Shape.{Shape}
use Rattle.bt_tool.specs.model.Report.{chromosomes_of, report_of}
use Rattle.bt_tool.specs.model.Behaviour.{order_in_use}
use Rattle.bt_tool.specs.declared.planning.plan_type.Command.{Command}
use Rattle.bt_tool.specs.declared.planning.plan_type.Command.TheVariants.{BamToBed, Intersect, Merge, Subtract, Complement, Coverage, MaskFasta}
use Rattle.bt_bed.specs.declared.record.strand.Strand.{Strand}
use Rattle.bt_lines.specs.declared.fault.Kind.TheVariants.{NoSequence}
use Rattle.bt_seq.specs.model.Fasta.{is_sequence_header, name_in}
use Rattle.bt_seq.specs.calls.MaskState.{left_after}
use Rattle.bt_seq.specs.declared.mask.mask_how.MaskHow.{MaskHow}

-- Inputs divided into parts, as by chromosome: what a part is, and what the runs of the parts have
-- to do with the run of the whole.

-- whether a text ends with a line feed, or is empty: what is put after it begins a line
abbrev pub ends_line : List ℕ → Bool
ends_line [] = true
ends_line (byte ∷ []) = byte == 10
ends_line (byte ∷ next ∷ bytes) = ends_line (next ∷ bytes)

-- texts, one after another
abbrev pub joined : List (List ℕ) → List ℕ
joined texts = flat_map (λ text. text) texts

-- what comes after a text begins a line, or is empty
abbrev pub StandsBefore : List ℕ → List ℕ → Type 0
StandsBefore text rest = IsTrue (ends_line text) ⊎ (rest ≡ [])

-- texts of complete lines; the last that isn't empty may lack its line feed
abbrev pub AreOfLines : List (List ℕ) → Type 0
AreOfLines [] = ⊤
AreOfLines (text ∷ texts) = StandsBefore text (joined texts) × AreOfLines texts

-- the record that a line says, if it says one
abbrev pub said_record : Result (Option Feature) Kind → List Feature
said_record (Err kind) = []
said_record (Ok None) = []
said_record (Ok (Some r)) = r ∷ []

-- the records that the lines of a text say, each line taken alone; there may be header lines among them
abbrev pub said_records : List ℕ → List Feature
said_records text = flat_map (λ line. said_record (record_of line.text)) (text_lines text)

-- the chromosome of each record comes before those of all others; unknown ones are at fault anyway
abbrev pub ComeBefore : Order → List Feature → List Feature → Type 0
ComeBefore order records others =
    AllByRecursion (λ r. AllByRecursion (λ s. IsTrue (order.knows r.chrom)
    → IsTrue (order.knows s.chrom) → order.compare r.chrom s.chrom ≡ Less) others) records

-- an output, unless there is a fault before it
abbrev pub unless_fault : Option FaultValue → List ℕ → List ℕ
unless_fault None output = output
unless_fault (Some fault) output = []

-- the outputs of the parts up to that of the first one at fault, one after another
abbrev pub outputs_to_fault : List Report → List ℕ
outputs_to_fault [] = []
outputs_to_fault (part ∷ parts) =
    part.output ++ unless_fault part.fault (outputs_to_fault parts)

-- the run of the whole is without a fault exactly where those of the parts are, and then its output
-- is theirs, one after another
pub record AddUp (parts : List Report) (whole : Report) : Type 0 where
  pub faultless : (whole.fault ≡ None) ↔ AllByRecursion (λ part. part.fault ≡ None) parts
  pub output : whole.fault ≡ None → whole.output ≡ flat_map (λ part. part.output) parts

-- what the run of the whole writes begins what the runs of the parts write up to the first fault:
-- it may be shorter, since a chromosome is settled by a record after it
abbrev pub StopWithin : List Report → Report → Type 0
StopWithin parts whole = (rest : List ℕ) × (outputs_to_fault parts ≡ whole.output ++ rest)

-- where the runs of all parts are without a fault, so is that of the whole, and its output is theirs
abbrev pub Suffice : List Report → Report → Type 0
Suffice parts whole =
    AllByRecursion (λ part. part.fault ≡ None) parts
    → (whole.fault ≡ None) × (whole.output ≡ flat_map (λ part. part.output) parts)

-- what the parts before one wrote, and a prefix of what this one writes, begin what the whole writes
abbrev pub prefixes_begin : Type 0
prefixes_begin =
    (before later : List Report) (part whole : Report) (prefix rest : List ℕ)
    → AddUp (before ++ part ∷ later) whole → whole.fault ≡ None → part.output ≡ prefix ++ rest
    → (more : List ℕ)
    × (whole.output ≡ flat_map (λ earlier. earlier.output) before ++ (prefix ++ more))

-- When the outputs of the parts of an input are the output of the whole.

-- the report of a command of one input on a text
abbrev pub on_text : Command → Option Handed → List ℕ → Report
on_text command genome text =
    report_of command (record { genome = genome; first = whole_text text; second = None })

-- the runs on the parts of a text add up to the run on the text, and stop within it
abbrev pub TextsAddUp : Command → Option Handed → List (List ℕ) → Type 0
TextsAddUp command genome texts =
    AddUp (map (on_text command genome) texts) (on_text command genome (joined texts))
    × StopWithin (map (on_text command genome) texts) (on_text command genome (joined texts))

-- bamtobed: alignments divided at any line
abbrev pub bamtobed_divides : Type 0
bamtobed_divides =
    (split cigar : Bool) (texts : List (List ℕ)) → AreOfLines texts
    → TextsAddUp (BamToBed split cigar) None texts

-- the records of each text come before those of all later ones
abbrev pub TextsAscend : Order → List (List ℕ) → Type 0
TextsAscend order [] = ⊤
TextsAscend order (text ∷ texts) =
    ComeBefore order (said_records text) (said_records (joined texts)) × TextsAscend order texts

-- merge: records divided so, with one genome file for each part, or in bytewise order
abbrev pub merge_divides : Type 0
merge_divides =
    (d : ℕ) (strand : MergeStrand) (genome : Option Handed) (chromosomes : Option (List Entry))
    (texts : List (List ℕ))
    → chromosomes_of genome ≡ Ok chromosomes → AreOfLines texts
    → TextsAscend (order_in_use chromosomes) texts → TextsAddUp (Merge d strand) genome texts

-- the texts of two inputs
pub record Texts : Type 0 where
  pub first : List ℕ
  pub second : List ℕ

-- texts of parts, one after another
abbrev pub joined_texts : List Texts → Texts
joined_texts parts = record {
  first = joined (map (λ part. part.first) parts);
  second = joined (map (λ part. part.second) parts);
}

-- the report of a command of two inputs on their texts
abbrev pub on_texts : Command → Option Handed → Texts → Report
on_texts command genome texts =
    report_of command
    (record { genome = genome; first = whole_text texts.first; second = Some (whole_text texts.second) })

-- the records of both inputs
abbrev pub records_of : Texts → List Feature
records_of texts = said_records texts.first ++ said_records texts.second

-- the runs on the parts of two inputs add up to the run on both, and stop within it
abbrev pub PairsAddUp : Command → Option Handed → List Texts → Type 0
PairsAddUp command genome parts =
    AddUp (map (on_texts command genome) parts) (on_texts command genome (joined_texts parts))
    × StopWithin (map (on_texts command genome) parts) (on_texts command genome (joined_texts parts))

-- both inputs are divided into complete lines
abbrev pub ArePairs : List Texts → Type 0
ArePairs parts =
    AreOfLines (map (λ part. part.first) parts) × AreOfLines (map (λ part. part.second) parts)

-- the records of each part, of either input, come before those of all later parts
abbrev pub PairsAscend : Order → List Texts → Type 0
PairsAscend order [] = ⊤
PairsAscend order (part ∷ parts) =
    ComeBefore order (records_of part) (records_of (joined_texts parts)) × PairsAscend order parts

-- intersect, without a limit on held records: both inputs divided at the same chromosomes, with one
-- genome file for each part, or in bytewise order
abbrev pub intersect_divides : Type 0
intersect_divides =
    (shape : Shape) (rule : HitRule) (genome : Option Handed) (chromosomes : Option (List Entry))
    (parts : List Texts)
    → chromosomes_of genome ≡ Ok chromosomes → ArePairs parts
    → PairsAscend (order_in_use chromosomes) parts → PairsAddUp (Intersect shape rule None) genome parts

-- subtract: both inputs divided as those of intersect
abbrev pub subtract_divides : Type 0
subtract_divides =
    (whole : Bool) (rule : HitRule) (genome : Option Handed) (chromosomes : Option (List Entry))
    (parts : List Texts)
    → chromosomes_of genome ≡ Ok chromosomes → ArePairs parts
    → PairsAscend (order_in_use chromosomes) parts → PairsAddUp (Subtract whole rule None) genome parts

-- When the outputs of parts, each with its own part of the genome file, are the output of the whole.

-- a part of a text, and its genome file with the chromosomes that this has
pub record Shard : Type 0 where
  pub genome : Handed
  pub entries : List Entry
  pub text : List ℕ

-- the chromosomes of all parts, one after another
abbrev pub all_entries : List Shard → List Entry
all_entries shards = flat_map (λ shard. shard.entries) shards

abbrev pub shard_texts : List Shard → List (List ℕ)
shard_texts shards = map (λ shard. shard.text) shards

-- the record lies on a chromosome of its part, or on one that the whole genome file hasn't either
abbrev pub LiesWithin : List Entry → List Entry → Feature → Type 0
LiesWithin part whole r = IsTrue (is_among (genome_names whole) r.chrom)
    → IsTrue (is_among (genome_names part) r.chrom)

-- the chromosomes of the whole genome file are those of the parts, and each part's records lie on its own
pub record AreShards (genome : Handed) (shards : List Shard) : Type 0 where
  pub whole : chromosomes_of (Some genome) ≡ Ok (Some (all_entries shards))
  pub parts : AllByRecursion (λ shard. chromosomes_of (Some shard.genome) ≡ Ok (Some shard.entries)) shards
  pub lines : AreOfLines (shard_texts shards)
  pub within : AllByRecursion (λ shard. AllByRecursion (LiesWithin shard.entries (all_entries shards))
      (said_records shard.text)) shards

-- the runs on the parts, each with its own part of the genome file, add up to the run on the whole
abbrev pub ShardsAddUp : Command → Handed → List Shard → Type 0
ShardsAddUp command genome shards =
    AddUp (map (λ shard. on_text command (Some shard.genome) shard.text) shards)
    (on_text command (Some genome) (joined (shard_texts shards)))
    × StopWithin (map (λ shard. on_text command (Some shard.genome) shard.text) shards)
    (on_text command (Some genome) (joined (shard_texts shards)))

-- merge, in each form
abbrev pub merge_genomes_divide : Type 0
merge_genomes_divide = (d : ℕ) (strand : MergeStrand) (genome : Handed) (shards : List Shard)
    → AreShards genome shards → ShardsAddUp (Merge d strand) genome shards

-- complement, also with -L
abbrev pub complement_divides : Type 0
complement_divides = (limit : Bool) (genome : Handed) (shards : List Shard) → AreShards genome shards
    → ShardsAddUp (Complement limit) genome shards

-- genomecov: -bg, -bga and -strand
abbrev pub genomecov_divides : Type 0
genomecov_divides = (zeros : Bool) (strand : Option Strand) (genome : Handed) (shards : List Shard)
    → AreShards genome shards → ShardsAddUp (Coverage zeros strand) genome shards

-- Parts of which each has its own part of the genome file: two inputs, and what runs without a fault
-- say of parts that nobody has looked at.

-- a part of two texts, and its genome file with the chromosomes that this has
pub record PairShard : Type 0 where
  pub genome : Handed
  pub entries : List Entry
  pub texts : Texts

-- the chromosomes of all parts, one after another
abbrev pub pair_entries : List PairShard → List Entry
pair_entries shards = flat_map (λ shard. shard.entries) shards

abbrev pub pair_texts : List PairShard → List Texts
pair_texts shards = map (λ shard. shard.texts) shards

-- the chromosomes of the whole genome file are those of the parts, and both inputs are divided into
-- complete lines
pub record DividePairs (genome : Handed) (shards : List PairShard) : Type 0 where
  pub whole : chromosomes_of (Some genome) ≡ Ok (Some (pair_entries shards))
  pub parts : AllByRecursion (λ shard. chromosomes_of (Some shard.genome) ≡ Ok (Some shard.entries)) shards
  pub lines : ArePairs (pair_texts shards)

-- each part's records, of either input, lie on its own chromosomes
abbrev pub PairsLieWithin : List PairShard → Type 0
PairsLieWithin shards = AllByRecursion
    (λ shard. AllByRecursion (LiesWithin shard.entries (pair_entries shards)) (records_of shard.texts)) shards

-- the runs on the parts, each with its own genome file, and the run on the whole
abbrev pub pair_reports : Command → List PairShard → List Report
pair_reports command shards = map (λ shard. on_texts command (Some shard.genome) shard.texts) shards

abbrev pub on_pairs : Command → Handed → List PairShard → Report
on_pairs command genome shards = on_texts command (Some genome) (joined_texts (pair_texts shards))

-- the runs on the parts add up to the run on the whole, and it stops within them
abbrev pub PairShardsAddUp : Command → Type 0
PairShardsAddUp command = (genome : Handed) (shards : List PairShard)
    → DividePairs genome shards → PairsLieWithin shards
    → AddUp (pair_reports command shards) (on_pairs command genome shards)
    × StopWithin (pair_reports command shards) (on_pairs command genome shards)

-- intersect and subtract, each part with its own part of the genome file
abbrev pub intersect_genomes_divide : Type 0
intersect_genomes_divide = (shape : Shape) (rule : HitRule) → PairShardsAddUp (Intersect shape rule None)

abbrev pub subtract_genomes_divide : Type 0
subtract_genomes_divide = (whole : Bool) (rule : HitRule) → PairShardsAddUp (Subtract whole rule None)

-- the chromosomes of the whole genome file are those of the parts, and the text is divided into complete
-- lines: nothing is said of its records
pub record DivideGenome (genome : Handed) (shards : List Shard) : Type 0 where
  pub whole : chromosomes_of (Some genome) ≡ Ok (Some (all_entries shards))
  pub parts : AllByRecursion (λ shard. chromosomes_of (Some shard.genome) ≡ Ok (Some shard.entries)) shards
  pub lines : AreOfLines (shard_texts shards)

-- runs on the parts without a fault suffice: a record that isn't on a chromosome of its part would be
-- a fault there
abbrev pub ShardsSuffice : Command → Type 0
ShardsSuffice command = (genome : Handed) (shards : List Shard) → DivideGenome genome shards
    → Suffice (map (λ shard. on_text command (Some shard.genome) shard.text) shards)
    (on_text command (Some genome) (joined (shard_texts shards)))

-- runs on the parts of two inputs without a fault suffice
abbrev pub PairShardsSuffice : Command → Type 0
PairShardsSuffice command = (genome : Handed) (shards : List PairShard) → DividePairs genome shards
    → Suffice (pair_reports command shards) (on_pairs command genome shards)

abbrev pub merge_shards_suffice : Type 0
merge_shards_suffice = (d : ℕ) (strand : MergeStrand) → ShardsSuffice (Merge d strand)

abbrev pub complement_shards_suffice : Type 0
complement_shards_suffice = (limit : Bool) → ShardsSuffice (Complement limit)

abbrev pub genomecov_shards_suffice : Type 0
genomecov_shards_suffice = (zeros : Bool) (strand : Option Strand) → ShardsSuffice (Coverage zeros strand)

abbrev pub intersect_shards_suffice : Type 0
intersect_shards_suffice = (shape : Shape) (rule : HitRule) → PairShardsSuffice (Intersect shape rule None)

abbrev pub subtract_shards_suffice : Type 0
subtract_shards_suffice = (whole : Bool) (rule : HitRule) → PairShardsSuffice (Subtract whole rule None)

-- When FASTA text, and the records that mask it, may be divided into parts, as by sequence.

-- the name that a line gives, if it is a header
abbrev pub name_on : Bool → List ℕ → List (List ℕ)
name_on full text = if is_sequence_header text then name_in full text ∷ [] else []

-- the names of the sequences of a FASTA text
abbrev pub sequence_names : Bool → List ℕ → List (List ℕ)
sequence_names full text = flat_map (λ line. name_on full line.text) (text_lines text)

-- a text begins with a header, or is empty
abbrev pub begins_sequence : List ℕ → Bool
begins_sequence [] = true
begins_sequence (byte ∷ bytes) = byte == 62

-- FASTA text divided at headers: each part but the first begins with one
abbrev pub AreAtHeaders : List Texts → Type 0
AreAtHeaders [] = ⊤
AreAtHeaders (part ∷ parts) = AllByRecursion (λ later. IsTrue (begins_sequence later.first)) parts

-- no record of the one part is named as a sequence of the other
abbrev pub MasksNone : Bool → Texts → Texts → Type 0
MasksNone full one other =
    AllByRecursion (λ r. IsFalse (is_among (sequence_names full other.first) r.chrom))
    (said_records one.second)

-- no record is named as a sequence of another part than its own
abbrev pub MaskTheirOwn : Bool → List Texts → Type 0
MaskTheirOwn full [] = ⊤
MaskTheirOwn full (part ∷ parts) =
    MasksNone full part (joined_texts parts) × MasksNone full (joined_texts parts) part
    × MaskTheirOwn full parts

-- what the run of the whole writes goes on after what the parts write up to the first fault: where
-- a record has no sequence, the sequences of the later parts are written as they are
abbrev pub WritesOn : List Report → Report → Type 0
WritesOn parts whole =
    (option_map (λ fault. fault.kind) whole.fault ≡ Some NoSequence)
    × ((rest : List ℕ) × (whole.output ≡ outputs_to_fault parts ++ rest))

-- the runs on the parts of FASTA text and of its records
abbrev pub masked_parts : Command → List Texts → List Report
masked_parts command parts = map (on_texts command None) parts

-- maskfasta: the FASTA text divided at headers, and the records so that none is named as a sequence
-- of another part
abbrev pub maskfasta_divides : Type 0
maskfasta_divides =
    (how : MaskHow) (full : Bool) (parts : List Texts)
    → ArePairs parts → AreAtHeaders parts → MaskTheirOwn full parts
    → AddUp (masked_parts (MaskFasta how full) parts)
    (on_texts (MaskFasta how full) None (joined_texts parts))
    × (StopWithin (masked_parts (MaskFasta how full) parts)
    (on_texts (MaskFasta how full) None (joined_texts parts))
    ⊎ WritesOn (masked_parts (MaskFasta how full) parts)
    (on_texts (MaskFasta how full) None (joined_texts parts)))

-- the first of the later records, put after these, belongs to no sequence of these names
abbrev pub BelongsToNone : List (List ℕ) → List Feature → List Feature → Type 0
BelongsToNone names records [] = ⊤
BelongsToNone names records (r ∷ later) = left_after names (records ++ r ∷ []) ≡ None

-- no block of records moves to a sequence of the part before its own, also where names are repeated
abbrev pub NoneMoves : Bool → List Texts → Type 0
NoneMoves full [] = ⊤
NoneMoves full (part ∷ parts) =
    BelongsToNone (sequence_names full part.first) (said_records part.second)
    (said_records (joined_texts parts).second)
    × NoneMoves full parts

-- maskfasta, where sequences of several parts may have one name
abbrev pub repeated_names_divide : Type 0
repeated_names_divide =
    (how : MaskHow) (full : Bool) (parts : List Texts)
    → ArePairs parts → AreAtHeaders parts → NoneMoves full parts
    → Suffice (masked_parts (MaskFasta how full) parts)
    (on_texts (MaskFasta how full) None (joined_texts parts))
