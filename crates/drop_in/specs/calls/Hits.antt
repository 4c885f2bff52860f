-- How the hits of a call are listed in the order of bedtools: both texts are kept in memory for that.
use Rattle.std.specs.Prelude.{ℕ, ◌≡◌, ◌<◌, ◌+◌, ◌-◌, List, length, Option, Some, None, Ok, Vec, option_map}
use Rattle.std.specs.declared.alloc.Global.{Global}
use Rattle.bt_lines.specs.declared.device.Sink.{Ghosts as Sink}
use Rattle.bt_lines.specs.declared.device.Source.{Ghosts as Source}
use Rattle.bt_lines.specs.declared.fault.Input.{Input}
use Rattle.bt_lines.specs.declared.fault.Input.TheVariants.{First, Second}
use Rattle.bt_lines.specs.model.Fault.{FaultValue}
use Rattle.bt_lines.specs.model.Lines.{whole_text}
use Rattle.bt_bed.specs.model.Feature.{Feature}
use Rattle.bt_bed.specs.model.Genome.{Entry}
use Rattle.bt_bed.specs.model.Order.{Order}
use Rattle.bt_files.specs.calls.Ending.{ReportsRun}
use Rattle.bt_files.specs.declared.files.Files.{Ghosts as Files}
use Rattle.bt_hits.specs.calls.Listing.{AreRecordsOf, WritesHits}
use Rattle.bt_hits.specs.declared.listing.Listing.{Listing}
use Rattle.bt_hits.specs.model.Bins.{intersect_by_bins}
use Rattle.bt_tool.specs.declared.planning.plan_type.Command.{Command}
use Rattle.bt_tool.specs.declared.planning.plan_type.Command.TheVariants.{Intersect}
use Rattle.bt_tool.specs.model.Behaviour.{order_in_use}
use Rattle.bt_tool.specs.model.Options.{PlanSeen}
use Rattle.bt_tool.specs.model.Report.{chromosomes_of}
use Rattle.drop_in.specs.calls.Looks.{IsUnfinished, ReadsText}
use Rattle.drop_in.specs.declared.answering.Inputs.{Inputs}
use Rattle.drop_in.specs.declared.genome_file.Unfinished.{Unfinished}
use Rattle.drop_in.specs.declared.genome_file.Unfinished.TheVariants.{Failed, Long, NoMemory as NoMemoryLeft}
use Rattle.drop_in.specs.declared.hits.Kept.{Kept}
use Rattle.drop_in.specs.declared.hits.Kept.TheVariants.{File as KeptFile, Stream as KeptStream}
use Rattle.drop_in.specs.declared.hits.KeptTexts.{KeptTexts}
use Rattle.drop_in.specs.declared.hits.Listed.{Listed}
use Rattle.drop_in.specs.declared.looks.ReadStream.{ReadStream}
use Rattle.drop_in.specs.declared.looks.Reading.{Reading}
use Rattle.drop_in.specs.declared.looks.Reading.TheVariants.{File, Stream, Text}
use Rattle.drop_in.specs.declared.why.Why.{Why}
use Rattle.drop_in.specs.declared.why.Why.TheVariants.{Changed, HitsRoom, NoMemory, Unopened}

-- Texts in memory.

module _ {I : Type 0} where
  abbrev pub kept_text : Kept I → List ℕ
  kept_text (KeptFile text) = text.items
  kept_text (KeptStream stream) = stream.kept.items

  -- the stream, if it is one
  abbrev pub stream_read : Reading I → Option (ReadStream I)
  stream_read (File again) = None
  stream_read (Stream stream) = Some stream
  stream_read (Text text) = None

  abbrev pub kept_stream : Kept I → Option (ReadStream I)
  kept_stream (KeptFile text) = None
  kept_stream (KeptStream stream) = Some stream

  -- the stream among both
  abbrev pub first_stream : Kept I → Kept I → Option (ReadStream I)
  first_stream (KeptFile text) second = kept_stream second
  first_stream (KeptStream stream) second = Some stream

  abbrev pub stream_kept : KeptTexts I → Option (ReadStream I)
  stream_kept texts = first_stream texts.first texts.second

  module _ (source : Source I) where
    -- what is in memory is all that a file handed over, or what was kept of a stream, or the text of a gzip file
    abbrev pub IsKept : Reading I → Kept I → Type 0
    IsKept (File again) (KeptFile text) = ReadsText source again text.items
    IsKept (Stream stream) (KeptStream kept) = kept ≡ stream
    IsKept (Text text) (KeptFile kept) = kept ≡ text
    IsKept reading kept = ⊥

    -- the texts of both inputs are
    pub record AreKept (first : Reading I) (second : Option (Reading I)) (texts : KeptTexts I) : Type 0 where
      pub first_kept : IsKept first texts.first
      pub other : Reading I
      pub second_is : second ≡ Some other
      pub second_kept : IsKept other texts.second

-- What is listed.

-- the order of the chromosomes: that of the text of a genome file, if there is one, else that of the names' bytes
pub record IsOrderOf (genome : Option (Vec ℕ Global)) (order : Order) : Type 0 where
  pub chromosomes : Option (List Entry)
  pub are : chromosomes_of (option_map (λ text. whole_text text.items) genome) ≡ Ok chromosomes
  pub is : order ≡ order_in_use chromosomes

-- the command is intersect, and writes these lines of each hit
abbrev pub IsListing : Command → Listing → Type 0
IsListing command listing = (held : Option ℕ) × (command ≡ Intersect listing.shape listing.rule held)

-- Why it is left.

-- of a file that isn't kept
abbrev pub unkept_why : Input → Unfinished → Why
unkept_why input Failed = Unopened input
unkept_why input Long = HitsRoom
unkept_why input NoMemoryLeft = NoMemory

-- how many bytes of an input are in memory since it was surveyed: the text of a gzip file
abbrev pub text_len : {I : Type 0} → Reading I → ℕ
text_len (File again) = 0
text_len (Stream stream) = 0
text_len (Text text) = length text.items

module _ {I : Type 0} (source : Source I) where
  -- it couldn't be read to its end, or is longer than the room
  abbrev pub IsUnkept : Reading I → Input → ℕ → Why → Type 0
  IsUnkept (File again) input room why = (cause : Unfinished) × IsUnfinished source again room cause × (why ≡ unkept_why input cause)
  IsUnkept (Stream stream) input room why = ⊥
  IsUnkept (Text text) input room why = ⊥

  -- how much room is left for files beside the texts of gzip files
  abbrev pub room_left : Reading I → Reading I → ℕ → ℕ
  room_left first other room = room - text_len first - text_len other

  -- the first that isn't kept leaves the call; or there is no room for the texts of its gzip files; or it has no second input
  pub data AreUnkept (first : Reading I) (second : Option (Reading I)) (room : ℕ) (why : Why) : Type 0 where
    no_second : second ≡ None → why ≡ HitsRoom → AreUnkept first second room why
    too_long : (other : Reading I) → second ≡ Some other → room < text_len first + text_len other → why ≡ HitsRoom
        → AreUnkept first second room why
    of_first : (other : Reading I) → second ≡ Some other → IsUnkept first First (room_left first other room) why
        → AreUnkept first second room why
    of_second : (kept : Kept I) (other : Reading I) → IsKept source first kept → second ≡ Some other
        → IsUnkept other Second (room_left first other room) why → AreUnkept first second room why

  -- a text isn't kept, there is no memory, or a file that was kept changed since it was surveyed
  pub data IsWhyOfHits (inputs : Inputs I) (room : ℕ) (why : Why) : Type 0 where
    unkept : AreUnkept inputs.first inputs.second room why → IsWhyOfHits inputs room why
    no_memory : why ≡ NoMemory → IsWhyOfHits inputs room why
    changed : (texts : KeptTexts I) → AreKept source inputs.first inputs.second texts → why ≡ Changed → IsWhyOfHits inputs room why

-- of texts that are kept
pub data IsWhyOfKept : Why → Type 0 where
  ran_out : IsWhyOfKept NoMemory
  has_changed : IsWhyOfKept Changed

module _ {F I O : Type 0} (files : Files F I O) (sink : Sink O) where
  -- Both texts are without a fault in this order, and standard output was made. It took the hits of each record, in the order
  -- of bedtools, or the first of them until it failed or memory ran out, which is reported.
  pub record ListsBy (before : F) (plan : PlanSeen) (order : Order) (texts : KeptTexts I) (listed : Listed O) (after : F)
      : Type 0 where
    pub listing : Listing
    pub command : IsListing plan.command listing
    pub first : List Feature
    pub second : List Feature
    pub first_read : AreRecordsOf order (kept_text texts.first) first
    pub second_read : AreRecordsOf order (kept_text texts.second) second
    pub output : O
    pub created : files.creates before None output after
    pub fault : Option FaultValue
    pub writes : WritesHits sink output (intersect_by_bins listing.shape listing.rule first second) fault listed.output
    pub reports : ReportsRun plan fault listed.message

  -- the hits of these inputs were listed
  pub record ListsInputs (source : Source I) (before : F) (plan : PlanSeen) (inputs : Inputs I) (listed : Listed O) (after : F)
      : Type 0 where
    pub texts : KeptTexts I
    pub kept : AreKept source inputs.first inputs.second texts
    pub order : Order
    pub goes_by : IsOrderOf inputs.genome order
    pub lists : ListsBy before plan order texts listed after
