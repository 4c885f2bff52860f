-- Why a call is left.
use Rattle.std.specs.Prelude.{◌≡◌, ℕ, Bool, true, false, ◌&&◌, List, Option, Ok, Err, not, if◌then◌else◌}
use Rattle.bt_lines.specs.declared.fault.Input.{Input}
use Rattle.bt_lines.specs.declared.fault.Kind.{Kind}
use Rattle.bt_lines.specs.declared.fault.Kind.TheVariants.{ReadFailed}
use Rattle.bt_bed.specs.model.Genome.{Entry}
use Rattle.bt_front.specs.declared.survey.Survey.{Survey}
use Rattle.bt_front.specs.declared.survey.oddity.Oddity.{Oddity}
use Rattle.bt_front.specs.declared.survey.oddity.Oddity.TheVariants.{Gzip}
use Rattle.bt_front.specs.declared.survey.trouble.Trouble.{Trouble}
use Rattle.bt_front.specs.declared.survey.trouble.Trouble.TheVariants.{Odd, Refused}
use Rattle.bt_front.specs.declared.verdict.reason.InOrderOf.TheVariants.{Found}
use Rattle.bt_front.specs.declared.verdict.reason.Reason.{Reason}
use Rattle.bt_front.specs.declared.verdict.reason.Reason.TheVariants.{NoCommonOrder}
use Rattle.bt_front.specs.declared.words.Asked.{Asked}
use Rattle.bt_front.specs.model.Verdict.{have_common_order, lists_hits, verdict_of}
use Rattle.drop_in.specs.calls.Gzip.{is_bam}
use Rattle.drop_in.specs.calls.Opening.{is_stream}
use Rattle.drop_in.specs.declared.genome_file.Unfinished.{Unfinished}
use Rattle.drop_in.specs.declared.genome_file.Unfinished.TheVariants.{Failed, Long, NoMemory as NoMemoryLeft}
use Rattle.drop_in.specs.declared.opening.Ways.{Ways}
use Rattle.drop_in.specs.declared.why.Why.{Why}
use Rattle.drop_in.specs.declared.why.Why.TheVariants.{Bam, GenomeStream, LongStream, NoMemory, Text, TwoStreams, Unzip, Verdict, Zipped}
use Rattle.drop_in.specs.declared.words.Request.{Request}

-- the hits of a record have to be put in order
abbrev pub orders_hits : Request → Bool
orders_hits request = lists_hits request.plan.command && not request.is_sorted

-- the ways in which its inputs come leave it, whatever is in the files
pub data IsWhyOfWays (ways : Ways) : Why → Type 0 where
  of_genome : ways.genome ≡ true → IsWhyOfWays ways GenomeStream
  of_two : is_stream ways.first && is_stream ways.second ≡ true → IsWhyOfWays ways TwoStreams

-- no order of chromosomes is found that fits the inputs, or there is no memory for it
pub data IsWhyOfOrder (one : Survey) (other : Option Survey) : Why → Type 0 where
  none_fits : have_common_order one other ≡ false → IsWhyOfOrder one other (Verdict NoCommonOrder)
  no_memory : IsWhyOfOrder one other NoMemory

-- the verdict on the inputs leaves it; or it takes it by an order that has to be found, which isn't
pub data IsWhyOfVerdict (asked : Asked) (one : Survey) (other : Option Survey) (genome : Option (List Entry)) (why : Why)
    : Type 0 where
  by_reason : (reason : Reason) → verdict_of asked one other genome ≡ Err reason → why ≡ Verdict reason
      → IsWhyOfVerdict asked one other genome why
  by_order : verdict_of asked one other genome ≡ Ok Found → IsWhyOfOrder one other why
      → IsWhyOfVerdict asked one other genome why

-- whether it is a gzip file
abbrev pub is_gzip : Oddity → Bool
is_gzip Gzip = true
is_gzip oddity = false

-- whether a read failed
abbrev pub is_failed_read : Kind → Bool
is_failed_read ReadFailed = true
is_failed_read kind = false

-- of a text, by what leaves it, and by whether its source says that a read failed: if reading failed and it doesn't, there was
-- no memory
abbrev pub text_why : Input → Trouble → Bool → Why
text_why input (Refused fault) has_failed =
    if is_failed_read fault.kind && not has_failed then NoMemory else Text input (Refused fault)
text_why input trouble has_failed = Text input trouble

-- of a file
abbrev pub file_why : Input → Trouble → Bool → Why
file_why input (Odd odd) has_failed = if is_gzip odd.oddity then Zipped input else Text input (Odd odd)
file_why input trouble has_failed = text_why input trouble has_failed

-- of a stream, and by whether more of it is kept than there is room for: then it isn't read on
abbrev pub stream_why : Input → Trouble → Bool → Bool → Why
stream_why input (Refused fault) is_long has_failed =
    if is_failed_read fault.kind && is_long then LongStream else text_why input (Refused fault) has_failed
stream_why input trouble is_long has_failed = Text input trouble

-- of the text of a gzip file: BAM has a name of its own
abbrev pub unzipped_why : Input → Trouble → List ℕ → Why
unzipped_why input trouble text = if is_bam text then Bam input else text_why input trouble false

-- of one that isn't read to its end
abbrev pub unread_why : Input → Unfinished → Why
unread_why input Failed = Unzip input
unread_why input Long = Unzip input
unread_why input NoMemoryLeft = NoMemory
