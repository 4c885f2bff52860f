-- What becomes of a call: files are those before and after.
use Rattle.std.specs.Prelude.{ℕ, ◌≡◌, ◌&&◌, ⊤, Bool, true, false, is_some, List, [], Option, Some, None, Ok, Vec, option_map}
use Rattle.std.specs.declared.alloc.Global.{Global}
use Rattle.bt_lines.specs.declared.device.Sink.{Ghosts as Sink}
use Rattle.bt_lines.specs.declared.device.Source.{Ghosts as Source}
use Rattle.bt_bed.specs.calls.GenomeTable.{entries}
use Rattle.bt_bed.specs.model.Genome.{Entry}
use Rattle.bt_files.specs.calls.Ending.{Ends}
use Rattle.bt_files.specs.declared.carrying_out.Finished.{Finished}
use Rattle.bt_files.specs.declared.files.Files.{Ghosts as Files}
use Rattle.bt_front.specs.declared.survey.Survey.{Survey}
use Rattle.bt_front.specs.declared.verdict.reason.InOrderOf.{InOrderOf}
use Rattle.bt_front.specs.declared.verdict.reason.InOrderOf.TheVariants.{Bytes, Found, GenomeFile as ByGenome}
use Rattle.bt_front.specs.declared.words.Asked.{Asked}
use Rattle.bt_front.specs.model.Fitting.{common_names, order_text}
use Rattle.bt_front.specs.model.Verdict.{names_seen, second_names, verdict_of}
use Rattle.bt_tool.specs.model.Options.{PlanSeen}
use Rattle.bt_tool.specs.model.Table.{Word}
use Rattle.drop_in.specs.calls.Inputs.{HasText, files_of, front_files, front_source}
use Rattle.drop_in.specs.calls.Opening.{is_stream}
use Rattle.drop_in.specs.calls.Whys.{IsWhyOfVerdict}
use Rattle.drop_in.specs.declared.answering.Inputs.{Inputs}
use Rattle.drop_in.specs.declared.front_files.FrontFiles.{FrontFiles}
use Rattle.drop_in.specs.declared.front_files.FrontInput.{FrontInput}
use Rattle.drop_in.specs.declared.front_files.FrontInput.TheVariants.{Opened}
use Rattle.drop_in.specs.declared.genome_file.GenomeFile.{GenomeFile}
use Rattle.drop_in.specs.declared.looks.Left.{Left}
use Rattle.drop_in.specs.declared.looks.ReadStream.{ReadStream}
use Rattle.drop_in.specs.declared.looks.Reading.{Reading}
use Rattle.drop_in.specs.declared.looks.Reading.TheVariants.{File, Stream, Text}
use Rattle.drop_in.specs.declared.looks.Seen.{Seen}
use Rattle.drop_in.specs.declared.opening.Ways.{Ways}
use Rattle.drop_in.specs.declared.words.Request.{Request}

-- what the words of a request ask for
abbrev pub asked_by : Request → Asked
asked_by request = record { command = request.plan.command; is_sorted = request.is_sorted }

-- The call may be run here: one of its inputs is a stream at most, which isn't the genome file.
pub record AreRunnable (ways : Ways) : Type 0 where
  pub genome : ways.genome ≡ false
  pub one : is_stream ways.first && is_stream ways.second ≡ false

-- Inputs that were looked at.

-- the surveys of inputs
abbrev pub survey_if : {I : Type 0} → Option (Seen I) → Option Survey
survey_if seen = option_map (λ seen. seen.survey) seen

abbrev pub reading_if : {I : Type 0} → Option (Seen I) → Option (Reading I)
reading_if seen = option_map (λ seen. seen.reading) seen

-- the stream of an input that a call may lack, if it is one
abbrev pub stream_of : {I : Type 0} → Option (Reading I) → Option (ReadStream I)
stream_of (Some (Stream stream)) = Some stream
stream_of (Some (File again)) = None
stream_of (Some (Text text)) = None
stream_of None = None

-- the stream among the inputs
abbrev pub stream_among : {I : Type 0} → Reading I → Option (Reading I) → Option (ReadStream I)
stream_among (Stream stream) second = Some stream
stream_among (File again) second = stream_of second
stream_among (Text text) second = stream_of second

-- The text of the genome file that a run goes by: what was read of the one that is given; or that of the order that was found.
abbrev pub IsOrderText : InOrderOf → Option GenomeFile → Survey → Option Survey → Option (List ℕ) → Type 0
IsOrderText Bytes given one other text = text ≡ None
IsOrderText ByGenome given one other text = text ≡ option_map (λ file. file.text.items) given
IsOrderText Found given one other text =
    text ≡ option_map order_text (common_names (names_seen one) (second_names other))

-- the chromosomes of a genome file
abbrev pub entries_if : Option GenomeFile → Option (List Entry)
entries_if given = option_map (λ file. entries file.genome) given

-- The verdict takes the call, and its run goes by this genome file, if there is one.
pub record IsOrder (asked : Asked) (given : Option GenomeFile) (one : Survey) (other : Option Survey)
    (text : Option (Vec ℕ Global)) : Type 0 where
  pub order : InOrderOf
  pub verdict : verdict_of asked one other (entries_if given) ≡ Ok order
  pub goes_by : IsOrderText order given one other (option_map (λ text. text.items) text)

-- and these are the inputs of the run
pub record IsTaken {I : Type 0} (asked : Asked) (given : Option GenomeFile) (first : Seen I) (second : Option (Seen I))
    (inputs : Inputs I) : Type 0 where
  pub order : IsOrder asked given first.survey (survey_if second) inputs.genome
  pub first_is : inputs.first ≡ first.reading
  pub second_is : inputs.second ≡ reading_if second

-- or it leaves the call, whose stream is kept
pub record IsLeftByVerdict {I : Type 0} (asked : Asked) (given : Option GenomeFile) (first : Seen I) (second : Option (Seen I))
    (left : Left I) : Type 0 where
  pub because : IsWhyOfVerdict asked first.survey (survey_if second) (entries_if given) left.why
  pub stream : left.stream ≡ stream_among first.reading (reading_if second)

-- The run.

-- what a run reads of an input: the file that was opened again, or all that was kept of the stream, or the text of a gzip file
abbrev pub Reads : {I : Type 0} → Reading I → FrontInput I → Type 0
Reads (File again) input = input ≡ Opened again
Reads (Stream stream) input = HasText input stream.kept.items
Reads (Text text) input = HasText input text.items

-- if there is such an input
abbrev pub ReadsIf : {I : Type 0} → Option (Reading I) → Option (FrontInput I) → Type 0
ReadsIf None None = ⊤
ReadsIf (Some reading) (Some input) = Reads reading input
ReadsIf reading input = ⊥

-- a text in memory, if there is one
abbrev pub HasTextIf : {I : Type 0} → Option (Vec ℕ Global) → Option (FrontInput I) → Type 0
HasTextIf None None = ⊤
HasTextIf (Some text) (Some input) = HasText input text.items
HasTextIf text input = ⊥

-- the inputs of a run are ready
pub record AreReady {F I : Type 0} (inputs : Inputs I) (files : F) (front : FrontFiles F I) : Type 0 where
  pub below : files_of front ≡ files
  pub genome : HasTextIf inputs.genome front.genome
  pub first : ReadsIf (Some inputs.first) front.first
  pub second : ReadsIf inputs.second front.second

-- the names of the files of a run: if it goes by an order that was found, its genome file has no name
abbrev pub genome_name : Bool → Option Word → Option Word
genome_name false name = name
genome_name true None = Some []
genome_name true (Some name) = Some name

abbrev pub plan_by : Bool → PlanSeen → PlanSeen
plan_by has_order plan = record {
  command = plan.command;
  names = record {
    genome = genome_name has_order plan.names.genome;
    first = plan.names.first;
    second = plan.names.second;
    output = plan.names.output;
  };
}

module _ {F I O : Type 0} (files : Files F I O) (source : Source I) (sink : Sink O) where
  -- The plan was carried out over files that have these inputs ready.
  pub record RunsInputs (before : F) (plan : PlanSeen) (inputs : Inputs I) (finished : Finished (FrontInput I) O)
      (after : F) : Type 0 where
    pub front : FrontFiles F I
    pub front_after : FrontFiles F I
    pub ready : AreReady inputs before front
    pub ends : Ends (front_files files) (front_source source) sink front
        (plan_by (is_some inputs.genome) plan) finished.message finished.left front_after
    pub left_below : files_of front_after ≡ after
