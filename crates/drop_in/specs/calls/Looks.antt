-- What looking at the inputs of a call does: files are those before and after.
use Rattle.std.specs.Prelude.{ℕ, ◌≡◌, ◌<◌, ◌⊎◌, ⊤, false, true, List, [], ◌∷◌, ◌++◌, Option, Some, None, Result, Ok, Err, Vec, length, nat_lt}
use Rattle.std.specs.declared.alloc.Global.{Global}
use Rattle.bt_lines.specs.calls.Device.{EndsAfter, FailsAfter, ReadsOn}
use Rattle.bt_lines.specs.declared.device.Source.{Ghosts as Source}
use Rattle.bt_lines.specs.declared.fault.Input.{Input}
use Rattle.bt_lines.specs.declared.fault.Input.TheVariants.{Genome}
use Rattle.bt_lines.specs.model.Lines.{whole_text}
use Rattle.bt_bed.specs.calls.GenomeTable.{entries}
use Rattle.bt_bed.specs.model.Genome.{genome_handed}
use Rattle.bt_files.specs.declared.files.Files.{Ghosts as Files}
use Rattle.bt_front.specs.calls.Stream.{kept_of, source_of}
use Rattle.bt_front.specs.calls.Survey.{IsTroubleOf, LeavesText, Surveys}
use Rattle.bt_front.specs.declared.stream.keeping.Keeping.{Keeping}
use Rattle.bt_front.specs.declared.survey.Survey.{Survey}
use Rattle.bt_front.specs.declared.survey.trouble.Trouble.{Trouble}
use Rattle.bt_front.specs.model.Survey.{IsSurveyOf}
use Rattle.bt_tool.specs.model.Table.{Word}
use Rattle.drop_in.specs.calls.Gzip.{is_one_part}
use Rattle.drop_in.specs.calls.Opening.{IsRefused}
use Rattle.drop_in.specs.calls.Whys.{file_why, stream_why, unread_why, unzipped_why}
use Rattle.drop_in.specs.declared.genome_file.GenomeFile.{GenomeFile}
use Rattle.drop_in.specs.declared.genome_file.Unfinished.{Unfinished}
use Rattle.drop_in.specs.declared.genome_file.Unfinished.TheVariants.{Failed, Long, NoMemory}
use Rattle.drop_in.specs.declared.looks.Left.{Left}
use Rattle.drop_in.specs.declared.looks.ReadStream.{ReadStream}
use Rattle.drop_in.specs.declared.looks.Reading.TheVariants.{File, Stream, Text}
use Rattle.drop_in.specs.declared.looks.Seen.{Seen}
use Rattle.drop_in.specs.declared.opening.CallInputs.{CallInputs}
use Rattle.drop_in.specs.declared.opening.FileOrStream.{FileOrStream}
use Rattle.drop_in.specs.declared.opening.FileOrStream.TheVariants.{File as IsFile, Stream as IsStream}
use Rattle.drop_in.specs.declared.opening.OpenedFile.{OpenedFile}
use Rattle.drop_in.specs.declared.opening.OpenedGzip.{OpenedGzip}
use Rattle.drop_in.specs.declared.opening.OpenedInput.{OpenedInput}
use Rattle.drop_in.specs.declared.opening.OpenedInput.TheVariants.{File as OfFile, Gzip as OfGzip}
use Rattle.drop_in.specs.declared.why.Why.{Why}
use Rattle.drop_in.specs.declared.why.Why.TheVariants.{NoMemory, Parts, Unzip}

-- all that a source hands over, up to its end
pub record ReadsText {S : Type 0} (source : Source S) (before : S) (text : List ℕ) : Type 0 where
  pub after : S
  pub served : EndsAfter source.is_read before text after

module _ {S : Type 0} (source : Source S) where
  -- these bytes were handed over, and then a read may have failed
  abbrev pub StopsAfter : S → List ℕ → S → Type 0
  StopsAfter before bytes after = ReadsOn source.is_read before bytes after ⊎ FailsAfter source.is_read before bytes after

  -- it says that a read failed
  pub record IsCutOff (before : S) : Type 0 where
    pub bytes : List ℕ
    pub after : S
    pub stops : StopsAfter before bytes after
    pub failed : source.has_failed after ≡ true

  -- it handed over more bytes than there is room for
  pub record IsLong (before : S) (room : ℕ) : Type 0 where
    pub bytes : List ℕ
    pub after : S
    pub stops : StopsAfter before bytes after
    pub is_long : room < length bytes

  -- why it isn't read to its end
  abbrev pub IsUnfinished : S → ℕ → Unfinished → Type 0
  IsUnfinished before room Failed = IsCutOff before
  IsUnfinished before room Long = IsLong before room
  IsUnfinished before room NoMemory = ⊤

  -- the same of what is kept of it
  abbrev pub Unfinishes : Keeping S → ℕ → Unfinished → Type 0
  Unfinishes keeping room Failed = source.has_failed (source_of keeping) ≡ true
  Unfinishes keeping room Long = room < length (kept_of keeping)
  Unfinishes keeping room NoMemory = ⊤

-- A stream was surveyed, and all that it gave is kept, in order.
abbrev pub SurveysStream : {I : Type 0} → Source I → I → ReadStream I → Result Survey Trouble → Type 0
SurveysStream source start stream (Ok survey) =
    (surveys : Surveys source start stream.source survey) × (stream.kept.items ≡ surveys.bytes)
SurveysStream source start stream (Err trouble) =
    (leaves : LeavesText source start stream.source trouble) × (stream.kept.items ≡ leaves.bytes)

-- The files of a call, which were opened before.

module _ {I : Type 0} (source : Source I) where
  -- a genome file was read to its end, and these are its text and its chromosomes
  pub record ReadsGenome (opened : I) (file : GenomeFile) : Type 0 where
    pub reads : ReadsText source opened file.text.items
    pub is : genome_handed Genome (whole_text file.text.items) ≡ Ok (entries file.genome)

  -- if the call has one
  abbrev pub ReadsGenomeIf : Option I → Option GenomeFile → Type 0
  ReadsGenomeIf None None = ⊤
  ReadsGenomeIf (Some opened) (Some file) = ReadsGenome opened file
  ReadsGenomeIf opened file = ⊥

  -- a file was surveyed, and the run reads it as it was opened for that
  pub record SeesFile (file : OpenedFile I) (seen : Seen I) : Type 0 where
    pub read : I
    pub surveys : Surveys source file.for_survey read seen.survey
    pub reading : seen.reading ≡ File file.for_run

  -- or its text leaves the call
  pub record LeavesFile (file : OpenedFile I) (input : Input) (why : Why) : Type 0 where
    pub read : I
    pub trouble : Trouble
    pub leaves : LeavesText source file.for_survey read trouble
    pub because : why ≡ file_why input trouble (source.has_failed read)

  -- a gzip file was unzipped to this text: a NUL comes after it, which isn't part of it, and the file is one part
  pub record IsUnzipped (gzip : OpenedGzip I) (text : List ℕ) : Type 0 where
    pub text_read : ReadsText source gzip.text (text ++ 0 ∷ [])
    pub zipped : List ℕ
    pub zipped_read : ReadsText source gzip.zipped zipped
    pub one_part : is_one_part zipped (length text) ≡ true

  -- or it wasn't: one of both isn't read to its end; or the text has no NUL at its end; or the file has several parts
  pub data IsWhyUnzipped (gzip : OpenedGzip I) (input : Input) (room : ℕ) (why : Why) : Type 0 where
    text_unread : (cause : Unfinished) → IsUnfinished source gzip.text room cause → why ≡ unread_why input cause
        → IsWhyUnzipped gzip input room why
    no_end : (bytes : List ℕ) → ReadsText source gzip.text bytes → ((text : List ℕ) → ¬ (bytes ≡ text ++ 0 ∷ []))
        → why ≡ Unzip input → IsWhyUnzipped gzip input room why
    zipped_unread : (cause : Unfinished) → IsUnfinished source gzip.zipped room cause → why ≡ unread_why input cause
        → IsWhyUnzipped gzip input room why
    parts : (text zipped : List ℕ) → ReadsText source gzip.text (text ++ 0 ∷ []) → ReadsText source gzip.zipped zipped
        → is_one_part zipped (length text) ≡ false → why ≡ Parts input → IsWhyUnzipped gzip input room why

  -- the text of a gzip file was surveyed, and the run reads it
  pub record SeesGzip (gzip : OpenedGzip I) (seen : Seen I) : Type 0 where
    pub text : Vec ℕ Global
    pub unzipped : IsUnzipped gzip text.items
    pub survey : IsSurveyOf text.items seen.survey
    pub reading : seen.reading ≡ Text text

  -- or there is none, or it leaves the call
  pub data LeavesGzip (gzip : OpenedGzip I) (input : Input) (room : ℕ) (why : Why) : Type 0 where
    not_unzipped : IsWhyUnzipped gzip input room why → LeavesGzip gzip input room why
    by_text : (text : List ℕ) (trouble : Trouble) → IsUnzipped gzip text → IsTroubleOf text trouble
        → why ≡ unzipped_why input trouble text → LeavesGzip gzip input room why

  -- an input, if it's a file
  abbrev pub SeesIfFile : FileOrStream (OpenedInput I) → FileOrStream (Seen I) → Type 0
  SeesIfFile (IsFile (OfFile file)) (IsFile seen) = SeesFile file seen
  SeesIfFile (IsFile (OfGzip gzip)) (IsFile seen) = SeesGzip gzip seen
  SeesIfFile IsStream IsStream = ⊤
  SeesIfFile file seen = ⊥

  abbrev pub LeavesIfFile : FileOrStream (OpenedInput I) → Input → ℕ → Why → Type 0
  LeavesIfFile (IsFile (OfFile file)) input room why = LeavesFile file input why
  LeavesIfFile (IsFile (OfGzip gzip)) input room why = LeavesGzip gzip input room why
  LeavesIfFile IsStream input room why = ⊥

  -- if there is one
  abbrev pub SeesOther : Option (FileOrStream (OpenedInput I)) → Option (FileOrStream (Seen I)) → Type 0
  SeesOther None None = ⊤
  SeesOther (Some file) (Some seen) = SeesIfFile file seen
  SeesOther file seen = ⊥

  abbrev pub LeavesOther : Option (FileOrStream (OpenedInput I)) → Input → ℕ → Why → Type 0
  LeavesOther None input room why = ⊥
  LeavesOther (Some file) input room why = LeavesIfFile file input room why

  -- the inputs that are files were looked at
  pub record SeesFiles (opened : CallInputs (OpenedInput I)) (seen : CallInputs (Seen I)) : Type 0 where
    pub first : SeesIfFile opened.first seen.first
    pub second : SeesOther opened.second seen.second

module _ {F I O : Type 0} (files : Files F I O) (source : Source I) where
  -- the stream of this name was opened and surveyed up to its end, and all that it gave is kept
  pub record SeesStream (before : F) (name : Word) (seen : Seen I) (after : F) : Type 0 where
    pub opened : I
    pub stream : ReadStream I
    pub opens : files.opens before name opened after
    pub surveys : SurveysStream source opened stream (Ok seen.survey)
    pub reading : seen.reading ≡ Stream stream

  -- it leaves the call: it wasn't opened, or its text does, and all that its reads handed over is kept, in order
  pub data LeavesStream (before : F) (name : Word) (input : Input) (room : ℕ) (left : Left I) (after : F) : Type 0 where
    unopened : left.stream ≡ None → IsRefused files before name input left.why after
        → LeavesStream before name input room left after
    by_text : (opened : I) (stream : ReadStream I) (trouble : Trouble) → left.stream ≡ Some stream
        → files.opens before name opened after → SurveysStream source opened stream (Err trouble)
        → left.why ≡ stream_why input trouble (nat_lt room (length stream.kept.items)) (source.has_failed stream.source)
        → LeavesStream before name input room left after

  -- an input is looked at in the end: a stream is read now, if it is one
  abbrev pub SeesInput : F → FileOrStream (Seen I) → Word → Seen I → F → Type 0
  SeesInput before (IsFile looked) name seen after = (seen ≡ looked) × (after ≡ before)
  SeesInput before IsStream name seen after = SeesStream before name seen after

  abbrev pub LeavesInput : F → FileOrStream (Seen I) → Word → Input → ℕ → Left I → F → Type 0
  LeavesInput before (IsFile looked) name input room left after = ⊥
  LeavesInput before IsStream name input room left after = LeavesStream before name input room left after

  -- if there is one, which has a name
  abbrev pub SeesInputIf : F → Option (FileOrStream (Seen I)) → Option Word → Option (Seen I) → F → Type 0
  SeesInputIf before None name None after = after ≡ before
  SeesInputIf before (Some looked) None None after = after ≡ before
  SeesInputIf before (Some looked) (Some name) (Some seen) after = SeesInput before looked name seen after
  SeesInputIf before looked name seen after = ⊥

  abbrev pub LeavesInputIf : F → Option (FileOrStream (Seen I)) → Option Word → Input → ℕ → Left I → F → Type 0
  LeavesInputIf before (Some looked) (Some name) input room left after = LeavesInput before looked name input room left after
  LeavesInputIf before looked name input room left after = ⊥
