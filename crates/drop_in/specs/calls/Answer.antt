-- What becomes of a call: files are those before and after.
use Rattle.std.specs.Prelude.{ℕ, ◌≡◌, true, false, Option, None}
use Rattle.bt_lines.specs.declared.device.Sink.{Ghosts as Sink}
use Rattle.bt_lines.specs.declared.device.Source.{Ghosts as Source}
use Rattle.bt_lines.specs.declared.fault.Input.TheVariants.{First, Second}
use Rattle.bt_files.specs.declared.carrying_out.Finished.{Finished}
use Rattle.bt_files.specs.declared.files.Files.{Ghosts as Files}
use Rattle.bt_tool.specs.calls.Plan.{plan_seen}
use Rattle.bt_tool.specs.model.Options.{Named, PlanSeen}
use Rattle.drop_in.specs.calls.Call.{AreRunnable, IsLeftByVerdict, IsTaken, RunsInputs, asked_by, stream_among}
use Rattle.drop_in.specs.calls.GenomeFiles.{IsWhyOfGenomeIf}
use Rattle.drop_in.specs.calls.Hits.{IsWhyOfHits, ListsInputs}
use Rattle.drop_in.specs.calls.Looks.{LeavesIfFile, LeavesInput, LeavesInputIf, LeavesOther, ReadsGenomeIf, SeesFiles, SeesIfFile, SeesInput, SeesInputIf}
use Rattle.drop_in.specs.calls.Opening.{CannotOpen, OpensAll}
use Rattle.drop_in.specs.calls.Whys.{IsWhyOfWays, orders_hits}
use Rattle.drop_in.specs.declared.answering.Answered.{Answered}
use Rattle.drop_in.specs.declared.answering.Answered.TheVariants.{Left as IsLeft, Listed as Lists, Took}
use Rattle.drop_in.specs.declared.answering.Inputs.{Inputs}
use Rattle.drop_in.specs.declared.front_files.FrontInput.{FrontInput}
use Rattle.drop_in.specs.declared.genome_file.GenomeFile.{GenomeFile}
use Rattle.drop_in.specs.declared.hits.Listed.{Listed}
use Rattle.drop_in.specs.declared.looks.Left.{Left}
use Rattle.drop_in.specs.declared.looks.Seen.{Seen}
use Rattle.drop_in.specs.declared.opening.CallInputs.{CallInputs}
use Rattle.drop_in.specs.declared.opening.FileOrStream.{FileOrStream}
use Rattle.drop_in.specs.declared.opening.OpenedInput.{OpenedInput}
use Rattle.drop_in.specs.declared.opening.OpenedFiles.{OpenedFiles}
use Rattle.drop_in.specs.declared.opening.Ways.{Ways}
use Rattle.drop_in.specs.declared.why.Why.{Why}
use Rattle.drop_in.specs.declared.words.Request.{Request}

module _ {I : Type 0} (source : Source I) where
  -- the first of the files whose text leaves the call
  pub data LeavesFiles (opened : CallInputs (OpenedInput I)) (room : ℕ) (why : Why) : Type 0 where
    of_first : LeavesIfFile source opened.first First room why → LeavesFiles opened room why
    of_second : (seen : FileOrStream (Seen I)) → SeesIfFile source opened.first seen
        → LeavesOther source opened.second Second room why → LeavesFiles opened room why

module _ {F I O : Type 0} (files : Files F I O) (source : Source I) where
  -- all inputs were looked at: the stream too, after the files
  pub record SeesInputs (before : F) (names : Named) (looked : CallInputs (Seen I)) (first : Seen I) (second : Option (Seen I))
      (after : F) : Type 0 where
    pub between : F
    pub first_seen : SeesInput files source before looked.first names.first first between
    pub second_seen : SeesInputIf files source between looked.second names.second second after

  -- the stream leaves the call
  pub data LeavesStreams (before : F) (names : Named) (looked : CallInputs (Seen I)) (room : ℕ) (left : Left I) (after : F)
      : Type 0 where
    of_first : LeavesInput files source before looked.first names.first First room left after
        → LeavesStreams before names looked room left after
    of_second : (first : Seen I) (between : F) → SeesInput files source before looked.first names.first first between
        → LeavesInputIf files source between looked.second names.second Second room left after
        → LeavesStreams before names looked room left after

  -- All that was opened was looked at, and then the stream; and the verdict takes the call, with these inputs.
  pub record LooksAtOpened (before : F) (request : Request) (opened : OpenedFiles I) (inputs : Inputs I) (after : F)
      : Type 0 where
    pub given : Option GenomeFile
    pub looked : CallInputs (Seen I)
    pub first : Seen I
    pub second : Option (Seen I)
    pub genome_read : ReadsGenomeIf source opened.genome given
    pub files_seen : SeesFiles source opened.inputs looked
    pub seen : SeesInputs before (plan_seen request.plan).names looked first second after
    pub taken : IsTaken (asked_by request) given first second inputs

  -- Something of it leaves the call: the genome file, another file, the stream, or the verdict on all of them.
  pub data LeavesOpened (before : F) (request : Request) (opened : OpenedFiles I) (room : ℕ) (left : Left I) (after : F)
      : Type 0 where
    by_genome : left.stream ≡ None → after ≡ before → IsWhyOfGenomeIf source opened.genome left.why
        → LeavesOpened before request opened room left after
    by_file : (given : Option GenomeFile) → left.stream ≡ None → after ≡ before → ReadsGenomeIf source opened.genome given
        → LeavesFiles source opened.inputs room left.why → LeavesOpened before request opened room left after
    by_stream : (given : Option GenomeFile) (looked : CallInputs (Seen I)) → ReadsGenomeIf source opened.genome given
        → SeesFiles source opened.inputs looked → LeavesStreams before (plan_seen request.plan).names looked room left after
        → LeavesOpened before request opened room left after
    by_verdict : (given : Option GenomeFile) (looked : CallInputs (Seen I)) (first : Seen I) (second : Option (Seen I))
        → ReadsGenomeIf source opened.genome given → SeesFiles source opened.inputs looked
        → SeesInputs before (plan_seen request.plan).names looked first second after
        → IsLeftByVerdict (asked_by request) given first second left → LeavesOpened before request opened room left after

  -- The inputs of a call were looked at, once all its files were opened, and the verdict takes it with these inputs.
  pub record Looks (before : F) (request : Request) (ways : Ways) (inputs : Inputs I) (after : F) : Type 0 where
    pub runnable : AreRunnable ways
    pub opened : OpenedFiles I
    pub between : F
    pub opens : OpensAll files before (plan_seen request.plan).names ways opened between
    pub looks : LooksAtOpened between request opened inputs after

  -- It is left: for the ways in which its inputs come, whatever is in the files; or a file can't be opened; or once all were opened, for what they are;
  -- or its hits can't be listed, though the verdict takes it.
  pub data LeavesCall (before : F) (request : Request) (ways : Ways) (room : ℕ) (left : Left I) (after : F) : Type 0 where
    by_ways : left.stream ≡ None → after ≡ before → IsWhyOfWays ways left.why
        → LeavesCall before request ways room left after
    unopened : left.stream ≡ None → CannotOpen files before (plan_seen request.plan).names ways left.why after
        → LeavesCall before request ways room left after
    once_opened : (opened : OpenedFiles I) (between : F) → AreRunnable ways
        → OpensAll files before (plan_seen request.plan).names ways opened between
        → LeavesOpened between request opened room left after → LeavesCall before request ways room left after
    once_taken : (inputs : Inputs I) → orders_hits request ≡ true → Looks before request ways inputs after
        → left.stream ≡ stream_among inputs.first inputs.second → IsWhyOfHits source inputs room left.why
        → LeavesCall before request ways room left after

module _ {F I O : Type 0} (files : Files F I O) (source : Source I) (sink : Sink O) where
  -- a call is taken: its inputs were looked at, no hits have to be put in order, and then its plan was run over them
  pub record Takes (before : F) (request : Request) (ways : Ways) (finished : Finished (FrontInput I) O) (after : F)
      : Type 0 where
    pub inputs : Inputs I
    pub between : F
    pub looked : Looks files source before request ways inputs between
    pub hits : orders_hits request ≡ false
    pub ran : RunsInputs files source sink between (plan_seen request.plan) inputs finished after

  -- a call is taken whose hits have to be put in order: its inputs were looked at, and then they were listed so
  pub record TakesHits (before : F) (request : Request) (ways : Ways) (listed : Listed O) (after : F) : Type 0 where
    pub inputs : Inputs I
    pub between : F
    pub looked : Looks files source before request ways inputs between
    pub hits : orders_hits request ≡ true
    pub lists : ListsInputs files sink source between (plan_seen request.plan) inputs listed after

  -- what becomes of inputs whose hits have to be put in order
  abbrev pub ListsTaken : F → PlanSeen → Inputs I → ℕ → Answered I O → F → Type 0
  ListsTaken before plan inputs room (Took finished) after = ⊥
  ListsTaken before plan inputs room (Lists listed) after = ListsInputs files sink source before plan inputs listed after
  ListsTaken before plan inputs room (IsLeft left) after =
      (after ≡ before) × (left.stream ≡ stream_among inputs.first inputs.second) × IsWhyOfHits source inputs room left.why

  -- what becomes of a call, of whose stream as many bytes are kept as there is room for
  abbrev pub Answers : F → Request → Ways → ℕ → Answered I O → F → Type 0
  Answers before request ways room (Took finished) after = Takes before request ways finished after
  Answers before request ways room (Lists listed) after = TakesHits before request ways listed after
  Answers before request ways room (IsLeft left) after = LeavesCall files source before request ways room left after
