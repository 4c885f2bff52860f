-- How the files of a call are opened, before any is read: files are those before and after.
use Rattle.std.specs.Prelude.{◌≡◌, ◌⊎◌, Bool, true, false, Option, Some, None}
use Rattle.bt_lines.specs.declared.fault.Input.{Input}
use Rattle.bt_lines.specs.declared.fault.Input.TheVariants.{First, Genome, Second}
use Rattle.bt_files.specs.calls.Ending.{OpensIf}
use Rattle.bt_files.specs.declared.files.Files.{Ghosts as Files}
use Rattle.bt_tool.specs.model.Options.{Named}
use Rattle.bt_tool.specs.model.Table.{Word}
use Rattle.drop_in.specs.declared.opening.FileOrStream.{FileOrStream}
use Rattle.drop_in.specs.declared.opening.FileOrStream.TheVariants.{File as IsFile, Stream as IsStream}
use Rattle.drop_in.specs.declared.opening.OpenedFiles.{OpenedFiles}
use Rattle.drop_in.specs.declared.opening.OpenedInput.{OpenedInput}
use Rattle.drop_in.specs.declared.opening.OpenedInput.TheVariants.{File as OfFile, Gzip as OfGzip}
use Rattle.drop_in.specs.declared.opening.Way.{Way}
use Rattle.drop_in.specs.declared.opening.Way.TheVariants.{File, Stream, Unzipped}
use Rattle.drop_in.specs.declared.opening.Ways.{Ways}
use Rattle.drop_in.specs.declared.why.Why.{Why}
use Rattle.drop_in.specs.declared.why.Why.TheVariants.{NoMemory, Unopened}

-- an input is a stream, which can be read only once
abbrev pub is_stream : Way → Bool
is_stream Stream = true
is_stream File = false
is_stream (Unzipped pipe) = false

module _ {F I O : Type 0} (files : Files F I O) where
  -- the files of both names were opened, one after the other
  pub record OpensBoth (before : F) (name other : Word) (one two : I) (after : F) : Type 0 where
    pub between : F
    pub opens : files.opens before name one between
    pub opens_other : files.opens between other two after

  -- An input was opened: a file twice, for the survey and for the run; a gzip file once, and then the pipe of its text. A stream
  -- comes later.
  abbrev pub OpensInput : Way → F → Word → FileOrStream (OpenedInput I) → F → Type 0
  OpensInput File before name (IsFile (OfFile file)) after =
      OpensBoth before name name file.for_survey file.for_run after
  OpensInput (Unzipped pipe) before name (IsFile (OfGzip gzip)) after =
      OpensBoth before name pipe.now gzip.zipped gzip.text after
  OpensInput Stream before name IsStream after = after ≡ before
  OpensInput way before name input after = ⊥

  -- if there is one
  abbrev pub OpensInputIf : Way → F → Option Word → Option (FileOrStream (OpenedInput I)) → F → Type 0
  OpensInputIf way before None None after = after ≡ before
  OpensInputIf way before (Some name) (Some input) after = OpensInput way before name input after
  OpensInputIf way before name input after = ⊥

  -- All files of a call were opened, in this order: the genome file once, and each input as it comes.
  pub record OpensAll (before : F) (names : Named) (ways : Ways) (opened : OpenedFiles I) (after : F) : Type 0 where
    pub with_genome : F
    pub with_first : F
    pub genome : OpensIf files before names.genome opened.genome with_genome
    pub first : OpensInput ways.first with_genome names.first opened.inputs.first with_first
    pub second : OpensInputIf ways.second with_first names.second opened.inputs.second after

  -- a file of this name wasn't opened, which leaves the call
  pub record IsRefused (before : F) (name : Word) (input : Input) (why : Why) (after : F) : Type 0 where
    pub refuses : files.refuses before name after
    pub because : (why ≡ Unopened input) ⊎ (why ≡ NoMemory)

  -- the first of two names wasn't opened, or the second one
  pub data CannotOpenBoth (before : F) (name other : Word) (input : Input) (why : Why) (after : F) : Type 0 where
    at_once : IsRefused before name input why after → CannotOpenBoth before name other input why after
    other_one : (opened : I) (between : F) → files.opens before name opened between
        → IsRefused between other input why after → CannotOpenBoth before name other input why after

  -- what an input is read from wasn't opened
  abbrev pub CannotOpenInput : Way → F → Word → Input → Why → F → Type 0
  CannotOpenInput File before name input why after = CannotOpenBoth before name name input why after
  CannotOpenInput (Unzipped pipe) before name input why after = CannotOpenBoth before name pipe.now input why after
  CannotOpenInput Stream before name input why after = ⊥

  -- if there is one
  abbrev pub IsRefusedIf : F → Option Word → Input → Why → F → Type 0
  IsRefusedIf before None input why after = ⊥
  IsRefusedIf before (Some name) input why after = IsRefused before name input why after

  abbrev pub CannotOpenIf : Way → F → Option Word → Input → Why → F → Type 0
  CannotOpenIf way before None input why after = ⊥
  CannotOpenIf way before (Some name) input why after = CannotOpenInput way before name input why after

  -- the first file of a call that can't be opened leaves it, and no later one was tried
  pub data CannotOpen (before : F) (names : Named) (ways : Ways) (why : Why) (after : F) : Type 0 where
    no_genome : IsRefusedIf before names.genome Genome why after → CannotOpen before names ways why after
    no_first : (genome : Option I) (between : F) → OpensIf files before names.genome genome between
        → CannotOpenInput ways.first between names.first First why after → CannotOpen before names ways why after
    no_second : (genome : Option I) (with_genome : F) (first : FileOrStream (OpenedInput I)) (between : F)
        → OpensIf files before names.genome genome with_genome
        → OpensInput ways.first with_genome names.first first between
        → CannotOpenIf ways.second between names.second Second why after → CannotOpen before names ways why after
