-- What the inputs of a run are, and the files that have them.
use Rattle.std.specs.Prelude.{ℕ, ◌≡◌, ◌⊎◌, Bool, false, List, [], ◌∷◌, ◌++◌, Option, Some, Vec}
use Rattle.std.specs.Option.{option_to_list}
use Rattle.std.specs.Io.Cursor.{cursor_remaining}
use Rattle.std.specs.declared.alloc.Global.{Global}
use Rattle.std.specs.declared.io.impls.Cursor.{Cursor}
use Rattle.bt_lines.specs.declared.device.Source.{Ghosts as Source}
use Rattle.bt_lines.specs.declared.device.from_read.FromRead.{FromRead}
use Rattle.bt_lines.specs.calls.Device.{Gives, TellsFailure, TellsText, reader_of, read_end_told, read_has_failed}
use Rattle.bt_files.specs.declared.files.Files.{Ghosts as Files}
use Rattle.bt_tool.specs.model.Table.{Word}
use Rattle.drop_in.specs.declared.front_files.FrontInput.{FrontInput}
use Rattle.drop_in.specs.declared.front_files.FrontInput.TheVariants.{Kept, Opened}
use Rattle.drop_in.specs.declared.front_files.FrontFiles.{FrontFiles}

-- the bytes that a text in memory still has
abbrev pub kept_left : FromRead (Cursor (Vec ℕ Global)) → Option (List ℕ)
kept_left text = cursor_remaining (λ bytes. Some bytes.items) (reader_of text)

module _ {I : Type 0} (source : Source I) where
  abbrev pub front_has_failed : FrontInput I → Bool
  front_has_failed (Opened input) = source.has_failed input
  front_has_failed (Kept text) = read_has_failed text

  -- a read is that of the input that was opened, or gives the next bytes of the text in memory
  abbrev pub IsFrontRead : FrontInput I → Option (List ℕ) → FrontInput I → Type 0
  IsFrontRead (Opened before) call (Opened after) = source.is_read before call after
  IsFrontRead (Kept before) call (Kept after) =
      TellsFailure call (read_has_failed before) (read_has_failed after) × Gives (kept_left before) call (kept_left after)
  IsFrontRead before call after = ⊥

  -- an input of a run as a source
  abbrev pub front_source : Source (FrontInput I)
  front_source = record {
    has_failed = front_has_failed;
    is_read = IsFrontRead;
  }

-- an input that wasn't read yet, and gives this text from memory
pub record HasText {I : Type 0} (input : FrontInput I) (text : List ℕ) : Type 0 where
  pub kept : FromRead (Cursor (Vec ℕ Global))
  pub is : input ≡ Kept kept
  pub left : kept_left kept ≡ Some text
  pub served : read_has_failed kept ≡ false
  pub going : read_end_told kept ≡ false

-- its reads tell that text
abbrev pub kept_texts_are_told : {I : Type 0} → Source I → Type 0
kept_texts_are_told {I} source = (input : FrontInput I) (text : List ℕ) → HasText input text
    → TellsText (IsFrontRead source) input text

module _ {F I : Type 0} where
  -- the files below
  abbrev pub files_of : FrontFiles F I → F
  files_of front = front.files

  -- the inputs that are ready and weren't opened yet, in the order in which a plan opens them
  abbrev pub ready_in : FrontFiles F I → List (FrontInput I)
  ready_in front = option_to_list front.genome ++ (option_to_list front.first ++ option_to_list front.second)

  -- the next of them was opened
  abbrev pub OpensNext : FrontFiles F I → Word → FrontInput I → FrontFiles F I → Type 0
  OpensNext before name input after =
      (ready_in before ≡ input ∷ ready_in after) × (files_of after ≡ files_of before)

  module _ {O : Type 0} (files : Files F I O) where
    -- the output was made by the files below
    abbrev pub CreatesBelow : FrontFiles F I → Option Word → O → FrontFiles F I → Type 0
    CreatesBelow before name output after =
        files.creates (files_of before) name output (files_of after) × (ready_in after ≡ ready_in before)

    -- none was ready, or the files below refuse
    abbrev pub RefusesBelow : FrontFiles F I → Word → FrontFiles F I → Type 0
    RefusesBelow before name after =
        ((ready_in before ≡ []) × (after ≡ before))
        ⊎ (files.refuses (files_of before) name (files_of after) × (ready_in after ≡ ready_in before))

    -- the files of a run, whose inputs were looked at before
    abbrev pub front_files : Files (FrontFiles F I) (FrontInput I) O
    front_files = record {
      opens = OpensNext;
      creates = CreatesBelow;
      refuses = RefusesBelow;
    }
