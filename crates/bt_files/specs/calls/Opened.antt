-- What the program opens: the input that a name means,
-- and whether a device has failed or was flushed.
use Rattle.std.specs.Prelude.{◌≡◌, Bool, true, false, is_some, List, [], ℕ, Option, Some, None, if◌then◌else◌}
use Rattle.bt_lines.specs.declared.device.Sink.{Ghosts as Sink}
use Rattle.bt_lines.specs.declared.device.Source.{Ghosts as Source}
use Rattle.bt_lines.specs.calls.Device.{TellsFailure, read_has_failed, read_end_told, write_has_failed, write_is_flushed, writer_took}
use Rattle.bt_tool.specs.model.Options.{is_standard_input}
use Rattle.bt_files.specs.calls.Logged.{HandsOver, handed_by, source_below}
use Rattle.bt_files.specs.declared.opened.Input.{Input}
use Rattle.bt_files.specs.declared.opened.Input.TheVariants.{Standard as StandardInput, File as FileInput}
use Rattle.bt_files.specs.declared.opened.Opened.{Opened}
use Rattle.bt_files.specs.declared.opened.Device.{Device as InputDevice}
use Rattle.bt_files.specs.declared.opened.Device.TheVariants.{File, Standard}
use Rattle.bt_files.specs.declared.output.Output.{Output}
use Rattle.bt_files.specs.declared.output.Device.{Device}
use Rattle.bt_files.specs.declared.output.Device.TheVariants.{Standard as StandardOutput, File as FileOutput}

-- An input of a run: a file, or standard input.

abbrev pub input_has_failed : InputDevice → Bool
input_has_failed (File source) = read_has_failed (source_below source)
input_has_failed (Standard source) = read_has_failed (source_below source)

abbrev pub input_end_told : InputDevice → Bool
input_end_told (File source) = read_end_told (source_below source)
input_end_told (Standard source) = read_end_told (source_below source)

abbrev pub input_handed : InputDevice → List ℕ
input_handed (File source) = handed_by source
input_handed (Standard source) = handed_by source

abbrev pub input_is_standard : InputDevice → Bool
input_is_standard (File source) = false
input_is_standard (Standard source) = true

abbrev pub opened_has_failed : Opened → Bool
opened_has_failed opened = input_has_failed opened.device

abbrev pub opened_end_told : Opened → Bool
opened_end_told opened = input_end_told opened.device

-- whether it is standard input
abbrev pub opened_is_standard : Opened → Bool
opened_is_standard opened = input_is_standard opened.device

-- the bytes that it handed over since it was opened
abbrev pub opened_handed : Opened → List ℕ
opened_handed opened = input_handed opened.device

-- an input as a source
abbrev pub opened_source : Source Opened
opened_source = record {
  has_failed = opened_has_failed;
  is_read = λ before call after. TellsFailure call (opened_has_failed before) (opened_has_failed after)
      × HandsOver (opened_handed before) call (opened_handed after);
}

-- an input of which no read has failed or told the end, and which handed over nothing: standard input, or a file, as its
-- name says
pub record IsUnused (name : List ℕ) (input : Opened) : Type 0 where
  pub none : opened_handed input ≡ []
  pub served : opened_has_failed input ≡ false
  pub going : opened_end_told input ≡ false
  pub standard : opened_is_standard input ≡ is_standard_input name

-- The output of a run: a file, or standard output.

abbrev pub device_has_failed : Device → Bool
device_has_failed (StandardOutput sink) = write_has_failed sink
device_has_failed (FileOutput sink) = write_has_failed sink

abbrev pub device_is_flushed : Device → Bool
device_is_flushed (StandardOutput sink) = write_is_flushed sink
device_is_flushed (FileOutput sink) = write_is_flushed sink

abbrev pub device_took : Device → List ℕ
device_took (StandardOutput sink) = writer_took sink
device_took (FileOutput sink) = writer_took sink

abbrev pub device_is_file : Device → Bool
device_is_file (StandardOutput sink) = false
device_is_file (FileOutput sink) = true

abbrev pub output_has_failed : Output → Bool
output_has_failed output = device_has_failed output.device

-- whether it is a file
abbrev pub output_is_file : Output → Bool
output_is_file output = device_is_file output.device

-- whether it was flushed since the last write
abbrev pub output_is_flushed : Output → Bool
output_is_flushed output = device_is_flushed output.device

-- the bytes that it took since it was opened
abbrev pub output_took : Output → List ℕ
output_took output = device_took output.device

-- an output as a sink
abbrev pub output_sink : Sink Output
output_sink = record {
  took = output_took;
  has_failed = output_has_failed;
  last_failed = output_has_failed;
  is_flushed = output_is_flushed;
}

-- an output to which nothing was written: standard output, or a file if it has a name
pub record IsUnwritten (name : Option (List ℕ)) (output : Output) : Type 0 where
  pub none : output_took output ≡ []
  pub file : output_is_file output ≡ is_some name

-- the file that is opened by its name, or none for standard input
abbrev pub file_named : List ℕ → Option (List ℕ)
file_named name = if is_standard_input name then None else Some name

abbrev pub input_meant : Input → Option (List ℕ)
input_meant StandardInput = None
input_meant (FileInput name) = Some name.now
