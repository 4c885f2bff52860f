-- What replaces a standard stream that was closed before the program began.
use Rattle.std.specs.Prelude.{ℕ, Option, IfSome, pos, ◌≡◌}
use Rattle.std.specs.Fd.{file_raw_fd}
use Rattle.std.specs.declared.fs.File.{File}
use Rattle.bt_files.specs.declared.stand_ins.StandIns.{StandIns}

-- if a file replaces a stream, it has the stream's descriptor
abbrev pub HasNumber : ℕ → Option File → Type 0
HasNumber number held = IfSome held (λ file. file_raw_fd file ≡ pos number)

-- each file that is held has the descriptor of its stream
pub record StandInPlace (held : StandIns) : Type 0 where
  pub input : HasNumber 0 held.input
  pub output : HasNumber 1 held.output
  pub error : HasNumber 2 held.error
