-- The lines that the program itself reports, and the exit statuses that go with them.
use Rattle.std.specs.Prelude.{ℕ, List, [], ◌++◌, ◌≡◌, ◌⊎◌, codes, length}
use Rattle.bt_tool.specs.calls.Plan.{words_seen}
use Rattle.bt_tool.specs.model.Usage.{usage_text}
use Rattle.bt_tool.specs.calls.CommandLine.{IsTellable}
use Rattle.bt_files.specs.declared.message.Obstacle.{Obstacle}
use Rattle.bt_files.specs.declared.message.Obstacle.TheVariants.{NotUnicode, Usage, ClosedStream, CannotOpen, NoMemory}
use Rattle.bt_files.specs.declared.message.Message.{Message}
use Rattle.bt_files.specs.declared.message.MessageLine.{MessageLine}
use Rattle.bt_files.specs.declared.message.MessageLine.TheVariants.{Nothing, Text, NoMemory as NoMemoryLine}

-- a fault of usage is reported of the words that it is about
abbrev pub CanBeReported : Obstacle → Type 0
CanBeReported NotUnicode = Unit {0}
CanBeReported (Usage words usage) = IsTellable usage (length words.now)
CanBeReported ClosedStream = Unit {0}
CanBeReported (CannotOpen command name) = Unit {0}
CanBeReported NoMemory = Unit {0}

-- the line of a file that a command can't open
abbrev pub cannot_open_text : List ℕ → List ℕ → List ℕ
cannot_open_text command name =
    codes "bedtools " ++ command ++ codes ": " ++ name ++ codes ": cannot be opened\n"

-- the line, with its line feed
abbrev pub obstacle_line : Obstacle → List ℕ
obstacle_line NotUnicode = codes "bedtools: argument is not UTF-8\n"
obstacle_line (Usage words usage) = usage_text (words_seen words.now) usage
obstacle_line ClosedStream = codes "bedtools: standard stream is closed\n"
obstacle_line (CannotOpen command name) = cannot_open_text command.now name.now
obstacle_line NoMemory = codes "bedtools: no memory\n"

-- the exit status
abbrev pub obstacle_status : Obstacle → ℕ
obstacle_status NotUnicode = 2
obstacle_status (Usage words usage) = 2
obstacle_status ClosedStream = 1
obstacle_status (CannotOpen command name) = 1
obstacle_status NoMemory = 1

-- what standard error gets
abbrev pub message_seen : MessageLine → List ℕ
message_seen Nothing = []
message_seen (Text line) = line.items
message_seen NoMemoryLine = codes "bedtools: no memory\n"

-- a message says that there was no memory
abbrev pub SaysNoMemory : Message → Type 0
SaysNoMemory message =
    message_seen message.line ≡ codes "bedtools: no memory\n" × message.status ≡ 1

-- a message says this line with this exit status; or there was no memory for the line,
-- which has status 1
abbrev pub Says : List ℕ → ℕ → Message → Type 0
Says line status message =
    (message_seen message.line ≡ line × message.status ≡ status) ⊎ SaysNoMemory message
