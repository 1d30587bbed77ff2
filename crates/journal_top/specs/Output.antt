use Rattle.std.specs.Prelude.{ℕ, ◌+◌, List, [], ◌∷◌, ◌++◌, ◌==◌, if◌then◌else◌, Option, Some, None, Result, Ok, Err}
use Rattle.io_edges.specs.declared.status.Status.{Status}
use Rattle.io_edges.specs.declared.status.Status.TheVariants.{Done, BadLine, Limit, ReadFault}
use Rattle.view_config.specs.declared.limits.TheConstants.{LINE_LIMIT_ONE}
use Rattle.trace_script.specs.EndTexts.{bad_line_text, limit_text, read_fault_text}
use Rattle.script_streams.specs.Lines.{Lines, Long, Part, Rest, lines_of}
use Rattle.script_streams.specs.Texts.{with_newline}
use Rattle.journal_script.specs.declared.command.Command.{Command}
use Rattle.journal_script.specs.Script.{command_of}
use Rattle.journal_script.specs.Texts.{end_text}
use Rattle.journal_top.specs.declared.tool.TheConstants.{LINES_LIMIT}
use Rattle.journal_top.specs.declared.words.Shard.{Shard}
use Rattle.journal_top.specs.Rules.{Told, ToolState, follow, is_over, start}

-- The output of a script: the texts that are written for its bytes, each with its newline, and how that ends.

-- what lines give: the texts, and what the tool is then, or why it stopped
pub record Output : Type 0 where
  pub texts : List (List ℕ)
  pub now : Result ToolState Status

abbrev pub goes_on : ToolState → Output
goes_on t = record { texts = []; now = Ok t }

abbrev pub stops : Status → Output
stops status = record { texts = []; now = Err status }

-- a text, where there is one
abbrev pub closing_of : Option (List ℕ) → List (List ℕ)
closing_of None = []
closing_of (Some text) = with_newline text ∷ []

-- a line did this
abbrev pub told_output : Told → Output
told_output told = record { texts = closing_of told.1; now = Ok told.0 }

-- a line was parsed: it says a command, or nothing. An entry may be one too many.
abbrev pub command_output : ToolState → Command → Output
command_output t command = if is_over t command then stops (Limit t.lines) else told_output (follow t command)

abbrev pub parsed_output : ToolState → Option Command → Output
parsed_output t None = stops (BadLine t.lines)
parsed_output t (Some command) = command_output t command

-- one line more, unless there may be none
abbrev pub counted : ToolState → (ToolState → Output) → Output
counted t output = if t.lines == LINES_LIMIT then stops (Limit (LINES_LIMIT + 1)) else output (record t { lines = t.lines + 1 })

-- the line was read to its end, or is too long
abbrev pub line_output : ToolState → List ℕ → Output
line_output t line = counted t (λ more. parsed_output more (command_of line))

abbrev pub long_output : ToolState → Output
long_output t = counted t (λ more. stops (BadLine more.lines))

-- a status with which a script stops at a line
abbrev pub IsStop : Status → Type 0
IsStop (BadLine number) = Unit {0}
IsStop (Limit number) = Unit {0}
IsStop _ = ⊥

-- one output, and the next one behind it
abbrev pub behind : Output → Output → Output
behind first next = record { texts = first.texts ++ next.texts; now = next.now }

-- one output, and then that which goes on from where the first one led
abbrev pub continued_from : Output → Result ToolState Status → (ToolState → Output) → Output
continued_from first (Err status) more = first
continued_from first (Ok t) more = behind first (more t)

abbrev pub continued : Output → (ToolState → Output) → Output
continued first more = continued_from first first.now more

-- these lines were read
abbrev pub lines_output : ToolState → List (List ℕ) → Output
lines_output t [] = goes_on t
lines_output t (line ∷ lines) = continued (line_output t line) (λ next. lines_output next lines)

-- what stands behind the last newline counts where it isn't empty
abbrev pub rest_output : ToolState → Rest → Output
rest_output t (Part []) = goes_on t
rest_output t (Part (byte ∷ bytes)) = line_output t (byte ∷ bytes)
rest_output t Long = long_output t

abbrev pub all_output : ToolState → Lines → Output
all_output t lines = continued (lines_output t lines.whole) (λ next. rest_output next lines.rest)

-- a whole script was read, or the lines of a script whose source failed then
abbrev pub script_output : Shard → List ℕ → Output
script_output shard bytes = all_output (start shard) (lines_of LINE_LIMIT_ONE bytes)

abbrev pub read_output : Shard → List ℕ → Output
read_output shard bytes = lines_output (start shard) (lines_of LINE_LIMIT_ONE bytes).whole

-- The last text: of a script that was read to its end, up to where all is kept; or why it was stopped.
abbrev pub stop_text : Status → Option (List ℕ)
stop_text (BadLine number) = Some (bad_line_text number)
stop_text (Limit number) = Some (limit_text number)
stop_text ReadFault = Some read_fault_text
stop_text _ = None

abbrev pub last_text : Result ToolState Status → Option (List ℕ)
last_text (Ok t) = Some (end_text t.kept)
last_text (Err status) = stop_text status

abbrev pub closing : Result ToolState Status → List (List ℕ)
closing now = closing_of (last_text now)

abbrev pub status_of : Result ToolState Status → Status
status_of (Ok t) = Done
status_of (Err status) = status

-- all texts of a script, and what it ends with
abbrev pub out : Shard → List ℕ → List (List ℕ)
out shard bytes = (script_output shard bytes).texts ++ closing (script_output shard bytes).now

abbrev pub end_of : Shard → List ℕ → Status
end_of shard bytes = status_of (script_output shard bytes).now

-- all texts of the lines that were read before the source failed
abbrev pub out_read : Shard → List ℕ → List (List ℕ)
out_read shard bytes = (read_output shard bytes).texts ++ closing (Err ReadFault)
