use Rattle.std.specs.Prelude.{ℕ, ◌+◌, List, [], ◌∷◌, ◌++◌, length, ◌==◌, nat_le, if◌then◌else◌, Option, Some, None, Result, Ok, Err}
use Rattle.view_config.specs.Limits.{line_limit}
use Rattle.view_config.specs.Shape.{Dimensions}
use Rattle.io_edges.specs.declared.status.Status.{Status}
use Rattle.io_edges.specs.declared.status.Status.TheVariants.{Done, BadLine, Limit, ReadFault}
use Rattle.lazy_msgs.specs.declared.input.WorldEvent.{WorldEvent}
use Rattle.lazy_rules.specs.WorldState.{WorldState, first_world}
use Rattle.trace_script.specs.declared.command.Command.{Command}
use Rattle.trace_script.specs.Script.{command_of}
use Rattle.trace_script.specs.EndTexts.{end_text, bad_line_text, limit_text, read_fault_text}
use Rattle.lazylog_trace.specs.Apply.{Applied, applied, events_of, until_spent, command_texts}
use Rattle.script_streams.specs.Texts.{printed, with_newline}

-- The output of a trace: what is printed for the bytes of a script, which events are tried, and how that ends,
-- byte by byte, as a stream can keep it.

-- how many lines a script has at most
abbrev pub lines_limit : ℕ
lines_limit = 100000

-- how far a script is: the world, how many of its lines were read whole, and what was read of the next one
pub record Progress : Type 0 where
  pub world : WorldState
  pub lines : ℕ
  pub part : List ℕ

abbrev pub first_progress : Dimensions → Progress
first_progress shape = record { world = first_world shape; lines = 0; part = [] }

-- what some bytes give: what is printed, the events that are tried, refused ones among them, up to one that is
-- spent, and how far the script is then, or why it stopped
pub record Output : Type 0 where
  pub text : List ℕ
  pub events : List WorldEvent
  pub now : Result Progress Status

abbrev pub goes_on : Progress → Output
goes_on r = record { text = []; events = []; now = Ok r }

abbrev pub stops : Status → Output
stops status = record { text = []; events = []; now = Err status }

-- all that a command prints
abbrev pub command_text : WorldState → Command → List ℕ
command_text w command = printed (command_texts w command (applied w (events_of command)).world)

-- a script line said a command, which was applied
abbrev pub command_output : Progress → Command → Applied → Output
command_output r command done = record {
  text = printed (command_texts r.world command done.world);
  events = until_spent r.world (events_of command);
  now = if done.spent then Err (Limit (r.lines + 1)) else Ok (record { world = done.world; lines = r.lines + 1; part = [] });
}

-- a script line was parsed: it says a command, or nothing
abbrev pub parsed_output : Progress → Option Command → Output
parsed_output r None = stops (BadLine (r.lines + 1))
parsed_output r (Some command) = command_output r command (applied r.world (events_of command))

-- one script line more, unless there may be none
abbrev pub counted : Progress → Output → Output
counted r output = if r.lines == lines_limit then stops (Limit (lines_limit + 1)) else output

-- the script line was read to its end, or is too long
abbrev pub line_output : Progress → Output
line_output r = counted r (parsed_output r (command_of r.part))

abbrev pub long_output : Progress → Output
long_output r = counted r (stops (BadLine (r.lines + 1)))

-- a byte was read
abbrev pub byte_output : Progress → ℕ → Output
byte_output r byte =
    if byte == 10 then line_output r
    else (if nat_le (line_limit r.world.shape.edition) (length r.part) then long_output r
    else goes_on (record r { part = r.part ++ byte ∷ [] }))

-- one output, and the next one behind it
abbrev pub behind : Output → Output → Output
behind first next = record { text = first.text ++ next.text; events = first.events ++ next.events; now = next.now }

-- one output, and then that which goes on from where the first one led
abbrev pub continued_from : Output → Result Progress Status → (Progress → Output) → Output
continued_from first (Err status) more = first
continued_from first (Ok r) more = behind first (more r)

abbrev pub continued : Output → (Progress → Output) → Output
continued first more = continued_from first first.now more

-- these bytes were read
abbrev pub bytes_output : Progress → List ℕ → Output
bytes_output r [] = goes_on r
bytes_output r (byte ∷ bytes) = continued (byte_output r byte) (λ next. bytes_output next bytes)

-- the end was read; a last script line without a newline counts where it isn't empty
abbrev pub end_output : Progress → Output
end_output r = if length r.part == 0 then goes_on r else line_output r

-- a whole script was read
abbrev pub script_output : Progress → List ℕ → Output
script_output r bytes = continued (bytes_output r bytes) end_output

-- The last text.

-- of a script that was stopped, where such a stop has one
abbrev pub stop_text : Status → Option (List ℕ)
stop_text (BadLine number) = Some (bad_line_text number)
stop_text (Limit number) = Some (limit_text number)
stop_text ReadFault = Some read_fault_text
stop_text _ = None

-- where there is one: of a script that was read to its end, or of one that was stopped
abbrev pub last_text : WorldState → Result (Unit {0}) Status → Option (List ℕ)
last_text w (Ok done) = Some (end_text w.events (length w.sent))
last_text w (Err status) = stop_text status

abbrev pub closing_of : Option (List ℕ) → List ℕ
closing_of None = []
closing_of (Some text) = with_newline text

abbrev pub closing : Result Progress Status → List ℕ
closing (Ok r) = closing_of (last_text r.world (Ok tt))
closing (Err status) = closing_of (stop_text status)

-- The whole.

abbrev pub whole_text : Output → List ℕ
whole_text output = output.text ++ closing output.now

abbrev pub status_of : {R : Type 0} → Result R Status → Status
status_of (Ok r) = Done
status_of (Err status) = status

-- what a script prints, and what its trace ends with
abbrev pub out : Progress → List ℕ → List ℕ
out start bytes = whole_text (script_output start bytes)

abbrev pub end_of : Progress → List ℕ → Status
end_of start bytes = status_of (script_output start bytes).now

-- what is printed of the script lines that were read before the source failed
abbrev pub out_read : Progress → List ℕ → List ℕ
out_read start bytes = (bytes_output start bytes).text ++ closing (Err ReadFault)
