use Rattle.std.specs.Prelude.{ℕ, ◌+◌, ◌≤◌, List, [], ◌∷◌, ◌++◌, ◌==◌, if◌then◌else◌, Option, Some, None, Result, Ok, Err, codes, decimal}
use Rattle.io_edges.specs.declared.status.Status.{Status}
use Rattle.io_edges.specs.declared.status.Status.TheVariants.{Done, BadLine, Limit, ReadFault}
use Rattle.trace_script.specs.EndTexts.{bad_line_text, limit_text, read_fault_text}
use Rattle.script_streams.specs.Lines.{Lines, Long, Part, Rest, lines_of}
use Rattle.script_streams.specs.Texts.{with_newline}
use Rattle.frame_recode.specs.declared.recode.Recoded.{Recoded}
use Rattle.frame_recode.specs.declared.recode.Recoded.TheVariants.{Brought, Refused}
use Rattle.frame_recode.specs.Recoded.{recoded}
use Rattle.recode_top.specs.declared.counts.Counts.{Counts}
use Rattle.recode_top.specs.declared.counts.TheConstants.{LINE_LIMIT, LINES_LIMIT}

-- The output of a script of frames: the texts that are written for the bytes of a script, each with its newline, and
-- how that ends.

-- no line was read
abbrev pub start : Counts
start = record { lines = 0; frames = 0; refused = 0 }

-- on its way: no more frames than lines, and no more refused ones than frames
pub record IsUnderWay (r : Counts) : Type 0 where
  pub lines : r.lines ≤ LINES_LIMIT
  pub frames : r.frames ≤ r.lines
  pub refused : r.refused ≤ r.frames

-- what lines give: the texts, and how far the script is then, or why it stopped
pub record Output : Type 0 where
  pub texts : List (List ℕ)
  pub now : Result Counts Status

abbrev pub goes_on : Counts → Output
goes_on r = record { texts = []; now = Ok r }

abbrev pub stops : Status → Output
stops status = record { texts = []; now = Err status }

-- a line that was counted became something
abbrev pub made_output : Counts → Recoded → Output
made_output r (Brought text) = record { texts = with_newline text ∷ []; now = Ok (record r { frames = r.frames + 1 }) }
made_output r (Refused text) = record { texts = with_newline text ∷ []; now = Ok (record r { frames = r.frames + 1; refused = r.refused + 1 }) }

-- or nothing
abbrev pub recoded_output : Counts → Option Recoded → Output
recoded_output r None = stops (BadLine r.lines)
recoded_output r (Some made) = made_output r made

-- an empty line does nothing
abbrev pub content_output : Counts → List ℕ → Output
content_output r [] = goes_on r
content_output r (byte ∷ bytes) = recoded_output r (recoded (byte ∷ bytes))

-- one line more, unless there may be none
abbrev pub counted : Counts → (Counts → Output) → Output
counted r output = if r.lines == LINES_LIMIT then stops (Limit (LINES_LIMIT + 1)) else output (record r { lines = r.lines + 1 })

-- the line was read to its end, or is too long
abbrev pub line_output : Counts → List ℕ → Output
line_output r line = counted r (λ more. content_output more line)

abbrev pub long_output : Counts → Output
long_output r = counted r (λ more. stops (BadLine more.lines))

-- a status with which a script stops at a line
abbrev pub IsStop : Status → Type 0
IsStop (BadLine number) = Unit {0}
IsStop (Limit number) = Unit {0}
IsStop _ = ⊥

-- one output, and the next one behind it
abbrev pub behind : Output → Output → Output
behind first next = record { texts = first.texts ++ next.texts; now = next.now }

-- one output, and then that which goes on from where the first one led
abbrev pub continued_from : Output → Result Counts Status → (Counts → Output) → Output
continued_from first (Err status) more = first
continued_from first (Ok r) more = behind first (more r)

abbrev pub continued : Output → (Counts → Output) → Output
continued first more = continued_from first first.now more

-- these lines were read
abbrev pub lines_output : Counts → List (List ℕ) → Output
lines_output r [] = goes_on r
lines_output r (line ∷ lines) = continued (line_output r line) (λ next. lines_output next lines)

-- what stands behind the last newline counts where it isn't empty
abbrev pub rest_output : Counts → Rest → Output
rest_output r (Part []) = goes_on r
rest_output r (Part (byte ∷ bytes)) = line_output r (byte ∷ bytes)
rest_output r Long = long_output r

abbrev pub all_output : Counts → Lines → Output
all_output r lines = continued (lines_output r lines.whole) (λ next. rest_output next lines.rest)

-- a whole script was read, or the lines of a script whose source failed then
abbrev pub script_output : List ℕ → Output
script_output bytes = all_output start (lines_of LINE_LIMIT bytes)

abbrev pub read_output : List ℕ → Output
read_output bytes = lines_output start (lines_of LINE_LIMIT bytes).whole

-- The last text: of a script that was read to its end, how many frames there were and how many of them were refused;
-- or why it was stopped.
abbrev pub end_text : Counts → List ℕ
end_text r = codes "end: " ++ (decimal r.frames ++ (codes " frames, " ++ (decimal r.refused ++ codes " refused")))

abbrev pub stop_text : Status → Option (List ℕ)
stop_text (BadLine number) = Some (bad_line_text number)
stop_text (Limit number) = Some (limit_text number)
stop_text ReadFault = Some read_fault_text
stop_text _ = None

abbrev pub last_text : Result Counts Status → Option (List ℕ)
last_text (Ok r) = Some (end_text r)
last_text (Err status) = stop_text status

-- of a script that stands there and ended so
abbrev pub last_of : Counts → Result (Unit {0}) Status → Option (List ℕ)
last_of r (Ok done) = Some (end_text r)
last_of r (Err status) = stop_text status

abbrev pub closing_of : Option (List ℕ) → List (List ℕ)
closing_of None = []
closing_of (Some text) = with_newline text ∷ []

abbrev pub closing : Result Counts Status → List (List ℕ)
closing now = closing_of (last_text now)

abbrev pub status_of : {R : Type 0} → Result R Status → Status
status_of (Ok r) = Done
status_of (Err status) = status

-- all texts of a script, and what it ends with
abbrev pub out : List ℕ → List (List ℕ)
out bytes = (script_output bytes).texts ++ closing (script_output bytes).now

abbrev pub end_of : List ℕ → Status
end_of bytes = status_of (script_output bytes).now

-- all texts of the lines that were read before the source failed
abbrev pub out_read : List ℕ → List (List ℕ)
out_read bytes = (read_output bytes).texts ++ closing (Err ReadFault)
