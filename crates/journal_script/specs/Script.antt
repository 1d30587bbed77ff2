use Rattle.std.specs.Prelude.{ℕ, ◌≤◌, List, [], ◌∷◌, length, Bool, ◌&&◌, ◌==◌, nat_le, if◌then◌else◌, Option, Some, None, option_and_then, option_map, codes}
use Rattle.std.specs.Str.{bytes_eq}
use Rattle.rec_id.specs.Identity.{Identity}
use Rattle.rec_id.specs.declared.item.Body.TheVariants.{Elsewhere, Kept, Noop}
use Rattle.rec_id.specs.declared.item.Cell.{Cell}
use Rattle.rec_id.specs.declared.limits.TheConstants.{MAX_CLIENT}
use Rattle.view_config.specs.declared.edition.Edition.TheVariants.{One}
use Rattle.view_config.specs.declared.limits.TheConstants.{RECORD_LIMIT_ONE}
use Rattle.lazy_msgs.specs.FrameLimits.{CellFits}
use Rattle.trace_script.specs.Script.{is_data, is_idle}
use Rattle.trace_script.specs.Words.{cut_by, number_of, parted_by, rest_after}
use Rattle.journal_script.specs.declared.command.Command.{Command}
use Rattle.journal_script.specs.declared.command.Command.TheVariants.{Nothing, Add, Stable, Keep, Show, Stop, Open}

-- The grammar of a script line: the command that it says, if it says one. A line is a keyword and the word behind it.

-- an identity: `c`, a number, `#` and a number
abbrev pub id_in : ℕ × ℕ → Option Identity
id_in (client, number) = if nat_le client MAX_CLIENT && nat_le 1 number then Some (record { client = client; number = number }) else None

abbrev pub id_of : List ℕ → Option Identity
id_of word = option_and_then id_in (option_and_then (parted_by 35 number_of number_of) (rest_after (codes "c") word))

-- data of a record of edition One: some visible bytes
abbrev pub is_short_data : List ℕ → Bool
is_short_data bytes = nat_le (length bytes) RECORD_LIMIT_ONE && is_data bytes

-- `ID=DATA`
abbrev pub kept_with : List ℕ → Identity → Option Cell
kept_with bytes id = if is_short_data bytes then Some (record { id = id; body = Kept bytes }) else None

abbrev pub kept_of : List ℕ → List ℕ → Option Cell
kept_of word bytes = option_and_then (kept_with bytes) (id_of word)

-- `ID`, or `ID!`, behind whose `!` nothing stands
abbrev pub bare_with : List ℕ → Option (List ℕ) → Option Cell
bare_with word None = option_map (λ id. record { id = id; body = Elsewhere }) (id_of word)
bare_with word (Some []) = option_map (λ id. record { id = id; body = Noop }) (id_of word)
bare_with word (Some (byte ∷ bytes)) = None

abbrev pub bare_of : List ℕ → Option Cell
bare_of word = bare_with (cut_by 33 word).0 (cut_by 33 word).1

-- one of the three
abbrev pub cell_with : List ℕ → Option (List ℕ) → Option Cell
cell_with word None = bare_of word
cell_with word (Some bytes) = kept_of word bytes

abbrev pub cell_of : List ℕ → Option Cell
cell_of words = cell_with (cut_by 61 words).0 (cut_by 61 words).1

-- a number of at least 1
abbrev pub stop_at : ℕ → Option Command
stop_at number = if number == 0 then None else Some (Stop number)

abbrev pub stop_of : List ℕ → Option Command
stop_of word = option_and_then stop_at (number_of word)

-- a keyword with a number behind it
abbrev pub numbered : List ℕ → List ℕ → Option Command
numbered word number =
    if bytes_eq word (codes "stable") then option_map Stable (number_of number)
    else (if bytes_eq word (codes "stop") then stop_of number
    else None)

-- a keyword with a word behind it
abbrev pub said_by : List ℕ → List ℕ → Option Command
said_by word words = if bytes_eq word (codes "add") then option_map Add (cell_of words) else numbered word words

-- a keyword alone
abbrev pub alone : List ℕ → Option Command
alone word =
    if bytes_eq word (codes "keep") then Some Keep
    else (if bytes_eq word (codes "show") then Some Show
    else (if bytes_eq word (codes "open") then Some Open
    else None))

abbrev pub said_with : List ℕ → Option (List ℕ) → Option Command
said_with word None = alone word
said_with word (Some words) = said_by word words

-- an empty line and a comment do nothing
abbrev pub command_of : List ℕ → Option Command
command_of line = if is_idle line then Some Nothing else said_with (cut_by 32 line).0 (cut_by 32 line).1

-- a command that a line can say: a cell that it adds has the form of one in a frame of edition One
abbrev pub IsSayable : Command → Type 0
IsSayable (Add cell) = CellFits One cell
IsSayable (Stop number) = 1 ≤ number
IsSayable _ = Unit {0}
