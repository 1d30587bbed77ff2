use Rattle.std.specs.Prelude.{ℕ, ◌+◌, ◌-◌, List, [], ◌∷◌, length, Bool, true, ◌&&◌, ◌==◌, nat_le, nat_lt, if◌then◌else◌, Option, Some, None, option_and_then, option_map, codes}
use Rattle.std.specs.List.{list_all}
use Rattle.std.specs.Str.{bytes_eq}
use Rattle.trace_script.specs.declared.node_word.NodeWord.{NodeWord}
use Rattle.trace_script.specs.declared.command.Command.{Command}
use Rattle.trace_script.specs.declared.command.Command.TheVariants.{Nothing, Append, Read, Tail, Trim, Peek, Deliver, Flow, Tick, Grace, Crash, Suspect, Lines, Law, Show}
use Rattle.trace_script.specs.declared.keyword.Keyword.{Keyword}
use Rattle.trace_script.specs.declared.keyword.Keyword.TheVariants.{Append as AppendWord, Read as ReadWord, Tail as TailWord, Trim as TrimWord, Peek as PeekWord, Deliver as DeliverWord, Flow as FlowWord, Tick as TickWord, Grace as GraceWord, Crash as CrashWord, Suspect as SuspectWord, Show as ShowWord}
use Rattle.trace_script.specs.Words.{client_of, cut_by, node_of, number_of, replica_of, three_numbers, two_numbers, word_with}

-- The grammar of a script line: the command that it says, if it says one. A line is a keyword and the words behind it.

-- data of a record: at least one byte, each a visible one
abbrev pub is_visible : ℕ → Bool
is_visible byte = nat_le 33 byte && nat_le byte 126

abbrev pub is_data : List ℕ → Bool
is_data bytes = nat_lt 0 (length bytes) && list_all is_visible bytes

-- `CLIENT` or `CLIENT DATA`
abbrev pub append_with : Option NodeWord → Option (List ℕ) → Option Command
append_with None rest = None
append_with (Some client) None = Some (Append client [])
append_with (Some client) (Some bytes) = if is_data bytes then Some (Append client bytes) else None

abbrev pub append_of : List ℕ → Option Command
append_of words = append_with (client_of (cut_by 32 words).0) (cut_by 32 words).1

-- `CLIENT NUM NUM`
abbrev pub read_of : List ℕ → Option Command
read_of words = option_map (λ (said : NodeWord × (ℕ × ℕ)). Read said.0 said.1.0 said.1.1) (word_with client_of two_numbers words)

-- `CLIENT NUM`
abbrev pub tail_of : List ℕ → Option Command
tail_of words = option_map (λ (said : NodeWord × ℕ). Tail said.0 said.1) (word_with client_of number_of words)

abbrev pub trim_of : List ℕ → Option Command
trim_of words = option_map (λ (said : NodeWord × ℕ). Trim said.0 said.1) (word_with client_of number_of words)

-- `CLIENT NUM NUM NUM`
abbrev pub peek_of : List ℕ → Option Command
peek_of words = option_map (λ (said : NodeWord × (ℕ × (ℕ × ℕ))). Peek said.0 said.1.0 said.1.1.0 said.1.1.1) (word_with client_of three_numbers words)

-- `NUM NUM`
abbrev pub flow_between : ℕ × ℕ → Option Command
flow_between (first, last) = if nat_le first last && nat_lt (last - first) 128 then Some (Flow first last) else None

abbrev pub flow_of : List ℕ → Option Command
flow_of words = option_and_then flow_between (two_numbers words)

-- the words behind a keyword
abbrev pub said_by : Keyword → List ℕ → Option Command
said_by AppendWord words = append_of words
said_by ReadWord words = read_of words
said_by TailWord words = tail_of words
said_by TrimWord words = trim_of words
said_by PeekWord words = peek_of words
said_by DeliverWord words = option_map Deliver (number_of words)
said_by FlowWord words = flow_of words
said_by TickWord words = option_map Tick (node_of words)
said_by GraceWord words = option_map Grace (node_of words)
said_by CrashWord words = option_map Crash (replica_of words)
said_by SuspectWord words = option_map Suspect (node_of words)
said_by ShowWord words = option_map Show (number_of words)

-- the keywords behind which something stands
abbrev pub keyword_of : List ℕ → Option Keyword
keyword_of word =
    if bytes_eq word (codes "append") then Some AppendWord
    else (if bytes_eq word (codes "read") then Some ReadWord
    else (if bytes_eq word (codes "tail") then Some TailWord
    else (if bytes_eq word (codes "trim") then Some TrimWord
    else (if bytes_eq word (codes "peek") then Some PeekWord
    else (if bytes_eq word (codes "deliver") then Some DeliverWord
    else (if bytes_eq word (codes "flow") then Some FlowWord
    else (if bytes_eq word (codes "tick") then Some TickWord
    else (if bytes_eq word (codes "grace") then Some GraceWord
    else (if bytes_eq word (codes "crash") then Some CrashWord
    else (if bytes_eq word (codes "suspect") then Some SuspectWord
    else (if bytes_eq word (codes "show") then Some ShowWord
    else None)))))))))))

-- a line of one word
abbrev pub alone : List ℕ → Option Command
alone word = if bytes_eq word (codes "lines") then Some Lines else (if bytes_eq word (codes "law") then Some Law else None)

-- a keyword alone, or one with words behind it
abbrev pub said_with : List ℕ → Option (List ℕ) → Option Command
said_with word None = alone word
said_with word (Some words) = option_and_then (λ keyword. said_by keyword words) (keyword_of word)

-- a line that does nothing: it is empty, or a comment
abbrev pub is_idle : List ℕ → Bool
is_idle [] = true
is_idle (byte ∷ bytes) = byte == 35

abbrev pub command_of : List ℕ → Option Command
command_of line = if is_idle line then Some Nothing else said_with (cut_by 32 line).0 (cut_by 32 line).1
