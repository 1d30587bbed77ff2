use Rattle.std.specs.Prelude.{◌≡◌, ℕ, ◌+◌, ◌^◌, ◌<◌, ◌≤◌, List, [], ◌∷◌, ◌++◌, true, codes, decimal}
use Rattle.std.specs.List.{list_all}
use Rattle.trace_script.specs.declared.node_word.NodeWord.{NodeWord}
use Rattle.trace_script.specs.declared.node_word.NodeWord.TheVariants.{Client, Controller, Seq, Shard}
use Rattle.trace_script.specs.declared.command.Command.{Command}
use Rattle.trace_script.specs.declared.command.Command.TheVariants.{Nothing, Append, Read, Tail, Trim, Peek, Deliver, Flow, Tick, Grace, Crash, Suspect, Lines, Law, Show}
use Rattle.trace_script.specs.Names.{word_text}
use Rattle.trace_script.specs.Script.{is_visible}

-- The script line that says a command, and which commands there is one for.

-- a last word behind a space, where there is one
abbrev pub data_word : List ℕ → List ℕ
data_word [] = []
data_word (byte ∷ bytes) = codes " " ++ (byte ∷ bytes)

-- two numbers
abbrev pub two_words : ℕ → ℕ → List ℕ
two_words first next = decimal first ++ (codes " " ++ decimal next)

abbrev pub spelling : Command → List ℕ
spelling Nothing = []
spelling (Append client bytes) = codes "append " ++ (word_text client ++ data_word bytes)
spelling (Read client from to) = codes "read " ++ (word_text client ++ (codes " " ++ two_words from to))
spelling (Tail client from) = codes "tail " ++ (word_text client ++ (codes " " ++ decimal from))
spelling (Trim client floor) = codes "trim " ++ (word_text client ++ (codes " " ++ decimal floor))
spelling (Peek client claim from to) = codes "peek " ++ (word_text client ++ (codes " " ++ (decimal claim ++ (codes " " ++ two_words from to))))
spelling (Deliver message) = codes "deliver " ++ decimal message
spelling (Flow first last) = codes "flow " ++ two_words first last
spelling (Tick node) = codes "tick " ++ word_text node
spelling (Grace node) = codes "grace " ++ word_text node
spelling (Crash node) = codes "crash " ++ word_text node
spelling (Suspect node) = codes "suspect " ++ word_text node
spelling Lines = codes "lines"
spelling Law = codes "law"
spelling (Show message) = codes "show " ++ decimal message

-- the word of a client that a script can name
abbrev pub IsClientWord : NodeWord → Type 0
IsClientWord (Client c) = c < 2 ^ 32
IsClientWord _ = ⊥

-- the word of any node but the controller
abbrev pub IsReplicaWord : NodeWord → Type 0
IsReplicaWord (Client c) = c < 2 ^ 32
IsReplicaWord Controller = ⊥
IsReplicaWord (Seq i) = i < 2 ^ 32
IsReplicaWord (Shard i j) = (i < 2 ^ 32) × (j < 2 ^ 32)

-- the word of any node
abbrev pub IsNodeWord : NodeWord → Type 0
IsNodeWord Controller = Unit {0}
IsNodeWord word = IsReplicaWord word

-- a command that a script line can say
abbrev pub IsSayable : Command → Type 0
IsSayable (Append client bytes) = IsClientWord client × (list_all is_visible bytes ≡ true)
IsSayable (Read client from to) = IsClientWord client × (from < 2 ^ 32) × (to < 2 ^ 32)
IsSayable (Tail client from) = IsClientWord client × (from < 2 ^ 32)
IsSayable (Trim client floor) = IsClientWord client × (floor < 2 ^ 32)
IsSayable (Peek client claim from to) = IsClientWord client × (claim < 2 ^ 32) × (from < 2 ^ 32) × (to < 2 ^ 32)
IsSayable (Deliver message) = message < 2 ^ 32
IsSayable (Flow first last) = (first ≤ last) × (last < first + 128) × (last < 2 ^ 32)
IsSayable (Tick node) = IsNodeWord node
IsSayable (Grace node) = IsNodeWord node
IsSayable (Crash node) = IsReplicaWord node
IsSayable (Suspect node) = IsNodeWord node
IsSayable (Show message) = message < 2 ^ 32
IsSayable _ = Unit {0}
