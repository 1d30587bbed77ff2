use Rattle.std.specs.Prelude.{ℕ, ◌+◌, ◌^◌, List, ◌∷◌, [], length, take, drop, position, Bool, ◌&&◌, ◌==◌, nat_lt, if◌then◌else◌, Option, Some, None, option_and_then, option_map, codes, decimal}
use Rattle.std.specs.Str.{bytes_eq}
use Rattle.std.specs.Str.Parse.{digits_value}
use Rattle.trace_script.specs.declared.node_word.NodeWord.{NodeWord}
use Rattle.trace_script.specs.declared.node_word.NodeWord.TheVariants.{Client, Controller, Seq, Shard}

-- The words of a script line: numbers, names of nodes, and words behind each other, each but the last up to a space.

-- the number below 2^32 that a word writes
abbrev pub number_if : List ℕ → ℕ → Option ℕ
number_if word n = if bytes_eq word (decimal n) && nat_lt n (2 ^ 32) then Some n else None

abbrev pub number_of : List ℕ → Option ℕ
number_of word = number_if word (digits_value 10 word)

-- what is behind this beginning of a text
abbrev pub rest_after : List ℕ → List ℕ → Option (List ℕ)
rest_after front text = if bytes_eq (take (length front) text) front then Some (drop (length front) text) else None

-- a text up to the first such byte, and what is behind that, if there is one
abbrev pub cut_at : List ℕ → Option ℕ → List ℕ × Option (List ℕ)
cut_at text None = (text, None)
cut_at text (Some i) = (take i text, Some (drop (i + 1) text))

abbrev pub cut_by : ℕ → List ℕ → List ℕ × Option (List ℕ)
cut_by mark text = cut_at text (position (λ byte. byte == mark) text)

-- two values, where there are both
abbrev pub both : {A B : Type 0} → Option A → Option B → Option (A × B)
both (Some first) (Some next) = Some (first, next)
both _ _ = None

-- what a text says up to the first such byte, and what it says behind it
abbrev pub parted_by : {A B : Type 0} → ℕ → (List ℕ → Option A) → (List ℕ → Option B) → List ℕ → Option (A × B)
parted_by mark first next text = both (first (cut_by mark text).0) (option_and_then next (cut_by mark text).1)

-- a word, and what is behind it
abbrev pub word_with : {A B : Type 0} → (List ℕ → Option A) → (List ℕ → Option B) → List ℕ → Option (A × B)
word_with first next text = parted_by 32 first next text

abbrev pub two_numbers : List ℕ → Option (ℕ × ℕ)
two_numbers text = word_with number_of number_of text

abbrev pub three_numbers : List ℕ → Option (ℕ × (ℕ × ℕ))
three_numbers text = word_with number_of two_numbers text

-- a client
abbrev pub client_of : List ℕ → Option NodeWord
client_of word = option_map Client (option_and_then number_of (rest_after (codes "c") word))

-- a sequencing replica
abbrev pub seq_of : List ℕ → Option NodeWord
seq_of word = option_map Seq (option_and_then number_of (rest_after (codes "s") word))

-- a replica of a shard
abbrev pub shard_with : Option (ℕ × ℕ) → Option NodeWord
shard_with None = None
shard_with (Some numbers) = Some (Shard numbers.0 numbers.1)

abbrev pub shard_of : List ℕ → Option NodeWord
shard_of word = shard_with (option_and_then (parted_by 46 number_of number_of) (rest_after (codes "d") word))

-- this one, or else another
abbrev pub or_else : {A : Type 0} → Option A → Option A → Option A
or_else None other = other
or_else (Some value) other = Some value

-- a node other than the controller
abbrev pub replica_of : List ℕ → Option NodeWord
replica_of word = or_else (client_of word) (or_else (seq_of word) (shard_of word))

-- any node
abbrev pub node_of : List ℕ → Option NodeWord
node_of word = if bytes_eq word (codes "k") then Some Controller else replica_of word
