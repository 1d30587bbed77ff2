-- What a script line says, a script line can say.
use Rattle.std.proofs.Common.{◌≡◌, subst, ℕ, ◌<◌, ◌≤◌, ◌^◌, List, ◌&&◌, Option, Some, None, refl, arith}
use Rattle.std.specs.Prelude.{◌-◌, ◌==◌, Result, Ok, Err, IfOk, IfSome, nat_le, nat_lt, length, if◌then◌else◌, codes, decimal, option_map, option_and_then}
use Rattle.std.specs.List.{list_all}
use Rattle.std.specs.Str.{bytes_eq}
use Rattle.std.specs.Str.Parse.{digits_value}
use Rattle.std.proofs.lemmas.Bool.{and_parts, leb-true, ltb-true}
use Rattle.list_facts.proofs.Cases.{either}
use Rattle.trace_script.specs.declared.node_word.NodeWord.{NodeWord}
use Rattle.trace_script.specs.declared.node_word.NodeWord.TheVariants.{Client, Controller, Seq, Shard}
use Rattle.trace_script.specs.declared.command.Command.{Command}
use Rattle.trace_script.specs.declared.command.Command.TheVariants.{Nothing, Append, Read, Tail, Trim, Peek, Deliver, Flow, Tick, Grace, Crash, Suspect, Lines, Law, Show}
use Rattle.trace_script.specs.declared.command.ScriptError.{ScriptError}
use Rattle.trace_script.specs.declared.keyword.Keyword.{Keyword}
use Rattle.trace_script.specs.declared.keyword.Keyword.TheVariants.{Append as AppendWord, Read as ReadWord, Tail as TailWord, Trim as TrimWord, Peek as PeekWord, Deliver as DeliverWord, Flow as FlowWord, Tick as TickWord, Grace as GraceWord, Crash as CrashWord, Suspect as SuspectWord, Show as ShowWord}
use Rattle.trace_script.specs.Script.{alone, append_of, append_with, command_of, flow_between, flow_of, is_data, is_idle, is_visible, keyword_of, said_by, said_with}
use Rattle.trace_script.specs.Spelling.{IsClientWord, IsNodeWord, IsReplicaWord, IsSayable}
use Rattle.trace_script.specs.Words.{both, client_of, cut_by, node_of, number_of, or_else, parted_by, replica_of, rest_after, seq_of, shard_of, shard_with, three_numbers, two_numbers, word_with}

-- numbers, and values behind each other

abbrev IsWord : ℕ → Type 0
IsWord n = n < 2 ^ 32

abbrev IsSmall : Option ℕ → Type 0
IsSmall number = IfSome number IsWord

small_number : (word : List ℕ) → IsSmall (number_of word)
small_number word =
    let n : ℕ = digits_value 10 word in
    either IsSmall (bytes_eq word (decimal n) && nat_lt n (2 ^ 32)) (Some n) None (λ e. let parts = and_parts (bytes_eq word (decimal n)) (nat_lt n (2 ^ 32)) e in ltb-true n (2 ^ 32) parts.1) (λ e. tt)

behind : {B : Type 0} (Q : B → Type 0) (next : List ℕ → Option B) (rest : Option (List ℕ)) → ((word : List ℕ) → IfSome (next word) Q) → IfSome (option_and_then next rest) Q
behind Q next None each = tt
behind Q next (Some word) each = each word

together : {A B : Type 0} (P : A → Type 0) (Q : B → Type 0) (first : Option A) (next : Option B) → IfSome first P → IfSome next Q → IfSome (both first next) (λ (said : A × B). P said.0 × Q said.1)
together P Q (Some first) (Some next) p q = (p, q)
together P Q (Some first) None p q = tt
together P Q None next p q = tt

parted : {A B : Type 0} (P : A → Type 0) (Q : B → Type 0) (mark : ℕ) (first : List ℕ → Option A) (next : List ℕ → Option B) (text : List ℕ) →
    ((word : List ℕ) → IfSome (first word) P) → ((word : List ℕ) → IfSome (next word) Q) → IfSome (parted_by mark first next text) (λ (said : A × B). P said.0 × Q said.1)
parted P Q mark first next text firsts nexts = together P Q (first (cut_by mark text).0) (option_and_then next (cut_by mark text).1) (firsts (cut_by mark text).0) (behind Q next (cut_by mark text).1 nexts)

abbrev AreTwo : ℕ × ℕ → Type 0
AreTwo numbers = IsWord numbers.0 × IsWord numbers.1

two_small : (text : List ℕ) → IfSome (two_numbers text) AreTwo
two_small text = parted IsWord IsWord 32 number_of number_of text small_number small_number

abbrev AreThree : ℕ × (ℕ × ℕ) → Type 0
AreThree numbers = IsWord numbers.0 × AreTwo numbers.1

three_small : (text : List ℕ) → IfSome (three_numbers text) AreThree
three_small text = parted IsWord AreTwo 32 number_of two_numbers text small_number two_small

-- nodes

named : (Q : NodeWord → Type 0) (word_of_number : ℕ → NodeWord) (number : Option ℕ) → ((n : ℕ) → IsWord n → Q (word_of_number n)) → IsSmall number → IfSome (option_map word_of_number number) Q
named Q word_of_number None each small = tt
named Q word_of_number (Some n) each small = each n small

client_small : (word : List ℕ) → IfSome (client_of word) IsClientWord
client_small word = named IsClientWord Client (option_and_then number_of (rest_after (codes "c") word)) (λ n small. small) (behind IsWord number_of (rest_after (codes "c") word) small_number)

client_replica : (word : List ℕ) → IfSome (client_of word) IsReplicaWord
client_replica word = named IsReplicaWord Client (option_and_then number_of (rest_after (codes "c") word)) (λ n small. small) (behind IsWord number_of (rest_after (codes "c") word) small_number)

seq_small : (word : List ℕ) → IfSome (seq_of word) IsReplicaWord
seq_small word = named IsReplicaWord Seq (option_and_then number_of (rest_after (codes "s") word)) (λ n small. small) (behind IsWord number_of (rest_after (codes "s") word) small_number)

shard_named : (numbers : Option (ℕ × ℕ)) → IfSome numbers AreTwo → IfSome (shard_with numbers) IsReplicaWord
shard_named None small = tt
shard_named (Some numbers) small = small

shard_small : (word : List ℕ) → IfSome (shard_of word) IsReplicaWord
shard_small word =
    let numbers : Option (ℕ × ℕ) = option_and_then (parted_by 46 number_of number_of) (rest_after (codes "d") word) in
    shard_named numbers (behind AreTwo (parted_by 46 number_of number_of) (rest_after (codes "d") word) (λ text. parted IsWord IsWord 46 number_of number_of text small_number small_number))

either_small : {A : Type 0} (P : A → Type 0) (first other : Option A) → IfSome first P → IfSome other P → IfSome (or_else first other) P
either_small P None other p q = q
either_small P (Some value) other p q = p

replica_small : (word : List ℕ) → IfSome (replica_of word) IsReplicaWord
replica_small word =
    either_small IsReplicaWord (client_of word) (or_else (seq_of word) (shard_of word)) (client_replica word)
    (either_small IsReplicaWord (seq_of word) (shard_of word) (seq_small word) (shard_small word))

replica_named : (word : NodeWord) → IsReplicaWord word → IsNodeWord word
replica_named (Client c) h = h
replica_named Controller h = tt
replica_named (Seq i) h = h
replica_named (Shard i j) h = h

replica_is_node : (word : Option NodeWord) → IfSome word IsReplicaWord → IfSome word IsNodeWord
replica_is_node None h = tt
replica_is_node (Some word) h = replica_named word h

node_small : (word : List ℕ) → IfSome (node_of word) IsNodeWord
node_small word = either (λ (said : Option NodeWord). IfSome said IsNodeWord) (bytes_eq word (codes "k")) (Some Controller) (replica_of word) (λ e. tt) (λ e. replica_is_node (replica_of word) (replica_small word))

-- commands

abbrev AreSayable : Option Command → Type 0
AreSayable says = IfSome says IsSayable

told : {A : Type 0} (P : A → Type 0) (says : A → Command) (value : Option A) → ((a : A) → P a → IsSayable (says a)) → IfSome value P → AreSayable (option_map says value)
told P says None each h = tt
told P says (Some a) each h = each a h

append_sayable : (client : Option NodeWord) (rest : Option (List ℕ)) → IfSome client IsClientWord → AreSayable (append_with client rest)
append_sayable None rest small = tt
append_sayable (Some client) None small = (small, refl)
append_sayable (Some client) (Some bytes) small =
    either AreSayable (is_data bytes) (Some (Append client bytes)) None
    (λ e. let parts = and_parts (nat_lt 0 (length bytes)) (list_all is_visible bytes) e in (small, parts.1)) (λ e. tt)

flow_sayable : (numbers : Option (ℕ × ℕ)) → IfSome numbers AreTwo → AreSayable (option_and_then flow_between numbers)
flow_sayable None small = tt
flow_sayable (Some (first, last)) small =
    either AreSayable (nat_le first last && nat_lt (last - first) 128) (Some (Flow first last)) None
    (λ e. let parts = and_parts (nat_le first last) (nat_lt (last - first) 128) e in
    let least : first ≤ last = leb-true first last parts.0 in
    let most : last - first < 128 = ltb-true (last - first) 128 parts.1 in
    (least, omega arith, small.1)) (λ e. tt)

by_keyword : (keyword : Keyword) (words : List ℕ) → AreSayable (said_by keyword words)
by_keyword AppendWord words = append_sayable (client_of (cut_by 32 words).0) (cut_by 32 words).1 (client_small (cut_by 32 words).0)
by_keyword ReadWord words = told (λ (said : NodeWord × (ℕ × ℕ)). IsClientWord said.0 × AreTwo said.1) (λ (said : NodeWord × (ℕ × ℕ)). Read said.0 said.1.0 said.1.1) (word_with client_of two_numbers words) (λ said h. (h.0, h.1.0, h.1.1)) (parted IsClientWord AreTwo 32 client_of two_numbers words client_small two_small)
by_keyword TailWord words = told (λ (said : NodeWord × ℕ). IsClientWord said.0 × IsWord said.1) (λ (said : NodeWord × ℕ). Tail said.0 said.1) (word_with client_of number_of words) (λ said h. h) (parted IsClientWord IsWord 32 client_of number_of words client_small small_number)
by_keyword TrimWord words = told (λ (said : NodeWord × ℕ). IsClientWord said.0 × IsWord said.1) (λ (said : NodeWord × ℕ). Trim said.0 said.1) (word_with client_of number_of words) (λ said h. h) (parted IsClientWord IsWord 32 client_of number_of words client_small small_number)
by_keyword PeekWord words = told (λ (said : NodeWord × (ℕ × (ℕ × ℕ))). IsClientWord said.0 × AreThree said.1) (λ (said : NodeWord × (ℕ × (ℕ × ℕ))). Peek said.0 said.1.0 said.1.1.0 said.1.1.1) (word_with client_of three_numbers words) (λ said h. (h.0, h.1.0, h.1.1.0, h.1.1.1)) (parted IsClientWord AreThree 32 client_of three_numbers words client_small three_small)
by_keyword DeliverWord words = told IsWord Deliver (number_of words) (λ n h. h) (small_number words)
by_keyword FlowWord words = flow_sayable (two_numbers words) (two_small words)
by_keyword TickWord words = told IsNodeWord Tick (node_of words) (λ node h. h) (node_small words)
by_keyword GraceWord words = told IsNodeWord Grace (node_of words) (λ node h. h) (node_small words)
by_keyword CrashWord words = told IsReplicaWord Crash (replica_of words) (λ node h. h) (replica_small words)
by_keyword SuspectWord words = told IsNodeWord Suspect (node_of words) (λ node h. h) (node_small words)
by_keyword ShowWord words = told IsWord Show (number_of words) (λ n h. h) (small_number words)

alone_sayable : (word : List ℕ) → AreSayable (alone word)
alone_sayable word =
    either AreSayable (bytes_eq word (codes "lines")) (Some Lines) (if bytes_eq word (codes "law") then Some Law else None) (λ e. tt)
    (λ e. either AreSayable (bytes_eq word (codes "law")) (Some Law) None (λ f. tt) (λ f. tt))

behind_keyword : (keyword : Option Keyword) (words : List ℕ) → AreSayable (option_and_then (λ k. said_by k words) keyword)
behind_keyword None words = tt
behind_keyword (Some keyword) words = by_keyword keyword words

said_sayable : (word : List ℕ) (words : Option (List ℕ)) → AreSayable (said_with word words)
said_sayable word None = alone_sayable word
said_sayable word (Some words) = behind_keyword (keyword_of word) words

pub sayable : (line : List ℕ) → AreSayable (command_of line)
sayable line = either AreSayable (is_idle line) (Some Nothing) (said_with (cut_by 32 line).0 (cut_by 32 line).1) (λ e. tt) (λ e. said_sayable (cut_by 32 line).0 (cut_by 32 line).1)

-- so what was read of a line is sayable
pub read_sayable : (word : List ℕ) (words : Option (List ℕ)) (outcome : Result Command ScriptError) → IfOk outcome (λ command. said_with word words ≡ Some command) → IfOk outcome IsSayable
read_sayable word words (Ok command) is = subst AreSayable is (said_sayable word words)
read_sayable word words (Err refused) is = tt
