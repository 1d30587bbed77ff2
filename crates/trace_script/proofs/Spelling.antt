-- Spellings read back.
use Rattle.std.proofs.Common.{◌≡◌, ℕ, ◌+◌, ◌<◌, ◌≤◌, ◌^◌, suc, List, [], ◌∷◌, ◌++◌, length, take, drop, Bool, true, not, Option, Some, None, refl, sym, ap, ◌∙◌, arith, append-nil, length-append}
use Rattle.std.specs.Prelude.{codes, ◌==◌, ◌-◌, nat_le, nat_lt, if◌then◌else◌, decimal, option_map, option_and_then}
use Rattle.std.specs.List.{list_all, prefix_len}
use Rattle.std.proofs.lemmas.Bool.{and_from, and_parts, eq-eqb, le-leb, lt-ltb, le-ltb}
use Rattle.trace_script.specs.declared.node_word.NodeWord.{NodeWord}
use Rattle.trace_script.specs.declared.node_word.NodeWord.TheVariants.{Client, Controller, Seq, Shard}
use Rattle.trace_script.specs.declared.command.Command.{Command}
use Rattle.trace_script.specs.declared.command.Command.TheVariants.{Nothing, Append, Read, Tail, Trim, Peek, Deliver, Flow, Tick, Grace, Crash, Suspect, Lines, Law, Show}
use Rattle.trace_script.specs.Names.{word_text}
use Rattle.trace_script.specs.Script.{append_of, append_with, command_of, flow_between, flow_of, is_visible, said_with}
use Rattle.trace_script.specs.Spelling.{IsClientWord, IsNodeWord, IsReplicaWord, IsSayable, data_word, spelling, two_words}
use Rattle.trace_script.specs.Words.{both, client_of, cut_at, cut_by, node_of, number_of, or_else, parted_by, replica_of, rest_after, seq_of, shard_of, shard_with, three_numbers, two_numbers, word_with}
use Rattle.trace_script.proofs.Lacks.{Lacks, lacks, decimal_lacks}
use Rattle.trace_script.proofs.NumberWords.{number_is}

-- a word up to a mark

before_mark : (mark : ℕ) (word rest : List ℕ) → Lacks mark word → prefix_len (λ byte. not (byte == mark)) (word ++ mark ∷ rest) ≡ length word
before_mark mark [] rest h = ap (λ (b : Bool). if not b then 1 + prefix_len (λ byte. not (byte == mark)) rest else 0) (eq-eqb mark mark refl)
before_mark mark (byte ∷ word) rest h =
    let parts = and_parts (not (byte == mark)) (lacks mark word) h in
    let more = before_mark mark word rest parts.1 in
    let one : 1 + prefix_len (λ other. not (other == mark)) (word ++ mark ∷ rest) ≡ suc (length word) = omega (arith, more) in
    ap (λ (b : Bool). if b then 1 + prefix_len (λ other. not (other == mark)) (word ++ mark ∷ rest) else 0) parts.0 ∙ one

no_mark : (mark : ℕ) (word : List ℕ) → Lacks mark word → prefix_len (λ byte. not (byte == mark)) word ≡ length word
no_mark mark [] h = refl
no_mark mark (byte ∷ word) h =
    let parts = and_parts (not (byte == mark)) (lacks mark word) h in
    let more = no_mark mark word parts.1 in
    let one : 1 + prefix_len (λ other. not (other == mark)) word ≡ suc (length word) = omega (arith, more) in
    ap (λ (b : Bool). if b then 1 + prefix_len (λ other. not (other == mark)) word else 0) parts.0 ∙ one

take_word : (word rest : List ℕ) → take (length word) (word ++ rest) ≡ word
take_word [] rest = refl
take_word (byte ∷ word) rest = ap (λ (more : List ℕ). byte ∷ more) (take_word word rest)

drop_word : (mark : ℕ) (word rest : List ℕ) → drop (length word + 1) (word ++ mark ∷ rest) ≡ rest
drop_word mark [] rest = refl
drop_word mark (byte ∷ word) rest =
    let next : suc (length word) + 1 ≡ suc (length word + 1) = omega arith in
    ap (λ (n : ℕ). drop n (byte ∷ word ++ mark ∷ rest)) next ∙ drop_word mark word rest

cut_mark : (mark : ℕ) (word rest : List ℕ) → Lacks mark word → cut_by mark (word ++ mark ∷ rest) ≡ (word, Some rest)
cut_mark mark word rest h =
    let text : List ℕ = word ++ mark ∷ rest in
    let within : nat_lt (length word) (length text) ≡ true = lt-ltb (length word) (length text) (omega (arith, length-append word (mark ∷ rest))) in
    ap (λ (n : ℕ). cut_at text (if nat_lt n (length text) then Some n else None)) (before_mark mark word rest h)
    ∙ ap (λ (b : Bool). cut_at text (if b then Some (length word) else None)) within
    ∙ ap (λ (front : List ℕ). (front, Some (drop (length word + 1) text))) (take_word word (mark ∷ rest))
    ∙ ap (λ (back : List ℕ). (word, Some back)) (drop_word mark word rest)

cut_word : (mark : ℕ) (word : List ℕ) → Lacks mark word → cut_by mark word ≡ (word, None)
cut_word mark word h =
    ap (λ (n : ℕ). cut_at word (if nat_lt n (length word) then Some n else None)) (no_mark mark word h)
    ∙ ap (λ (b : Bool). cut_at word (if b then Some (length word) else None)) (le-ltb (length word) (length word) (omega arith))

-- values behind each other

parted_back : {A B : Type 0} (mark : ℕ) (first : List ℕ → Option A) (next : List ℕ → Option B) (word rest : List ℕ) (a : A) (b : B) → Lacks mark word → first word ≡ Some a → next rest ≡ Some b → parted_by mark first next (word ++ mark ∷ rest) ≡ Some (a, b)
parted_back {A = A} {B = B} mark first next word rest a b h firsts nexts =
    ap (λ (parts : List ℕ × Option (List ℕ)). both (first parts.0) (option_and_then next parts.1)) (cut_mark mark word rest h)
    ∙ ap (λ (said : Option A). both said (next rest)) firsts
    ∙ ap (λ (said : Option B). both (Some a) said) nexts

number_back : (n : ℕ) → n < 2 ^ 32 → number_of (decimal n) ≡ Some n
number_back n small = sym (number_is (decimal n) n small refl)

number_word : (n : ℕ) → Lacks 32 (decimal n)
number_word n = decimal_lacks 32 (omega arith) n

two_back : (first next : ℕ) → first < 2 ^ 32 → next < 2 ^ 32 → two_numbers (two_words first next) ≡ Some (first, next)
two_back first next small_first small_next = parted_back 32 number_of number_of (decimal first) (decimal next) first next (number_word first) (number_back first small_first) (number_back next small_next)

three_back : (claim from to : ℕ) → claim < 2 ^ 32 → from < 2 ^ 32 → to < 2 ^ 32 → three_numbers (decimal claim ++ 32 ∷ two_words from to) ≡ Some (claim, (from, to))
three_back claim from to small_claim small_from small_to = parted_back 32 number_of two_numbers (decimal claim) (two_words from to) claim (from, to) (number_word claim) (number_back claim small_claim) (two_back from to small_from small_to)

-- nodes

client_back : (client : NodeWord) → IsClientWord client → client_of (word_text client) ≡ Some client
client_back (Client c) small = ap (option_map Client) (number_back c small)
client_back Controller h = absurd h
client_back (Seq i) h = absurd h
client_back (Shard i j) h = absurd h

client_word : (client : NodeWord) → IsClientWord client → Lacks 32 (word_text client)
client_word (Client c) small = number_word c
client_word Controller h = absurd h
client_word (Seq i) h = absurd h
client_word (Shard i j) h = absurd h

replica_back : (node : NodeWord) → IsReplicaWord node → replica_of (word_text node) ≡ Some node
replica_back (Client c) small = ap (λ (number : Option ℕ). or_else (option_map Client number) (or_else (seq_of (99 ∷ decimal c)) (shard_of (99 ∷ decimal c)))) (number_back c small)
replica_back Controller h = absurd h
replica_back (Seq i) small = ap (λ (number : Option ℕ). or_else (option_map Seq number) (shard_of (115 ∷ decimal i))) (number_back i small)
replica_back (Shard i j) small = ap shard_with (parted_back 46 number_of number_of (decimal i) (decimal j) i j (decimal_lacks 46 (omega arith) i) (number_back i small.0) (number_back j small.1))

node_back : (node : NodeWord) → IsNodeWord node → node_of (word_text node) ≡ Some node
node_back (Client c) h = replica_back (Client c) h
node_back Controller h = refl
node_back (Seq i) h = replica_back (Seq i) h
node_back (Shard i j) h = replica_back (Shard i j) h

-- commands

data_back : (client : NodeWord) (byte : ℕ) (bytes : List ℕ) → list_all is_visible (byte ∷ bytes) ≡ true → append_with (Some client) (Some (byte ∷ bytes)) ≡ Some (Append client (byte ∷ bytes))
data_back client byte bytes visible =
    let some : nat_lt 0 (length (byte ∷ bytes)) ≡ true = lt-ltb 0 (length (byte ∷ bytes)) (omega arith) in
    ap (λ (b : Bool). if b then Some (Append client (byte ∷ bytes)) else None) (and_from (nat_lt 0 (length (byte ∷ bytes))) (list_all is_visible (byte ∷ bytes)) some visible)

append_back : (client : NodeWord) (bytes : List ℕ) → IsClientWord client → list_all is_visible bytes ≡ true → append_of (word_text client ++ data_word bytes) ≡ Some (Append client bytes)
append_back client [] small visible =
    ap append_of (append-nil (word_text client))
    ∙ ap (λ (parts : List ℕ × Option (List ℕ)). append_with (client_of parts.0) parts.1) (cut_word 32 (word_text client) (client_word client small))
    ∙ ap (λ (word : Option NodeWord). append_with word None) (client_back client small)
append_back client (byte ∷ bytes) small visible =
    ap (λ (parts : List ℕ × Option (List ℕ)). append_with (client_of parts.0) parts.1) (cut_mark 32 (word_text client) (byte ∷ bytes) (client_word client small))
    ∙ ap (λ (word : Option NodeWord). append_with word (Some (byte ∷ bytes))) (client_back client small)
    ∙ data_back client byte bytes visible

flow_back : (first last : ℕ) → first ≤ last → last < first + 128 → last < 2 ^ 32 → flow_of (two_words first last) ≡ Some (Flow first last)
flow_back first last least most small =
    let low : nat_le first last ≡ true = le-leb first last least in
    let high : nat_lt (last - first) 128 ≡ true = lt-ltb (last - first) 128 (omega arith) in
    ap (option_and_then flow_between) (two_back first last (omega arith) small)
    ∙ ap (λ (b : Bool). if b then Some (Flow first last) else None) (and_from (nat_le first last) (nat_lt (last - first) 128) low high)

read_back : (client : NodeWord) (from to : ℕ) → IsClientWord client → from < 2 ^ 32 → to < 2 ^ 32 → word_with client_of two_numbers (word_text client ++ 32 ∷ two_words from to) ≡ Some (client, (from, to))
read_back client from to small small_from small_to = parted_back 32 client_of two_numbers (word_text client) (two_words from to) client (from, to) (client_word client small) (client_back client small) (two_back from to small_from small_to)

tail_back : (client : NodeWord) (from : ℕ) → IsClientWord client → from < 2 ^ 32 → word_with client_of number_of (word_text client ++ 32 ∷ decimal from) ≡ Some (client, from)
tail_back client from small small_from = parted_back 32 client_of number_of (word_text client) (decimal from) client from (client_word client small) (client_back client small) (number_back from small_from)

peek_back : (client : NodeWord) (claim from to : ℕ) → IsClientWord client → claim < 2 ^ 32 → from < 2 ^ 32 → to < 2 ^ 32 → word_with client_of three_numbers (word_text client ++ 32 ∷ (decimal claim ++ 32 ∷ two_words from to)) ≡ Some (client, (claim, (from, to)))
peek_back client claim from to small small_claim small_from small_to = parted_back 32 client_of three_numbers (word_text client) (decimal claim ++ 32 ∷ two_words from to) client (claim, (from, to)) (client_word client small) (client_back client small) (three_back claim from to small_claim small_from small_to)

-- the words behind a keyword
behind : (keyword rest : List ℕ) → Lacks 32 keyword → said_with (cut_by 32 (keyword ++ 32 ∷ rest)).0 (cut_by 32 (keyword ++ 32 ∷ rest)).1 ≡ said_with keyword (Some rest)
behind keyword rest h = ap (λ (parts : List ℕ × Option (List ℕ)). said_with parts.0 parts.1) (cut_mark 32 keyword rest h)

pub reads_back : (command : Command) → IsSayable command → command_of (spelling command) ≡ Some command
reads_back Nothing h = refl
reads_back (Append client bytes) h = behind (codes "append") (word_text client ++ data_word bytes) refl ∙ append_back client bytes h.0 h.1
reads_back (Read client from to) h = behind (codes "read") (word_text client ++ 32 ∷ two_words from to) refl ∙ ap (option_map (λ (said : NodeWord × (ℕ × ℕ)). Read said.0 said.1.0 said.1.1)) (read_back client from to h.0 h.1 h.2)
reads_back (Tail client from) h = behind (codes "tail") (word_text client ++ 32 ∷ decimal from) refl ∙ ap (option_map (λ (said : NodeWord × ℕ). Tail said.0 said.1)) (tail_back client from h.0 h.1)
reads_back (Trim client floor) h = behind (codes "trim") (word_text client ++ 32 ∷ decimal floor) refl ∙ ap (option_map (λ (said : NodeWord × ℕ). Trim said.0 said.1)) (tail_back client floor h.0 h.1)
reads_back (Peek client claim from to) h = behind (codes "peek") (word_text client ++ 32 ∷ (decimal claim ++ 32 ∷ two_words from to)) refl ∙ ap (option_map (λ (said : NodeWord × (ℕ × (ℕ × ℕ))). Peek said.0 said.1.0 said.1.1.0 said.1.1.1)) (peek_back client claim from to h.0 h.1 h.2 h.3)
reads_back (Deliver message) h = behind (codes "deliver") (decimal message) refl ∙ ap (option_map Deliver) (number_back message h)
reads_back (Flow first last) h = behind (codes "flow") (two_words first last) refl ∙ flow_back first last h.0 h.1 h.2
reads_back (Tick node) h = behind (codes "tick") (word_text node) refl ∙ ap (option_map Tick) (node_back node h)
reads_back (Grace node) h = behind (codes "grace") (word_text node) refl ∙ ap (option_map Grace) (node_back node h)
reads_back (Crash node) h = behind (codes "crash") (word_text node) refl ∙ ap (option_map Crash) (replica_back node h)
reads_back (Suspect node) h = behind (codes "suspect") (word_text node) refl ∙ ap (option_map Suspect) (node_back node h)
reads_back Lines h = refl
reads_back Law h = refl
reads_back (Show message) h = behind (codes "show") (decimal message) refl ∙ ap (option_map Show) (number_back message h)
