-- No text that is printed holds a newline.
use Rattle.std.proofs.Common.{◌≡◌, Option, Some, None, ℕ, zero, suc, ◌+◌, List, [], ◌∷◌, ◌++◌, Bool, true, not, ◌&&◌, refl, ap, arith}
use Rattle.std.specs.Prelude.{◌==◌, ◌/◌, ◌%◌, nat_le, slice_index, codes, decimal}
use Rattle.std.proofs.lemmas.Bool.{and_from, and_parts, ne_eqb}
use Rattle.hex.specs.Hex.{encode_lower, encode_with, lower_digits}
use Rattle.log_law.specs.declared.verdict.Verdict.{Verdict}
use Rattle.log_law.specs.declared.verdict.Verdict.TheVariants.{Lawful, Broken}
use Rattle.view_config.specs.declared.nodes.TheConstants.{BOARD}
use Rattle.list_facts.specs.Lists.{Each}
use Rattle.list_facts.proofs.Cases.{either}
use Rattle.rec_id.specs.Identity.{Identity}
use Rattle.rec_id.specs.declared.entry.Entry.{Entry}
use Rattle.rec_id.specs.declared.entry.Entry.TheVariants.{Kept, Noop, Gone}
use Rattle.lazy_msgs.specs.declared.refused.PostRefused.{PostRefused}
use Rattle.lazy_msgs.specs.declared.refused.PostRefused.TheVariants.{TooLong, NumbersSpent, WindowFull, Over as PostOver, Memory as PostMemory}
use Rattle.lazy_msgs.specs.declared.refused.BeginRefused.{BeginRefused}
use Rattle.lazy_msgs.specs.declared.refused.BeginRefused.TheVariants.{Outstanding, Backward as BeginBackward, Wide as BeginWide, Over as BeginOver, Memory as BeginMemory}
use Rattle.lazy_msgs.specs.declared.refused.TrimRefused.{TrimRefused}
use Rattle.lazy_msgs.specs.declared.refused.TrimRefused.TheVariants.{Outstanding as TrimOutstanding, Ahead, Over as TrimOver, Memory as TrimMemory}
use Rattle.lazy_msgs.specs.declared.refused.SuspectRefused.{SuspectRefused}
use Rattle.lazy_msgs.specs.declared.refused.SuspectRefused.TheVariants.{NotInView, LastSeq, LastOfShard, ViewsSpent, Over as SuspectOver, Memory as SuspectMemory}
use Rattle.lazy_msgs.specs.declared.refused.EventRefused.{EventRefused}
use Rattle.lazy_msgs.specs.declared.refused.EventRefused.TheVariants.{NoNode, NoMessage, IsClaim, NotClaim, Crashed, NoTrim, Post, Begin as BeginRefusedSo, Suspect, Trim, Backward, Wide, NotYet, Spent, Memory}
use Rattle.trace_script.specs.declared.node_word.NodeWord.{NodeWord}
use Rattle.trace_script.specs.declared.node_word.NodeWord.TheVariants.{Client, Controller, Seq, Shard}
use Rattle.view_config.specs.Nodes.{taken_state}
use Rattle.trace_script.specs.EntryTexts.{id_text, entry_text, spaced, parted}
use Rattle.trace_script.specs.Names.{word_text, word_of_node, name_with, node_name, holder_name}
use Rattle.trace_script.specs.RefusalTexts.{post_reason, begin_reason, trim_reason, suspect_reason, reason, refused_text, no_node_text}
use Rattle.trace_script.specs.LineTexts.{line_text, lost_text}
use Rattle.trace_script.specs.EndTexts.{end_text}
use Rattle.trace_script.specs.VerdictTexts.{letter, lost_verdict_text, verdict_says, verdict_text}
use Rattle.trace_script.specs.FrameTexts.{end_name, frame_text}
use Rattle.trace_script.proofs.Lacks.{Lacks, lacks, lacks_append, decimal_lacks}

-- a text in one line
abbrev pub is_flat : List ℕ → Bool
is_flat text = lacks 10 text

abbrev pub IsFlat : List ℕ → Type 0
IsFlat text = Lacks 10 text

pub flat_append : (text more : List ℕ) → IsFlat text → IsFlat more → IsFlat (text ++ more)
flat_append = lacks_append 10

pub flat_decimal : (n : ℕ) → IsFlat (decimal n)
flat_decimal = decimal_lacks 10 (omega arith)

-- identities and entries
pub flat_id : (id : Identity) → IsFlat (id_text id)
flat_id id = flat_append (decimal id.client) (codes "#" ++ decimal id.number) (flat_decimal id.client) (flat_decimal id.number)

-- what an entry keeps
abbrev pub IsFlatEntry : Entry → Type 0
IsFlatEntry (Kept id bytes) = IsFlat bytes
IsFlatEntry _ = Unit {0}

flat_entry : (entry : Entry) → IsFlatEntry entry → IsFlat (entry_text entry)
flat_entry (Kept id bytes) h = flat_append (id_text id) (codes "=" ++ bytes) (flat_id id) h
flat_entry (Noop id) h = flat_append (id_text id) (codes "!") (flat_id id) refl
flat_entry (Gone id) h = flat_append (id_text id) (codes "~") (flat_id id) refl

flat_spaced : (entries : List Entry) → Each IsFlatEntry entries → IsFlat (spaced entry_text entries)
flat_spaced [] h = refl
flat_spaced (entry ∷ entries) h = flat_append (entry_text entry) (spaced entry_text entries) (flat_entry entry h.0) (flat_spaced entries h.1)

pub flat_parted : (entries : List Entry) → Each IsFlatEntry entries → IsFlat (parted entry_text entries)
flat_parted [] h = refl
flat_parted (entry ∷ entries) h = flat_append (entry_text entry) (spaced entry_text entries) (flat_entry entry h.0) (flat_spaced entries h.1)

-- names
flat_word : (word : NodeWord) → IsFlat (word_text word)
flat_word (Client c) = flat_decimal c
flat_word Controller = refl
flat_word (Seq i) = flat_decimal i
flat_word (Shard i j) = flat_append (decimal i) (codes "." ++ decimal j) (flat_decimal i) (flat_decimal j)

flat_named : (node : ℕ) (word : Option NodeWord) → IsFlat (name_with node word)
flat_named node (Some word) = flat_word word
flat_named node None = flat_decimal node

flat_node : (node : ℕ) → IsFlat (node_name node)
flat_node node = flat_named node (word_of_node node)

flat_holder : (holder : ℕ) → IsFlat (holder_name holder)
flat_holder holder = either IsFlat (holder == taken_state) (codes "taken") (node_name holder) (λ e. refl) (λ e. flat_node holder)

-- refusals
flat_post : (refused : PostRefused) → IsFlat (post_reason refused)
flat_post TooLong = refl
flat_post NumbersSpent = refl
flat_post (WindowFull low) = flat_decimal low
flat_post PostOver = refl
flat_post PostMemory = refl

flat_begin : (refused : BeginRefused) → IsFlat (begin_reason refused)
flat_begin (Outstanding read) = flat_append (decimal read) (codes " outstanding") (flat_decimal read) refl
flat_begin BeginBackward = refl
flat_begin BeginWide = refl
flat_begin BeginOver = refl
flat_begin BeginMemory = refl

flat_trim : (refused : TrimRefused) → IsFlat (trim_reason refused)
flat_trim (TrimOutstanding read) = flat_append (decimal read) (codes " outstanding") (flat_decimal read) refl
flat_trim (Ahead reach) = flat_decimal reach
flat_trim TrimOver = refl
flat_trim TrimMemory = refl

flat_suspect : (refused : SuspectRefused) → IsFlat (suspect_reason refused)
flat_suspect NotInView = refl
flat_suspect LastSeq = refl
flat_suspect (LastOfShard shard) = flat_decimal shard
flat_suspect ViewsSpent = refl
flat_suspect SuspectOver = refl
flat_suspect SuspectMemory = refl

flat_reason : (refused : EventRefused) → IsFlat (reason refused)
flat_reason (NoNode node) = flat_node node
flat_reason (NoMessage message) = flat_decimal message
flat_reason (IsClaim message) = flat_decimal message
flat_reason (NotClaim message) = flat_decimal message
flat_reason (Crashed node) = flat_append (node_name node) (codes " crashed") (flat_node node) refl
flat_reason NoTrim = refl
flat_reason (Post refused) = flat_post refused
flat_reason (BeginRefusedSo refused) = flat_begin refused
flat_reason (Suspect refused) = flat_suspect refused
flat_reason (Trim refused) = flat_trim refused
flat_reason Backward = refl
flat_reason Wide = refl
flat_reason (NotYet stable) = flat_decimal stable
flat_reason Spent = refl
flat_reason Memory = refl

pub flat_refused : (refused : EventRefused) → IsFlat (refused_text refused)
flat_refused refused = flat_reason refused

pub flat_no_node : (word : NodeWord) → IsFlat (no_node_text word)
flat_no_node word = flat_word word

-- lines of holders, and the last line
pub flat_line : (holder : ℕ) (line : List Entry) → Each IsFlatEntry line → IsFlat (line_text holder line)
flat_line holder line h = flat_append (holder_name holder) (codes ": " ++ parted entry_text line) (flat_holder holder) (flat_parted line h)

pub flat_lost : (holder shard : ℕ) → IsFlat (lost_text holder shard)
flat_lost holder shard = flat_append (holder_name holder) (codes ": lost shard " ++ decimal shard) (flat_holder holder) (flat_decimal shard)

-- verdicts, and frames
flat_letter : (clause : ℕ) → IsFlat (letter clause ∷ [])
flat_letter clause =
    either (λ (n : ℕ). IsFlat (n ∷ [])) (nat_le 1 clause && nat_le clause 9) (96 + clause) 63
    (λ e. ap (λ (b : Bool). not b && true) (ne_eqb (96 + clause) 10 (omega arith))) (λ e. refl)

flat_verdict_says : (verdict : Verdict) → IsFlat (verdict_says verdict)
flat_verdict_says Lawful = refl
flat_verdict_says (Broken clause first second) =
    flat_append (letter clause ∷ []) (codes " " ++ (decimal first ++ (codes " " ++ decimal second))) (flat_letter clause)
    (flat_append (decimal first) (codes " " ++ decimal second) (flat_decimal first) (flat_decimal second))

pub flat_verdict : (holder : ℕ) (verdict : Verdict) → IsFlat (verdict_text holder verdict)
flat_verdict holder verdict = flat_append (holder_name holder) (codes ": " ++ verdict_says verdict) (flat_holder holder) (flat_verdict_says verdict)

pub flat_lost_verdict : (holder shard : ℕ) → IsFlat (lost_verdict_text holder shard)
flat_lost_verdict holder shard = flat_append (holder_name holder) (codes ": lost shard " ++ decimal shard) (flat_holder holder) (flat_decimal shard)

flat_digit : (digits : List ℕ) (i : ℕ) → IsFlat digits → not (slice_index digits i == 10) ≡ true
flat_digit [] i h = refl
flat_digit (digit ∷ digits) zero h = (and_parts (not (digit == 10)) (is_flat digits) h).0
flat_digit (digit ∷ digits) (suc i) h = flat_digit digits i (and_parts (not (digit == 10)) (is_flat digits) h).1

flat_hex : (bytes : List ℕ) → IsFlat (encode_lower bytes)
unfolding encode_with
flat_hex [] = refl
flat_hex (byte ∷ bytes) =
    and_from (not (slice_index lower_digits (byte / 16) == 10)) (is_flat (slice_index lower_digits (byte % 16) ∷ encode_lower bytes)) (flat_digit lower_digits (byte / 16) refl)
    (and_from (not (slice_index lower_digits (byte % 16) == 10)) (is_flat (encode_lower bytes)) (flat_digit lower_digits (byte % 16) refl) (flat_hex bytes))

flat_end_name : (node : ℕ) → IsFlat (end_name node)
flat_end_name node = either IsFlat (node == BOARD) (codes "board") (node_name node) (λ e. refl) (λ e. flat_node node)

pub flat_frame : (number from to : ℕ) (frame : List ℕ) → IsFlat (frame_text number from to frame)
flat_frame number from to frame =
    flat_append (decimal number) (codes ": " ++ (end_name from ++ (codes " to " ++ (end_name to ++ (codes ": " ++ encode_lower frame))))) (flat_decimal number)
    (flat_append (end_name from) (codes " to " ++ (end_name to ++ (codes ": " ++ encode_lower frame))) (flat_end_name from)
    (flat_append (end_name to) (codes ": " ++ encode_lower frame) (flat_end_name to) (flat_hex frame)))

pub flat_end : (events messages : ℕ) → IsFlat (end_text events messages)
flat_end events messages =
    flat_append (decimal events) (codes " events, " ++ (decimal messages ++ codes " messages")) (flat_decimal events)
    (flat_append (decimal messages) (codes " messages") (flat_decimal messages) refl)
