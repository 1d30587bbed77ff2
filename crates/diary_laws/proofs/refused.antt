-- Entries and peeks that are none.
use Rattle.std.proofs.Common.{◌≡◌, ℕ, ◌<◌, List, [], ◌∷◌, Some, arith}
use Rattle.view_config.specs.declared.edition.Edition.TheVariants.{One, Two}
use Rattle.lazy_msgs.specs.declared.input.Input.TheVariants.{Take, Tick, Crash, Post, Trim}
use Rattle.lazy_msgs.specs.declared.msg.Msg.{Msg}
use Rattle.lazy_msgs.specs.declared.msg.Msg.TheVariants.{Append, AppendAck, Claim}
use Rattle.lazy_rules.specs.ClientState.{first_client}
use Rattle.lazy_rules.specs.ControlState.{first_control}
use Rattle.lazy_rules.specs.ReaderState.{first_reader}
use Rattle.lazy_rules.specs.SeqState.{first_seq}
use Rattle.lazy_rules.specs.ShardState.{first_shard}
use Rattle.diary_laws.specs.Closed.{IsPeek}
use Rattle.diary_laws.specs.Formed.{Follows}
use Rattle.diary_laws.specs.Machines.{Step}
use Rattle.diary_laws.specs.Nodes.{NodeState, OfClient, OfControl, OfSeq, OfShard}
use Rattle.diary_laws.proofs.worked.{a, append, entry, from_to, id, m, shape}

abbrev client : NodeState
client = OfClient (record { appends = first_client shape 0; reads = first_reader shape 0 })

-- behind a crash there is nothing
pub nothing_behind_a_crash : ¬ Follows m 257 0 (OfSeq (first_seq shape 0)) (entry 1 Crash [] ∷ entry 2 Tick [] ∷ [])
nothing_behind_a_crash h = let wrong : entry 2 Tick [] ∷ [] ≡ [] = h.1 in cc

-- time begins at 1, and rises
pub no_time_of_0 : ¬ Follows m 257 0 (OfSeq (first_seq shape 0)) (entry 0 Tick [] ∷ [])
no_time_of_0 h = let wrong : 0 < 0 = h.0.later in omega arith

pub no_time_twice : ¬ Follows m 257 0 (OfSeq (first_seq shape 0)) (entry 1 Tick [] ∷ entry 1 Tick [] ∷ [])
no_time_twice h = let wrong : 1 < 1 = h.2.0.later in omega arith

-- a receipt is later than its envelope, goes to the node, and is no Claim
pub no_receipt_at_once : ¬ Follows m 257 0 (OfSeq (first_seq shape 0)) (entry 1 (Take append) ((0, AppendAck 1 id) ∷ []) ∷ [])
no_receipt_at_once h = let wrong : 1 < 1 = h.0.received.older in omega arith

pub no_receipt_of_another : ¬ Follows m 264 0 (OfShard (first_shard shape 0 0)) (entry 2 (Take append) [] ∷ [])
no_receipt_of_another h = let wrong : 257 ≡ 264 = h.0.received.own in omega arith

pub no_claim_received : ¬ Follows m 0 0 client (entry 7 (Take (from_to 264 0 6 (Claim 1))) [] ∷ [])
no_claim_received h = h.0.received.mail

-- what is sent is what the rule sends
pub no_post_in_silence : ¬ Follows m 0 0 client (entry 1 (Post a) [] ∷ [])
no_post_in_silence h = let wrong : [] ≡ (257, Append 1 id (Some a)) ∷ [] = h.0.sends in cc

-- the controller doesn't crash, and edition One has no trim
pub no_crash_of_the_controller : ¬ Follows m 256 0 (OfControl (first_control shape)) (entry 1 Crash [] ∷ [])
no_crash_of_the_controller h = h.0.allowed

pub no_trim_in_edition_one : (sends : List (ℕ × Msg)) → ¬ Follows m 0 0 client (entry 1 (Trim 0) sends ∷ [])
no_trim_in_edition_one sends h = let wrong : One ≡ Two = h.0.allowed.0 in cc

-- a peek is of a claim, and within it
pub no_peek_without_a_claim : ¬ IsPeek m [] 7 1 6 0 0 (id ∷ [])
no_peek_without_a_claim h = (h.claimed (omega arith)).there

pub no_peek_past_its_claim : (steps : List (Step NodeState)) → ¬ IsPeek m steps 7 1 6 0 1 (id ∷ [])
no_peek_past_its_claim steps h = let wrong = h.within in omega arith
