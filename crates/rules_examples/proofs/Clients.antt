use Rattle.std.proofs.Common.{◌≡◌, ℕ, [], ◌∷◌, ◌++◌, Some, None, refl}
use Rattle.std.specs.Prelude.{map}
use Rattle.std.specs.List.{range_with_len}
use Rattle.rec_id.specs.declared.event.Event.TheVariants.{Invoke, Acked, Seen}
use Rattle.view_config.specs.declared.config.Config.{Config}
use Rattle.view_config.specs.declared.edition.Mode.TheVariants.{M, St}
use Rattle.lazy_msgs.specs.declared.input.WorldEvent.TheVariants.{Post, Deliver, Tick, Grace, Crash, Peek, Trim, Suspect}
use Rattle.lazy_msgs.specs.declared.msg.Msg.{Msg}
use Rattle.lazy_msgs.specs.declared.msg.Msg.TheVariants.{Append, AppendAck, Put, DataAck, ViewIs, AskView, Order, Ordered, Place, Placed, Probe, ProbeAck, Stable, TailReady}
use Rattle.lazy_msgs.specs.declared.refused.EventRefused.TheVariants.{NoNode, NoMessage, IsClaim, NotClaim, Crashed, NoTrim, Backward, Wide, NotYet, Suspect as SuspectRefusedSo}
use Rattle.lazy_msgs.specs.declared.refused.SuspectRefused.TheVariants.{NotInView}
use Rattle.lazy_rules.specs.ClientRules.{client_took, invokes}
use Rattle.lazy_rules.specs.ClientNode.{ClientNode, on_node_tick}
use Rattle.lazy_rules.specs.ClientState.{ClientState, first_client}
use Rattle.lazy_rules.specs.Flight.{Batch}
use Rattle.lazy_rules.specs.ReaderState.{first_reader}
use Rattle.lazy_rules.specs.SeqRules.{seq_took, on_tick}
use Rattle.lazy_rules.specs.SeqState.{SeqState, first_seq}
use Rattle.lazy_rules.specs.WorldRules.{refusal, run}
use Rattle.lazy_rules.specs.WorldState.{WorldState}
use Rattle.rules_examples.proofs.Shows.{c#, shape_of, item, flow, ran, sends_of, told_of, after_all, seq_shown}

-- What clients send again, what reads force, and what a world refuses.

-- an append that one replica acknowledged, in a later view: it is sent again to all of that view,
-- and acknowledgements of the older view, or of a replica outside, no longer count
abbrev pub posted : ClientState
posted = (invokes (first_client (shape_of St 2 1 1 1) 0) (97 ∷ [])).next

abbrev pub second_view : Config
second_view = record { view = 2; seq = 258 ∷ []; shards = (264 ∷ []) ∷ [] }

pub sent_again_in_a_later_view : sends_of client_took posted
    ((258, AppendAck 1 (c# 0 1)) ∷ (264, DataAck 1 (c# 0 1)) ∷ (256, ViewIs second_view) ∷ (256, ViewIs second_view) ∷ []) ≡ [] ∷ [] ∷ ((264, Put (c# 0 1) (97 ∷ [])) ∷ (258, Append 2 (c# 0 1) None) ∷ []) ∷ [] ∷ []
sent_again_in_a_later_view = refl

pub acknowledged_in_a_later_view : told_of client_took posted
    ((258, AppendAck 1 (c# 0 1))
    ∷ (264, DataAck 1 (c# 0 1))
    ∷ (256, ViewIs second_view)
    ∷ (257, AppendAck 1 (c# 0 1))
    ∷ (258, AppendAck 2 (c# 0 1))
    ∷ (264, DataAck 1 (c# 0 1))
    ∷ (257, AppendAck 2 (c# 0 1))
    ∷ (264, DataAck 2 (c# 0 1))
    ∷ (264, DataAck 2 (c# 0 1))
    ∷ []) ≡ [] ∷ [] ∷ [] ∷ [] ∷ [] ∷ [] ∷ [] ∷ (Acked (c# 0 1) ∷ []) ∷ [] ∷ []
acknowledged_in_a_later_view = refl

-- a client's node whose reader is at nothing
abbrev pub node_of_appends : ClientState → ClientNode
node_of_appends c = record { appends = c; reads = first_reader c.shape c.client }

-- only what isn't acknowledged is sent again, and then the latest view is asked for
pub sent_on_a_tick : (on_node_tick (node_of_appends (after_all client_took posted ((258, AppendAck 1 (c# 0 1)) ∷ [])))).sends ≡ (264, Put (c# 0 1) (97 ∷ [])) ∷ (257, Append 1 (c# 0 1) None) ∷ (256, AskView) ∷ []
sent_on_a_tick = refl

-- where a batch begins
abbrev pub batch_from : Batch → ℕ
batch_from batch = batch.from

-- reads force what the leader knows when they come: batches begin, pass in their order, and each read
-- is answered once its target is bound; a later read of a client takes the place of its earlier one
pub forced_by_reads : sends_of seq_took (first_seq (shape_of M 2 1 1 2) 0)
    ((0, Append 1 (c# 0 1) (Some (97 ∷ [])))
    ∷ (1, Probe 1 1)
    ∷ (0, Append 1 (c# 0 2) (Some (98 ∷ [])))
    ∷ (1, Probe 1 1)
    ∷ (0, Probe 1 5)
    ∷ (1, Probe 1 2)
    ∷ (264, Placed 1 2)
    ∷ (264, Placed 1 1)
    ∷ (258, Ordered 1 2)
    ∷ (258, Ordered 1 1)
    ∷ (0, Probe 1 6)
    ∷ []) ≡ ((0, AppendAck 1 (c# 0 1)) ∷ [])
    ∷ ((1, ProbeAck 1 1) ∷ (264, Place 1 0 (item 0 1 97 ∷ [])) ∷ [])
    ∷ ((0, AppendAck 1 (c# 0 2)) ∷ [])
    ∷ ((1, ProbeAck 1 1) ∷ [])
    ∷ ((0, ProbeAck 1 5) ∷ (264, Place 1 1 (item 0 2 98 ∷ [])) ∷ [])
    ∷ ((1, ProbeAck 1 2) ∷ [])
    ∷ []
    ∷ ((258, Order 1 0 (c# 0 1 ∷ [])) ∷ (258, Order 1 1 (c# 0 2 ∷ [])) ∷ [])
    ∷ []
    ∷ ((264, Stable 1 1) ∷ (264, Stable 1 2) ∷ (1, TailReady 1 2 2) ∷ (0, TailReady 1 5 2) ∷ [])
    ∷ ((0, ProbeAck 1 6) ∷ (264, Stable 1 2) ∷ (0, TailReady 1 6 2) ∷ [])
    ∷ []
forced_by_reads = refl

-- a read that waits for more than a batch holds forces several
pub forced_twice : map batch_from (after_all seq_took (first_seq (shape_of M 1 1 1 1) 0)
    (map (λ n. (0, Append 1 (c# 0 n) (Some []))) (range_with_len 1 65) ++ (0, Probe 1 1) ∷ [])).flight ≡ 0 ∷ 64 ∷ []
forced_twice = refl

-- each shard is given the data of its own places, and on a tick what it hasn't answered
abbrev pub two_shards : SeqState
two_shards = after_all seq_took (first_seq (shape_of M 1 2 1 1) 0) ((0, Append 1 (c# 0 1) (Some (97 ∷ []))) ∷ (0, Append 1 (c# 0 2) (Some (98 ∷ []))) ∷ [])

pub placed_by_shard : (on_tick two_shards).sends ≡ (264, Place 1 0 (item 0 1 97 ∷ record { id = c# 0 2; bytes = None } ∷ []))
    ∷ (268, Place 1 0 (record { id = c# 0 1; bytes = None } ∷ item 0 2 98 ∷ []))
    ∷ []
placed_by_shard = refl

pub placed_again_by_shard : (on_tick (after_all seq_took (on_tick two_shards).next ((264, Placed 1 2) ∷ []))).sends ≡ (268, Place 1 0 (record { id = c# 0 1; bytes = None } ∷ item 0 2 98 ∷ [])) ∷ []
placed_again_by_shard = refl

-- a follower binds what is next alone, and answers again for what it has bound
pub ordered_in_turn : sends_of seq_took (first_seq (shape_of M 2 1 1 1) 1)
    ((257, Order 1 1 (c# 0 2 ∷ []))
    ∷ (257, Order 1 0 (c# 0 1 ∷ []))
    ∷ (257, Order 1 0 (c# 0 1 ∷ []))
    ∷ (0, Probe 1 1)
    ∷ (257, Order 1 1 (c# 0 2 ∷ []))
    ∷ (0, Append 1 (c# 0 2) (Some []))
    ∷ []) ≡ []
    ∷ ((257, Ordered 1 1) ∷ [])
    ∷ ((257, Ordered 1 1) ∷ [])
    ∷ ((0, ProbeAck 1 1) ∷ [])
    ∷ ((257, Ordered 1 2) ∷ [])
    ∷ ((0, AppendAck 1 (c# 0 2)) ∷ [])
    ∷ []
ordered_in_turn = refl

-- a record that it was told of only in an order is known to it too, and isn't added
pub known_by_its_order : seq_shown (after_all seq_took (first_seq (shape_of M 2 1 1 1) 1) ((257, Order 1 0 (c# 0 1 ∷ [])) ∷ (0, Append 1 (c# 0 1) (Some [])) ∷ [])) ≡ record { bound = 1; pending = [] }
known_by_its_order = refl

-- a world with one record that is final, and a crashed replica
abbrev pub bound : WorldState
bound = ran (shape_of M 3 1 1 1) (Post 0 (97 ∷ []) ∷ flow 1 6 ++ Tick 257 ∷ flow 7 8 ++ Crash 259 ∷ Peek 0 14 0 1 ∷ [])

pub seen_at_a_claim : bound.history ≡ Invoke (c# 0 1) (97 ∷ []) ∷ Acked (c# 0 1) ∷ Seen 0 0 (c# 0 1 ∷ []) ∷ []
seen_at_a_claim = refl

pub seen_behind_another : (ran (shape_of M 2 1 1 2) (Post 0 (97 ∷ []) ∷ Post 1 (98 ∷ []) ∷ Deliver 3 ∷ Deliver 1 ∷ Deliver 2 ∷ Deliver 4 ∷ Tick 257 ∷ flow 9 6 ++ Peek 0 14 0 1 ∷ Peek 1 14 1 2 ∷ Peek 1 14 2 2 ∷ [])).history ≡ Invoke (c# 0 1) (97 ∷ [])
    ∷ Invoke (c# 1 1) (98 ∷ [])
    ∷ Seen 0 0 (c# 1 1 ∷ [])
    ∷ Seen 1 1 (c# 0 1 ∷ [])
    ∷ Seen 1 2 []
    ∷ []
seen_behind_another = refl

pub refused : map (refusal bound)
    (Peek 0 14 0 1
    ∷ Peek 0 14 0 2
    ∷ Peek 0 14 2 1
    ∷ Peek 0 14 0 257
    ∷ Peek 0 13 0 1
    ∷ Peek 0 0 0 1
    ∷ Peek 1 0 0 1
    ∷ Deliver 14
    ∷ Deliver 15
    ∷ Deliver 9
    ∷ Deliver 10
    ∷ Tick 266
    ∷ Tick 259
    ∷ Grace 257
    ∷ Crash 256
    ∷ Crash 259
    ∷ Crash 0
    ∷ Suspect 268
    ∷ Suspect 0
    ∷ Trim 0 0
    ∷ []) ≡ None
    ∷ Some (NotYet 1)
    ∷ Some Backward
    ∷ Some Wide
    ∷ Some (NotClaim 13)
    ∷ Some (NoMessage 0)
    ∷ Some (NoNode 1)
    ∷ Some (IsClaim 14)
    ∷ Some (NoMessage 15)
    ∷ None
    ∷ Some (Crashed 259)
    ∷ Some (NoNode 266)
    ∷ Some (Crashed 259)
    ∷ None
    ∷ Some (NoNode 256)
    ∷ Some (Crashed 259)
    ∷ None
    ∷ Some (NoNode 268)
    ∷ Some (SuspectRefusedSo NotInView)
    ∷ Some NoTrim
    ∷ []
refused = refl

-- a peek by a crashed client is refused as that, whatever its range; only that there is no such message, or no
-- claim, comes before
pub peeks_refused_of_a_crashed_client : map (refusal (run (Crash 0 ∷ []) bound)) (Peek 0 14 0 1 ∷ Peek 0 14 0 2 ∷ Peek 0 14 2 1 ∷ Peek 0 13 0 1 ∷ Peek 0 15 0 1 ∷ []) ≡ Some (Crashed 0)
    ∷ Some (Crashed 0)
    ∷ Some (Crashed 0)
    ∷ Some (NotClaim 13)
    ∷ Some (NoMessage 15)
    ∷ []
peeks_refused_of_a_crashed_client = refl

-- an acknowledgement of the append by a node that orders nothing, or of its data by one that holds none, is not
-- noted
pub acknowledgements_not_noted : map (λ (sent : ℕ × Msg). (client_took posted sent.0 sent.1).next)
    ((264, AppendAck 1 (c# 0 1)) ∷ (0, AppendAck 1 (c# 0 1)) ∷ (257, DataAck 1 (c# 0 1)) ∷ (0, DataAck 1 (c# 0 1)) ∷ []) ≡ posted ∷ posted ∷ posted ∷ posted ∷ []
acknowledgements_not_noted = refl
