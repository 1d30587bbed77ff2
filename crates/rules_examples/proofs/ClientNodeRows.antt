use Rattle.std.proofs.Common.{◌≡◌, [], ◌∷◌, Some, None, refl, map}
use Rattle.rec_id.specs.declared.event.Ask.TheVariants.{Range, Tail}
use Rattle.rec_id.specs.declared.event.Event.TheVariants.{Begin, Seen}
use Rattle.view_config.specs.declared.config.Config.{Config}
use Rattle.view_config.specs.declared.edition.Edition.TheVariants.{One, Two}
use Rattle.view_config.specs.declared.edition.Mode.TheVariants.{M}
use Rattle.lazy_msgs.specs.declared.input.Input.TheVariants.{Tick, Post, Ask, Trim, Peek}
use Rattle.lazy_msgs.specs.declared.input.WorldEvent.TheVariants.{Ask as AskEvent, Trim as TrimEvent, Post as PostEvent, Crash}
use Rattle.lazy_msgs.specs.declared.msg.Msg.TheVariants.{Append, AppendAck, Probe, ProbeAck, TailReady, Trim as TrimMsg, AskView, ViewIs}
use Rattle.lazy_msgs.specs.declared.refused.BeginRefused.TheVariants.{Outstanding}
use Rattle.lazy_msgs.specs.declared.refused.EventRefused.TheVariants.{NoNode, Crashed, NoTrim, Begin as BeginRefused, Trim as TrimRefused}
use Rattle.lazy_msgs.specs.declared.refused.TrimRefused.TheVariants.{Outstanding as TrimOutstanding, Ahead}
use Rattle.lazy_rules.specs.ClientNode.{ClientNode, client_node_step}
use Rattle.lazy_rules.specs.ClientState.{first_client}
use Rattle.lazy_rules.specs.ReaderState.{first_reader}
use Rattle.lazy_rules.specs.WorldRules.{refusal}
use Rattle.rules_examples.proofs.Shows.{c#, shape_in, from_node, ran, steps}

-- A client's node, whose two halves take turns. The shape has the sequencing replicas 257 and 258, and one
-- shard replica, 264. The controller is node 256.

abbrev pub node : ClientNode
node = record { appends = first_client (shape_in Two M 2 0 1 1 1) 0; reads = first_reader (shape_in Two M 2 0 1 1 1) 0 }

abbrev pub second : Config
second = record { view = 2; seq = 258 ∷ []; shards = (264 ∷ []) ∷ [] }

-- at a tick and in a later view the appends come first, then the reads; a node that had anything unfinished
-- at the tick also asks for the view
pub halves_in_turn : (steps client_node_step node
    (Tick
    ∷ Post (97 ∷ [])
    ∷ Ask (Tail 0)
    ∷ from_node 257 (AppendAck 1 (c# 0 1))
    ∷ from_node 257 (ProbeAck 1 1)
    ∷ Tick
    ∷ from_node 256 (ViewIs second)
    ∷ from_node 258 (AppendAck 2 (c# 0 1))
    ∷ Tick
    ∷ from_node 258 (TailReady 2 1 0)
    ∷ from_node 258 (ProbeAck 2 1)
    ∷ Tick
    ∷ Trim 0
    ∷ Tick
    ∷ [])).sends ≡ []
    ∷ ((257, Append 1 (c# 0 1) (Some (97 ∷ []))) ∷ (258, Append 1 (c# 0 1) (Some (97 ∷ []))) ∷ [])
    ∷ ((257, Probe 1 1) ∷ (258, Probe 1 1) ∷ [])
    ∷ []
    ∷ []
    ∷ ((258, Append 1 (c# 0 1) (Some (97 ∷ []))) ∷ (257, Probe 1 1) ∷ (258, Probe 1 1) ∷ (256, AskView) ∷ [])
    ∷ ((258, Append 2 (c# 0 1) (Some (97 ∷ []))) ∷ (258, Probe 2 1) ∷ [])
    ∷ []
    ∷ ((258, Probe 2 1) ∷ (256, AskView) ∷ [])
    ∷ []
    ∷ []
    ∷ []
    ∷ ((264, TrimMsg 2 0) ∷ [])
    ∷ ((264, TrimMsg 2 0) ∷ (256, AskView) ∷ [])
    ∷ []
halves_in_turn = refl

-- a peek tells the client what it was given, whatever it is at
pub node_sees : (steps client_node_step node (Ask (Tail 0) ∷ Peek 3 9 0 1 (c# 0 1 ∷ c# 0 2 ∷ []) ∷ [])).events ≡ (Begin 0 1 (Tail 0) ∷ []) ∷ (Seen 0 1 (c# 0 1 ∷ c# 0 2 ∷ []) ∷ []) ∷ []
node_sees = refl

-- why a read or a trim is refused: a client that isn't there, one that crashed, an edition that has no trim, and
-- then what the reader says
pub reads_and_trims_refused : map (refusal (ran (shape_in Two M 1 0 1 1 2) (Crash 1 ∷ AskEvent 0 (Tail 0) ∷ [])))
    (AskEvent 2 (Range 0 1) ∷ AskEvent 1 (Range 2 1) ∷ AskEvent 0 (Range 2 1) ∷ TrimEvent 2 0 ∷ TrimEvent 1 9 ∷ TrimEvent 0 9 ∷ PostEvent 0 [] ∷ []) ≡ Some (NoNode 2)
    ∷ Some (Crashed 1)
    ∷ Some (BeginRefused (Outstanding 1))
    ∷ Some (NoNode 2)
    ∷ Some (Crashed 1)
    ∷ Some (TrimRefused (TrimOutstanding 1))
    ∷ None
    ∷ []
reads_and_trims_refused = refl

pub trims_refused_in_edition_one : map (refusal (ran (shape_in One M 1 0 1 1 2) (Crash 1 ∷ AskEvent 0 (Tail 0) ∷ [])))
    (TrimEvent 2 0 ∷ TrimEvent 1 9 ∷ TrimEvent 0 9 ∷ []) ≡ Some (NoNode 2) ∷ Some (Crashed 1) ∷ Some NoTrim ∷ []
trims_refused_in_edition_one = refl

pub trims_refused_unread : map (refusal (ran (shape_in Two M 1 0 1 1 1) [])) (TrimEvent 0 1 ∷ TrimEvent 0 0 ∷ []) ≡ Some (TrimRefused (Ahead 0)) ∷ None ∷ []
trims_refused_unread = refl
