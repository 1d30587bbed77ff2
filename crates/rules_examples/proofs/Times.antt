use Rattle.std.proofs.Common.{◌≡◌, ℕ, List, [], ◌∷◌, ◌++◌, map, refl}
use Rattle.std.specs.Prelude.{slice_index}
use Rattle.rec_id.specs.declared.event.Ask.TheVariants.{Range, Tail}
use Rattle.view_config.specs.declared.edition.Edition.TheVariants.{One, Two}
use Rattle.view_config.specs.declared.edition.Mode.TheVariants.{M}
use Rattle.lazy_msgs.specs.declared.input.WorldEvent.{WorldEvent}
use Rattle.lazy_msgs.specs.declared.input.WorldEvent.TheVariants.{Post, Ask, Trim, Peek, Deliver, Tick, Grace, Crash, Suspect}
use Rattle.lazy_rules.specs.WorldState.{WorldState}
use Rattle.rules_examples.proofs.Shows.{shape_in, flow, ran}

-- The Lamport times of nodes and messages. Nodes 0 and 1 are the clients, 256 is the controller, 257 and 258
-- are the sequencing replicas, 264 is the first shard replica.

-- the times of these nodes
abbrev pub times_at : List ℕ → WorldState → List ℕ
times_at nodes w = map (slice_index w.times) nodes

-- the times of all messages, in the order in which they were sent
abbrev pub sending_times : WorldState → List ℕ
sending_times w = map (λ envelope. envelope.time) w.sent

-- an event that receives no message raises its node's time by one and no other's, a crash too, and one that
-- meets no row
pub one_more_without_a_message : map (λ event. times_at (0 ∷ 256 ∷ 257 ∷ 258 ∷ 264 ∷ []) (ran (shape_in Two M 2 0 1 2 1) (event ∷ [])))
    (Post 0 []
    ∷ Ask 0 (Tail 0)
    ∷ Trim 0 0
    ∷ Tick 0
    ∷ Tick 256
    ∷ Suspect 258
    ∷ Tick 257
    ∷ Crash 258
    ∷ Grace 264
    ∷ Crash 264
    ∷ []) ≡ (1 ∷ 0 ∷ 0 ∷ 0 ∷ 0 ∷ [])
    ∷ (1 ∷ 0 ∷ 0 ∷ 0 ∷ 0 ∷ [])
    ∷ (1 ∷ 0 ∷ 0 ∷ 0 ∷ 0 ∷ [])
    ∷ (1 ∷ 0 ∷ 0 ∷ 0 ∷ 0 ∷ [])
    ∷ (0 ∷ 1 ∷ 0 ∷ 0 ∷ 0 ∷ [])
    ∷ (0 ∷ 1 ∷ 0 ∷ 0 ∷ 0 ∷ [])
    ∷ (0 ∷ 0 ∷ 1 ∷ 0 ∷ 0 ∷ [])
    ∷ (0 ∷ 0 ∷ 0 ∷ 1 ∷ 0 ∷ [])
    ∷ (0 ∷ 0 ∷ 0 ∷ 0 ∷ 1 ∷ [])
    ∷ (0 ∷ 0 ∷ 0 ∷ 0 ∷ 1 ∷ [])
    ∷ []
one_more_without_a_message = refl

-- a delivery goes one past the greater of two times: 257 stands at 2 when a message of time 1 comes, client 0
-- at 1 when one of time 2 comes. A peek receives nothing: the claim, message 7, is of time 7
abbrev pub claim_peeked : List WorldEvent
claim_peeked = Post 0 (97 ∷ []) ∷ flow 1 2 ++ Deliver 1 ∷ Tick 257 ∷ flow 4 3 ++ Peek 1 7 0 1 ∷ []

pub greater_time_and_one_more : map (λ events. times_at (0 ∷ 1 ∷ 257 ∷ 264 ∷ []) (ran (shape_in One M 1 0 1 1 2) events))
    ((Post 0 (97 ∷ []) ∷ Deliver 1 ∷ [])
    ∷ (Post 0 (97 ∷ []) ∷ flow 1 2)
    ∷ (Post 0 (97 ∷ []) ∷ flow 1 2 ++ Deliver 1 ∷ [])
    ∷ claim_peeked
    ∷ []) ≡ (1 ∷ 0 ∷ 2 ∷ 0 ∷ [])
    ∷ (3 ∷ 0 ∷ 2 ∷ 0 ∷ [])
    ∷ (3 ∷ 0 ∷ 3 ∷ 0 ∷ [])
    ∷ (3 ∷ 1 ∷ 6 ∷ 7 ∷ [])
    ∷ []
greater_time_and_one_more = refl

-- then a read, and an append whose client asks for the view
abbrev pub read_and_view_asked : List WorldEvent
read_and_view_asked = claim_peeked ++ Ask 0 (Range 0 1) ∷ flow 8 2 ++ Post 1 [] ∷ Tick 1 ∷ flow 12 2

pub times_of_all_roles : times_at (0 ∷ 1 ∷ 256 ∷ 257 ∷ 264 ∷ []) (ran (shape_in One M 1 0 1 1 2) read_and_view_asked) ≡ 9 ∷ 5 ∷ 4 ∷ 6 ∷ 8 ∷ []
times_of_all_roles = refl

pub messages_carry_their_steps_times : sending_times (ran (shape_in One M 1 0 1 1 2) read_and_view_asked) ≡ 1 ∷ 2 ∷ 3 ∷ 4 ∷ 5 ∷ 6 ∷ 7 ∷ 4 ∷ 8 ∷ 2 ∷ 3 ∷ 3 ∷ 4 ∷ []
messages_carry_their_steps_times = refl
