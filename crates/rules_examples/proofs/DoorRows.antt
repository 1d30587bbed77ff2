use Rattle.std.proofs.Common.{◌≡◌, [], ◌∷◌, Some, refl}
use Rattle.view_config.specs.declared.edition.Mode.TheVariants.{M}
use Rattle.lazy_msgs.specs.declared.msg.Msg.TheVariants.{Append, AppendAck, Stable, Probe, ProbeAck, NewView, Started}
use Rattle.lazy_rules.specs.SeqRules.{seq_took}
use Rattle.lazy_rules.specs.SeqState.{first_seq}
use Rattle.rules_examples.proofs.Shows.{c#, shape_of, sends_of}
use Rattle.rules_examples.proofs.Views.{with_spare, second_view}

-- What is turned away at the door. Node 256 is the controller, 257 a sequencing replica, 264 a shard replica.

-- a probe of a node that is no client
pub probes_of_clients_alone : sends_of seq_took (first_seq (shape_of M 2 1 1 1) 1)
    ((256, Probe 1 1) ∷ (257, Probe 1 1) ∷ (264, Probe 1 1) ∷ (0, Probe 1 1) ∷ []) ≡ []
    ∷ []
    ∷ []
    ∷ ((0, ProbeAck 1 1) ∷ [])
    ∷ []
probes_of_clients_alone = refl

-- a record of a client that isn't there
pub records_of_clients_alone : sends_of seq_took (first_seq (shape_of M 1 1 1 1) 0)
    ((0, Append 1 (c# 1 1) (Some (97 ∷ []))) ∷ (0, Append 1 (c# 0 1) (Some (97 ∷ []))) ∷ []) ≡ []
    ∷ ((0, AppendAck 1 (c# 0 1)) ∷ [])
    ∷ []
records_of_clients_alone = refl

-- a window that lacks the mark of its greatest number
pub windows_with_their_greatest_mark : sends_of seq_took (first_seq with_spare 1)
    ((256, NewView second_view 0 (record { top = 1; bits = 0 ∷ 0 ∷ 0 ∷ 0 ∷ [] } ∷ []))
    ∷ (256, NewView second_view 0 (record { top = 1; bits = 1 ∷ 0 ∷ 0 ∷ 0 ∷ [] } ∷ []))
    ∷ []) ≡ []
    ∷ ((256, Started 2) ∷ (264, Stable 2 0) ∷ [])
    ∷ []
windows_with_their_greatest_mark = refl
