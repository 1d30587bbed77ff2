use Rattle.std.proofs.Common.{◌≡◌, [], ◌∷◌, Some, refl}
use Rattle.std.specs.Prelude.{replicate}
use Rattle.view_config.specs.declared.edition.Mode.TheVariants.{M}
use Rattle.lazy_msgs.specs.declared.msg.Msg.TheVariants.{Append, AppendAck, Place, Placed, Stable, Probe, ProbeAck}
use Rattle.lazy_rules.specs.SeqRules.{seq_took}
use Rattle.lazy_rules.specs.SeqState.{SeqState, first_seq}
use Rattle.rules_examples.proofs.Shows.{c#, shape_of, item, sends_of}

-- Rows of a sequencing replica. Node 257 is the first of them, 264 the first shard replica.

-- a batch begins for a read that waits for what is behind the flight alone: the record that came after the
-- read isn't sent, also where the read still waits for a batch that is on its way
pub forced_as_far_as_the_read : sends_of seq_took (first_seq (shape_of M 1 1 1 1) 0)
    ((0, Append 1 (c# 0 1) (Some (97 ∷ [])))
    ∷ (0, Probe 1 1)
    ∷ (0, Append 1 (c# 0 2) (Some (98 ∷ [])))
    ∷ (0, Probe 1 2)
    ∷ (0, Append 1 (c# 0 3) (Some (99 ∷ [])))
    ∷ (264, Placed 1 1)
    ∷ []) ≡ ((0, AppendAck 1 (c# 0 1)) ∷ [])
    ∷ ((0, ProbeAck 1 1) ∷ (264, Place 1 0 (item 0 1 97 ∷ [])) ∷ [])
    ∷ ((0, AppendAck 1 (c# 0 2)) ∷ [])
    ∷ ((0, ProbeAck 1 2) ∷ (264, Place 1 1 (item 0 2 98 ∷ [])) ∷ [])
    ∷ ((0, AppendAck 1 (c# 0 3)) ∷ [])
    ∷ ((264, Stable 1 1) ∷ [])
    ∷ []
forced_as_far_as_the_read = refl

-- a replica with room for one item more
abbrev pub nearly_full : SeqState
nearly_full = record (first_seq (shape_of M 1 1 1 1) 0) { pending = replicate 4095 (item 0 1 97) }

pub full_at_4096 : sends_of seq_took nearly_full
    ((0, Append 1 (c# 0 2) (Some (98 ∷ []))) ∷ (0, Append 1 (c# 0 3) (Some (99 ∷ []))) ∷ []) ≡ ((0, AppendAck 1 (c# 0 2)) ∷ [])
    ∷ []
    ∷ []
full_at_4096 = refl
