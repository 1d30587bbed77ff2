use Rattle.std.proofs.Common.{◌≡◌, ℕ, List, [], ◌∷◌, Some, None, refl}
use Rattle.rec_id.specs.declared.item.Body.TheVariants.{Kept, Open}
use Rattle.view_config.specs.declared.config.Config.{Config}
use Rattle.view_config.specs.declared.edition.Edition.TheVariants.{One}
use Rattle.view_config.specs.declared.edition.Mode.TheVariants.{M, St}
use Rattle.view_config.specs.Shape.{Dimensions}
use Rattle.lazy_msgs.specs.declared.msg.Msg.TheVariants.{Append, AppendAck, Put, Place, Placed, Copy, Copied, Order, Stable, Probe, Claim, Flush, FlushCopy, Flushed, Seal, Sealed, SealedEmpty, NewView, Started}
use Rattle.lazy_rules.specs.SeqRules.{seq_took}
use Rattle.lazy_rules.specs.SeqState.{first_seq, empty_window}
use Rattle.lazy_rules.specs.ShardRules.{shard_took}
use Rattle.lazy_rules.specs.ShardState.{first_shard}
use Rattle.lazy_rules.specs.Windows.{marked_in}
use Rattle.rules_examples.proofs.Shows.{c#, shape_of, cell, item, sends_of, after_all, seq_shown, shard_shown}

-- Changes of view, step by step. Node 256 is the controller.

-- a shape with spares: two sequencing replicas, of which the second is a spare
abbrev pub with_spare : Dimensions
with_spare = record { edition = One; mode = M; seq = 1; spares = 1; shards = 1; copies = 1; clients = 1 }

abbrev pub second_view : Config
second_view = record { view = 2; seq = 258 ∷ []; shards = (264 ∷ []) ∷ [] }

-- a new replica takes appends up to the position limit
pub new_replica_at_the_position_limit : sends_of seq_took (first_seq with_spare 1)
    ((256, NewView second_view 61439 (empty_window with_spare))
    ∷ (0, Append 2 (c# 0 1) (Some []))
    ∷ (0, Append 2 (c# 0 2) (Some []))
    ∷ (0, Append 2 (c# 0 1) (Some []))
    ∷ []) ≡ ((256, Started 2) ∷ (264, Stable 2 61439) ∷ [])
    ∷ ((0, AppendAck 2 (c# 0 1)) ∷ [])
    ∷ []
    ∷ ((0, AppendAck 2 (c# 0 1)) ∷ [])
    ∷ []
new_replica_at_the_position_limit = refl

-- a sealed replica tells what it has, as often as it is asked, and takes nothing more
pub sealed_replica : sends_of seq_took (first_seq (shape_of M 2 1 1 1) 1)
    ((0, Append 1 (c# 0 1) (Some (97 ∷ []))) ∷ (256, Seal 1) ∷ (0, Append 1 (c# 0 2) (Some [])) ∷ (0, Probe 1 1) ∷ (257, Order 1 0 (c# 0 1 ∷ [])) ∷ (256, Seal 1) ∷ []) ≡ ((0, AppendAck 1 (c# 0 1)) ∷ [])
    ∷ ((256, Sealed 1 0 (marked_in (empty_window (shape_of M 2 1 1 1)) (c# 0 1)) (item 0 1 97 ∷ [])) ∷ [])
    ∷ []
    ∷ []
    ∷ []
    ∷ ((256, Sealed 1 0 (marked_in (empty_window (shape_of M 2 1 1 1)) (c# 0 1)) (item 0 1 97 ∷ [])) ∷ [])
    ∷ []
sealed_replica = refl

-- a view that a replica answered as never started it can't take any more, but later ones
pub barred_replica : sends_of seq_took (first_seq with_spare 1)
    ((256, Seal 2) ∷ (256, NewView second_view 0 (empty_window with_spare)) ∷ (256, NewView (record { view = 3; seq = 258 ∷ []; shards = (264 ∷ []) ∷ [] }) 0 (empty_window with_spare)) ∷ []) ≡ ((256, SealedEmpty 2) ∷ [])
    ∷ []
    ∷ ((256, Started 3) ∷ (264, Stable 3 0) ∷ [])
    ∷ []
barred_replica = refl

-- the greatest view that was so answered counts, and not the last one
pub barred_by_the_greatest_view : sends_of seq_took (first_seq with_spare 1)
    ((256, Seal 3) ∷ (256, Seal 2) ∷ (256, NewView (record { view = 3; seq = 258 ∷ []; shards = (264 ∷ []) ∷ [] }) 0 (empty_window with_spare)) ∷ []) ≡ ((256, SealedEmpty 3) ∷ [])
    ∷ ((256, SealedEmpty 2) ∷ [])
    ∷ []
    ∷ []
barred_by_the_greatest_view = refl

-- a replica of a new view knows what was known before, begins with nothing pending, and answers a
-- repeated start without starting again
pub known_in_a_new_view : sends_of seq_took (first_seq with_spare 1)
    ((256, NewView second_view 1 (marked_in (empty_window with_spare) (c# 0 1)))
    ∷ (0, Append 2 (c# 0 1) (Some []))
    ∷ (0, Append 2 (c# 0 2) (Some []))
    ∷ (256, NewView second_view 1 (empty_window with_spare))
    ∷ (0, Append 2 (c# 0 2) (Some []))
    ∷ []) ≡ ((256, Started 2) ∷ (264, Stable 2 1) ∷ [])
    ∷ ((0, AppendAck 2 (c# 0 1)) ∷ [])
    ∷ ((0, AppendAck 2 (c# 0 2)) ∷ [])
    ∷ ((256, Started 2) ∷ [])
    ∷ ((0, AppendAck 2 (c# 0 2)) ∷ [])
    ∷ []
known_in_a_new_view = refl

pub pending_in_a_new_view : seq_shown (after_all seq_took (first_seq with_spare 1)
    ((256, NewView second_view 1 (marked_in (empty_window with_spare) (c# 0 1)))
    ∷ (0, Append 2 (c# 0 1) (Some []))
    ∷ (0, Append 2 (c# 0 2) (Some (97 ∷ [])))
    ∷ (256, NewView second_view 1 (empty_window with_spare))
    ∷ [])) ≡ record { bound = 1; pending = item 0 2 97 ∷ [] }
pending_in_a_new_view = refl

-- a shard with two copies, and the view in which the second one alone is left
abbrev pub two_copies : Dimensions
two_copies = shape_of M 1 1 2 2

abbrev pub later_view : ℕ → List ℕ → Config
later_view view nodes = record { view = view; seq = 257 ∷ []; shards = nodes ∷ [] }

-- a flush replaces what isn't final; it is answered again without a second cut, and nothing of an
-- older view is taken after it
pub flushed_primary : sends_of shard_took (first_shard two_copies 0 0)
    ((257, Place 1 0 (item 1 1 98 ∷ item 0 1 97 ∷ []))
    ∷ (256, Flush (later_view 2 (264 ∷ [])) 0 (item 0 1 97 ∷ []))
    ∷ (257, Place 2 1 (item 0 2 99 ∷ []))
    ∷ (256, Flush (later_view 2 (264 ∷ [])) 0 (item 0 1 97 ∷ []))
    ∷ (257, Place 1 1 (item 1 1 98 ∷ []))
    ∷ []) ≡ ((265, Copy 1 0 (cell 1 1 (Kept (98 ∷ [])) ∷ cell 0 1 (Kept (97 ∷ [])) ∷ [])) ∷ [])
    ∷ ((256, Flushed 2) ∷ [])
    ∷ ((257, Placed 2 2) ∷ [])
    ∷ ((256, Flushed 2) ∷ [])
    ∷ []
    ∷ []
flushed_primary = refl

pub flushed_order : shard_shown (after_all shard_took (first_shard two_copies 0 0)
    ((257, Place 1 0 (item 1 1 98 ∷ item 0 1 97 ∷ []))
    ∷ (256, Flush (later_view 2 (264 ∷ [])) 0 (item 0 1 97 ∷ []))
    ∷ (257, Place 2 1 (item 0 2 99 ∷ []))
    ∷ (256, Flush (later_view 2 (264 ∷ [])) 0 (item 0 1 97 ∷ []))
    ∷ (257, Place 1 1 (item 1 1 98 ∷ []))
    ∷ [])) ≡ record { order = cell 0 1 (Kept (97 ∷ [])) ∷ cell 0 2 (Kept (99 ∷ [])) ∷ []; stable = 0 }
flushed_order = refl

-- what is final isn't cut off: a flush from below it is no row
pub no_flush_below_the_stable_place : sends_of shard_took (first_shard two_copies 0 1)
    ((264, Copy 1 0 (cell 0 1 (Kept (97 ∷ [])) ∷ []))
    ∷ (257, Stable 1 1)
    ∷ (256, Flush (later_view 2 (265 ∷ [])) 0 (item 1 1 98 ∷ []))
    ∷ (256, Flush (later_view 2 (265 ∷ [])) 1 (item 1 1 98 ∷ []))
    ∷ []) ≡ ((264, Copied 1 1) ∷ [])
    ∷ ((296, Claim 1) ∷ [])
    ∷ []
    ∷ ((256, Flushed 2) ∷ [])
    ∷ []
no_flush_below_the_stable_place = refl

-- a flush with a backup ends once the backup has it; what a backup answered in an older view is
-- forgotten
pub flush_with_a_backup : sends_of shard_took (first_shard two_copies 0 0)
    ((257, Place 1 0 (item 0 1 97 ∷ []))
    ∷ (265, Copied 1 1)
    ∷ (256, Flush (later_view 2 (264 ∷ 265 ∷ [])) 0 (item 0 1 97 ∷ []))
    ∷ (265, Copied 1 1)
    ∷ (256, Flush (later_view 2 (264 ∷ 265 ∷ [])) 0 (item 0 1 97 ∷ []))
    ∷ (265, Copied 2 1)
    ∷ (256, Flush (later_view 2 (264 ∷ 265 ∷ [])) 0 (item 0 1 97 ∷ []))
    ∷ []) ≡ ((265, Copy 1 0 (cell 0 1 (Kept (97 ∷ [])) ∷ [])) ∷ [])
    ∷ ((257, Placed 1 1) ∷ [])
    ∷ ((265, FlushCopy 2 0 (cell 0 1 (Kept (97 ∷ [])) ∷ [])) ∷ [])
    ∷ []
    ∷ ((265, FlushCopy 2 0 (cell 0 1 (Kept (97 ∷ [])) ∷ [])) ∷ [])
    ∷ ((256, Flushed 2) ∷ [])
    ∷ ((256, Flushed 2) ∷ [])
    ∷ []
flush_with_a_backup = refl

-- a backup that takes a flush cuts what it has from there on
pub flushed_backup : sends_of shard_took (first_shard two_copies 0 1)
    ((264, Copy 1 0 (cell 1 1 (Kept (98 ∷ [])) ∷ []))
    ∷ (264, FlushCopy 2 0 (cell 0 1 (Kept (97 ∷ [])) ∷ cell 1 1 (Kept (98 ∷ [])) ∷ []))
    ∷ (264, FlushCopy 2 0 (cell 0 1 (Kept (97 ∷ [])) ∷ cell 1 1 (Kept (98 ∷ [])) ∷ []))
    ∷ (264, Copy 1 0 (cell 1 1 (Kept (98 ∷ [])) ∷ []))
    ∷ (264, FlushCopy 3 3 [])
    ∷ []) ≡ ((264, Copied 1 1) ∷ []) ∷ ((264, Copied 2 2) ∷ []) ∷ ((264, Copied 2 2) ∷ []) ∷ [] ∷ [] ∷ []
flushed_backup = refl

-- where data comes by itself, what a flush cuts off is held again, and what was held is found
pub flushed_data : shard_shown (after_all shard_took (first_shard (shape_of St 1 1 2 1) 0 0)
    ((0, Put (c# 0 1) (97 ∷ []))
    ∷ (257, Place 1 0 (record { id = c# 0 1; bytes = None } ∷ record { id = c# 0 2; bytes = None } ∷ []))
    ∷ (256, Flush (later_view 2 (264 ∷ [])) 0 (record { id = c# 0 2; bytes = None } ∷ record { id = c# 0 1; bytes = None } ∷ []))
    ∷ [])) ≡ record { order = cell 0 2 Open ∷ cell 0 1 (Kept (97 ∷ [])) ∷ []; stable = 0 }
flushed_data = refl
