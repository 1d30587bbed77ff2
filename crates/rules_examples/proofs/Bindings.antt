use Rattle.std.proofs.Common.{◌≡◌, [], ◌∷◌, ◌++◌, map, refl}
use Rattle.std.specs.Prelude.{replicate}
use Rattle.std.specs.List.{range_with_len}
use Rattle.rec_id.specs.declared.event.Event.TheVariants.{Invoke, Acked, Rejected as RejectedEvent}
use Rattle.rec_id.specs.declared.item.Body.TheVariants.{Kept, Noop}
use Rattle.view_config.specs.declared.edition.Mode.TheVariants.{M, St}
use Rattle.lazy_msgs.specs.declared.input.WorldEvent.TheVariants.{Post, Deliver, Tick, Grace}
use Rattle.lazy_msgs.specs.declared.msg.Msg.TheVariants.{Placed, Copied, Ordered, Order, Copy, Stable, Claim, Rejected}
use Rattle.rules_examples.proofs.Shows.{c#, shape_of, cell, item, flow, leads, tells}

-- Appends that are bound. Node 257 is the first sequencing replica, 264 the first shard replica.

-- all three phases within one view: nothing is pending any more, and the place is final
pub bound_within_one_view : leads (shape_of M 3 1 1 1) (Post 0 (97 ∷ []) ∷ flow 1 6 ++ Tick 257 ∷ flow 7 8) ≡ record {
  history = Invoke (c# 0 1) (97 ∷ []) ∷ Acked (c# 0 1) ∷ [];
  messages = 14;
  events = 15;
  seqs = record { bound = 1; pending = [] } ∷ record { bound = 1; pending = [] } ∷ record { bound = 1; pending = [] } ∷ [];
  shards = record { order = cell 0 1 (Kept (97 ∷ [])) ∷ []; stable = 1 } ∷ [];
}
bound_within_one_view = refl

-- with one follower's answer missing nothing is stable
pub not_stable_before_every_answer : tells (shape_of M 3 1 1 1) (Post 0 (97 ∷ []) ∷ flow 1 6 ++ Tick 257 ∷ flow 7 5) 10 ≡ record {
  shown = record {
    history = Invoke (c# 0 1) (97 ∷ []) ∷ Acked (c# 0 1) ∷ [];
    messages = 12;
    events = 13;
    seqs = record { bound = 0; pending = item 0 1 97 ∷ [] } ∷ record { bound = 1; pending = [] } ∷ record { bound = 1; pending = [] } ∷ [];
    shards = record { order = cell 0 1 (Kept (97 ∷ [])) ∷ []; stable = 0 } ∷ [];
  };
  later = Ordered 1 1 ∷ Ordered 1 1 ∷ [];
}
not_stable_before_every_answer = refl

-- a Place delivered again: the backup gets a second Copy, answers both and keeps one cell
pub placed_again : tells (shape_of M 2 1 2 1) (Post 0 (97 ∷ []) ∷ flow 1 4 ++ Tick 257 ∷ Deliver 5 ∷ flow 5 10) 5 ≡ record {
  shown = record {
    history = Invoke (c# 0 1) (97 ∷ []) ∷ Acked (c# 0 1) ∷ [];
    messages = 16;
    events = 17;
    seqs = record { bound = 1; pending = [] } ∷ record { bound = 1; pending = [] } ∷ [];
    shards = record { order = cell 0 1 (Kept (97 ∷ [])) ∷ []; stable = 1 }
        ∷ record { order = cell 0 1 (Kept (97 ∷ [])) ∷ []; stable = 1 }
        ∷ [];
  };
  later = Copy 1 0 (cell 0 1 (Kept (97 ∷ [])) ∷ [])
      ∷ Copy 1 0 (cell 0 1 (Kept (97 ∷ [])) ∷ [])
      ∷ Copied 1 1
      ∷ Copied 1 1
      ∷ Placed 1 1
      ∷ Order 1 0 (c# 0 1 ∷ [])
      ∷ Ordered 1 1
      ∷ Stable 1 1
      ∷ Stable 1 1
      ∷ Claim 1
      ∷ Claim 1
      ∷ [];
}
placed_again = refl

-- two replicas know two records in opposite orders; the leader's is bound
pub opposite_orders : leads (shape_of M 2 1 1 2) (Post 0 (97 ∷ []) ∷ Post 1 (98 ∷ []) ∷ Deliver 3 ∷ Deliver 1 ∷ Deliver 2 ∷ Deliver 4 ∷ []) ≡ record {
  history = Invoke (c# 0 1) (97 ∷ []) ∷ Invoke (c# 1 1) (98 ∷ []) ∷ [];
  messages = 8;
  events = 6;
  seqs = record { bound = 0; pending = item 1 1 98 ∷ item 0 1 97 ∷ [] }
      ∷ record { bound = 0; pending = item 0 1 97 ∷ item 1 1 98 ∷ [] }
      ∷ [];
  shards = record { order = []; stable = 0 } ∷ [];
}
opposite_orders = refl

pub opposite_orders_bound : leads (shape_of M 2 1 1 2) (Post 0 (97 ∷ []) ∷ Post 1 (98 ∷ []) ∷ Deliver 3 ∷ Deliver 1 ∷ Deliver 2 ∷ Deliver 4 ∷ flow 5 4 ++ Tick 257 ∷ flow 9 6) ≡ record {
  history = Invoke (c# 0 1) (97 ∷ []) ∷ Invoke (c# 1 1) (98 ∷ []) ∷ Acked (c# 0 1) ∷ Acked (c# 1 1) ∷ [];
  messages = 14;
  events = 16;
  seqs = record { bound = 2; pending = [] } ∷ record { bound = 2; pending = [] } ∷ [];
  shards = record { order = cell 1 1 (Kept (98 ∷ [])) ∷ cell 0 1 (Kept (97 ∷ [])) ∷ []; stable = 2 } ∷ [];
}
opposite_orders_bound = refl

-- two batches on their way at once: the second is answered first, and both leave with the first
pub two_batches_in_flight : tells (shape_of M 1 1 1 1) (replicate 65 (Post 0 []) ++ flow 1 65 ++ Tick 257 ∷ Tick 257 ∷ Deliver 131 ∷ Deliver 133 ∷ Deliver 135 ∷ Deliver 134 ∷ Deliver 137 ∷ []) 133 ≡ record {
  shown = record {
    history = map (λ n. Invoke (c# 0 n) []) (range_with_len 1 65);
    messages = 138;
    events = 137;
    seqs = record { bound = 65; pending = [] } ∷ [];
    shards = record { order = map (λ n. cell 0 n (Kept [])) (range_with_len 1 65); stable = 65 } ∷ [];
  };
  later = Placed 1 64 ∷ Placed 1 65 ∷ Stable 1 64 ∷ Stable 1 65 ∷ Claim 65 ∷ [];
}
two_batches_in_flight = refl

-- data that never came in time: the place is a no-op, and once it is final the append is rejected
pub stable_noop : tells (shape_of St 1 1 1 1) (Post 0 (97 ∷ []) ∷ Deliver 2 ∷ Tick 257 ∷ Deliver 4 ∷ Grace 264 ∷ flow 5 2 ++ Deliver 1 ∷ Deliver 8 ∷ []) 4 ≡ record {
  shown = record {
    history = Invoke (c# 0 1) (97 ∷ []) ∷ RejectedEvent (c# 0 1) 0 ∷ [];
    messages = 8;
    events = 9;
    seqs = record { bound = 1; pending = [] } ∷ [];
    shards = record { order = cell 0 1 Noop ∷ []; stable = 1 } ∷ [];
  };
  later = Placed 1 1 ∷ Stable 1 1 ∷ Claim 1 ∷ Rejected (c# 0 1) 0 ∷ [];
}
stable_noop = refl
