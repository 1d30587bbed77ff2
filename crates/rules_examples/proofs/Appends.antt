use Rattle.std.proofs.Common.{◌≡◌, [], ◌∷◌, ◌++◌, refl}
use Rattle.rec_id.specs.declared.event.Event.TheVariants.{Invoke, Acked}
use Rattle.view_config.specs.declared.edition.Mode.TheVariants.{M}
use Rattle.lazy_msgs.specs.declared.input.WorldEvent.TheVariants.{Post, Deliver}
use Rattle.rules_examples.proofs.Shows.{c#, shape_of, item, flow, leads, no_seq, no_shard}

-- Appends, before anything is bound. A byte 97 is the letter a, 98 the letter b.

-- acknowledged unbound: three replicas have the record, and no shard replica was told of it
pub acknowledged_unbound : leads (shape_of M 3 1 1 1) (Post 0 (97 ∷ []) ∷ flow 1 6) ≡ record {
  history = Invoke (c# 0 1) (97 ∷ []) ∷ Acked (c# 0 1) ∷ [];
  messages = 6;
  events = 7;
  seqs = record { bound = 0; pending = item 0 1 97 ∷ [] }
      ∷ record { bound = 0; pending = item 0 1 97 ∷ [] }
      ∷ record { bound = 0; pending = item 0 1 97 ∷ [] }
      ∷ [];
  shards = no_shard ∷ [];
}
acknowledged_unbound = refl

-- an append delivered five times: one item, five acknowledgements
pub delivered_again : leads (shape_of M 3 1 1 1) (Post 0 (97 ∷ []) ∷ Deliver 1 ∷ Deliver 1 ∷ Deliver 1 ∷ Deliver 1 ∷ Deliver 1 ∷ []) ≡ record {
  history = Invoke (c# 0 1) (97 ∷ []) ∷ [];
  messages = 8;
  events = 6;
  seqs = record { bound = 0; pending = item 0 1 97 ∷ [] } ∷ no_seq ∷ no_seq ∷ [];
  shards = no_shard ∷ [];
}
delivered_again = refl

-- an append delivered again after a later one keeps its place
pub repeated_after_a_later_one : leads (shape_of M 2 1 1 2) (Post 0 (97 ∷ []) ∷ flow 1 4 ++ Post 1 (98 ∷ []) ∷ Deliver 6 ∷ Deliver 2 ∷ []) ≡ record {
  history = Invoke (c# 0 1) (97 ∷ []) ∷ Acked (c# 0 1) ∷ Invoke (c# 1 1) (98 ∷ []) ∷ [];
  messages = 8;
  events = 8;
  seqs = record { bound = 0; pending = item 0 1 97 ∷ [] }
      ∷ record { bound = 0; pending = item 0 1 97 ∷ item 1 1 98 ∷ [] }
      ∷ [];
  shards = no_shard ∷ [];
}
repeated_after_a_later_one = refl
