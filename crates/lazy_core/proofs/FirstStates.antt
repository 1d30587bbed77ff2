-- The states at first: each node stands at its place, and they are those of the first world.
use Rattle.std.proofs.Common.{◌≡◌, ℕ, ◌+◌, ◌*◌, List, [], ◌∷◌, ◌++◌, length, map, replicate, refl, ap, ◌∙◌, subst}
use Rattle.std.specs.List.{range_with_len}
use Rattle.std.proofs.lemmas.List.FromFn.{length-range_with_len}
use Rattle.view_config.specs.Shape.{Dimensions}
use Rattle.lazy_rules.specs.ClientState.{ClientState, first_client}
use Rattle.lazy_rules.specs.ControlState.{ControlState, first_control}
use Rattle.lazy_rules.specs.ReaderState.{ReaderState, first_reader}
use Rattle.lazy_rules.specs.SeqState.{SeqState, first_seq}
use Rattle.lazy_rules.specs.ShardState.{ShardState}
use Rattle.lazy_rules.specs.WorldState.{WorldState, first_shard_at, first_world}
use Rattle.view_config.specs.Nodes.{node_count}
use Rattle.lazy_core.specs.Ledger.{LedgerState}
use Rattle.lazy_core.proofs.Entering.{with_ledger}
use Rattle.lazy_core.specs.declared.node_state.NodeState.{NodeState}
use Rattle.lazy_core.specs.declared.node_state.NodeState.TheVariants.{Seq, Shard, Client, Control}
use Rattle.lazy_core.specs.LinesOf.{bare}
use Rattle.lazy_core.specs.Standing.{AreNodes, AreSeqs, AreShards, IsLaid, Standing, first_states, world_of_standing}
use Rattle.lazy_core.proofs.NodePlaces.{roles_in, with_client, with_control, with_seq, with_shard}
use Rattle.lazy_core.proofs.Seats.{world_with}

module _ (client : ℕ → ClientState) (reader : ℕ → ReaderState) (control : ControlState) (seq : ℕ → SeqState) (shard : ℕ → ShardState) where
  abbrev shard_states : List ℕ → List NodeState
  shard_states zs = map (λ k. Shard (shard k)) zs

  abbrev seq_states : List ℕ → List ℕ → List NodeState
  seq_states ys zs = map (λ i. Seq (seq i)) ys ++ shard_states zs

  abbrev all_states : List ℕ → List ℕ → List ℕ → List NodeState
  all_states xs ys zs = map (λ c. Client (client c) (reader c)) xs ++ Control control ∷ seq_states ys zs

  shards_laid : (zs : List ℕ) → AreShards (length zs) (shard_states zs)
  shards_laid [] = tt
  shards_laid (z ∷ zs) = shards_laid zs

  seqs_laid : (ys zs : List ℕ) → AreSeqs (length ys) (length zs) (seq_states ys zs)
  seqs_laid [] zs = shards_laid zs
  seqs_laid (y ∷ ys) zs = seqs_laid ys zs

  all_laid : (xs ys zs : List ℕ) → AreNodes (length xs) (length ys) (length zs) (all_states xs ys zs)
  all_laid [] ys zs = seqs_laid ys zs
  all_laid (x ∷ xs) ys zs = all_laid xs ys zs

  module _ (none : ControlState) where
    shards_roles : (zs : List ℕ) → roles_in none (shard_states zs) ≡ record { clients = []; readers = []; control = none; seqs = []; shards = map shard zs }
    shards_roles [] = refl
    shards_roles (z ∷ zs) = ap (with_shard (shard z)) (shards_roles zs)

    seqs_roles : (ys zs : List ℕ) → roles_in none (seq_states ys zs) ≡ record { clients = []; readers = []; control = none; seqs = map seq ys; shards = map shard zs }
    seqs_roles [] zs = shards_roles zs
    seqs_roles (y ∷ ys) zs = ap (with_seq (seq y)) (seqs_roles ys zs)

    all_roles : (xs ys zs : List ℕ) → roles_in none (all_states xs ys zs) ≡ record { clients = map client xs; readers = map reader xs; control = control; seqs = map seq ys; shards = map shard zs }
    all_roles [] ys zs = ap (with_control control) (seqs_roles ys zs)
    all_roles (x ∷ xs) ys zs = ap (with_client (client x) (reader x)) (all_roles xs ys zs)

module _ (shape : Dimensions) where
  abbrev clients : List ℕ
  clients = range_with_len 0 shape.clients

  abbrev seqs : List ℕ
  seqs = range_with_len 0 (shape.seq + shape.spares)

  abbrev shards : List ℕ
  shards = range_with_len 0 (shape.shards * shape.copies)

  pub first_laid : IsLaid shape (first_states shape)
  first_laid =
      subst (λ (n : ℕ). AreNodes n (shape.seq + shape.spares) (shape.shards * shape.copies) (first_states shape)) (length-range_with_len 0 shape.clients)
      (subst (λ (n : ℕ). AreNodes (length clients) n (shape.shards * shape.copies) (first_states shape)) (length-range_with_len 0 (shape.seq + shape.spares))
      (subst (λ (n : ℕ). AreNodes (length clients) (length seqs) n (first_states shape)) (length-range_with_len 0 (shape.shards * shape.copies))
      (all_laid (first_client shape) (first_reader shape) (first_control shape) (first_seq shape) (first_shard_at shape) clients seqs shards)))

  abbrev start : Standing
  start = record { shape = shape; states = first_states shape; crashed = [] }

  pub first_standing : world_of_standing start ≡ bare (first_world shape)
  first_standing =
      ap (world_with start) (all_roles (first_client shape) (first_reader shape) (first_control shape) (first_seq shape) (first_shard_at shape) (first_control shape) clients seqs shards)

  pub first_world_made : (s : Standing) (l : LedgerState) → s ≡ start → l.times ≡ replicate node_count 0 → l.sent ≡ [] → l.history ≡ [] → l.events ≡ 0 → with_ledger (world_of_standing s) l ≡ first_world shape
  first_world_made s l stands times sent history events =
      ap (λ (x : Standing). with_ledger (world_of_standing x) l) stands
      ∙ ap (λ (v : WorldState). with_ledger v l) first_standing
      ∙ rw (times, sent, history, events) refl
