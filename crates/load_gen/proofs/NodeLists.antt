-- The lists of nodes: how long they are, and which number stands where.
use Rattle.std.proofs.Common.{◌≡◌, ℕ, refl, [], ◌+◌, ◌*◌, ◌<◌, ◌≤◌, List, ◌∷◌, ◌++◌, length, length-append, sym, ap, ◌∙◌, arith}
use Rattle.std.specs.Prelude.{◌/◌, slice_index}
use Rattle.std.specs.List.{range_with_len}
use Rattle.std.proofs.Math.Nat.{div-lt_iff_lt-mul}
use Rattle.std.proofs.lemmas.List.{get_or_append_left, get_or-append-add}
use Rattle.std.proofs.lemmas.List.FromFn.{get_or-map-range_with_len, get_or-range_with_len, length-map-range_with_len, length-range_with_len}
use Rattle.view_config.specs.Nodes.{seq_id}
use Rattle.view_config.specs.Shape.{Dimensions}
use Rattle.view_config.specs.declared.nodes.TheConstants.{CONTROLLER}
use Rattle.load_gen.specs.Nodes.{all_nodes, seq_replicas, shard_numbered, shard_replicas}

-- what stands behind the first members of a list
behind : (xs ys : List ℕ) (n i : ℕ) → length xs ≡ n → slice_index (xs ++ ys) (n + i) ≡ slice_index ys i
behind xs ys n i long = ap (λ (m : ℕ). slice_index (xs ++ ys) (m + i)) (sym long) ∙ get_or-append-add xs ys i 0

module _ (shape : Dimensions) where
  pub length-shard_replicas : length (shard_replicas shape) ≡ shape.shards * shape.copies
  length-shard_replicas = length-map-range_with_len (shard_numbered shape) 0 (shape.shards * shape.copies)

  length-seq_replicas : length (seq_replicas shape) ≡ shape.seq + shape.spares
  length-seq_replicas = length-map-range_with_len seq_id 0 (shape.seq + shape.spares)

  pub length-all_nodes : length (all_nodes shape) ≡ shape.clients + 1 + shape.seq + shape.spares + length (shard_replicas shape)
  length-all_nodes =
      let whole = length-append (range_with_len 0 shape.clients) (CONTROLLER ∷ (seq_replicas shape ++ shard_replicas shape)) in
      let replicas = length-append (seq_replicas shape) (shard_replicas shape) in
      let clients = length-range_with_len 0 shape.clients in
      let seqs = length-seq_replicas in
      omega arith

  pub shard_among : (k : ℕ) → k < shape.shards * shape.copies → slice_index (shard_replicas shape) k ≡ shard_numbered shape k
  shard_among k few = get_or-map-range_with_len (shard_numbered shape) 0 (shape.shards * shape.copies) k k 0 few (omega arith)

  pub shard_row : (k : ℕ) → 1 ≤ shape.copies → k < shape.shards * shape.copies → k / shape.copies < shape.shards
  shard_row k some few = (div-lt_iff_lt-mul {k = shape.copies} {x = k} {y = shape.shards} (omega arith)).1 few

  pub client_at : (n : ℕ) → n < shape.clients → slice_index (all_nodes shape) n ≡ n
  client_at n few =
      get_or_append_left (range_with_len 0 shape.clients) (CONTROLLER ∷ (seq_replicas shape ++ shard_replicas shape)) 0 n (let long = length-range_with_len 0 shape.clients in omega arith)
      ∙ get_or-range_with_len 0 shape.clients n 0 few
      ∙ omega arith

  behind_clients : (i : ℕ) → slice_index (all_nodes shape) (shape.clients + i) ≡ slice_index (CONTROLLER ∷ (seq_replicas shape ++ shard_replicas shape)) i
  behind_clients i = behind (range_with_len 0 shape.clients) (CONTROLLER ∷ (seq_replicas shape ++ shard_replicas shape)) shape.clients i (length-range_with_len 0 shape.clients)

  pub controller_at : slice_index (all_nodes shape) shape.clients ≡ CONTROLLER
  controller_at =
      let here : shape.clients ≡ shape.clients + 0 = omega arith in
      ap (slice_index (all_nodes shape)) here ∙ behind_clients 0

  behind_controller : (i : ℕ) → slice_index (all_nodes shape) (shape.clients + 1 + i) ≡ slice_index (seq_replicas shape ++ shard_replicas shape) i
  behind_controller i =
      let here : shape.clients + 1 + i ≡ shape.clients + (1 + i) = omega arith in
      ap (slice_index (all_nodes shape)) here ∙ behind_clients (1 + i) ∙ behind (CONTROLLER ∷ []) (seq_replicas shape ++ shard_replicas shape) 1 i refl

  pub seq_among : (i : ℕ) → i < shape.seq + shape.spares → slice_index (all_nodes shape) (shape.clients + 1 + i) ≡ seq_id i
  seq_among i few =
      behind_controller i
      ∙ get_or_append_left (seq_replicas shape) (shard_replicas shape) 0 i (let long = length-seq_replicas in omega arith)
      ∙ get_or-map-range_with_len seq_id 0 (shape.seq + shape.spares) i i 0 few (omega arith)

  pub shard_behind : (k : ℕ) → slice_index (all_nodes shape) (shape.clients + 1 + (shape.seq + shape.spares + k)) ≡ slice_index (shard_replicas shape) k
  shard_behind k =
      behind_controller (shape.seq + shape.spares + k)
      ∙ behind (seq_replicas shape) (shard_replicas shape) (shape.seq + shape.spares) k length-seq_replicas
