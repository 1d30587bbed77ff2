-- The nodes of a shape at first, by their numbers.
use Rattle.std.proofs.Common.{◌≡◌, ◌≢◌, ℕ, ◌+◌, ◌*◌, ◌<◌, map, Option, Some, None, slice_get, refl, sym, ◌∙◌, ap, subst, arith}
use Rattle.std.specs.Prelude.{◌/◌, ◌%◌, unwrap_or}
use Rattle.std.specs.List.{range_with_len}
use Rattle.std.proofs.lemmas.Nat.{div-mul-add, mod-mul-add}
use Rattle.std.proofs.lemmas.List.FromFn.{length-map-range_with_len}
use Rattle.list_facts.proofs.Places.{below_at}
use Rattle.world_facts.proofs.Lists.{made_at, place_below}
use Rattle.world_facts.proofs.Nodes.{seq_is, shard_is, seq_node_of, shard_node_at}
use Rattle.view_config.specs.Nodes.{seq_id, shard_id}
use Rattle.view_config.specs.Shape.{Dimensions, IsShape, node_of}
use Rattle.view_config.specs.declared.nodes.Node.{Node}
use Rattle.view_config.specs.declared.nodes.Node.TheVariants.{Client, Controller, Seq, Shard}
use Rattle.lazy_rules.specs.ClientState.{first_client}
use Rattle.lazy_rules.specs.Holders.{seq_at}
use Rattle.lazy_rules.specs.Lines.{shard_at}
use Rattle.lazy_rules.specs.ReaderState.{first_reader}
use Rattle.lazy_rules.specs.SeqState.{SeqState, first_seq}
use Rattle.lazy_rules.specs.ShardState.{ShardState, first_shard}
use Rattle.lazy_rules.specs.WorldState.{first_shard_at, first_world, shard_place}
use Rattle.log_facts.specs.Parts.{Parts, no_seq, no_shard, parts_of}

pub there_at : {A : Type 0} (f : ℕ → A) (n i : ℕ) → i < n → slice_get (map f (range_with_len 0 n)) i ≡ Some (f i)
there_at f n i lt =
    let long = length-map-range_with_len f 0 n in
    let found = below_at (map f (range_with_len 0 n)) i (omega arith) in
    found.1 ∙ ap Some (made_at f n i found.0 found.1).1

made_or : {A : Type 0} (f : ℕ → A) (n i : ℕ) → unwrap_or (slice_get (map f (range_with_len 0 n)) i) (f i) ≡ f i
made_or f n i = by (slice_get (map f (range_with_len 0 n)) i) refl
  where
    by : (o : Option _) → slice_get (map f (range_with_len 0 n)) i ≡ o → unwrap_or o (f i) ≡ f i
    by None e = refl
    by (Some x) e = (made_at f n i x e).1

module _ (shape : Dimensions) where
  abbrev pub a : Parts
  a = parts_of (first_world shape)

  pub client_first : (c : ℕ) → a.clients c ≡ first_client shape c
  client_first c = made_or (first_client shape) shape.clients c

  pub reader_first : (c : ℕ) → a.readers c ≡ first_reader shape c
  reader_first c = made_or (first_reader shape) shape.clients c

  -- what holds of each sequencing replica at first, and of none, holds of every number
  pub seq_first : (P : ℕ → SeqState → Type 0) → ((i : ℕ) → i < shape.seq + shape.spares → P (seq_id i) (first_seq shape i))
      → ((node : ℕ) → ((i : ℕ) → i < shape.seq + shape.spares → node ≢ seq_id i) → P node (no_seq shape node)) → IsShape shape → (node : ℕ) → P node (a.seqs node)
  seq_first P some none formed node = by (node_of shape node) refl
    where
      absent : (o : Option Node) → node_of shape node ≡ o → ((i : ℕ) → o ≢ Some (Seq i)) → P node (no_seq shape node)
      absent o e apart = none node (λ i there is. apart i (sym e ∙ ap (node_of shape) is ∙ seq_node_of shape formed i there))

      there : (i : ℕ) → node_of shape node ≡ Some (Seq i) → P node (unwrap_or (slice_get (first_world shape).seqs i) (no_seq shape node))
      there i e =
          let k = seq_is shape node i e in
          let is = there_at (first_seq shape) (shape.seq + shape.spares) i k.1 in
          subst (λ (o : Option SeqState). P node (unwrap_or o (no_seq shape node))) (sym is) (subst (λ (n : ℕ). P n (first_seq shape i)) (sym k.0) (some i k.1))

      by : (o : Option Node) → node_of shape node ≡ o → P node (unwrap_or (seq_at (first_world shape) o) (no_seq shape node))
      by None e = absent None e (λ i f. cc)
      by (Some (Client c)) e = absent (Some (Client c)) e (λ i f. cc)
      by (Some Controller) e = absent (Some Controller) e (λ i f. cc)
      by (Some (Shard i j)) e = absent (Some (Shard i j)) e (λ k f. cc)
      by (Some (Seq i)) e = there i e

  -- what holds of each shard replica at first, and of none, holds of every number
  pub shard_first : (P : ℕ → ShardState → Type 0) → ((i j : ℕ) → i < shape.shards → j < shape.copies → P (shard_id i j) (first_shard shape i j))
      → ((node : ℕ) → ((i j : ℕ) → i < shape.shards → j < shape.copies → node ≢ shard_id i j) → P node (no_shard shape node)) → IsShape shape → (node : ℕ) → P node (a.shards node)
  shard_first P some none formed node = by (node_of shape node) refl
    where
      absent : (o : Option Node) → node_of shape node ≡ o → ((i j : ℕ) → o ≢ Some (Shard i j)) → P node (no_shard shape node)
      absent o e apart = none node (λ i j row column is. apart i j (sym e ∙ ap (node_of shape) is ∙ shard_node_at shape formed i j row column))

      there : (i j : ℕ) → node_of shape node ≡ Some (Shard i j) → P node (unwrap_or (slice_get (first_world shape).shards (shard_place shape i j)) (no_shard shape node))
      there i j e =
          let k = shard_is shape node i j e in
          let below = place_below shape.shards shape.copies i j k.1 k.2 in
          let is = there_at (first_shard_at shape) (shape.shards * shape.copies) (shard_place shape i j) below in
          let row : (i * shape.copies + j) / shape.copies ≡ i = div-mul-add i shape.copies j k.2 in
          let column : (i * shape.copies + j) % shape.copies ≡ j = mod-mul-add i shape.copies j k.2 in
          let same : first_shard_at shape (shard_place shape i j) ≡ first_shard shape i j =
          ap (λ (n : ℕ). first_shard shape n ((i * shape.copies + j) % shape.copies)) row ∙ ap (first_shard shape i) column in
          subst (λ (o : Option ShardState). P node (unwrap_or o (no_shard shape node))) (sym (is ∙ ap Some same)) (subst (λ (n : ℕ). P n (first_shard shape i j)) (sym k.0) (some i j k.1 k.2))

      by : (o : Option Node) → node_of shape node ≡ o → P node (unwrap_or (shard_at (first_world shape) o) (no_shard shape node))
      by None e = absent None e (λ i j f. cc)
      by (Some (Client c)) e = absent (Some (Client c)) e (λ i j f. cc)
      by (Some Controller) e = absent (Some Controller) e (λ i j f. cc)
      by (Some (Seq k)) e = absent (Some (Seq k)) e (λ i j f. cc)
      by (Some (Shard i j)) e = there i j e
