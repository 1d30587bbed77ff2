-- The parts of every world are formed.
use Rattle.std.proofs.Common.{◌≡◌, ℕ, ◌<◌, Option, Some, None, slice_get, refl, sym, ◌∙◌, ap, subst}
use Rattle.std.specs.Prelude.{◌/◌, ◌%◌, unwrap_or}
use Rattle.std.proofs.lemmas.Nat.{div-mul-add, mod-mul-add}
use Rattle.view_config.specs.Config.{initial_config}
use Rattle.view_config.specs.Nodes.{seq_id, shard_id}
use Rattle.view_config.specs.Shape.{Dimensions, IsShape, node_of}
use Rattle.view_config.specs.declared.nodes.Node.{Node}
use Rattle.view_config.specs.declared.nodes.Node.TheVariants.{Client, Controller, Seq, Shard}
use Rattle.lazy_rules.specs.ClientState.{ClientState, first_client}
use Rattle.lazy_rules.specs.Holders.{seq_at}
use Rattle.lazy_rules.specs.Lines.{shard_at}
use Rattle.lazy_rules.specs.ReaderState.{ReaderState, first_reader}
use Rattle.lazy_rules.specs.SeqState.{SeqState}
use Rattle.lazy_rules.specs.ShardState.{ShardState}
use Rattle.lazy_rules.specs.WorldState.{WorldState, shard_place}
use Rattle.world_facts.specs.Forms.{HasForm}
use Rattle.world_facts.specs.Members.{IsNamed}
use Rattle.world_facts.specs.MembersOf.{ClientOf, HasMembers, ReaderOf, SeqOf, ShardOf}
use Rattle.world_facts.proofs.Nodes.{seq_is, shard_is}
use Rattle.world_facts.proofs.goes.All.{first_named}
use Rattle.log_facts.specs.Parts.{Formed, SeqFormed, ShardFormed, no_seq, no_shard, parts_of}

-- a replica of a place, and of a shard and a place there, is one of its number
pub seq_formed : (shape : Dimensions) (i node : ℕ) (s : SeqState) → node ≡ seq_id i → SeqOf shape i s → SeqFormed shape node s
seq_formed shape i node s is of = record { shaped = of.shaped; numbered = of.numbered ∙ sym is; config = of.config; probes = of.probes }

pub shard_formed : (shape : Dimensions) (i j node : ℕ) (s : ShardState) → node ≡ shard_id i j → ShardOf shape i j s → ShardFormed shape node s
shard_formed shape i j node s is of = record { shaped = of.shaped; numbered = of.numbered ∙ sym is; backups = of.backups; jobs = of.jobs; flush = of.flush }

module _ (shape : Dimensions) (formed : IsShape shape) (w : WorldState) (form : HasForm shape w) (members : HasMembers shape w) where
  client_of : (c : ℕ) (o : Option ClientState) → slice_get w.clients c ≡ o → ClientOf shape c (unwrap_or o (first_client w.shape c))
  client_of c None e = record { shaped = form.shaped; numbered = refl; config = subst (λ (d : Dimensions). IsNamed shape (initial_config d)) (sym form.shaped) (first_named shape formed) }
  client_of c (Some s) e = members.clients c s e

  reader_of : (c : ℕ) (o : Option ReaderState) → slice_get w.readers c ≡ o → ReaderOf shape c (unwrap_or o (first_reader w.shape c))
  reader_of c None e = record { shaped = form.shaped; numbered = refl; config = subst (λ (d : Dimensions). IsNamed shape (initial_config d)) (sym form.shaped) (first_named shape formed) }
  reader_of c (Some r) e = members.readers c r e

  no_seq_of : (node : ℕ) → SeqFormed shape node (no_seq w.shape node)
  no_seq_of node = record { shaped = form.shaped; numbered = refl; config = subst (λ (d : Dimensions). IsNamed shape (initial_config d)) (sym form.shaped) (first_named shape formed); probes = tt }

  no_shard_of : (node : ℕ) → ShardFormed shape node (no_shard w.shape node)
  no_shard_of node = record { shaped = form.shaped; numbered = refl; backups = tt; jobs = tt; flush = tt }

  seq_of : (node : ℕ) (o : Option Node) → node_of w.shape node ≡ o → SeqFormed shape node (unwrap_or (seq_at w o) (no_seq w.shape node))
  seq_of node (Some (Seq i)) e = by (slice_get w.seqs i) refl
    where
      by : (o : Option SeqState) → slice_get w.seqs i ≡ o → SeqFormed shape node (unwrap_or o (no_seq w.shape node))
      by None f = no_seq_of node
      by (Some s) f = seq_formed shape i node s (seq_is w.shape node i e).0 (members.seqs i s f)
  seq_of node (Some (Client c)) e = no_seq_of node
  seq_of node (Some Controller) e = no_seq_of node
  seq_of node (Some (Shard i j)) e = no_seq_of node
  seq_of node None e = no_seq_of node

  -- the replica that stands at a shard's place
  pub shard_there : (i j : ℕ) → j < w.shape.copies → (s : ShardState) → slice_get w.shards (shard_place w.shape i j) ≡ Some s → ShardOf shape i j s
  shard_there i j few s f =
      let of = members.shards (shard_place w.shape i j) s f in
      let copies : shape.copies ≡ w.shape.copies = ap (λ (d : Dimensions). d.copies) (sym form.shaped) in
      let row : shard_place w.shape i j / shape.copies ≡ i = ap (λ (n : ℕ). shard_place w.shape i j / n) copies ∙ div-mul-add i w.shape.copies j few in
      let column : shard_place w.shape i j % shape.copies ≡ j = ap (λ (n : ℕ). shard_place w.shape i j % n) copies ∙ mod-mul-add i w.shape.copies j few in
      subst (λ (n : ℕ). ShardOf shape i n s) column (subst (λ (n : ℕ). ShardOf shape n (shard_place w.shape i j % shape.copies) s) row of)

  shard_of_node : (node : ℕ) (o : Option Node) → node_of w.shape node ≡ o → ShardFormed shape node (unwrap_or (shard_at w o) (no_shard w.shape node))
  shard_of_node node (Some (Shard i j)) e = by (slice_get w.shards (shard_place w.shape i j)) refl
    where
      by : (o : Option ShardState) → slice_get w.shards (shard_place w.shape i j) ≡ o → ShardFormed shape node (unwrap_or o (no_shard w.shape node))
      by None f = no_shard_of node
      by (Some s) f = let k = shard_is w.shape node i j e in shard_formed shape i j node s k.0 (shard_there i j k.2 s f)
  shard_of_node node (Some (Client c)) e = no_shard_of node
  shard_of_node node (Some Controller) e = no_shard_of node
  shard_of_node node (Some (Seq i)) e = no_shard_of node
  shard_of_node node None e = no_shard_of node

  pub formed_of : Formed shape (parts_of w)
  formed_of = record {
    clients = λ c. client_of c (slice_get w.clients c) refl;
    readers = λ c. reader_of c (slice_get w.readers c) refl;
    control = members.control;
    seqs = λ node. seq_of node (node_of w.shape node) refl;
    shards = λ node. shard_of_node node (node_of w.shape node) refl;
  }
