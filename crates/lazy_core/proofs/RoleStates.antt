-- Each node of the shape has a state in a world of which all is known.
use Rattle.std.proofs.Common.{◌≡◌, ℕ, ◌+◌, ◌<◌, List, Option, Some, sym, ap, ◌∙◌, arith}
use Rattle.std.specs.Prelude.{slice_get, slice_set}
use Rattle.list_facts.proofs.Places.{below_at}
use Rattle.lazy_msgs.specs.Step.{Row}
use Rattle.lazy_rules.specs.ClientNode.{ClientNode, in_appends, in_reads}
use Rattle.lazy_rules.specs.ClientState.{ClientState}
use Rattle.lazy_rules.specs.ReaderState.{ReaderState}
use Rattle.lazy_rules.specs.SeqState.{SeqState}
use Rattle.lazy_rules.specs.ShardState.{ShardState}
use Rattle.lazy_rules.specs.WorldRules.{client_did, client_node, client_node_did, halves, reader_did, stepped}
use Rattle.lazy_rules.specs.WorldState.{WorldState, shard_place}
use Rattle.world_facts.proofs.Lists.{place_below, set_same}
use Rattle.lazy_core.specs.NodeStep.{halves_of}
use Rattle.lazy_core.specs.Turning.{IsKnown}

-- both halves of a client, in a world
pub record HasHalves (w : WorldState) (c : ℕ) : Type 0 where
  pub appends : ClientState
  pub reads : ReaderState
  pub as_client : slice_get w.clients c ≡ Some appends
  pub as_reader : slice_get w.readers c ≡ Some reads

module _ (w : WorldState) (known : IsKnown w) where
  pub halves_at : (c : ℕ) → c < w.shape.clients → HasHalves w c
  halves_at c few =
      let clients = known.form.clients in
      let readers = known.form.readers in
      let client = below_at w.clients c (omega arith) in
      let reader = below_at w.readers c (omega arith) in
      record { appends = client.0; reads = reader.0; as_client = client.1; as_reader = reader.1 }

  pub seq_at : (i : ℕ) → i < w.shape.seq + w.shape.spares → (s : SeqState) × (slice_get w.seqs i ≡ Some s)
  seq_at i few = let counted = known.form.seqs in below_at w.seqs i (omega arith)

  pub shard_at : (i j : ℕ) → i < w.shape.shards → j < w.shape.copies → (s : ShardState) × (slice_get w.shards (shard_place w.shape i j) ≡ Some s)
  shard_at i j row column =
      let counted = known.form.shards in
      let below = place_below w.shape.shards w.shape.copies i j row column in
      below_at w.shards (shard_place w.shape i j) (omega arith)

module _ (w : WorldState) (c : ℕ) (h : HasHalves w c) where
  abbrev pub node : ClientNode
  node = halves_of h.appends h.reads

  pub node_here : client_node w c ≡ Some node
  node_here = ap (λ (o : Option ClientState). halves o (slice_get w.readers c)) h.as_client ∙ ap (halves (Some h.appends)) h.as_reader

  -- a step of one half is one of both
  pub appends_did : (time : ℕ) (row : Row ClientState) → client_did w c time row ≡ client_node_did w c time (in_appends node row)
  appends_did time row = ap (λ (rs : List ReaderState). stepped (record w { clients = slice_set w.clients c row.next; readers = rs }) c time row.sends row.events) (sym (set_same w.readers c h.reads h.as_reader))

  pub reads_did : (time : ℕ) (row : Row ReaderState) → reader_did w c time row ≡ client_node_did w c time (in_reads node row)
  reads_did time row = ap (λ (cs : List ClientState). stepped (record w { clients = cs; readers = slice_set w.readers c row.next }) c time row.sends row.events) (sym (set_same w.clients c h.appends h.as_client))
