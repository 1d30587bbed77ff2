-- Where nobody crashes, no shard is lost.
use Rattle.std.proofs.Common.{◌≡◌, ℕ, ◌-◌, ◌≤◌, List, [], ◌∷◌, length, false, not, Option, Some, None, refl, sym, subst, ◌∙◌, arith}
use Rattle.std.specs.Prelude.{find, position, slice_get}
use Rattle.std.specs.Option.{is_none}
use Rattle.list_facts.specs.Lists.{Each}
use Rattle.list_facts.proofs.Members.{each_weaker}
use Rattle.list_facts.proofs.Places.{position_none}
use Rattle.rec_id.specs.declared.event.Ask.{Ask as AskOf}
use Rattle.view_config.specs.Shape.{Dimensions, node_of}
use Rattle.view_config.specs.declared.config.Config.{Config}
use Rattle.view_config.specs.declared.nodes.Node.{Node}
use Rattle.view_config.specs.declared.nodes.Node.TheVariants.{Client, Controller, Seq, Shard}
use Rattle.view_config.specs.declared.nodes.TheConstants.{FIRST_SHARD}
use Rattle.lazy_msgs.specs.declared.input.Input.{Input}
use Rattle.lazy_msgs.specs.declared.input.Input.TheVariants.{Tick as TickInput, Grace as GraceInput, Peek as PeekInput}
use Rattle.lazy_msgs.specs.declared.input.WorldEvent.{WorldEvent}
use Rattle.lazy_msgs.specs.declared.input.WorldEvent.TheVariants.{Post, Ask, Trim, Peek, Deliver, Tick, Grace, Crash, Suspect}
use Rattle.lazy_msgs.specs.declared.msg.Envelope.{Envelope}
use Rattle.lazy_msgs.specs.declared.refused.EventRefused.{EventRefused}
use Rattle.lazy_rules.specs.ClientNode.{Appends, Both, ClientNode, Half, Reads, half_of}
use Rattle.lazy_rules.specs.ClientState.{ClientState}
use Rattle.lazy_rules.specs.ControlState.{ControlState, Phase, Flushing, Running, Sealing, newest}
use Rattle.lazy_rules.specs.Lines.{first_alive, lost_shard}
use Rattle.lazy_rules.specs.ReaderState.{ReaderState}
use Rattle.lazy_rules.specs.Rows.{has_node}
use Rattle.lazy_rules.specs.SeqState.{SeqState}
use Rattle.lazy_rules.specs.ShardState.{ShardState}
use Rattle.lazy_rules.specs.WorldRules.{accepted, after, appends_received, asked, both_received, claimed, client_given, client_node, client_received, delivered, given, happened, ids_at, message_at, peeked, posted, reads_received, received, refusal, run, seq_given, seq_received, shard_given, shard_received, trimmed}
use Rattle.lazy_rules.specs.WorldState.{WorldState, first_world, shard_place}
use Rattle.world_facts.specs.Members.{IsGroup, IsNamed}
use Rattle.world_facts.specs.MembersOf.{PhaseNamed}
use Rattle.load_gen.specs.Loading.{IsCalm}

-- no event but a crash changes who is crashed
abbrev Same : WorldState → WorldState → Type 0
Same w next = next.crashed ≡ w.crashed

posted_same : (w : WorldState) (c : ℕ) (bytes : List ℕ) (client : Option ClientState) → Same w (posted w c bytes client)
posted_same w c bytes None = refl
posted_same w c bytes (Some client) = refl

appends_same : (w : WorldState) (c : ℕ) (envelope : Envelope) (client : Option ClientState) → Same w (appends_received w c envelope client)
appends_same w c envelope None = refl
appends_same w c envelope (Some client) = refl

reads_same : (w : WorldState) (c : ℕ) (envelope : Envelope) (reader : Option ReaderState) → Same w (reads_received w c envelope reader)
reads_same w c envelope None = refl
reads_same w c envelope (Some reader) = refl

both_same : (w : WorldState) (c : ℕ) (envelope : Envelope) (n : Option ClientNode) → Same w (both_received w c envelope n)
both_same w c envelope None = refl
both_same w c envelope (Some n) = refl

client_same : (w : WorldState) (c : ℕ) (envelope : Envelope) (half : Half) → Same w (client_received w c envelope half)
client_same w c envelope Appends = appends_same w c envelope (slice_get w.clients c)
client_same w c envelope Reads = reads_same w c envelope (slice_get w.readers c)
client_same w c envelope Both = both_same w c envelope (client_node w c)

seq_same : (w : WorldState) (i : ℕ) (envelope : Envelope) (seq : Option SeqState) → Same w (seq_received w i envelope seq)
seq_same w i envelope None = refl
seq_same w i envelope (Some seq) = refl

shard_same : (w : WorldState) (k : ℕ) (envelope : Envelope) (shard : Option ShardState) → Same w (shard_received w k envelope shard)
shard_same w k envelope None = refl
shard_same w k envelope (Some shard) = refl

received_same : (w : WorldState) (envelope : Envelope) (node : Option Node) → Same w (received w envelope node)
received_same w envelope None = refl
received_same w envelope (Some (Client c)) = client_same w c envelope (half_of envelope.msg)
received_same w envelope (Some (Seq i)) = seq_same w i envelope (slice_get w.seqs i)
received_same w envelope (Some (Shard i j)) = shard_same w (shard_place w.shape i j) envelope (slice_get w.shards (shard_place w.shape i j))
received_same w envelope (Some Controller) = refl

delivered_same : (w : WorldState) (envelope : Option Envelope) → Same w (delivered w envelope)
delivered_same w None = refl
delivered_same w (Some envelope) = received_same w envelope (node_of w.shape envelope.to)

client_given_same : (w : WorldState) (c : ℕ) (input : Input) (n : Option ClientNode) → Same w (client_given w c input n)
client_given_same w c input None = refl
client_given_same w c input (Some n) = refl

seq_given_same : (w : WorldState) (node i : ℕ) (input : Input) (seq : Option SeqState) → Same w (seq_given w node i input seq)
seq_given_same w node i input None = refl
seq_given_same w node i input (Some seq) = refl

shard_given_same : (w : WorldState) (node k : ℕ) (input : Input) (shard : Option ShardState) → Same w (shard_given w node k input shard)
shard_given_same w node k input None = refl
shard_given_same w node k input (Some shard) = refl

given_same : (w : WorldState) (node : ℕ) (input : Input) (role : Option Node) → Same w (given w node input role)
given_same w node input None = refl
given_same w node input (Some (Client c)) = client_given_same w c input (client_node w c)
given_same w node input (Some (Seq i)) = seq_given_same w node i input (slice_get w.seqs i)
given_same w node input (Some (Shard i j)) = shard_given_same w node (shard_place w.shape i j) input (slice_get w.shards (shard_place w.shape i j))
given_same w node input (Some Controller) = refl

peeked_same : (w : WorldState) (c from to : ℕ) (envelope : Option Envelope) → Same w (peeked w c from to envelope)
peeked_same w c from to None = refl
peeked_same w c from to (Some envelope) = client_given_same w c (PeekInput (claimed envelope.msg) envelope.time (envelope.from - FIRST_SHARD) from (ids_at w from to (node_of w.shape envelope.from))) (client_node w c)

asked_same : (w : WorldState) (c : ℕ) (ask : AskOf) (reader : Option ReaderState) → Same w (asked w c ask reader)
asked_same w c ask None = refl
asked_same w c ask (Some reader) = refl

trimmed_same : (w : WorldState) (c floor : ℕ) (reader : Option ReaderState) → Same w (trimmed w c floor reader)
trimmed_same w c floor None = refl
trimmed_same w c floor (Some reader) = refl

after_same : (w : WorldState) (event : WorldEvent) → IsCalm event → Same w (after w event)
after_same w (Post c bytes) calm = posted_same w c bytes (slice_get w.clients c)
after_same w (Deliver k) calm = delivered_same w (message_at w k)
after_same w (Ask c ask) calm = asked_same w c ask (slice_get w.readers c)
after_same w (Trim c floor) calm = trimmed_same w c floor (slice_get w.readers c)
after_same w (Peek c k from to) calm = peeked_same w c from to (message_at w k)
after_same w (Tick node) calm = given_same w node TickInput (node_of w.shape node)
after_same w (Grace node) calm = given_same w node GraceInput (node_of w.shape node)
after_same w (Suspect node) calm = refl
after_same w (Crash node) calm = absurd calm

happened_same : (w : WorldState) (event : WorldEvent) → IsCalm event → Same w (happened w event)
happened_same w event calm = by (refusal w event)
  where
    by : (reason : Option EventRefused) → Same w (accepted w event reason)
    by None = after_same w event calm
    by (Some refused) = refl

run_same : (events : List WorldEvent) (w : WorldState) → Each IsCalm events → Same w (run events w)
run_same [] w calm = refl
run_same (event ∷ events) w calm = run_same events (happened w event) calm.1 ∙ happened_same w event calm.0

-- some replica of each shard is alive then
alive_among : (nodes : List ℕ) → 1 ≤ length nodes → is_none (find (λ node. not (has_node [] node)) nodes) ≡ false
alive_among [] some = absurd (omega arith)
alive_among (node ∷ nodes) some = refl

module _ (w : WorldState) (none : w.crashed ≡ []) where
  alive : (nodes : List ℕ) → 1 ≤ length nodes → is_none (first_alive w nodes) ≡ false
  alive nodes some = subst (λ (crashed : List ℕ). is_none (find (λ node. not (has_node crashed node)) nodes) ≡ false) (sym none) (alive_among nodes some)

  named_spared : (shape : Dimensions) (config : Config) → IsNamed shape config → position (λ nodes. is_none (first_alive w nodes)) config.shards ≡ None
  named_spared shape config named =
      position_none (λ nodes. is_none (first_alive w nodes)) config.shards
      (each_weaker (IsGroup shape) (λ nodes. is_none (first_alive w nodes) ≡ false) (λ nodes group. alive nodes group.some) config.shards named.shards)

  spared : (shape : Dimensions) (k : ControlState) (phase : Phase) → PhaseNamed shape phase → position (λ nodes. is_none (first_alive w nodes)) (newest (record k { phase = phase })).shards ≡ None
  spared shape k (Running reign) named = named_spared shape reign.config named
  spared shape k (Sealing change) named = named_spared shape change.coming named.1
  spared shape k (Flushing taken) named = named_spared shape taken.config named

pub none_lost : (shape : Dimensions) (events : List WorldEvent) → Each IsCalm events → PhaseNamed shape (run events (first_world shape)).control.phase → lost_shard (run events (first_world shape)) ≡ None
none_lost shape events calm named =
    let w = run events (first_world shape) in
    spared w (run_same events (first_world shape) calm) shape w.control w.control.phase named
