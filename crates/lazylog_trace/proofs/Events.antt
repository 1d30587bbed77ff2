-- What events do to the numbers, the history and the shape of a world.
use Rattle.std.proofs.Common.{◌≡◌, ℕ, ◌+◌, ◌-◌, List, [], ◌∷◌, ◌++◌, Option, Some, None, slice_get, refl, ap, sym, ◌∙◌, arith, length-append, append_assoc, append-nil, ◌≤◌}
use Rattle.view_config.specs.Shape.{node_of}
use Rattle.view_config.specs.declared.nodes.TheConstants.{FIRST_SHARD}
use Rattle.view_config.specs.declared.nodes.Node.{Node}
use Rattle.view_config.specs.declared.nodes.Node.TheVariants.{Client, Controller, Seq, Shard}
use Rattle.lazy_msgs.specs.declared.input.Input.{Input}
use Rattle.lazy_msgs.specs.declared.input.Input.TheVariants.{Tick as TickInput, Grace as GraceInput, Peek as PeekInput}
use Rattle.lazy_msgs.specs.declared.input.WorldEvent.{WorldEvent}
use Rattle.lazy_msgs.specs.declared.input.WorldEvent.TheVariants.{Post, Ask, Trim, Peek, Deliver, Tick, Grace}
use Rattle.lazy_msgs.specs.declared.msg.Envelope.{Envelope}
use Rattle.lazy_msgs.specs.declared.refused.EventRefused.{EventRefused}
use Rattle.rec_id.specs.declared.event.Ask.{Ask as AskOf}
use Rattle.rec_id.specs.declared.event.Event.{Event}
use Rattle.lazy_rules.specs.ClientNode.{ClientNode, Half, Appends, Reads, Both, half_of}
use Rattle.lazy_rules.specs.ClientState.{ClientState}
use Rattle.lazy_rules.specs.ReaderState.{ReaderState}
use Rattle.lazy_rules.specs.SeqState.{SeqState}
use Rattle.lazy_rules.specs.ShardState.{ShardState}
use Rattle.lazy_rules.specs.WorldState.{WorldState, shard_place}
use Rattle.lazy_rules.specs.WorldRules.{posted, asked, trimmed, client_node, appends_received, reads_received, both_received, client_received, seq_received, shard_received, client_given, seq_given, shard_given, given, peeked, claimed, ids_at, received, delivered, after, accepted, happened, refusal, message_at, run}
use Rattle.lazylog_trace.specs.Apply.{Advances}

-- what an event does: at most one more is counted, the history only grows, and the shape is the same
pub record Grows (w next : WorldState) : Type 0 where
  pub counted : next.events ≤ w.events + 1
  pub told : List Event
  pub grew : next.history ≡ w.history ++ told
  pub shaped : next.shape ≡ w.shape

stays_so : (w : WorldState) → Grows w w
stays_so w = record { counted = omega arith; told = []; grew = sym (append-nil w.history); shaped = refl }

posted_so : (w : WorldState) (c : ℕ) (bytes : List ℕ) (client : Option ClientState) → Grows w (posted w c bytes client)
posted_so w c bytes None = stays_so w
posted_so w c bytes (Some client) = record { counted = omega arith; told = _; grew = refl; shaped = refl }

appends_so : (w : WorldState) (c : ℕ) (envelope : Envelope) (client : Option ClientState) → Grows w (appends_received w c envelope client)
appends_so w c envelope None = stays_so w
appends_so w c envelope (Some client) = record { counted = omega arith; told = _; grew = refl; shaped = refl }

reads_so : (w : WorldState) (c : ℕ) (envelope : Envelope) (reader : Option ReaderState) → Grows w (reads_received w c envelope reader)
reads_so w c envelope None = stays_so w
reads_so w c envelope (Some reader) = record { counted = omega arith; told = _; grew = refl; shaped = refl }

both_so : (w : WorldState) (c : ℕ) (envelope : Envelope) (n : Option ClientNode) → Grows w (both_received w c envelope n)
both_so w c envelope None = stays_so w
both_so w c envelope (Some n) = record { counted = omega arith; told = _; grew = refl; shaped = refl }

client_so : (w : WorldState) (c : ℕ) (envelope : Envelope) (half : Half) → Grows w (client_received w c envelope half)
client_so w c envelope Appends = appends_so w c envelope (slice_get w.clients c)
client_so w c envelope Reads = reads_so w c envelope (slice_get w.readers c)
client_so w c envelope Both = both_so w c envelope (client_node w c)

seq_so : (w : WorldState) (i : ℕ) (envelope : Envelope) (seq : Option SeqState) → Grows w (seq_received w i envelope seq)
seq_so w i envelope None = stays_so w
seq_so w i envelope (Some seq) = record { counted = omega arith; told = _; grew = refl; shaped = refl }

shard_so : (w : WorldState) (k : ℕ) (envelope : Envelope) (shard : Option ShardState) → Grows w (shard_received w k envelope shard)
shard_so w k envelope None = stays_so w
shard_so w k envelope (Some shard) = record { counted = omega arith; told = _; grew = refl; shaped = refl }

received_so : (w : WorldState) (envelope : Envelope) (node : Option Node) → Grows w (received w envelope node)
received_so w envelope None = stays_so w
received_so w envelope (Some (Client c)) = client_so w c envelope (half_of envelope.msg)
received_so w envelope (Some (Seq i)) = seq_so w i envelope (slice_get w.seqs i)
received_so w envelope (Some (Shard i j)) = shard_so w (shard_place w.shape i j) envelope (slice_get w.shards (shard_place w.shape i j))
received_so w envelope (Some Controller) = record { counted = omega arith; told = _; grew = refl; shaped = refl }

delivered_so : (w : WorldState) (envelope : Option Envelope) → Grows w (delivered w envelope)
delivered_so w None = stays_so w
delivered_so w (Some envelope) = received_so w envelope (node_of w.shape envelope.to)

client_given_so : (w : WorldState) (c : ℕ) (input : Input) (n : Option ClientNode) → Grows w (client_given w c input n)
client_given_so w c input None = stays_so w
client_given_so w c input (Some n) = record { counted = omega arith; told = _; grew = refl; shaped = refl }

seq_given_so : (w : WorldState) (node i : ℕ) (input : Input) (seq : Option SeqState) → Grows w (seq_given w node i input seq)
seq_given_so w node i input None = stays_so w
seq_given_so w node i input (Some seq) = record { counted = omega arith; told = _; grew = refl; shaped = refl }

shard_given_so : (w : WorldState) (node k : ℕ) (input : Input) (shard : Option ShardState) → Grows w (shard_given w node k input shard)
shard_given_so w node k input None = stays_so w
shard_given_so w node k input (Some shard) = record { counted = omega arith; told = _; grew = refl; shaped = refl }

given_so : (w : WorldState) (node : ℕ) (input : Input) (role : Option Node) → Grows w (given w node input role)
given_so w node input None = stays_so w
given_so w node input (Some (Client c)) = client_given_so w c input (client_node w c)
given_so w node input (Some (Seq i)) = seq_given_so w node i input (slice_get w.seqs i)
given_so w node input (Some (Shard i j)) = shard_given_so w node (shard_place w.shape i j) input (slice_get w.shards (shard_place w.shape i j))
given_so w node input (Some Controller) = record { counted = omega arith; told = _; grew = refl; shaped = refl }

peeked_so : (w : WorldState) (c from to : ℕ) (envelope : Option Envelope) → Grows w (peeked w c from to envelope)
peeked_so w c from to None = stays_so w
peeked_so w c from to (Some envelope) = client_given_so w c (PeekInput (claimed envelope.msg) envelope.time (envelope.from - FIRST_SHARD) from (ids_at w from to (node_of w.shape envelope.from))) (client_node w c)

asked_so : (w : WorldState) (c : ℕ) (ask : AskOf) (reader : Option ReaderState) → Grows w (asked w c ask reader)
asked_so w c ask None = stays_so w
asked_so w c ask (Some reader) = record { counted = omega arith; told = _; grew = refl; shaped = refl }

trimmed_so : (w : WorldState) (c floor : ℕ) (reader : Option ReaderState) → Grows w (trimmed w c floor reader)
trimmed_so w c floor None = stays_so w
trimmed_so w c floor (Some reader) = record { counted = omega arith; told = _; grew = refl; shaped = refl }

grown : (w : WorldState) (event : WorldEvent) → Grows w (after w event)
grown w (Post c bytes) = posted_so w c bytes (slice_get w.clients c)
grown w (Deliver k) = delivered_so w (message_at w k)
grown w (Ask c ask) = asked_so w c ask (slice_get w.readers c)
grown w (Trim c floor) = trimmed_so w c floor (slice_get w.readers c)
grown w (Peek c k from to) = peeked_so w c from to (message_at w k)
grown w (Tick node) = given_so w node TickInput (node_of w.shape node)
grown w (Grace node) = given_so w node GraceInput (node_of w.shape node)
grown w _ = record { counted = omega arith; told = _; grew = refl; shaped = refl }

accepted_so : (w : WorldState) (event : WorldEvent) (refused : Option EventRefused) → Grows w (accepted w event refused)
accepted_so w event None = grown w event
accepted_so w event (Some refused) = stays_so w

pub happened_grows : (w : WorldState) (event : WorldEvent) → Grows w (happened w event)
happened_grows w event = accepted_so w event (refusal w event)

advances : (w next : WorldState) → Grows w next → Advances 1 w next
advances w next g = record { counted = g.counted; grew = rw g.grew (omega (arith, length-append w.history g.told)); shaped = g.shaped }

pub after_so : (w : WorldState) (event : WorldEvent) → Advances 1 w (after w event)
after_so w event = advances w (after w event) (grown w event)

-- one world further on than another
pub advanced_more : (first next most : ℕ) → first + next ≤ most → (w middle last : WorldState) → Advances first w middle → Advances next middle last → Advances most w last
advanced_more first next most fit w middle last a b =
    let counted = a.counted in
    let more = b.counted in
    let grew = a.grew in
    let further = b.grew in
    record { counted = omega arith; grew = omega arith; shaped = b.shaped ∙ a.shaped }

-- what a run tells
pub record Gained (w next : WorldState) : Type 0 where
  pub told : List Event
  pub grew : next.history ≡ w.history ++ told

pub run_gained : (events : List WorldEvent) (w : WorldState) → Gained w (run events w)
run_gained [] w = record { told = []; grew = sym (append-nil w.history) }
run_gained (event ∷ events) w =
    let first = happened_grows w event in
    let rest = run_gained events (happened w event) in
    record { told = first.told ++ rest.told; grew = rest.grew ∙ ap (λ (h : List Event). h ++ rest.told) first.grew ∙ append_assoc w.history first.told rest.told }
