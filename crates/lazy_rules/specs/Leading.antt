use Rattle.std.specs.Prelude.{ℕ, zero, suc, ◌+◌, ◌-◌, min, List, [], ◌∷◌, ◌++◌, length, map, take, drop, flat_map, ◌&&◌, nat_lt, if◌then◌else◌}
use Rattle.rec_id.specs.declared.item.Item.{Item}
use Rattle.lazy_msgs.specs.declared.msg.Msg.{Msg}
use Rattle.lazy_msgs.specs.declared.msg.Msg.TheVariants.{Place, Order, Stable, TailReady}
use Rattle.lazy_msgs.specs.Step.{Row}
use Rattle.lazy_rules.specs.Flight.{Batch, Probe, flight_end, new_batch, lacks_place, lacks_order, passed, passing, is_finished, ready_probes, waiting_probes, waits_above}
use Rattle.lazy_rules.specs.Ids.{ids_of}
use Rattle.lazy_rules.specs.Items.{items_for}
use Rattle.lazy_rules.specs.Roles.{first_of, followers_of, replicas_of}
use Rattle.lazy_rules.specs.Rows.{stays, sends_all, followed, to_each, each_numbered}
use Rattle.lazy_rules.specs.SeqState.{SeqState}
use Rattle.lazy_msgs.specs.declared.limits.TheConstants.{BATCH_LIMIT}
use Rattle.lazy_rules.specs.declared.limits.TheConstants.{FLIGHT_LIMIT}

-- The parts of a leader's rows. Each takes the state that the part before it left.

-- the items of a batch
abbrev pub items_in : SeqState → Batch → List Item
items_in s batch = take batch.count (drop (batch.from - s.bound) s.pending)

-- a batch for the primaries that haven't answered for it
abbrev pub place_to : SeqState → Batch → ℕ → List ℕ → List (ℕ × Msg)
place_to s batch shard nodes =
    if lacks_place batch shard
    then to_each (first_of nodes) (Place s.view batch.from (items_for s.shape shard batch.from (items_in s batch)))
    else []

abbrev pub place_sends : SeqState → Batch → List (ℕ × Msg)
place_sends s batch = each_numbered (place_to s batch) 0 s.config.shards

-- the order of a batch for the followers that haven't answered for it
abbrev pub order_to : SeqState → Batch → ℕ → ℕ → List (ℕ × Msg)
order_to s batch i follower =
    if lacks_order batch i then (follower, Order s.view batch.from (ids_of (items_in s batch))) ∷ [] else []

abbrev pub order_sends : SeqState → Batch → List (ℕ × Msg)
order_sends s batch = each_numbered (order_to s batch) 0 (followers_of s.config)

-- a batch once more, for those whose answers are awaited
abbrev pub resends : SeqState → Batch → List (ℕ × Msg)
resends s batch = if batch.ordering then order_sends s batch else place_sends s batch

-- BEGIN: the next items are a new batch, where there is room for one and there are such
abbrev pub behind : SeqState → List Item
behind s = drop (flight_end s.bound s.flight - s.bound) s.pending

abbrev pub next_batch : SeqState → Batch
next_batch s = new_batch (flight_end s.bound s.flight) (min BATCH_LIMIT (length (behind s)))

abbrev pub with_next : SeqState → SeqState
with_next s = record s { flight = s.flight ++ next_batch s ∷ [] }

abbrev pub begins : SeqState → Row SeqState
begins s =
    if nat_lt (length s.flight) FLIGHT_LIMIT && nat_lt 0 (length (behind s))
    then sends_all (with_next s) (place_sends s (next_batch s))
    else stays s

-- PASS: the batches that every primary answered for are ordered
abbrev pub with_passed : SeqState → SeqState
with_passed s = record s { flight = passed (length s.config.shards) s.flight }

abbrev pub passes : SeqState → Row SeqState
passes s = sends_all (with_passed s) (flat_map (order_sends s) (passing (length s.config.shards) s.flight))

-- FORCE: batches begin while there is room and a read waits for what is behind them
abbrev pub forcing : ℕ → SeqState → Row SeqState
forcing zero s = stays s
forcing (suc room) s =
    if waits_above s.probes (flight_end s.bound s.flight) then followed (begins s) (forcing room) else stays s

abbrev pub forces : SeqState → Row SeqState
forces s = forcing (FLIGHT_LIMIT - length s.flight) s

-- the first batch leaves the flight: its items are bound, and the reads that waited for no more are
-- answered
abbrev pub without_first : SeqState → Batch → List Batch → SeqState
without_first s batch others = record s {
  bound = s.bound + batch.count;
  pending = drop batch.count s.pending;
  flight = others;
  probes = waiting_probes (s.bound + batch.count) s.probes;
}

-- the bound position for all shard replicas
abbrev pub stable_sends : SeqState → ℕ → List (ℕ × Msg)
stable_sends s bound = to_each (replicas_of s.config) (Stable s.view bound)

abbrev pub ready_sends : SeqState → List Probe → List (ℕ × Msg)
ready_sends s probes = map (λ probe. (probe.client, TailReady s.view probe.read probe.target)) probes

abbrev pub leaves : SeqState → Batch → List Batch → Row SeqState
leaves s batch others =
    sends_all (without_first s batch others)
    (stable_sends s (s.bound + batch.count) ++ ready_sends s (ready_probes (s.bound + batch.count) s.probes))

-- FINISH: the first batches leave while every follower answered for them; where one left, FORCE
abbrev pub finishing : SeqState → List Batch → Row SeqState
finishing s [] = stays s
finishing s (batch ∷ others) =
    if is_finished (length (followers_of s.config)) batch
    then followed (leaves s batch others) (λ after. finishing after others)
    else stays s

abbrev pub finishes_from : SeqState → List Batch → Row SeqState
finishes_from s [] = stays s
finishes_from s (batch ∷ others) =
    if is_finished (length (followers_of s.config)) batch
    then followed (finishing s (batch ∷ others)) forces
    else stays s

abbrev pub finishes : SeqState → Row SeqState
finishes s = finishes_from s s.flight
