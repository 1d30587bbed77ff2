use Rattle.std.specs.Prelude.{ℕ, ◌+◌, max, List, [], ◌∷◌, ◌++◌, map, filter, find, Bool, true, false, not, ◌&&◌, ◌==◌, nat_le, nat_lt, if◌then◌else◌, Option, Some, None}
use Rattle.std.specs.List.{list_all, list_any, range_with_len}
use Rattle.lazy_rules.specs.Rows.{has_node}

-- a batch on its way to its places: where it begins, how many items it has, whether the followers
-- are being told of it, and which shards and which followers answered for it
pub record Batch : Type 0 where
  pub from : ℕ
  pub count : ℕ
  pub ordering : Bool
  pub placed : List ℕ
  pub ordered : List ℕ

-- a read of a client that waits until this position is bound
pub record Probe : Type 0 where
  pub client : ℕ
  pub read : ℕ
  pub target : ℕ

-- where a batch ends
abbrev pub batch_end : Batch → ℕ
batch_end batch = batch.from + batch.count

-- where the flight ends whose first batch begins at this position
abbrev pub flight_end : ℕ → List Batch → ℕ
flight_end from [] = from
flight_end from (batch ∷ others) = flight_end (batch_end batch) others

-- a batch that nobody has answered for
abbrev pub new_batch : ℕ → ℕ → Batch
new_batch from count = record { from = from; count = count; ordering = false; placed = []; ordered = [] }

-- the flight with one batch more
abbrev pub with_batch : List Batch → ℕ → ℕ → List Batch
with_batch flight from count = flight ++ new_batch from count ∷ []

-- the batch lacks the answer of this shard's primary, and of this follower
abbrev pub lacks_place : Batch → ℕ → Bool
lacks_place batch shard = not (has_node batch.placed shard)

abbrev pub lacks_order : Batch → ℕ → Bool
lacks_order batch follower = not (has_node batch.ordered follower)

-- the answers with one more
abbrev pub answered_by : List ℕ → ℕ → List ℕ
answered_by answers i = if has_node answers i then answers else answers ++ i ∷ []

-- all of so many have answered
abbrev pub has_all : ℕ → List ℕ → Bool
has_all count answers = list_all (has_node answers) (range_with_len 0 count)

-- the batch ends here, and is being placed, or ordered
abbrev pub is_placing_to : ℕ → Batch → Bool
is_placing_to upto batch = not batch.ordering && batch_end batch == upto

abbrev pub is_ordering_to : ℕ → Batch → Bool
is_ordering_to upto batch = batch.ordering && batch_end batch == upto

abbrev pub has_placing : List Batch → ℕ → Bool
has_placing flight upto = list_any (is_placing_to upto) flight

abbrev pub has_ordering : List Batch → ℕ → Bool
has_ordering flight upto = list_any (is_ordering_to upto) flight

-- the answer of a shard's primary, or of a follower, is noted at the batch that ends here
abbrev pub place_noted : ℕ → ℕ → Batch → Batch
place_noted upto shard batch = if is_placing_to upto batch then record batch { placed = answered_by batch.placed shard } else batch

abbrev pub order_noted : ℕ → ℕ → Batch → Batch
order_noted upto follower batch =
    if is_ordering_to upto batch then record batch { ordered = answered_by batch.ordered follower } else batch

abbrev pub with_place : List Batch → ℕ → ℕ → List Batch
with_place flight shard upto = map (place_noted upto shard) flight

abbrev pub with_order : List Batch → ℕ → ℕ → List Batch
with_order flight follower upto = map (order_noted upto follower) flight

-- PASS: a batch that is being placed is to be ordered where every primary, one of each of so many
-- shards, answered for it and no batch before it is still being placed
abbrev pub now_ordering : Batch → Batch
now_ordering batch = record batch { ordering = true; ordered = [] }

abbrev pub passed : ℕ → List Batch → List Batch
passed shards [] = []
passed shards (batch ∷ others) =
    if batch.ordering then batch ∷ passed shards others
    else (if has_all shards batch.placed then now_ordering batch ∷ passed shards others
    else batch ∷ others)

-- the batches that pass
abbrev pub passing : ℕ → List Batch → List Batch
passing shards [] = []
passing shards (batch ∷ others) =
    if batch.ordering then passing shards others
    else (if has_all shards batch.placed then now_ordering batch ∷ passing shards others
    else [])

-- the batch is ordered: each of so many followers answered for it
abbrev pub is_finished : ℕ → Batch → Bool
is_finished followers batch = batch.ordering && has_all followers batch.ordered

-- the first batch, where it is finished
abbrev pub finish : ℕ → List Batch → Option Batch
finish followers [] = None
finish followers (batch ∷ others) = if is_finished followers batch then Some batch else None

-- a probe of this client waits, and one for this read of it or a later one
abbrev pub has_probe_of : List Probe → ℕ → Bool
has_probe_of probes client = list_any (λ probe. probe.client == client) probes

abbrev pub has_later_probe : List Probe → ℕ → ℕ → Bool
has_later_probe probes client read = list_any (λ probe. probe.client == client && nat_le read probe.read) probes

-- the probes with this one in place of its client's older one, or last
abbrev pub with_probe : List Probe → Probe → List Probe
with_probe probes probe =
    if has_probe_of probes probe.client then map (λ other. if other.client == probe.client then probe else other) probes
    else probes ++ probe ∷ []

-- the probe needn't wait any more
abbrev pub is_ready : ℕ → Probe → Bool
is_ready bound probe = nat_le probe.target bound

abbrev pub ready_probes : ℕ → List Probe → List Probe
ready_probes bound probes = filter (is_ready bound) probes

abbrev pub waiting_probes : ℕ → List Probe → List Probe
waiting_probes bound probes = filter (λ probe. not (is_ready bound probe)) probes

-- the first probe that needn't wait
abbrev pub ready : ℕ → List Probe → Option Probe
ready bound probes = find (is_ready bound) probes

-- a probe waits for more than this position
abbrev pub waits_above : List Probe → ℕ → Bool
waits_above probes position = list_any (λ probe. nat_lt position probe.target) probes

-- the greatest target that waits
abbrev pub greatest_from : ℕ → List Probe → ℕ
greatest_from target [] = target
greatest_from target (probe ∷ others) = greatest_from (max target probe.target) others

abbrev pub greatest : List Probe → Option ℕ
greatest [] = None
greatest (probe ∷ others) = Some (greatest_from probe.target others)
