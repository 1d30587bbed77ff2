use Rattle.std.specs.Prelude.{ℕ, suc, List, [], ◌∷◌, length, ◌==◌, if◌then◌else◌}
use Rattle.lazy_rules.specs.Flight.{Batch, Probe, has_placing, has_ordering, with_place, with_order, passed, passing, has_all, now_ordering, place_noted, has_later_probe, with_probe, is_finished, is_ready}
use Rattle.binder.specs.declared.batch.Batch.{Batch as Outline}
use Rattle.binder.specs.declared.batch.Progress.{Progress}
use Rattle.binder.specs.declared.batch.Progress.TheVariants.{Ignored, Waiting, Passed}
use Rattle.binder.specs.declared.probe.Probe.{Probe as Told}

-- what a leader has on its way: the batches, each of which so many shards and followers answer for,
-- and the reads that wait
pub record Binding : Type 0 where
  pub shards : ℕ
  pub followers : ℕ
  pub flight : List Batch
  pub probes : List Probe

-- nothing is on its way
abbrev pub first_binding : ℕ → ℕ → Binding
first_binding shards followers = record { shards = shards; followers = followers; flight = []; probes = [] }

-- a batch, and a waiting read, as callers and as the rules see it
abbrev pub outline : Batch → Outline
outline batch = record { from = batch.from; count = batch.count; ordering = batch.ordering }

abbrev pub probe_of : Told → Probe
probe_of probe = record { client = probe.client; read = probe.read; target = probe.target }

-- the answer of a shard where a batch ends here that is being placed: it is noted, and then the
-- batches pass that can
abbrev pub placed_flight : ℕ → List Batch → ℕ → ℕ → List Batch
placed_flight shards flight shard upto =
    if has_placing flight upto then passed shards (with_place flight shard upto) else flight

-- what it led to: so many batches passed, or none
abbrev pub progress_of : ℕ → Progress
progress_of count = if count == 0 then Waiting else Passed count

abbrev pub placed_progress : ℕ → List Batch → ℕ → ℕ → Progress
placed_progress shards flight shard upto =
    if has_placing flight upto then progress_of (length (passing shards (with_place flight shard upto))) else Ignored

-- the answer of a follower where a batch ends here that is ordered: it is noted
abbrev pub ordered_flight : List Batch → ℕ → ℕ → List Batch
ordered_flight flight follower upto = if has_ordering flight upto then with_order flight follower upto else flight

abbrev pub ordered_progress : List Batch → ℕ → Progress
ordered_progress flight upto = if has_ordering flight upto then Waiting else Ignored

-- a read waits, where no read of its client as late does
abbrev pub probes_with : List Probe → Probe → List Probe
probes_with probes probe =
    if has_later_probe probes probe.client probe.read then probes else with_probe probes probe

-- the flight once its first batch has left, where it is finished
abbrev pub after_finish : ℕ → List Batch → List Batch
after_finish followers [] = []
after_finish followers (batch ∷ others) = if is_finished followers batch then others else batch ∷ others

-- the reads once the first that needn't wait has left
abbrev pub after_ready : ℕ → List Probe → List Probe
after_ready bound [] = []
after_ready bound (probe ∷ others) = if is_ready bound probe then others else probe ∷ after_ready bound others

-- a batch once this answer of a shard is noted, and once it has passed where it can
abbrev pub once_placed : ℕ → ℕ → ℕ → Batch → Batch
once_placed shards upto shard batch =
    if batch.ordering then batch
    else (if has_all shards (place_noted upto shard batch).placed then now_ordering (place_noted upto shard batch)
    else place_noted upto shard batch)

-- how many batches leave: the first ones, while they are finished
abbrev pub leaving : ℕ → List Batch → ℕ
leaving followers [] = 0
leaving followers (batch ∷ others) = if is_finished followers batch then suc (leaving followers others) else 0
