use Rattle.std.proofs.Common.{◌≡◌, ◌<◌, ℕ, [], false, get_or, map, take}
use Rattle.std.specs.Option.{is_none}
use Rattle.lazy_rules.specs.Lines.{first_alive, first_store}
use Rattle.lazy_core.specs.LinesOf.{stores_at}
use Rattle.lazy_core.specs.Standing.{world_of_standing}
use Rattle.lazy_core.proofs.snapshot.Snapshot.first_replicas.Given as goal

abbrev pub invariant-loop-shard : goal.invariant-loop-shard
invariant-loop-shard l = record {
  stores : map (first_store (world_of_standing l.self)) (take l.shard l.shards) ≡ stores_at (world_of_standing l.self) l.first;
  kept : (k : ℕ) → k < l.shard → is_none (first_alive (world_of_standing l.self) (get_or l.shards k [])) ≡ false;
}
