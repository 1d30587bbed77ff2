use Rattle.std.proofs.Common.{◌≡◌, ◌≤◌}
use Rattle.std.specs.Prelude.{slice_range}
use Rattle.lazy_rules.specs.Store.{entries_from}
use Rattle.shard_store.proofs.store.ShardStore.part.Given as goal

abbrev pub invariant-loop-place : goal.invariant-loop-place
invariant-loop-place l = record {
  made : l.made ≡ entries_from l.from (slice_range l.self-inside.order.cells l.from l.place);
  still : l.to ≤ l.from → l.place ≡ l.from;
}
