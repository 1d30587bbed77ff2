use Rattle.std.proofs.Common.{◌≡◌, length}
use Rattle.lazy_rules.specs.Rows.{followed}
use Rattle.shard_node.specs.Seated.{row_of, ends}
use Rattle.shard_node.proofs.draft.Draft.end_places.Given as goal

abbrev pub invariant-loop-job : goal.invariant-loop-job
invariant-loop-job l = record {
  seat : l.self.seat ≡ l.initial.self.seat;
  store : l.self.store ≡ l.initial.self.store;
  row : followed (row_of l.self) ends ≡ followed (row_of l.initial.self) ends;
}

abbrev pub decreases-loop-job : goal.decreases-loop-job
decreases-loop-job l = length l.self.jobs
