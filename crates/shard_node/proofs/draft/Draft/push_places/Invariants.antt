use Rattle.std.proofs.Common.{◌≡◌, drop}
use Rattle.std.specs.List.{filter}
use Rattle.std.specs.Prelude.{nat_lt}
use Rattle.lazy_rules.specs.Rows.{followed}
use Rattle.lazy_rules.specs.Pushing.{pushes_places}
use Rattle.shard_node.specs.Seated.{row_of}
use Rattle.shard_node.proofs.draft.Draft.push_places.Given as goal

abbrev pub invariant-loop-job : goal.invariant-loop-job
invariant-loop-job l = record {
  seat : l.self.seat ≡ l.initial.self.seat;
  store : l.self.store ≡ l.initial.self.store;
  row : followed (row_of l.self) (λ s. pushes_places s (filter (λ job. nat_lt l.place job.end) (drop l.job-index l.jobs))) ≡ followed (row_of l.initial.self) (λ s. pushes_places s (filter (λ job. nat_lt l.place job.end) l.jobs));
}
