use Rattle.std.proofs.Common.{◌≡◌, List, ap, ◌∙◌}
use Rattle.std.specs.List.{filter}
use Rattle.std.specs.Prelude.{nat_lt}
use Rattle.std.specs.Option.{option_map_or}
use Rattle.lazy_msgs.specs.Step.{Row}
use Rattle.lazy_rules.specs.Rows.{stays, followed}
use Rattle.lazy_rules.specs.ShardState.{ShardState, PlaceJob}
use Rattle.lazy_rules.specs.Pushing.{pushes_places, pushes_flush}
use Rattle.shard_node.specs.Seated.{Drafted, row_of}
use Rattle.shard_node.proofs.Rows.{followed_twice}
use Rattle.shard_node.proofs.draft.Draft.push_above.Goals as goal

pub returns-clause-row : goal.returns-clause-row
returns-clause-row c =
    let before = row_of c.args.self.now in
    let flush = λ (s : ShardState). option_map_or (pushes_flush s) s.flush (stays s) in
    let push = λ (jobs : List PlaceJob) (s : ShardState). pushes_places s (filter (λ job. nat_lt c.args.place job.end) jobs) in
    let jobs : c.deref-2.result.now ≡ c.args.self.now.jobs =
    c.deref-2.ensures.value ∙ c.in_ok-jobs.ensures ∙ c.deref.ensures.value ∙ ap (λ (d : Drafted). d.jobs) c.self.view_is in
    c.in_ok-push_open_flush.ensures.row
    ∙ ap (λ (r : Row ShardState). followed r flush) (c.in_ok-push_places.ensures.row ∙ ap (λ (l : List PlaceJob). followed before (push l)) jobs)
    ∙ followed_twice before (push c.args.self.now.jobs) flush
