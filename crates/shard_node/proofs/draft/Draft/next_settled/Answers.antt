use Rattle.std.proofs.Common.{List, sym, ap, ◌∙◌}
use Rattle.std.specs.List.{slice_get}
use Rattle.lazy_rules.specs.Pushing.{is_settled}
use Rattle.lazy_rules.specs.ShardState.{PlaceJob}
use Rattle.shard_node.specs.Seated.{Drafted, seated}
use Rattle.shard_node.proofs.Rows.{no_first, not_first}
use Rattle.shard_node.proofs.draft.Draft.next_settled.Goals as goal

pub returns-in-None-clause-none : goal.returns-in-None-clause-none
returns-in-None-clause-none c =
    no_first c.args.self.now.seat c.args.self.now.store c.args.self.now.jobs c.args.self.now.flush
    (ap (λ (d : Drafted). slice_get d.jobs 0) (sym c.self.view_is) ∙ ap (λ (l : List PlaceJob). slice_get l 0) (sym c.deref.ensures.value) ∙ sym c.first_job.ensures ∙ c.in-None.is)

pub returns-then-not-is_settled-clause-none : goal.returns-then-not-is_settled-clause-none
returns-then-not-is_settled-clause-none c =
    not_first c.args.self.now.seat c.args.self.now.store c.args.self.now.jobs c.args.self.now.flush c.in-Some.job
    (ap (λ (d : Drafted). slice_get d.jobs 0) (sym c.self.view_is) ∙ ap (λ (l : List PlaceJob). slice_get l 0) (sym c.deref.ensures.value) ∙ sym c.first_job.ensures ∙ c.in-Some.is)
    (ap (λ (job : PlaceJob). is_settled (seated c.args.self.now.seat c.args.self.now.store c.args.self.now.jobs c.args.self.now.flush) job.end) (sym c.job.view_is) ∙ sym c.is_settled.ensures ∙ c.if-not-is_settled.true)
