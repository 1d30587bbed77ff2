use Rattle.std.proofs.Common.{◌≡◌, List, Some, sym, ap, ◌∙◌}
use Rattle.std.specs.List.{list_all}
use Rattle.lazy_rules.specs.ShardState.{ShardState, PlaceJob}
use Rattle.lazy_rules.specs.ShardRules.{with_store}
use Rattle.lazy_rules.specs.Store.{fill, first_open}
use Rattle.shard_node.specs.Waiting.{ends_above_both}
use Rattle.shard_node.proofs.Waiting.{above_waits}
use Rattle.shard_node.proofs.node.ShardNode.waits_beside.Goals as goal

pub returns-in-Some : goal.returns-in-Some
returns-in-Some c = λ yes bytes.
    let s = c.args.self.now in
    let jobs : c.deref.result.now ≡ s.jobs = c.deref.ensures.value ∙ ap (λ (n : ShardState). n.jobs) c.self.view_is in
    let first : Some c.in-Some.other ≡ first_open (fill s.store c.args.place bytes) =
    sym c.in-Some.is ∙ c.first_open_but.ensures bytes ∙ ap (λ (n : ShardState). first_open (fill n.store c.args.place bytes)) c.self.view_is in
    above_waits (with_store s (fill s.store c.args.place bytes)) c.args.place c.in-Some.other first
    (ap (λ (l : List PlaceJob). list_all (ends_above_both c.args.place c.in-Some.other) l) (sym jobs) ∙ sym c.all_end_above_both.ensures ∙ yes)
