use Rattle.std.proofs.Common.{subst}
use Rattle.lazy_rules.specs.WorldRules.{IsWithinLimits, after}
use Rattle.lazy_rules.specs.WorldState.{WorldState}
use Rattle.lazy_core.specs.Reached.{Appends}
use Rattle.lazy_core.proofs.Known.{known_reached}
use Rattle.lazy_core.proofs.ReachedWorlds.{appends_after, reached_after}
use Rattle.lazy_core.proofs.world.World.event.Goals as goal

pub event-requires-clause-known : goal.event-requires-clause-known
event-requires-clause-known c = known_reached c.self.inside.nodes c.self.invariant

pub invariant_of-self : goal.invariant_of-self
invariant_of-self c =
    reached_after (IsWithinLimits (after c.self.inside.nodes c.args.event.now)) c.self.inside.nodes c.event.new.self c.args.event.now c.asked_in_words.ensures c.event.result c.self.invariant c.event.ensures

pub returns-clause-appends : goal.returns-clause-appends
returns-clause-appends c =
    subst (λ (w : WorldState). Appends c.args.event.now w c.event.new.self c.event.result) c.self.view_is
    (appends_after (IsWithinLimits (after c.self.inside.nodes c.args.event.now)) c.self.inside.nodes c.event.new.self c.args.event.now c.asked_in_words.ensures c.event.result c.event.ensures)
