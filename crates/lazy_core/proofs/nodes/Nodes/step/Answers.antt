use Rattle.std.proofs.Common.{◌≡◌, ◌≤◌, ◌+◌, length, ◌∙◌, ap, sym, subst, arith}
use Rattle.std.specs.Prelude.{OnErr}
use Rattle.lazy_rules.specs.WorldState.{WorldState}
use Rattle.lazy_rules.specs.declared.limits.TheConstants.{MESSAGES_LIMIT}
use Rattle.lazy_core.specs.Happens.{IsRoom, Turns}
use Rattle.lazy_core.specs.NodeCall.{Outcome}
use Rattle.lazy_core.specs.Turning.{IsTurnIn}
use Rattle.lazy_core.proofs.Happening.{turned_whole, turned_within}
use Rattle.lazy_core.proofs.nodes.Nodes.step.Goals as goal

pub loop-room-preserved : goal.loop-room-preserved
loop-room-preserved c =
    let is = subst (λ (w : WorldState). IsTurnIn w c.args.turn.now) (sym c.loop-room.invariant.0) c.requires.turn in
    let spent = c.is_spent.ensures.spent c.if-not-is_spent.false in
    let stays = subst (λ (outcome : Outcome). OnErr outcome (c.step_within-outcome.new.self ≡ c.loop-room.self)) spent (c.step_within-outcome.ensures is).unchanged in
    (stays ∙ c.loop-room.invariant.0, omega arith)

pub returns-then-not-is_spent : goal.returns-then-not-is_spent
returns-then-not-is_spent c =
    let sent : length c.loop-room.self.sent ≡ length c.args.self.now.sent = ap (λ (w : WorldState). length w.sent) c.loop-room.invariant.0 in
    let may = c.room-left.ensures.may in
    let few : length c.loop-room.self.sent + c.loop-room.room ≤ MESSAGES_LIMIT = omega arith in
    subst (λ (w : WorldState). Turns c.args.turn.now w c.step_within-outcome.new.self c.step_within-outcome.result) c.loop-room.invariant.0
    (turned_within c.args.turn.now c.loop-room.self c.step_within-outcome.new.self c.step_within-outcome.result c.loop-room.room few (c.is_spent.ensures.unspent c.if-not-is_spent.true) c.step_within-outcome.ensures)

pub returns : goal.returns
returns c =
    let left : IsRoom c.loop-room.self c.room-left.result = subst (λ (w : WorldState). IsRoom w c.room-left.result) (sym c.loop-room.invariant.0) c.room-left.ensures in
    subst (λ (w : WorldState). Turns c.args.turn.now w c.step_within.new.self c.step_within.result) c.loop-room.invariant.0
    (turned_whole c.args.turn.now c.loop-room.self c.step_within.new.self c.step_within.result c.room-left.result left c.step_within.ensures)
