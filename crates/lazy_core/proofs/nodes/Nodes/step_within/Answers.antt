use Rattle.std.proofs.Common.{◌+◌, ◌<◌, ◌≤◌, ◌^◌, length, sym, subst}
use Rattle.std.proofs.lemmas.Result.{err_from_is_err_and}
use Rattle.lazy_rules.specs.WorldState.{WorldState}
use Rattle.lazy_rules.specs.declared.limits.TheConstants.{MESSAGES_LIMIT}
use Rattle.lazy_core.specs.Turning.{IsKnown, IsTurnIn}
use Rattle.lazy_core.proofs.Stepping.{few_sent, few_told, here, light_sent, own_state, place_there, turn_kept, turn_refused, turn_taken}
use Rattle.lazy_core.proofs.nodes.Nodes.step_within.Goals as goal

pub call-requires-clause-there : goal.call-requires-clause-there
call-requires-clause-there c =
    let is = subst (λ (w : WorldState). IsTurnIn w c.args.turn.now) (sym c.self.view_is) c.requires.turn in
    place_there c.self.inside.snapshot c.self.inside.ledger c.place.ensures.laid c.args.turn.now c.in-Some.place (sym c.in-Some.ensures.place) is

pub call-requires-clause-own : goal.call-requires-clause-own
call-requires-clause-own c =
    let is = subst (λ (w : WorldState). IsTurnIn w c.args.turn.now) (sym c.self.view_is) c.requires.turn in
    own_state c.self.inside.snapshot c.self.inside.ledger c.place.ensures.laid c.args.turn.now c.in-Some.place (sym c.in-Some.ensures.place) is
    (subst IsKnown (sym c.self.view_is) c.requires.known) (subst (λ (w : WorldState). w.events + 1 < 2 ^ 32) (sym c.self.view_is) c.requires.countable)

pub returns-in_err-call : goal.returns-in_err-call
returns-in_err-call c =
    let p = err_from_is_err_and c.from_residual-in_err-call.result c.from_residual-in_err-call.ensures.1 in
    rw (← c.self.view_is, p.1, p.2)
    (λ is. turn_refused c.self.inside.snapshot c.self.inside.ledger c.place.ensures.laid c.args.turn.now c.in-Some.place (sym c.in-Some.ensures.place) is
    c.args.room c.call.new.self c.outbox.new.self c.in_ok-out.out c.call.new.out c.in_ok-out.ensures.outbox c.self.invariant c.in_err-call.field-0.0
    (c.in_err-call.ensures is.state (here c.self.inside.snapshot c.self.inside.ledger c.place.ensures.laid c.args.turn.now c.in-Some.place (sym c.in-Some.ensures.place) is)) c.in_ok-out.ensures.kept)

pub enter-requires-clause-messages : goal.enter-requires-clause-messages
enter-requires-clause-messages c =
    let is = subst (λ (w : WorldState). IsTurnIn w c.args.turn.now) (sym c.self.view_is) c.requires.turn in
    few_sent c.self.inside.snapshot c.self.inside.ledger c.place.ensures.laid c.args.turn.now c.in-Some.place (sym c.in-Some.ensures.place) is
    c.args.room c.call.new.self c.outbox.new.self c.in_ok-out.out c.call.new.out c.in_ok-out.ensures.outbox c.self.invariant c.in_ok-call.field-0
    (c.in_ok-call.ensures is.state (here c.self.inside.snapshot c.self.inside.ledger c.place.ensures.laid c.args.turn.now c.in-Some.place (sym c.in-Some.ensures.place) is)) c.in_ok-out.ensures.messages

pub enter-requires-clause-told : goal.enter-requires-clause-told
enter-requires-clause-told c =
    let is = subst (λ (w : WorldState). IsTurnIn w c.args.turn.now) (sym c.self.view_is) c.requires.turn in
    few_told c.self.inside.snapshot c.self.inside.ledger c.place.ensures.laid c.args.turn.now c.in-Some.place (sym c.in-Some.ensures.place) is
    c.args.room c.call.new.self c.outbox.new.self c.in_ok-out.out c.call.new.out c.in_ok-out.ensures.outbox c.self.invariant c.in_ok-call.field-0
    (c.in_ok-call.ensures is.state (here c.self.inside.snapshot c.self.inside.ledger c.place.ensures.laid c.args.turn.now c.in-Some.place (sym c.in-Some.ensures.place) is)) c.in_ok-out.ensures.events

pub enter-requires-clause-weight : goal.enter-requires-clause-weight
enter-requires-clause-weight c =
    let is = subst (λ (w : WorldState). IsTurnIn w c.args.turn.now) (sym c.self.view_is) c.requires.turn in
    light_sent c.self.inside.snapshot c.self.inside.ledger c.place.ensures.laid c.args.turn.now c.in-Some.place (sym c.in-Some.ensures.place) is
    c.args.room c.call.new.self c.outbox.new.self c.in_ok-out.out c.call.new.out c.in_ok-out.ensures.outbox c.self.invariant c.in_ok-call.field-0
    (c.in_ok-call.ensures is.state (here c.self.inside.snapshot c.self.inside.ledger c.place.ensures.laid c.args.turn.now c.in-Some.place (sym c.in-Some.ensures.place) is)) c.in_ok-out.ensures.kept

pub invariant_of-self-2 : goal.invariant_of-self-2
invariant_of-self-2 c =
    let is = subst (λ (w : WorldState). IsTurnIn w c.args.turn.now) (sym c.self.view_is) c.requires.turn in
    turn_kept c.self.inside.snapshot c.self.inside.ledger c.place.ensures.laid c.args.turn.now c.in-Some.place (sym c.in-Some.ensures.place) is
    c.args.room c.call.new.self c.outbox.new.self c.in_ok-out.out c.call.new.out c.in_ok-out.ensures.outbox c.self.invariant c.in_ok-call.field-0
    (c.in_ok-call.ensures is.state (here c.self.inside.snapshot c.self.inside.ledger c.place.ensures.laid c.args.turn.now c.in-Some.place (sym c.in-Some.ensures.place) is))
    c.enter.new.self c.in_ok-out.ensures.kept c.enter.ensures (subst (λ (w : WorldState). length w.sent + c.args.room ≤ MESSAGES_LIMIT) (sym c.self.view_is) c.requires.room)

pub returns : goal.returns
returns c =
    rw (← c.self.view_is)
    (λ is. turn_taken c.self.inside.snapshot c.self.inside.ledger c.place.ensures.laid c.args.turn.now c.in-Some.place (sym c.in-Some.ensures.place) is
    c.args.room c.call.new.self c.outbox.new.self c.in_ok-out.out c.call.new.out c.in_ok-out.ensures.outbox c.self.invariant c.in_ok-call.field-0
    (c.in_ok-call.ensures is.state (here c.self.inside.snapshot c.self.inside.ledger c.place.ensures.laid c.args.turn.now c.in-Some.place (sym c.in-Some.ensures.place) is))
    c.enter.new.self c.in_ok-out.ensures.kept c.enter.ensures)
