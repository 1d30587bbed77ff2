use Rattle.std.proofs.Common.{◌≡◌, false, sym, subst, ap, ◌∙◌}
use Rattle.lazy_msgs.specs.declared.input.Input.TheVariants.{Take}
use Rattle.lazy_msgs.specs.declared.input.WorldEvent.TheVariants.{Deliver}
use Rattle.lazy_msgs.specs.declared.msg.Envelope.{Envelope}
use Rattle.lazy_rules.specs.Rows.{has_node}
use Rattle.lazy_rules.specs.WorldState.{WorldState}
use Rattle.lazy_core.proofs.ComesTo.{comes_to}
use Rattle.lazy_core.proofs.Deliveries.{delivery_turn, mail_of}
use Rattle.lazy_core.proofs.nodes.Nodes.delivery_to.Goals as goal

pub returns : goal.returns
returns c =
    let e = c.args.envelope.now in
    let alive : has_node c.self.inside.snapshot.crashed e.to ≡ false = sym c.is_crashed.ensures ∙ c.if-is_crashed.false in
    comes_to c.args.self.now (Deliver c.args.k) (record { node = e.to; input = Take c.in_ok-copy.field-0; received = e.time }) (record { node = e.to; input = Take e; received = e.time })
    (ap (λ (x : Envelope). record { node = e.to; input = Take x; received = e.time }) c.in_ok-copy.ensures)
    (delivery_turn c.args.self.now c.requires.known c.args.k e c.requires.sent (mail_of e.msg c.in_default.not-Claim)
    (subst (λ (w : WorldState). has_node w.crashed e.to ≡ false) c.self.view_is alive))
