use Rattle.std.proofs.Common.{◌≡◌, ◌<◌, ap, arith}
use Rattle.std.proofs.lemmas.Bool.{lt-ltb}
use Rattle.view_config.specs.Shape.{Dimensions}
use Rattle.lazy_msgs.specs.declared.input.WorldEvent.TheVariants.{Peek}
use Rattle.lazy_core.proofs.ComesTo.{comes_to}
use Rattle.lazy_core.proofs.Peeks.{peek_turn}
use Rattle.lazy_core.proofs.nodes.Nodes.peek.Goals as goal

pub returns : goal.returns
returns c =
    let same : c.shape.result.now.clients ≡ c.args.self.now.shape.clients = ap (λ (shape : Dimensions). shape.clients) c.shape.ensures in
    let seen : c.behind-self.inside.clients ≡ c.shape.result.now.clients = ap (λ (shape : Dimensions). shape.clients) c.behind-self.view_is in
    let below : c.args.c < c.behind-self.inside.clients = c.if-c-shape.false in
    let few : c.args.c < c.args.self.now.shape.clients = omega arith in
    comes_to c.args.self.now (Peek c.args.c c.args.k c.args.from c.args.to) c.given.result (record { node = c.args.c; input = c.in_ok-peeked.field-0; received = 0 }) c.given.ensures
    (peek_turn c.args.self.now c.requires c.args.c c.args.k c.args.from c.args.to (lt-ltb c.args.c c.args.self.now.shape.clients few) c.in_ok-peeked.field-0 c.in_ok-peeked.ensures.given c.in_ok-peeked.ensures.allowed)
