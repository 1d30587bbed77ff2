use Rattle.std.proofs.Common.{List, ℕ, sym, subst}
use Rattle.lazy_msgs.specs.declared.input.Input.TheVariants.{Post as PostInput}
use Rattle.lazy_msgs.specs.declared.input.WorldEvent.TheVariants.{Post}
use Rattle.lazy_core.specs.Turning.{IsTurnOf}
use Rattle.lazy_core.proofs.ClientEvents.{post_refused, post_turn}
use Rattle.lazy_core.proofs.ComesTo.{client_comes_to}
use Rattle.lazy_core.proofs.nodes.Nodes.post.Goals as goal

pub returns : goal.returns
returns c =
    client_comes_to c.args.self.now (Post c.args.c c.args.bytes.now) c.args.c (record { node = c.args.c; input = PostInput c.in_ok-clone.field-0; received = 0 }) c.client_turn.result
    c.client_turn.ensures.turn c.client_turn.ensures.allowed c.client_turn.ensures.refused c.client_turn.ensures.named
    (λ free. subst (λ (bytes : List ℕ). IsTurnOf c.args.self.now (Post c.args.c c.args.bytes.now) (record { node = c.args.c; input = PostInput bytes; received = 0 })) (sym c.in_ok-clone.ensures.cases) (post_turn c.args.self.now c.requires c.args.c free c.args.bytes.now))
    (λ e refused. post_refused c.args.self.now c.args.c e refused c.requires c.args.bytes.now)
