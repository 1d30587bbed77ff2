use Rattle.std.proofs.Common.{not, arith}
use Rattle.view_config.specs.Without.{is_among}
use Rattle.view_config.proofs.Kept.{first_kept}
use Rattle.view_config.proofs.without.first_unsuspected.Goals as goal

pub returns-then-len-limit : goal.returns-then-len-limit
returns-then-len-limit c =
    let parts = c.loop-node.invariant in
    rw parts.0 (first_kept (λ node. not (is_among c.args.suspects.now node)) c.args.nodes.now c.loop-node.node-index c.args.limit (grind arith))
