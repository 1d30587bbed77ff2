use Rattle.std.proofs.Common.{◌≡◌, ◌≤◌, length, take}
use Rattle.view_config.specs.Without.{unsuspected}
use Rattle.view_config.proofs.without.first_unsuspected.Given as goal

abbrev pub invariant-loop-node : goal.invariant-loop-node
invariant-loop-node l = (l.kept ≡ unsuspected l.suspects (take l.node-index l.nodes)) × (length l.kept ≤ l.limit)
