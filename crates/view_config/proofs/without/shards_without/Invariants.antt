use Rattle.std.proofs.Common.{◌≡◌, take, map}
use Rattle.view_config.specs.Without.{unsuspected}
use Rattle.view_config.proofs.without.shards_without.Given as goal

abbrev pub invariant-loop-nodes : goal.invariant-loop-nodes
invariant-loop-nodes l = l.kept ≡ map (unsuspected l.suspects) (take l.nodes-index l.shards)
