use Rattle.std.proofs.Common.{◌≡◌, take}
use Rattle.std.specs.List.{flat_map}
use Rattle.lazy_rules.specs.Roles.{first_of}
use Rattle.log_reader.proofs.nodes.primaries.Given as goal

abbrev pub invariant-loop-nodes : goal.invariant-loop-nodes
invariant-loop-nodes l = l.made ≡ flat_map first_of (take l.nodes-index l.shards)
