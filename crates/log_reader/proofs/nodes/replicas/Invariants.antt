use Rattle.std.proofs.Common.{◌≡◌, take, ℕ, List}
use Rattle.std.specs.List.{flat_map}
use Rattle.log_reader.proofs.nodes.replicas.Given as goal

abbrev pub invariant-loop-nodes : goal.invariant-loop-nodes
invariant-loop-nodes l = l.made ≡ flat_map (λ (nodes : List ℕ). nodes) (take l.nodes-index l.shards)
