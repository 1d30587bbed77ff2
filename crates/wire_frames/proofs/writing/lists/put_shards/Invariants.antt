use Rattle.std.proofs.Common.{◌≡◌, [], ◌∷◌, ◌++◌, length, take}
use Rattle.std.specs.List.{flat_map}
use Rattle.lazy_msgs.specs.Frame.{nodes_form}
use Rattle.wire_frames.proofs.writing.lists.put_shards.Given as goal

abbrev pub invariant-loop-nodes : goal.invariant-loop-nodes
invariant-loop-nodes l = l.out.items ≡ l.fn.out.items ++ (length l.nodes-items ∷ []) ++ flat_map nodes_form (take l.nodes-index l.nodes-items)
