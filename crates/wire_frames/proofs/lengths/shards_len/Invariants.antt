use Rattle.std.proofs.Common.{◌≡◌, ◌+◌, ◌*◌, ◌≤◌, length, take}
use Rattle.std.specs.List.{flat_map}
use Rattle.lazy_msgs.specs.Frame.{nodes_form}
use Rattle.wire_frames.specs.declared.sizes.TheConstants.{NODES_MOST}
use Rattle.wire_frames.proofs.lengths.shards_len.Given as goal

abbrev pub invariant-loop-nodes : goal.invariant-loop-nodes
invariant-loop-nodes l = record {
  so_far : l.sum ≡ length (flat_map nodes_form (take l.nodes-index l.nodes-items));
  bounded : l.sum ≤ NODES_MOST * l.nodes-index + 0;
}
