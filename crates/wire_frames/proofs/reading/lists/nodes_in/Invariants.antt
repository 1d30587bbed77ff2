use Rattle.std.proofs.Common.{◌≡◌, ◌-◌}
use Rattle.wire_frames.specs.Readers.{members_at, node_at}
use Rattle.wire_frames.proofs.Members.{with_front}
use Rattle.wire_frames.proofs.reading.lists.nodes_in.Given as goal

abbrev pub invariant-loop : goal.invariant-loop
invariant-loop l = with_front l.nodes (members_at (node_at l.size) (l.count - l.counter) l.left.now) ≡ members_at (node_at l.size) l.count l.fn.left.now
