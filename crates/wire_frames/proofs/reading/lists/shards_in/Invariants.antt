use Rattle.std.proofs.Common.{◌≡◌, ◌-◌}
use Rattle.wire_frames.specs.Readers.{members_at, nodes_at}
use Rattle.wire_frames.proofs.Members.{with_front}
use Rattle.view_config.specs.declared.limits.TheConstants.{MAX_COPIES}
use Rattle.wire_frames.proofs.reading.lists.shards_in.Given as goal

abbrev pub invariant-loop : goal.invariant-loop
invariant-loop l = with_front l.shards (members_at (nodes_at l.size MAX_COPIES) (l.count - l.counter) l.left.now) ≡ members_at (nodes_at l.size MAX_COPIES) l.count l.fn.left.now
