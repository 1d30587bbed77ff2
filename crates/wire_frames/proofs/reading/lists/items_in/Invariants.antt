use Rattle.std.proofs.Common.{◌≡◌, ◌-◌}
use Rattle.wire_frames.specs.Readers.{IsEnd, members_at, item_at}
use Rattle.wire_frames.proofs.Members.{with_front}
use Rattle.wire_frames.proofs.reading.lists.items_in.Given as goal

abbrev pub invariant-loop : goal.invariant-loop
invariant-loop l = record {
  so_far : with_front l.items (members_at (item_at l.edition l.size) (l.count - l.counter) l.rest) ≡ members_at (item_at l.edition l.size) l.count l.fn.left.now;
  end : IsEnd l.rest l.pool;
}
