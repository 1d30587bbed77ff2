use Rattle.std.proofs.Common.{◌≡◌, ◌≤◌, ◌+◌, false, length, vec_len, vec_capacity}
use Rattle.std.specs.Prelude.{if◌then◌else◌}
use Rattle.journal_disk.specs.Past.{deeds_of, total, until_synced}
use Rattle.journal_disk.proofs.past.drop_loose.Given as goal

abbrev pub invariant-loop-more : goal.invariant-loop-more
invariant-loop-more l = record {
  left : until_synced (deeds_of l.past.items l.bytes.items) ≡ until_synced (deeds_of l.initial.past.items l.initial.bytes.items);
  bytes_are : total l.past.items ≡ length l.bytes.items;
  past_room : vec_capacity l.initial.past ≤ vec_capacity l.past;
  bytes_room : vec_capacity l.initial.bytes ≤ vec_capacity l.bytes;
  fewer : length l.past.items ≤ length l.initial.past.items;
  shorter : length l.bytes.items ≤ length l.initial.bytes.items;
  done : l.more ≡ false → until_synced (deeds_of l.past.items l.bytes.items) ≡ deeds_of l.past.items l.bytes.items;
}

abbrev pub decreases-loop-more : goal.decreases-loop-more
decreases-loop-more l = vec_len l.past + (if l.more then 1 else 0)
