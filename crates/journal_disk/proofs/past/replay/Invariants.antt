use Rattle.std.proofs.Common.{◌≡◌, ◌≤◌, ◌<◌, ◌^◌, length, take, drop}
use Rattle.journal_disk.specs.Past.{deeds_of, total, file_after, file_of, AreDoable}
use Rattle.journal_disk.proofs.past.replay.Given as goal

-- what is left leads to the file
abbrev pub invariant-loop-change : goal.invariant-loop-change
invariant-loop-change l = record {
  file : file_after (deeds_of (drop l.change-index l.past) l.rest) (take l.len l.buffer.items) ≡ file_of (deeds_of l.past l.fn.bytes);
  doable : AreDoable (length l.buffer.items) (deeds_of (drop l.change-index l.past) l.rest) (take l.len l.buffer.items);
  bytes_are : total (drop l.change-index l.past) ≡ length l.rest;
  within : l.len ≤ length l.buffer.items;
  short : l.len < 2 ^ 32;
  room : length l.buffer.items ≡ length l.initial.buffer.items;
}
