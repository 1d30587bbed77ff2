use Rattle.std.proofs.Common.{◌≡◌, ◌-◌, ◌*◌, ◌++◌, length}
use Rattle.wire_frames.specs.Readers.{words_in}
use Rattle.wire_frames.proofs.reading.marks.words_in.Given as goal

abbrev pub invariant-loop : goal.invariant-loop
invariant-loop l = record {
  so_far : l.words ++ words_in (l.count - l.counter) l.left ≡ words_in l.count l.bytes;
  whole : length l.left ≡ 8 * (l.count - l.counter);
}
