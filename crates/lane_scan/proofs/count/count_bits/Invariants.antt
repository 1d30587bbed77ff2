use Rattle.std.proofs.Common.{◌≡◌, take}
use Rattle.std.specs.Prelude.{sum_by, count_ones}
use Rattle.lane_scan.proofs.count.count_bits.Given as goal

abbrev pub invariant-loop-word : goal.invariant-loop-word
invariant-loop-word l = l.total ≡ sum_by count_ones (take l.word-index l.words)
