use Rattle.std.proofs.Common.{◌≡◌, vec_len}
use Rattle.lane_scan_bench.proofs.some_words.Given as goal

abbrev pub invariant-loop-i : goal.invariant-loop-i
invariant-loop-i l = vec_len l.words ≡ l.i
