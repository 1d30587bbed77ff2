use Rattle.std.proofs.Common.{◌≡◌, length}
use Rattle.seen_window_bench.proofs.mark_rounds.Given as goal

abbrev pub invariant-loop-round : goal.invariant-loop-round
invariant-loop-round l = length l.window ≡ 8
