use Rattle.std.proofs.Common.{◌≡◌, ◌++◌}
use Rattle.std.specs.List.{range_with_len}
use Rattle.node_diary.proofs.replaying.add_clients.Given as goal

abbrev pub invariant-loop-c : goal.invariant-loop-c
invariant-loop-c l = l.nodes.items ≡ l.fn.nodes.items ++ range_with_len 0 l.c
