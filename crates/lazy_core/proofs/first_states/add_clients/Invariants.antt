use Rattle.std.proofs.Common.{◌≡◌, ◌++◌, map}
use Rattle.std.specs.List.{range_with_len}
use Rattle.lazy_core.specs.Standing.{first_client_node}
use Rattle.lazy_core.proofs.first_states.add_clients.Given as goal

abbrev pub invariant-loop-c : goal.invariant-loop-c
invariant-loop-c l = l.states.items ≡ l.fn.states.items ++ map (first_client_node l.shape) (range_with_len 0 l.c)
