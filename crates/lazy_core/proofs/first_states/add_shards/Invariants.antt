use Rattle.std.proofs.Common.{◌≡◌, ◌++◌, map}
use Rattle.std.specs.List.{range_with_len}
use Rattle.lazy_rules.specs.WorldState.{first_shard_at}
use Rattle.lazy_core.specs.declared.node_state.NodeState.TheVariants.{Shard}
use Rattle.lazy_core.proofs.first_states.add_shards.Given as goal

abbrev pub invariant-loop-k : goal.invariant-loop-k
invariant-loop-k l = l.states.items ≡ l.fn.states.items ++ map (λ k. Shard (first_shard_at l.shape k)) (range_with_len 0 l.k)
