use Rattle.std.proofs.Common.{◌≡◌, ◌++◌, map}
use Rattle.std.specs.List.{range_with_len}
use Rattle.lazy_rules.specs.SeqState.{first_seq}
use Rattle.lazy_core.specs.declared.node_state.NodeState.TheVariants.{Seq}
use Rattle.lazy_core.proofs.first_states.add_seqs.Given as goal

abbrev pub invariant-loop-i : goal.invariant-loop-i
invariant-loop-i l = l.states.items ≡ l.fn.states.items ++ map (λ i. Seq (first_seq l.shape i)) (range_with_len 0 l.i)
