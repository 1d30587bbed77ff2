-- A call of the node at a place, as one of all.
use Rattle.std.proofs.Common.{◌≡◌, ◌+◌, ◌*◌, ℕ, List, Option, Some, Ok, Err, ap, sym, subst}
use Rattle.std.specs.Prelude.{slice_get, slice_set}
use Rattle.lazy_msgs.specs.declared.input.Input.{Input}
use Rattle.lazy_msgs.specs.declared.refused.EventRefused.{EventRefused}
use Rattle.lazy_msgs.specs.Outbox.{Out}
use Rattle.lazy_msgs.specs.Step.{Row}
use Rattle.world_facts.proofs.Lists.{set_same}
use Rattle.lazy_core.specs.declared.node_state.NodeState.{NodeState}
use Rattle.lazy_core.specs.NodeCall.{CallsTo, Outcome, node_call}
use Rattle.lazy_core.specs.Standing.{IsLaid, Standing, at_place, with_state}
use Rattle.lazy_core.proofs.Alike.{AreAlike, alike_same, call_alike, nodes_stay}
use Rattle.lazy_core.proofs.Calls.{part_calls}

-- a call keeps the role
call_keeps : (old new : NodeState) (input : Input) (reason : Option EventRefused) (out out_after : Out) (outcome : Outcome) → CallsTo (node_call old input) reason old new out out_after outcome → AreAlike old new
call_keeps old new input reason out out_after (Ok done) h = subst (AreAlike old) (sym h.steps.state) (call_alike old input)
call_keeps old new input reason out out_after (Err e) h = subst (AreAlike old) (sym h.steps.unchanged) (alike_same old)

module _ (s : Standing) (place : ℕ) (old new : NodeState) (there : slice_get s.states place ≡ Some old) where
  pub laid_after : IsLaid s.shape s.states → (input : Input) (reason : Option EventRefused) (out out_after : Out) (outcome : Outcome) → CallsTo (node_call old input) reason old new out out_after outcome → IsLaid s.shape (slice_set s.states place new)
  laid_after laid input reason out out_after outcome h =
      nodes_stay old new (call_keeps old new input reason out out_after outcome h) s.shape.clients (s.shape.seq + s.shape.spares) (s.shape.shards * s.shape.copies) s.states place there laid

  pub placed_call : (row : Row NodeState) (reason : Option EventRefused) (out out_after : Out) (outcome : Outcome) → CallsTo row reason old new out out_after outcome → CallsTo (at_place s place row) reason s (with_state s place new) out out_after outcome
  placed_call row reason out out_after outcome h =
      subst (λ (x : Standing). CallsTo (at_place s place row) reason x (with_state s place new) out out_after outcome)
      (ap (λ (states : List NodeState). record s { states = states }) (set_same s.states place old there))
      (part_calls (with_state s place) row reason old new out out_after outcome h)
