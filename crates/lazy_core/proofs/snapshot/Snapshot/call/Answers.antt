use Rattle.std.proofs.Common.{◌≡◌, ◌<◌, length, Some, refl, sym, subst}
use Rattle.std.specs.Prelude.{slice_get}
use Rattle.std.proofs.lemmas.Option.{slice_get_read}
use Rattle.lazy_core.specs.declared.node_state.NodeState.{NodeState}
use Rattle.lazy_core.specs.NodeCall.{CallsTo, IsNodeOf, call_refusal, node_call}
use Rattle.lazy_core.specs.Standing.{Standing, at_place, with_state}
use Rattle.lazy_core.proofs.Placed.{laid_after, placed_call}
use Rattle.lazy_core.proofs.Seats.{read_there}
use Rattle.lazy_core.proofs.snapshot.Snapshot.call.Goals as goal

pub call-requires : goal.call-requires
call-requires c =
    let own = subst (λ (s : Standing). (state : NodeState) → slice_get s.states c.args.place ≡ Some state → IsNodeOf s.shape state) (sym c.self.view_is) c.requires.own in
    let there = subst (λ (s : Standing). c.args.place < length s.states) (sym c.self.view_is) c.requires.there in
    own c.index_mut-state.result.now (slice_get_read c.self.inside.states.items (length c.self.inside.states.items) c.args.place c.index_mut-state.result.now refl there c.index_mut-state.ensures.value)

pub invariant_of-self : goal.invariant_of-self
invariant_of-self c =
    let there = subst (λ (s : Standing). c.args.place < length s.states) (sym c.self.view_is) c.requires.there in
    let s : Standing = record { shape = c.self.inside.shape; states = c.self.inside.states.items; crashed = c.self.inside.crashed.items } in
    laid_after s c.args.place c.index_mut-state.result.now c.call.new.self
    (slice_get_read c.self.inside.states.items (length c.self.inside.states.items) c.args.place c.index_mut-state.result.now refl there c.index_mut-state.ensures.value)
    c.self.invariant c.args.input.now (call_refusal c.self.inside.shape.edition c.index_mut-state.result.now c.args.input.now) c.args.out.now c.call.new.out c.call.result c.call.ensures

pub returns : goal.returns
returns c =
    let s : Standing = record { shape = c.self.inside.shape; states = c.self.inside.states.items; crashed = c.self.inside.crashed.items } in
    let told : (state : NodeState) → slice_get s.states c.args.place ≡ Some state → CallsTo (at_place s c.args.place (node_call state c.args.input.now)) (call_refusal s.shape.edition state c.args.input.now) s (with_state s c.args.place c.call.new.self) c.args.out.now c.call.new.out c.call.result =
    λ state there.
    let same = read_there s.states c.args.place state c.index_mut-state.result.now there c.index_mut-state.ensures.value in
    placed_call s c.args.place state c.call.new.self there (node_call state c.args.input.now) (call_refusal s.shape.edition state c.args.input.now) c.args.out.now c.call.new.out c.call.result
    (subst (λ (x : NodeState). CallsTo (node_call x c.args.input.now) (call_refusal s.shape.edition x c.args.input.now) x c.call.new.self c.args.out.now c.call.new.out c.call.result) same c.call.ensures) in
    rw (← c.self.view_is) told
