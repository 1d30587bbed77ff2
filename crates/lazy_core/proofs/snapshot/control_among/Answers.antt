use Rattle.std.proofs.Common.{◌≡◌, ℕ, Some, sym, ap, subst, ◌∙◌}
use Rattle.std.specs.Prelude.{slice_get}
use Rattle.std.proofs.lemmas.Option.{slice_get_within}
use Rattle.view_config.specs.Shape.{Dimensions}
use Rattle.lazy_rules.specs.ControlState.{first_control}
use Rattle.lazy_core.specs.declared.node_state.NodeState.TheVariants.{Control}
use Rattle.lazy_core.specs.Standing.{control_in}
use Rattle.lazy_core.proofs.Seats.{control_here, read_there}
use Rattle.lazy_core.proofs.snapshot.control_among.Goals as goal

pub bounds-states-shape-inside : goal.bounds-states-shape-inside
bounds-states-shape-inside c =
    let there = subst (λ (n : ℕ). slice_get c.args.states.now n ≡ Some (Control (control_in (first_control c.args.shape.now) c.args.states.now))) (sym (ap (λ (shape : Dimensions). shape.clients) c.shape.view_is)) (control_here c.args.shape.now c.args.states.now c.requires) in
    slice_get_within c.args.states.now c.shape.inside.clients (Control (control_in (first_control c.args.shape.now) c.args.states.now)) there

pub unreachable-requires : goal.unreachable-requires
unreachable-requires c =
    let there = subst (λ (n : ℕ). slice_get c.args.states.now n ≡ Some (Control (control_in (first_control c.args.shape.now) c.args.states.now))) (sym (ap (λ (shape : Dimensions). shape.clients) c.shape.view_is)) (control_here c.args.shape.now c.args.states.now c.requires) in
    c.in_default.not-Control (control_in (first_control c.args.shape.now) c.args.states.now)
    (read_there c.args.states.now c.shape.inside.clients (Control (control_in (first_control c.args.shape.now) c.args.states.now)) c.index-states-shape.result there c.index-states-shape.is)

pub returns : goal.returns
returns c =
    let there = subst (λ (n : ℕ). slice_get c.args.states.now n ≡ Some (Control (control_in (first_control c.args.shape.now) c.args.states.now))) (sym (ap (λ (shape : Dimensions). shape.clients) c.shape.view_is)) (control_here c.args.shape.now c.args.states.now c.requires) in
    let same : Control c.in-Control.control ≡ Control (control_in (first_control c.args.shape.now) c.args.states.now) =
    sym c.in-Control.is ∙ read_there c.args.states.now c.shape.inside.clients (Control (control_in (first_control c.args.shape.now) c.args.states.now)) c.index-states-shape.result there c.index-states-shape.is in
    cc
