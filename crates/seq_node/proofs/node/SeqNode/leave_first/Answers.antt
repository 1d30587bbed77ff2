use Rattle.std.proofs.Common.{◌≡◌, ℕ, ◌+◌, Some, length, ap, sym, ◌∙◌, arith}
use Rattle.std.specs.Prelude.{option_map}
use Rattle.binder.specs.Binding.{Binding, after_finish, outline}
use Rattle.pending_log.specs.Pending.{Pending}
use Rattle.lazy_rules.specs.Flight.{finish, waiting_probes}
use Rattle.lazy_rules.specs.Roles.{followers_of}
use Rattle.lazy_rules.specs.SeqState.{SeqState}
use Rattle.seq_node.specs.Leaving.{first_leaves}
use Rattle.seq_node.specs.NodeView.{seq_of}
use Rattle.seq_node.proofs.Leaving.{kept_without, leaves_first, without}
use Rattle.seq_node.proofs.node.SeqNode.leave_first.Goals as goal

pub drop_front-requires : goal.drop_front-requires
drop_front-requires c =
    let inside = (kept_without (seq_of c.self.inside) _ _ _ c.self.invariant c.flight.ensures.sound c.in-Some.batch (sym c.in-Some.ensures.first)).1 in
    omega (arith, inside)

pub invariant_of-self-2 : goal.invariant_of-self-2
invariant_of-self-2 c =
    let b : Binding = c.self.inside.binder in
    let seen = c.in-Some.batch in
    let waiting : Binding → Binding = λ x. record x { probes = waiting_probes (c.self.inside.bound + seen.count) x.probes } in
    let binder_is : c.drop_ready.new.binder ≡ waiting (record b { flight = after_finish b.followers b.flight }) =
    c.drop_ready.ensures ∙ ap waiting c.finish.ensures.next in
    rw (c.drop_front.ensures, binder_is) (kept_without (seq_of c.self.inside) _ _ _ c.self.invariant c.flight.ensures.sound seen (sym c.in-Some.ensures.first)).0

pub returns-clause-next : goal.returns-clause-next
returns-clause-next c =
    let h : SeqState = seq_of c.self.inside in
    let b : Binding = c.self.inside.binder in
    let n = length (followers_of h.config) in
    let seen = c.in-Some.batch in
    let bound = c.self.inside.bound + seen.count in
    let waiting : Binding → Binding = λ x. record x { probes = waiting_probes bound x.probes } in
    let binder_is : c.drop_ready.new.binder ≡ waiting (record b { flight = after_finish b.followers b.flight }) =
    c.drop_ready.ensures ∙ ap waiting c.finish.ensures.next in
    let with_parts : Pending → Binding → SeqState = λ p x. record h { bound = bound; pending = p.items; flight = x.flight; probes = x.probes } in
    let some : option_map outline (finish n h.flight) ≡ Some seen =
    ap (λ (k : ℕ). option_map outline (finish k h.flight)) (sym c.self.invariant.followers_are) ∙ sym c.in-Some.ensures.first in
    ap (with_parts c.drop_front.new.self) binder_is
    ∙ ap (λ (p : Pending). with_parts p (waiting (record b { flight = after_finish b.followers b.flight }))) c.drop_front.ensures
    ∙ ap (λ (k : ℕ). without h k seen) c.self.invariant.followers_are
    ∙ sym (leaves_first h h.flight seen some)
    ∙ ap (λ (x : SeqState). (first_leaves x x.flight).next) c.self.view_is
