use Rattle.std.proofs.Common.{◌≡◌, List, Bool, true, cond, ap, ◌∙◌}
use Rattle.binder.specs.Binding.{Binding, ordered_flight}
use Rattle.lazy_rules.specs.Flight.{Batch, has_ordering, with_order}
use Rattle.lazy_rules.specs.SeqState.{SeqState}
use Rattle.seq_node.specs.NodeView.{seq_of}
use Rattle.seq_node.proofs.Leaving.{kept_spans}
use Rattle.seq_node.proofs.Noting.{ordered_spans}
use Rattle.seq_node.proofs.node.SeqNode.take_order.Goals as goal

pub invariant_of-self : goal.invariant_of-self
invariant_of-self c =
    let h : SeqState = seq_of c.self.inside in
    let here : has_ordering h.flight c.args.upto ≡ true = ap (λ (x : SeqState). has_ordering x.flight c.args.upto) c.self.view_is ∙ c.requires.here in
    rw c.ordered.ensures.next
    (kept_spans h _ _ _ c.self.invariant (ordered_flight h.flight c.args.follower c.args.upto) (ordered_spans h.flight c.args.follower c.args.upto here))

pub returns : goal.returns
returns c =
    let s : SeqState = c.args.self.now in
    let h : SeqState = seq_of c.self.inside in
    let with_binder : Binding → SeqState = λ b. record h { flight = b.flight; probes = b.probes } in
    let noted : SeqState → SeqState = λ x. record x { flight = ordered_flight x.flight c.args.follower c.args.upto } in
    let with_flight : List Batch → SeqState = λ l. record s { flight = l } in
    ap with_binder c.ordered.ensures.next ∙ ap noted c.self.view_is
    ∙ ap (λ (b : Bool). with_flight (cond b (with_order s.flight c.args.follower c.args.upto) s.flight)) c.requires.here
