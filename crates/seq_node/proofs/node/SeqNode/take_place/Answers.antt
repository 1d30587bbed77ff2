use Rattle.std.proofs.Common.{◌≡◌, ℕ, List, Bool, true, cond, length, ap, ◌∙◌}
use Rattle.binder.specs.Binding.{Binding, placed_flight}
use Rattle.lazy_rules.specs.Flight.{Batch, has_placing, passed, with_place}
use Rattle.lazy_rules.specs.SeqState.{SeqState}
use Rattle.seq_node.specs.NodeView.{seq_of}
use Rattle.seq_node.proofs.Leaving.{kept_spans}
use Rattle.seq_node.proofs.Noting.{placed_spans}
use Rattle.seq_node.proofs.node.SeqNode.take_place.Goals as goal

pub invariant_of-self : goal.invariant_of-self
invariant_of-self c =
    let h : SeqState = seq_of c.self.inside in
    let shards = c.self.inside.binder.shards in
    let here : has_placing h.flight c.args.upto ≡ true = ap (λ (x : SeqState). has_placing x.flight c.args.upto) c.self.view_is ∙ c.requires.here in
    rw c.placed.ensures.next
    (kept_spans h _ _ _ c.self.invariant (placed_flight shards h.flight c.args.shard c.args.upto) (placed_spans shards h.flight c.args.shard c.args.upto here))

pub returns : goal.returns
returns c =
    let s : SeqState = c.args.self.now in
    let h : SeqState = seq_of c.self.inside in
    let with_binder : Binding → SeqState = λ b. record h { flight = b.flight; probes = b.probes } in
    let noted : SeqState → SeqState = λ x. record x { flight = placed_flight (length x.config.shards) x.flight c.args.shard c.args.upto } in
    let with_flight : List Batch → SeqState = λ l. record s { flight = l } in
    ap with_binder c.placed.ensures.next
    ∙ ap (λ (n : ℕ). let x : SeqState = record h { flight = placed_flight n h.flight c.args.shard c.args.upto } in x) c.self.invariant.shards_are
    ∙ ap noted c.self.view_is
    ∙ ap (λ (b : Bool). with_flight (cond b (passed (length s.config.shards) (with_place s.flight c.args.shard c.args.upto)) s.flight)) c.requires.here
