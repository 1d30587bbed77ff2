use Rattle.std.proofs.Common.{◌≡◌, length, ap, ◌∙◌, arith}
use Rattle.lazy_rules.specs.SeqState.{SeqState}
use Rattle.lazy_rules.specs.Windows.{has_seen}
use Rattle.seq_node.specs.NodeView.{seq_of}
use Rattle.seq_node.proofs.Known.{not_pending}
use Rattle.seq_node.proofs.Keeping.{kept_item}
use Rattle.seq_node.proofs.node.SeqNode.keep.Goals as goal

pub push-requires : goal.push-requires
push-requires c =
    not_pending c.self.inside.window c.self.inside.pending.items c.args.item.id c.self.invariant.known
    (ap (λ (s : SeqState). has_seen s.window c.args.item.id) c.self.view_is ∙ c.requires.new)

pub invariant_of-self : goal.invariant_of-self
invariant_of-self c =
    let window = c.mark.ensures.marked in
    let pending = c.in-Ok.ensures.ok in
    let same : length c.self.inside.window ≡ length c.args.self.now.window = ap (λ (s : SeqState). length s.window) c.self.view_is in
    rw (window, pending)
    (kept_item (seq_of c.self.inside) _ _ _ c.self.invariant c.args.item.id c.args.item.bytes (omega (arith, c.requires.client, same))
    (omega (arith, c.number.ensures.number, c.number.ensures.within)))
