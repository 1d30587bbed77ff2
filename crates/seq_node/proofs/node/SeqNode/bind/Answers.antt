use Rattle.std.proofs.Common.{◌≡◌, ℕ, [], length, ap, ◌∙◌, sym, subst, true}
use Rattle.std.specs.Prelude.{nat_lt}
use Rattle.std.specs.List.{list_all}
use Rattle.lazy_rules.specs.SeqState.{SeqState}
use Rattle.seq_node.specs.NodeView.{seq_of}
use Rattle.seq_node.proofs.Keeping.{kept_bound}
use Rattle.seq_node.proofs.node.SeqNode.bind.Goals as goal

pub invariant_of-self : goal.invariant_of-self
invariant_of-self c =
    let s : SeqState = seq_of c.self.inside in
    let ids = c.args.ids.now in
    let clients : length s.window ≡ c.args.self.now.shape.clients = c.self.invariant.clients ∙ ap (λ (x : SeqState). x.shape.clients) c.self.view_is in
    let inside : list_all (λ x. nat_lt x.client (length s.window)) ids ≡ true =
    subst (λ (n : ℕ). list_all (λ x. nat_lt x.client n) ids ≡ true) (sym clients) c.requires.clients in
    let idle : s.flight ≡ [] = ap (λ (x : SeqState). x.flight) c.self.view_is ∙ c.requires.idle in
    rw (c.len.ensures, c.mark_all.ensures, c.remove_ids.ensures, c.as_slice.ensures, c.as_slice-2.ensures)
    (kept_bound s _ _ _ c.self.invariant ids inside idle)
