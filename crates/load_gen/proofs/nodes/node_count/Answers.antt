use Rattle.std.proofs.Common.{ℕ, ◌+◌, ◌∙◌, sym, ap}
use Rattle.view_config.specs.Shape.{Dimensions}
use Rattle.load_gen.proofs.NodeLists.{length-all_nodes}
use Rattle.load_gen.proofs.nodes.node_count.Goals as goal

pub returns : goal.returns
returns c =
    let s = c.args.shape.now in
    ap (λ (d : Dimensions). d.clients + 1 + d.seq + d.spares + c.shard_count.result) c.shape.view_is
    ∙ ap (λ (n : ℕ). s.clients + 1 + s.seq + s.spares + n) c.shard_count.ensures.count
    ∙ sym (length-all_nodes s)
