use Rattle.std.proofs.Common.{◌≡◌, ◌+◌, ◌-◌, ◌∙◌, sym, ap, arith}
use Rattle.std.specs.Prelude.{slice_index}
use Rattle.view_config.specs.Shape.{Dimensions}
use Rattle.load_gen.specs.Nodes.{all_nodes}
use Rattle.load_gen.proofs.NodeLists.{client_at, controller_at, length-all_nodes, seq_among, shard_behind}
use Rattle.load_gen.proofs.nodes.node_number.Goals as goal

pub returns-then-n-shape : goal.returns-then-n-shape
returns-then-n-shape c =
    let s = c.args.shape.now in
    let clients : c.shape.inside.clients ≡ s.clients = ap (λ (d : Dimensions). d.clients) c.shape.view_is in
    c.client_id.ensures ∙ sym (client_at s c.args.n (omega arith))

pub returns-then-n-shape-2 : goal.returns-then-n-shape-2
returns-then-n-shape-2 c =
    let s = c.args.shape.now in
    let clients : c.shape.inside.clients ≡ s.clients = ap (λ (d : Dimensions). d.clients) c.shape.view_is in
    let here : s.clients ≡ c.args.n = omega arith in
    sym (controller_at s) ∙ ap (slice_index (all_nodes s)) here

pub returns-then-behind-seqs : goal.returns-then-behind-seqs
returns-then-behind-seqs c =
    let s = c.args.shape.now in
    let clients : c.shape.inside.clients ≡ s.clients = ap (λ (d : Dimensions). d.clients) c.shape.view_is in
    let seqs : c.shape.inside.seq + c.shape.inside.spares ≡ s.seq + s.spares = ap (λ (d : Dimensions). d.seq + d.spares) c.shape.view_is in
    let i = c.args.n - c.shape.inside.clients - 1 in
    let here : s.clients + 1 + i ≡ c.args.n = omega arith in
    c.seq_id.ensures ∙ sym (seq_among s i (omega arith)) ∙ ap (slice_index (all_nodes s)) here

pub shard_number-requires : goal.shard_number-requires
shard_number-requires c =
    let s = c.args.shape.now in
    let clients : c.shape.inside.clients ≡ s.clients = ap (λ (d : Dimensions). d.clients) c.shape.view_is in
    let seqs : c.shape.inside.seq + c.shape.inside.spares ≡ s.seq + s.spares = ap (λ (d : Dimensions). d.seq + d.spares) c.shape.view_is in
    let long = length-all_nodes s in
    omega arith

pub returns : goal.returns
returns c =
    let s = c.args.shape.now in
    let clients : c.shape.inside.clients ≡ s.clients = ap (λ (d : Dimensions). d.clients) c.shape.view_is in
    let seqs : c.shape.inside.seq + c.shape.inside.spares ≡ s.seq + s.spares = ap (λ (d : Dimensions). d.seq + d.spares) c.shape.view_is in
    let k = c.args.n - c.shape.inside.clients - 1 - (c.shape.inside.seq + c.shape.inside.spares) in
    let here : s.clients + 1 + (s.seq + s.spares + k) ≡ c.args.n = omega arith in
    c.shard_number.ensures ∙ sym (shard_behind s k) ∙ ap (slice_index (all_nodes s)) here
