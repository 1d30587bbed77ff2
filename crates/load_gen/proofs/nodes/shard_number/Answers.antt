use Rattle.std.proofs.Common.{◌≡◌, ℕ, ◌*◌, ◌<◌, ◌∙◌, length, sym, ap, subst, arith}
use Rattle.std.specs.Prelude.{◌/◌, ◌%◌}
use Rattle.view_config.specs.Nodes.{shard_id}
use Rattle.view_config.specs.Shape.{Dimensions}
use Rattle.load_gen.specs.Nodes.{shard_replicas}
use Rattle.load_gen.proofs.NodeLists.{length-shard_replicas, shard_among, shard_row}
use Rattle.load_gen.proofs.nodes.shard_number.Goals as goal

-- the place is one of the shape's
few : (s : Dimensions) (k : ℕ) → k < length (shard_replicas s) → k < s.shards * s.copies
few s k within = subst (λ (n : ℕ). k < n) (length-shard_replicas s) within

pub shard_id-requires-clause-shard : goal.shard_id-requires-clause-shard
shard_id-requires-clause-shard c =
    let s = c.args.shape.now in
    let same : s.copies ≡ c.shape.inside.copies = ap (λ (d : Dimensions). d.copies) (sym c.shape.view_is) in
    let rows : s.shards ≡ c.shape.inside.shards = ap (λ (d : Dimensions). d.shards) (sym c.shape.view_is) in
    let row : c.args.k / s.copies < s.shards = shard_row s c.args.k (omega arith) (few s c.args.k c.requires) in
    let here : c.args.k / c.shape.inside.copies < s.shards = subst (λ (n : ℕ). c.args.k / n < s.shards) same row in
    omega arith

pub returns : goal.returns
returns c =
    let s = c.args.shape.now in
    c.shard_id.ensures
    ∙ ap (λ (d : Dimensions). shard_id (c.args.k / d.copies) (c.args.k % d.copies)) c.shape.view_is
    ∙ sym (shard_among s c.args.k (few s c.args.k c.requires))
