use Rattle.std.proofs.Common.{◌≡◌, ℕ, subst, arith}
use Rattle.shard_store.specs.Places.{IsGivenUp}
use Rattle.shard_store.proofs.order.give_up_cells.Goals as goal

pub returns : goal.returns
returns c =
    let end : c.loop-place.place ≡ c.args.to = omega (arith, c.requires, c.loop-place.auto.place-end) in
    subst (λ (n : ℕ). IsGivenUp c.args.from n c.args.cells.now c.loop-place.cells) end c.loop-place.invariant
