use Rattle.std.proofs.Common.{Some, ◌∙◌, ap, sym}
use Rattle.lazy_core.proofs.Seats.{no_store, store_found, store_in}
use Rattle.lazy_core.proofs.snapshot.Snapshot.store.Goals as goal

pub returns-in_err-shard : goal.returns-in_err-shard
returns-in_err-shard c = rw c.from_residual.ensures (ap store_in c.in_err-shard.ensures.state ∙ sym (store_found c.args.self.now c.state.ensures.laid c.args.node))

pub returns-in-Shard : goal.returns-in-Shard
returns-in-Shard c =
    ap Some c.store.ensures
    ∙ sym (ap (λ x. store_in (Some x)) c.in-Shard.is)
    ∙ ap store_in c.in_ok-shard.ensures.state ∙ sym (store_found c.args.self.now c.state.ensures.laid c.args.node)

pub returns-in_default : goal.returns-in_default
returns-in_default c = sym (no_store c.in_ok-shard.field-0.now c.in_default.not-Shard) ∙ ap store_in c.in_ok-shard.ensures.state ∙ sym (store_found c.args.self.now c.state.ensures.laid c.args.node)
