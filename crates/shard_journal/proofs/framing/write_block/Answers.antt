use Rattle.std.proofs.Common.{◌≡◌, ℕ, List, subst, ◌∙◌}
use Rattle.std.specs.Prelude.{OnOk}
use Rattle.shard_journal.proofs.Bodies.{behind_is, framed_len}
use Rattle.shard_journal.proofs.framing.write_block.Goals as goal

pub put_body-requires-clause-head : goal.put_body-requires-clause-head
put_body-requires-clause-head c = (framed_len c.args.block c.as_slice.result.now c.requires (c.as_slice.ensures ∙ c.in_ok-framed.ensures)).0

pub put_body-requires-clause-short : goal.put_body-requires-clause-short
put_body-requires-clause-short c = (framed_len c.args.block c.as_slice.result.now c.requires (c.as_slice.ensures ∙ c.in_ok-framed.ensures)).1

pub returns : goal.returns
returns c =
    subst (λ (l : List ℕ). OnOk c.put_body.result (c.put_body.new.buffer.items ≡ l)) (behind_is c.args.block c.as_slice.result.now (c.as_slice.ensures ∙ c.in_ok-framed.ensures)) c.put_body.ensures
