use Rattle.std.proofs.Common.{◌++◌, ℕ, List, take, sym, ap, ◌∙◌}
use Rattle.lazy_msgs.specs.declared.msg.Msg.{Msg}
use Rattle.lazy_rules.specs.Rows.{each_numbered}
use Rattle.log_reader.specs.Rounds.{turn_sends}
use Rattle.log_reader.proofs.Walks.{numbered_one}
use Rattle.log_reader.proofs.sends.round.Goals as goal

pub loop-shard-preserved : goal.loop-shard-preserved
loop-shard-preserved c =
    let f = turn_sends c.args.fetch.now c.args.turn in
    let k = c.loop-shard.shard in
    let so_far = each_numbered f 0 (take k c.args.config.now.shards) in
    c.in_ok-push_turn.ensures ∙ ap (λ (l : List (ℕ × Msg)). l ++ f k c.as_slice.result.now) c.loop-shard.invariant
    ∙ ap (λ (nodes : List ℕ). so_far ++ f k nodes) c.as_slice.ensures
    ∙ sym (numbered_one f c.args.config.now.shards k c.at.result.now c.at.ensures)
