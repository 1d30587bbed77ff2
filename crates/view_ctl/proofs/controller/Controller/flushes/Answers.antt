use Rattle.std.proofs.Common.{ℕ, List, ◌++◌, sym, ap, ◌∙◌}
use Rattle.lazy_msgs.specs.declared.msg.Msg.{Msg}
use Rattle.lazy_rules.specs.ControlRules.{flush_again_to}
use Rattle.view_ctl.specs.Flushes.{to_flush}
use Rattle.view_ctl.proofs.Flushes.{each_more}
use Rattle.view_ctl.proofs.controller.Controller.flushes.Goals as goal

pub loop-shard-preserved : goal.loop-shard-preserved
loop-shard-preserved c =
    let make : ℕ → List ℕ → List (ℕ × Msg) =
    flush_again_to c.args.self.now (to_flush c.args.config.now c.args.from c.args.items.now c.args.answered.now) in
    let shards = c.args.config.now.shards in
    let i = c.loop-shard.shard in
    let nodes = c.at-nodes.result.now in
    c.in_ok-add_flush.ensures
    ∙ ap (λ (sends : List (ℕ × Msg)). sends ++ make i nodes) c.loop-shard.invariant
    ∙ sym (each_more make shards i nodes c.at-nodes.ensures)
