use Rattle.std.proofs.Common.{◌≡◌, take}
use Rattle.lazy_rules.specs.ControlRules.{flush_again_to}
use Rattle.lazy_rules.specs.Rows.{each_numbered}
use Rattle.view_ctl.specs.Flushes.{to_flush}
use Rattle.view_ctl.proofs.controller.Controller.flushes.Given as goal

abbrev pub invariant-loop-shard : goal.invariant-loop-shard
invariant-loop-shard l =
    l.sends ≡ each_numbered (flush_again_to l.self (to_flush l.config l.from l.items l.answered)) 0 (take l.shard l.config.shards)
