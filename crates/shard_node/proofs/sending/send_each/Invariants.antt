use Rattle.std.proofs.Common.{◌≡◌, ◌++◌, take}
use Rattle.lazy_rules.specs.Rows.{to_each}
use Rattle.shard_node.proofs.sending.send_each.Given as goal

abbrev pub invariant-loop-node : goal.invariant-loop-node
invariant-loop-node l = record {
  sends : l.sends ≡ l.initial.sends ++ to_each (take l.node-index l.others) l.fn.msg;
  msg : l.msg ≡ l.fn.msg;
}
