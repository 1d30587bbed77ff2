use Rattle.std.proofs.Common.{◌≡◌, ◌++◌, drop, Some}
use Rattle.std.specs.Prelude.{slice_get}
use Rattle.lazy_rules.specs.Flight.{Batch, now_ordering}
use Rattle.lazy_rules.specs.Leading.{order_sends, order_to}
use Rattle.lazy_rules.specs.Roles.{followers_of}
use Rattle.lazy_rules.specs.Rows.{each_numbered}
use Rattle.seq_node.proofs.node.SeqNode.add_to_all.Given as goal

abbrev pub invariant-loop-follower : goal.invariant-loop-follower
invariant-loop-follower l =
    (batch : Batch) → slice_get l.fn.self.flight l.i ≡ Some batch
    → l.sends ++ each_numbered (order_to l.fn.self (now_ordering batch)) l.follower (drop l.follower (followers_of l.fn.self.config)) ≡ l.fn.sends ++ order_sends l.fn.self (now_ordering batch)
