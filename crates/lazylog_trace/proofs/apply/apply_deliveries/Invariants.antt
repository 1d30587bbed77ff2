use Rattle.std.proofs.Common.{◌≡◌, ◌+◌, ◌-◌}
use Rattle.lazylog_trace.specs.Apply.{Advances, deliveries, applied}
use Rattle.lazylog_trace.proofs.apply.apply_deliveries.Given as goal

-- what is left to deliver leads from here to where all leads
abbrev pub invariant-loop-i : goal.invariant-loop-i
invariant-loop-i l = record {
  on : applied l.fn.world (deliveries l.first l.count) ≡ applied l.world (deliveries (l.first + l.i) (l.count - l.i));
  advances : Advances l.i l.fn.world l.world;
}
