use Rattle.std.proofs.Common.{◌≡◌, ◌≤◌, ◌-◌, drop, take}
use Rattle.lazy_rules.specs.WorldRules.{ids_in}
use Rattle.lazy_core.proofs.peek.ids_in.Given as goal

abbrev pub invariant-loop-place : goal.invariant-loop-place
invariant-loop-place l = record {
  ids : l.ids ≡ ids_in (take (l.place - l.from) (drop l.from l.store.order));
  far : l.place-end ≤ l.from → l.place ≡ l.from;
}
