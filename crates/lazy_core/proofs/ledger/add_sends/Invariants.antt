use Rattle.std.proofs.Common.{◌≡◌, ◌+◌, ◌≤◌, ◌++◌, length, vec_len, vec_capacity}
use Rattle.std.specs.Vec.Iter.{into_iter_items}
use Rattle.lazy_rules.specs.WorldRules.{enveloped}
use Rattle.lazy_core.proofs.ledger.add_sends.Given as goal

abbrev pub invariant-loop-to : goal.invariant-loop-to
invariant-loop-to l = record {
  sent : l.sent.items ≡ l.initial.sent.items ++ enveloped l.sender l.time l.yielded;
  whole : l.yielded ++ into_iter_items l.to-iterator ≡ l.fn.sends;
  room : vec_len l.sent + length (into_iter_items l.to-iterator) ≤ vec_capacity l.sent;
}
