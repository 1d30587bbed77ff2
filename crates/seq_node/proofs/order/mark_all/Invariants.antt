use Rattle.std.proofs.Common.{◌≡◌, drop, length, true}
use Rattle.std.specs.Prelude.{nat_lt}
use Rattle.std.specs.List.{list_all}
use Rattle.lazy_rules.specs.Windows.{marked_all}
use Rattle.seq_node.proofs.order.mark_all.Given as goal

abbrev pub invariant-loop-id : goal.invariant-loop-id
invariant-loop-id l = record {
  rest : marked_all l.window (drop l.id-index l.ids) ≡ marked_all l.fn.window l.ids;
  long : length l.window ≡ length l.fn.window;
  inside : list_all (λ x. nat_lt x.client (length l.fn.window)) (drop l.id-index l.ids) ≡ true;
}
