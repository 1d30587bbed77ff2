use Rattle.std.proofs.Common.{List, length}
use Rattle.stable_board.specs.declared.views.Peeked.{Peeked}
use Rattle.stable_board.specs.Ends.{PeekerEnd, IsKeeping, known_of, with_peeked}
use Rattle.stable_board.specs.Keeping.{IsReader}
use Rattle.stable_board.proofs.Ending.{Ending}
use Rattle.stable_board.proofs.keeper.end_peekers.Given as goal

abbrev pub invariant-loop-rest : goal.invariant-loop-rest
invariant-loop-rest l =
    Ending (λ (end : PeekerEnd). end.saw) (IsReader l.table.shared.table_id) (λ (known : List Peeked). IsKeeping l.table.shared.table_id l.seat (with_peeked (known_of l.fn.seat.me.0) known)) l.fn.peekers l.rest.items

abbrev pub decreases-loop-rest : goal.decreases-loop-rest
decreases-loop-rest l = length l.rest.items
