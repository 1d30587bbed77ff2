use Rattle.std.proofs.Common.{List, length}
use Rattle.stable_board.specs.declared.views.Published.{Published}
use Rattle.stable_board.specs.Ends.{PublisherEnd, IsKeeping, known_of, with_published}
use Rattle.stable_board.specs.Keeping.{IsWriter}
use Rattle.stable_board.proofs.Ending.{Ending}
use Rattle.stable_board.proofs.keeper.end_publishers.Given as goal

abbrev pub invariant-loop-rest : goal.invariant-loop-rest
invariant-loop-rest l =
    Ending (λ (end : PublisherEnd). end.did) (IsWriter l.table.shared.table_id) (λ (known : List Published). IsKeeping l.table.shared.table_id l.seat (with_published (known_of l.fn.seat.me.0) known)) l.fn.publishers l.rest.items

abbrev pub decreases-loop-rest : goal.decreases-loop-rest
decreases-loop-rest l = length l.rest.items
