use Rattle.std.proofs.Common.{◌≡◌}
use Rattle.stable_board.specs.Keeping.{IsRow, new_publisher_end}
use Rattle.stable_board.proofs.keeper.Keeper.add_publishers.Given as goal

abbrev pub invariant-loop-number : goal.invariant-loop-number
invariant-loop-number l = (l.self ≡ record { board = l.fn.self.board; publishers = l._number; peekers = l.fn.self.peekers }) × IsRow l._number (new_publisher_end l.fn.self.board) l.writers
