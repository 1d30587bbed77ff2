use Rattle.std.proofs.Common.{◌≡◌}
use Rattle.stable_board.specs.Keeping.{IsRow, new_peeker_end}
use Rattle.stable_board.proofs.keeper.Keeper.add_peekers.Given as goal

abbrev pub invariant-loop-number : goal.invariant-loop-number
invariant-loop-number l = (l.self ≡ record { board = l.fn.self.board; publishers = l.fn.self.publishers; peekers = l._number }) × IsRow l._number (new_peeker_end l.fn.self.board) l.readers
