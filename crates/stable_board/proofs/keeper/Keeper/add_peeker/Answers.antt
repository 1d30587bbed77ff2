use Rattle.std.proofs.Common.{rules}
use Rattle.stable_board.proofs.Joining.{splits_peeker_as}
use Rattle.stable_board.proofs.keeper.Keeper.add_peeker.Goals as goal

pub split_seat-seat-requires : goal.split_seat-seat-requires
split_seat-seat-requires c = (search rules, search rules, splits_peeker_as _ _ _ c.self.invariant.view_is)
