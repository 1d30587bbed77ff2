use Rattle.std.proofs.Common.{rules, ◌<◌, sym, subst}
use Rattle.stable_board.specs.Ends.{KeeperEnd}
use Rattle.stable_board.proofs.Joining.{splits_publisher_as}
use Rattle.stable_board.proofs.keeper.Keeper.add_publisher.Goals as goal

pub split_seat-seat-requires : goal.split_seat-seat-requires
split_seat-seat-requires c =
    let few = subst (λ (end : KeeperEnd). end.publishers < 32) (sym c.self.view_is) c.requires in
    (search rules, search rules, splits_publisher_as _ _ _ c.self.invariant.view_is few)
