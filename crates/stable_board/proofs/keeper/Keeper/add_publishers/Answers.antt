use Rattle.std.proofs.Common.{rules, ◌∙◌, ap}
use Rattle.stable_board.specs.Ends.{KeeperEnd}
use Rattle.stable_board.specs.Keeping.{new_publisher_end}
use Rattle.stable_board.proofs.Rows.{row_none, row_more}
use Rattle.stable_board.proofs.keeper.Keeper.add_publishers.Goals as goal

pub loop-number-init : goal.loop-number-init
loop-number-init c = (search rules, row_none _ _ c.new-writers.ensures)

pub loop-number-preserved : goal.loop-number-preserved
loop-number-preserved c =
    let i = c.loop-number.invariant in
    let end = c.in_ok-add_publisher.ensures.end ∙ ap (λ (k : KeeperEnd). new_publisher_end k.board k.publishers) i.0 in
    (search rules, row_more _ _ _ _ _ i.1 end c.in_ok-push.ensures.ok)
