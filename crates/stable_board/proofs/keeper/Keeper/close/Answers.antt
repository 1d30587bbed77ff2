use Rattle.std.proofs.Common.{rules, ◌≡◌, ◌∙◌, sym, ap, length}
use mathlib.Core.Option.{none}
use Rattle.atomic_table.specs.Table.{step}
use Rattle.stable_board.specs.declared.claim.BoardClaim.{BoardClaim}
use Rattle.stable_board.specs.Ends.{KeeperEnd, keeper_of}
use Rattle.stable_board.proofs.Settling.{settles_as}
use Rattle.stable_board.proofs.Closing.{closes, knows_all, told_settle}
use Rattle.stable_board.proofs.keeper.Keeper.close.Goals as goal

pub load-requires : goal.load-requires
load-requires c =
    let seat = c.self.inside.seat in
    let end = keeper_of seat.table_id seat.me.0 in
    let writers : length c.args.publishers ≡ end.publishers = c.requires.writer_count ∙ sym (ap (λ (k : KeeperEnd). k.publishers) c.self.view_is) in
    let readers : length c.args.peekers ≡ end.peekers = c.requires.reader_count ∙ sym (ap (λ (k : KeeperEnd). k.peekers) c.self.view_is) in
    let all = knows_all seat.me.0 c.end_publishers.new.seat.me.0 end c.args.publishers c.args.peekers c.self.invariant.view_is c.end_publishers.ensures.view_is writers readers in
    (search rules, search rules, settles_as _ _ _ _ (step 0 0 0 0 none) c.end_peekers.ensures.view_is all.publishers all.peekers)

pub returns : goal.returns
returns c =
    let seat = c.self.inside.seat in
    let end = keeper_of seat.table_id seat.me.0 in
    let writers : length c.args.publishers ≡ end.publishers = c.requires.writer_count ∙ sym (ap (λ (k : KeeperEnd). k.publishers) c.self.view_is) in
    let readers : length c.args.peekers ≡ end.peekers = c.requires.reader_count ∙ sym (ap (λ (k : KeeperEnd). k.peekers) c.self.view_is) in
    let all = knows_all seat.me.0 c.end_publishers.new.seat.me.0 end c.args.publishers c.args.peekers c.self.invariant.view_is c.end_publishers.ensures.view_is writers readers in
    closes c.args.publishers c.args.peekers _ _ c.load.result _ all.published all.peeked (ap (λ (b : BoardClaim). b.stable) c.unpack.ensures)
    (told_settle _ _ _ _ c.end_peekers.ensures.view_is c.load.ensures.2.1)
