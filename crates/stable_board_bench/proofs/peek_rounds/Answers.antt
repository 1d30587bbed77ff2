use Rattle.std.proofs.Common.{ap}
use Rattle.stable_board.specs.Ends.{PublisherEnd}
use Rattle.stable_board_bench.proofs.peek_rounds.Goals as goal

pub claim-sum-requires-clause-replica : goal.claim-sum-requires-clause-replica
claim-sum-requires-clause-replica c = ap (λ (end : PublisherEnd). end.replica) (c.in-Some.ensures _ c.in_ok-_keeper.ensures.writers_are)

pub claim-sum-requires-clause-new : goal.claim-sum-requires-clause-new
claim-sum-requires-clause-new c = ap (λ (end : PublisherEnd). end.did.verified) (c.in-Some.ensures _ c.in_ok-_keeper.ensures.writers_are)
