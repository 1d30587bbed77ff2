use Rattle.std.proofs.Common.{ap}
use Rattle.stable_board.specs.Ends.{PublisherEnd}
use Rattle.stable_board_bench.proofs.claim_round.Goals as goal

pub claim-requires-clause-replica : goal.claim-requires-clause-replica
claim-requires-clause-replica c = ap (λ (end : PublisherEnd). end.replica) (c.in-Some.ensures _ c.in_ok-_keeper.ensures.writers_are)

pub claim-requires-clause-new : goal.claim-requires-clause-new
claim-requires-clause-new c = ap (λ (end : PublisherEnd). end.did.verified) (c.in-Some.ensures _ c.in_ok-_keeper.ensures.writers_are)
