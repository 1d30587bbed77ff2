use Rattle.std.proofs.Common.{rules, ◌≡◌, ◌<◌, ◌+◌, ℕ, length, sym, subst, arith}
use Rattle.stable_board.specs.Ends.{PublisherEnd, publisher_of}
use Rattle.stable_board.proofs.Turns.{sets_here}
use Rattle.stable_board.proofs.publisher.Publisher.set.Goals as goal

pub compare_exchange-found-requires : goal.compare_exchange-found-requires
compare_exchange-found-requires c =
    let end = publisher_of c.self.inside.seat.table_id c.self.inside.seat.me.0 in
    let place : ℕ = length end.did.verified in
    let room : place < 65536 = subst (λ (e : PublisherEnd). length e.did.verified < 65536) (sym c.self.view_is) c.requires in
    let words : c.deref.result.now.shared.table_id.words ≡ 65537 = search rules in
    let here : c.self.inside.verified ≡ place = c.self.invariant.1 in
    (search rules, subst (λ (n : ℕ). c.self.inside.verified + 1 < n) (sym words) (omega (arith, here, room)), sets_here _ _ _ c.self.inside.verified c.pack-own.result end.did _ c.args.id c.self.invariant.0.view_is c.pack-own.ensures.valid room here c.pack-own.ensures.packed)
