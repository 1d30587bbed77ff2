use Rattle.std.proofs.Common.{rules, ◌≡◌, ◌<◌, ◌≤◌, ◌^◌, ℕ, length, refl, sym, ap, ◌∙◌, subst}
use mathlib.Core.Option.{none}
use Rattle.atomic_table.specs.Table.{step}
use Rattle.stable_board.specs.declared.claim.BoardClaim.{BoardClaim}
use Rattle.stable_board.specs.Claims.{packed_claim, claim_in}
use Rattle.stable_board.specs.Ends.{PublisherEnd, publisher_of, with_did}
use Rattle.stable_board.specs.Steps.{with_raised}
use Rattle.stable_board.proofs.Packing.{in_packed}
use Rattle.stable_board.proofs.Turns.{raises_as}
use Rattle.stable_board.proofs.Telling.{told_raise, publisher_after}
use Rattle.stable_board.proofs.publisher.Publisher.raise.Goals as goal

pub pack-requires : goal.pack-requires
pack-requires c =
    let own : c.args.claim.replica < 2 ^ 5 = subst (λ (r : ℕ). r < 2 ^ 5) (sym (c.requires.own ∙ ap (λ (end : PublisherEnd). end.replica) (sym c.self.view_is))) c.self.invariant.2 in
    (c.requires.limits.0, c.requires.limits.1, own)

pub fetch_max-requires : goal.fetch_max-requires
fetch_max-requires c =
    let end = publisher_of c.self.inside.seat.table_id c.self.inside.seat.me.0 in
    let claim = c.args.claim in
    let own : claim.replica ≡ end.replica = c.requires.own ∙ ap (λ (e : PublisherEnd). e.replica) (sym c.self.view_is) in
    let have : claim.stable ≤ length end.did.verified = subst (λ (e : PublisherEnd). claim.stable ≤ length e.did.verified) (sym c.self.view_is) c.requires.verified in
    (search rules, search rules, rw c.pack.ensures (raises_as _ _ _ _ _ (step 0 0 (packed_claim claim) 0 none) claim c.self.invariant.0.view_is have c.requires.limits.1 own refl))

pub returns : goal.returns
returns c =
    let seat = c.self.inside.seat in
    let end = publisher_of seat.table_id seat.me.0 in
    let claim = c.args.claim in
    let told = told_raise _ _ c.pack.result _ _ c.self.invariant.0.view_is c.fetch_max.ensures.2.1 in
    let own : claim.replica < 2 ^ 5 = subst (λ (r : ℕ). r < 2 ^ 5) (sym (c.requires.own ∙ ap (λ (e : PublisherEnd). e.replica) (sym c.self.view_is))) c.self.invariant.2 in
    let said : claim_in c.pack.result ≡ claim = ap claim_in c.pack.ensures ∙ in_packed claim c.requires.limits.1 own in
    let after = publisher_after seat.table_id c.fetch_max.new.seat.table_id seat.me.0 _ _ c.fetch_max.ensures.0 told in
    let here = subst (λ (b : BoardClaim). publisher_of c.fetch_max.new.seat.table_id c.fetch_max.new.seat.me.0 ≡ with_did end (with_raised end.did (b.stable, b.time))) said after in
    subst (λ (e : PublisherEnd). publisher_of c.fetch_max.new.seat.table_id c.fetch_max.new.seat.me.0 ≡ with_did e (with_raised e.did (claim.stable, claim.time))) c.self.view_is here
