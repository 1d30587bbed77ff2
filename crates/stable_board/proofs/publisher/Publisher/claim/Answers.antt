use Rattle.std.proofs.Common.{rules, ◌≡◌, ◌<◌, ℕ, length, Some, true, ap, ◌∙◌, subst, ⊎_elim, inl, inr}
use Rattle.std.specs.Prelude.{slice_get, ◌==◌, ◌||◌}
use Rattle.rec_id.specs.Identity.{packed}
use Rattle.stable_board.specs.Ends.{PublisherEnd}
use Rattle.stable_board.specs.Claiming.{final_ids}
use Rattle.stable_board.proofs.Turns.{passes}
use Rattle.stable_board.proofs.Claiming.{verify_next, final_at}
use Rattle.stable_board.proofs.publisher.Publisher.claim.Goals as goal

pub loop-self-preserved : goal.loop-self-preserved
loop-self-preserved c =
    let store = c.args.store.now in
    let cell = c.cell.result.now in
    let found : ℕ = c.set-found.result in
    let place : c.self.inside.verified ≡ length c.loop-self.self.did.verified = c.self.invariant.1 ∙ ap (λ (e : PublisherEnd). length e.did.verified) c.self.view_is in
    let room : length c.loop-self.self.did.verified < store.stable = subst (λ (n : ℕ). n < store.stable) place (subst (λ (n : ℕ). c.self.inside.verified < n) c.stable-stable.ensures c.loop-self-test.true) in
    let here : slice_get (final_ids store) (length c.loop-self.self.did.verified) ≡ Some cell.id =
    final_at store _ cell room (subst (λ (n : ℕ). slice_get store.order n ≡ Some cell) place c.cell.ensures) in
    let own : (found == 0 || found == packed cell.id) ≡ true =
    passes found (packed cell.id) (⊎_elim (λ h. inr (h.1 ∙ c.pack-own.ensures.packed)) inl c.else-found-ne0.either) in
    verify_next c.args.self.now store c.loop-self.self c.set-found.new.self cell.id found (search rules) c.loop-self.invariant c.pack-own.ensures.valid room here own c.set-found.ensures.did
