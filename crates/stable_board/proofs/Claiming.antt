-- How a claim goes from place to place, and what it has done when it ends.
use Rattle.std.proofs.Common.{◌≡◌, ℕ, ◌+◌, ◌<◌, ◌≤◌, List, [], ◌∷◌, ◌++◌, length, map, take, refl, sym, ap, ◌∙◌, subst, arith, zero, suc, Some, Bool, true, length-append}
use Rattle.std.specs.Prelude.{slice_get, ◌==◌, ◌||◌, if◌then◌else◌}
use Rattle.std.proofs.Math.ListN.{get_or}
use Rattle.std.proofs.lemmas.List.{take_more, length-take-le, length-map}
use Rattle.std.proofs.lemmas.Option.{slice_get-map, slice_get_within, slice_get-get_or}
use Rattle.lazy_rules.specs.Store.{Store}
use Rattle.rec_id.specs.Identity.{Identity, IsIdentity, packed}
use Rattle.rec_id.specs.declared.item.Cell.{Cell}
use Rattle.stable_board.specs.declared.views.Published.{Published}
use Rattle.stable_board.specs.Claims.{identity_in}
use Rattle.stable_board.specs.Steps.{with_verified, with_stop}
use Rattle.stable_board.specs.Told.{after_set}
use Rattle.stable_board.specs.Ends.{PublisherEnd, with_did}
use Rattle.stable_board.specs.Claiming.{final_ids}
use Rattle.stable_board.proofs.Packing.{identity_packed}

module _ {A : Type 0} where
  take_at : (n : ℕ) (xs : List A) (i : ℕ) (x : A) → i < n → slice_get xs i ≡ Some x → slice_get (take n xs) i ≡ Some x
  take_at n [] i x lt e = absurd (cc)
  take_at zero (y ∷ ys) i x lt e = absurd (omega (arith, lt))
  take_at (suc n) (y ∷ ys) zero x lt e = e
  take_at (suc n) (y ∷ ys) (suc i) x lt e = take_at n ys i x (omega (arith, lt)) e

  take_next : (xs : List A) (i : ℕ) (x : A) → slice_get xs i ≡ Some x → take (i + 1) xs ≡ take i xs ++ x ∷ []
  take_next xs i x e =
      let within = slice_get_within xs i x e in
      let at : Some (get_or xs i x) ≡ Some x = sym (slice_get-get_or xs i x within) ∙ e in
      let same : get_or xs i x ≡ x = cc in
      take_more xs i x within ∙ ap (λ (y : A). take i xs ++ y ∷ []) same

-- the identity of a final cell
pub final_at : (store : Store) (place : ℕ) (cell : Cell) → place < store.stable → slice_get store.order place ≡ Some cell → slice_get (final_ids store) place ≡ Some cell.id
final_at store place cell lt e = take_at store.stable (map (λ c. c.id) store.order) place cell.id lt (slice_get-map (λ c. c.id) store.order place ∙ rw e refl)

pub final_length : (store : Store) → store.stable ≤ length store.order → length (final_ids store) ≡ store.stable
final_length store sound = length-take-le store.stable (map (λ c. c.id) store.order) (subst (λ (n : ℕ). store.stable ≤ n) (sym (length-map store.order (λ c. c.id))) sound)

-- what a publisher did, with the identities of the first places verified
abbrev so_far : Published → Store → ℕ → Published
so_far did store n = record { verified = take n (final_ids store); raised = did.raised; stops = did.stops }

pub record Verifying (first : PublisherEnd) (store : Store) (now : PublisherEnd) : Type 0 where
  pub is : now ≡ with_did first (so_far first.did store (length now.did.verified))
  pub from : length first.did.verified ≤ length now.did.verified
  pub upto : length now.did.verified ≤ store.stable

pub verify_next : (first : PublisherEnd) (store : Store) (now next : PublisherEnd) (id : Identity) (found : ℕ) → store.stable ≤ length store.order → Verifying first store now → IsIdentity id
    → length now.did.verified < store.stable → slice_get (final_ids store) (length now.did.verified) ≡ Some id → (found == 0 || found == packed id) ≡ true
    → next ≡ with_did now (after_set (length now.did.verified) (packed id) found now.did) → Verifying first store next
verify_next first store now next id found sound v valid room here own is =
    let n : ℕ = length now.did.verified in
    let more : after_set n (packed id) found now.did ≡ with_verified now.did id =
    ap (λ (b : Bool). if b then with_verified now.did (identity_in (packed id)) else with_stop now.did (n, identity_in found)) own ∙ ap (with_verified now.did) (identity_packed id valid) in
    let next_is : next ≡ with_did now (with_verified now.did id) = is ∙ ap (with_did now) more in
    let verified : now.did.verified ++ id ∷ [] ≡ take (n + 1) (final_ids store) = ap (λ (e : PublisherEnd). e.did.verified ++ id ∷ []) v.is ∙ sym (take_next (final_ids store) n id here) in
    let count : length next.did.verified ≡ n + 1 = ap (λ (e : PublisherEnd). length e.did.verified) next_is ∙ (length-append now.did.verified (id ∷ [])) in
    let grown : next ≡ with_did first (so_far first.did store (n + 1)) =
    next_is ∙ ((λ i. with_did (v.is i) (record { verified = now.did.verified ++ id ∷ []; raised = (v.is i).did.raised; stops = (v.is i).did.stops }))
    ∙ (λ i. with_did first (record { verified = verified i; raised = first.did.raised; stops = first.did.stops }))) in
    record {
      is = subst (λ (k : ℕ). next ≡ with_did first (so_far first.did store k)) (sym count) grown;
      from = omega (arith, count, v.from);
      upto = omega (arith, count, room);
    }
