-- How many batches leave once an answer is noted, batch by batch.
use Rattle.std.proofs.Common.{◌≡◌, ℕ, suc, ◌+◌, List, ◌∷◌, Bool, true, cond, subst, sym, ap, ◌∙◌, arith}
use Rattle.lazy_rules.specs.Flight.{Batch, is_finished, order_noted, with_order}
use Rattle.binder.specs.Binding.{leaving}
use Rattle.binder.specs.Held.{AllFor, Held, batches}

pub leaving_next : (shards followers follower upto : ℕ) (flight : List Held) (first : Held) (others : List Held) (more : ℕ) → flight ≡ first ∷ others → AllFor shards followers flight
    → is_finished first.followers (order_noted upto follower first.batch) ≡ true
    → ((s f : ℕ) → AllFor s f others → more ≡ leaving f (with_order (batches others) follower upto))
    → more + 1 ≡ leaving followers (with_order (batches flight) follower upto)
leaving_next shards followers follower upto flight first others more same all finished rest =
    let all_here : AllFor shards followers (first ∷ others) = subst (AllFor shards followers) same all in
    let y : Batch = order_noted upto follower first.batch in
    let behind : ℕ = leaving followers (with_order (batches others) follower upto) in
    let here : is_finished followers y ≡ true = sym (ap (λ (n : ℕ). is_finished n y) all_here.0.1) ∙ finished in
    let count : leaving followers (with_order (batches (first ∷ others)) follower upto) ≡ suc behind = ap (λ (c : Bool). cond c (suc behind) 0) here in
    let number : leaving followers (with_order (batches flight) follower upto) ≡ leaving followers (with_order (batches (first ∷ others)) follower upto) =
    ap (λ (l : List Held). leaving followers (with_order (batches l) follower upto)) same in
    let more_is : more ≡ behind = rest shards followers all_here.1 in
    omega (arith, count, number, more_is)
