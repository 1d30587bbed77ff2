-- How many batches leave once a shard's answer is noted and batches have passed.
use Rattle.std.proofs.Common.{◌≡◌, ℕ, suc, List, ◌∷◌, Bool, true, false, not, ◌&&◌, cond, eqb, subst, inl, inr, sym, ap, ◌∙◌, refl}
use Rattle.std.proofs.lemmas.Bool.{cases_Bool, cond_both}
use Rattle.lazy_rules.specs.Flight.{Batch, answered_by, batch_end, has_all, is_finished, is_placing_to, now_ordering, passed, place_noted, with_place}
use Rattle.binder.specs.Binding.{leaving, once_placed}
use Rattle.binder.specs.Held.{AllFor, Held, batches}

-- an answer leaves a batch ordered, or not
pub still_ordering : (upto shard : ℕ) (x : Batch) → (place_noted upto shard x).ordering ≡ x.ordering
still_ordering upto shard x =
    cond_both (is_placing_to upto x) (record x { placed = answered_by x.placed shard }) x (λ (b : Batch). b.ordering ≡ x.ordering) (λ _. refl) (λ _. refl)

-- it leaves as it is a batch that is ordered
pub noted_ordered : (upto shard : ℕ) (x : Batch) → x.ordering ≡ true → place_noted upto shard x ≡ x
noted_ordered upto shard x ordered =
    ap (λ (b : Bool). cond (not b && eqb (batch_end x) upto) (record x { placed = answered_by x.placed shard }) x) ordered

pub once_ordered : (shards upto shard : ℕ) (x : Batch) → x.ordering ≡ true → once_placed shards upto shard x ≡ x
once_ordered shards upto shard x ordered =
    let y : Batch = place_noted upto shard x in
    ap (λ (b : Bool). cond b x (cond (has_all shards y.placed) (now_ordering y) y)) ordered

pub once_passed : (shards upto shard : ℕ) (x : Batch) → x.ordering ≡ false → has_all shards (place_noted upto shard x).placed ≡ true
    → once_placed shards upto shard x ≡ now_ordering (place_noted upto shard x)
once_passed shards upto shard x placing all =
    let y : Batch = place_noted upto shard x in
    ap (λ (b : Bool). cond b x (cond (has_all shards y.placed) (now_ordering y) y)) placing
    ∙ ap (λ (b : Bool). cond b (now_ordering y) y) all

pub once_waiting : (shards upto shard : ℕ) (x : Batch) → x.ordering ≡ false → has_all shards (place_noted upto shard x).placed ≡ false
    → once_placed shards upto shard x ≡ place_noted upto shard x
once_waiting shards upto shard x placing lacks =
    let y : Batch = place_noted upto shard x in
    ap (λ (b : Bool). cond b x (cond (has_all shards y.placed) (now_ordering y) y)) placing
    ∙ ap (λ (b : Bool). cond b (now_ordering y) y) lacks

-- a batch that is being placed isn't finished
pub placing_unfinished : (followers : ℕ) (x : Batch) → x.ordering ≡ false → is_finished followers x ≡ false
placing_unfinished followers x placing = ap (λ (b : Bool). b && has_all followers x.ordered) placing

module _ (shards followers shard upto : ℕ) where
  pub passed_next : (x : Batch) (xs : List Batch)
      → leaving followers (passed shards (with_place (x ∷ xs) shard upto))
      ≡ cond (is_finished followers (once_placed shards upto shard x)) (suc (leaving followers (passed shards (with_place xs shard upto)))) 0
  passed_next x xs =
      let y : Batch = place_noted upto shard x in
      let others : List Batch = with_place xs shard upto in
      let rest = suc (leaving followers (passed shards others)) in
      elim (cases_Bool x.ordering) [
        | inl ordered ↦
            let now : y.ordering ≡ true = still_ordering upto shard x ∙ ordered in
            ap (λ (b : Bool). leaving followers (cond b (y ∷ passed shards others) (cond (has_all shards y.placed) (now_ordering y ∷ passed shards others) (y ∷ others)))) now
            ∙ ap (λ (b : Batch). cond (is_finished followers b) rest 0) (noted_ordered upto shard x ordered ∙ sym (once_ordered shards upto shard x ordered))
        | inr placing ↦
            let now : y.ordering ≡ false = still_ordering upto shard x ∙ placing in
            elim (cases_Bool (has_all shards y.placed)) [
              | inl all ↦
                  ap (λ (b : Bool). leaving followers (cond b (y ∷ passed shards others) (cond (has_all shards y.placed) (now_ordering y ∷ passed shards others) (y ∷ others)))) now
                  ∙ ap (λ (b : Bool). leaving followers (cond b (now_ordering y ∷ passed shards others) (y ∷ others))) all
                  ∙ ap (λ (b : Batch). cond (is_finished followers b) rest 0) (sym (once_passed shards upto shard x placing all))
              | inr lacks ↦
                  ap (λ (b : Bool). leaving followers (cond b (y ∷ passed shards others) (cond (has_all shards y.placed) (now_ordering y ∷ passed shards others) (y ∷ others)))) now
                  ∙ ap (λ (b : Bool). leaving followers (cond b (now_ordering y ∷ passed shards others) (y ∷ others))) lacks
                  ∙ ap (λ (b : Bool). cond b (suc (leaving followers others)) 0) (placing_unfinished followers y now)
                  ∙ sym (ap (λ (b : Batch). cond (is_finished followers b) rest 0) (once_waiting shards upto shard x placing lacks)
                  ∙ ap (λ (b : Bool). cond b rest 0) (placing_unfinished followers y now))
            ]
      ]

-- the same of batches that are held, where the first leaves and where it doesn't
pub placed_next : (shards followers shard upto : ℕ) (flight : List Held) (first : Held) (others : List Held) (b : Bool) → flight ≡ first ∷ others → AllFor shards followers flight
    → is_finished first.followers (once_placed first.shards upto shard first.batch) ≡ b
    → leaving followers (passed shards (with_place (batches flight) shard upto)) ≡ cond b (suc (leaving followers (passed shards (with_place (batches others) shard upto)))) 0
placed_next shards followers shard upto flight first others b same all finished =
    let all_here : AllFor shards followers (first ∷ others) = subst (AllFor shards followers) same all in
    let more : ℕ = suc (leaving followers (passed shards (with_place (batches others) shard upto))) in
    let here : is_finished followers (once_placed shards upto shard first.batch) ≡ b =
    sym (ap (λ (n : ℕ). is_finished n (once_placed first.shards upto shard first.batch)) all_here.0.1 ∙ ap (λ (n : ℕ). is_finished followers (once_placed n upto shard first.batch)) all_here.0.0) ∙ finished in
    ap (λ (l : List Held). leaving followers (passed shards (with_place (batches l) shard upto))) same
    ∙ passed_next shards followers shard upto first.batch (batches others)
    ∙ ap (λ (c : Bool). cond c more 0) here
