-- What stays true of a flight.
use Rattle.std.proofs.Common.{◌≡◌, ℕ, ◌+◌, ◌^◌, ◌<◌, ◌≤◌, List, [], ◌∷◌, ◌++◌, Bool, true, false, not, ◌||◌, cond, length, map, subst, sym, ap, ◌∙◌, refl, arith}
use Rattle.std.specs.List.{list_any}
use Rattle.std.proofs.lemmas.Bool.{cond_both, or_parts, not-true, not_from_false}
use Rattle.std.proofs.lemmas.List.{length_push}
use Rattle.lazy_rules.specs.Flight.{Batch, batch_end, flight_end, new_batch, with_batch, is_placing_to, is_ordering_to, has_placing, has_ordering, answered_by, with_place, with_order, has_all, now_ordering, passed}
use Rattle.binder.specs.Binding.{placed_flight, ordered_flight}
use Rattle.binder.specs.Sound.{flight_start, IsNext, IsChain, are_ordered_first, IsFlight}
use Rattle.lazy_msgs.specs.declared.limits.TheConstants.{BATCH_LIMIT}
use Rattle.lazy_rules.specs.declared.limits.TheConstants.{FLIGHT_LIMIT}

-- ---- the same places
abbrev pub SameSpans : List Batch → List Batch → Type 0
SameSpans [] [] = Unit {0}
SameSpans [] (y ∷ ys) = ⊥
SameSpans (x ∷ xs) [] = ⊥
SameSpans (x ∷ xs) (y ∷ ys) = (x.from ≡ y.from) × (x.count ≡ y.count) × SameSpans xs ys

pub same_itself : (xs : List Batch) → SameSpans xs xs
same_itself [] = tt
same_itself (x ∷ xs) = (refl, refl, same_itself xs)

same_map : (g : Batch → Batch) → ((b : Batch) → (g b).from ≡ b.from) → ((b : Batch) → (g b).count ≡ b.count) → (xs : List Batch) → SameSpans (map g xs) xs
same_map g from count [] = tt
same_map g from count (x ∷ xs) = (from x, count x, same_map g from count xs)

pub same_place : (shard upto : ℕ) (xs : List Batch) → SameSpans (with_place xs shard upto) xs
same_place shard upto xs = same_map (λ b. cond (is_placing_to upto b) (record b { placed = answered_by b.placed shard }) b)
    (λ b. cond_both (is_placing_to upto b) (record b { placed = answered_by b.placed shard }) b (λ x. x.from ≡ b.from) (λ _. refl) (λ _. refl))
    (λ b. cond_both (is_placing_to upto b) (record b { placed = answered_by b.placed shard }) b (λ x. x.count ≡ b.count) (λ _. refl) (λ _. refl))
    xs

pub same_order : (follower upto : ℕ) (xs : List Batch) → SameSpans (with_order xs follower upto) xs
same_order follower upto xs = same_map (λ b. cond (is_ordering_to upto b) (record b { ordered = answered_by b.ordered follower }) b)
    (λ b. cond_both (is_ordering_to upto b) (record b { ordered = answered_by b.ordered follower }) b (λ x. x.from ≡ b.from) (λ _. refl) (λ _. refl))
    (λ b. cond_both (is_ordering_to upto b) (record b { ordered = answered_by b.ordered follower }) b (λ x. x.count ≡ b.count) (λ _. refl) (λ _. refl))
    xs

pub same_passed : (shards : ℕ) (xs : List Batch) → SameSpans (passed shards xs) xs
same_passed shards [] = tt
same_passed shards (x ∷ xs) =
    let rest = same_passed shards xs in
    cond_both x.ordering (x ∷ passed shards xs) (cond (has_all shards x.placed) (now_ordering x ∷ passed shards xs) (x ∷ xs)) (λ l. SameSpans l (x ∷ xs))
    (λ _. (refl, refl, rest))
    (λ _. cond_both (has_all shards x.placed) (now_ordering x ∷ passed shards xs) (x ∷ xs) (λ l. SameSpans l (x ∷ xs)) (λ _. (refl, refl, rest)) (λ _. (refl, refl, same_itself xs)))

pub start_same : (xs ys : List Batch) → SameSpans xs ys → flight_start xs ≡ flight_start ys
start_same [] [] same = refl
start_same [] (y ∷ ys) same = absurd same
start_same (x ∷ xs) [] same = absurd same
start_same (x ∷ xs) (y ∷ ys) same = same.0

length_same : (xs ys : List Batch) → SameSpans xs ys → length xs ≡ length ys
length_same [] [] same = refl
length_same [] (y ∷ ys) same = absurd same
length_same (x ∷ xs) [] same = absurd same
length_same (x ∷ xs) (y ∷ ys) same = let rest = length_same xs ys same.2 in omega arith

pub chain_same : (from : ℕ) (xs ys : List Batch) → SameSpans xs ys → IsChain from ys → IsChain from xs
chain_same from [] [] same chain = tt
chain_same from [] (y ∷ ys) same chain = absurd same
chain_same from (x ∷ xs) [] same chain = absurd same
chain_same from (x ∷ xs) (y ∷ ys) same chain =
    let ends : batch_end y ≡ batch_end x = omega (arith, same.0, same.1) in
    let here = chain.0 in (
      record {
        begins = omega (arith, same.0, here.begins);
        some = omega (arith, same.1, here.some);
        most = omega (arith, same.1, here.most);
        within = omega (arith, ends, here.within);
      },
      chain_same (batch_end x) xs ys same.2 (subst (λ (n : ℕ). IsChain n ys) ends chain.1),
    )

pub chain_push : (from : ℕ) (xs : List Batch) (b : Batch) → IsChain from xs → IsNext (flight_end from xs) b → IsChain from (xs ++ b ∷ [])
chain_push from [] b chain next = (next, tt)
chain_push from (x ∷ xs) b chain next = (chain.0, chain_push (batch_end x) xs b chain.1 next)

-- ---- the ordered ones first
abbrev is_ordered : Batch → Bool
is_ordered b = b.ordering

any_map : (g : Batch → Batch) → ((b : Batch) → (g b).ordering ≡ b.ordering) → (xs : List Batch) → list_any is_ordered (map g xs) ≡ list_any is_ordered xs
any_map g keeps [] = refl
any_map g keeps (x ∷ xs) =
    ap (λ (b : Bool). b || list_any is_ordered (map g xs)) (keeps x) ∙ ap (λ (b : Bool). x.ordering || b) (any_map g keeps xs)

first_map : (g : Batch → Batch) → ((b : Batch) → (g b).ordering ≡ b.ordering) → (xs : List Batch) → are_ordered_first (map g xs) ≡ are_ordered_first xs
first_map g keeps [] = refl
first_map g keeps (x ∷ xs) =
    ap (λ (b : Bool). cond b (are_ordered_first (map g xs)) (not (list_any is_ordered (map g xs)))) (keeps x)
    ∙ ap (λ (b : Bool). cond x.ordering b (not (list_any is_ordered (map g xs)))) (first_map g keeps xs)
    ∙ ap (λ (b : Bool). cond x.ordering (are_ordered_first xs) (not b)) (any_map g keeps xs)

none_first : (xs : List Batch) → list_any is_ordered xs ≡ false → are_ordered_first xs ≡ true
none_first [] none = refl
none_first (x ∷ xs) none =
    let parts = or_parts x.ordering (list_any is_ordered xs) none in
    ap (λ (b : Bool). cond b (are_ordered_first xs) (not (list_any is_ordered xs))) parts.0
    ∙ not_from_false (list_any is_ordered xs) parts.1

-- what the first batch says of the others
of_others : (x : Batch) (xs : List Batch) → are_ordered_first (x ∷ xs) ≡ true → are_ordered_first xs ≡ true
of_others x xs is = by_test x.ordering is
  where
    by_test : (b : Bool) → cond b (are_ordered_first xs) (not (list_any is_ordered xs)) ≡ true → are_ordered_first xs ≡ true
    by_test true first = first
    by_test false none = none_first xs (not-true (list_any is_ordered xs) none)

first_passed : (shards : ℕ) (xs : List Batch) → are_ordered_first xs ≡ true → are_ordered_first (passed shards xs) ≡ true
first_passed shards [] is = refl
first_passed shards (x ∷ xs) is =
    let rest = first_passed shards xs (of_others x xs is) in
    cond_both x.ordering (x ∷ passed shards xs) (cond (has_all shards x.placed) (now_ordering x ∷ passed shards xs) (x ∷ xs)) (λ l. are_ordered_first l ≡ true)
    (λ ordered. ap (λ (b : Bool). cond b (are_ordered_first (passed shards xs)) (not (list_any is_ordered (passed shards xs)))) ordered ∙ rest)
    (λ _. cond_both (has_all shards x.placed) (now_ordering x ∷ passed shards xs) (x ∷ xs) (λ l. are_ordered_first l ≡ true) (λ _. rest) (λ _. is))

any_push : (xs : List Batch) (from count : ℕ) → list_any is_ordered (xs ++ new_batch from count ∷ []) ≡ list_any is_ordered xs
any_push [] from count = refl
any_push (x ∷ xs) from count = ap (λ (b : Bool). x.ordering || b) (any_push xs from count)

first_push : (xs : List Batch) (from count : ℕ) → are_ordered_first (xs ++ new_batch from count ∷ []) ≡ are_ordered_first xs
first_push [] from count = refl
first_push (x ∷ xs) from count =
    ap (λ (b : Bool). cond x.ordering b (not (list_any is_ordered (xs ++ new_batch from count ∷ [])))) (first_push xs from count)
    ∙ ap (λ (b : Bool). cond x.ordering (are_ordered_first xs) (not b)) (any_push xs from count)

-- ---- every call keeps a flight one
flight_same : (xs ys : List Batch) → SameSpans xs ys → are_ordered_first xs ≡ true → IsFlight ys → IsFlight xs
flight_same xs ys same first flight = record {
  few = omega (arith, length_same xs ys same, flight.few);
  chain = subst (λ (n : ℕ). IsChain n xs) (sym (start_same xs ys same)) (chain_same (flight_start ys) xs ys same flight.chain);
  ordered_first = first;
}

pub flight_place : (shard upto : ℕ) (xs : List Batch) → IsFlight xs → IsFlight (with_place xs shard upto)
flight_place shard upto xs flight = flight_same (with_place xs shard upto) xs (same_place shard upto xs)
    (first_map (λ b. cond (is_placing_to upto b) (record b { placed = answered_by b.placed shard }) b)
    (λ b. cond_both (is_placing_to upto b) (record b { placed = answered_by b.placed shard }) b (λ x. x.ordering ≡ b.ordering) (λ _. refl) (λ _. refl)) xs ∙ flight.ordered_first)
    flight

pub flight_order : (follower upto : ℕ) (xs : List Batch) → IsFlight xs → IsFlight (with_order xs follower upto)
flight_order follower upto xs flight = flight_same (with_order xs follower upto) xs (same_order follower upto xs)
    (first_map (λ b. cond (is_ordering_to upto b) (record b { ordered = answered_by b.ordered follower }) b)
    (λ b. cond_both (is_ordering_to upto b) (record b { ordered = answered_by b.ordered follower }) b (λ x. x.ordering ≡ b.ordering) (λ _. refl) (λ _. refl)) xs ∙ flight.ordered_first)
    flight

pub flight_passed : (shards : ℕ) (xs : List Batch) → IsFlight xs → IsFlight (passed shards xs)
flight_passed shards xs flight =
    flight_same (passed shards xs) xs (same_passed shards xs) (first_passed shards xs flight.ordered_first) flight

pub flight_begun : (from count : ℕ) (xs : List Batch) → length xs < FLIGHT_LIMIT → 1 ≤ count → count ≤ BATCH_LIMIT → flight_end from xs ≡ from → from + count < 2 ^ 32
    → IsFlight xs → IsFlight (with_batch xs from count)
flight_begun from count [] room some most next within flight = record {
  few = omega arith;
  chain = (record { begins = refl; some = some; most = most; within = within }, tt);
  ordered_first = refl;
}
flight_begun from count (x ∷ xs) room some most next within flight = record {
  few = omega (arith, room, length_push (x ∷ xs) (new_batch from count));
  chain = chain_push x.from (x ∷ xs) (new_batch from count) flight.chain (record { begins = sym next; some = some; most = most; within = within });
  ordered_first = first_push (x ∷ xs) from count ∙ flight.ordered_first;
}

pub flight_placed : (shards shard upto : ℕ) (xs : List Batch) → IsFlight xs → IsFlight (placed_flight shards xs shard upto)
flight_placed shards shard upto xs flight =
    cond_both (has_placing xs upto) (passed shards (with_place xs shard upto)) xs IsFlight
    (λ _. flight_passed shards (with_place xs shard upto) (flight_place shard upto xs flight)) (λ _. flight)

pub flight_ordered : (follower upto : ℕ) (xs : List Batch) → IsFlight xs → IsFlight (ordered_flight xs follower upto)
flight_ordered follower upto xs flight =
    cond_both (has_ordering xs upto) (with_order xs follower upto) xs IsFlight (λ _. flight_order follower upto xs flight) (λ _. flight)
