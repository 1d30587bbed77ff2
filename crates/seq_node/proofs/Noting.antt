-- What an answer does to a flight, and what a probe does to the reads.
use Rattle.std.proofs.Common.{◌≡◌, ℕ, ◌+◌, List, [], ◌∷◌, Bool, true, cond, length, inl, inr, sym, ap, subst, ◌∙◌, refl, arith}
use Rattle.std.proofs.lemmas.Bool.{cases_Bool}
use Rattle.binder.proofs.Chains.{SameSpans, same_place, same_order, same_passed}
use Rattle.binder.specs.Binding.{ordered_flight, placed_flight}
use Rattle.lazy_msgs.specs.declared.msg.Msg.{Msg}
use Rattle.lazy_rules.specs.Flight.{Batch, flight_end, has_ordering, has_placing, passed, with_order, with_place}
use Rattle.lazy_rules.specs.Rows.{stays}
use Rattle.lazy_rules.specs.SeqRules.{seq_row, seq_took}
use Rattle.lazy_rules.specs.Door.{is_turned_away}
use Rattle.lazy_rules.specs.SeqState.{SeqState}
use Rattle.seq_node.specs.Kept.{Starts}

-- ---- the batches stay where they are
spans_then : (xs ys zs : List Batch) → SameSpans xs ys → SameSpans ys zs → SameSpans xs zs
spans_then [] [] [] p q = tt
spans_then [] [] (z ∷ zs) p q = absurd q
spans_then [] (y ∷ ys) zs p q = absurd p
spans_then (x ∷ xs) [] zs p q = absurd p
spans_then (x ∷ xs) (y ∷ ys) [] p q = absurd q
spans_then (x ∷ xs) (y ∷ ys) (z ∷ zs) p q = (p.0 ∙ q.0, p.1 ∙ q.1, spans_then xs ys zs p.2 q.2)

pub end_same : (xs ys : List Batch) (from : ℕ) → SameSpans xs ys → flight_end from xs ≡ flight_end from ys
end_same [] [] from same = refl
end_same [] (y ∷ ys) from same = absurd same
end_same (x ∷ xs) [] from same = absurd same
end_same (x ∷ xs) (y ∷ ys) from same =
    let place : x.from + x.count ≡ y.from + y.count = omega (arith, same.0, same.1) in
    end_same xs ys (x.from + x.count) same.2 ∙ ap (λ (n : ℕ). flight_end n ys) place

pub starts_same : (xs ys : List Batch) (bound : ℕ) → SameSpans xs ys → Starts bound ys → Starts bound xs
starts_same [] ys bound same starts = tt
starts_same (x ∷ xs) [] bound same starts = absurd same
starts_same (x ∷ xs) (y ∷ ys) bound same starts = same.0 ∙ starts

pub long_same : (xs ys : List Batch) → SameSpans xs ys → length xs ≡ length ys
long_same [] [] same = refl
long_same [] (y ∷ ys) same = absurd same
long_same (x ∷ xs) [] same = absurd same
long_same (x ∷ xs) (y ∷ ys) same = let rest = long_same xs ys same.2 in omega (arith, rest)

pub ordered_spans : (flight : List Batch) (follower upto : ℕ) → has_ordering flight upto ≡ true → SameSpans (ordered_flight flight follower upto) flight
ordered_spans flight follower upto here =
    subst (λ (b : Bool). SameSpans (cond b (with_order flight follower upto) flight) flight) (sym here) (same_order follower upto flight)

pub passed_spans : (shards : ℕ) (flight : List Batch) (shard upto : ℕ) → SameSpans (passed shards (with_place flight shard upto)) flight
passed_spans shards flight shard upto =
    spans_then (passed shards (with_place flight shard upto)) (with_place flight shard upto) flight (same_passed shards (with_place flight shard upto)) (same_place shard upto flight)

pub placed_spans : (shards : ℕ) (flight : List Batch) (shard upto : ℕ) → has_placing flight upto ≡ true → SameSpans (placed_flight shards flight shard upto) flight
placed_spans shards flight shard upto here =
    subst (λ (b : Bool). SameSpans (cond b (passed shards (with_place flight shard upto)) flight) flight) (sym here) (passed_spans shards flight shard upto)

-- ---- a message that no row takes
pub took_stays : (s : SeqState) (sender : ℕ) (msg : Msg) → seq_row s sender msg ≡ stays s → seq_took s sender msg ≡ stays s
took_stays s sender msg is = elim (cases_Bool (is_turned_away s.shape sender msg)) [
  | inl away ↦ ap (λ (b : Bool). cond b (stays s) (seq_row s sender msg)) away
  | inr taken ↦ ap (λ (b : Bool). cond b (stays s) (seq_row s sender msg)) taken ∙ is
]
