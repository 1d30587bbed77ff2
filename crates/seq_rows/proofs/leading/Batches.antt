-- The batches of a leader on their way, and what the parts of its rows make of them: none that is being placed comes
-- before one that is being ordered, and those that are being ordered were placed by all.
use Rattle.std.proofs.Common.{◌≡◌, ℕ, ◌<◌, List, [], ◌∷◌, ◌++◌, map, true, false, refl, sym, ◌∙◌, subst}
use Rattle.std.specs.Prelude.{◌==◌, if◌then◌else◌}
use Rattle.std.specs.List.{range_with_len}
use Rattle.std.proofs.lemmas.Bool.{eqb-true}
use Rattle.list_facts.specs.Lists.{Each, In}
use Rattle.list_facts.proofs.Cases.{either}
use Rattle.list_facts.proofs.Members.{all_pass, each_append, each_in, in_passes}
use Rattle.list_facts.proofs.Ranges.{below_in_range}
use Rattle.lazy_rules.specs.Flight.{Batch, answered_by, has_all, is_ordering_to, is_placing_to, now_ordering, order_noted, passed, passing, place_noted}
use Rattle.lazy_rules.specs.Rows.{has_node}
use Rattle.log_facts.specs.facts.OfSeqs.{OrderingFirst}

-- what holds of each, and what else does
module _ {A : Type 0} (P Q : A → Type 0) where
  pub each_both : (xs : List A) → Each P xs → Each Q xs → Each (λ x. P x × Q x) xs
  each_both [] h k = tt
  each_both (x ∷ xs) h k = ((h.0, k.0), each_both xs h.1 k.1)

-- a batch that isn't being ordered may come last
pub sorted_more : (flight : List Batch) (batch : Batch) → batch.ordering ≡ false → OrderingFirst flight → OrderingFirst (flight ++ batch ∷ [])
sorted_more [] batch e h = (λ f. tt, tt)
sorted_more (first ∷ others) batch e h = (
  λ f. each_append (λ (other : Batch). other.ordering ≡ false) others (batch ∷ []) (h.0 f) (e, tt),
  sorted_more others batch e h.1,
)

-- ---- batches that pass
pub sorted_passed : (shards : ℕ) (flight : List Batch) → OrderingFirst flight → OrderingFirst (passed shards flight)
sorted_passed shards [] h = tt
sorted_passed shards (batch ∷ others) h =
    let rest = sorted_passed shards others h.1 in
    either OrderingFirst batch.ordering (batch ∷ passed shards others) (if has_all shards batch.placed then now_ordering batch ∷ passed shards others else batch ∷ others)
    (λ k. (λ f. let wrong : true ≡ false = sym k ∙ f in absurd cc, rest))
    (λ k. either OrderingFirst (has_all shards batch.placed) (now_ordering batch ∷ passed shards others) (batch ∷ others)
    (λ m. (λ f. let wrong : true ≡ false = f in absurd cc, rest))
    (λ m. h))

module _ (P Q : Batch → Type 0) (shards : ℕ) (passes : (b : Batch) → P b → has_all shards b.placed ≡ true → Q (now_ordering b)) where
  -- what holds of each of a flight, and of each that passes, holds of each afterwards
  pub passed_each : ((b : Batch) → P b → Q b) → (flight : List Batch) → Each P flight → Each Q (passed shards flight)
  passed_each stays [] h = tt
  passed_each stays (batch ∷ others) h =
      let rest = passed_each stays others h.1 in
      either (Each Q) batch.ordering (batch ∷ passed shards others) (if has_all shards batch.placed then now_ordering batch ∷ passed shards others else batch ∷ others)
      (λ k. (stays batch h.0, rest))
      (λ k. either (Each Q) (has_all shards batch.placed) (now_ordering batch ∷ passed shards others) (batch ∷ others)
      (λ m. (passes batch h.0 m, rest))
      (λ m. (stays batch h.0, each_stay others h.1)))
    where
      each_stay : (bs : List Batch) → Each P bs → Each Q bs
      each_stay [] k = tt
      each_stay (b ∷ bs) k = (stays b k.0, each_stay bs k.1)

  pub passing_each : (flight : List Batch) → Each P flight → Each Q (passing shards flight)
  passing_each [] h = tt
  passing_each (batch ∷ others) h =
      let rest = passing_each others h.1 in
      either (Each Q) batch.ordering (passing shards others) (if has_all shards batch.placed then now_ordering batch ∷ passing shards others else [])
      (λ k. rest)
      (λ k. either (Each Q) (has_all shards batch.placed) (now_ordering batch ∷ passing shards others) [] (λ m. (passes batch h.0 m, rest)) (λ m. tt))

-- ---- answers that are noted
pub sorted_mapped : (note : Batch → Batch) → ((b : Batch) → (note b).ordering ≡ b.ordering) → (flight : List Batch) → OrderingFirst flight → OrderingFirst (map note flight)
sorted_mapped note same [] h = tt
sorted_mapped note same (batch ∷ others) h = (
  λ f. unordered others (h.0 (sym (same batch) ∙ f)),
  sorted_mapped note same others h.1,
)
  where
    unordered : (bs : List Batch) → Each (λ (b : Batch). b.ordering ≡ false) bs → Each (λ (b : Batch). b.ordering ≡ false) (map note bs)
    unordered [] k = tt
    unordered (b ∷ bs) k = (same b ∙ k.0, unordered bs k.1)

pub place_stays : (upto shard : ℕ) (b : Batch) → (place_noted upto shard b).ordering ≡ b.ordering
place_stays upto shard b = either (λ (x : Batch). x.ordering ≡ b.ordering) (is_placing_to upto b) (record b { placed = answered_by b.placed shard }) b (λ h. refl) (λ h. refl)

pub order_stays : (upto follower : ℕ) (b : Batch) → (order_noted upto follower b).ordering ≡ b.ordering
order_stays upto follower b = either (λ (x : Batch). x.ordering ≡ b.ordering) (is_ordering_to upto b) (record b { ordered = answered_by b.ordered follower }) b (λ h. refl) (λ h. refl)

-- what holds of each answer holds with one more
pub answered_each : (P : ℕ → Type 0) (answers : List ℕ) (i : ℕ) → P i → Each P answers → Each P (answered_by answers i)
answered_each P answers i own h = either (Each P) (has_node answers i) answers (answers ++ i ∷ []) (λ k. h) (λ k. each_append P answers (i ∷ []) h (own, tt))

-- ---- all have answered
pub answer_in : (answers : List ℕ) (i : ℕ) → has_node answers i ≡ true → In i answers
answer_in answers i h =
    let k = in_passes (λ (other : ℕ). other == i) answers h in
    subst (λ (n : ℕ). In n answers) (eqb-true k.0 i k.2) k.1

pub all_answered : (P : ℕ → Type 0) (count : ℕ) (answers : List ℕ) → has_all count answers ≡ true → Each P answers → (i : ℕ) → i < count → P i
all_answered P count answers all h i lt =
    let has : has_node answers i ≡ true = all_pass (has_node answers) (range_with_len 0 count) all i (below_in_range count i lt) in
    each_in P answers h i (answer_in answers i has)
