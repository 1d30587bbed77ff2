-- Parts of the pending items, item by item.
use Rattle.std.proofs.Common.{◌≡◌, ℕ, zero, suc, ◌+◌, ◌-◌, ◌<◌, ◌≤◌, List, [], ◌∷◌, ◌++◌, length, take, drop, Some, None, sym, ap, ◌∙◌, refl, arith}
use Rattle.std.specs.Prelude.{slice_get, Option, option_map, unwrap_or}
use Rattle.binder.specs.Sound.{IsChain, IsFlight}
use Rattle.seq_node.specs.Kept.{Starts}
use Rattle.std.proofs.Common.{subst, Bool, true, false, ◌&&◌, cond, ltb, get_or, drop-cons, length-drop}
use Rattle.std.proofs.lemmas.Bool.{lt-ltb, le-ltb}
use Rattle.std.proofs.lemmas.Option.{slice_get-get_or}
use Rattle.lazy_rules.specs.declared.limits.TheConstants.{FLIGHT_LIMIT}
use Rattle.lazy_rules.specs.Leading.{begins, behind, next_batch, with_next, place_sends}
use Rattle.lazy_rules.specs.Rows.{each_numbered, sends_all, stays}
use Rattle.lazy_rules.specs.SeqState.{SeqState}
use Rattle.binder.specs.declared.batch.Batch.{Batch as Outline}
use Rattle.binder.specs.Binding.{outline}
use Rattle.std.proofs.lemmas.List.{drop_all, length-take}
use Rattle.rec_id.specs.declared.item.Item.{Item}
use Rattle.view_config.specs.Shape.{Dimensions}
use Rattle.lazy_rules.specs.Flight.{Batch, batch_end, flight_end}
use Rattle.lazy_rules.specs.Items.{bytes_for, items_for}
use Rattle.lazy_rules.specs.Ids.{ids_of}
use Rattle.rec_id.specs.Identity.{Identity}

none_some : {X : Type 0} {x : X} → None ≡ Some x → ⊥
none_some e = cc

some_is : {X : Type 0} {x y : X} → Some x ≡ Some y → x ≡ y
some_is e = cc

pub part_next : {X : Type 0} (xs : List X) (k n i j : ℕ) (x : X) → j ≡ k + i → slice_get xs j ≡ Some x → i < n → drop i (take n (drop k xs)) ≡ x ∷ drop (suc i) (take n (drop k xs))
part_next [] k n i j x place is inside = absurd (none_some is)
part_next (y ∷ ys) (suc k) n i zero x place is inside = absurd (omega arith)
part_next (y ∷ ys) (suc k) n i (suc j) x place is inside = part_next ys k n i j x (omega arith) is inside
part_next (y ∷ ys) zero zero i j x place is inside = absurd (omega arith)
part_next (y ∷ ys) zero (suc n) zero zero x place is inside = ap (λ z. z ∷ take n ys) (some_is is)
part_next (y ∷ ys) zero (suc n) zero (suc j) x place is inside = absurd (omega arith)
part_next (y ∷ ys) zero (suc n) (suc i) zero x place is inside = absurd (omega arith)
part_next (y ∷ ys) zero (suc n) (suc i) (suc j) x place is inside = part_next ys zero n i j x (omega arith) is (omega arith)

pub part_ended : {X : Type 0} (xs : List X) (k n i : ℕ) → n ≤ i → drop i (take n (drop k xs)) ≡ []
part_ended xs k n i past = drop_all i (take n (drop k xs)) (omega (arith, length-take n (drop k xs)))

-- the next item as a shard is given it
pub item_next : (d : Dimensions) (shard from : ℕ) (xs : List Item) (k n i : ℕ) (item : Item) → slice_get xs (k + i) ≡ Some item → i < n
    → items_for d shard (from + i) (drop i (take n (drop k xs)))
    ≡ record { id = item.id; bytes = bytes_for d shard (from + i) item.bytes } ∷ items_for d shard (from + (i + 1)) (drop (i + 1) (take n (drop k xs)))
item_next d shard from xs k n i item is inside =
    let next : suc i ≡ i + 1 = omega arith in
    let place : from + i + 1 ≡ from + (i + 1) = omega arith in
    let made : Item = record { id = item.id; bytes = bytes_for d shard (from + i) item.bytes } in
    ap (items_for d shard (from + i)) (part_next xs k n i (k + i) item refl is inside)
    ∙ ap (λ (p : ℕ). made ∷ items_for d shard p (drop (suc i) (take n (drop k xs)))) place
    ∙ ap (λ (p : ℕ). made ∷ items_for d shard (from + (i + 1)) (drop p (take n (drop k xs)))) next

pub id_next : (xs : List Item) (k n i : ℕ) (item : Item) → slice_get xs (k + i) ≡ Some item → i < n
    → ids_of (drop i (take n (drop k xs))) ≡ item.id ∷ ids_of (drop (i + 1) (take n (drop k xs)))
id_next xs k n i item is inside =
    let next : suc i ≡ i + 1 = omega arith in
    ap ids_of (part_next xs k n i (k + i) item refl is inside)
    ∙ ap (λ (p : ℕ). let first : Identity = item.id in first ∷ ids_of (drop p (take n (drop k xs)))) next

-- where a flight ends: where its last batch does
pub end_last : (flight : List Batch) (from i : ℕ) (batch : Batch) → slice_get flight i ≡ Some batch → length flight ≡ suc i → flight_end from flight ≡ batch_end batch
end_last [] from i batch is long = absurd (none_some is)
end_last (x ∷ []) from zero batch is long = ap batch_end (some_is is)
end_last (x ∷ []) from (suc i) batch is long = absurd (none_some is)
end_last (x ∷ (y ∷ ys)) from zero batch is long = absurd (omega arith)
end_last (x ∷ (y ∷ ys)) from (suc i) batch is long = end_last (y ∷ ys) (batch_end x) i batch is (omega arith)

-- where a flight ends, by what callers see of its last batch
pub last_end : (flight : List Batch) (from i : ℕ) (told : Outline) → option_map outline (slice_get flight i) ≡ Some told → length flight ≡ suc i → flight_end from flight ≡ told.from + told.count
last_end flight from i told is long = by_option (slice_get flight i) refl is
  where
    by_option : (o : Option Batch) → slice_get flight i ≡ o → option_map outline o ≡ Some told → flight_end from flight ≡ told.from + told.count
    by_option None there none = absurd (none_some none)
    by_option (Some batch) there some =
        end_last flight from i batch there long ∙ ap (λ (x : Outline). x.from + x.count) (some_is some)

pub unwrap_there : {X : Type 0} (xs : List X) (i : ℕ) (d : X) → i < length xs → unwrap_or (slice_get xs i) d ≡ get_or xs i d
unwrap_there xs i d inside = ap (λ (o : Option _). unwrap_or o d) (slice_get-get_or xs i d inside)

-- the next shard is sent its part
pub shard_next : {B : Type 0} (make : ℕ → List ℕ → List B) (shards : List (List ℕ)) (i : ℕ) → i < length shards
    → each_numbered make i (drop i shards) ≡ make i (unwrap_or (slice_get shards i) []) ++ each_numbered make (i + 1) (drop (i + 1) shards)
shard_next make shards i inside =
    let nodes : List ℕ = get_or shards i [] in
    let split : drop i shards ≡ nodes ∷ drop (suc i) shards = rw (drop-cons shards i []) refl in
    let next : suc i ≡ i + 1 = omega arith in
    ap (each_numbered make i) split
    ∙ ap (λ (k : ℕ). make i nodes ++ each_numbered make (i + 1) (drop k shards)) next
    ∙ ap (λ (l : List ℕ). make i l ++ each_numbered make (i + 1) (drop (i + 1) shards)) (sym (unwrap_there shards i [] inside))

-- where a flight ends that begins here
pub end_grows : (flight : List Batch) (from : ℕ) → IsChain from flight → from ≤ flight_end from flight
end_grows [] from chain = omega arith
end_grows (x ∷ xs) from chain =
    let rest : batch_end x ≤ flight_end (batch_end x) xs = end_grows xs (batch_end x) chain.1 in
    let here : x.from ≡ from = chain.0.begins in
    let goes : from ≤ flight_end (batch_end x) xs = omega (arith, rest, here) in
    goes

pub end_above : (flight : List Batch) (bound : ℕ) → IsFlight flight → Starts bound flight → bound ≤ flight_end bound flight
end_above [] bound sound starts = omega arith
end_above (x ∷ xs) bound sound starts = end_grows (x ∷ xs) bound (subst (λ (n : ℕ). IsChain n (x ∷ xs)) starts sound.chain)

pub end_again : (flight : List Batch) (bound : ℕ) → flight_end (flight_end bound flight) flight ≡ flight_end bound flight
end_again [] bound = refl
end_again (x ∷ xs) bound = refl

-- what is behind a flight
pub behind_long : (s : SeqState) → length (behind s) ≡ length s.pending - (flight_end s.bound s.flight - s.bound)
behind_long s = length-drop (flight_end s.bound s.flight - s.bound) s.pending

module _ (s : SeqState) where
  pub begins_full : FLIGHT_LIMIT ≤ length s.flight → begins s ≡ stays s
  begins_full full =
      ap (λ (b : Bool). cond (b && ltb 0 (length (behind s))) (sends_all (with_next s) (place_sends s (next_batch s))) (stays s)) (le-ltb (length s.flight) FLIGHT_LIMIT full)

  pub begins_none : length (behind s) ≡ 0 → begins s ≡ stays s
  begins_none none = none_by (ltb (length s.flight) FLIGHT_LIMIT) (ltb 0 (length (behind s))) (le-ltb 0 (length (behind s)) (omega (arith, none)))
    where
      none_by : (room some : Bool) → some ≡ false → cond (room && some) (sends_all (with_next s) (place_sends s (next_batch s))) (stays s) ≡ stays s
      none_by true some is = ap (λ (b : Bool). cond b (sends_all (with_next s) (place_sends s (next_batch s))) (stays s)) is
      none_by false some is = refl

  pub begins_next : length s.flight < FLIGHT_LIMIT → 1 ≤ length (behind s) → begins s ≡ sends_all (with_next s) (place_sends s (next_batch s))
  begins_next room some =
      ap (λ (b : Bool). cond (b && ltb 0 (length (behind s))) (sends_all (with_next s) (place_sends s (next_batch s))) (stays s)) (lt-ltb (length s.flight) FLIGHT_LIMIT room)
      ∙ ap (λ (b : Bool). cond b (sends_all (with_next s) (place_sends s (next_batch s))) (stays s)) (lt-ltb 0 (length (behind s)) (omega (arith, some)))
