-- Parts of a leader's row, one after the other.
use Rattle.std.proofs.Common.{◌≡◌, ℕ, suc, ◌+◌, ◌-◌, ◌<◌, ◌≤◌, List, [], ◌∷◌, ◌++◌, Bool, true, false, cond, length, drop, take, zero, Some, None, inl, inr, drop-cons, get_or, sym, ap, subst, ◌∙◌, refl, arith, ◌^◌}
use Rattle.std.specs.Prelude.{Result, Ok, Err, IfOk, option_map, is_some, slice_get, flat_map}
use Rattle.std.proofs.lemmas.Bool.{cases_Bool}
use Rattle.std.proofs.lemmas.List.{drop-drop, length-drop}
use Rattle.binder.specs.declared.batch.Batch.{Batch as Outline}
use Rattle.binder.specs.Binding.{outline}
use Rattle.binder.specs.Sound.{IsChain, IsFlight}
use Rattle.rec_id.specs.declared.item.Item.{Item}
use Rattle.lazy_msgs.specs.declared.msg.Msg.TheVariants.{Place}
use Rattle.lazy_rules.specs.Flight.{Batch, Probe, finish, flight_end, is_finished, lacks_place, new_batch}
use Rattle.lazy_rules.specs.Leading.{finishes_from, finishing, forces, leaves, place_sends}
use Rattle.lazy_rules.specs.Roles.{first_of, followers_of}
use Rattle.lazy_rules.specs.Items.{items_for}
use Rattle.lazy_rules.specs.Rows.{each_numbered, followed, stays, to_each}
use Rattle.lazy_rules.specs.SeqState.{SeqState}
use Rattle.seq_node.specs.Leaving.{first_leaves}
use Rattle.seq_node.specs.Kept.{Starts}
use Rattle.seq_node.proofs.Parts.{end_grows}

-- a leader in the middle of a row: how many positions are bound, and what is on its way
pub record Lead : Type 0 where
  pub bound : ℕ
  pub flight : List Batch
  pub probes : List Probe

abbrev pub made : ℕ → List Batch → List Probe → Lead
made bound flight probes = record { bound = bound; flight = flight; probes = probes }

-- the replica then
abbrev pub ahead : SeqState → Lead → SeqState
ahead s lead = record s {
  bound = lead.bound;
  pending = drop (lead.bound - s.bound) s.pending;
  flight = lead.flight;
  probes = lead.probes;
}

-- a row of this leader can come to this
pub record IsAhead (s : SeqState) (lead : Lead) : Type 0 where
  pub above : s.bound ≤ lead.bound
  pub within : lead.bound ≤ s.bound + length s.pending
  pub starts : Starts lead.bound lead.flight
  pub ends : flight_end lead.bound lead.flight ≤ s.bound + length s.pending
  pub fits : s.bound + length s.pending < 2 ^ 32

-- ---- BEGIN
module _ (s : SeqState) (l : Lead) (is : IsAhead s l) where
  same_items : (from count : ℕ) → l.bound ≤ from → take count (drop (from - l.bound) (drop (l.bound - s.bound) s.pending)) ≡ take count (drop (from - s.bound) s.pending)
  same_items from count past =
      let places : (l.bound - s.bound) + (from - l.bound) ≡ from - s.bound = omega (arith, is.above, past) in
      ap (take count) (drop-drop (from - l.bound) (l.bound - s.bound) s.pending ∙ ap (λ (n : ℕ). drop n s.pending) places)

  pub long : length (ahead s l).pending ≡ length s.pending - (l.bound - s.bound)
  long = length-drop (l.bound - s.bound) s.pending

  pub places_same : (from count : ℕ) → l.bound ≤ from → place_sends (ahead s l) (new_batch from count) ≡ place_sends s (new_batch from count)
  places_same from count past =
      ap (λ (items : List Item). each_numbered (λ (shard : ℕ) (nodes : List ℕ). cond (lacks_place (new_batch from count) shard) (to_each (first_of nodes) (Place s.view from (items_for s.shape shard from items))) []) 0 s.config.shards) (same_items from count past)

-- ---- FINISH
pub starts_tail : (from bound : ℕ) (xs : List Batch) → from ≡ bound → IsChain from xs → Starts bound xs
starts_tail from bound [] same chain = tt
starts_tail from bound (x ∷ xs) same chain = chain.0.begins ∙ same

-- ---- the rows of FINISH
module _ (a : SeqState) where
  pub finishing_goes : (flight : List Batch) → is_some (finish (length (followers_of a.config)) flight) ≡ true
      → finishing a flight ≡ followed (first_leaves a flight) (λ after. finishing after after.flight)
  finishing_goes [] some = let wrong : false ≡ true = some in cc
  finishing_goes (x ∷ xs) some = elim (cases_Bool (is_finished (length (followers_of a.config)) x)) [
    | inl holds ↦
        ap (λ (c : Bool). cond c (followed (leaves a x xs) (λ after. finishing after xs)) (stays a)) holds
        ∙ sym (ap (λ (c : Bool). followed (cond c (leaves a x xs) (stays a)) (λ after. finishing after after.flight)) holds)
    | inr fails ↦ let wrong : false ≡ true = rw fails at some in cc
  ]

  pub finishing_stays : (flight : List Batch) → is_some (finish (length (followers_of a.config)) flight) ≡ false
      → (finishing a flight ≡ stays a) × (first_leaves a flight ≡ stays a)
  finishing_stays [] none = (refl, refl)
  finishing_stays (x ∷ xs) none = elim (cases_Bool (is_finished (length (followers_of a.config)) x)) [
    | inl holds ↦ let wrong : true ≡ false = rw holds at none in cc
    | inr fails ↦
        (ap (λ (c : Bool). cond c (followed (leaves a x xs) (λ after. finishing after xs)) (stays a)) fails, ap (λ (c : Bool). cond c (leaves a x xs) (stays a)) fails)
  ]

  pub finishes_goes : (flight : List Batch) → is_some (finish (length (followers_of a.config)) flight) ≡ true
      → finishes_from a flight ≡ followed (finishing a flight) forces
  finishes_goes [] some = let wrong : false ≡ true = some in cc
  finishes_goes (x ∷ xs) some = elim (cases_Bool (is_finished (length (followers_of a.config)) x)) [
    | inl holds ↦ ap (λ (c : Bool). cond c (followed (finishing a (x ∷ xs)) forces) (stays a)) holds
    | inr fails ↦ let wrong : false ≡ true = rw fails at some in cc
  ]

  pub finishes_stays : (flight : List Batch) → is_some (finish (length (followers_of a.config)) flight) ≡ false → finishes_from a flight ≡ stays a
  finishes_stays [] none = refl
  finishes_stays (x ∷ xs) none = elim (cases_Bool (is_finished (length (followers_of a.config)) x)) [
    | inl holds ↦ let wrong : true ≡ false = rw holds at none in cc
    | inr fails ↦ ap (λ (c : Bool). cond c (followed (finishing a (x ∷ xs)) forces) (stays a)) fails
  ]

-- ---- what a call gives, where it isn't refused
pub ok_then : {R E : Type 0} (P Q : Type 0) (r : Result R E) → (P → Q) → IfOk r (λ _. P) → IfOk r (λ _. Q)
ok_then P Q (Ok x) f h = f h
ok_then P Q (Err e) f h = h

-- ---- a batch of the flight is pending
pub chain_at : (flight : List Batch) (bound : ℕ) → IsFlight flight → Starts bound flight → IsChain bound flight
chain_at [] bound sound starts = tt
chain_at (x ∷ xs) bound sound starts = subst (λ (n : ℕ). IsChain n (x ∷ xs)) starts sound.chain

pub chain_place : (flight : List Batch) (from i : ℕ) (seen : Outline) → IsChain from flight → option_map outline (slice_get flight i) ≡ Some seen
    → (from ≤ seen.from) × (seen.from + seen.count ≤ flight_end from flight)
chain_place [] from i seen chain is = let wrong : None ≡ Some seen = is in cc
chain_place (x ∷ xs) from zero seen chain is =
    let same : outline x ≡ seen = cc in
    let first : x.from ≡ seen.from = ap (λ (o : Outline). o.from) same in
    let count : x.count ≡ seen.count = ap (λ (o : Outline). o.count) same in
    let grows : x.from + x.count ≤ flight_end (x.from + x.count) xs = end_grows xs (x.from + x.count) chain.1 in
    (omega (arith, first, chain.0.begins), omega (arith, first, count, grows))
chain_place (x ∷ xs) from (suc i) seen chain is =
    let rest = chain_place xs (x.from + x.count) i seen chain.1 is in
    (omega (arith, rest.0, chain.0.begins), rest.1)

-- what is made of the next member
pub numbered_next : {A B : Type 0} (make : ℕ → A → List B) (xs : List A) (i : ℕ) (d : A) → i < length xs
    → each_numbered make i (drop i xs) ≡ make i (get_or xs i d) ++ each_numbered make (i + 1) (drop (i + 1) xs)
numbered_next make xs i d inside =
    let split : drop i xs ≡ get_or xs i d ∷ drop (suc i) xs = rw (drop-cons xs i d) refl in
    let next : suc i ≡ i + 1 = omega arith in
    ap (each_numbered make i) split
    ∙ ap (λ (k : ℕ). make i (get_or xs i d) ++ each_numbered make (i + 1) (drop k xs)) next

pub flat_map_next : {A B : Type 0} (make : A → List B) (xs : List A) (i : ℕ) (d : A) → i < length xs
    → flat_map make (drop i xs) ≡ make (get_or xs i d) ++ flat_map make (drop (i + 1) xs)
flat_map_next make xs i d inside =
    let split : drop i xs ≡ get_or xs i d ∷ drop (suc i) xs = rw (drop-cons xs i d) refl in
    let next : suc i ≡ i + 1 = omega arith in
    ap (flat_map make) split
    ∙ ap (λ (k : ℕ). make (get_or xs i d) ++ flat_map make (drop k xs)) next
