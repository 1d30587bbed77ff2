-- What a search by a key finds, among places whose keys rise.
use Rattle.std.proofs.Common.{◌≡◌, ◌≢◌, ◌<◌, ◌≤◌, ◌+◌, ℕ, zero, suc, List, [], ◌∷◌, length, Option, Some, Result, Ok, Err, inl, inr, refl, sym, ap, ◌∙◌, subst, arith, tests}
use Rattle.std.specs.Prelude.{slice_get, slice_index_or}
use Rattle.std.specs.declared.cmp.Ordering.{Ordering}
use Rattle.std.specs.declared.cmp.Ordering.TheVariants.{Less, Equal, Greater}
use Rattle.std.specs.Ordering.{MatchOrdering, nat_cmp, ordering_index}
use Rattle.std.specs.Cmp.{ranks}
use Rattle.std.specs.List.Sorted.{IsBinarySearchResult, IsSearchInRange}
use Rattle.std.proofs.lemmas.Bool.{cases_lt}
use Rattle.std.proofs.lemmas.Option.{slice_get-get_or}
use Rattle.list_facts.specs.Lists.{Each}
use Rattle.lazy_msgs.specs.declared.limits.TheConstants.{TIME_LIMIT}
use Rattle.diary_laws.specs.Merges.{Ranked}
use Rattle.diary_merge.specs.Acts.{key_at, word_at}
use Rattle.diary_merge.specs.Numbering.{IsKeyed}
use Rattle.diary_merge.specs.declared.place.Place.{Place}
use Rattle.diary_merge.specs.declared.place.TheConstants.{NODES}
use Rattle.diary_merge.proofs.Acts.{word_key}

each_index : {A : Type 0} (P : A → Type 0) (xs : List A) → Each P xs → (j : ℕ) (d : A) → j < length xs → P (slice_index_or xs j d)
each_index P [] h j d lt = absurd (omega arith)
each_index P (x ∷ xs) h zero d lt = h.0
each_index P (x ∷ xs) h (suc j) d lt = each_index P xs h.1 j d (omega arith)

index_each : {A : Type 0} (P : A → Type 0) (xs : List A) → ((k : ℕ) (d : A) → k < length xs → P (slice_index_or xs k d)) → Each P xs
index_each P [] h = tt
index_each P (x ∷ xs) h = (h 0 x (omega arith), index_each P xs (λ k d lt. h (suc k) d (omega arith)))

abbrev Rising : List Place → Type 0
Rising places = Ranked (λ (p q : Place). p.key < q.key) places

rises : (places : List Place) → Rising places → (i j : ℕ) (d : Place) → i ≤ j → j < length places → (slice_index_or places i d).key ≤ (slice_index_or places j d).key
rises [] up i j d le lt = absurd (omega arith)
rises (p ∷ places) up zero zero d le lt = omega arith
rises (p ∷ places) up zero (suc j) d le lt = let above = each_index (λ (q : Place). p.key < q.key) places up.0 j d (omega arith) in omega arith
rises (p ∷ places) up (suc i) zero d le lt = absurd (omega arith)
rises (p ∷ places) up (suc i) (suc j) d le lt = rises places up.1 i j d (omega arith) (omega arith)

ranked_so : (a b : ℕ) (order : Ordering) → nat_cmp a b ≡ order → MatchOrdering order (a < b) (a ≡ b) (b < a)
ranked_so a b order is = subst (λ (o : Ordering). MatchOrdering o (a < b) (a ≡ b) (b < a)) is (ranks a b)

later : (a b key : ℕ) → a ≤ b → ordering_index (nat_cmp a key) ≤ ordering_index (nat_cmp b key)
later a b key le = grind (arith, tests)

module _ (places : List Place) (key : ℕ) (r : Result ℕ ℕ) (found : IsBinarySearchResult (λ (p : Place). nat_cmp p.key key) places r) where
  -- a place where the search ends has the key
  key_found : (i : ℕ) → r ≡ Ok i → (d : Place) → (slice_index_or places i d).key ≡ key
  key_found i is d = ranked_so (slice_index_or places i d).key key Equal (subst (IsBinarySearchResult (λ (p : Place). nat_cmp p.key key) places) is found d)

  -- else no place has it
  pub key_missing : (i : ℕ) → r ≡ Err i → Rising places → Each (λ (p : Place). p.key ≢ key) places
  key_missing i is up =
      let parted = subst (IsBinarySearchResult (λ (p : Place). nat_cmp p.key key) places) is found
      (λ a b d le lt. later (slice_index_or places a d).key (slice_index_or places b d).key key (rises places up a b d le lt)) in
      index_each (λ (p : Place). p.key ≢ key) places (λ k d lt same. elim (cases_lt k i) [
        | inl less ↦ (let below = ranked_so (slice_index_or places k d).key key Less (parted.0 k d (omega arith) less) in omega arith)
        | inr least ↦ (let above = ranked_so (slice_index_or places k d).key key Greater (parted.1 k d least lt) in omega arith)
      ])

module _ (places : List Place) (time node : ℕ) (early : time < TIME_LIMIT) (few : node < NODES) (r : Result ℕ ℕ) (found : IsBinarySearchResult (λ (p : Place). nat_cmp p.key (word_at time node)) places r) where
  pub step_found : (i : ℕ) → r ≡ Ok i → IsSearchInRange r (length places) → IsKeyed places node time i
  step_found i is bound =
      let within : i < length places = subst (λ (o : Result ℕ ℕ). IsSearchInRange o (length places)) is bound in
      let none : Place = record { key = 0; diary = 0; entry = 0 } in
      record {
        place = slice_index_or places i none;
        there = slice_get-get_or places i none within;
        keyed = key_found places (word_at time node) r found i is none ∙ word_key time node early few;
        early = early;
        few = few;
      }

  pub step_missing : (i : ℕ) → r ≡ Err i → Rising places → Each (λ (p : Place). p.key ≢ key_at time node) places
  step_missing i is up = subst (λ (key : ℕ). Each (λ (p : Place). p.key ≢ key) places) (word_key time node early few) (key_missing places (word_at time node) r found i is up)
