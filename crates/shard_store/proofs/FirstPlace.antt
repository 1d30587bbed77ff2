-- A walk through the cells of a bucket, from the last to the first.
use Rattle.std.proofs.Common.{◌≡◌, ℕ, ◌+◌, ◌-◌, ◌<◌, ◌≤◌, List, Bool, true, false, eqb, ltb, Option, Some, None, length, get_or, inl, inr, sym, ap, ◌∙◌, arith}
use Rattle.std.specs.List.{position, position_or_len}
use Rattle.std.proofs.lemmas.Bool.{cases_lt, and_parts, eqb-true, cond-true, cond-false, lt-ltb, le-ltb, false_from_ne_true}
use Rattle.std.proofs.lemmas.List.Sums.{position_or_len_is}
use Rattle.rec_id.specs.Identity.{Identity}
use Rattle.rec_id.specs.declared.item.Cell.{Cell}
use Rattle.rec_id.specs.Identity.{same_id}
use Rattle.lazy_rules.specs.Store.{is_cell_of}
use Rattle.shard_store.specs.Kinds.{is_of}
use Rattle.shard_store.specs.declared.kinds.Kind.{Kind}
use Rattle.shard_store.specs.Links.{blank, bucket, tag_in, last_end, IsLinked}
use Rattle.shard_store.proofs.LinkLemmas.{last_within, last_hits, last_misses}

-- what was found of the places from this one on
abbrev pub FirstFrom : (Cell → Bool) → List Cell → ℕ → Option ℕ → Type 0
FirstFrom test cells from None = (k : ℕ) → from ≤ k → k < length cells → test (get_or cells k blank) ≡ false
FirstFrom test cells from (Some place) =
    (from ≤ place) × (place < length cells) × (test (get_or cells place blank) ≡ true)
    × ((k : ℕ) → from ≤ k → k < place → test (get_or cells k blank) ≡ false)

pub record IsWalked (size : ℕ) (kind : Kind) (id : Identity) (cells : List Cell) (end : ℕ) (found : Option ℕ) : Type 0 where
  pub within : end ≤ length cells
  pub own : 0 < end → tag_in size cells (end - 1) ≡ bucket size id
  pub first : FirstFrom (is_cell_of (is_of kind) id) cells end found

same_bucket : (size : ℕ) (a b : Identity) → same_id a b ≡ true → bucket size a ≡ bucket size b
same_bucket size a b same =
    let parts = and_parts (eqb a.client b.client) (eqb a.number b.number) same in
    ap (λ (c : ℕ). bucket size (record { client = c; number = a.number })) (eqb-true a.client b.client parts.0)
    ∙ ap (λ (n : ℕ). bucket size (record { client = b.client; number = n })) (eqb-true a.number b.number parts.1)

module _ (size : ℕ) (kind : Kind) (id : Identity) (cells : List Cell) where
  abbrev pub test : Cell → Bool
  test cell = is_cell_of (is_of kind) id cell

  lower : (from n : ℕ) (found : Option ℕ) → from ≤ n → ((k : ℕ) → from ≤ k → k < n → test (get_or cells k blank) ≡ false)
      → FirstFrom test cells n found → FirstFrom test cells from found
  lower from n None below fails first = λ k past inside. elim (cases_lt k n) [
    | inl early ↦ fails k past early
    | inr late ↦ first k late inside
  ]
  lower from n (Some place) below fails first = (
    omega (arith, first.0),
    first.1,
    first.2,
    λ k past early. elim (cases_lt k n) [
      | inl before ↦ fails k past before
      | inr late ↦ first.3 k late early
    ],
  )

  -- what was found from n on is what was found from the last place below n in the bucket on
  pub step : (n : ℕ) (found : Option ℕ) → n ≤ length cells → FirstFrom test cells n found
      → IsWalked size kind id cells (last_end (tag_in size cells) (bucket size id) n) found
  step n found inside first =
      let end : ℕ = last_end (tag_in size cells) (bucket size id) n in
      let within : end ≤ n = last_within (tag_in size cells) (bucket size id) n in
      record {
        within = omega arith;
        own = λ some. last_hits (tag_in size cells) (bucket size id) n some;
        first = lower end n found within (λ k past early. false_from_ne_true (test (get_or cells k blank)) (λ holds.
            last_misses (tag_in size cells) (bucket size id) n k past early
            (same_bucket size (get_or cells k blank).id id
            (and_parts (same_id (get_or cells k blank).id id) (is_of kind (get_or cells k blank).body) holds).0)))
            first;
      }

  pub step_here : (place : ℕ) (found : Option ℕ) → IsWalked size kind id cells (place + 1) found → test (get_or cells place blank) ≡ true
      → FirstFrom test cells place (Some place)
  step_here place found walked holds = (omega arith, omega (arith, walked.within), holds, λ k past early. absurd (omega arith))

  pub step_past : (place : ℕ) (found : Option ℕ) → IsWalked size kind id cells (place + 1) found → test (get_or cells place blank) ≡ false
      → FirstFrom test cells place found
  step_past place found walked fails =
      lower place (place + 1) found (omega arith)
      (λ k past early. ap (λ (j : ℕ). test (get_or cells j blank)) (omega arith) ∙ fails) walked.first

  -- what was found of all places is the first one
  pub found_first : (found : Option ℕ) → FirstFrom test cells 0 found → found ≡ position test cells
  found_first None first =
      let none : position_or_len test cells ≡ length cells =
      position_or_len_is test cells (length cells) blank (omega arith) (λ k below. first k (omega arith) below) (λ inside. absurd (omega arith)) in
      sym (cond-false (ltb (position_or_len test cells) (length cells)) (Some (position_or_len test cells)) None (le-ltb _ _ (omega arith)))
  found_first (Some place) first =
      let here : position_or_len test cells ≡ place =
      position_or_len_is test cells place blank (omega (arith, first.1)) (λ k below. first.3 k (omega arith) below) (λ _. first.2) in
      let inside : position_or_len test cells < length cells = omega (arith, first.1) in
      sym (cond-true (ltb (position_or_len test cells) (length cells)) (Some (position_or_len test cells)) None (lt-ltb _ _ inside) ∙ ap Some here)

  -- the end of the place before, as the links tell it
  pub end_before : (heads before : List ℕ) (place end : ℕ) (found : Option ℕ) → IsLinked (tag_in size cells) heads before (length cells)
      → IsWalked size kind id cells (place + 1) found → end ≡ get_or before place 0 → end ≡ last_end (tag_in size cells) (bucket size id) place
  end_before heads before place end found linked walked is =
      let own : tag_in size cells place ≡ bucket size id =
      ap (λ (k : ℕ). tag_in size cells k) (omega arith) ∙ walked.own (omega arith) in
      is ∙ linked.before_is place (omega (arith, walked.within)) ∙ ap (λ (t : ℕ). last_end (tag_in size cells) t place) own
