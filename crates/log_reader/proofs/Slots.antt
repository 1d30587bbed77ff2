-- Slots by place, and one more entry told.
use Rattle.std.proofs.Common.{◌≡◌, ◌≢◌, ℕ, zero, suc, ◌+◌, ◌-◌, ◌<◌, ◌≤◌, List, [], ◌∷◌, ◌++◌, Bool, true, false, eqb, None, Some, length, get_or, set, inl, inr, refl, sym, ap, ◌∙◌, arith}
use Rattle.std.specs.Prelude.{Option, replicate, if◌then◌else◌}
use Rattle.std.specs.Option.{is_none}
use Rattle.std.proofs.lemmas.Bool.{cases_eq, cases_lt, eq-eqb, ne_eqb, lt-ltb, le-ltb}
use Rattle.std.proofs.lemmas.List.{same_lists, get_or-set_same, get_or-set_other, get_or_past, set_past, length-set}
use Rattle.std.proofs.lemmas.List.FromFn.{get_or-map-range_with_len, length-map-range_with_len}
use Rattle.rec_id.specs.declared.entry.Entry.{Entry}
use Rattle.lazy_rules.specs.ReaderRules.{entry_at}
use Rattle.log_reader.specs.Gathering.{by_place, with_entry}

own_step : (b : Bool) (v e : Entry) (o p : Option Entry) → (o ≡ None → p ≡ Some e) → (if b then Some v else o) ≡ None → (if b then Some v else p) ≡ Some e
own_step true v e o p step is = absurd cc
own_step false v e o p step is = step is

kept_step : (b : Bool) (v e : Entry) (o p : Option Entry) → (o ≡ Some e → p ≡ Some e) → (if b then Some v else o) ≡ Some e → (if b then Some v else p) ≡ Some e
kept_step true v e o p step is = is
kept_step false v e o p step is = step is

-- the last entry told of a place counts where none was told before
at_other : (told : List (ℕ × Entry)) (q p : ℕ) (e : Entry) → q ≢ p → entry_at (told ++ (q, e) ∷ []) p ≡ entry_at told p
at_other [] q p e apart = ap (λ (b : Bool). if b then Some e else None) (ne_eqb q p apart)
at_other (x ∷ told) q p e apart = ap (λ (o : Option Entry). if eqb x.0 p then Some x.1 else o) (at_other told q p e apart)

at_own : (told : List (ℕ × Entry)) (q : ℕ) (e : Entry) → entry_at told q ≡ None → entry_at (told ++ (q, e) ∷ []) q ≡ Some e
at_own [] q e is = ap (λ (b : Bool). if b then Some e else None) (eq-eqb q q refl)
at_own (x ∷ told) q e is =
    own_step (eqb x.0 q) x.1 e (entry_at told q) (entry_at (told ++ (q, e) ∷ []) q) (at_own told q e) is

at_kept : (told : List (ℕ × Entry)) (q : ℕ) (e v : Entry) → entry_at told q ≡ Some v → entry_at (told ++ (q, e) ∷ []) q ≡ Some v
at_kept [] q e v is = absurd cc
at_kept (x ∷ told) q e v is =
    kept_step (eqb x.0 q) x.1 v (entry_at told q) (entry_at (told ++ (q, e) ∷ []) q) (at_kept told q e v) is

module _ (told : List (ℕ × Entry)) (from n q : ℕ) (e : Entry) where
  abbrev more : List (ℕ × Entry)
  more = told ++ (q, e) ∷ []

  abbrev slots : List (Option Entry)
  slots = by_place told from n

  reads : (told : List (ℕ × Entry)) (k : ℕ) (d : Option Entry) → k < n → get_or (by_place told from n) k d ≡ entry_at told (from + k)
  reads told k d inside = get_or-map-range_with_len (entry_at told) from n k (from + k) d inside refl

  long : (told : List (ℕ × Entry)) → length (by_place told from n) ≡ n
  long told = length-map-range_with_len (entry_at told) from n

  apart_at : (k : ℕ) (d : Option Entry) → k < n → q ≢ from + k → get_or slots k d ≡ get_or (by_place more from n) k d
  apart_at k d inside apart = reads told k d inside ∙ sym (at_other told q (from + k) e apart) ∙ sym (reads more k d inside)

  -- no slot is that of the place
  outside : ((k : ℕ) → k < n → q ≢ from + k) → slots ≡ by_place more from n
  outside apart =
      same_lists slots (by_place more from n) (long told ∙ sym (long more))
      (λ k d inside. let within : k < n = omega (arith, inside, long told) in apart_at k d within (apart k within))

  -- the slot of the place is empty, or not
  module _ (i : ℕ) (is : from + i ≡ q) (inside : i < n) where
    taken : (v : Entry) → entry_at told q ≡ Some v → slots ≡ by_place more from n
    taken v has =
        same_lists slots (by_place more from n) (long told ∙ sym (long more))
        (λ k d less. let within : k < n = omega (arith, less, long told) in elim (cases_eq k i) [
          | inl here ↦
              let place : from + k ≡ q = omega arith in
              reads told k d within ∙ ap (entry_at told) place ∙ has ∙ sym (at_kept told q e v has) ∙ ap (entry_at more) (sym place)
              ∙ sym (reads more k d within)
          | inr other ↦ apart_at k d within (λ (same : q ≡ from + k). other (omega arith))
        ])

    empty : entry_at told q ≡ None → set slots i (Some e) ≡ by_place more from n
    empty none =
        same_lists (set slots i (Some e)) (by_place more from n) (length-set slots i (Some e) ∙ long told ∙ sym (long more))
        (λ k d less. let within : k < n = omega (arith, less, length-set slots i (Some e), long told) in elim (cases_eq k i) [
          | inl here ↦
              let place : from + k ≡ q = omega arith in
              let within_slots : i < length slots = omega (arith, long told) in
              ap (λ (j : ℕ). get_or (set slots i (Some e)) j d) here ∙ get_or-set_same slots i (Some e) d within_slots
              ∙ sym (at_own told q e none) ∙ ap (entry_at more) (sym place) ∙ sym (reads more k d within)
          | inr other ↦
              get_or-set_other slots i k (Some e) d other ∙ apart_at k d within (λ (same : q ≡ from + k). other (omega arith))
        ])

    found : get_or slots i None ≡ entry_at told q
    found = reads told i None inside ∙ ap (entry_at told) is

    chosen : (o : Option Entry) → entry_at told q ≡ o → (if is_none (get_or slots i None) then set slots i (Some e) else slots) ≡ by_place more from n
    chosen None none =
        ap (λ (o : Option Entry). if is_none o then set slots i (Some e) else slots) (found ∙ none) ∙ empty none
    chosen (Some v) has =
        ap (λ (o : Option Entry). if is_none o then set slots i (Some e) else slots) (found ∙ has) ∙ taken v has

  -- past the slots
  past : (i : ℕ) → from + i ≡ q → n ≤ i → (if is_none (get_or slots i None) then set slots i (Some e) else slots) ≡ by_place more from n
  past i is beyond =
      let over : length slots ≤ i = omega (arith, long told) in
      ap (λ (o : Option Entry). if is_none o then set slots i (Some e) else slots) (get_or_past slots i None over)
      ∙ set_past slots i (Some e) over ∙ outside (λ k inside same. omega arith)

  pub put_one : with_entry (by_place told from n) from (q, e) ≡ by_place (told ++ (q, e) ∷ []) from n
  put_one = elim (cases_lt q from) [
    | inl below ↦
        ap (λ (b : Bool). if b then slots else (if is_none (get_or slots (q - from) None) then set slots (q - from) (Some e) else slots)) (lt-ltb q from below)
        ∙ outside (λ k inside same. omega arith)
    | inr above ↦
        let is : from + (q - from) ≡ q = omega arith in
        ap (λ (b : Bool). if b then slots else (if is_none (get_or slots (q - from) None) then set slots (q - from) (Some e) else slots)) (le-ltb q from above)
        ∙ elim (cases_lt (q - from) n) [
          | inl inside ↦ chosen (q - from) is inside (entry_at told q) refl
          | inr beyond ↦ past (q - from) is beyond
        ]
  ]

pub nothing_told : (from n : ℕ) → by_place [] from n ≡ replicate n None
nothing_told from zero = refl
nothing_told from (suc n) = ap (λ (l : List (Option Entry)). None ∷ l) (nothing_told (from + 1) n)
