-- What stands before an index, by the index of keys.
use Rattle.std.proofs.Common.{◌≡◌, ℕ, ◌+◌, ◌<◌, ◌≤◌, List, length, map, Option, Some, inl, inr, ap, ◌∙◌, arith}
use Rattle.std.specs.Prelude.{option_map}
use Rattle.std.proofs.lemmas.Bool.{cases_eq, cases_lt}
use Rattle.std.proofs.lemmas.List.{length-map}
use Rattle.rec_id.specs.History.{told_at, SomeBefore, NoneBefore, OneBefore}
use Rattle.rec_id.specs.declared.event.Event.{Event}
use Rattle.log_law.specs.Keys.{key_at, IsNext}
use Rattle.log_law.proofs.ToldKeys.{keys_of_told, told_of_keys}

module _ {B : Type 0} (f : Event → Option B) (g : B → ℕ × ℕ) (inj : (a b : B) → g a ≡ g b → a ≡ b) (history : List Event) where
  abbrev pub keys : List (Option (ℕ × ℕ))
  keys = map (λ (e : Event). option_map g (f e)) history

  tells : (x : B) (i : ℕ) → key_at keys i ≡ Some (g x) → told_at f history i ≡ Some x
  tells x i k = let t = told_of_keys f g history i (g x) k in t.tells ∙ ap Some (inj t.told x t.is)

  module _ (j : ℕ) (short : j ≤ length history) (x : B) (n : ℕ) (h : IsNext keys 0 (g x) n) where
    pub none_yes : j ≤ n → NoneBefore f history j x
    none_yes le = record { none = λ i lt t. h.none i (omega arith) (omega arith) (keys_of_told f g history i x t) }

    pub told_there : n < j → told_at f history n ≡ Some x
    told_there lt = tells x n (h.stands (omega (arith, length-map history (λ (e : Event). option_map g (f e)))))

    pub none_no : n < j → ¬ NoneBefore f history j x
    none_no lt none = none.none n lt (told_there lt)

    pub some_yes : n < j → SomeBefore f history j x
    some_yes lt = record { index = n; before = lt; tells = told_there lt }

    pub some_no : j ≤ n → ¬ SomeBefore f history j x
    some_no le some = let b = some.before in h.none some.index (omega arith) (omega arith) (keys_of_told f g history some.index x some.tells)

    module _ (m : ℕ) (k : IsNext keys (n + 1) (g x) m) where
      pub one_yes : n < j → j ≤ m → OneBefore f history j x
      one_yes lt le = record { index = n; before = lt; tells = told_there lt; only = only }
        where
          only : (i : ℕ) → i < j → told_at f history i ≡ Some x → i ≡ n
          only i before t = elim (cases_eq i n) [
            | inl e ↦ e
            | inr ne ↦ absurd (elim (cases_lt i n) [
              | inl less ↦ h.none i (omega arith) less (keys_of_told f g history i x t)
              | inr more ↦ k.none i (omega arith) (omega arith) (keys_of_told f g history i x t)
            ])
          ]

      pub one_no : n < j → m < j → ¬ OneBefore f history j x
      one_no lt less one =
          let a = k.at_least in
          let same = one.only n lt (told_there lt) in
          let other = one.only m less (tells x m (k.stands (omega (arith, length-map history (λ (e : Event). option_map g (f e)))))) in
          omega arith

    pub one_none : j ≤ n → ¬ OneBefore f history j x
    one_none le one = let b = one.before in h.none one.index (omega arith) (omega arith) (keys_of_told f g history one.index x one.tells)
