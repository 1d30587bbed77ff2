-- Clause (a) by keys.
use Rattle.std.proofs.Common.{◌≡◌, ℕ, ◌+◌, ◌<◌, ◌≤◌, List, length, map, Option, Some, None, inl, inr, sym, ap, ◌∙◌, subst, arith}
use Rattle.std.proofs.lemmas.Bool.{cases_eq}
use Rattle.rec_id.specs.Lawful.{UniqueAt}
use Rattle.rec_id.specs.Verdict.{IsPairBefore}
use Rattle.rec_id.specs.declared.entry.Entry.{Entry}
use Rattle.log_law.specs.declared.told.Names.TheVariants.{All}
use Rattle.log_law.specs.Keys.{key_at, IsNext, IsApart}
use Rattle.log_law.specs.Pairs.{IsFirstBreach}
use Rattle.log_law.specs.Told.{id_key, entry_key}
use Rattle.log_law.proofs.Indexing.{key_within}
use Rattle.log_law.proofs.ToldKeys.{keys_of_id, id_of_keys, some_id_of_keys}

module _ (keys : List (Option (ℕ × ℕ))) (p : ℕ) where
  pub apart_none : key_at keys p ≡ None → (q : ℕ) → IsApart keys p q
  apart_none e q key lt s t = cc

  module _ (key : ℕ × ℕ) (here : key_at keys p ≡ Some key) (n : ℕ) (h : IsNext keys (p + 1) key n) where
    apart_before : (q : ℕ) → q < n → IsApart keys p q
    apart_before q lt own before s t = let same : own ≡ key = (let g : Some own ≡ Some key = sym s ∙ here in cc) in h.none q (omega arith) lt (t ∙ ap Some same)

    pub apart_last : length keys ≤ n → (q : ℕ) → IsApart keys p q
    apart_last ge q own before s t = apart_before q (let w = key_within keys q own t in omega arith) own before s t

    pub repeated : n < length keys → ((i j : ℕ) → i < p → IsApart keys i j) → IsFirstBreach (IsApart keys) p n
    repeated lt f = record { broken = λ apart. apart key (let a = h.at_least in omega arith) here (h.stands lt); least = least }
      where
        least : (i j : ℕ) → IsPairBefore i j p n → IsApart keys i j
        least i j (inl before) = f i j before
        least i j (inr e) = subst (λ (x : ℕ). IsApart keys x j) (sym e.0) (apart_before j e.1)

pub apart_more : (keys : List (Option (ℕ × ℕ))) (n : ℕ) → ((p q : ℕ) → p < n → IsApart keys p q) → ((q : ℕ) → IsApart keys n q) → (p q : ℕ) → p < n + 1 → IsApart keys p q
apart_more keys n f g p q lt = elim (cases_eq p n) [ inl e ↦ subst (λ (x : ℕ). IsApart keys x q) (sym e) (g q) | inr ne ↦ f p q (omega arith) ]

pub apart_all : (keys : List (Option (ℕ × ℕ))) (n : ℕ) → length keys ≤ n → ((p q : ℕ) → p < n → IsApart keys p q) → (p q : ℕ) → IsApart keys p q
apart_all keys n ge f p q key lt s t = f p q (let w = key_within keys p key s in omega arith) key lt s t

module _ (line : List Entry) (p q : ℕ) where
  pub unique_to : IsApart (map (entry_key All) line) p q → UniqueAt line p q
  unique_to h = record { differ = λ id lt s t. h (id_key id) lt (keys_of_id line p id s) (keys_of_id line q id t) }

  pub unique_from : UniqueAt line p q → IsApart (map (entry_key All) line) p q
  unique_from h key lt s t =
      let one = some_id_of_keys line p key s in
      let key_is : key_at (map (entry_key All) line) q ≡ Some (id_key one.told) = t ∙ ap Some (sym one.is) in
      h.differ one.told lt (id_of_keys line p one.told (s ∙ ap Some (sym one.is))) (id_of_keys line q one.told key_is)
