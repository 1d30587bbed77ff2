-- A walk through slots from the first to the last.
use Rattle.std.proofs.Common.{◌≡◌, ℕ, zero, suc, ◌+◌, List, [], ◌∷◌, ◌++◌, Some, None, drop, take, refl, sym, ap, ◌∙◌, arith}
use Rattle.std.specs.List.{flat_map}
use Rattle.std.proofs.lemmas.List.{append_assoc}
use Rattle.std.specs.Prelude.{Option, slice_get}
use Rattle.lazy_rules.specs.ClientState.{OpenAppend}
use Rattle.append_client.specs.Appends.{taken}

-- the appends from an empty slot on, and from one that isn't empty
pub rest_empty : (slots : List (Option OpenAppend)) (i j : ℕ) → j ≡ i + 1 → slice_get slots i ≡ Some None → taken (drop i slots) ≡ taken (drop j slots)
rest_empty [] i j next is = absurd cc
rest_empty (x ∷ slots) i zero next is = absurd (omega arith)
rest_empty (None ∷ slots) zero (suc zero) next is = refl
rest_empty (Some a ∷ slots) zero (suc zero) next is = absurd cc
rest_empty (x ∷ slots) zero (suc (suc j)) next is = absurd (omega arith)
rest_empty (x ∷ slots) (suc i) (suc j) next is = rest_empty slots i j (omega arith) is

pub rest_next : (slots : List (Option OpenAppend)) (i j : ℕ) (a : OpenAppend) → j ≡ i + 1 → slice_get slots i ≡ Some (Some a)
    → taken (drop i slots) ≡ a ∷ taken (drop j slots)
rest_next [] i j a next is = absurd cc
rest_next (x ∷ slots) i zero a next is = absurd (omega arith)
rest_next (None ∷ slots) zero (suc zero) a next is = absurd cc
rest_next (Some b ∷ slots) zero (suc zero) a next is =
    let same : b ≡ a = cc in
    ap (λ (append : OpenAppend). let all : List OpenAppend = append ∷ taken slots in all) same
rest_next (x ∷ slots) zero (suc (suc j)) a next is = absurd (omega arith)
rest_next (x ∷ slots) (suc i) (suc j) a next is = rest_next slots i j a (omega arith) is

-- what is sent for the first appends, with one append more
pub sent_next : {S : Type 0} (f : OpenAppend → List S) (slots : List (Option OpenAppend)) (i j left less : ℕ) (a : OpenAppend) (sends : List S)
    → j ≡ i + 1 → slice_get slots i ≡ Some (Some a) → left ≡ less + 1
    → (sends ++ f a) ++ flat_map f (take less (taken (drop j slots))) ≡ sends ++ flat_map f (take left (taken (drop i slots)))
sent_next f slots i j zero less a sends next is sum = absurd (omega arith)
sent_next {S} f slots i j (suc left) less a sends next is sum =
    let same : less ≡ left = omega arith in
    append_assoc sends (f a) (flat_map f (take less (taken (drop j slots))))
    ∙ ap (λ (n : ℕ). sends ++ (f a ++ flat_map f (take n (taken (drop j slots))))) same
    ∙ ap (λ (l : List OpenAppend). sends ++ flat_map f (take (suc left) l)) (sym (rest_next slots i j a next is))
