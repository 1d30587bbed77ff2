-- What the shards told, put together.
use Rattle.std.proofs.Common.{◌≡◌, ℕ, zero, suc, ◌+◌, ◌-◌, ◌<◌, ◌≤◌, List, [], ◌∷◌, ◌++◌, ◌&&◌, None, Some, length, take, drop, map, get_or, set, refl, ap, ◌∙◌, arith}
use Rattle.std.specs.Prelude.{Option, unwrap_or}
use Rattle.std.specs.List.{flat_map, list_all, range_with_len}
use Rattle.std.specs.Option.{option_to_list, is_some}
use Rattle.std.proofs.lemmas.List.{append-nil, take_more}
use Rattle.std.proofs.lemmas.List.Concat.{flat_map-append}
use Rattle.std.proofs.lemmas.List.FromFn.{length-map-range_with_len}
use Rattle.rec_id.specs.History.{end_of}
use Rattle.rec_id.specs.declared.entry.Entry.{Entry}
use Rattle.lazy_rules.specs.ReaderRules.{entries_in, entry_at, told_by_all}
use Rattle.log_reader.specs.Gathering.{by_place, told_by}

pub told_more : (parts : List (Option (List (ℕ × Entry)))) (k : ℕ) → k < length parts → told_by_all (take (k + 1) parts) ≡ told_by_all (take k parts) ++ told_by parts k
told_more parts k inside =
    ap told_by_all (take_more parts k None inside)
    ∙ flat_map-append (λ (part : Option (List (ℕ × Entry))). unwrap_or part []) (take k parts) (get_or parts k None ∷ [])
    ∙ ap (λ (l : List (ℕ × Entry)). told_by_all (take k parts) ++ l) (append-nil (told_by parts k))

flat_map_of_map : {A B C : Type 0} (f : A → B) (g : B → List C) (xs : List A) → flat_map g (map f xs) ≡ flat_map (λ x. g (f x)) xs
flat_map_of_map f g [] = refl
flat_map_of_map f g (x ∷ xs) = ap (λ l. g (f x) ++ l) (flat_map_of_map f g xs)

pub entries_of_slots : (parts : List (Option (List (ℕ × Entry)))) (from end : ℕ)
    → flat_map option_to_list (by_place (told_by_all parts) from (end - from)) ≡ entries_in parts from end
entries_of_slots parts from end =
    flat_map_of_map (entry_at (told_by_all parts)) option_to_list (range_with_len from (end - from))

no_more : (slots : List (Option Entry)) → length (flat_map option_to_list slots) ≤ length slots
no_more [] = omega arith
no_more (None ∷ slots) = omega (arith, no_more slots)
no_more (Some e ∷ slots) = omega (arith, no_more slots)

within : (from end : ℕ) (entries : List Entry) → length entries ≤ end - from → end_of from entries ≤ end
within from end [] few = omega arith
within from end (e ∷ entries) few = omega arith

pub entries_end : (parts : List (Option (List (ℕ × Entry)))) (from end : ℕ) → end_of from (entries_in parts from end) ≤ end
entries_end parts from end =
    let slots = by_place (told_by_all parts) from (end - from) in
    let same : flat_map option_to_list slots ≡ entries_in parts from end = entries_of_slots parts from end in
    let few : length (entries_in parts from end) ≤ end - from =
    omega (arith, ap length same, no_more slots, length-map-range_with_len (entry_at (told_by_all parts)) from (end - from)) in
    within from end (entries_in parts from end) few

-- all parts are there, once this one is
pub all_with : {A : Type 0} (parts : List (Option A)) (k : ℕ) (x : A) → k < length parts
    → list_all is_some (set parts k (Some x)) ≡ (list_all is_some (take k parts) && list_all is_some (drop (k + 1) parts))
all_with [] k x inside = absurd (omega arith)
all_with (p ∷ parts) zero x inside = refl
all_with (None ∷ parts) (suc k) x inside = refl
all_with (Some y ∷ parts) (suc k) x inside =
    let next : suc (k + 1) ≡ suc k + 1 = omega arith in
    all_with parts k x (omega arith) ∙ ap (λ (m : ℕ). list_all is_some (take k parts) && list_all is_some (drop m (Some y ∷ parts))) next
