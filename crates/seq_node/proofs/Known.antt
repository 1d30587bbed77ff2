-- What is pending stays known while identities are marked.
use Rattle.std.proofs.Common.{◌≡◌, ℕ, zero, suc, ◌+◌, ◌<◌, ◌≤◌, List, [], ◌∷◌, ◌++◌, Bool, true, false, ◌||◌, drop, drop-cons, add-one, length, length-set, get_or, inl, inr, sym, ap, subst, ◌∙◌, refl, arith}
use Rattle.std.specs.Prelude.{slice_get, Some, filter, nat_lt}
use Rattle.std.specs.List.{list_all}
use Rattle.std.proofs.lemmas.Bool.{or_from, true≢false, false_from_ne_true, and_parts, ltb-true, cases_Bool}
use Rattle.std.proofs.lemmas.Option.{slice_get-get_or}
use Rattle.rec_id.specs.declared.item.Item.{Item}
use Rattle.rec_id.specs.declared.marks.Marks.{Marks}
use Rattle.rec_id.specs.Identity.{Identity, same_id}
use Rattle.rec_id.specs.Marks.{mark, no_marks}
use Rattle.pending_log.specs.Pending.{has_item}
use Rattle.pending_log.proofs.Identities.{same_parts, same_from}
use Rattle.lazy_rules.specs.Windows.{marks_of, has_seen, marked_in, marked_all}
use Rattle.lazy_rules.proofs.SeenAfter.{seen_one_more}
use Rattle.seq_node.specs.Kept.{IsKnown, AllKnown}

or_middle : (a c : Bool) → ((a || true) || c) ≡ true
or_middle true c = refl
or_middle false c = refl

module _ (window : List Marks) (id : Identity) (inside : id.client < length window) where
  there : slice_get window id.client ≡ Some (get_or window id.client (no_marks 0))
  there = slice_get-get_or window id.client (no_marks 0) inside

  pub length-marked : length (marked_in window id) ≡ length window
  length-marked = length-set window id.client (mark (marks_of window id.client) id.number)

  pub known_still : (other : Identity) → IsKnown window other → IsKnown (marked_in window id) other
  known_still other known = record {
    client = omega (arith, length-marked, known.client);
    number = known.number;
    seen =
        seen_one_more window id other (get_or window id.client (no_marks 0)) there known.number
        ∙ rw known.seen (or_middle (same_id id other) _);
  }

  pub known_now : 1 ≤ id.number → IsKnown (marked_in window id) id
  known_now some = record {
    client = omega (arith, length-marked, inside);
    number = some;
    seen =
        seen_one_more window id id (get_or window id.client (no_marks 0)) there some
        ∙ rw (same_from id id (refl, refl)) refl;
  }

  pub all_still : (items : List Item) → AllKnown window items → AllKnown (marked_in window id) items
  all_still [] known = tt
  all_still (item ∷ items) known = (known_still item.id known.0, all_still items known.1)

pub all_push : (window : List Marks) (items : List Item) (item : Item) → AllKnown window items → IsKnown window item.id → AllKnown window (items ++ item ∷ [])
all_push window [] item known last = (last, tt)
all_push window (x ∷ xs) item known last = (known.0, all_push window xs item known.1 last)

pub all_drop : (window : List Marks) (n : ℕ) (items : List Item) → AllKnown window items → AllKnown window (drop n items)
all_drop window zero items known = known
all_drop window (suc n) [] known = tt
all_drop window (suc n) (item ∷ items) known = all_drop window n items known.1

same_identity : (a b : Identity) → same_id a b ≡ true → a ≡ b
same_identity a b same =
    let parts = same_parts a b same in
    let first : Identity → ℕ → Identity = λ x n. record { client = x.client; number = n } in
    ap (λ (n : ℕ). let x : Identity = record { client = n; number = a.number } in x) parts.0 ∙ ap (first b) parts.1

pub not_pending : (window : List Marks) (items : List Item) (id : Identity) → AllKnown window items → has_seen window id ≡ false → has_item items id ≡ false
not_pending window [] id known new = refl
not_pending window (item ∷ items) id known new =
    or_from (same_id item.id id) (has_item items id)
    (false_from_ne_true (same_id item.id id) (λ same.
    true≢false (sym known.0.seen ∙ ap (has_seen window) (same_identity item.id id same) ∙ new)))
    (not_pending window items id known.1 new)

-- all clients of the identities are below a count
pub all_marked : (window : List Marks) (ids : List Identity) (items : List Item)
    → list_all (λ x. nat_lt x.client (length window)) ids ≡ true
    → AllKnown window items → (length (marked_all window ids) ≡ length window) × AllKnown (marked_all window ids) items
all_marked window [] items inside known = (refl, known)
all_marked window (id ∷ ids) items inside known =
    let parts = and_parts (nat_lt id.client (length window)) (list_all (λ x. nat_lt x.client (length window)) ids) inside in
    let first : id.client < length window = ltb-true id.client (length window) parts.0 in
    let long = length-marked window id first in
    let others : list_all (λ x. nat_lt x.client (length (marked_in window id))) ids ≡ true =
    subst (λ (n : ℕ). list_all (λ x. nat_lt x.client n) ids ≡ true) (sym long) parts.1 in
    let rest = all_marked (marked_in window id) ids items others (all_still window id first items known) in
    (rest.0 ∙ long, rest.1)

pub known_filter : (window : List Marks) (p : Item → Bool) (items : List Item) → AllKnown window items → AllKnown window (filter p items)
known_filter window p [] known = tt
known_filter window p (item ∷ items) known = elim (cases_Bool (p item)) [
  | inl keeps ↦ rw keeps (known.0, known_filter window p items known.1)
  | inr drops ↦ rw drops (known_filter window p items known.1)
]

-- the identity at this place is the first of those from it on
pub first_there : {X : Type 0} (xs : List X) (i : ℕ) (x : X) → i < length xs → x ≡ get_or xs i x → drop i xs ≡ x ∷ drop (i + 1) xs
first_there xs i x inside is = rw (add-one, drop-cons xs i x) (ap (λ y. y ∷ drop (suc i) xs) (sym is))
