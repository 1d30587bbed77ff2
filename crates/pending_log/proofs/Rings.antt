-- A ring keeps its words beside its items.
use Rattle.std.proofs.Common.{◌≡◌, ℕ, ◌-◌, ◌<◌, ◌≤◌, List, [], ◌∷◌, ◌++◌, length, take, drop, map, sym, ap, ◌∙◌, arith}
use Rattle.std.proofs.lemmas.List.{map-append, take-map, drop-map, take-append-drop, take_at, length-map, length-append, length-take, length-drop, length_push, map_push}
use Rattle.rec_id.specs.Identity.{IsIdentity}
use Rattle.rec_id.specs.declared.item.Item.{Item}
use Rattle.pending_log.specs.Kept.{IsKept}
use Rattle.pending_log.proofs.Identities.{valid_append, valid_parts}
use Rattle.pending_log.proofs.Places.{word_of}

module _ (items : List Item) (words : List ℕ) (room word_room : ℕ) (kept : IsKept items words room word_room) where
  pub word_count : length words ≡ length items
  word_count = ap length kept.packed_is ∙ length-map items word_of

  pub kept_push : (item : Item) (word : ℕ) → IsIdentity item.id → word ≡ word_of item → length items < room → IsKept (items ++ item ∷ []) (words ++ word ∷ []) room word_room
  kept_push item word valid is short = record {
    valid = valid_append items (item ∷ []) kept.valid (valid, tt);
    packed_is =
        ap (λ (w : ℕ). words ++ w ∷ []) is ∙ ap (λ (l : List ℕ). l ++ word_of item ∷ []) kept.packed_is
        ∙ sym (map_push word_of items item);
    within = omega (arith, length_push items item);
    same_room = kept.same_room;
  }

  pub kept_turn : (n : ℕ) → IsKept (drop n items ++ take n items) (drop n words ++ take n words) room word_room
  kept_turn n =
      let valid = valid_parts (take n items) (drop n items) (rw (take-append-drop n items) kept.valid) in
      record {
        valid = valid_append (drop n items) (take n items) valid.1 valid.0;
        packed_is =
            ap (λ (l : List ℕ). drop n l ++ take n l) kept.packed_is
            ∙ ap (λ (l : List ℕ). l ++ take n (map word_of items)) (drop-map word_of n items)
            ∙ ap (λ (l : List ℕ). map word_of (drop n items) ++ l) (take-map word_of n items)
            ∙ sym (map-append word_of (drop n items) (take n items));
        within = omega (arith, length-append (drop n items) (take n items), length-drop n items, length-take n items, kept.within);
        same_room = kept.same_room;
      }

  pub kept_drop : (n : ℕ) → n ≤ length items → IsKept (drop n items) (take (length items - n) (drop n words ++ take n words)) room word_room
  kept_drop n inside =
      let valid = valid_parts (take n items) (drop n items) (rw (take-append-drop n items) kept.valid) in
      record {
        valid = valid.1;
        packed_is =
            take_at (drop n words) (take n words) (length items - n) (omega (arith, length-drop n words, word_count))
            ∙ ap (drop n) kept.packed_is ∙ drop-map word_of n items;
        within = omega (arith, length-drop n items, kept.within);
        same_room = kept.same_room;
      }
