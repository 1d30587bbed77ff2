-- The slots of a flight, each with room for the same numbers of answers.
use Rattle.std.proofs.Common.{◌≡◌, ℕ, List, [], ◌∷◌, ◌++◌, false, length, subst, sym, ap, ◌∙◌, refl, arith}
use Rattle.std.proofs.lemmas.Bool.{or_parts, cond-false}
use Rattle.std.proofs.lemmas.List.{length-map, length_push}
use Rattle.lazy_rules.specs.Flight.{Batch, is_placing_to, is_ordering_to, has_placing, has_ordering, answered_by, with_place, with_order}
use Rattle.binder.specs.Sound.{IsFlight}
use Rattle.binder.specs.Held.{batches, Held, AllFor, Each, IsKept, rooms}

pub each_weaker : (P Q : Held → Type 0) → ((held : Held) → P held → Q held) → (slots : List Held) → Each P slots → Each Q slots
each_weaker P Q weaker [] each = tt
each_weaker P Q weaker (x ∷ xs) each = (weaker x each.0, each_weaker P Q weaker xs each.1)

pub same_length : (old new : List Held) → rooms new ≡ rooms old → length new ≡ length old
same_length old new same =
    let pair : Held → ℕ × ℕ = λ held. (held.shards, held.followers) in
    sym (length-map new pair) ∙ ap length same ∙ length-map old pair

module _ (shards followers : ℕ) where
  all_shards : (slots : List Held) → AllFor shards followers slots → Each (λ held. held.shards ≡ shards) slots
  all_shards slots all = each_weaker (λ held. (held.shards ≡ shards) × (held.followers ≡ followers)) (λ held. held.shards ≡ shards) (λ held is. is.0) slots all

  -- likewise of the slots that were lent
  pub lent_shards : (lent slots : List Held) → lent ≡ slots → AllFor shards followers slots → Each (λ held. held.shards ≡ shards) lent
  lent_shards lent slots same all = subst (λ (l : List Held). Each (λ held. held.shards ≡ shards) l) (sym same) (all_shards slots all)

  for_same : (old new : List Held) → rooms new ≡ rooms old → AllFor shards followers old → AllFor shards followers new
  for_same old [] same all = tt
  for_same [] (y ∷ ys) same all = let wrong : (y.shards, y.followers) ∷ rooms ys ≡ [] = same in cc
  for_same (x ∷ xs) (y ∷ ys) same all =
      let pair : ℕ × ℕ = (y.shards, y.followers) in
      let first : pair ≡ (x.shards, x.followers) = cc in
      let others : rooms ys ≡ rooms xs = cc in
      ((ap (λ (p : ℕ × ℕ). p.0) first ∙ all.0.0, ap (λ (p : ℕ × ℕ). p.1) first ∙ all.0.1), for_same xs ys others all.1)

  -- what was written over the slots of a flight keeps their room
  pub kept_flight : (old new spare : List Held) (room spare_room : ℕ) → rooms new ≡ rooms old → IsFlight (batches new)
      → IsKept shards followers old spare room spare_room → IsKept shards followers new spare room spare_room
  kept_flight old new spare room spare_room same sound kept = record {
    flying = for_same old new same kept.flying;
    waiting = kept.waiting;
    four = omega (arith, kept.four, same_length old new same);
    fits = kept.fits;
    spare_fits = kept.spare_fits;
    sound = sound;
  }

pub shards_same : (shards : ℕ) (old new : List Held) → rooms new ≡ rooms old → Each (λ held. held.shards ≡ shards) old → Each (λ held. held.shards ≡ shards) new
shards_same shards old [] same all = tt
shards_same shards [] (y ∷ ys) same all = let wrong : (y.shards, y.followers) ∷ rooms ys ≡ [] = same in cc
shards_same shards (x ∷ xs) (y ∷ ys) same all =
    let pair : ℕ × ℕ = (y.shards, y.followers) in
    let first : pair ≡ (x.shards, x.followers) = cc in
    let others : rooms ys ≡ rooms xs = cc in
    (ap (λ (p : ℕ × ℕ). p.0) first ∙ all.0, shards_same shards xs ys others all.1)

-- ---- an answer for no batch
pub place_nowhere : (flight : List Batch) (shard upto : ℕ) → has_placing flight upto ≡ false → with_place flight shard upto ≡ flight
place_nowhere [] shard upto none = refl
place_nowhere (x ∷ xs) shard upto none =
    let parts = or_parts (is_placing_to upto x) (has_placing xs upto) none in
    ap (λ (b : Batch). b ∷ with_place xs shard upto) (cond-false (is_placing_to upto x) (record x { placed = answered_by x.placed shard }) x parts.0)
    ∙ ap (λ (l : List Batch). x ∷ l) (place_nowhere xs shard upto parts.1)

pub order_nowhere : (flight : List Batch) (follower upto : ℕ) → has_ordering flight upto ≡ false → with_order flight follower upto ≡ flight
order_nowhere [] follower upto none = refl
order_nowhere (x ∷ xs) follower upto none =
    let parts = or_parts (is_ordering_to upto x) (has_ordering xs upto) none in
    ap (λ (b : Batch). b ∷ with_order xs follower upto) (cond-false (is_ordering_to upto x) (record x { ordered = answered_by x.ordered follower }) x parts.0)
    ∙ ap (λ (l : List Batch). x ∷ l) (order_nowhere xs follower upto parts.1)

-- ---- one slot more in the flight, the last of the spare ones
each_append : (P : Held → Type 0) (xs ys : List Held) → Each P xs → Each P ys → Each P (xs ++ ys)
each_append P [] ys left right = right
each_append P (x ∷ xs) ys left right = (left.0, each_append P xs ys left.1 right)

each_parts : (P : Held → Type 0) (xs ys : List Held) → Each P (xs ++ ys) → Each P xs × Each P ys
each_parts P [] ys each = (tt, each)
each_parts P (x ∷ xs) ys each =
    let rest = each_parts P xs ys each.1 in ((each.0, rest.0), rest.1)

pub kept_begun : (shards followers : ℕ) (flight spare left : List Held) (slot held : Held) (room spare_room : ℕ) → IsKept shards followers flight spare room spare_room
    → spare ≡ left ++ slot ∷ [] → held.shards ≡ slot.shards → held.followers ≡ slot.followers → IsFlight (batches (flight ++ held ∷ []))
    → IsKept shards followers (flight ++ held ∷ []) left room spare_room
kept_begun shards followers flight spare left slot held room spare_room kept is same_shards same_followers sound =
    let fits : Held → Type 0 = λ h. (h.shards ≡ shards) × (h.followers ≡ followers) in
    let parts = each_parts fits left (slot ∷ []) (subst (λ (l : List Held). AllFor shards followers l) is kept.waiting) in
    record {
      flying = each_append fits flight (held ∷ []) kept.flying ((same_shards ∙ parts.1.0.0, same_followers ∙ parts.1.0.1), tt);
      waiting = parts.0;
      four = omega (arith, kept.four, ap length is, length_push left slot, length_push flight held);
      fits = kept.fits;
      spare_fits = kept.spare_fits;
      sound = sound;
    }
