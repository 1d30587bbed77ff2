-- A window tells of the marks that it stands for what their list tells.
use Rattle.std.proofs.Common.{◌≡◌, ℕ, zero, suc, ◌+◌, ◌-◌, ◌*◌, ◌<◌, ◌≤◌, Bool, true, false, cond, ◌&&◌, ◌||◌, eqb, ltb, leb, length, max, inl, inr, sym, ap, ◌∙◌, refl, zero-add, add-zero, arith}
use Rattle.std.proofs.lemmas.Bool.{cases_lt, and_left, and_right, or_right, ne_eqb, lt-ltb, le-ltb, le-leb, lt-leb, leb-true}
use Rattle.rec_id.specs.declared.marks.Marks.{Marks}
use Rattle.rec_id.specs.Marks.{span_of, bit_of, is_marked, is_stale, is_seen, stands_marked, marks_where, mark}
use Rattle.rec_id.proofs.MarkBits.{bit_of-words_where, length-words_where}
use Rattle.seen_window.proofs.MarkedCounts.{count_in, one_if, count_in-suc, count_in-same, count_in-split}

-- ---- seen by marks that are as told
module _ (words top : ℕ) (told : ℕ → Bool) (number : ℕ) (some : 1 ≤ number) where
  abbrev made : Marks
  made = marks_where words top told

  abbrev stale : Bool
  stale = leb (number + 64 * words) top

  long : span_of made ≡ 64 * words
  long = ap (λ (n : ℕ). 64 * n) (length-words_where words 0 (stands_marked top told))

  marked_above : top < number → is_marked made number ≡ false
  marked_above over = and_left (leb number top) (bit_of made.bits (top - number)) (lt-leb number top over)

  marked_near : number ≤ top → top < number + 64 * words → is_marked made number ≡ told number
  marked_near under near =
      let i = top - number in
      let back : top - (0 + i) ≡ number = omega arith in
      ap (λ (b : Bool). b && bit_of made.bits i) (le-leb number top under)
      ∙ bit_of-words_where words 0 (stands_marked top told) i (omega arith)
      ∙ ap (λ (b : Bool). b && told (top - (0 + i))) (lt-ltb (0 + i) top (omega arith))
      ∙ ap told back

  pub seen_where : is_seen made number ≡ ((leb number top && told number) || stale)
  seen_where =
      ap (λ (n : ℕ). is_marked made number || leb (number + n) top) long ∙ elim (cases_lt top (number + 64 * words)) [
        | inl near ↦
            ap (λ (b : Bool). b || stale) (elim (cases_lt top number) [
              | inl over ↦ marked_above over ∙ sym (and_left (leb number top) (told number) (lt-leb number top over))
              | inr under ↦ marked_near under near ∙ sym (ap (λ (b : Bool). b && told number) (le-leb number top under))
            ])
        | inr far ↦
            or_right (is_marked made number) stale (le-leb (number + 64 * words) top far)
            ∙ sym (or_right (leb number top && told number) stale (le-leb (number + 64 * words) top far))
      ]

-- ---- one number more
pub absorbed : (a b s t : Bool) → (s ≡ true → t ≡ true) → ((a || (b || s)) || t) ≡ ((a || b) || t)
absorbed true b s t lifts = refl
absorbed false true s t lifts = refl
absorbed false false true t lifts = sym (lifts refl)
absorbed false false false t lifts = refl

guarded : (g a t : Bool) → (g ≡ false → a ≡ false) → ((g && a) || t) ≡ (a || t)
guarded true a t closed = refl
guarded false a t closed = ap (λ (b : Bool). b || t) (sym (closed refl))

module _ (marks : Marks) (number other : ℕ) (some : 1 ≤ other) where
  abbrev top : ℕ
  top = max marks.top number

  pub seen_mark : is_seen (mark marks number) other ≡ ((eqb other number || is_seen marks other) || leb (other + span_of marks) top)
  seen_mark =
      let told : ℕ → Bool = λ each. eqb each number || is_marked marks each in
      let closed : leb other top ≡ false → told other ≡ false = λ above. elim (cases_lt top other) [
        | inl over ↦
            ap (λ (b : Bool). b || is_marked marks other) (ne_eqb other number (λ same. omega arith))
            ∙ and_left (leb other marks.top) (bit_of marks.bits (marks.top - other)) (lt-leb other marks.top (omega arith))
        | inr under ↦ absurd (true_is_not (sym (le-leb other top under) ∙ above))
      ] in
      let lifts : is_stale marks other ≡ true → leb (other + span_of marks) top ≡ true = λ stale.
      le-leb (other + span_of marks) top (omega (arith, leb-true (other + span_of marks) marks.top stale)) in
      seen_where (length marks.bits) top told other some
      ∙ guarded (leb other top) (told other) (leb (other + span_of marks) top) closed
      ∙ sym (absorbed (eqb other number) (is_marked marks other) (is_stale marks other) (leb (other + span_of marks) top) lifts)
    where
      true_is_not : true ≡ false → ⊥
      true_is_not wrong = cc

-- ---- counting from the greatest number down is counting up
count_none : (p : ℕ → Bool) (low count : ℕ) → ((i : ℕ) → i < count → p (low + i) ≡ false) → count_in p low count ≡ 0
count_none p low zero none = refl
count_none p low (suc count) none =
    let here : low + 0 ≡ low = omega arith in
    let first : p low ≡ false = ap p (sym here) ∙ none 0 (omega arith) in
    let rest : count_in p (low + 1) count ≡ 0 = count_none p (low + 1) count (λ i inside.
    let next : low + 1 + i ≡ low + suc i = omega arith in ap p next ∙ none (suc i) (omega arith)) in
    count_in-suc p low count ∙ ap (λ (b : Bool). cond b 1 0 + count_in p (low + 1) count) first
    ∙ zero-add (count_in p (low + 1) count) ∙ rest

count_back : (p : ℕ → Bool) (top : ℕ) → count_in (λ i. p (top - i)) 0 top ≡ count_in p 1 top
count_back p zero = refl
count_back p (suc top) =
    let down : ℕ → Bool = λ i. p (suc top - i) in
    let rest : count_in down (0 + 1) top ≡ count_in (λ i. p (top - i)) 0 top =
    count_in-same down (λ i. p (top - i)) (0 + 1) 0 top (λ i inside. let place : suc top - (0 + 1 + i) ≡ top - (0 + i) = omega arith in ap p place) in
    let last : count_in p 1 (top + 1) ≡ count_in p 1 top + count_in p (1 + top) 1 = count_in-split p 1 top 1 in
    let one : count_in p (1 + top) 1 ≡ one_if p (suc top) =
    count_in-suc p (1 + top) 0 ∙ ap (λ (n : ℕ). one_if p n + 0) (let place : 1 + top ≡ suc top = omega arith in place) ∙ add-zero (one_if p (suc top)) in
    let whole : top + 1 ≡ suc top = omega arith in
    let sum : one_if p (suc top) + count_in (λ i. p (top - i)) 0 top ≡ count_in p 1 top + count_in p (1 + top) 1 =
    omega (arith, count_back p top, one) in
    let highest : suc top - 0 ≡ suc top = omega arith in
    count_in-suc down 0 top ∙ ap (λ (n : ℕ). one_if p n + count_in down (0 + 1) top) highest
    ∙ ap (λ (n : ℕ). one_if p (suc top) + n) rest ∙ sum ∙ sym last ∙ ap (count_in p 1) whole

module _ (p : ℕ → Bool) (top window : ℕ) where
  abbrev kept : ℕ → Bool
  kept number = p number && ltb top (number + window)

  abbrev stands : ℕ → Bool
  stands i = ltb i top && kept (top - i)

  -- the numbers that stand in the window are those that are kept
  pub count_window : count_in stands 0 window ≡ count_in kept 1 top
  count_window =
      let outside : count_in stands (0 + window) top ≡ 0 = count_none stands (0 + window) top (λ i inside. elim (cases_lt (0 + window + i) top) [
        | inl below ↦
            ap (λ (b : Bool). b && kept (top - (0 + window + i))) (lt-ltb (0 + window + i) top below)
            ∙ and_right (p (top - (0 + window + i))) (ltb top (top - (0 + window + i) + window)) (le-ltb top (top - (0 + window + i) + window) (omega arith))
        | inr past ↦ and_left (ltb (0 + window + i) top) (kept (top - (0 + window + i))) (le-ltb (0 + window + i) top past)
      ]) in
      let past : count_in stands (0 + top) window ≡ 0 = count_none stands (0 + top) window (λ i inside.
      and_left (ltb (0 + top + i) top) (kept (top - (0 + top + i))) (le-ltb (0 + top + i) top (omega arith))) in
      let order : window + top ≡ top + window = omega arith in
      let near : count_in stands 0 window ≡ count_in stands 0 (window + top) = omega (arith, count_in-split stands 0 window top, outside) in
      let far : count_in stands 0 (top + window) ≡ count_in stands 0 top = omega (arith, count_in-split stands 0 top window, past) in
      let inside : count_in stands 0 top ≡ count_in (λ i. kept (top - i)) 0 top =
      count_in-same stands (λ i. kept (top - i)) 0 0 top (λ i below. ap (λ (b : Bool). b && kept (top - (0 + i))) (lt-ltb (0 + i) top (omega arith))) in
      near ∙ ap (count_in stands 0) order ∙ far ∙ inside ∙ count_back kept top
