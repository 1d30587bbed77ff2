-- Marks stay in their form as numbers are marked.
use Rattle.world_facts.specs.Sizes.{IsMarked, IsWindow, IsOwn}
use Rattle.view_config.specs.Shape.{Dimensions}
use Rattle.list_facts.specs.Lists.{Each}
use Rattle.view_config.specs.declared.edition.Edition.{Edition}
use Rattle.rec_id.specs.Identity.{Identity}
use Rattle.lazy_msgs.specs.FrameLimits.{IsWord}
use Rattle.rec_id.specs.declared.marks.Marks.{Marks}
use Rattle.view_config.specs.declared.edition.Edition.TheVariants.{One, Two}
use Rattle.list_facts.proofs.Places.{below_at, each_at}
use Rattle.rec_id.specs.Marks.{bit_of, is_marked, marks_where, no_marks, stands_marked, words_where, mark}
use Rattle.rec_id.proofs.MarkBits.{bit_of-words_where, length-words_where}
use Rattle.std.proofs.lemmas.Bool.{cases_lt, eq-eqb, le-leb, lt-ltb}
use Rattle.world_facts.proofs.Lists.{each_same}
use Rattle.list_facts.proofs.Changes.{each_set}
use Rattle.lazy_rules.specs.SeqState.{empty_window}
use Rattle.std.proofs.lemmas.Option.{get_or_from_slice_get}
use Rattle.std.proofs.lemmas.List.{length-replicate}
use Rattle.lazy_rules.specs.Windows.{marked_all, marked_in, marks_of}
use Rattle.std.specs.Prelude.{nat_le, nat_lt, max, ◌&&◌, ◌==◌, ◌/◌}
use Rattle.view_config.specs.Limits.{window_of}
use Rattle.std.proofs.Common.{ap, arith, inl, inr, length, refl, subst, sym, ◌≡◌, ◌<◌, ◌≤◌, ◌∷◌, ◌||◌, ◌-◌, ◌∙◌, [], true, false, ℕ, Bool, List, length-set}

both_true : (a b : Bool) → a ≡ true → b ≡ true → (a && b) ≡ true
both_true true true h k = refl
both_true true false h k = k
both_true false b h k = h

module _ (shape : Dimensions) where
  abbrev words : ℕ
  words = window_of shape.edition / 64

  pub some_words : 1 ≤ words
  some_words = by shape.edition
    where
      by : (e : Edition) → 1 ≤ window_of e / 64
      by One = omega arith
      by Two = omega arith

  pub nothing_marked : IsMarked shape (no_marks words)
  nothing_marked = record { told = λ other. false; is = refl; word = omega arith; highest = λ h. absurd (omega arith) }

  -- the bit of the greatest marked number is set
  top_marked : (marks : Marks) → IsMarked shape marks → 1 ≤ marks.top → is_marked marks marks.top ≡ true
  top_marked marks h some =
      let whole : marks.top - 0 ≡ marks.top = omega arith in
      let first : bit_of (words_where words 0 (stands_marked marks.top h.told)) 0 ≡ true =
      bit_of-words_where words 0 (stands_marked marks.top h.told) 0 (let w = some_words in omega arith)
      ∙ both_true (nat_lt 0 marks.top) (h.told (marks.top - 0)) (lt-ltb 0 marks.top some) (ap h.told whole ∙ h.highest some) in
      let bits : marks.bits ≡ words_where words 0 (stands_marked marks.top h.told) = ap (λ (m : Marks). m.bits) h.is in
      let none : marks.top - marks.top ≡ 0 = omega arith in
      let set : bit_of marks.bits (marks.top - marks.top) ≡ true = ap (λ (n : ℕ). bit_of marks.bits n) none ∙ ap (λ (ws : List ℕ). bit_of ws 0) bits ∙ first in
      both_true (nat_le marks.top marks.top) (bit_of marks.bits (marks.top - marks.top)) (le-leb marks.top marks.top (omega arith)) set

  pub marks_more : (marks : Marks) (number : ℕ) → IsMarked shape marks → IsWord number → IsMarked shape (mark marks number)
  marks_more marks number h word =
      let told : ℕ → Bool = λ other. other == number || is_marked marks other in
      let top : ℕ = max marks.top number in
      let count : length marks.bits ≡ words = ap (λ (m : Marks). length m.bits) h.is ∙ length-words_where words 0 (stands_marked marks.top h.told) in
      let below = h.word in
      record {
        told = λ other. other == number || is_marked marks other;
        is = ap (λ (n : ℕ). marks_where n (max marks.top number) (λ other. other == number || is_marked marks other)) count;
        word = omega arith;
        highest = λ some. elim (cases_lt number marks.top) [
          | inl higher ↦
              let same : max marks.top number ≡ marks.top = omega arith in
              ap (λ (n : ℕ). n == number || is_marked marks n) same ∙ or_right_true (marks.top == number) (is_marked marks marks.top) (top_marked marks h (omega arith))
          | inr lower ↦
              let same : max marks.top number ≡ number = omega arith in
              ap (λ (n : ℕ). n == number || is_marked marks n) same ∙ or_left_true (number == number) (is_marked marks number) (eq-eqb number number refl)
        ];
      }
    where
      or_right_true : (a b : Bool) → b ≡ true → (a || b) ≡ true
      or_right_true true b h = refl
      or_right_true false b h = h

      or_left_true : (a b : Bool) → a ≡ true → (a || b) ≡ true
      or_left_true true b h = refl
      or_left_true false b h = absurd (let wrong : false ≡ true = h in let no : ⊥ = cc in no)

  pub nothing_seen : IsWindow shape (empty_window shape)
  nothing_seen = record {
    count = length-replicate {A = Marks} shape.clients (no_marks words);
    each = each_same (IsMarked shape) (no_marks words) nothing_marked shape.clients;
  }

  marks_at : (window : List Marks) → IsWindow shape window → (client : ℕ) → client < shape.clients → IsMarked shape (marks_of window client)
  marks_at window h client there =
      let counted = h.count in
      let at = below_at window client (omega arith) in
      subst (IsMarked shape) (sym (get_or_from_slice_get window client at.0 (no_marks 0) at.1)) (each_at (IsMarked shape) window h.each client at.0 at.1)

  pub window_more : (window : List Marks) (id : Identity) → IsWindow shape window → IsOwn shape id → IsWindow shape (marked_in window id)
  window_more window id h own = record {
    count = length-set window id.client (mark (marks_of window id.client) id.number) ∙ h.count;
    each = each_set (IsMarked shape) window id.client (mark (marks_of window id.client) id.number) h.each (marks_more (marks_of window id.client) id.number (marks_at window h id.client own.client) own.word);
  }

  pub window_all : (window : List Marks) (ids : List Identity) → IsWindow shape window → Each (IsOwn shape) ids → IsWindow shape (marked_all window ids)
  window_all window [] h owns = h
  window_all window (id ∷ ids) h owns = window_all (marked_in window id) ids (window_more window id h owns.0) owns.1
