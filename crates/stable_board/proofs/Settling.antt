-- Once all ends have ended, the keeper's view has all that was done and seen, and a load of word 0 tells it the rule.
use Rattle.std.proofs.Common.{◌≡◌, ℕ, ◌≤◌, List, length, refl, sym, ◌∙◌, subst, arith}
use Rattle.std.specs.Prelude.{slice_index_or, nat_lt}
use Rattle.std.proofs.Math.Path.{fun_ext}
use Rattle.std.proofs.lemmas.List.{get_or_past}
use Rattle.atomic_table.specs.Table.{Me, Allows, Step, keeps}
use Rattle.list_facts.proofs.Puts.{put_same}
use Rattle.list_facts.proofs.Cases.{by_test}
use Rattle.stable_board.specs.declared.views.Published.{Published}
use Rattle.stable_board.specs.declared.views.Peeked.{Peeked}
use Rattle.stable_board.specs.declared.views.Register.{Register}
use Rattle.stable_board.specs.declared.views.View.{View}
use Rattle.stable_board.specs.declared.views.View.TheVariants.{Keeps}
use Rattle.stable_board.specs.Rule.{IsBoard, no_published, no_peeked}
use Rattle.stable_board.specs.Views.{Ends, IsRegister, words_of}
use Rattle.stable_board.specs.Told.{settle_told}
use Rattle.stable_board.proofs.Seats.{turned}
use Rattle.stable_board.proofs.Turns.{Kept}

all_published : (e : Ends) (me : ℕ) (known : Register) → IsRegister e me known → length known.published ≡ known.publishers → e.published ≡ (λ (n : ℕ). slice_index_or known.published n no_published)
all_published e me known h all = fun_ext (λ n. by_test (nat_lt n (length known.published))
    (λ t. (h.published n (grind arith)).1)
    (λ t. let past : length known.published ≤ n = grind arith in (h.no_publisher n (omega (arith, past, all))).1 ∙ sym (get_or_past known.published n no_published past)))

all_peeked : (e : Ends) (me : ℕ) (known : Register) → IsRegister e me known → length known.peeked ≡ known.peekers → e.peeked ≡ (λ (n : ℕ). slice_index_or known.peeked n no_peeked)
all_peeked e me known h all = fun_ext (λ n. by_test (nat_lt n (length known.peeked))
    (λ t. (h.peeked n (grind arith)).1)
    (λ t. let past : length known.peeked ≤ n = grind arith in (h.no_peeker n (omega (arith, past, all))).1 ∙ sym (get_or_past known.peeked n no_peeked past)))

module _ {S : Type 0} where
  pub settles : (slots me : ℕ) (known : Register) (c : List (ℕ × S)) (d : Step S) → length known.published ≡ known.publishers → length known.peeked ≡ known.peekers
      → Allows Kept slots me (Keeps known, c) 0 (λ k. k) (settle_told d (Keeps known, c))
  settles slots me known c d all_publishers all_peekers s kept count at small =
      let w = words_of s.words in
      let e = kept.ends in
      let h : IsRegister e me known = kept.fits me (Keeps known) at in
      let board = subst (λ (q : ℕ → Peeked). IsBoard w (λ (n : ℕ). slice_index_or known.published n no_published) q) (all_peeked e me known h all_peekers)
      (subst (λ (p : ℕ → Published). IsBoard w p e.peeked) (all_published e me known h all_publishers) kept.board) in (
        Keeps known,
        keeps,
        tt,
        turned s.words s.views me 0 (w 0) (Keeps known) kept e (omega arith)
            (subst (λ (word : ℕ → ℕ). IsBoard word e.published e.peeked) (sym (put_same w 0)) kept.board)
            (λ seat view other fits. fits)
            h,
        (refl, (refl, record { words = s.words; count = kept.count; top_is = refl; board = board })),
      )

  pub settles_as : (slots me : ℕ) (known : Register) (before : Me S View) (d : Step S) → before.0 ≡ Keeps known → length known.published ≡ known.publishers → length known.peeked ≡ known.peekers
      → Allows Kept slots me before 0 (λ k. k) (settle_told d before)
  settles_as slots me known before d is publishers peekers = subst (λ (v : View). Allows Kept slots me (v, before.1) 0 (λ k. k) (settle_told d (v, before.1))) (sym is) (settles slots me known before.1 d publishers peekers)
