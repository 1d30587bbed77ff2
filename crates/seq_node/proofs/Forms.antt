-- What the door asks of marks, and that it is the form of a window.
use Rattle.std.proofs.Common.{◌≡◌, ℕ, zero, suc, ◌+◌, ◌*◌, ◌<◌, ◌≤◌, ◌⊎◌, List, Bool, true, false, not, ◌&&◌, ◌||◌, eqb, ltb, length, inl, inr, sym, ap, subst, ◌∙◌, ◌^◌, refl, arith}
use Rattle.std.proofs.lemmas.Bool.{and_parts, or_cases, eqb-true, ltb-true, lt-ltb, le-ltb, not-true}
use Rattle.rec_id.specs.declared.marks.Marks.{Marks}
use Rattle.rec_id.specs.Marks.{bit_of}
use Rattle.rec_id.specs.Marks.{no_marks}
use Rattle.std.specs.Prelude.{◌/◌}
use Rattle.std.specs.List.{list_all}
use Rattle.std.proofs.lemmas.Bool.{cases_lt, cases_eq}
use Rattle.rec_id.proofs.MarkBits.{bit_of-past}
use Rattle.view_config.specs.declared.config.Config.{Config}
use Rattle.view_config.specs.declared.edition.Edition.{Edition}
use Rattle.view_config.specs.declared.edition.Edition.TheVariants.{One, Two}
use Rattle.view_config.specs.Limits.{window_of}
use Rattle.view_config.specs.Shape.{Dimensions, IsShape}
use Rattle.seen_window.specs.Image.{marks_of, words_of, is_image}
use Rattle.seen_window.proofs.Formed.{IsFormed, all_at, image_test}
use Rattle.lazy_rules.specs.Door.{has_none_below_one, is_marks, is_window, is_node, is_node_list, is_config}

module _ (marks : Marks) where
  step : (i n m : ℕ) → n ≡ suc m → has_none_below_one marks i n ≡ ((ltb i marks.top || not (bit_of marks.bits i)) && has_none_below_one marks (i + 1) m)
  step i n m e = ap (has_none_below_one marks i) e

  pub below : (i n m : ℕ) → n ≡ suc m → i < marks.top → has_none_below_one marks i n ≡ has_none_below_one marks (i + 1) m
  below i n m e under =
      step i n m e ∙ ap (λ (b : Bool). (b || not (bit_of marks.bits i)) && has_none_below_one marks (i + 1) m) (lt-ltb i marks.top under)

  pub set : (i n m : ℕ) → n ≡ suc m → marks.top ≤ i → bit_of marks.bits i ≡ true → has_none_below_one marks i n ≡ false
  set i n m e over is =
      step i n m e ∙ ap (λ (b : Bool). (b || not (bit_of marks.bits i)) && has_none_below_one marks (i + 1) m) (le-ltb i marks.top over)
      ∙ ap (λ (b : Bool). not b && has_none_below_one marks (i + 1) m) is

  pub clear : (i n m : ℕ) → n ≡ suc m → marks.top ≤ i → bit_of marks.bits i ≡ false → has_none_below_one marks i n ≡ has_none_below_one marks (i + 1) m
  clear i n m e over is =
      step i n m e ∙ ap (λ (b : Bool). (b || not (bit_of marks.bits i)) && has_none_below_one marks (i + 1) m) (le-ltb i marks.top over)
      ∙ ap (λ (b : Bool). not b && has_none_below_one marks (i + 1) m) is

  pub skip : (k i j n m : ℕ) → j ≡ i + k → n ≡ k + m → j ≤ marks.top → has_none_below_one marks i n ≡ has_none_below_one marks j m
  skip zero i j n m to count within =
      let first : i ≡ j = omega arith in
      let rest : n ≡ m = omega arith in
      ap (λ (x : ℕ). has_none_below_one marks x n) first ∙ ap (has_none_below_one marks j) rest
  skip (suc k) i j n m to count within =
      below i n (k + m) (omega arith) (omega arith) ∙ skip k (i + 1) j (k + m) m (omega arith) (omega arith) within

  -- no bit from the greatest number on
  pub none_low : (count i : ℕ) → has_none_below_one marks i count ≡ true → (j : ℕ) → i ≤ j → j < i + count → marks.top ≤ j → bit_of marks.bits j ≡ false
  none_low zero i none j from to over = absurd (omega arith)
  none_low (suc count) i none j from to over =
      let parts = and_parts (ltb i marks.top || not (bit_of marks.bits i)) (has_none_below_one marks (i + 1) count) none in
      elim (cases_eq i j) [
        | inl here ↦ elim (or_cases (ltb i marks.top) (not (bit_of marks.bits i)) parts.0) [
          | inl under ↦ absurd (omega (arith, ltb-true i marks.top under))
          | inr is ↦ ap (bit_of marks.bits) (sym here) ∙ not-true (bit_of marks.bits i) is
        ]
        | inr apart ↦ none_low count (i + 1) parts.1 j (omega arith) (omega arith) over
      ]

words_known : (edition : Edition) → (window_of edition / 64 ≡ 4) ⊎ (window_of edition / 64 ≡ 64)
words_known One = inl refl
words_known Two = inr refl

span_known : (edition : Edition) → window_of edition ≡ 64 * (window_of edition / 64)
span_known One = refl
span_known Two = refl

module _ (d : Dimensions) (marks : Marks) (is : is_marks d marks ≡ true) where
  parts_1 : ((eqb (length marks.bits) (window_of d.edition / 64) && ltb marks.top (2 ^ 32) && list_all (λ word. ltb word (2 ^ 64)) marks.bits && has_none_below_one marks 0 (window_of d.edition)) ≡ true)
      × ((eqb marks.top 0 || bit_of marks.bits 0) ≡ true)
  parts_1 = and_parts _ (eqb marks.top 0 || bit_of marks.bits 0) is

  pub marks_long : length marks.bits ≡ window_of d.edition / 64
  marks_long =
      let p = and_parts (eqb (length marks.bits) (window_of d.edition / 64) && ltb marks.top (2 ^ 32) && list_all (λ word. ltb word (2 ^ 64)) marks.bits) (has_none_below_one marks 0 (window_of d.edition)) parts_1.0 in
      let q = and_parts (eqb (length marks.bits) (window_of d.edition / 64) && ltb marks.top (2 ^ 32)) (list_all (λ word. ltb word (2 ^ 64)) marks.bits) p.0 in
      let r = and_parts (eqb (length marks.bits) (window_of d.edition / 64)) (ltb marks.top (2 ^ 32)) q.0 in
      eqb-true (length marks.bits) (window_of d.edition / 64) r.0

  pub marks_formed : IsFormed (window_of d.edition / 64) marks
  marks_formed =
      let p = and_parts (eqb (length marks.bits) (window_of d.edition / 64) && ltb marks.top (2 ^ 32) && list_all (λ word. ltb word (2 ^ 64)) marks.bits) (has_none_below_one marks 0 (window_of d.edition)) parts_1.0 in
      record {
        long = marks_long;
        low = λ i past. elim (cases_lt i (window_of d.edition)) [
          | inl inside ↦ none_low marks (window_of d.edition) 0 p.1 i (omega arith) (omega arith) past
          | inr outside ↦ bit_of-past marks.bits i (omega (arith, marks_long, span_known d.edition))
        ];
        high = λ some. elim (or_cases (eqb marks.top 0) (bit_of marks.bits 0) parts_1.1) [
          | inl none ↦ absurd (omega (arith, eqb-true marks.top 0 none))
          | inr set ↦ set
        ];
      }

module _ (d : Dimensions) (shape : IsShape d) (window : List Marks) (is : is_window d window ≡ true) where
  window_parts : (eqb (length window) d.clients ≡ true) × (list_all (is_marks d) window ≡ true)
  window_parts = and_parts (eqb (length window) d.clients) (list_all (is_marks d) window) is

  pub window_long : length window ≡ d.clients
  window_long = eqb-true (length window) d.clients window_parts.0

  pub window_image : is_image window ≡ true
  window_image =
      let formed : (client : ℕ) → client < length window → IsFormed (window_of d.edition / 64) (marks_of window client) = λ client inside.
      marks_formed d (marks_of window client) (all_at (is_marks d) window client (no_marks 0) window_parts.1 inside) in
      let some : 1 ≤ length window = omega (arith, window_long, shape.clients_least) in
      let same : words_of window ≡ window_of d.edition / 64 = (formed 0 (omega (arith, some))).long in
      image_test window (record {
        known = subst (λ (n : ℕ). (n ≡ 4) ⊎ (n ≡ 64)) (sym same) (words_known d.edition);
        some = some;
        few = omega (arith, window_long, shape.clients_most);
        each = λ client inside. subst (λ (n : ℕ). IsFormed n (marks_of window client)) (sym same) (formed client inside);
      })

pub config_parts : (d : Dimensions) (config : Config) → is_config d config ≡ true → (1 ≤ length config.seq) × (length config.shards ≡ d.shards)
config_parts d config is =
    let p = and_parts (is_node_list d config.seq && eqb (length config.shards) d.shards) (list_all (is_node_list d) config.shards) is in
    let q = and_parts (is_node_list d config.seq) (eqb (length config.shards) d.shards) p.0 in
    let r = and_parts (ltb 0 (length config.seq)) (list_all (is_node d) config.seq) q.0 in
    (omega (arith, ltb-true 0 (length config.seq) r.0), eqb-true (length config.shards) d.shards q.1)
