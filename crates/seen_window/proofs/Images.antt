-- The form of a window is kept.
use Rattle.std.proofs.Common.{◌≡◌, ℕ, ◌+◌, ◌-◌, ◌*◌, ◌<◌, ◌≤◌, ◌⊎◌, List, Bool, true, false, ◌&&◌, ◌||◌, eqb, leb, length, get_or, set, max, inl, inr, sym, ap, subst, ◌∙◌, arith}
use Rattle.std.proofs.lemmas.Bool.{cases_lt, cases_eq, and_from, or_left, or_right, eq-eqb, lt-ltb, le-ltb, le-leb}
use Rattle.std.proofs.lemmas.List.{get_or_read, get_or-set_same, get_or-set_other, get_or-replicate, length-set, length-replicate}
use Rattle.rec_id.specs.declared.marks.Marks.{Marks}
use Rattle.rec_id.specs.Marks.{bit_of, is_marked, stands_marked, marks_where, mark, no_marks}
use Rattle.seen_window.specs.Image.{marks_of, words_of, no_image, is_formed, is_image}
use Rattle.rec_id.proofs.MarkBits.{bit_of-words_where, bit_of-past, length-words_where}
use Rattle.seen_window.proofs.Formed.{IsFormed, IsImage, formed_test, image_facts, image_test}

pub where_formed : (words top : ℕ) (told : ℕ → Bool) → 1 ≤ words → (1 ≤ top → told top ≡ true) → IsFormed words (marks_where words top told)
where_formed words top told some high = record {
  long = length-words_where words 0 (stands_marked top told);
  low = λ i past. elim (cases_lt i (64 * words)) [
    | inl inside ↦
        bit_of-words_where words 0 (stands_marked top told) i inside
        ∙ ap (λ (b : Bool). b && told (top - (0 + i))) (le-ltb (0 + i) top (omega arith))
    | inr outside ↦ bit_of-past (marks_where words top told).bits i (omega (arith, length-words_where words 0 (stands_marked top told)))
  ];
  high = λ marked.
      let here : top - (0 + 0) ≡ top = omega arith in
      bit_of-words_where words 0 (stands_marked top told) 0 (omega arith)
      ∙ ap (λ (b : Bool). b && told (top - (0 + 0))) (lt-ltb (0 + 0) top (omega arith)) ∙ ap told here ∙ high marked;
}

pub mark_formed : (words : ℕ) (marks : Marks) (number : ℕ) → 1 ≤ words → IsFormed words marks → IsFormed words (mark marks number)
mark_formed words marks number some formed =
    let top = max marks.top number in
    let told : ℕ → Bool = λ other. eqb other number || is_marked marks other in
    let high : 1 ≤ top → told top ≡ true = λ marked. elim (cases_lt number marks.top) [
      | inl below ↦
          let same : top ≡ marks.top = omega arith in
          let first : marks.top - marks.top ≡ 0 = omega arith in
          ap told same ∙ or_right (eqb marks.top number) (is_marked marks marks.top)
          (and_from (leb marks.top marks.top) (bit_of marks.bits (marks.top - marks.top)) (le-leb marks.top marks.top (omega arith))
          (ap (bit_of marks.bits) first ∙ formed.high (omega arith)))
      | inr above ↦ or_left (eqb top number) (is_marked marks top) (eq-eqb top number (omega arith))
    ] in
    subst (λ (n : ℕ). IsFormed n (mark marks number)) formed.long
    (where_formed (length marks.bits) top told (omega (arith, formed.long)) high)

module _ (image : List Marks) (is : is_image image ≡ true) where
  facts : IsImage image
  facts = image_facts image is

  some_words : (1 ≤ words_of image) × (words_of image ≤ 64)
  some_words = elim facts.known [ inl narrow ↦ (omega arith, omega arith) | inr wide ↦ (omega arith, omega arith) ]

  module _ (client : ℕ) (inside : client < length image) where
    pub client_formed : IsFormed (words_of image) (marks_of image client)
    client_formed = facts.each client inside

    -- what a read of the client's marks gives
    pub read_formed : (marks : Marks) → marks ≡ get_or image client marks → (length marks.bits ≤ 64) × (is_formed (length marks.bits) marks ≡ true)
    read_formed marks read =
        let same : marks ≡ marks_of image client = get_or_read image client marks inside read (no_marks 0) in
        let formed : IsFormed (words_of image) marks = subst (IsFormed (words_of image)) (sym same) client_formed in (
          omega (arith, formed.long, some_words.1),
          formed_test (length marks.bits) marks (subst (λ (n : ℕ). IsFormed n marks) (sym formed.long) formed),
        )

    module _ (number : ℕ) where
      abbrev made : Marks
      made = mark (marks_of image client) number

      abbrev marked : List Marks
      marked = set image client made

      pub marked_same : marks_of marked client ≡ made
      marked_same = get_or-set_same image client made (no_marks 0) inside

      pub marked_other : (other : ℕ) → (other ≡ client → ⊥) → marks_of marked other ≡ marks_of image other
      marked_other other elsewhere = get_or-set_other image client other made (no_marks 0) elsewhere

      each : (other : ℕ) → other < length image → IsFormed (words_of image) (marks_of marked other)
      each other within = elim (cases_eq other client) [
        | inl here ↦
            subst (λ (k : ℕ). IsFormed (words_of image) (marks_of marked k)) (sym here)
            (subst (IsFormed (words_of image)) (sym marked_same) (mark_formed (words_of image) (marks_of image client) number some_words.0 client_formed))
        | inr elsewhere ↦ subst (IsFormed (words_of image)) (sym (marked_other other elsewhere)) (facts.each other within)
      ]

      pub marked_words : words_of marked ≡ words_of image
      marked_words = (each 0 (omega (arith, facts.some))).long

      pub mark_image : is_image marked ≡ true
      mark_image =
          image_test marked (record {
            known = subst (λ (n : ℕ). (n ≡ 4) ⊎ (n ≡ 64)) (sym marked_words) facts.known;
            some = omega (arith, length-set image client made, facts.some);
            few = omega (arith, length-set image client made, facts.few);
            each = λ other within.
                subst (λ (n : ℕ). IsFormed n (marks_of marked other)) (sym marked_words) (each other (omega (arith, length-set image client made)));
          })

pub no_image_is : (clients words : ℕ) → 1 ≤ clients → clients ≤ 256 → (words ≡ 4) ⊎ (words ≡ 64) → is_image (no_image clients words) ≡ true
no_image_is clients words some few known =
    let image = no_image clients words in
    let long : length image ≡ clients = length-replicate clients (no_marks words) in
    let some_words : 1 ≤ words = elim known [ inl narrow ↦ omega arith | inr wide ↦ omega arith ] in
    let formed : IsFormed words (no_marks words) = where_formed words 0 (λ other. false) some_words (λ marked. absurd (omega arith)) in
    let each : (client : ℕ) → client < clients → IsFormed words (marks_of image client) = λ client inside.
    subst (IsFormed words) (sym (get_or-replicate clients client (no_marks words) (no_marks 0) inside)) formed in
    let same : words_of image ≡ words = (each 0 some).long in
    image_test image (record {
      known = subst (λ (n : ℕ). (n ≡ 4) ⊎ (n ≡ 64)) (sym same) known;
      some = omega arith;
      few = omega arith;
      each = λ client inside. subst (λ (n : ℕ). IsFormed n (marks_of image client)) (sym same) (each client (omega arith));
    })
