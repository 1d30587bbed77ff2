-- The laws of windows.
use Rattle.std.proofs.Common.{◌≡◌, ℕ, ◌+◌, ◌-◌, ◌*◌, ◌<◌, ◌≤◌, List, [], ◌∷◌, All, Bool, true, false, ◌&&◌, ◌||◌, eqb, ltb, leb, length, max, inl, inr, sym, ap, subst, ◌∙◌, refl, arith}
use Rattle.std.proofs.lemmas.Bool.{cases_lt, cases_eq, and_left, or_right, eq-eqb, ne_eqb, lt-ltb, le-ltb, le-leb, lt-leb, leb-true, leb-false, or_left, or_from, and_from, cond-true, cond-false}
use Rattle.std.proofs.lemmas.List.{get_or-replicate, length-replicate, length-set, length-map, get_or-map}
use Rattle.rec_id.specs.Identity.{Identity}
use Rattle.rec_id.specs.declared.marks.Marks.{Marks}
use Rattle.rec_id.specs.Marks.{span_of, bit_of, is_marked, is_stale, is_seen, stands_marked, mark, no_marks}
use Rattle.seen_window.specs.Image.{marks_of, words_of, no_image, top_in, seen_in, mark_in, marked_count, is_image, widened, widened_image}
use Rattle.seen_window.specs.Seen.{was_marked, top_after, seen_after, marked_after, width_of, StandsFor}
use Rattle.rec_id.proofs.MarkBits.{length-words_where}
use Rattle.seen_window.proofs.MarkedCounts.{count_in, count_in-same}
use Rattle.seen_window.proofs.Formed.{IsFormed, image_facts, image_test}
use Rattle.seen_window.proofs.Images.{where_formed, client_formed, marked_same, marked_other, marked_words}
use Rattle.seen_window.proofs.ToldByMarks.{absorbed, seen_where, seen_mark, count_window}

-- what a client's marks tell of these marks
pub record ClientStands (window : ℕ) (marks : Marks) (ids : List Identity) (client : ℕ) : Type 0 where
  pub width : span_of marks ≡ window
  pub top : marks.top ≡ top_after ids client
  pub seen : (number : ℕ) → 1 ≤ number → is_seen marks number ≡ seen_after window ids client number

-- where numbers are seen as they should be, they are counted as they should be
module _ (window : ℕ) (marks : Marks) (ids : List Identity) (client : ℕ) (is : ClientStands window marks ids client) where
  abbrev top : ℕ
  top = marks.top

  abbrev kept : ℕ → Bool
  kept number = was_marked ids client number && ltb top (number + window)

  without : (a b : Bool) → (a || false) ≡ (b || false) → a ≡ b
  without true true same = refl
  without false false same = refl
  without true false same = same
  without false true same = same

  and_yes : (a : Bool) → a ≡ (a && true)
  and_yes true = refl
  and_yes false = refl

  each : (i : ℕ) → i < window → stands_marked top (is_marked marks) i ≡ (ltb i top && kept (top - i))
  each i inside = elim (cases_lt i top) [
    | inl below ↦
        let number = top - i in
        let near : leb (number + window) top ≡ false = lt-leb (number + window) top (omega arith) in
        let stale : is_stale marks number ≡ false = ap (λ (n : ℕ). leb (number + n) top) is.width ∙ near in
        let left : is_seen marks number ≡ (is_marked marks number || false) = ap (λ (b : Bool). is_marked marks number || b) stale in
        let right : seen_after window ids client number ≡ (was_marked ids client number || false) =
        ap (λ (t : ℕ). was_marked ids client number || leb (number + window) t) (sym is.top)
        ∙ ap (λ (b : Bool). was_marked ids client number || b) near in
        let same : is_marked marks number ≡ was_marked ids client number =
        without (is_marked marks number) (was_marked ids client number) (sym left ∙ is.seen number (omega arith) ∙ right) in
        let room : ltb top (number + window) ≡ true = lt-ltb top (number + window) (omega arith) in
        ap (λ (b : Bool). ltb i top && b)
        (same ∙ and_yes (was_marked ids client number) ∙ ap (λ (b : Bool). was_marked ids client number && b) (sym room))
    | inr past ↦
        and_left (ltb i top) (is_marked marks (top - i)) (le-ltb i top past)
        ∙ sym (and_left (ltb i top) (kept (top - i)) (le-ltb i top past))
  ]

  pub counted : marked_count marks ≡ marked_after window ids client
  counted =
      let stands : ℕ → Bool = λ i. ltb i top && kept (top - i) in
      ap (count_in (stands_marked top (is_marked marks)) 0) is.width
      ∙ count_in-same (stands_marked top (is_marked marks)) stands 0 0 window (λ i inside. each (0 + i) (omega arith))
      ∙ count_window (was_marked ids client) top window
      ∙ ap (λ (t : ℕ). count_in (λ number. was_marked ids client number && ltb t (number + window)) 1 t) is.top

same_either_way : (a b : ℕ) → eqb a b ≡ eqb b a
same_either_way a b = elim (cases_eq a b) [
  | inl same ↦ eq-eqb a b same ∙ sym (eq-eqb b a (sym same))
  | inr other ↦ ne_eqb a b other ∙ sym (ne_eqb b a (λ same. other (sym same)))
]

-- ---- one mark more
module _ (window : ℕ) (marks : Marks) (id : Identity) (ids : List Identity) (is : ClientStands window marks ids id.client) where
  own : (b : Bool) → (eqb id.client id.client && b) ≡ b
  own b = ap (λ (same : Bool). same && b) (eq-eqb id.client id.client refl)

  own_top : top_after (id ∷ ids) id.client ≡ max id.number (top_after ids id.client)
  own_top = cond-true (eqb id.client id.client) (max id.number (top_after ids id.client)) (top_after ids id.client) (eq-eqb id.client id.client refl)

  rises : max marks.top id.number ≡ top_after (id ∷ ids) id.client
  rises = omega (arith, own_top, is.top)

  pub stands_more : ClientStands window (mark marks id.number) (id ∷ ids) id.client
  stands_more = record {
    width = ap (λ (n : ℕ). 64 * n) (length-words_where (length marks.bits) 0 _) ∙ is.width;
    top = rises;
    seen = λ number some.
        let same = eqb number id.number in
        let was = was_marked ids id.client number in
        let stale = leb (number + window) (top_after ids id.client) in
        let now = leb (number + window) (top_after (id ∷ ids) id.client) in
        let lifts : stale ≡ true → now ≡ true = λ old.
        le-leb (number + window) (top_after (id ∷ ids) id.client) (omega (arith, leb-true (number + window) (top_after ids id.client) old, own_top)) in
        seen_mark marks id.number number some
        ∙ ap (λ (t : ℕ). (same || is_seen marks number) || leb (number + span_of marks) t) rises
        ∙ ap (λ (w : ℕ). (same || is_seen marks number) || leb (number + w) (top_after (id ∷ ids) id.client)) is.width
        ∙ ap (λ (b : Bool). (same || b) || now) (is.seen number some)
        ∙ absorbed same was stale now lifts
        ∙ ap (λ (b : Bool). (b || was) || now) (same_either_way number id.number ∙ sym (own (eqb id.number number)));
  }

module _ (window : ℕ) (marks : Marks) (id : Identity) (ids : List Identity) (client : ℕ) (other : client ≡ id.client → ⊥) (is : ClientStands window marks ids client) where
  apart : eqb id.client client ≡ false
  apart = ne_eqb id.client client (λ same. other (sym same))

  same_top : top_after (id ∷ ids) client ≡ top_after ids client
  same_top = cond-false (eqb id.client client) (max id.number (top_after ids client)) (top_after ids client) apart

  pub stands_still : ClientStands window marks (id ∷ ids) client
  stands_still = record {
    width = is.width;
    top = is.top ∙ sym same_top;
    seen = λ number some.
        is.seen number some
        ∙ ap (λ (t : ℕ). was_marked ids client number || leb (number + window) t) (sym same_top)
        ∙ ap (λ (b : Bool). (b || was_marked ids client number) || leb (number + window) (top_after (id ∷ ids) client))
        (sym (and_left (eqb id.client client) (eqb id.number number) apart));
  }

-- ---- all clients
pub each_stands : (image : List Marks) (ids : List Identity) → is_image image ≡ true → StandsFor image ids
    → (client : ℕ) → client < length image → ClientStands (width_of image) (marks_of image client) ids client
each_stands image ids is stands client inside = record {
  width = ap (λ (n : ℕ). 64 * n) (client_formed image is client inside).long;
  top = stands.top client inside;
  seen = λ number some. stands.seen (record { client = client; number = number }) inside some;
}

pub all_stand : (image : List Marks) (ids : List Identity)
    → ((client : ℕ) → client < length image → ClientStands (width_of image) (marks_of image client) ids client) → StandsFor image ids
all_stand image ids each = record {
  top = λ client inside. (each client inside).top;
  seen = λ id inside some. (each id.client inside).seen id.number some;
  marked = λ client inside. counted (width_of image) (marks_of image client) ids client (each client inside);
}

pub stands_marked_more : (image : List Marks) (ids : List Identity) (id : Identity) → is_image image ≡ true → id.client < length image
    → StandsFor image ids → StandsFor (mark_in image id) (id ∷ ids)
stands_marked_more image ids id is inside stands =
    let marked = mark_in image id in
    let width : width_of marked ≡ width_of image = ap (λ (n : ℕ). 64 * n) (marked_words image is id.client inside id.number) in
    all_stand marked (id ∷ ids) (λ client within.
    let here : client < length image = omega (arith, length-set image id.client (mark (marks_of image id.client) id.number)) in
    let was = each_stands image ids is stands client here in
    subst (λ (w : ℕ). ClientStands w (marks_of marked client) (id ∷ ids) client) (sym width) (elim (cases_eq client id.client) [
      | inl same ↦
          subst (λ (k : ℕ). ClientStands (width_of image) (marks_of marked k) (id ∷ ids) k) (sym same)
          (subst (λ (m : Marks). ClientStands (width_of image) m (id ∷ ids) id.client) (sym (marked_same image is id.client inside id.number))
          (stands_more (width_of image) (marks_of image id.client) id ids (each_stands image ids is stands id.client inside)))
      | inr other ↦
          subst (λ (m : Marks). ClientStands (width_of image) m (id ∷ ids) client) (sym (marked_other image is id.client inside id.number client other))
          (stands_still (width_of image) (marks_of image client) id ids client other was)
    ]))

pub stands_for_none : (clients words : ℕ) → StandsFor (no_image clients words) []
stands_for_none clients words =
    let image = no_image clients words in
    let long : length image ≡ clients = length-replicate clients (no_marks words) in
    let each : (client : ℕ) → client < clients → marks_of image client ≡ no_marks words =
    λ client inside. get_or-replicate clients client (no_marks words) (no_marks 0) inside in
    all_stand image [] (λ client within.
    let inside : client < clients = omega arith in
    let first : 0 < clients = omega arith in
    let words_is : words_of image ≡ words =
    ap (λ (m : Marks). length m.bits) (each 0 first) ∙ length-words_where words 0 _ in
    subst (λ (m : Marks). ClientStands (width_of image) m [] client) (sym (each client inside)) (record {
      width = ap (λ (n : ℕ). 64 * n) (length-words_where words 0 _ ∙ sym words_is);
      top = refl;
      seen = λ number some.
          seen_where words 0 (λ other. false) number some
          ∙ ap (λ (b : Bool). (b && false) || leb (number + 64 * words) 0) (lt-leb number 0 (omega arith))
          ∙ ap (λ (n : ℕ). leb (number + 64 * n) 0) (sym words_is);
    }))

-- ---- an identity is seen after a mark
twice : (a s : Bool) → (a || s) ≡ ((a || s) || s)
twice true s = refl
twice false true = refl
twice false false = refl

module _ (image : List Marks) (id : Identity) (is : is_image image ≡ true) (inside : id.client < length image) where
  abbrev marked : List Marks
  marked = mark_in image id

  abbrev by_id : ℕ → ℕ → Bool
  by_id client number = eqb id.client client && eqb id.number number

  own_seen : (number : ℕ) → 1 ≤ number
      → is_seen (marks_of marked id.client) number ≡ ((by_id id.client number || is_seen (marks_of image id.client) number) || leb (number + width_of image) (marks_of marked id.client).top)
  own_seen number some =
      let marks = marks_of image id.client in
      let made = mark marks id.number in
      let same : marks_of marked id.client ≡ made = marked_same image is id.client inside id.number in
      let width : span_of marks ≡ width_of image = ap (λ (n : ℕ). 64 * n) (client_formed image is id.client inside).long in
      ap (λ (m : Marks). is_seen m number) same ∙ seen_mark marks id.number number some
      ∙ ap (λ (w : ℕ). (eqb number id.number || is_seen marks number) || leb (number + w) made.top) width
      ∙ ap (λ (m : Marks). (eqb number id.number || is_seen marks number) || leb (number + width_of image) m.top) (sym same)
      ∙ ap (λ (b : Bool). (b || is_seen marks number) || leb (number + width_of image) (marks_of marked id.client).top)
      (same_either_way number id.number ∙ sym (ap (λ (b : Bool). b && eqb id.number number) (eq-eqb id.client id.client refl)))

  pub seen_marked : (other : Identity) → other.client < length image → 1 ≤ other.number
      → seen_in marked other ≡ ((by_id other.client other.number || seen_in image other) || leb (other.number + width_of image) (top_in marked other.client))
  seen_marked other within some = elim (cases_eq other.client id.client) [
    | inl same ↦
        subst (λ (c : ℕ). is_seen (marks_of marked c) other.number ≡ ((by_id c other.number || is_seen (marks_of image c) other.number) || leb (other.number + width_of image) (marks_of marked c).top))
        (sym same) (own_seen other.number some)
    | inr elsewhere ↦
        let marks = marks_of image other.client in
        let unchanged : marks_of marked other.client ≡ marks = marked_other image is id.client inside id.number other.client elsewhere in
        let width : span_of marks ≡ width_of image = ap (λ (n : ℕ). 64 * n) (client_formed image is other.client within).long in
        ap (λ (m : Marks). is_seen m other.number) unchanged
        ∙ twice (is_marked marks other.number) (is_stale marks other.number)
        ∙ ap (λ (w : ℕ). is_seen marks other.number || leb (other.number + w) marks.top) width
        ∙ ap (λ (m : Marks). is_seen marks other.number || leb (other.number + width_of image) m.top) (sym unchanged)
        ∙ ap (λ (b : Bool). (b || is_seen marks other.number) || leb (other.number + width_of image) (marks_of marked other.client).top)
        (sym (and_left (eqb id.client other.client) (eqb id.number other.number) (ne_eqb id.client other.client (λ same. elsewhere (sym same)))))
  ]

-- ---- a wider window
unchanged : (g a t : Bool) → (g ≡ false → a ≡ false) → (t ≡ true → a ≡ true) → ((g && a) || t) ≡ a
unchanged true true t closed lifts = refl
unchanged true false true closed lifts = sym (lifts refl)
unchanged true false false closed lifts = refl
unchanged false true true closed lifts = refl
unchanged false true false closed lifts = sym (closed refl)
unchanged false false true closed lifts = sym (lifts refl)
unchanged false false false closed lifts = refl

pub widened_seen : (marks : Marks) (number : ℕ) → length marks.bits ≤ 64 → 1 ≤ number → is_seen (widened marks) number ≡ is_seen marks number
unfolding widened
widened_seen marks number short some =
    let closed : leb number marks.top ≡ false → is_seen marks number ≡ false = λ above.
    let over : marks.top < number = leb-false number marks.top above in
    or_from (is_marked marks number) (is_stale marks number)
    (and_left (leb number marks.top) (bit_of marks.bits (marks.top - number)) above)
    (lt-leb (number + span_of marks) marks.top (omega arith)) in
    let lifts : leb (number + 64 * 64) marks.top ≡ true → is_seen marks number ≡ true = λ far.
    or_right (is_marked marks number) (is_stale marks number)
    (le-leb (number + span_of marks) marks.top (omega (arith, leb-true (number + 64 * 64) marks.top far))) in
    seen_where 64 marks.top (is_seen marks) number some
    ∙ unchanged (leb number marks.top) (is_seen marks number) (leb (number + 64 * 64) marks.top) closed lifts

widened_formed : (words : ℕ) (marks : Marks) → IsFormed words marks → IsFormed 64 (widened marks)
unfolding widened
widened_formed words marks formed = where_formed 64 marks.top (is_seen marks) (omega arith) (λ some.
    let first : marks.top - marks.top ≡ 0 = omega arith in
    or_left (is_marked marks marks.top) (is_stale marks marks.top)
    (and_from (leb marks.top marks.top) (bit_of marks.bits (marks.top - marks.top)) (le-leb marks.top marks.top (omega arith))
    (ap (bit_of marks.bits) first ∙ formed.high some)))

widened_top : (marks : Marks) → (widened marks).top ≡ marks.top
unfolding widened
widened_top marks = refl

module _ (image : List Marks) where
  read_widened : (client : ℕ) → client < length image → marks_of (widened_image image) client ≡ widened (marks_of image client)
  read_widened client inside = get_or-map widened image client (no_marks 0) (no_marks 0) inside

  pub top_widened : (client : ℕ) → client < length image → top_in (widened_image image) client ≡ top_in image client
  top_widened client inside = ap (λ (m : Marks). m.top) (read_widened client inside) ∙ widened_top (marks_of image client)

  pub seen_widened : (id : Identity) → All (λ marks. length marks.bits ≡ 4) image → id.client < length image → 1 ≤ id.number
      → seen_in (widened_image image) id ≡ seen_in image id
  seen_widened id narrow inside some =
      ap (λ (m : Marks). is_seen m id.number) (read_widened id.client inside)
      ∙ widened_seen (marks_of image id.client) id.number (omega (arith, narrow id.client (no_marks 0) inside)) some

  pub image_widened : is_image image ≡ true → (is_image (widened_image image) ≡ true) × (words_of (widened_image image) ≡ 64)
  image_widened is =
      let facts = image_facts image is in
      let each : (client : ℕ) → client < length image → IsFormed 64 (marks_of (widened_image image) client) = λ client inside.
      subst (IsFormed 64) (sym (read_widened client inside)) (widened_formed (words_of image) (marks_of image client) (facts.each client inside)) in
      let wide : words_of (widened_image image) ≡ 64 = (each 0 (omega (arith, facts.some))).long in (
        image_test (widened_image image) (record {
          known = inr wide;
          some = omega (arith, length-map image widened, facts.some);
          few = omega (arith, length-map image widened, facts.few);
          each = λ client inside.
              subst (λ (n : ℕ). IsFormed n (marks_of (widened_image image) client)) (sym wide) (each client (omega (arith, length-map image widened)));
        }),
        wide,
      )
