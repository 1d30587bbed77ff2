-- One mark more in a window: it has seen that identity then, and no other one that it should not.
use Rattle.std.proofs.Common.{◌≡◌, ◌⊎◌, ℕ, ◌+◌, ◌*◌, ◌<◌, ◌≤◌, List, length-set, max, Bool, true, false, ◌&&◌, ◌||◌, eqb, leb, Some, slice_get, inl, inr, refl, sym, ap, ◌∙◌, subst, arith}
use Rattle.std.proofs.lemmas.Bool.{and_parts, cases_lt, eqb-true, le-leb, leb-true, or_right}
use Rattle.std.proofs.lemmas.Option.{get_or_from_slice_get}
use Rattle.list_facts.specs.Lists.{In}
use Rattle.list_facts.proofs.Places.{at_set_cases, below_at}
use Rattle.rec_id.specs.Identity.{Identity, same_id}
use Rattle.rec_id.specs.Marks.{is_marked, is_seen, is_stale, mark, no_marks, span_of}
use Rattle.rec_id.specs.declared.event.Event.{Event}
use Rattle.rec_id.specs.declared.marks.Marks.{Marks}
use Rattle.view_config.specs.Limits.{window_of}
use Rattle.view_config.specs.Shape.{Dimensions}
use Rattle.lazy_rules.specs.Windows.{has_seen, marked_in, marks_of}
use Rattle.lazy_rules.proofs.SeenAfter.{length-mark, seen_one_more}
use Rattle.log_facts.specs.Past.{IsBegun}
use Rattle.log_facts.specs.facts.OfLine.{SeesFacts, WindowFacts}
use Rattle.log_facts.proofs.Identities.{is_same, same_is}

pub or_cases : (x y : Bool) → (x || y) ≡ true → (x ≡ true) ⊎ (y ≡ true)
or_cases true y h = inl refl
or_cases false y h = inr h

first_of_three : (x y z : Bool) → x ≡ true → (x || y || z) ≡ true
first_of_three true y z h = refl
first_of_three false y z h = cc

second_of_three : (x y z : Bool) → y ≡ true → (x || y || z) ≡ true
second_of_three true y z h = refl
second_of_three false true z h = refl
second_of_three false false z h = cc

-- a number so far below the greatest one is seen
stale_seen : (marks : Marks) (n : ℕ) → n + span_of marks ≤ marks.top → is_seen marks n ≡ true
stale_seen marks n le = or_right (is_marked marks n) (is_stale marks n) (le-leb (n + span_of marks) marks.top le)

module _ (shape : Dimensions) (history : List Event) (window : List Marks) (formed : WindowFacts shape window) (id : Identity) (inside : id.client < shape.clients) where
  -- the marks of the identity's client
  own : (marks : Marks) × (slice_get window id.client ≡ Some marks)
  own = let long = formed.clients in below_at window id.client (omega arith)

  marks_are : marks_of window id.client ≡ own.0
  marks_are = get_or_from_slice_get window id.client own.0 (no_marks 0) own.1

  wide : span_of own.0 ≡ window_of shape.edition
  wide = formed.spans id.client own.0 own.1

  pub marked_formed : WindowFacts shape (marked_in window id)
  marked_formed = record {
    clients = length-set window id.client (mark (marks_of window id.client) id.number) ∙ formed.clients;
    spans = λ c marks at. elim (at_set_cases window id.client (mark (marks_of window id.client) id.number) c marks at) [
      | inl new ↦
          subst (λ (m : Marks). span_of m ≡ window_of shape.edition) (sym new.1)
          (ap (λ (n : ℕ). 64 * n) (length-mark (marks_of window id.client) id.number) ∙ ap span_of marks_are ∙ wide)
      | inr old ↦ formed.spans c marks old.1
    ];
  }

  module _ (ids more : List Identity) (keeps : (x : Identity) → In x ids → In x more) (only : (x : Identity) → In x more → In x ids ⊎ (id ≡ x)) (among : In id more)
      (numbers : (x : Identity) → In x more → 1 ≤ x.number) (stale : (x : Identity) → x.client ≡ id.client → 1 ≤ x.number → x.number + window_of shape.edition ≤ id.number → In x ids)
      (begun : IsBegun history id) (sees : SeesFacts shape history window ids) where
    known : (x : Identity) → In x more → has_seen (marked_in window id) x ≡ true
    known x i = seen_one_more window id x own.0 own.1 (numbers x i) ∙ elim (only x i) [
      | inl old ↦ second_of_three (same_id id x) (has_seen window x) (eqb x.client id.client && leb (x.number + span_of own.0) (max own.0.top id.number)) (sees.known x old)
      | inr new ↦ first_of_three (same_id id x) (has_seen window x) (eqb x.client id.client && leb (x.number + span_of own.0) (max own.0.top id.number)) (subst (λ (y : Identity). same_id id y ≡ true) new (is_same id))
    ]

    -- what became stale was seen before, or ended before this one began
    went_stale : (x : Identity) → x.client < shape.clients → 1 ≤ x.number → x.client ≡ id.client → x.number + span_of own.0 ≤ max own.0.top id.number → In x ids
    went_stale x there some same le = let is = wide in elim (cases_lt id.number (x.number + span_of own.0)) [
      | inl below ↦
          let marks : marks_of window x.client ≡ own.0 = ap (marks_of window) same ∙ marks_are in
          sees.seen x there some (ap (λ (m : Marks). is_seen m x.number) marks ∙ stale_seen own.0 x.number (omega arith))
      | inr not ↦ stale x same some (omega arith)
    ]

    seen : (x : Identity) → x.client < shape.clients → 1 ≤ x.number → has_seen (marked_in window id) x ≡ true → In x more
    seen x there some h = by (or_cases (same_id id x || has_seen window x) (eqb x.client id.client && leb (x.number + span_of own.0) (max own.0.top id.number)) (sym (seen_one_more window id x own.0 own.1 some) ∙ h))
      where
        by : ((same_id id x || has_seen window x) ≡ true) ⊎ ((eqb x.client id.client && leb (x.number + span_of own.0) (max own.0.top id.number)) ≡ true) → In x more
        by (inl p) = elim (or_cases (same_id id x) (has_seen window x) p) [
          | inl same ↦ subst (λ (y : Identity). In y more) (same_is id x same) among
          | inr old ↦ keeps x (sees.seen x there some old)
        ]
        by (inr p) =
            let parts = and_parts (eqb x.client id.client) (leb (x.number + span_of own.0) (max own.0.top id.number)) p in
            keeps x (went_stale x there some (eqb-true x.client id.client parts.0) (leb-true (x.number + span_of own.0) (max own.0.top id.number) parts.1))

    tops : (c : ℕ) (marks : Marks) → slice_get (marked_in window id) c ≡ Some marks → 1 ≤ marks.top → IsBegun history (record { client = c; number = marks.top })
    tops c marks at some = elim (at_set_cases window id.client (mark (marks_of window id.client) id.number) c marks at) [
      | inl new ↦
          let top : marks.top ≡ max own.0.top id.number = ap (λ (m : Marks). m.top) new.1 ∙ ap (λ (m : Marks). max m.top id.number) marks_are in
          elim (cases_lt own.0.top id.number) [
            | inl above ↦
                let is : id.number ≡ marks.top = omega arith in
                subst (λ (n : ℕ). IsBegun history (record { client = c; number = n })) is (subst (λ (n : ℕ). IsBegun history (record { client = n; number = id.number })) (sym new.0) begun)
            | inr within ↦
                let is : own.0.top ≡ marks.top = omega arith in
                subst (λ (n : ℕ). IsBegun history (record { client = c; number = n })) is (subst (λ (n : ℕ). IsBegun history (record { client = n; number = own.0.top })) (sym new.0) (sees.tops id.client own.0 own.1 (omega arith)))
          ]
      | inr old ↦ sees.tops c marks old.1 some
    ]

    pub marked_sees : SeesFacts shape history (marked_in window id) more
    marked_sees = record { known = known; seen = seen; tops = tops }
