-- What is seen after marks.
use Rattle.std.proofs.Common.{◌≡◌, ◌≢◌, ℕ, zero, suc, ◌+◌, ◌-◌, ◌*◌, ◌<◌, ◌≤◌, List, [], ◌∷◌, ◌++◌, Bool, true, false, cond, ◌&&◌, ◌||◌, eqb, leb, length, length-set, get_or, append_assoc, append-nil, max, Option, Some, None, inl, inr, sym, ap, subst, ◌∙◌, refl, arith}
use Rattle.std.specs.Prelude.{◌/◌, slice_get, slice_set, replicate}
use Rattle.std.proofs.lemmas.List.{length-replicate, set_past, get_or_past}
use Rattle.std.proofs.lemmas.Option.{slice_get-get_or, slice_get_cases, get_or_from_slice_get}
use Rattle.std.proofs.lemmas.Bool.{cases_lt, cases_eq, eq-eqb, ne_eqb, lt-ltb, le-leb, lt-leb, leb-true, or_right, or_from}
use Rattle.rec_id.specs.Identity.{Identity}
use Rattle.rec_id.specs.declared.marks.Marks.{Marks}
use Rattle.rec_id.specs.Marks.{span_of, bit_of, is_marked, is_stale, is_seen, stands_marked, mark, no_marks}
use Rattle.view_config.specs.declared.edition.Edition.{Edition}
use Rattle.view_config.specs.declared.edition.Edition.TheVariants.{One, Two}
use Rattle.view_config.specs.Limits.{window_of}
use Rattle.view_config.specs.Shape.{Dimensions}
use Rattle.rec_id.specs.Identity.{same_id, has_id}
use Rattle.lazy_rules.specs.SeqState.{empty_window}
use Rattle.lazy_rules.specs.Windows.{marks_of, has_seen, marked_in, marked_all, top_of}
use Rattle.rec_id.proofs.MarkBits.{bit_of-words_where, length-words_where}

-- marking leaves the words as many
pub length-mark : (marks : Marks) (number : ℕ) → length (mark marks number).bits ≡ length marks.bits
length-mark marks number = length-words_where (length marks.bits) 0 (stands_marked (max marks.top number) (λ other. eqb other number || is_marked marks other))

or_falses : (e m : Bool) → ((e || m) || false) ≡ ((e || (m || false)) || false)
or_falses true m = refl
or_falses false true = refl
or_falses false false = refl

seen_near : (x e m s o t : Bool) → x ≡ (e || m) → s ≡ false → o ≡ false → t ≡ false → (x || s) ≡ ((e || (m || o)) || t)
seen_near x e m s o t p q r u = rw (p, q, r, u) (or_falses e m)

none_some : {X : Type 0} {x : X} → None ≡ Some x → ⊥
none_some e = cc

some_inj : {X : Type 0} {x y : X} → Some x ≡ Some y → x ≡ y
some_inj e = cc

module _ (marks : Marks) (number other : ℕ) (some : 1 ≤ other) where
  abbrev top : ℕ
  top = max marks.top number

  abbrev told : ℕ → Bool
  told n = eqb n number || is_marked marks n

  -- a number that has a bit is marked where it was, or is the new one
  is_marked-mark : top < other + span_of marks → is_marked (mark marks number) other ≡ (eqb other number || is_marked marks other)
  is_marked-mark near = elim (cases_lt top other) [
    | inl above ↦
        ap (λ (b : Bool). b && bit_of (mark marks number).bits (top - other)) (lt-leb other top above)
        ∙ sym (ap (λ (b : Bool). b || is_marked marks other) (ne_eqb other number (omega arith))
        ∙ ap (λ (b : Bool). b && bit_of marks.bits (marks.top - other)) (lt-leb other marks.top (omega arith)))
    | inr within ↦
        let back : top - (top - other) ≡ other = omega arith in
        ap (λ (b : Bool). b && bit_of (mark marks number).bits (top - other)) (le-leb other top within)
        ∙ bit_of-words_where (length marks.bits) 0 (stands_marked top told) (top - other) (omega arith)
        ∙ ap (stands_marked top told) (omega arith)
        ∙ ap (λ (b : Bool). b && told (top - (top - other))) (lt-ltb (top - other) top (omega arith))
        ∙ ap told back
  ]

  -- a number is seen after one more mark exactly where it was seen, is that mark, or is stale by the
  -- new top
  pub is_seen-mark : is_seen (mark marks number) other ≡ (eqb other number || is_seen marks other || leb (other + span_of marks) top)
  is_seen-mark = elim (cases_lt top (other + span_of marks)) [
    | inl near ↦
        seen_near (is_marked (mark marks number) other) (eqb other number) (is_marked marks other) _ _ _ (is_marked-mark near)
        (lt-leb (other + span_of (mark marks number)) top (omega (arith, length-mark marks number)))
        (lt-leb (other + span_of marks) marks.top (omega arith))
        (lt-leb (other + span_of marks) top near)
    | inr far ↦
        or_right (is_marked (mark marks number) other) (is_stale (mark marks number) other)
        (le-leb (other + span_of (mark marks number)) top (omega (arith, length-mark marks number)))
        ∙ sym (or_right (eqb other number || is_seen marks other) (leb (other + span_of marks) top) (le-leb (other + span_of marks) top far))
  ]

-- ---- windows

slice_get-set : {X : Type 0} (xs : List X) (i : ℕ) (x y : X) → slice_get xs i ≡ Some x → slice_get (slice_set xs i y) i ≡ Some y
slice_get-set [] i x y e = absurd (none_some e)
slice_get-set (z ∷ xs) zero x y e = refl
slice_get-set (z ∷ xs) (suc i) x y e = slice_get-set xs i x y e

slice_get-set_other : {X : Type 0} (xs : List X) (i j : ℕ) (y : X) → i ≢ j → slice_get (slice_set xs i y) j ≡ slice_get xs j
slice_get-set_other [] i j y apart = refl
slice_get-set_other (z ∷ xs) zero zero y apart = absurd (apart refl)
slice_get-set_other (z ∷ xs) zero (suc j) y apart = refl
slice_get-set_other (z ∷ xs) (suc i) zero y apart = refl
slice_get-set_other (z ∷ xs) (suc i) (suc j) y apart = slice_get-set_other xs i j y (λ e. apart (ap suc e))

-- seen by the marks of a client, where the window has them
abbrev seen_by : Option Marks → ℕ → Bool
seen_by None number = false
seen_by (Some marks) number = is_seen marks number

-- the window with this client's marks, and one number of it more
abbrev marked_by : List Marks → ℕ → Option Marks → ℕ → List Marks
marked_by window client None number = window
marked_by window client (Some marks) number = slice_set window client (mark marks number)

-- no number from 1 on is seen by marks of no words
unseen : (n : ℕ) → 1 ≤ n → is_seen (no_marks 0) n ≡ false
unseen n some =
    or_from (is_marked (no_marks 0) n) (is_stale (no_marks 0) n)
    (ap (λ (b : Bool). b && bit_of (no_marks 0).bits (0 - n)) (lt-leb n 0 some))
    (lt-leb (n + span_of (no_marks 0)) 0 (omega arith))

seen-by : (window : List Marks) (client n : ℕ) → 1 ≤ n → is_seen (marks_of window client) n ≡ seen_by (slice_get window client) n
seen-by window client n some = elim (slice_get_cases window client).1 [
  | inl here ↦ rw (here.2, get_or_from_slice_get window client here.0 (no_marks 0) here.2)
  | inr past ↦ rw (past.1, get_or_past window client (no_marks 0) past.0) (unseen n some)
]

marked-by : (window : List Marks) (id : Identity) → marked_in window id ≡ marked_by window id.client (slice_get window id.client) id.number
marked-by window id = elim (slice_get_cases window id.client).1 [
  | inl here ↦ rw (here.2, get_or_from_slice_get window id.client here.0 (no_marks 0) here.2)
  | inr past ↦ rw past.1 (set_past window id.client (mark (marks_of window id.client) id.number) past.0)
]

-- what the window has of a client after a mark of that client, and of another
own_mark : (window : List Marks) (id : Identity) (marks : Marks) → slice_get window id.client ≡ Some marks
    → slice_get (marked_in window id) id.client ≡ Some (mark marks id.number)
own_mark window id marks here =
    rw (marked-by window id, here) (slice_get-set window id.client marks (mark marks id.number) here)

other_mark : (window : List Marks) (client number : ℕ) (marks : Option Marks) (other : ℕ) → client ≢ other
    → slice_get (marked_by window client marks number) other ≡ slice_get window other
other_mark window client number None other apart = refl
other_mark window client number (Some marks) other apart = slice_get-set_other window client other (mark marks number) apart

eqb_turned : (a b : ℕ) → eqb a b ≡ eqb b a
eqb_turned a b = elim (cases_eq a b) [
  | inl same ↦ eq-eqb a b same ∙ sym (eq-eqb b a (sym same))
  | inr apart ↦ ne_eqb a b apart ∙ sym (ne_eqb b a (λ e. apart (sym e)))
]

or_false : (x : Bool) → x ≡ ((false || x) || false)
or_false true = refl
or_false false = refl

module _ (window : List Marks) (id : Identity) (marks : Marks) (here : slice_get window id.client ≡ Some marks) where
  abbrev new_top : ℕ
  new_top = max marks.top id.number

  -- what is seen after a mark of that identity
  abbrev seen_then : ℕ → ℕ → Bool
  seen_then client n =
      (eqb id.client client && eqb id.number n) || seen_by (slice_get window client) n || (eqb client id.client && leb (n + span_of marks) new_top)

  own_seen : (n : ℕ) → 1 ≤ n → seen_by (slice_get (marked_in window id) id.client) n ≡ seen_then id.client n
  own_seen n some =
      ap (λ (o : Option Marks). seen_by o n) (own_mark window id marks here)
      ∙ is_seen-mark marks id.number n some
      ∙ rw (eq-eqb id.client id.client refl, here, eqb_turned n id.number) refl

  seen_at : (client n : ℕ) → 1 ≤ n → seen_by (slice_get (marked_in window id) client) n ≡ seen_then client n
  seen_at client n some = elim (cases_eq id.client client) [
    | inl same ↦ subst (λ (c : ℕ). seen_by (slice_get (marked_in window id) c) n ≡ seen_then c n) same (own_seen n some)
    | inr apart ↦
        ap (λ (w : List Marks). seen_by (slice_get w client) n) (marked-by window id)
        ∙ ap (λ (o : Option Marks). seen_by o n) (other_mark window id.client id.number (slice_get window id.client) client apart)
        ∙ or_false (seen_by (slice_get window client) n)
        ∙ ap (λ (b : Bool). (b && eqb id.number n) || seen_by (slice_get window client) n || false) (sym (ne_eqb id.client client apart))
        ∙ ap (λ (b : Bool). (eqb id.client client && eqb id.number n) || seen_by (slice_get window client) n || (b && leb (n + span_of marks) new_top))
        (sym (ne_eqb client id.client (λ e. apart (sym e))))
  ]

-- one more mark adds exactly that identity, and what is stale then
pub seen_one_more : (window : List Marks) (id other : Identity) (marks : Marks) → slice_get window id.client ≡ Some marks → 1 ≤ other.number → has_seen (marked_in window id) other ≡ (same_id id other || has_seen window other || (eqb other.client id.client && leb (other.number + span_of marks) (max marks.top id.number)))
seen_one_more window id other marks here some =
    seen-by (marked_in window id) other.client other.number some
    ∙ seen_at window id marks here other.client other.number some
    ∙ ap (λ (b : Bool). same_id id other || b || (eqb other.client id.client && leb (other.number + span_of marks) (max marks.top id.number))) (sym (seen-by window other.client other.number some))

-- ---- a list of marks

or_last : (x : Bool) → (x || false) ≡ x
or_last true = refl
or_last false = refl

or_assoc : (x y z : Bool) → (x || (y || z)) ≡ ((x || y) || z)
or_assoc true y z = refl
or_assoc false y z = refl

top_step : (b : Bool) (n more top k : ℕ) → more ≡ max top k → cond b (max n more) more ≡ max (cond b (max n top) top) k
top_step true n more top k e = omega arith
top_step false n more top k e = e

has_id-more : (ids : List Identity) (id other : Identity) → has_id (ids ++ id ∷ []) other ≡ (has_id ids other || same_id id other)
has_id-more [] id other = or_last (same_id id other)
has_id-more (one ∷ ids) id other =
    ap (λ (b : Bool). same_id one other || b) (has_id-more ids id other) ∙ or_assoc (same_id one other) (has_id ids other) (same_id id other)

top_of-own : (ids : List Identity) (id : Identity) → top_of (ids ++ id ∷ []) id.client ≡ max (top_of ids id.client) id.number
top_of-own [] id = ap (λ (b : Bool). cond b (max id.number 0) 0) (eq-eqb id.client id.client refl) ∙ omega arith
top_of-own (one ∷ ids) id = top_step (eqb one.client id.client) one.number _ (top_of ids id.client) id.number (top_of-own ids id)

top_of-other : (ids : List Identity) (id : Identity) (client : ℕ) → id.client ≢ client → top_of (ids ++ id ∷ []) client ≡ top_of ids client
top_of-other [] id client apart = ap (λ (b : Bool). cond b (max id.number 0) 0) (ne_eqb id.client client apart)
top_of-other (one ∷ ids) id client apart =
    ap (λ (n : ℕ). cond (eqb one.client client) (max one.number n) n) (top_of-other ids id client apart)

-- the marks of a client are those of a list of marks
record IsAfter (width : ℕ) (ids : List Identity) (client : ℕ) (marks : Marks) : Type 0 where
  wide : span_of marks ≡ width
  top : marks.top ≡ top_of ids client
  seen : (n : ℕ) → 1 ≤ n → is_seen marks n ≡ (has_id ids (record { client = client; number = n }) || leb (n + width) (top_of ids client))

absorbs : (e h l m : Bool) → (l ≡ true → m ≡ true) → ((e || (h || l)) || m) ≡ ((h || e) || m)
absorbs true true l m more = refl
absorbs true false l m more = refl
absorbs false true l m more = refl
absorbs false false true m more = sym (more refl)
absorbs false false false m more = refl

own_after : (width : ℕ) (ids : List Identity) (id : Identity) (marks : Marks) → IsAfter width ids id.client marks
    → IsAfter width (ids ++ id ∷ []) id.client (mark marks id.number)
own_after width ids id marks h = record {
  wide = omega (arith, length-mark marks id.number, h.wide);
  top = ap (λ (t : ℕ). max t id.number) h.top ∙ sym (top_of-own ids id);
  seen = λ n some.
      is_seen-mark marks id.number n some
      ∙ rw (h.seen n some, h.wide, h.top, has_id-more ids id (record { client = id.client; number = n }), top_of-own ids id, eq-eqb id.client id.client refl, eqb_turned id.number n)
      (absorbs (eqb n id.number) (has_id ids (record { client = id.client; number = n })) (leb (n + width) (top_of ids id.client)) _
      (λ e. le-leb (n + width) (max (top_of ids id.client) id.number) (omega (arith, leb-true (n + width) (top_of ids id.client) e))));
}

other_after : (width : ℕ) (ids : List Identity) (id : Identity) (client : ℕ) (marks : Marks) → id.client ≢ client → IsAfter width ids client marks
    → IsAfter width (ids ++ id ∷ []) client marks
other_after width ids id client marks apart h = record {
  wide = h.wide;
  top = h.top ∙ sym (top_of-other ids id client apart);
  seen = λ n some.
      h.seen n some
      ∙ rw (has_id-more ids id (record { client = client; number = n }), top_of-other ids id client apart, ne_eqb id.client client apart)
      (ap (λ (b : Bool). b || leb (n + width) (top_of ids client)) (sym (or_last (has_id ids (record { client = client; number = n })))));
}

-- what a window has of each client are the marks of a list
abbrev AllAfter : ℕ → List Identity → List Marks → Type 0
AllAfter width ids window = (client : ℕ) (marks : Marks) → slice_get window client ≡ Some marks → IsAfter width ids client marks

one_more : (width : ℕ) (ids : List Identity) (window : List Marks) (id : Identity) (o : Option Marks) → slice_get window id.client ≡ o → AllAfter width ids window
    → AllAfter width (ids ++ id ∷ []) (marked_by window id.client o id.number)
one_more width ids window id None is h client marks there = elim (cases_eq id.client client) [
  | inl same ↦ absurd (none_some (sym is ∙ ap (slice_get window) same ∙ there))
  | inr apart ↦ other_after width ids id client marks apart (h client marks there)
]
one_more width ids window id (Some old) is h client marks there = elim (cases_eq id.client client) [
  | inl same ↦
      let own : mark old id.number ≡ marks =
      some_inj (sym (slice_get-set window id.client old (mark old id.number) is) ∙ ap (slice_get (slice_set window id.client (mark old id.number))) same ∙ there) in
      subst (λ (c : ℕ). IsAfter width (ids ++ id ∷ []) c marks) same
      (subst (λ (m : Marks). IsAfter width (ids ++ id ∷ []) id.client m) own (own_after width ids id old (h id.client old is)))
  | inr apart ↦
      other_after width ids id client marks apart
      (h client marks (sym (slice_get-set_other window id.client client (mark old id.number) apart) ∙ there))
]

all_more : (width : ℕ) (ids more : List Identity) (window : List Marks) → AllAfter width ids window → AllAfter width (ids ++ more) (marked_all window more)
all_more width ids [] window h = subst (λ (list : List Identity). AllAfter width list window) (sym (append-nil ids)) h
all_more width ids (id ∷ more) window h =
    subst (λ (list : List Identity). AllAfter width list (marked_all (marked_in window id) more)) (append_assoc ids (id ∷ []) more)
    (all_more width (ids ++ id ∷ []) more (marked_in window id)
    (subst (λ (w : List Marks). AllAfter width (ids ++ id ∷ []) w) (sym (marked-by window id)) (one_more width ids window id (slice_get window id.client) refl h)))

length-marked : (window : List Marks) (client number : ℕ) (o : Option Marks) → length (marked_by window client o number) ≡ length window
length-marked window client number None = refl
length-marked window client number (Some marks) = length-set window client (mark marks number)

length-marked_all : (window : List Marks) (ids : List Identity) → length (marked_all window ids) ≡ length window
length-marked_all window [] = refl
length-marked_all window (id ∷ ids) = length-marked_all (marked_in window id) ids ∙ ap length (marked-by window id) ∙ length-marked window id.client id.number (slice_get window id.client)

slice_get-replicate : {X : Type 0} (n i : ℕ) (x y : X) → slice_get (replicate n x) i ≡ Some y → x ≡ y
slice_get-replicate zero i x y e = absurd (none_some e)
slice_get-replicate (suc n) zero x y e = some_inj e
slice_get-replicate (suc n) (suc i) x y e = slice_get-replicate n i x y e

-- without a mark nothing is seen
no_marks_after : (words client : ℕ) → IsAfter (64 * words) [] client (no_marks words)
no_marks_after words client = record {
  wide = ap (λ (n : ℕ). 64 * n) (length-words_where words 0 (stands_marked 0 (λ other. false)));
  top = refl;
  seen = λ n some.
      or_from (is_marked (no_marks words) n) (is_stale (no_marks words) n)
      (ap (λ (b : Bool). b && bit_of (no_marks words).bits (0 - n)) (lt-leb n 0 some))
      (lt-leb (n + span_of (no_marks words)) 0 (omega arith))
      ∙ sym (lt-leb (n + 64 * words) 0 (omega arith));
}

words_of_width : (edition : Edition) → 64 * (window_of edition / 64) ≡ window_of edition
words_of_width One = refl
words_of_width Two = refl

-- after any marks an identity is seen exactly where it was marked, or is stale by the greatest mark
-- of its client
pub has_seen-marked_all : (shape : Dimensions) (ids : List Identity) (id : Identity) → id.client < shape.clients → 1 ≤ id.number
    → has_seen (marked_all (empty_window shape) ids) id ≡ (has_id ids id || leb (id.number + window_of shape.edition) (top_of ids id.client))
has_seen-marked_all shape ids id inside some =
    let window = marked_all (empty_window shape) ids in
    let start : AllAfter (window_of shape.edition) [] (empty_window shape) = λ client marks there.
    subst (λ (w : ℕ). IsAfter w [] client marks) (words_of_width shape.edition)
    (subst (λ (m : Marks). IsAfter (64 * (window_of shape.edition / 64)) [] client m)
    (slice_get-replicate shape.clients client (no_marks (window_of shape.edition / 64)) marks there)
    (no_marks_after (window_of shape.edition / 64) client)) in
    let long : length window ≡ shape.clients =
    length-marked_all (empty_window shape) ids ∙ length-replicate shape.clients (no_marks (window_of shape.edition / 64)) in
    let there : slice_get window id.client ≡ Some (get_or window id.client (no_marks 0)) =
    slice_get-get_or window id.client (no_marks 0) (omega arith) in
    (all_more (window_of shape.edition) [] ids (empty_window shape) start id.client (get_or window id.client (no_marks 0)) there).seen id.number some
