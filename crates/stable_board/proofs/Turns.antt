-- What each step on a word owes: it keeps the rule, and what it tells is true.
use Rattle.std.proofs.Common.{◌≡◌, ◌≢◌, ◌⊎◌, ℕ, ◌+◌, ◌-◌, ◌<◌, ◌≤◌, ◌^◌, max, List, length, refl, sym, ap, ◌∙◌, subst, ⊎_elim, inl, inr, arith, Bool, true, false, le_trans}
use Rattle.std.specs.Prelude.{slice_index, nat_lt, ◌==◌, ◌||◌, if◌then◌else◌}
use mathlib.Core.Option.{some}
use mathlib.Core.Option as maybe
use lib.ListN.{get_elem?}
use prog.Atomic.{either}
use Rattle.atomic_table.specs.Table.{State, Me, Act, keeps, Step, step, Allows, stepped, Valid, carried_after}
use Rattle.atomic_table.proofs.Lists.{exchanged}
use Rattle.list_facts.specs.Lists.{In, put}
use Rattle.list_facts.proofs.Puts.{put_own, put_other, put_same}
use Rattle.list_facts.proofs.Cases.{by_test}
use Rattle.list_facts.proofs.Places.{below_at}
use Rattle.rec_id.specs.Identity.{Identity, IsIdentity, packed}
use Rattle.stable_board.specs.declared.claim.BoardClaim.{BoardClaim}
use Rattle.stable_board.specs.declared.views.Published.{Published}
use Rattle.stable_board.specs.declared.views.Peeked.{Peeked}
use Rattle.stable_board.specs.declared.views.View.{View}
use Rattle.stable_board.specs.declared.views.View.TheVariants.{Publishes, Peeks}
use Rattle.stable_board.specs.Claims.{packed_claim, claim_in, identity_in, no_claim}
use Rattle.stable_board.specs.Rule.{IsAt, IsBoard, WasVerified}
use Rattle.stable_board.specs.Steps.{with_verified, with_raised, with_stop, with_claim, with_note}
use Rattle.stable_board.specs.Views.{Holds, words_of}
use Rattle.stable_board.specs.Told.{Agrees, after_set, IsFound, IsTop, set_told, raise_told, look_told, note_told}
use Rattle.stable_board.proofs.Packing.{identity_packed, packed_identity, packed_positive, in_packed}
use Rattle.stable_board.proofs.BoardSteps.{peeks, notes, stops, raises, verifies}
use Rattle.stable_board.proofs.Seats.{publishing, peeking, others_published, others_peeked, turned}

-- the word of a place that is set is an identity, and what was noted of the place before is this one
pub found_at : (w : ℕ → ℕ) (p : ℕ → Published) (s : ℕ → Peeked) (place : ℕ) → IsBoard w p s → w (place + 1) ≢ 0 → IsAt w (place, identity_in (w (place + 1)))
found_at w p s place b some_word = ⊎_elim (λ none. absurd (some_word none)) (λ (h : WasVerified w p place).
    let valid : IsIdentity h.identity = ((b.verified h.by place h.identity h.verified).0).0 in
    let same : identity_in (w (place + 1)) ≡ h.identity = ap identity_in h.is ∙ identity_packed h.identity valid in
    (subst IsIdentity (sym same) valid, sym (packed_identity (w (place + 1))))) (b.set place)

agreeing : (w : ℕ → ℕ) (place : ℕ) (noted : List (ℕ × Identity)) → ((x : ℕ × Identity) → In x noted → IsAt w x) → Agrees noted place (identity_in (w (place + 1)))
agreeing w place noted all x at here =
    let h = all x at in
    sym (identity_packed x.1 h.0) ∙ ap identity_in (sym h.1 ∙ ap (λ (k : ℕ). w (k + 1)) here)

-- a claim that was raised is of at most 65,536 places
few_verified : (w : ℕ → ℕ) (p : ℕ → Published) (s : ℕ → Peeked) (n : ℕ) → IsBoard w p s → length (p n).verified ≤ 65536
few_verified w p s n b = by (nat_lt 65536 (length (p n).verified)) refl
  where
    by : (test : Bool) → nat_lt 65536 (length (p n).verified) ≡ test → length (p n).verified ≤ 65536
    by true e =
        let more : 65536 < length (p n).verified = grind arith in
        let x = below_at (p n).verified 65536 more in
        let h : 65536 < 65536 = (b.verified n 65536 x.0 x.1).1 in absurd (omega (arith, h))
    by false e = grind arith

pub top_at : (w : ℕ → ℕ) (p : ℕ → Published) (s : ℕ → Peeked) (n : ℕ) → IsBoard w p s → IsTop (s n).claims (w 0)
top_at w p s n b = record {
  stable = ⊎_elim (λ none. subst (λ (c : BoardClaim). c.stable ≤ 65536) (sym (ap claim_in none)) (omega arith))
      (λ at. le_trans (b.raised (claim_in (w 0)).replica _ at).verified (few_verified w p s (claim_in (w 0)).replica b))
      b.claimed;
  up = λ claim at. (b.claims n claim at).reached;
}

-- a claim that was seen is of places whose words are set
pub below_claim : (w : ℕ → ℕ) (p : ℕ → Published) (s : ℕ → Peeked) (n : ℕ) (claim : BoardClaim) (place : ℕ) → IsBoard w p s → In claim (s n).claims → place < claim.stable → w (place + 1) ≢ 0
below_claim w p s n claim place b at below none = ⊎_elim
    (λ (nothing : claim ≡ no_claim). let zero_stable : claim.stable ≡ 0 = ap (λ (c : BoardClaim). c.stable) nothing in absurd (omega (arith, below)))
    (λ raised.
    let h = b.raised claim.replica (claim.stable, claim.time) raised in
    let x = below_at (p claim.replica).verified place (omega (arith, below, h.verified)) in
    let here = (b.verified claim.replica place x.0 x.1).0 in
    packed_positive x.0 here.0 (sym here.1 ∙ none))
    (b.claims n claim at).raised

claim_few : (w : ℕ → ℕ) (p : ℕ → Published) (s : ℕ → Peeked) (n : ℕ) (claim : BoardClaim) → IsBoard w p s → In claim (s n).claims → claim.stable ≤ 65536
claim_few w p s n claim b at = ⊎_elim
    (λ (nothing : claim ≡ no_claim). subst (λ (c : BoardClaim). c.stable ≤ 65536) (sym nothing) (omega arith))
    (λ raised. le_trans (b.raised claim.replica (claim.stable, claim.time) raised).verified (few_verified w p s claim.replica b))
    (b.claims n claim at).raised

found_ok : (w : ℕ → ℕ) (p : ℕ → Published) (s : ℕ → Peeked) (n : ℕ) (did : Published) (place found word : ℕ) → IsBoard w p s → p n ≡ did → found ≡ w (place + 1) → found ≢ 0 → word ≡ place + 1 → IsFound did.stops (word - 1) found
found_ok w p s n did place found word b is at some_word here =
    let k : word - 1 ≡ place = omega (arith, here) in
    let valid : IsIdentity (identity_in (w (place + 1))) = (found_at w p s place b (λ z. some_word (at ∙ z))).0 in
    let agrees : Agrees did.stops place (identity_in (w (place + 1))) = agreeing w place did.stops (λ x in_it. b.stops n x (subst (λ (y : Published). In x y.stops) (sym is) in_it)) in
    subst (λ (j : ℕ). IsFound did.stops j found) (sym k) (subst (λ (f : ℕ). IsFound did.stops place f) (sym at) (record { valid = valid; agrees = agrees }))

pub passes : (found own : ℕ) → (found ≡ 0) ⊎ (found ≡ own) → (found == 0 || found == own) ≡ true
passes found own which = ⊎_elim (λ (z : found ≡ 0). grind arith) (λ (z : found ≡ own). grind arith) which

pub fails : (found own : ℕ) → found ≢ 0 → found ≢ own → (found == 0 || found == own) ≡ false
fails found own some_word other = grind arith

verified_as : (w : ℕ → ℕ) (p : ℕ → Published) (s : ℕ → Peeked) → IsBoard w p s → (n : ℕ) (did : Published) → p n ≡ did → (id : Identity) (x : ℕ → ℕ)
    → length did.verified < 65536 → IsIdentity id → (w (length did.verified + 1) ≡ 0) ⊎ (w (length did.verified + 1) ≡ packed id)
    → x (length did.verified + 1) ≡ packed id → x 0 ≡ w 0 → ((place : ℕ) → place ≢ length did.verified → x (place + 1) ≡ w (place + 1))
    → IsBoard x (put p n (with_verified did id)) s
verified_as w p s b n did is id x = subst (λ (y : Published). length y.verified < 65536 → IsIdentity id → (w (length y.verified + 1) ≡ 0) ⊎ (w (length y.verified + 1) ≡ packed id)
    → x (length y.verified + 1) ≡ packed id → x 0 ≡ w 0 → ((place : ℕ) → place ≢ length y.verified → x (place + 1) ≡ w (place + 1))
    → IsBoard x (put p n (with_verified y id)) s) is (verifies w p s b n id x)

module _ {S : Type 0} where
  abbrev pub Kept : State S View → Type 0
  Kept s = Holds s.words s.views

  pub looks : (slots me n : ℕ) (saw : Peeked) (c : List (ℕ × S)) (d : Step S) → Allows Kept slots me (Peeks n saw, c) 0 (λ k. k) (look_told d (Peeks n saw, c))
  looks slots me n saw c d s kept count at small =
      let w = words_of s.words in
      let e = kept.ends in
      let mine = kept.fits me (Peeks n saw) at in
      let f = peeking e n (with_claim saw (claim_in (w 0))) in
      let board : IsBoard w e.published (put e.peeked n (with_claim saw (claim_in (w 0)))) =
      subst (λ (x : Peeked). IsBoard w e.published (put e.peeked n (with_claim x (claim_in (w 0))))) mine.1 (peeks w e.published e.peeked kept.board n) in
      let top : IsTop saw.claims (w 0) = subst (λ (x : Peeked). IsTop x.claims (w 0)) mine.1 (top_at w e.published e.peeked n kept.board) in (
        Peeks n (with_claim saw (claim_in (w 0))),
        keeps,
        tt,
        turned s.words s.views me 0 (w 0) (Peeks n (with_claim saw (claim_in (w 0)))) kept f (omega arith)
            (subst (λ (word : ℕ → ℕ). IsBoard word f.published f.peeked) (sym (put_same w 0)) board)
            (others_peeked e n me _ mine.0)
            (mine.0, put_own e.peeked n _),
        (refl, (refl, top)),
      )

  pub notes_place : (slots me n place : ℕ) (saw : Peeked) (c : List (ℕ × S)) (d : Step S) (claim : BoardClaim) → d.word ≡ place + 1 → place < claim.stable → In claim saw.claims
      → Allows Kept slots me (Peeks n saw, c) (place + 1) (λ k. k) (note_told d (Peeks n saw, c))
  notes_place slots me n place saw c d claim word below claimed s kept count at small =
      let w = words_of s.words in
      let e = kept.ends in
      let mine = kept.fits me (Peeks n saw) at in
      let found : ℕ = w (place + 1) in
      let few : claim.stable ≤ 65536 = claim_few w e.published e.peeked n claim kept.board (subst (λ (x : Peeked). In claim x.claims) (sym mine.1) claimed) in
      let here : IsAt w (place, identity_in found) = found_at w e.published e.peeked place kept.board
      (below_claim w e.published e.peeked n claim place kept.board (subst (λ (x : Peeked). In claim x.claims) (sym mine.1) claimed) below) in
      let new : Peeked = with_note saw (place, identity_in found) in
      let board : IsBoard w e.published (put e.peeked n new) =
      subst (λ (x : Peeked). IsBoard w e.published (put e.peeked n (with_note x (place, identity_in found)))) mine.1 (notes w e.published e.peeked kept.board n place (identity_in found) here) in
      let agrees : Agrees saw.notes place (identity_in found) =
      agreeing w place saw.notes (λ x in_it. kept.board.notes n x (subst (λ (y : Peeked). In x y.notes) (sym mine.1) in_it)) in
      let at_place : d.word - 1 ≡ place = omega (arith, word) in (
        Peeks n new,
        keeps,
        tt,
        turned s.words s.views me (place + 1) found (Peeks n new) kept (peeking e n new) (omega (arith, below, few))
            (subst (λ (x : ℕ → ℕ). IsBoard x e.published (put e.peeked n new)) (sym (put_same w (place + 1))) board)
            (others_peeked e n me _ mine.0)
            (mine.0, put_own e.peeked n _),
        (refl, subst (λ (k : ℕ). (Peeks n new ≡ Peeks n (with_note saw (k, identity_in found))) × IsFound saw.notes k found) (sym at_place) (refl, record { valid = here.0; agrees = agrees })),
      )

  pub raises_top : (slots me n : ℕ) (did : Published) (c : List (ℕ × S)) (d : Step S) (claim : BoardClaim) → claim.stable ≤ length did.verified → claim.time < 2 ^ 40 → claim.replica ≡ n → d.first ≡ packed_claim claim
      → Allows Kept slots me (Publishes n did, c) 0 (λ k. max k (packed_claim claim)) (raise_told d (Publishes n did, c))
  raises_top slots me n did c d claim have early own first s kept count at small =
      let w = words_of s.words in
      let e = kept.ends in
      let mine = kept.fits me (Publishes n did) at in
      let top : ℕ = max (w 0) (packed_claim claim) in
      let new : Published = with_raised did (claim.stable, claim.time) in
      let x : ℕ → ℕ = put w 0 top in
      let named : packed_claim (record { stable = claim.stable; time = claim.time; replica = n }) ≡ packed_claim claim = ap (λ (r : ℕ). packed_claim (record { stable = claim.stable; time = claim.time; replica = r })) (sym own) in
      let board : IsBoard x (put e.published n new) e.peeked =
      subst (λ (y : Published). IsBoard x (put e.published n (with_raised y (claim.stable, claim.time))) e.peeked) mine.2
      (raises w e.published e.peeked kept.board n claim.stable claim.time x (subst (λ (y : Published). claim.stable ≤ length y.verified) (sym mine.2) have) early mine.0
      (put_own w 0 top ∙ ap (max (w 0)) (sym named))
      (λ place. put_other w 0 top (place + 1) (λ z. omega (arith, z)))) in
      let said : claim_in d.first ≡ claim = ap claim_in first ∙ in_packed claim early (subst (λ (r : ℕ). r < 2 ^ 5) (sym own) mine.0) in (
        Publishes n new,
        keeps,
        tt,
        turned s.words s.views me 0 top (Publishes n new) kept (publishing e n new) (omega arith) board
            (others_published e n me _ mine.1)
            (mine.0, mine.1, put_own e.published n _),
        (refl, ap (λ (y : BoardClaim). Publishes n (with_raised did (y.stable, y.time))) (sym said)),
      )

  -- the publisher finds its own identity, or 0
  set_own : (s : State S View) (kept : Kept s) (me n : ℕ) (did : Published) (c : List (ℕ × S)) (d : Step S) (id : Identity) (found k : ℕ)
      → get_elem? s.views me ≡ some (Publishes n did) → IsIdentity id → length did.verified < 65536 → d.word ≡ length did.verified + 1 → d.second ≡ packed id
      → found ≡ words_of s.words (length did.verified + 1) → (found ≡ 0) ⊎ (found ≡ packed id) → k ≡ packed id
      → (w : View) × (a : Act S) × Valid s.homes c a × Kept (stepped s (length did.verified + 1) k me c w a) × set_told d (Publishes n did, c) found (w, carried_after c a)
  set_own s kept me n did c d id found k at valid room word second is was new_word =
      let w = words_of s.words in
      let e = kept.ends in
      let mine = kept.fits me (Publishes n did) at in
      let place : ℕ = length did.verified in
      let new : Published = with_verified did id in
      let x : ℕ → ℕ = put w (place + 1) k in
      let board : IsBoard x (put e.published n new) e.peeked =
      verified_as w e.published e.peeked kept.board n did mine.2 id x room valid (⊎_elim (λ z. inl (sym is ∙ z)) (λ z. inr (sym is ∙ z)) was)
      (put_own w (place + 1) k ∙ new_word)
      (put_other w (place + 1) k 0 (λ z. omega (arith, z)))
      (λ q other. put_other w (place + 1) k (q + 1) (λ z. other (omega (arith, z)))) in
      let said : identity_in d.second ≡ id = ap identity_in second ∙ identity_packed id valid in
      let test : (found == 0 || found == d.second) ≡ true = passes found d.second (⊎_elim inl (λ z. inr (z ∙ sym second)) was) in
      let grown : after_set (d.word - 1) d.second found did ≡ new =
      ap (λ (b : Bool). if b then with_verified did (identity_in d.second) else with_stop did (d.word - 1, identity_in found)) test ∙ ap (with_verified did) said in
      let valid_found : found ≢ 0 → IsFound did.stops (d.word - 1) found = λ some_word. found_ok w e.published e.peeked n did place found d.word kept.board mine.2 is some_word word in (
        Publishes n new,
        keeps,
        tt,
        turned s.words s.views me (place + 1) k (Publishes n new) kept (publishing e n new) (omega (arith, room)) board
            (others_published e n me _ mine.1)
            (mine.0, mine.1, put_own e.published n _),
        (refl, (ap (Publishes n) (sym grown), valid_found)),
      )

  -- the publisher finds another identity, and leaves it
  set_other : (s : State S View) (kept : Kept s) (me n : ℕ) (did : Published) (c : List (ℕ × S)) (d : Step S) (id : Identity) (found : ℕ)
      → get_elem? s.views me ≡ some (Publishes n did) → length did.verified < 65536 → d.word ≡ length did.verified + 1 → d.second ≡ packed id
      → found ≡ words_of s.words (length did.verified + 1) → found ≢ 0 → found ≢ packed id
      → (w : View) × (a : Act S) × Valid s.homes c a × Kept (stepped s (length did.verified + 1) found me c w a) × set_told d (Publishes n did, c) found (w, carried_after c a)
  set_other s kept me n did c d id found at room word second is some_word other =
      let w = words_of s.words in
      let e = kept.ends in
      let mine = kept.fits me (Publishes n did) at in
      let place : ℕ = length did.verified in
      let new : Published = with_stop did (place, identity_in found) in
      let here : IsAt w (place, identity_in found) =
      subst (λ (k : ℕ). IsAt w (place, identity_in k)) (sym is) (found_at w e.published e.peeked place kept.board (λ z. some_word (is ∙ z))) in
      let board : IsBoard w (put e.published n new) e.peeked =
      subst (λ (y : Published). IsBoard w (put e.published n (with_stop y (place, identity_in found))) e.peeked) mine.2 (stops w e.published e.peeked kept.board n place (identity_in found) here) in
      let test : (found == 0 || found == d.second) ≡ false = fails found d.second some_word (λ z. other (z ∙ second)) in
      let at_place : d.word - 1 ≡ place = omega (arith, word) in
      let grown : after_set (d.word - 1) d.second found did ≡ new =
      ap (λ (b : Bool). if b then with_verified did (identity_in d.second) else with_stop did (d.word - 1, identity_in found)) test ∙ ap (λ (k : ℕ). with_stop did (k, identity_in found)) at_place in (
        Publishes n new,
        keeps,
        tt,
        turned s.words s.views me (place + 1) found (Publishes n new) kept (publishing e n new) (omega (arith, room))
            (subst (λ (x : ℕ → ℕ). IsBoard x (put e.published n new) e.peeked) (sym (ap (put w (place + 1)) is ∙ put_same w (place + 1))) board)
            (others_published e n me _ mine.1)
            (mine.0, mine.1, put_own e.published n _),
        (refl, (ap (Publishes n) (sym grown), λ _. found_ok w e.published e.peeked n did place found d.word kept.board mine.2 is some_word word)),
      )

  pub sets : (slots me n : ℕ) (did : Published) (c : List (ℕ × S)) (d : Step S) (id : Identity) → IsIdentity id → length did.verified < 65536 → d.word ≡ length did.verified + 1 → d.second ≡ packed id
      → Allows Kept slots me (Publishes n did, c) (length did.verified + 1) (λ k. either (k == 0) (packed id) k) (set_told d (Publishes n did, c))
  sets slots me n did c d id valid room word second s kept count at small =
      let found : ℕ = slice_index s.words (length did.verified + 1) in
      exchanged found 0 (packed id)
      (λ k. (w : View) × (a : Act S) × Valid s.homes c a × Kept (stepped s (length did.verified + 1) k me c w a) × set_told d (Publishes n did, c) found (w, carried_after c a))
      (λ none. set_own s kept me n did c d id found (packed id) at valid room word second refl (inl none) refl)
      (λ some_word. by_test (found == packed id)
      (λ same. let is : found ≡ packed id = grind arith in set_own s kept me n did c d id found found at valid room word second refl (inr is) is)
      (λ other. let isnt : found ≢ packed id = grind arith in set_other s kept me n did c d id found at room word second refl some_word isnt))

  -- the same, where the view is told by an equation
  pub looks_as : (slots me n : ℕ) (saw : Peeked) (before : Me S View) (d : Step S) → before.0 ≡ Peeks n saw → Allows Kept slots me before 0 (λ k. k) (look_told d before)
  looks_as slots me n saw before d is = subst (λ (v : View). Allows Kept slots me (v, before.1) 0 (λ k. k) (look_told d (v, before.1))) (sym is) (looks slots me n saw before.1 d)

  pub notes_as : (slots me n place : ℕ) (saw : Peeked) (before : Me S View) (d : Step S) (claim : BoardClaim) → before.0 ≡ Peeks n saw → d.word ≡ place + 1 → place < claim.stable → In claim saw.claims
      → Allows Kept slots me before (place + 1) (λ k. k) (note_told d before)
  notes_as slots me n place saw before d claim is word below at =
      subst (λ (v : View). Allows Kept slots me (v, before.1) (place + 1) (λ k. k) (note_told d (v, before.1))) (sym is) (notes_place slots me n place saw before.1 d claim word below at)

  pub raises_as : (slots me n : ℕ) (did : Published) (before : Me S View) (d : Step S) (claim : BoardClaim) → before.0 ≡ Publishes n did
      → claim.stable ≤ length did.verified → claim.time < 2 ^ 40 → claim.replica ≡ n → d.first ≡ packed_claim claim
      → Allows Kept slots me before 0 (λ k. max k (packed_claim claim)) (raise_told d before)
  raises_as slots me n did before d claim is have early own first =
      subst (λ (v : View). Allows Kept slots me (v, before.1) 0 (λ k. max k (packed_claim claim)) (raise_told d (v, before.1))) (sym is) (raises_top slots me n did before.1 d claim have early own first)

  pub sets_as : (slots me n : ℕ) (did : Published) (before : Me S View) (d : Step S) (id : Identity) → before.0 ≡ Publishes n did
      → IsIdentity id → length did.verified < 65536 → d.word ≡ length did.verified + 1 → d.second ≡ packed id
      → Allows Kept slots me before (length did.verified + 1) (λ k. either (k == 0) (packed id) k) (set_told d before)
  sets_as slots me n did before d id is valid room word second =
      subst (λ (v : View). Allows Kept slots me (v, before.1) (length did.verified + 1) (λ k. either (k == 0) (packed id) k) (set_told d (v, before.1))) (sym is) (sets slots me n did before.1 d id valid room word second)

  pub sets_here : (slots me n verified own : ℕ) (did : Published) (before : Me S View) (id : Identity) → before.0 ≡ Publishes n did
      → IsIdentity id → length did.verified < 65536 → verified ≡ length did.verified → own ≡ packed id
      → Allows Kept slots me before (verified + 1) (λ k. either (k == 0) own k) (set_told (step 0 (verified + 1) 0 own maybe.none) before)
  sets_here slots me n verified own did before id is valid room place own_is =
      let d : Step S = step 0 (verified + 1) 0 own maybe.none in
      let plain = sets_as slots me n did before d id is valid room (ap (λ (k : ℕ). k + 1) place) own_is in
      let here : Allows Kept slots me before (verified + 1) (λ k. either (k == 0) (packed id) k) (set_told d before) =
      subst (λ (i : ℕ). Allows Kept slots me before (i + 1) (λ k. either (k == 0) (packed id) k) (set_told d before)) (sym place) plain in
      subst (λ (o : ℕ). Allows Kept slots me before (verified + 1) (λ k. either (k == 0) o k) (set_told d before)) (sym own_is) here
