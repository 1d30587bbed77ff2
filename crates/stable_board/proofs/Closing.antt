-- What follows from the rule once all has ended.
use Rattle.std.proofs.Common.{◌≡◌, ◌⊎◌, ℕ, ◌/◌, ◌<◌, ◌≤◌, ◌^◌, List, length, map, refl, sym, ap, ◌∙◌, subst, ⊎_elim, inl, inr, arith, Some}
use Rattle.std.specs.Prelude.{slice_get, slice_index_or}
use Rattle.list_facts.specs.Lists.{In}
use Rattle.list_facts.proofs.Places.{below_at}
use Rattle.rec_id.specs.Identity.{Identity}
use Rattle.stable_board.specs.declared.claim.BoardClaim.{BoardClaim}
use Rattle.stable_board.specs.declared.views.Published.{Published}
use Rattle.stable_board.specs.declared.views.Peeked.{Peeked}
use Rattle.stable_board.specs.Claims.{claim_in, no_claim}
use Rattle.stable_board.specs.Rule.{IsBoard, no_published, no_peeked}
use Rattle.stable_board.specs.Views.{words_of}
use Rattle.stable_board.specs.declared.views.Register.{Register}
use Rattle.stable_board.specs.declared.views.View.{View}
use Rattle.stable_board.specs.declared.views.View.TheVariants.{Keeps}
use Rattle.stable_board.specs.Views.{keeps}
use Rattle.stable_board.specs.Told.{IsSettled, Settles}
use Rattle.std.proofs.lemmas.List.{length-map}
use Rattle.stable_board.specs.Ends.{PublisherEnd, PeekerEnd, KeeperEnd, known_of, with_published, with_peeked}
use Rattle.stable_board.specs.Keeping.{IsClosed, did_by, seen_by}
use Rattle.stable_board.proofs.Packing.{packed_same}
use Rattle.stable_board.proofs.Turns.{below_claim}

module _ (w : ℕ → ℕ) (p : ℕ → Published) (s : ℕ → Peeked) (b : IsBoard w p s) where
  faithful : (peeker reader : ℕ) (claim : BoardClaim) (place : ℕ) (id : Identity) → In claim (s peeker).claims → In (place, id) (s reader).notes → place < claim.stable → slice_get (p claim.replica).verified place ≡ Some id
  faithful peeker reader claim place id seen noted below = ⊎_elim
      (λ (nothing : claim ≡ no_claim). let none : claim.stable ≡ 0 = ap (λ (c : BoardClaim). c.stable) nothing in absurd (omega (arith, below)))
      (λ raised.
      let h = b.raised claim.replica (claim.stable, claim.time) raised in
      let x = below_at (p claim.replica).verified place (omega (arith, below, h.verified)) in
      let theirs = (b.verified claim.replica place x.0 x.1).0 in
      let mine = b.notes reader (place, id) noted in
      subst (λ (i : Identity). slice_get (p claim.replica).verified place ≡ Some i) (packed_same x.0 id theirs.0 mine.0 (sym theirs.1 ∙ mine.1)) x.1)
      (b.claims peeker claim seen).raised

  most : (replica : ℕ) (claim : ℕ × ℕ) → In claim (p replica).raised → claim.0 ≤ (claim_in (w 0)).stable
  most replica claim at =
      let reached = (b.raised replica claim at).reached in
      let top : ℕ = w 0 in
      let k : claim.0 ≤ top / 2 ^ 45 = omega (arith, reached) in k

  some_claim : ((claim_in (w 0)).stable ≡ 0) ⊎ ((replica : ℕ) × (time : ℕ) × In ((claim_in (w 0)).stable, time) (p replica).raised)
  some_claim = ⊎_elim (λ none. inl (ap (λ (n : ℕ). (claim_in n).stable) none)) (λ at. inr ((claim_in (w 0)).replica, (claim_in (w 0)).time, at)) b.claimed

pub closes : (writers : List PublisherEnd) (readers : List PeekerEnd) (published : List Published) (peeked : List Peeked) (top stable : ℕ)
    → published ≡ map (λ end. end.did) writers → peeked ≡ map (λ end. end.saw) readers → stable ≡ (claim_in top).stable
    → IsSettled published peeked top → IsClosed (did_by writers) (seen_by readers) stable
closes writers readers published peeked top stable did saw is h =
    let p = did_by writers in
    let s = seen_by readers in
    let w = words_of h.words in
    let b : IsBoard w p s = subst (λ (x : List Peeked). IsBoard w p (λ n. slice_index_or x n no_peeked)) saw (subst (λ (x : List Published). IsBoard w (λ n. slice_index_or x n no_published) (λ n. slice_index_or peeked n no_peeked)) did h.board) in
    let stable_is : stable ≡ (claim_in (w 0)).stable = is ∙ ap (λ (n : ℕ). (claim_in n).stable) h.top_is in
    record {
      words = h.words;
      count = h.count;
      rule = b;
      stable_is = stable_is;
      set_below = λ peeker claim place seen below. below_claim w p s peeker claim place b seen below;
      faithful = faithful w p s b;
      most = λ replica claim at. subst (λ (n : ℕ). claim.0 ≤ n) (sym stable_is) (most w p s b replica claim at);
      claimed = subst (λ (n : ℕ). (n ≡ 0) ⊎ ((replica : ℕ) × (time : ℕ) × In (n, time) (p replica).raised)) (sym stable_is) (some_claim w p s b);
    }

-- what the keeper knows once all have ended
pub record KnowsAll (known : Register) (writers : List PublisherEnd) (readers : List PeekerEnd) : Type 0 where
  pub published : known.published ≡ map (λ end. end.did) writers
  pub peeked : known.peeked ≡ map (λ end. end.saw) readers
  pub publishers : length known.published ≡ known.publishers
  pub peekers : length known.peeked ≡ known.peekers

pub knows_all : (first after : View) (end : KeeperEnd) (writers : List PublisherEnd) (readers : List PeekerEnd) → first ≡ keeps end.publishers end.peekers
    → after ≡ Keeps (with_published (known_of first) (map (λ e. e.did) writers)) → length writers ≡ end.publishers → length readers ≡ end.peekers
    → KnowsAll (with_peeked (known_of after) (map (λ e. e.saw) readers)) writers readers
knows_all first after end writers readers is taken all_writers all_readers =
    let did : known_of after ≡ with_published (known_of first) (map (λ e. e.did) writers) = ap known_of taken in
    let made : known_of first ≡ known_of (keeps end.publishers end.peekers) = ap known_of is in
    let published : (known_of after).published ≡ map (λ e. e.did) writers = ap (λ (k : Register). k.published) did in
    let publishers : (known_of after).publishers ≡ end.publishers = ap (λ (k : Register). k.publishers) did ∙ ap (λ (k : Register). k.publishers) made in
    let peekers : (known_of after).peekers ≡ end.peekers = ap (λ (k : Register). k.peekers) did ∙ ap (λ (k : Register). k.peekers) made in
    record {
      published = published;
      peeked = refl;
      publishers = ap (λ (l : List Published). length l) published ∙ (length-map writers (λ e. e.did) ∙ (all_writers ∙ sym publishers));
      peekers = length-map readers (λ e. e.saw) ∙ (all_readers ∙ sym peekers);
    }

pub told_settle : (view : View) (known : Register) (found : ℕ) (next : View) → view ≡ Keeps known → Settles view found next → IsSettled known.published known.peeked found
told_settle view known found next is told = (subst (λ (v : View). Settles v found next) is told).1
