-- How the keeper's view is cut for a new end, and what it takes in of an ended one.
use Rattle.std.proofs.Common.{◌≡◌, ◌≢◌, ◌⊎◌, ℕ, zero, suc, ◌+◌, ◌<◌, ◌≤◌, ◌^◌, List, [], ◌∷◌, ◌++◌, length, length-append, refl, sym, ◌∙◌, subst, ⊎_elim, inl, inr, arith, Some, None}
use Rattle.std.specs.Prelude.{Option, slice_set, slice_index_or, nat_le, nat_lt}
use Rattle.std.proofs.lemmas.List.{length-set, get_or_push, get_or_append_left}
use mathlib.Core.Option.{some, some-injective, some-ne-none}
use lib.ListN.{get_elem?}
use Rattle.atomic_table.specs.Table.{Splits, Joins}
use Rattle.atomic_table.proofs.Lists.{at_set}
use Rattle.list_facts.specs.Lists.{put}
use Rattle.list_facts.proofs.Puts.{put_own, put_other}
use Rattle.list_facts.proofs.Cases.{by_test}
use Rattle.stable_board.specs.declared.views.Published.{Published}
use Rattle.stable_board.specs.declared.views.Peeked.{Peeked}
use Rattle.stable_board.specs.declared.views.Register.{Register}
use Rattle.stable_board.specs.declared.views.View.{View}
use Rattle.stable_board.specs.declared.views.View.TheVariants.{Keeps, Publishes, Peeks, Spent}
use Rattle.stable_board.specs.Rule.{no_published, no_peeked}
use Rattle.stable_board.specs.Views.{Ends, HasPublished, HasPeeked, IsRegister, Fits, new_publisher, with_publisher, new_peeker, with_peeker, with_ended}
use Rattle.stable_board.proofs.Seats.{unlike, apart, fits_set}
use Rattle.stable_board.proofs.Turns.{Kept}

module _ {A : Type 0} where
  at_snoc_place : (l : List A) (a b : A) (j : ℕ) → get_elem? (l ++ a ∷ []) j ≡ some b → (get_elem? l j ≡ some b) ⊎ ((j ≡ length l) × (a ≡ b))
  at_snoc_place [] a b zero e = inr (refl, some-injective a b e)
  at_snoc_place [] a b (suc j) e = absurd (some-ne-none b (sym e))
  at_snoc_place (x ∷ xs) a b zero e = inl e
  at_snoc_place (x ∷ xs) a b (suc j) e = ⊎_elim inl (λ h. inr (omega (arith, h.0), h.1)) (at_snoc_place xs a b j e)

  seated : (l : List A) (j : ℕ) (b : A) → get_elem? l j ≡ some b → j < length l
  seated [] j b e = absurd (some-ne-none b (sym e))
  seated (x ∷ xs) zero b e = omega arith
  seated (x ∷ xs) (suc j) b e = omega (arith, seated xs j b e)

-- all views fit once the keeper has made a new end
fits_more : (e f : Ends) (views : List View) (me : ℕ) (left right : View)
    → ((seat : ℕ) (view : View) → get_elem? views seat ≡ some view → Fits e seat view)
    → ((seat : ℕ) (view : View) → seat ≢ me → Fits e seat view → Fits f seat view)
    → Fits f me left → Fits f (length views) right
    → (seat : ℕ) (view : View) → get_elem? (slice_set views me left ++ right ∷ []) seat ≡ some view → Fits f seat view
fits_more e f views me left right fits others mine new seat view at =
    ⊎_elim
    (λ old. fits_set e f views me left fits others mine seat view old)
    (λ (x : (seat ≡ length (slice_set views me left)) × (right ≡ view)).
    subst (λ (y : ℕ × View). Fits f y.0 y.1) (λ i. (sym (x.0 ∙ length-set views me left) i, x.1 i)) new)
    (at_snoc_place (slice_set views me left) right view seat at)

abbrev seat_publisher : Ends → ℕ → Option ℕ → Ends
seat_publisher e n seat = record { published = e.published; peeked = e.peeked; publisher_seat = put e.publisher_seat n seat; peeker_seat = e.peeker_seat }

abbrev seat_peeker : Ends → ℕ → Option ℕ → Ends
seat_peeker e n seat = record { published = e.published; peeked = e.peeked; publisher_seat = e.publisher_seat; peeker_seat = put e.peeker_seat n seat }

-- the number of one end gets a seat or loses its own: of the other seats only the keeper's speaks of it
others_publisher : (e : Ends) (me n : ℕ) (to : Option ℕ) → me ≡ 0 → (seat : ℕ) (view : View) → seat ≢ me
    → ((m : ℕ) → e.publisher_seat m ≡ Some seat → m ≢ n) → Fits e seat view → Fits (seat_publisher e n to) seat view
others_publisher e me n to first seat (Keeps known) other free h = absurd (other (h.seat_is ∙ sym first))
others_publisher e me n to first seat (Publishes m did) other free h = (h.0, put_other e.publisher_seat n to m (free m h.1) ∙ h.1, h.2)
others_publisher e me n to first seat (Peeks m saw) other free h = h
others_publisher e me n to first seat Spent other free h = tt

others_peeker : (e : Ends) (me n : ℕ) (to : Option ℕ) → me ≡ 0 → (seat : ℕ) (view : View) → seat ≢ me
    → ((m : ℕ) → e.peeker_seat m ≡ Some seat → m ≢ n) → Fits e seat view → Fits (seat_peeker e n to) seat view
others_peeker e me n to first seat (Keeps known) other free h = absurd (other (h.seat_is ∙ sym first))
others_peeker e me n to first seat (Publishes m did) other free h = h
others_peeker e me n to first seat (Peeks m saw) other free h = (put_other e.peeker_seat n to m (free m h.0) ∙ h.0, h.1)
others_peeker e me n to first seat Spent other free h = tt

-- a number that is not `n` keeps what it had
kept_publisher : (e : Ends) (n m : ℕ) (to : Option ℕ) (did : Published) → m ≢ n → HasPublished e m did → HasPublished (seat_publisher e n to) m did
kept_publisher e n m to did other h = (put_other e.publisher_seat n to m other ∙ h.0, h.1)

kept_peeker : (e : Ends) (n m : ℕ) (to : Option ℕ) (saw : Peeked) → m ≢ n → HasPeeked e m saw → HasPeeked (seat_peeker e n to) m saw
kept_peeker e n m to saw other h = (put_other e.peeker_seat n to m other ∙ h.0, h.1)

-- all views fit once the keeper has taken in an ended one
fits_ended : (e f : Ends) (views : List View) (me gone : ℕ) (both : View)
    → ((seat : ℕ) (view : View) → get_elem? views seat ≡ some view → Fits e seat view)
    → ((seat : ℕ) (view : View) → seat ≢ me → seat ≢ gone → Fits e seat view → Fits f seat view)
    → Fits f me both
    → (seat : ℕ) (view : View) → get_elem? (slice_set (slice_set views me both) gone Spent) seat ≡ some view → Fits f seat view
fits_ended e f views me gone both fits others mine seat view at =
    ⊎_elim
    (λ (x : (seat ≡ gone) × (Spent ≡ view)). subst (λ (v : View). Fits f seat v) x.1 tt)
    (λ (x : (seat ≢ gone) × (get_elem? (slice_set views me both) seat ≡ some view)). ⊎_elim
    (λ (y : (seat ≡ me) × (both ≡ view)). subst (λ (z : ℕ × View). Fits f z.0 z.1) (λ i. (sym y.0 i, y.1 i)) mine)
    (λ (y : (seat ≢ me) × (get_elem? views seat ≡ some view)). others seat view y.0 x.0 (fits seat view y.1))
    (at_set views me seat both view x.1))
    (at_set (slice_set views me both) gone seat Spent view at)

-- the view of another seat, before the keeper's changed
before : (views : List View) (me gone : ℕ) (both view : View) → ¬ (gone ≡ me) → get_elem? (slice_set views me both) gone ≡ some view → get_elem? views gone ≡ some view
before views me gone both view other at = ⊎_elim (λ (x : (gone ≡ me) × (both ≡ view)). absurd (other x.0)) (λ x. x.1) (at_set views me gone both view at)

-- a member of a list that is one longer
ended_cases : {A : Type 0} (P : ℕ → A → Type 0) (xs : List A) (y d : A) → ((m : ℕ) → m < length xs → P m (slice_index_or xs m d)) → P (length xs) y
    → (m : ℕ) → m < length (xs ++ y ∷ []) → P m (slice_index_or (xs ++ y ∷ []) m d)
ended_cases P xs y d old new m lt = by_test (nat_lt m (length xs))
    (λ e. let less : m < length xs = grind arith in subst (P m) (sym (get_or_append_left xs (y ∷ []) d m less)) (old m less))
    (λ e.
    let not_less : length xs ≤ m = grind arith in
    let last : length xs ≡ m = omega (arith, not_less, lt, length-append xs (y ∷ [])) in
    subst (P m) (sym (get_or_push xs y d m last)) (subst (λ (k : ℕ). P k y) last new))

module _ {S : Type 0} where
  pub splits_publisher : (me : ℕ) (known : Register) → known.publishers < 2 ^ 5 → Splits (Kept {S = S}) me (Keeps known) (with_publisher (Keeps known)) (new_publisher (Keeps known))
  splits_publisher me known few s kept at =
      let e = kept.ends in
      let h : IsRegister e me known = kept.fits me (Keeps known) at in
      let n : ℕ = known.publishers in
      let none = h.no_publisher n (omega arith) in
      let to : Option ℕ = Some (length s.views) in
      let f = seat_publisher e n to in
      let mine : IsRegister f me (record { publishers = n + 1; peekers = known.peekers; published = known.published; peeked = known.peeked }) = record {
        seat_is = h.seat_is;
        published = λ m lt. kept_publisher e n m to _ (λ same. omega (arith, same, lt, h.publishers_ended)) (h.published m lt);
        peeked = h.peeked;
        no_publisher = λ m le. kept_publisher e n m to _ (λ same. omega (arith, same, le)) (h.no_publisher m (omega (arith, le)));
        no_peeker = h.no_peeker;
        publishers_ended = omega (arith, h.publishers_ended);
        peekers_ended = h.peekers_ended;
      } in record {
        count = kept.count;
        ends = f;
        board = kept.board;
        fits = fits_more e f s.views me _ _ kept.fits
            (λ seat view other. others_publisher e me n to h.seat_is seat view other (λ m is same. unlike e.publisher_seat n m seat none.0 is (sym same)))
            mine
            (few, put_own e.publisher_seat n to, none.1);
      }

  pub splits_peeker : (me : ℕ) (known : Register) → Splits (Kept {S = S}) me (Keeps known) (with_peeker (Keeps known)) (new_peeker (Keeps known))
  splits_peeker me known s kept at =
      let e = kept.ends in
      let h : IsRegister e me known = kept.fits me (Keeps known) at in
      let n : ℕ = known.peekers in
      let none = h.no_peeker n (omega arith) in
      let to : Option ℕ = Some (length s.views) in
      let f = seat_peeker e n to in
      let mine : IsRegister f me (record { publishers = known.publishers; peekers = n + 1; published = known.published; peeked = known.peeked }) = record {
        seat_is = h.seat_is;
        published = h.published;
        peeked = λ m lt. kept_peeker e n m to _ (λ same. omega (arith, same, lt, h.peekers_ended)) (h.peeked m lt);
        no_publisher = h.no_publisher;
        no_peeker = λ m le. kept_peeker e n m to _ (λ same. omega (arith, same, le)) (h.no_peeker m (omega (arith, le)));
        publishers_ended = h.publishers_ended;
        peekers_ended = omega (arith, h.peekers_ended);
      } in record {
        count = kept.count;
        ends = f;
        board = kept.board;
        fits = fits_more e f s.views me _ _ kept.fits
            (λ seat view other. others_peeker e me n to h.seat_is seat view other (λ m is same. unlike e.peeker_seat n m seat none.0 is (sym same)))
            mine
            (put_own e.peeker_seat n to, none.1);
      }

  pub joins_publisher : (me : ℕ) (known : Register) (gone n : ℕ) (did : Published) → n ≡ length known.published
      → Joins (Kept {S = S}) me (Keeps known) gone (Publishes n did) (with_ended (Keeps known) (Publishes n did)) Spent
  joins_publisher me known gone n did next s kept at other there =
      let e = kept.ends in
      let h : IsRegister e me known = kept.fits me (Keeps known) at in
      let theirs = kept.fits gone (Publishes n did) (before s.views me gone _ _ other there) in
      let f = seat_publisher e n None in
      let made : n < known.publishers = by_test (nat_le known.publishers n)
      (λ z. let le : known.publishers ≤ n = grind arith in absurd (unlike e.publisher_seat n n gone (h.no_publisher n le).0 theirs.1 refl))
      (λ z. grind arith) in
      let ended : HasPublished f n did = (put_own e.publisher_seat n None, theirs.2) in
      let mine : IsRegister f me (record { publishers = known.publishers; peekers = known.peekers; published = known.published ++ did ∷ []; peeked = known.peeked }) = record {
        seat_is = h.seat_is;
        published = ended_cases (HasPublished f) known.published did no_published
            (λ m lt. kept_publisher e n m None _ (λ same. omega (arith, same, lt, next)) (h.published m lt))
            (subst (λ (k : ℕ). HasPublished f k did) next ended);
        peeked = h.peeked;
        no_publisher = λ m le. kept_publisher e n m None _ (λ same. omega (arith, same, le, made)) (h.no_publisher m le);
        no_peeker = h.no_peeker;
        publishers_ended = omega (arith, length-append known.published (did ∷ []), next, made);
        peekers_ended = h.peekers_ended;
      } in record {
        count = kept.count;
        ends = f;
        board = kept.board;
        fits = fits_ended e f s.views me gone _ kept.fits
            (λ seat view not_me not_gone. others_publisher e me n None h.seat_is seat view not_me (λ m is. apart e.publisher_seat m n seat gone is theirs.1 not_gone))
            mine;
      }

  pub joins_peeker : (me : ℕ) (known : Register) (gone n : ℕ) (saw : Peeked) → n ≡ length known.peeked
      → Joins (Kept {S = S}) me (Keeps known) gone (Peeks n saw) (with_ended (Keeps known) (Peeks n saw)) Spent
  joins_peeker me known gone n saw next s kept at other there =
      let e = kept.ends in
      let h : IsRegister e me known = kept.fits me (Keeps known) at in
      let theirs = kept.fits gone (Peeks n saw) (before s.views me gone _ _ other there) in
      let f = seat_peeker e n None in
      let made : n < known.peekers = by_test (nat_le known.peekers n)
      (λ z. let le : known.peekers ≤ n = grind arith in absurd (unlike e.peeker_seat n n gone (h.no_peeker n le).0 theirs.0 refl))
      (λ z. grind arith) in
      let ended : HasPeeked f n saw = (put_own e.peeker_seat n None, theirs.1) in
      let mine : IsRegister f me (record { publishers = known.publishers; peekers = known.peekers; published = known.published; peeked = known.peeked ++ saw ∷ [] }) = record {
        seat_is = h.seat_is;
        published = h.published;
        peeked = ended_cases (HasPeeked f) known.peeked saw no_peeked
            (λ m lt. kept_peeker e n m None _ (λ same. omega (arith, same, lt, next)) (h.peeked m lt))
            (subst (λ (k : ℕ). HasPeeked f k saw) next ended);
        no_publisher = h.no_publisher;
        no_peeker = λ m le. kept_peeker e n m None _ (λ same. omega (arith, same, le, made)) (h.no_peeker m le);
        publishers_ended = h.publishers_ended;
        peekers_ended = omega (arith, length-append known.peeked (saw ∷ []), next, made);
      } in record {
        count = kept.count;
        ends = f;
        board = kept.board;
        fits = fits_ended e f s.views me gone _ kept.fits
            (λ seat view not_me not_gone. others_peeker e me n None h.seat_is seat view not_me (λ m is. apart e.peeker_seat m n seat gone is theirs.0 not_gone))
            mine;
      }

  -- the same, where the views are told by equations
  pub splits_publisher_as : (me : ℕ) (view : View) (known : Register) → view ≡ Keeps known → known.publishers < 2 ^ 5 → Splits (Kept {S = S}) me view (with_publisher view) (new_publisher view)
  splits_publisher_as me view known is few = subst (λ (v : View). Splits (Kept {S = S}) me v (with_publisher v) (new_publisher v)) (sym is) (splits_publisher me known few)

  pub splits_peeker_as : (me : ℕ) (view : View) (known : Register) → view ≡ Keeps known → Splits (Kept {S = S}) me view (with_peeker view) (new_peeker view)
  splits_peeker_as me view known is = subst (λ (v : View). Splits (Kept {S = S}) me v (with_peeker v) (new_peeker v)) (sym is) (splits_peeker me known)

  pub joins_publisher_as : (me : ℕ) (view : View) (known : Register) (gone n : ℕ) (other : View) (did : Published) → view ≡ Keeps known → other ≡ Publishes n did → n ≡ length known.published
      → Joins (Kept {S = S}) me view gone other (with_ended view other) Spent
  joins_publisher_as me view known gone n other did is theirs next =
      subst (λ (v : View). Joins (Kept {S = S}) me v gone other (with_ended v other) Spent) (sym is)
      (subst (λ (v : View). Joins (Kept {S = S}) me (Keeps known) gone v (with_ended (Keeps known) v) Spent) (sym theirs) (joins_publisher me known gone n did next))

  pub joins_peeker_as : (me : ℕ) (view : View) (known : Register) (gone n : ℕ) (other : View) (saw : Peeked) → view ≡ Keeps known → other ≡ Peeks n saw → n ≡ length known.peeked
      → Joins (Kept {S = S}) me view gone other (with_ended view other) Spent
  joins_peeker_as me view known gone n other saw is theirs next =
      subst (λ (v : View). Joins (Kept {S = S}) me v gone other (with_ended v other) Spent) (sym is)
      (subst (λ (v : View). Joins (Kept {S = S}) me (Keeps known) gone v (with_ended (Keeps known) v) Spent) (sym theirs) (joins_peeker me known gone n saw next))
