-- The views of the other seats stay true while one end does something.
use Rattle.std.proofs.Common.{◌≡◌, ◌≢◌, ℕ, ◌<◌, List, length, sym, ap, ◌∙◌, subst, ⊎_elim, Some, None}
use Rattle.std.specs.Prelude.{Option, slice_set}
use Rattle.std.proofs.Math.ListN.{get_or}
use Rattle.std.proofs.lemmas.List.{length-set}
use mathlib.Core.Option.{some}
use lib.ListN.{get_elem?}
use Rattle.atomic_table.proofs.Lists.{at_set}
use Rattle.list_facts.specs.Lists.{put}
use Rattle.list_facts.proofs.Puts.{put_own, put_other}
use Rattle.list_facts.proofs.Puts as puts
use Rattle.stable_board.specs.declared.views.Published.{Published}
use Rattle.stable_board.specs.declared.views.Peeked.{Peeked}
use Rattle.stable_board.specs.declared.views.View.{View}
use Rattle.stable_board.specs.declared.views.View.TheVariants.{Keeps, Publishes, Peeks, Spent}
use Rattle.stable_board.specs.Rule.{IsBoard}
use Rattle.stable_board.specs.Views.{Ends, Fits, Holds, words_of}

-- one of the ends did or saw more
abbrev pub publishing : Ends → ℕ → Published → Ends
publishing e n did = record { published = put e.published n did; peeked = e.peeked; publisher_seat = e.publisher_seat; peeker_seat = e.peeker_seat }

abbrev pub peeking : Ends → ℕ → Peeked → Ends
peeking e n saw = record { published = e.published; peeked = put e.peeked n saw; publisher_seat = e.publisher_seat; peeker_seat = e.peeker_seat }

-- a number without a seat isn't one with a seat, and numbers with different seats differ
pub unlike : (f : ℕ → Option ℕ) (m n a : ℕ) → f m ≡ None → f n ≡ Some a → m ≢ n
unlike f m n a none some_a same = let e : None ≡ Some a = sym none ∙ (ap f same ∙ some_a) in absurd (cc)

pub apart : (f : ℕ → Option ℕ) (m n a b : ℕ) → f m ≡ Some a → f n ≡ Some b → a ≢ b → m ≢ n
apart f m n a b is_a is_b other same = let e : Some a ≡ Some b = sym is_a ∙ (ap f same ∙ is_b) in other (cc)

pub others_published : (e : Ends) (n me : ℕ) (did : Published) → e.publisher_seat n ≡ Some me → (seat : ℕ) (view : View) → seat ≢ me → Fits e seat view → Fits (publishing e n did) seat view
others_published e n me did mine seat (Keeps known) other h = record {
  seat_is = h.seat_is;
  published = λ m lt. let x = h.published m lt in (x.0, put_other e.published n did m (unlike e.publisher_seat m n me x.0 mine) ∙ x.1);
  peeked = h.peeked;
  no_publisher = λ m le. let x = h.no_publisher m le in (x.0, put_other e.published n did m (unlike e.publisher_seat m n me x.0 mine) ∙ x.1);
  no_peeker = h.no_peeker;
  publishers_ended = h.publishers_ended;
  peekers_ended = h.peekers_ended;
}
others_published e n me did mine seat (Publishes m done) other h = (h.0, h.1, put_other e.published n did m (apart e.publisher_seat m n seat me h.1 mine other) ∙ h.2)
others_published e n me did mine seat (Peeks m saw) other h = h
others_published e n me did mine seat Spent other h = tt

pub others_peeked : (e : Ends) (n me : ℕ) (saw : Peeked) → e.peeker_seat n ≡ Some me → (seat : ℕ) (view : View) → seat ≢ me → Fits e seat view → Fits (peeking e n saw) seat view
others_peeked e n me saw mine seat (Keeps known) other h = record {
  seat_is = h.seat_is;
  published = h.published;
  peeked = λ m lt. let x = h.peeked m lt in (x.0, put_other e.peeked n saw m (unlike e.peeker_seat m n me x.0 mine) ∙ x.1);
  no_publisher = h.no_publisher;
  no_peeker = λ m le. let x = h.no_peeker m le in (x.0, put_other e.peeked n saw m (unlike e.peeker_seat m n me x.0 mine) ∙ x.1);
  publishers_ended = h.publishers_ended;
  peekers_ended = h.peekers_ended;
}
others_peeked e n me saw mine seat (Publishes m did) other h = h
others_peeked e n me saw mine seat (Peeks m done) other h = (put_same_seat, put_other e.peeked n saw m (apart e.peeker_seat m n seat me h.0 mine other) ∙ h.1)
  where
    put_same_seat : e.peeker_seat m ≡ Some seat
    put_same_seat = h.0
others_peeked e n me saw mine seat Spent other h = tt

-- all views fit once one of them has changed
pub fits_set : (e f : Ends) (views : List View) (me : ℕ) (w : View)
    → ((seat : ℕ) (view : View) → get_elem? views seat ≡ some view → Fits e seat view)
    → ((seat : ℕ) (view : View) → seat ≢ me → Fits e seat view → Fits f seat view)
    → Fits f me w
    → (seat : ℕ) (view : View) → get_elem? (slice_set views me w) seat ≡ some view → Fits f seat view
fits_set e f views me w fits others mine seat view at =
    ⊎_elim
    (λ (x : (seat ≡ me) × (w ≡ view)). subst (λ (y : ℕ × View). Fits f y.0 y.1) (λ i. (sym x.0 i, x.1 i)) mine)
    (λ (x : (seat ≢ me) × (get_elem? views seat ≡ some view)). others seat view x.0 (fits seat view x.1))
    (at_set views me seat w view at)

-- one word and one view have changed
pub turned : (words : List ℕ) (views : List View) (me i n : ℕ) (w : View) (h : Holds words views) (f : Ends) → i < 65537
    → IsBoard (put (words_of words) i n) f.published f.peeked
    → ((seat : ℕ) (view : View) → seat ≢ me → Fits h.ends seat view → Fits f seat view)
    → Fits f me w
    → Holds (slice_set words i n) (slice_set views me w)
turned words views me i n w h f inside board others mine =
    let within : i < length words = subst (λ (k : ℕ). i < k) (sym h.count) inside in
    let is : (λ (k : ℕ). get_or (slice_set words i n) k 0) ≡ put (λ (k : ℕ). get_or words k 0) i n = puts.at_set 0 words i n within in record {
      count = length-set words i n ∙ h.count;
      ends = f;
      board = subst (λ (word : ℕ → ℕ). IsBoard word f.published f.peeked) (sym is) board;
      fits = fits_set h.ends f views me w h.fits others mine;
    }
