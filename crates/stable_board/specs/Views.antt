-- The rule as the seats keep it: each view is what its end did or saw, and the keeper has the rest.
use Rattle.std.specs.Prelude.{ℕ, ◌+◌, ◌^◌, ◌<◌, ◌≤◌, ◌≡◌, List, [], ◌∷◌, ◌++◌, length, slice_index, slice_index_or, Option, Some, None}
use mathlib.Core.Option.{some}
use lib.ListN.{get_elem?}
use Rattle.stable_board.specs.declared.views.Published.{Published}
use Rattle.stable_board.specs.declared.views.Peeked.{Peeked}
use Rattle.stable_board.specs.declared.views.Register.{Register}
use Rattle.stable_board.specs.declared.views.View.{View}
use Rattle.stable_board.specs.declared.views.View.TheVariants.{Keeps, Publishes, Peeks, Spent}
use Rattle.stable_board.specs.Rule.{IsBoard, no_published, no_peeked}

-- what stands behind the views: what all ends did and saw, by their numbers, and the seats of those
-- that haven't ended
pub record Ends : Type 0 where
  pub published : ℕ → Published
  pub peeked : ℕ → Peeked
  pub publisher_seat : ℕ → Option ℕ
  pub peeker_seat : ℕ → Option ℕ

-- the publisher of this number has ended, or was never made, and this is all that it did
abbrev pub HasPublished : Ends → ℕ → Published → Type 0
HasPublished ends n did = (ends.publisher_seat n ≡ None) × (ends.published n ≡ did)

abbrev pub HasPeeked : Ends → ℕ → Peeked → Type 0
HasPeeked ends n saw = (ends.peeker_seat n ≡ None) × (ends.peeked n ≡ saw)

-- the keeper has the first seat; it knows what ended ends did and saw, and how many were made
pub record IsRegister (ends : Ends) (seat : ℕ) (known : Register) : Type 0 where
  pub seat_is : seat ≡ 0
  pub published : (n : ℕ) → n < length known.published → HasPublished ends n (slice_index_or known.published n no_published)
  pub peeked : (n : ℕ) → n < length known.peeked → HasPeeked ends n (slice_index_or known.peeked n no_peeked)
  pub no_publisher : (n : ℕ) → known.publishers ≤ n → HasPublished ends n no_published
  pub no_peeker : (n : ℕ) → known.peekers ≤ n → HasPeeked ends n no_peeked
  pub publishers_ended : length known.published ≤ known.publishers
  pub peekers_ended : length known.peeked ≤ known.peekers

-- the view of this seat is true. Of a spent one nothing is said
abbrev pub Fits : Ends → ℕ → View → Type 0
Fits ends seat (Keeps known) = IsRegister ends seat known
Fits ends seat (Publishes n did) = (n < 2 ^ 5) × (ends.publisher_seat n ≡ Some seat) × (ends.published n ≡ did)
Fits ends seat (Peeks n saw) = (ends.peeker_seat n ≡ Some seat) × (ends.peeked n ≡ saw)
Fits ends seat Spent = Unit {0}

abbrev pub words_of : List ℕ → ℕ → ℕ
words_of words n = slice_index words n

-- the words of a board, beside the views of all its seats
pub record Holds (words : List ℕ) (views : List View) : Type 0 where
  pub count : length words ≡ 65537
  pub ends : Ends
  pub board : IsBoard (words_of words) ends.published ends.peeked
  pub fits : (seat : ℕ) (view : View) → get_elem? views seat ≡ some view → Fits ends seat view

-- the keeper's view of so many ends, of which none has ended
abbrev pub keeps : ℕ → ℕ → View
keeps publishers peekers = Keeps (record { publishers = publishers; peekers = peekers; published = []; peeked = [] })

-- one more end, and the keeper after it
abbrev pub new_publisher : View → View
new_publisher (Keeps known) = Publishes known.publishers no_published
new_publisher view = Spent

abbrev pub with_publisher : View → View
with_publisher (Keeps known) = Keeps (record { publishers = known.publishers + 1; peekers = known.peekers; published = known.published; peeked = known.peeked })
with_publisher view = view

abbrev pub new_peeker : View → View
new_peeker (Keeps known) = Peeks known.peekers no_peeked
new_peeker view = Spent

abbrev pub with_peeker : View → View
with_peeker (Keeps known) = Keeps (record { publishers = known.publishers; peekers = known.peekers + 1; published = known.published; peeked = known.peeked })
with_peeker view = view

-- the keeper after an end has ended, which was the next of its kind
abbrev pub with_ended : View → View → View
with_ended (Keeps known) (Publishes n did) = Keeps (record { publishers = known.publishers; peekers = known.peekers; published = known.published ++ did ∷ []; peeked = known.peeked })
with_ended (Keeps known) (Peeks n saw) = Keeps (record { publishers = known.publishers; peekers = known.peekers; published = known.published; peeked = known.peeked ++ saw ∷ [] })
with_ended view other = view
