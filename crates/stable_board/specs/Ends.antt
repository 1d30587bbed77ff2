-- The ends of a board, as their holders see them.
use Rattle.std.specs.Prelude.{ℕ, ◌^◌, ◌<◌, ◌≤◌, ◌≡◌, List, [], ◌∷◌, length}
use Rattle.atomic_table.specs.Seated.{TableId}
use Rattle.atomic_table.specs.declared.shared.Seat.{Seat}
use Rattle.stable_board.specs.declared.claim.BoardClaim.{BoardClaim}
use Rattle.stable_board.specs.declared.views.Published.{Published}
use Rattle.stable_board.specs.declared.views.Peeked.{Peeked}
use Rattle.stable_board.specs.declared.views.Register.{Register}
use Rattle.stable_board.specs.declared.views.View.{View}
use Rattle.stable_board.specs.declared.views.View.TheVariants.{Keeps, Publishes, Peeks}
use Rattle.stable_board.specs.Claims.{no_claim}
use Rattle.stable_board.specs.Rule.{no_published, no_peeked}
use Rattle.stable_board.specs.Views.{keeps}

-- a publisher: which board it writes, which replica it is for, and what it did
pub record PublisherEnd : Type 0 where
  pub board : TableId
  pub replica : ℕ
  pub did : Published

-- a peeker: which board it reads, its number, and what it saw
pub record PeekerEnd : Type 0 where
  pub board : TableId
  pub number : ℕ
  pub saw : Peeked

-- the keeper: which board it is, and how many ends were made
pub record KeeperEnd : Type 0 where
  pub board : TableId
  pub publishers : ℕ
  pub peekers : ℕ

abbrev pub with_did : PublisherEnd → Published → PublisherEnd
with_did end did = record { board = end.board; replica = end.replica; did = did }

abbrev pub with_saw : PeekerEnd → Peeked → PeekerEnd
with_saw end saw = record { board = end.board; number = end.number; saw = saw }

abbrev pub publisher_of : TableId → View → PublisherEnd
publisher_of board (Publishes n did) = record { board = board; replica = n; did = did }
publisher_of board other = record { board = board; replica = 0; did = no_published }

abbrev pub peeker_of : TableId → View → PeekerEnd
peeker_of board (Peeks n saw) = record { board = board; number = n; saw = saw }
peeker_of board other = record { board = board; number = 0; saw = no_peeked }

abbrev pub keeper_of : TableId → View → KeeperEnd
keeper_of board (Keeps known) = record { board = board; publishers = known.publishers; peekers = known.peekers }
keeper_of board other = record { board = board; publishers = 0; peekers = 0 }

-- a seat at this table, which has 65,537 words, that holds no slot and has this view
pub record IsSeated (table board : TableId) (view known : View) (held : ℕ) : Type 0 where
  pub table_is : board ≡ table
  pub words : table.words ≡ 65537
  pub slots : held ≡ 0
  pub view_is : view ≡ known

abbrev pub IsPublisher : TableId → Seat (Unit {0}) View → ℕ → Type 0
IsPublisher table seat verified =
    let end = publisher_of seat.table_id seat.me.0 in
    IsSeated table seat.table_id seat.me.0 (Publishes end.replica end.did) (length seat.me.1) × (verified ≡ length end.did.verified) × (end.replica < 2 ^ 5)

-- the last claim that was seen
abbrev pub last_claim : List BoardClaim → BoardClaim
last_claim [] = no_claim
last_claim (claim ∷ []) = claim
last_claim (claim ∷ next ∷ claims) = last_claim (next ∷ claims)

abbrev pub IsPeeker : TableId → Seat (Unit {0}) View → Type 0
IsPeeker table seat =
    let end = peeker_of seat.table_id seat.me.0 in
    IsSeated table seat.table_id seat.me.0 (Peeks end.number end.saw) (length seat.me.1) × ((last_claim end.saw.claims).stable ≤ 65536)

abbrev pub IsKeeper : TableId → Seat (Unit {0}) View → Type 0
IsKeeper table seat =
    let end = keeper_of seat.table_id seat.me.0 in
    IsSeated table seat.table_id seat.me.0 (keeps end.publishers end.peekers) (length seat.me.1)

-- what a keeper's view is
abbrev pub known_of : View → Register
known_of (Keeps known) = known
known_of other = record { publishers = 0; peekers = 0; published = []; peeked = [] }

-- the keeper's seat while it closes the board
abbrev pub IsKeeping : TableId → Seat (Unit {0}) View → Register → Type 0
IsKeeping table seat known = IsSeated table seat.table_id seat.me.0 (Keeps known) (length seat.me.1)

-- what all publishers did, or all peekers saw, is known
abbrev pub with_published : Register → List Published → Register
with_published known all = record { publishers = known.publishers; peekers = known.peekers; published = all; peeked = known.peeked }

abbrev pub with_peeked : Register → List Peeked → Register
with_peeked known all = record { publishers = known.publishers; peekers = known.peekers; published = known.published; peeked = all }
