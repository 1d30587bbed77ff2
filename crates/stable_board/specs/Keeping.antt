-- How a board is opened, and what is known once it is closed.
use Rattle.std.specs.Prelude.{ℕ, ◌+◌, ◌<◌, ◌≤◌, ◌≡◌, ◌≢◌, ◌⊎◌, List, length, map, slice_get, slice_index_or, Some}
use Rattle.atomic_table.specs.Seated.{TableId}
use Rattle.list_facts.specs.Lists.{In}
use Rattle.rec_id.specs.Identity.{Identity}
use Rattle.stable_board.specs.declared.claim.BoardClaim.{BoardClaim}
use Rattle.stable_board.specs.declared.views.Published.{Published}
use Rattle.stable_board.specs.declared.views.Peeked.{Peeked}
use Rattle.stable_board.specs.Claims.{claim_in}
use Rattle.stable_board.specs.Rule.{IsBoard, no_published, no_peeked}
use Rattle.stable_board.specs.Views.{words_of}
use Rattle.stable_board.specs.Ends.{PublisherEnd, PeekerEnd, KeeperEnd}

abbrev pub new_publisher_end : TableId → ℕ → PublisherEnd
new_publisher_end board n = record { board = board; replica = n; did = no_published }

abbrev pub new_peeker_end : TableId → ℕ → PeekerEnd
new_peeker_end board n = record { board = board; number = n; saw = no_peeked }

-- so many members, each made of its place
pub record IsRow {A : Type 0} (count : ℕ) (made : ℕ → A) (row : List A) : Type 0 where
  pub count_is : length row ≡ count
  pub each : (n : ℕ) (x : A) → slice_get row n ≡ Some x → x ≡ made n

-- a board with so many ends, which did and saw nothing yet
pub record IsOpened (publishers peekers : ℕ) (keeper : KeeperEnd) (writers : List PublisherEnd) (readers : List PeekerEnd) : Type 0 where
  pub publishers_is : keeper.publishers ≡ publishers
  pub peekers_is : keeper.peekers ≡ peekers
  pub writers_are : IsRow publishers (new_publisher_end keeper.board) writers
  pub readers_are : IsRow peekers (new_peeker_end keeper.board) readers

-- the publisher or peeker of this board and number
abbrev pub IsWriter : TableId → ℕ → PublisherEnd → Type 0
IsWriter board n end = (end.board ≡ board) × (end.replica ≡ n)

abbrev pub IsReader : TableId → ℕ → PeekerEnd → Type 0
IsReader board n end = (end.board ≡ board) × (end.number ≡ n)

-- these are all ends that were made with the keeper, in their order
pub record AreAll (keeper : KeeperEnd) (writers : List PublisherEnd) (readers : List PeekerEnd) : Type 0 where
  pub writer_count : length writers ≡ keeper.publishers
  pub reader_count : length readers ≡ keeper.peekers
  pub writers_are : (n : ℕ) (end : PublisherEnd) → slice_get writers n ≡ Some end → IsWriter keeper.board n end
  pub readers_are : (n : ℕ) (end : PeekerEnd) → slice_get readers n ≡ Some end → IsReader keeper.board n end

-- what all publishers did, and what all peekers saw, by their numbers
abbrev pub did_by : List PublisherEnd → ℕ → Published
did_by writers n = slice_index_or (map (λ end. end.did) writers) n no_published

abbrev pub seen_by : List PeekerEnd → ℕ → Peeked
seen_by readers n = slice_index_or (map (λ end. end.saw) readers) n no_peeked

-- the rule over the last words, and what follows from it
pub record IsClosed (published : ℕ → Published) (peeked : ℕ → Peeked) (stable : ℕ) : Type 0 where
  pub words : List ℕ
  pub count : length words ≡ 65537
  pub rule : IsBoard (words_of words) published peeked
  pub stable_is : stable ≡ (claim_in (words_of words 0)).stable
  -- the places below a claim that was seen are set
  pub set_below : (peeker : ℕ) (claim : BoardClaim) (place : ℕ) → In claim (peeked peeker).claims → place < claim.stable → words_of words (place + 1) ≢ 0
  -- an identity that was seen below a claim is what the claiming replica had verified there
  pub faithful : (peeker reader : ℕ) (claim : BoardClaim) (place : ℕ) (identity : Identity) → In claim (peeked peeker).claims → In (place, identity) (peeked reader).notes → place < claim.stable
      → slice_get (published claim.replica).verified place ≡ Some identity
  -- no claim is of more places than the answer, and one is of so many
  pub most : (replica : ℕ) (claim : ℕ × ℕ) → In claim (published replica).raised → claim.0 ≤ stable
  pub claimed : (stable ≡ 0) ⊎ ((replica : ℕ) × (time : ℕ) × In (stable, time) (published replica).raised)
