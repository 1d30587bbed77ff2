-- What a contract sees of the two ends of a link.
use Rattle.std.specs.Prelude.{◌≡◌, ℕ, ◌+◌, ◌-◌, ◌^◌, List, [], ◌∷◌, ◌++◌, length, min, max}
use Rattle.crossbeam_queue.specs.Fifo.{Held}
use Rattle.atomic_table.specs.Seated.{TableId}
use Rattle.link_queue.specs.Rule.{Bytes, Beginning, Ending}

-- which link an end is of, how many frames fit, the frames that were put, what the queue held right
-- after the last of them, and how many puts were made
pub record SendSide : Type 0 where
  pub link : TableId
  pub number : ℕ
  pub capacity : ℕ
  pub sent : List Bytes
  pub queued : List Bytes
  pub offered : ℕ

-- the same of the other end: the frames that were taken, what the queue held right after the last of
-- them, and how many takes were made
pub record TakeSide : Type 0 where
  pub link : TableId
  pub number : ℕ
  pub taken : List Bytes
  pub queued : List Bytes
  pub asked : ℕ

-- a count after one more, which stays at its last value
abbrev pub raised : ℕ → ℕ
raised count = max count (min (count + 1) (2 ^ 64 - 1))

-- the frame stands behind those that takes had left of what the last put found
pub record PutBehind (before : SendSide) (frame : Bytes) (after : SendSide) : Type 0 where
  pub left : List Bytes
  pub since : Ending left before.queued
  pub queued : after.queued ≡ left ++ frame ∷ []

-- at one moment the queue was full, and only takes were made since the last put
abbrev pub WasFull : SendSide → Type 0
WasFull end = Held end.capacity (λ items. Ending items end.queued)

-- at one moment the queue was empty, and only puts were made since the last take
abbrev pub WasEmpty : TakeSide → Type 0
WasEmpty end = Held 0 (λ items. Beginning end.queued items)

-- what is left of the frames that were sent, in the middle between the two ends
pub record Parted (send : SendSide) (take : TakeSide) (rest : ℕ) : Type 0 where
  pub left : List Bytes
  pub order : send.sent ≡ take.taken ++ left
  pub count : rest ≡ length left
  pub since_put : Ending left send.queued
  pub since_take : Beginning take.queued left

-- both ends of a link that nobody used yet
pub record IsFresh (number capacity : ℕ) (send : SendSide) (take : TakeSide) : Type 0 where
  pub same : take.link ≡ send.link
  pub send_is : send ≡ record { link = send.link; number = number; capacity = capacity; sent = []; queued = []; offered = 0 }
  pub take_is : take ≡ record { link = take.link; number = number; taken = []; queued = []; asked = 0 }
