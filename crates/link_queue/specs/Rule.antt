-- The rule of a link, over what its queue holds, oldest first, and what each end knows.
use Rattle.std.specs.Prelude.{◌≡◌, ◌≤◌, ℕ, ◌^◌, Bool, true, List, [], ◌∷◌, ◌++◌, length}
use mathlib.Core.Option.{some}
use lib.ListN.{get_elem?}
use Rattle.link_queue.specs.declared.rule.Known.{Known}

-- what a contract sees of a frame
abbrev pub Bytes : Type 0
Bytes = List ℕ

-- the first list is how the second one begins
pub record Beginning (front whole : List Bytes) : Type 0 where
  pub rest : List Bytes
  pub is : whole ≡ front ++ rest

-- the first list is how the second one ends
pub record Ending (back whole : List Bytes) : Type 0 where
  pub before : List Bytes
  pub is : whole ≡ before ++ back

abbrev pub known : Bool → Bool → List Bytes → List Bytes → List Bytes → List Bytes → Known
known puts takes sent after_put taken after_take = record {
  puts = puts;
  takes = takes;
  sent = sent;
  after_put = after_put;
  taken = taken;
  after_take = after_take;
}

-- an end that puts is the one with this number, knows all that was sent, and only takes were made since its last put
pub record Puts (putter : ℕ) (sent items : List Bytes) (number : ℕ) (v : Known) : Type 0 where
  pub own : number ≡ putter
  pub all : v.sent ≡ sent
  pub since : Ending items v.after_put

-- an end that takes is the one with this number, knows all that was taken, and only puts were made since its last take
pub record Takes (taker : ℕ) (taken items : List Bytes) (number : ℕ) (v : Known) : Type 0 where
  pub own : number ≡ taker
  pub all : v.taken ≡ taken
  pub since : Beginning v.after_take items

-- an end knows what it may do, by its number
pub record Fits (putter taker : ℕ) (sent taken items : List Bytes) (number : ℕ) (v : Known) : Type 0 where
  pub puts : v.puts ≡ true → Puts putter sent items number v
  pub takes : v.takes ≡ true → Takes taker taken items number v

-- What was sent is what was taken and then what the queue holds. One end at most puts, and one takes. No more
-- frames are sent than the queue has numbers for.
pub record Linked (items : List Bytes) (views : List Known) : Type 0 where
  pub putter : ℕ
  pub taker : ℕ
  pub sent : List Bytes
  pub taken : List Bytes
  pub order : sent ≡ taken ++ items
  pub few : length sent ≤ 2 ^ 62
  pub ends : (number : ℕ) (v : Known) → get_elem? views number ≡ some v → Fits putter taker sent taken items number v

-- x was put: it stands behind what takes had left of what the last put found
pub record PutOf (v : Known) (x : Bytes) (w : Known) : Type 0 where
  pub left : List Bytes
  pub since : Ending left v.after_put
  pub now : w ≡ known v.puts v.takes (v.sent ++ x ∷ []) (left ++ x ∷ []) v.taken v.after_take

-- x was taken: what the last take left comes first
pub record TakeOf (v : Known) (x : Bytes) (w : Known) : Type 0 where
  pub left : List Bytes
  pub since : Beginning v.after_take (x ∷ left)
  pub few : length (v.taken ++ x ∷ []) ≤ 2 ^ 62
  pub now : w ≡ known v.puts v.takes v.sent v.after_put (v.taken ++ x ∷ []) left

-- what both ends know, while the queue holds these frames
pub record Between (v : Known) (items : List Bytes) : Type 0 where
  pub order : v.sent ≡ v.taken ++ items
  pub put : Ending items v.after_put
  pub take : Beginning v.after_take items
