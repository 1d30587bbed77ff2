use Rattle.std.specs.Prelude.{◌≡◌, ◌≢◌, ◌<◌, ℕ, ◌+◌, List, Option, Some, option_map, slice_get}
use Rattle.list_facts.specs.Lists.{In, Precedes}
use Rattle.rec_id.specs.Identity.{Identity}
use Rattle.rec_id.specs.declared.item.Body.{Body}
use Rattle.rec_id.specs.declared.item.Body.TheVariants.{Elsewhere, Kept, Noop, Open, Gone}
use Rattle.rec_id.specs.declared.item.Cell.{Cell}
use Rattle.lazy_rules.specs.ShardState.{ShardState}

-- What two replicas of a shard agree on: of a cell its identity and its sort. The bytes of kept ones are those with
-- which the identity was invoked; whether they are kept or were given up makes no difference.

pub data Sort : Type 0 where
  -- the data belongs to another shard
  Away : Sort
  -- it is here, or was given up
  Filled : Sort
  -- it never came
  Void : Sort
  -- it is awaited
  Lacking : Sort

abbrev pub sort_of : Body → Sort
sort_of Elsewhere = Away
sort_of (Kept bytes) = Filled
sort_of Noop = Void
sort_of Open = Lacking
sort_of Gone = Filled

pub record Sign : Type 0 where
  pub id : Identity
  pub sort : Sort

abbrev pub sign_of : Cell → Sign
sign_of cell = record { id = cell.id; sort = sort_of cell.body }

-- the sign at a place of an order, and of a replica's
abbrev pub sign_in : List Cell → ℕ → Option Sign
sign_in order place = option_map sign_of (slice_get order place)

abbrev pub sign_at : ShardState → ℕ → Option Sign
sign_at s place = sign_in s.store.order place

-- the identity at a place of a replica's order
abbrev pub ordered_at : ShardState → ℕ → Option Identity
ordered_at s place = option_map (λ cell. cell.id) (slice_get s.store.order place)

-- the list stands in the other one from this place on
abbrev pub IsPiece : {A : Type 0} → List A → ℕ → List A → Type 0
IsPiece {A = A} line from piece = (k : ℕ) (x : A) → slice_get piece k ≡ Some x → slice_get line (from + k) ≡ Some x

-- cells with these signs stand in the order from this place on
abbrev pub IsSignPiece : List Cell → ℕ → List Cell → Type 0
IsSignPiece order from cells =
    (k : ℕ) (cell : Cell) → slice_get cells k ≡ Some cell → sign_in order (from + k) ≡ Some (sign_of cell)

-- no cell below this place is open
abbrev pub NoneOpen : ShardState → ℕ → Type 0
NoneOpen s upto = (place : ℕ) (sign : Sign) → place < upto → sign_at s place ≡ Some sign → sign.sort ≢ Lacking

-- the members of the one list are some of the other's, in its order
pub record Sublist {A : Type 0} (xs ys : List A) : Type 0 where
  pub members : (x : A) → In x xs → In x ys
  pub pairs : (x y : A) → Precedes x y xs → Precedes x y ys
