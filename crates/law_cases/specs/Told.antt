use Rattle.std.specs.Prelude.{◌≡◌, ℕ, ◌+◌, ◌<◌, List, Option, Some, slice_get}
use Rattle.rec_id.specs.Identity.{Identity}
use Rattle.rec_id.specs.Line.{id_at}
use Rattle.rec_id.specs.declared.entry.Entry.{Entry}
use Rattle.rec_id.specs.declared.event.Ask.TheVariants.{Tail}
use Rattle.rec_id.specs.declared.event.Event.{Event}
use Rattle.rec_id.specs.declared.event.Event.TheVariants.{Begin, Answer}

-- some Answer of the history told this entry of the place
pub record IsAnswered (history : List Event) (place : ℕ) (entry : Entry) : Type 0 where
  pub index : ℕ
  pub client : ℕ
  pub read : ℕ
  pub from : ℕ
  pub entries : List Entry
  pub tail : Option ℕ
  pub answers : slice_get history index ≡ Some (Answer client read from entries tail)
  pub k : ℕ
  pub tells : slice_get entries k ≡ Some entry
  pub is_at : place ≡ from + k

-- the identity stands at one place of the line, and at no other
pub record StandsOnce (line : List Entry) (id : Identity) : Type 0 where
  pub place : ℕ
  pub names : id_at line place ≡ Some id
  pub only : (other : ℕ) → id_at line other ≡ Some id → other ≡ place

-- a read of the tail from `start` on was begun, and answered later
pub record IsTailAnswered (history : List Event) (start from : ℕ) (entries : List Entry) (tail : Option ℕ) : Type 0 where
  pub client : ℕ
  pub read : ℕ
  pub begun : ℕ
  pub index : ℕ
  pub later : begun < index
  pub begins : slice_get history begun ≡ Some (Begin client read (Tail start))
  pub answers : slice_get history index ≡ Some (Answer client read from entries tail)
