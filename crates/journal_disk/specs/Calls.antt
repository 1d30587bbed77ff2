-- What device calls make of a disk, one after the other.
use Rattle.std.specs.Prelude.{◌≡◌, ◌⊎◌, ℕ, zero, suc, ◌+◌, Bool, true, false, List, [], ◌∷◌, Result, OnOk, OnErr}

-- a device call
pub data Call : Type 0 where
  -- how long the file is
  Sizes : Call
  -- at this offset, so many bytes are read
  Reads : ℕ → ℕ → Call
  Writes : ℕ → List ℕ → Call
  Cuts : ℕ → Call
  Syncs : Call

-- what a call made of the disk, where it succeeded and where it failed
pub record Makes {D A E : Type 0} (made : D → Call → Bool → D → Type 0) (old : D) (call : Call) (new : D) (outcome : Result A E) : Type 0 where
  pub done : OnOk outcome (made old call true new)
  pub failed : OnErr outcome (made old call false new)

-- these calls one after the other, up to the first that failed
abbrev pub Does : {D : Type 0} → (D → Call → Bool → D → Type 0) → List Call → D → Bool → D → Type 0
Does made [] old ok new = (ok ≡ true) × (new ≡ old)
Does {D = D} made (call ∷ calls) old ok new = ((ok ≡ false) × made old call false new) ⊎ ((mid : D) × made old call true mid × Does made calls mid ok new)

pub record DoesAll {D A E : Type 0} (made : D → Call → Bool → D → Type 0) (calls : List Call) (old new : D) (outcome : Result A E) : Type 0 where
  pub done : OnOk outcome (Does made calls old true new)
  pub failed : OnErr outcome (Does made calls old false new)

-- the calls that put bytes behind the byte at this offset, and then 01 over that byte
abbrev pub put_calls : ℕ → List ℕ → List Call
put_calls end bytes = Writes (end + 1) bytes ∷ Syncs ∷ Writes end (1 ∷ []) ∷ Syncs ∷ []

-- the calls that make of a file that of a byte 00
abbrev pub start_calls : List Call
start_calls = Cuts 0 ∷ Writes 0 (0 ∷ []) ∷ Syncs ∷ []

-- so many calls of any kind led from one disk to another; between them more room may be made
abbrev pub Steps : {D : Type 0} → (D → Call → Bool → D → Type 0) → (D → D → Type 0) → ℕ → D → D → Type 0
Steps made alike zero old new = new ≡ old
Steps {D = D} made alike (suc n) old new = (mid : D) × Steps made alike n old mid × (alike mid new ⊎ ((call : Call) × (ok : Bool) × made mid call ok new))

pub record Reaches {D : Type 0} (made : D → Call → Bool → D → Type 0) (alike : D → D → Type 0) (old new : D) : Type 0 where
  pub count : ℕ
  pub steps : Steps made alike count old new
