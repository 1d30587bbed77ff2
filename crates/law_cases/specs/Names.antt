use Rattle.std.specs.Prelude.{ℕ, List, [], ◌∷◌}
use Rattle.rec_id.specs.Identity.{Identity}

-- the identities and the bytes of the examples: a and b of two clients, c the second append of a's client

abbrev pub a : Identity
a = record { client = 0; number = 1 }

abbrev pub b : Identity
b = record { client = 1; number = 1 }

abbrev pub c : Identity
c = record { client = 0; number = 2 }

abbrev pub x : List ℕ
x = 120 ∷ []

abbrev pub y : List ℕ
y = 121 ∷ []
