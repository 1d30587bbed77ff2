use Rattle.std.specs.Prelude.{◌≡◌, ◌≢◌, List, [], ◌++◌, ℕ, Option}
use Rattle.std.specs.Io.KnownBytes.{append_known}

-- A writer on its way: what a sink tells as written, before and after, and what was still to come then and is
-- now. A piece of what was to come was written, and nothing else.
pub record Goes (before after : Option (List ℕ)) (coming coming_now : List ℕ) : Type 0 where
  pub piece : List ℕ
  pub comes : coming ≡ piece ++ coming_now
  pub written : after ≡ append_known before piece

-- the writer stopped on its way: what was written is a front of what was to come
pub record Stops (before after : Option (List ℕ)) (coming : List ℕ) : Type 0 where
  pub unwritten : List ℕ
  pub goes : Goes before after coming unwritten

-- a write failed on the way: not all that was to come is written
pub record Fails (before after : Option (List ℕ)) (coming : List ℕ) : Type 0 where
  pub unwritten : List ℕ
  pub goes : Goes before after coming unwritten
  pub some : unwritten ≢ []
