use Rattle.std.specs.Prelude.{◌≡◌, ℕ, List, [], ◌∷◌, Result, Ok, Err}
use Rattle.std.specs.List.{flat_map}
use Rattle.list_facts.specs.Lists.{Each}
use Rattle.rec_id.specs.declared.entry.Entry.{Entry}
use Rattle.rec_id.specs.declared.event.Event.{Event}
use Rattle.rec_id.specs.Lawful.{Lawful}
use Rattle.lazy_rules.specs.Holders.{holders}
use Rattle.lazy_rules.specs.Lines.{line_told}
use Rattle.lazy_rules.specs.WorldState.{WorldState}
use Rattle.lazy_core.specs.declared.trail.HolderLine.{HolderLine}
use Rattle.lazy_core.specs.declared.trail.Trail.{Trail}

-- What a trail has of a world.

-- the line of a holder, where it isn't lost
abbrev pub line_if : ℕ → Result (List Entry) ℕ → List HolderLine
line_if holder (Ok line) = record { holder = holder; line = line } ∷ []
line_if holder (Err shard) = []

abbrev pub spared_line : WorldState → ℕ → List HolderLine
spared_line w holder = line_if holder (line_told w holder)

-- the lines of the holders, in their order, lost ones left out
abbrev pub spared_lines : WorldState → List HolderLine
spared_lines w = flat_map (spared_line w) (holders w)

-- each of these lines is lawful for this history
abbrev pub AreLawful : List Event → List HolderLine → Type 0
AreLawful history lines = Each (λ held. Lawful history held.line) lines

-- a trail has the history of a world and the lines of its holders, each of them lawful for it, and else what it had
-- before
pub record IsFilled (w : WorldState) (before after : Trail) : Type 0 where
  pub history : after.history ≡ w.history
  pub lines : after.lines ≡ spared_lines w
  pub lawful : AreLawful after.history after.lines
  pub others : after ≡ record before { history = after.history; lines = after.lines }
