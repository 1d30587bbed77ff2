use Rattle.std.specs.Prelude.{ℕ, ◌≤◌, ◌≡◌, List, Some, map}
use Rattle.list_facts.specs.Lists.{In, Precedes}
use Rattle.rec_id.specs.Identity.{Identity}
use Rattle.rec_id.specs.History.{finished_id, invoked_id, told_reach}
use Rattle.rec_id.specs.Line.{named_id, id_at}
use Rattle.rec_id.specs.declared.entry.Entry.{Entry}
use Rattle.rec_id.specs.declared.event.Event.{Event}

-- where a has finished before b is invoked, and b stands in the line, a stands in front of b
abbrev pub KeepsPrecedence : List Event → List Entry → Type 0
KeepsPrecedence history line =
    (a b : Identity) (last first : Event) → finished_id last ≡ Some a → invoked_id first ≡ Some b → Precedes last first history →
    In b (map named_id line) → Precedes a b (map named_id line)

-- where something reached up to some place before b is invoked, b does not stand below that place
abbrev pub KeepsReach : List Event → List Entry → Type 0
KeepsReach history line =
    (reach place : ℕ) (b : Identity) (last first : Event) → told_reach last ≡ Some reach → invoked_id first ≡ Some b → Precedes last first history →
    id_at line place ≡ Some b → reach ≤ place
