use Rattle.std.proofs.Common.{◌≡◌, ◌++◌, drop}
use Rattle.diary_merge.specs.Acts.{places_from}
use Rattle.diary_merge.proofs.place.add_places.Given as goal

-- the places so far, and those of what is left
abbrev pub invariant-loop-i : goal.invariant-loop-i
invariant-loop-i l = l.places.items ++ places_from l.diary.node l.number l.i (drop l.i l.diary.entries) ≡ l.fn.places.items ++ places_from l.diary.node l.number 0 l.diary.entries
