use Rattle.std.proofs.Common.{◌≡◌, ◌++◌, drop}
use Rattle.diary_merge.specs.Acts.{places_of}
use Rattle.diary_merge.proofs.place.all_places.Given as goal

abbrev pub invariant-loop-number : goal.invariant-loop-number
invariant-loop-number l = l.places.items ++ places_of l.number (drop l.number l.diaries) ≡ places_of 0 l.diaries
