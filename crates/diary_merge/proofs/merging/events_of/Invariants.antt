use Rattle.std.proofs.Common.{take}
use Rattle.diary_laws.specs.Merges.{AreEventsOf, IsFirstNumber, sent_by}
use Rattle.diary_merge.specs.Acts.{CanBeMerged, acts_at}
use Rattle.diary_merge.proofs.merging.events_of.Given as goal

abbrev pub invariant-loop-i : goal.invariant-loop-i
invariant-loop-i l = CanBeMerged l.diaries l.places l.starts → AreEventsOf (IsFirstNumber (sent_by (acts_at l.diaries l.places))) (take l.i (acts_at l.diaries l.places)) l.events
