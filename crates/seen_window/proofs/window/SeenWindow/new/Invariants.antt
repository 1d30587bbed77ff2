use Rattle.std.proofs.Common.{◌≡◌, ◌/◌, replicate}
use Rattle.rec_id.specs.Marks.{no_marks}
use Rattle.seen_window.proofs.window.SeenWindow.new.Given as goal

abbrev pub invariant-loop-client : goal.invariant-loop-client
invariant-loop-client l = l.made.items ≡ replicate l._client (no_marks (l.window / 64))
