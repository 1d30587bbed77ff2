use Rattle.std.proofs.Common.{◌≡◌, take}
use Rattle.seen_window.proofs.window.SeenWindow.image.Given as goal

abbrev pub invariant-loop-client : goal.invariant-loop-client
invariant-loop-client l = l.list.items ≡ take l.client-index l.client-items
