use Rattle.std.proofs.Common.{◌≡◌, take}
use Rattle.std.specs.List.{filter}
use Rattle.log_reader.specs.Rounds.{is_awaited}
use Rattle.log_reader.proofs.nodes.awaited.Given as goal

abbrev pub invariant-loop-node : goal.invariant-loop-node
invariant-loop-node l = l.made ≡ filter (is_awaited l.nodes l.acked l.fn.tail) (take l.node-index l.nodes)
