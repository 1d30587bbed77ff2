use Rattle.std.proofs.Common.{◌≡◌, length}
use Rattle.io_edges.specs.Telling.{Goes}
use Rattle.io_edges.proofs.whole.write_all.Given as goal

-- what is left of the piece is still to come, and no fault came
abbrev pub invariant-loop-rest : goal.invariant-loop-rest
invariant-loop-rest g l =
    Goes (g.K.Sink.written l.fn.sink) (g.K.Sink.written l.sink) l.bytes l.rest
    × (g.K.Sink.faults l.sink ≡ g.K.Sink.faults l.fn.sink)

abbrev pub decreases-loop-rest : goal.decreases-loop-rest
decreases-loop-rest g l = length l.rest
