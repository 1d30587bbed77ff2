use Rattle.std.proofs.Common.{◌≡◌, map}
use Rattle.std.specs.List.{range_with_len}
use Rattle.view_config.specs.Nodes.{seq_id}
use Rattle.view_ctl.proofs.controller.first_spares.Given as goal

abbrev pub invariant-loop-i : goal.invariant-loop-i
invariant-loop-i l = l.spares ≡ map seq_id (range_with_len l.shape.seq l.i)
