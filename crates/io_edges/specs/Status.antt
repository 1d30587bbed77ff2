use Rattle.std.specs.Prelude.{ℕ}
use Rattle.io_edges.specs.declared.status.Status.{Status}
use Rattle.io_edges.specs.declared.status.Status.TheVariants.{Done, Usage, BadLine, ReadFault, WriteFault, Memory, Limit}

-- the exit status of a process that ended so
abbrev pub code_of : Status → ℕ
code_of Done = 0
code_of Usage = 2
code_of (BadLine line) = 3
code_of ReadFault = 4
code_of WriteFault = 5
code_of Memory = 6
code_of (Limit line) = 7
