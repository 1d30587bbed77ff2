use Rattle.std.proofs.Common.{◌≡◌, ◌+◌, ◌-◌, length}
use Rattle.std.specs.Io.KnownBytes.{prepend_known}
use Rattle.script_streams.specs.Lines.{IsLine}
use Rattle.script_streams.specs.Reading.{coming}
use Rattle.script_streams.proofs.line_reader.LineReader.next_line.Given as goal

-- a part of the line was taken
abbrev pub invariant-loop-error : goal.invariant-loop-error
invariant-loop-error g l = record {
  part : IsLine l.fn.self.most l.self.line;
  taken : coming l.fn.self (g.S.Source.left l.fn.source) ≡ prepend_known l.self.line (coming l.self (g.S.Source.left l.source));
  most : l.self.most ≡ l.fn.self.most;
  faultless : g.S.Source.faults l.source ≡ g.S.Source.faults l.fn.source;
}

-- a line may grow by so many bytes, or a piece is to be read first
abbrev pub decreases-loop-error : goal.decreases-loop-error
decreases-loop-error g l = (l.self.most - length l.self.line) + (1 - length l.self.ahead)
