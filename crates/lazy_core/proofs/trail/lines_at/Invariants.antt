use Rattle.std.proofs.Common.{◌≡◌, ◌++◌, drop}
use Rattle.std.specs.List.{flat_map}
use Rattle.lazy_core.specs.Filled.{AreLawful, spared_line}
use Rattle.lazy_core.proofs.trail.lines_at.Given as goal

-- the lines of the holders so far stand there, and are lawful
abbrev pub invariant-loop-holder : goal.invariant-loop-holder
invariant-loop-holder l = record {
  lines : l.lines ++ flat_map (spared_line l.world) (drop l.holder-index l.nodes) ≡ flat_map (spared_line l.world) l.nodes;
  lawful : AreLawful l.world.history l.lines;
}
