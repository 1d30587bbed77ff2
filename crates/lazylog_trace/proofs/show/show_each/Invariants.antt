use Rattle.std.proofs.Common.{◌≡◌, ◌++◌, map, drop}
use Rattle.lazylog_trace.specs.Shown.{holder_text}
use Rattle.lazylog_trace.proofs.show.show_each.Given as goal

-- the texts of the holders so far stand there
abbrev pub invariant-loop-holder : goal.invariant-loop-holder
invariant-loop-holder l =
    l.texts ++ map (holder_text l.world l.asked) (drop l.holder-index l.nodes) ≡ l.fn.texts ++ map (holder_text l.world l.asked) l.nodes
