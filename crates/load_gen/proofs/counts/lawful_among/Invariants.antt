use Rattle.std.proofs.Common.{◌≡◌}
use Rattle.load_gen.proofs.counts.lawful_among.Given as goal

-- each of the holders so far has a lawful line
abbrev pub invariant-loop-holder : goal.invariant-loop-holder
invariant-loop-holder l = l.count ≡ l.holder-index
