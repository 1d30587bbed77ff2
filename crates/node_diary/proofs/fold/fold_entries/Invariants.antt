use Rattle.std.proofs.Common.{◌≡◌, ◌++◌, drop}
use Rattle.node_diary.specs.Folding.{state_after, tellings_after}
use Rattle.node_diary.proofs.fold.fold_entries.Given as goal

-- from here on over what is left
abbrev pub invariant-loop-entry : goal.invariant-loop-entry
invariant-loop-entry l = record {
  state : state_after l.state (drop l.entry-index l.entries) ≡ state_after l.fn.state l.entries;
  told : l.tellings.items ++ tellings_after l.node l.state (drop l.entry-index l.entries) ≡ l.fn.tellings.items ++ tellings_after l.node l.fn.state l.entries;
}
