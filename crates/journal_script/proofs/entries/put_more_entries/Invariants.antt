use Rattle.std.proofs.Common.{◌≡◌, ◌++◌, drop}
use Rattle.trace_script.specs.EntryTexts.{spaced}
use Rattle.journal_script.specs.Texts.{placed_text}
use Rattle.journal_script.proofs.entries.put_more_entries.Given as goal

-- what stands there, and what is still to come
abbrev pub invariant-loop-placed : goal.invariant-loop-placed
invariant-loop-placed l =
    l.out.items ++ spaced placed_text (drop l.placed-index l.entries) ≡ l.fn.out.items ++ spaced placed_text l.entries
