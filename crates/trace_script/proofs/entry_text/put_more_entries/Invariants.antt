use Rattle.std.proofs.Common.{◌≡◌, ◌++◌, drop}
use Rattle.trace_script.specs.EntryTexts.{entry_text, spaced}
use Rattle.trace_script.proofs.entry_text.put_more_entries.Given as goal

-- what stands there, and what is still to come
abbrev pub invariant-loop-entry : goal.invariant-loop-entry
invariant-loop-entry l =
    l.out.items ++ spaced entry_text (drop l.entry-index l.entries) ≡ l.fn.out.items ++ spaced entry_text l.entries
