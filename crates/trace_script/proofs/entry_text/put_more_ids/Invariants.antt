use Rattle.std.proofs.Common.{◌≡◌, ◌++◌, drop}
use Rattle.trace_script.specs.EntryTexts.{id_text, spaced}
use Rattle.trace_script.proofs.entry_text.put_more_ids.Given as goal

-- what stands there, and what is still to come
abbrev pub invariant-loop-id : goal.invariant-loop-id
invariant-loop-id l =
    l.out.items ++ spaced id_text (drop l.id-index l.ids) ≡ l.fn.out.items ++ spaced id_text l.ids
