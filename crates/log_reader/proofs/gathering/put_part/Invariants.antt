use Rattle.std.proofs.Common.{◌≡◌, ◌++◌, ℕ, List, take}
use Rattle.rec_id.specs.declared.entry.Entry.{Entry}
use Rattle.log_reader.specs.Gathering.{by_place}
use Rattle.log_reader.proofs.gathering.put_part.Given as goal

abbrev pub invariant-loop-placed : goal.invariant-loop-placed
invariant-loop-placed l =
    (told : List (ℕ × Entry)) (n : ℕ) → l.fn.slots.items ≡ by_place told l.fn.from n → l.slots.items ≡ by_place (told ++ take l.placed-index l.part) l.fn.from n
