use Rattle.std.proofs.Common.{◌≡◌, ℕ, None, replicate, take}
use Rattle.lazy_rules.specs.ReaderRules.{told_by_all, with_part}
use Rattle.log_reader.specs.Gathering.{by_place}
use Rattle.log_reader.proofs.fetch.Fetch.put_all.Given as goal

abbrev pub invariant-loop-shard : goal.invariant-loop-shard
invariant-loop-shard l =
    (n : ℕ) → l.fn.slots.items ≡ replicate n None → l.slots.items ≡ by_place (told_by_all (take l.shard (with_part l.self l.fn.last l.entries).parts)) l.from n
