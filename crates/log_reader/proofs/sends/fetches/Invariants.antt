use Rattle.std.proofs.Common.{◌≡◌, take}
use Rattle.lazy_rules.specs.ReaderRules.{fetch_msg}
use Rattle.lazy_rules.specs.Rows.{to_each}
use Rattle.log_reader.proofs.sends.fetches.Given as goal

abbrev pub invariant-loop-node : goal.invariant-loop-node
invariant-loop-node l = l.sends ≡ to_each (take l.node-index l.nodes) (fetch_msg l.fetch)
