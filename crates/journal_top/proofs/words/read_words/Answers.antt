use Rattle.std.proofs.Common.{rules}
use Rattle.journal_top.proofs.CommandLine.{asked_some}
use Rattle.journal_top.proofs.words.read_words.Goals as goal

pub returns-clause-some : goal.returns-clause-some
returns-clause-some c = asked_some c.args.words.now c.shard_named.result (search rules) (search rules) c.shard_named.ensures.some
