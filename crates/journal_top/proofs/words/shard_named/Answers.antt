use Rattle.std.proofs.Common.{rules}
use Rattle.journal_top.proofs.CommandLine.{named_none}
use Rattle.journal_top.proofs.words.shard_named.Goals as goal

pub returns-clause-none : goal.returns-clause-none
returns-clause-none c =
    named_none c.args.words.now (record { mode = c.in_ok-mode.mode; number = c.in_ok-number_at.field-0; shards = c.in_ok-number_at-2.field-0 }) c.shard_in.result
    (search rules) (search rules) (search rules) (search rules) c.shard_in.ensures.none
