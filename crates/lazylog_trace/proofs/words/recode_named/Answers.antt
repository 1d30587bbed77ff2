use Rattle.std.proofs.Common.{rules}
use Rattle.lazylog_trace.proofs.CommandLine.{recode_asked}
use Rattle.lazylog_trace.proofs.words.recode_named.Goals as goal

pub returns-clause-some : goal.returns-clause-some
returns-clause-some c = recode_asked c.args.words.now (search rules) (search rules)
