use Rattle.std.proofs.Common.{rules}
use Rattle.lazylog_trace.proofs.CommandLine.{load_asked}
use Rattle.lazylog_trace.proofs.words.load_named.Goals as goal

pub returns-clause-some : goal.returns-clause-some
returns-clause-some c = load_asked c.args.words.now c.in_ok-shape.shape c.in_ok-number_at.field-0 (search rules) (search rules) (search rules) c.in_ok-shape.ensures.some (search rules)
