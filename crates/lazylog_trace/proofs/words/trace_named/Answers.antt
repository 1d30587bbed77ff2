use Rattle.std.proofs.Common.{rules}
use Rattle.lazylog_trace.proofs.CommandLine.{trace_asked}
use Rattle.lazylog_trace.proofs.words.trace_named.Goals as goal

pub returns-clause-some : goal.returns-clause-some
returns-clause-some c = trace_asked c.args.words.now c.in_ok-shape_named.field-0 (search rules) (search rules) c.in_ok-shape_named.ensures.some
