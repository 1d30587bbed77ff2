use Rattle.lazylog_trace.specs.declared.words.Task.TheVariants.{Load, Recode, Trace}
use Rattle.lazylog_trace.proofs.CommandLine.{one_task}
use Rattle.lazylog_trace.proofs.top.trace_top.Goals as goal

pub returns-clause-traced : goal.returns-clause-traced
returns-clause-traced g c = λ shape asked. c.perform.ensures.traced shape (one_task c.args.words.now c.in-Some.task (Trace shape) c.in-Some.ensures.some asked)

pub returns-clause-loaded : goal.returns-clause-loaded
returns-clause-loaded g c = λ shape seed asked. c.perform.ensures.loaded shape seed (one_task c.args.words.now c.in-Some.task (Load shape seed) c.in-Some.ensures.some asked)

pub returns-clause-load_unread : goal.returns-clause-load_unread
returns-clause-load_unread g c = λ shape seed asked. c.perform.ensures.load_unread shape seed (one_task c.args.words.now c.in-Some.task (Load shape seed) c.in-Some.ensures.some asked)

pub returns-clause-recoded : goal.returns-clause-recoded
returns-clause-recoded g c = λ asked. c.perform.ensures.recoded (one_task c.args.words.now c.in-Some.task Recode c.in-Some.ensures.some asked)

pub returns-clause-recode_trail : goal.returns-clause-recode_trail
returns-clause-recode_trail g c = λ asked. c.perform.ensures.recode_trail (one_task c.args.words.now c.in-Some.task Recode c.in-Some.ensures.some asked)
