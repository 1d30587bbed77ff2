use Rattle.std.proofs.Common.{sym, subst}
use Rattle.lazylog_trace.specs.Apply.{IsOfFew}
use Rattle.lazylog_trace.proofs.Actions.{few_of}
use Rattle.lazylog_trace.proofs.apply.apply.Goals as goal

pub act-requires-clause-few : goal.act-requires-clause-few
act-requires-clause-few c = subst (IsOfFew 128) (sym c.action_of.ensures) (few_of c.args.command c.requires.sayable)
