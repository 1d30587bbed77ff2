use Rattle.std.proofs.Common.{arith}
use Rattle.log_law.proofs.ReadEnds.{trimmed_decides}
use Rattle.log_law.proofs.trims.is_trimmed.Goals as goal

pub returns-in-Some : goal.returns-in-Some
returns-in-Some c = trimmed_decides c.args.history.now c.args.j _ c.args.floor c.in-Some.ask c.in-Some.ensures c.args.highest c.requires.highest (let e = c.asked_from.ensures in omega (arith, c.if-asked_from-floor.false))
