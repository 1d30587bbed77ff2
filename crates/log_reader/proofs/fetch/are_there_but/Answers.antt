use Rattle.std.proofs.Common.{arith}
use Rattle.std.proofs.lemmas.Grind.{common_steps}
use Rattle.log_reader.proofs.Gathered.{all_with}
use Rattle.log_reader.proofs.fetch.are_there_but.Goals as goal

pub returns : goal.returns
returns c = λ entries. grind (arith, common_steps, all_with c.args.parts.now c.args.shard entries (omega arith))
