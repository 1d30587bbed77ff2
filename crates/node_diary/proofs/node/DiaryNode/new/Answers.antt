use Rattle.std.proofs.Common.{sym, ap}
use Rattle.diary_merge.specs.Weights.{diary_weight}
use Rattle.node_diary.proofs.FirstStates.{started}
use Rattle.node_diary.proofs.node.DiaryNode.new.Goals as goal

pub invariant_of-result : goal.invariant_of-result
invariant_of-result c = (
  record { shape = c.requires.shape; is = started c.requires.shape c.args.node c.args.state c.new.result c.new-2.result c.new.ensures c.new-2.ensures c.requires.begins },
  ap diary_weight (sym c.new.ensures),
)

pub returns-clause-fed : goal.returns-clause-fed
returns-clause-fed c = λ shape begins. started shape c.args.node c.args.state c.new.result c.new-2.result c.new.ensures c.new-2.ensures begins
