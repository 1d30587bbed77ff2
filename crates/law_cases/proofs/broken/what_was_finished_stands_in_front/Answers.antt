use Rattle.std.proofs.Common.{refl}
use Rattle.law_cases.proofs.Verdicts.{broken_by}
use Rattle.law_cases.proofs.broken.what_was_finished_stands_in_front.Goals as goal

pub returns : goal.returns
returns c = record {
  acknowledged_first = broken_by _ _ _ refl;
  rejected_first = broken_by _ _ _ refl;
  then_rejected = broken_by _ _ _ refl;
  by_one_client = broken_by _ _ _ refl;
  with_another_between = broken_by _ _ _ refl;
}
