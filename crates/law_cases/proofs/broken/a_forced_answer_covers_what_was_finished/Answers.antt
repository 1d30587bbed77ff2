use Rattle.std.proofs.Common.{refl}
use Rattle.law_cases.proofs.Verdicts.{broken_by}
use Rattle.law_cases.proofs.broken.a_forced_answer_covers_what_was_finished.Goals as goal

pub returns : goal.returns
returns c = record {
  acknowledged = broken_by _ _ _ refl;
  rejected = broken_by _ _ _ refl;
  of_its_own_client = broken_by _ _ _ refl;
  of_a_range = broken_by _ _ _ refl;
  at_the_tail = broken_by _ _ _ refl;
}
