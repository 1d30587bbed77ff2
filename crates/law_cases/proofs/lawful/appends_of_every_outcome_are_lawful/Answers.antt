use Rattle.std.proofs.Common.{refl}
use Rattle.law_cases.proofs.Verdicts.{lawful}
use Rattle.law_cases.proofs.lawful.appends_of_every_outcome_are_lawful.Goals as goal

pub returns : goal.returns
returns c = record {
  nothing = lawful _ _ refl;
  acknowledged = lawful _ _ refl;
  rejected = lawful _ _ refl;
  trimmed = lawful _ _ refl;
  trimmed_before_it_was_acknowledged = lawful _ _ refl;
  unfinished_and_kept = lawful _ _ refl;
  unfinished_and_rejected = lawful _ _ refl;
  unfinished_and_gone = lawful _ _ refl;
  unfinished_and_lost = lawful _ _ refl;
  at_the_same_time = lawful _ _ refl;
  one_after_the_other = lawful _ _ refl;
}
