use Rattle.std.proofs.Common.{refl}
use Rattle.law_cases.proofs.Verdicts.{first_broken}
use Rattle.law_cases.proofs.first_broken.an_append_is_invoked_before_it_is_finished.Goals as goal

pub returns : goal.returns
returns c = record {
  acknowledged = first_broken _ _ _ _ _ refl;
  rejected = first_broken _ _ _ _ _ refl;
}
