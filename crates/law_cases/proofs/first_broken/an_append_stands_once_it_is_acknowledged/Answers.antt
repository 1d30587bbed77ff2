use Rattle.std.proofs.Common.{refl}
use Rattle.law_cases.proofs.Verdicts.{first_broken}
use Rattle.law_cases.proofs.first_broken.an_append_stands_once_it_is_acknowledged.Goals as goal

pub returns : goal.returns
returns c = first_broken _ _ _ _ _ refl
