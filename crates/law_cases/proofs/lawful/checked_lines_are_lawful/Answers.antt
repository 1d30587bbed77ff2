use Rattle.std.proofs.Common.{refl}
use Rattle.law_cases.proofs.Verdicts.{lawful}
use Rattle.law_cases.proofs.lawful.checked_lines_are_lawful.Goals as goal

pub returns : goal.returns
returns c = record {
  acknowledged = lawful _ _ refl;
  trimmed = lawful _ _ refl;
}
