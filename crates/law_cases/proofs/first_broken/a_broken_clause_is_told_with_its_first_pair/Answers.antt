use Rattle.std.proofs.Common.{refl}
use Rattle.law_cases.proofs.Verdicts.{first_broken}
use Rattle.law_cases.proofs.first_broken.a_broken_clause_is_told_with_its_first_pair.Goals as goal

pub returns : goal.returns
returns c = record {
  unique = first_broken _ _ _ _ _ refl;
  invoked = first_broken _ _ _ _ _ refl;
  finished = first_broken _ _ _ _ _ refl;
  finished_twice = first_broken _ _ _ _ _ refl;
  ordered = first_broken _ _ _ _ _ refl;
  slices = first_broken _ _ _ _ _ refl;
  covered = first_broken _ _ _ _ _ refl;
  tails_never_fall = first_broken _ _ _ _ _ refl;
  behind_read = first_broken _ _ _ _ _ refl;
  trims = first_broken _ _ _ _ _ refl;
}
