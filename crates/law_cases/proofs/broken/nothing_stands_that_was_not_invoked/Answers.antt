use Rattle.std.proofs.Common.{refl}
use Rattle.law_cases.proofs.Verdicts.{broken_by}
use Rattle.law_cases.proofs.broken.nothing_stands_that_was_not_invoked.Goals as goal

pub returns : goal.returns
returns c = record {
  kept = broken_by _ _ _ refl;
  with_other_bytes = broken_by _ _ _ refl;
  with_bytes_of_another = broken_by _ _ _ refl;
  rejected = broken_by _ _ _ refl;
  gone = broken_by _ _ _ refl;
  gone_unasked = broken_by _ _ _ refl;
  gone_at_the_floor = broken_by _ _ _ refl;
}
