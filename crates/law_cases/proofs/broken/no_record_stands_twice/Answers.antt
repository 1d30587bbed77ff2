use Rattle.std.proofs.Common.{refl}
use Rattle.law_cases.proofs.Verdicts.{broken_by}
use Rattle.law_cases.proofs.broken.no_record_stands_twice.Goals as goal

pub returns : goal.returns
returns c = record {
  kept_twice = broken_by _ _ _ refl;
  kept_and_rejected = broken_by _ _ _ refl;
  gone_and_kept = broken_by _ _ _ refl;
  with_another_between = broken_by _ _ _ refl;
}
