use Rattle.std.proofs.Common.{refl}
use Rattle.law_cases.proofs.Verdicts.{broken_by}
use Rattle.law_cases.proofs.broken.the_line_keeps_what_appends_were_told.Goals as goal

pub returns : goal.returns
returns c = record {
  invoked_twice = broken_by _ _ _ refl;
  invoked_again_with_other_bytes = broken_by _ _ _ refl;
  acknowledged_and_lost = broken_by _ _ _ refl;
  acknowledged_and_rejected = broken_by _ _ _ refl;
  acknowledged_for_another = broken_by _ _ _ refl;
  acknowledged_twice = broken_by _ _ _ refl;
  rejected_and_kept = broken_by _ _ _ refl;
  rejected_elsewhere = broken_by _ _ _ refl;
  rejected_and_lost = broken_by _ _ _ refl;
  rejected_twice = broken_by _ _ _ refl;
  never_invoked = broken_by _ _ _ refl;
}
