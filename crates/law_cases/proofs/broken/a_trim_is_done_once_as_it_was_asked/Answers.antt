use Rattle.std.proofs.Common.{refl}
use Rattle.law_cases.proofs.Verdicts.{broken_by}
use Rattle.law_cases.proofs.broken.a_trim_is_done_once_as_it_was_asked.Goals as goal

pub returns : goal.returns
returns c = record {
  never_asked = broken_by _ _ _ refl;
  asked_later = broken_by _ _ _ refl;
  asked_by_another_client = broken_by _ _ _ refl;
  asked_by_another_number = broken_by _ _ _ refl;
  asked_for_another_floor = broken_by _ _ _ refl;
  asked_twice = broken_by _ _ _ refl;
  done_twice = broken_by _ _ _ refl;
  done_twice_for_other_floors = broken_by _ _ _ refl;
}
