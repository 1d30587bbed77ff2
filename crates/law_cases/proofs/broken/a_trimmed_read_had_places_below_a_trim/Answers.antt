use Rattle.std.proofs.Common.{refl}
use Rattle.law_cases.proofs.Verdicts.{broken_by}
use Rattle.law_cases.proofs.broken.a_trimmed_read_had_places_below_a_trim.Goals as goal

pub returns : goal.returns
returns c = record {
  never_begun = broken_by _ _ _ refl;
  begun_by_another_client = broken_by _ _ _ refl;
  begun_later = broken_by _ _ _ refl;
  begun_twice = broken_by _ _ _ refl;
  answered_before = broken_by _ _ _ refl;
  trimmed_twice = broken_by _ _ _ refl;
  from_the_floor_on = broken_by _ _ _ refl;
  never_asked = broken_by _ _ _ refl;
  asked_later = broken_by _ _ _ refl;
  asked_for_less = broken_by _ _ _ refl;
}
