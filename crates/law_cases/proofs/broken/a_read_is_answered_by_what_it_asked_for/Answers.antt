use Rattle.std.proofs.Common.{refl}
use Rattle.law_cases.proofs.Verdicts.{broken_by}
use Rattle.law_cases.proofs.broken.a_read_is_answered_by_what_it_asked_for.Goals as goal

pub returns : goal.returns
returns c = record {
  never_begun = broken_by _ _ _ refl;
  begun_by_another_client = broken_by _ _ _ refl;
  begun_by_another_number = broken_by _ _ _ refl;
  begun_later = broken_by _ _ _ refl;
  begun_twice = broken_by _ _ _ refl;
  begun_twice_for_different_places = broken_by _ _ _ refl;
  answered_twice = broken_by _ _ _ refl;
  answered_after_trimmed = broken_by _ _ _ refl;
  from_another_place = broken_by _ _ _ refl;
  a_tail_that_is_not_forced = broken_by _ _ _ refl;
  forced_and_too_short = broken_by _ _ _ refl;
  forced_and_too_long = broken_by _ _ _ refl;
  forced_past_its_tail = broken_by _ _ _ refl;
  a_tail_past_the_end = broken_by _ _ _ refl;
  too_short = broken_by _ _ _ refl;
  too_long = broken_by _ _ _ refl;
  asked_backward = broken_by _ _ _ refl;
}
