use Rattle.std.proofs.Common.{refl}
use Rattle.law_cases.proofs.Verdicts.{broken_by}
use Rattle.law_cases.proofs.broken.a_tail_is_at_least_what_was_shown_before.Goals as goal

pub returns : goal.returns
returns c = record {
  by_entries = broken_by _ _ _ refl;
  by_a_tail = broken_by _ _ _ refl;
  by_an_order = broken_by _ _ _ refl;
  by_one_place = broken_by _ _ _ refl;
  of_its_own_client = broken_by _ _ _ refl;
}
