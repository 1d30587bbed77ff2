use Rattle.std.proofs.Common.{refl}
use Rattle.law_cases.proofs.Verdicts.{broken_by}
use Rattle.law_cases.proofs.broken.what_was_read_is_final.Goals as goal

pub returns : goal.returns
returns c = record {
  by_entries = broken_by _ _ _ refl;
  by_a_tail = broken_by _ _ _ refl;
  by_an_order = broken_by _ _ _ refl;
  by_a_trim = broken_by _ _ _ refl;
  by_a_trimmed_read = broken_by _ _ _ refl;
  by_one_place = broken_by _ _ _ refl;
}
