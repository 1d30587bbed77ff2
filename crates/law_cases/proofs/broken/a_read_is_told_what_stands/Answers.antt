use Rattle.std.proofs.Common.{refl}
use Rattle.law_cases.proofs.Verdicts.{broken_by}
use Rattle.law_cases.proofs.broken.a_read_is_told_what_stands.Goals as goal

pub returns : goal.returns
returns c = record {
  another_record = broken_by _ _ _ refl;
  of_the_place_before = broken_by _ _ _ refl;
  the_second_is_another = broken_by _ _ _ refl;
  other_bytes = broken_by _ _ _ refl;
  rejected_for_kept = broken_by _ _ _ refl;
  kept_for_rejected = broken_by _ _ _ refl;
  past_the_end = broken_by _ _ _ refl;
  gone = broken_by _ _ _ refl;
  gone_for_kept = broken_by _ _ _ refl;
  rejected_for_gone = broken_by _ _ _ refl;
  other_bytes_for_gone = broken_by _ _ _ refl;
  another_record_for_gone = broken_by _ _ _ refl;
  bytes_of_another_for_gone = broken_by _ _ _ refl;
  an_order_of_another = broken_by _ _ _ refl;
  an_order_of_the_place_before = broken_by _ _ _ refl;
  an_order_turned_round = broken_by _ _ _ refl;
  an_order_past_the_end = broken_by _ _ _ refl;
}
