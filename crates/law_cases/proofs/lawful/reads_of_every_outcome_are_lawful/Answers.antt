use Rattle.std.proofs.Common.{refl}
use Rattle.law_cases.proofs.Verdicts.{lawful}
use Rattle.law_cases.proofs.lawful.reads_of_every_outcome_are_lawful.Goals as goal

pub returns : goal.returns
returns c = record {
  a_range = lawful _ _ refl;
  an_empty_range = lawful _ _ refl;
  a_forced_range = lawful _ _ refl;
  a_forced_range_past_the_tail = lawful _ _ refl;
  a_tail = lawful _ _ refl;
  a_tail_short_of_the_end = lawful _ _ refl;
  a_tail_that_finished_appends_pass = lawful _ _ refl;
  a_tail_that_other_reads_pass = lawful _ _ refl;
  a_rejected_place = lawful _ _ refl;
  before_a_trim = lawful _ _ refl;
  after_a_trim = lawful _ _ refl;
  trimmed_by_a_higher_trim = lawful _ _ refl;
  an_append_behind_it = lawful _ _ refl;
  an_order = lawful _ _ refl;
  no_order = lawful _ _ refl;
  trims_of_two_clients = lawful _ _ refl;
  a_trim_of_one_floor_asked_with_two = lawful _ _ refl;
  a_tail_below_a_trim = lawful _ _ refl;
  one_read_after_the_other = lawful _ _ refl;
  the_later_number_first = lawful _ _ refl;
  a_read_after_a_trimmed_one = lawful _ _ refl;
  the_same_number_of_two_clients = lawful _ _ refl;
}
