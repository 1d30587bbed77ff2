use Rattle.std.proofs.Common.{refl}
use Rattle.law_cases.proofs.Verdicts.{first_broken}
use Rattle.law_cases.proofs.first_broken.an_entry_is_gone_where_a_trim_was_asked_for.Goals as goal

pub returns : goal.returns
returns c = first_broken _ _ _ _ _ refl
