use Rattle.law_cases.proofs.Consequences.{none_gone}
use Rattle.law_cases.proofs.laws.no_answer_has_a_gone_entry.Goals as goal

pub returns : goal.returns
returns c = λ history line h place id f. none_gone history line h.slices place id f
