use Rattle.law_cases.proofs.Consequences.{reads_agree}
use Rattle.law_cases.proofs.laws.answers_agree.Goals as goal

pub returns : goal.returns
returns c = λ history line h place one other f g. reads_agree history line h.finished h.slices place one other f g
