use Rattle.law_cases.proofs.Consequences.{acknowledged_once}
use Rattle.law_cases.proofs.laws.acknowledged_appends_stand_once.Goals as goal

pub returns : goal.returns
returns c = λ history line h i id e. acknowledged_once history line h.unique h.finished i id e
