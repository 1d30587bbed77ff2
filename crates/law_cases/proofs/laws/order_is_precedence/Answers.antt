use Rattle.law_cases.proofs.Consequences.{precedence_to, precedence_from, reach_to, reach_from}
use Rattle.law_cases.proofs.laws.order_is_precedence.Goals as goal

pub returns : goal.returns
returns c = record {
  appends = λ history line u. (precedence_to history line, precedence_from history line u);
  reads = λ history line. (reach_to history line, reach_from history line);
}
