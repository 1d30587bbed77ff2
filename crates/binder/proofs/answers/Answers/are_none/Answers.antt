use Rattle.std.proofs.Common.{[], ap, ◌∙◌}
use Rattle.lazy_rules.specs.Flight.{has_all}
use Rattle.binder.specs.Held.{Answering}
use Rattle.binder.proofs.Rosters.{none_there}
use Rattle.binder.proofs.answers.Answers.are_none.Goals as goal

pub returns : goal.returns
returns c = none_there c.self.inside.count ∙ ap (λ (a : Answering). has_all a.count []) c.self.view_is
