use Rattle.std.proofs.Common.{◌≡◌, ℕ, List, Option, map, subst, ◌∙◌}
use Rattle.rec_id.specs.Lawful.{UniqueAt}
use Rattle.log_law.specs.Keys.{IsApart}
use Rattle.log_law.specs.Pairs.{IsFound}
use Rattle.log_law.specs.Told.{entry_key}
use Rattle.log_law.specs.declared.told.Names.TheVariants.{All}
use Rattle.log_law.proofs.Found.{found_like}
use Rattle.log_law.proofs.Repeats.{unique_to, unique_from}
use Rattle.log_law.proofs.unique.unique_breach.Goals as goal

pub returns : goal.returns
returns c =
    let line = c.args.line.now in
    let same : c.in_ok-named.named ≡ map (entry_key All) c.args.line.now = c.in_ok-named.ensures ∙ c.in_ok-entry_keys.ensures in
    let found : IsFound (IsApart (map (entry_key All) c.args.line.now)) c.first_repeated.result = subst (λ (keys : List (Option (ℕ × ℕ))). IsFound (IsApart keys) c.first_repeated.result) same c.first_repeated.ensures in
    found_like (IsApart (map (entry_key All) c.args.line.now)) (UniqueAt c.args.line.now) (unique_to c.args.line.now) (unique_from c.args.line.now) c.first_repeated.result found
