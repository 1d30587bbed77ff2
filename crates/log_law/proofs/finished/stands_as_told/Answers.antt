use Rattle.std.proofs.Common.{◌≡◌, ℕ, List, Option, length, map, nat_lt, sym, ap, ◌∙◌, subst}
use Rattle.std.specs.Bool.{Decides}
use Rattle.rec_id.specs.Line.{IsAppended}
use Rattle.log_law.specs.Ends.{StandsAsTold}
use Rattle.log_law.specs.Keys.{IsNext}
use Rattle.log_law.specs.Told.{id_key, entry_key}
use Rattle.log_law.specs.declared.told.Names.TheVariants.{Appended}
use Rattle.log_law.proofs.Finishes.{appended_decides}
use Rattle.log_law.proofs.finished.stands_as_told.Goals as goal

pub returns-in-Acked : goal.returns-in-Acked
returns-in-Acked c =
    let line = c.args.line.now in
    let first : IsNext c.args.appended.now 0 (id_key c.in-Acked.id) c.first.result = subst (λ (k : ℕ × ℕ). IsNext c.args.appended.now 0 k c.first.result) c.id_key.ensures c.first.ensures in
    let there : IsNext (map (entry_key Appended) c.args.line.now) 0 (id_key c.in-Acked.id) c.first.result = subst (λ (ks : List (Option (ℕ × ℕ))). IsNext ks 0 (id_key c.in-Acked.id) c.first.result) c.requires first in
    let long : length (map (entry_key Appended) c.args.line.now) ≡ c.len.result = sym (c.len.ensures ∙ ap length c.requires) in
    subst (λ e. Decides (nat_lt c.first.result c.len.result) (StandsAsTold c.args.line.now e)) (sym c.in-Acked.is)
    (subst (λ (n : ℕ). Decides (nat_lt c.first.result n) (IsAppended c.args.line.now c.in-Acked.id)) long (appended_decides c.args.line.now c.in-Acked.id c.first.result there))
