use Rattle.std.proofs.Common.{ℕ, List, Option, Some, nat_lt, refl, sym, ap, ◌∙◌, subst}
use Rattle.std.specs.Bool.{Decides}
use Rattle.std.proofs.lemmas.Bool.{lt-ltb, le-ltb}
use Rattle.std.proofs.lemmas.Option.{slice_get_read}
use Rattle.law_cases.proofs.Decide.{no_decides}
use Rattle.rec_id.specs.Lawful.{InvokedAt}
use Rattle.log_law.specs.Keys.{IsNext}
use Rattle.log_law.specs.Told.{id_key}
use Rattle.log_law.proofs.InvokedRecords.{invoked_decides, asked_decides, kept_decides, noop_decides, gone_uninvoked, gone_decides}
use Rattle.log_law.proofs.invoked.is_invoked.Goals as goal

pub returns-in-Kept : goal.returns-in-Kept
returns-in-Kept c =
    let here = slice_get_read _ _ _ _ refl c.requires.within c.index-line-place.is in
    kept_decides c.args.history.now c.args.line.now c.args.place c.is_invoked_with.result c.in-Kept.id c.in-Kept.bytes (here ∙ ap Some c.in-Kept.is) c.is_invoked_with.ensures

pub returns-in-Noop : goal.returns-in-Noop
returns-in-Noop c =
    let here = slice_get_read _ _ _ _ refl c.requires.within c.index-line-place.is in
    let first = subst (λ (ks : List (Option (ℕ × ℕ))). IsNext ks 0 (id_key c.in-Noop.id) c.first.result) c.requires.invoked (subst (λ (k : ℕ × ℕ). IsNext c.args.invoked.now 0 k c.first.result) c.id_key.ensures c.first.ensures) in
    noop_decides c.args.history.now c.args.line.now c.args.place _ c.in-Noop.id (here ∙ ap Some c.in-Noop.is) (invoked_decides c.args.history.now c.in-Noop.id c.first.result first)

pub returns-then-first-history : goal.returns-then-first-history
returns-then-first-history c =
    let here = slice_get_read _ _ _ _ refl c.requires.within c.index-line-place.is in
    let first = subst (λ (ks : List (Option (ℕ × ℕ))). IsNext ks 0 (id_key c.in-Gone.id) c.first-in-Gone.result) c.requires.invoked (subst (λ (k : ℕ × ℕ). IsNext c.args.invoked.now 0 k c.first-in-Gone.result) c.id_key-in-Gone.ensures c.first-in-Gone.ensures) in
    let d = invoked_decides c.args.history.now c.in-Gone.id c.first-in-Gone.result first in
    no_decides (gone_uninvoked c.args.history.now c.args.line.now c.args.place c.in-Gone.id (here ∙ ap Some c.in-Gone.is) (λ w. (let yes = d.1 w in let no = le-ltb _ _ c.if-first-history.true in cc)))

pub returns-else-first-history : goal.returns-else-first-history
returns-else-first-history c =
    let here = slice_get_read _ _ _ _ refl c.requires.within c.index-line-place.is in
    let first = subst (λ (ks : List (Option (ℕ × ℕ))). IsNext ks 0 (id_key c.in-Gone.id) c.first-in-Gone.result) c.requires.invoked (subst (λ (k : ℕ × ℕ). IsNext c.args.invoked.now 0 k c.first-in-Gone.result) c.id_key-in-Gone.ensures c.first-in-Gone.ensures) in
    let w = (invoked_decides c.args.history.now c.in-Gone.id c.first-in-Gone.result first).0 (lt-ltb _ _ c.if-first-history.false) in
    subst (λ (n : ℕ). Decides (nat_lt c.args.place n) (InvokedAt c.args.history.now c.args.line.now c.args.place)) (sym c.from.ensures)
    (gone_decides c.args.history.now c.args.line.now c.args.place c.in-Gone.id (here ∙ ap Some c.in-Gone.is) (nat_lt c.args.place c.args.highest) w (asked_decides c.args.history.now c.args.place c.args.highest c.requires.highest))
