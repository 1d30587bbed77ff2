use Rattle.std.proofs.Common.{ℕ, ◌+◌, max, refl, ap, ◌∙◌, subst, sym}
use Rattle.std.proofs.lemmas.Option.{slice_get_read}
use Rattle.log_law.specs.Floors.{IsHighest}
use Rattle.log_law.proofs.InvokedRecords.{highest_more}
use Rattle.log_law.proofs.floors.raised.Goals as goal

pub returns : goal.returns
returns c =
    let here = slice_get_read _ _ _ _ refl c.requires.within c.index-history-j.is in
    let same = c.max.ensures ∙ ap (max c.args.highest) c.floor_of.ensures in
    subst (λ (n : ℕ). IsHighest c.args.history.now (c.args.j + 1) n) (sym same) (highest_more c.args.history.now c.args.j c.args.highest _ here c.requires.highest)
