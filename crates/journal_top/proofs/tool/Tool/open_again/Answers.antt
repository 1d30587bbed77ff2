use Rattle.std.proofs.Common.{ap, subst, sym, ◌∙◌}
use Rattle.journal_top.specs.Rules.{open_again}
use Rattle.journal_top.specs.Sound.{GoesOn}
use Rattle.journal_top.proofs.Devices.{off_goes_on}
use Rattle.journal_top.proofs.Reopening.{again}
use Rattle.journal_top.proofs.tool.Tool.open_again.Goals as goal

pub open_disk-requires : goal.open_disk-requires
open_disk-requires c = subst GoesOn (sym c.power_off.ensures.off) (off_goes_on c.self.inside.journal.disk c.self.invariant.faultless)

pub invariant_of-tool : goal.invariant_of-tool
invariant_of-tool c =
    let i = c.self.inside in
    (again i.store i.journal c.in_ok-journal.journal i.shard i.lines c.in_ok-journal.entries c.power_off.result c.self.invariant c.power_off.ensures.off c.in_ok-journal.ensures).tool

pub returns : goal.returns
returns c =
    let i = c.self.inside in
    let new = c.in_ok-journal.journal in
    let did = again i.store i.journal new i.shard i.lines c.in_ok-journal.entries c.power_off.result c.self.invariant c.power_off.ensures.off c.in_ok-journal.ensures in
    rw (c.in_ok-text.ensures, c.kept.ensures.kept) did.told_is ∙ ap open_again c.self.view_is
