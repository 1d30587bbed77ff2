use Rattle.journal_top.proofs.Opening.{opened_so}
use Rattle.journal_top.proofs.tool.open_disk.Goals as goal

pub returns-in-Ok : goal.returns-in-Ok
returns-in-Ok c = λ blocks kept file.
    let e = c.in-Ok.ensures in
    opened_so c.args.disk c.in-Ok.journal c.in-Ok.entries blocks kept c.requires e.holds e.ready e.durable e.open_ (c.kept-kept.ensures.settled e.open_) e.reaches file
