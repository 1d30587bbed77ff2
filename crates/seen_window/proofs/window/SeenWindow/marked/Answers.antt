use Rattle.std.proofs.Common.{rules}
use Rattle.seen_window.proofs.Images.{read_formed}
use Rattle.seen_window.proofs.window.SeenWindow.marked.Goals as goal

pub marked-requires : goal.marked-requires
marked-requires c =
    let read = read_formed c.self.inside.clients.items c.self.invariant c.args.client (search rules) c.index.result.now c.index.ensures in
    record { short = read.0; formed = read.1 }
