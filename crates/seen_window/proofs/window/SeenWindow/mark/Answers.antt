use Rattle.std.proofs.Common.{◌≡◌, rules}
use Rattle.std.proofs.lemmas.List.{get_or_read}
use Rattle.rec_id.specs.Marks.{no_marks}
use Rattle.seen_window.specs.Image.{marks_of}
use Rattle.seen_window.proofs.Images.{read_formed, mark_image}
use Rattle.seen_window.proofs.window.SeenWindow.mark.Goals as goal

pub mark-requires-clause-formed : goal.mark-requires-clause-formed
mark-requires-clause-formed c =
    (read_formed c.self.inside.clients.items c.self.invariant c.client.result (search rules) c.index_mut-client.result.now c.index_mut-client.ensures.value).1

pub invariant_of-self : goal.invariant_of-self
invariant_of-self c =
    let image = c.self.inside.clients.items in
    let marks = c.index_mut-client.result.now in
    let same : marks ≡ marks_of image c.client.result =
    get_or_read image c.client.result marks (search rules) c.index_mut-client.ensures.value (no_marks 0) in
    rw (c.mark.ensures, same) (mark_image image c.self.invariant c.client.result (search rules) c.number.result)

pub returns-clause-image : goal.returns-clause-image
returns-clause-image c = invariant_of-self c
