use Rattle.std.proofs.Common.{ℕ, List, eqb, map, ap, ◌∙◌}
use Rattle.std.specs.List.{position}
use Rattle.pending_log.specs.Pending.{Pending}
use Rattle.rec_id.specs.Identity.{same_id}
use Rattle.pending_log.proofs.Places.{word_of, place_of}
use Rattle.pending_log.proofs.ring.Ring.find.Goals as goal

pub returns : goal.returns
returns c =
    let items = c.self.inside.items.items in
    let words = c.as_slices.ensures.items ∙ c.self.invariant.packed_is in
    c.find_in_pieces.ensures
    ∙ ap (λ (list : List ℕ). position (λ other. eqb other c.pack.result) list) words
    ∙ ap (λ (word : ℕ). position (λ other. eqb other word) (map word_of items)) c.pack.ensures.packed
    ∙ place_of items c.args.id c.self.invariant.valid c.pack.ensures.valid
    ∙ ap (λ (log : Pending). position (λ item. same_id item.id c.args.id) log.items) c.self.view_is
