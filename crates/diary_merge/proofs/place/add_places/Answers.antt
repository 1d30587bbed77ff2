use Rattle.std.proofs.Common.{◌+◌, ◌++◌, List, drop, ap, ◌∙◌}
use Rattle.diary_merge.specs.Acts.{places_from}
use Rattle.diary_merge.specs.declared.place.Place.{Place}
use Rattle.diary_merge.proofs.Walks.{place_walked}
use Rattle.diary_merge.proofs.place.add_places.Goals as goal

pub loop-i-preserved : goal.loop-i-preserved
loop-i-preserved c =
    ap (λ (l : List Place). l ++ places_from c.args.diary.now.node c.args.number (c.loop-i.i + 1) (drop (c.loop-i.i + 1) c.args.diary.now.entries)) c.in_ok-add_place.ensures
    ∙ place_walked c.args.diary.now.node c.args.number c.loop-i.places.items (c.args.places.now.items ++ places_from c.args.diary.now.node c.args.number 0 c.args.diary.now.entries) c.args.diary.now.entries c.loop-i.i c.at-entry.result.now c.at-entry.ensures
    c.loop-i.invariant
