use Rattle.std.proofs.Common.{◌+◌, ◌++◌, List, drop, ap, ◌∙◌}
use Rattle.diary_merge.specs.Acts.{places_of}
use Rattle.diary_merge.specs.declared.place.Place.{Place}
use Rattle.diary_merge.proofs.Walks.{diary_walked}
use Rattle.diary_merge.proofs.place.all_places.Goals as goal

pub loop-number-preserved : goal.loop-number-preserved
loop-number-preserved c =
    ap (λ (l : List Place). l ++ places_of (c.loop-number.number + 1) (drop (c.loop-number.number + 1) c.args.diaries.now)) c.in_ok-add_places.ensures
    ∙ diary_walked c.loop-number.places.items (places_of 0 c.args.diaries.now) c.args.diaries.now c.loop-number.number c.at-diary.result.now c.at-diary.ensures c.loop-number.invariant
