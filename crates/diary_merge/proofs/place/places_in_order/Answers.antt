use Rattle.std.proofs.Common.{rules, List, IsPermutation, subst}
use Rattle.std.proofs.lemmas.List.Sorted.{answers_always}
use Rattle.diary_laws.proofs.merges.Ranks.{each_permuted}
use Rattle.diary_merge.specs.Acts.{IsThere, places_of}
use Rattle.diary_merge.specs.declared.place.Place.{Place}
use Rattle.diary_merge.proofs.Acts.{places_there}
use Rattle.diary_merge.proofs.place.places_in_order.Goals as goal

pub returns-clause-ordered : goal.returns-clause-ordered
returns-clause-ordered c = c.in_ok-sort_by_key.ensures.sorted (λ (p : Place). p.key) (answers_always _ _ _ (λ f a r g h. search rules))

pub returns-clause-there : goal.returns-clause-there
returns-clause-there c =
    each_permuted (IsThere c.args.diaries.now) (places_of 0 c.args.diaries.now) c.sort_by_key.new.self.items
    (subst (λ (l : List Place). IsPermutation l c.sort_by_key.new.self.items) c.in_ok-places.ensures c.in_ok-sort_by_key.ensures.permutation) (places_there c.args.diaries.now)
