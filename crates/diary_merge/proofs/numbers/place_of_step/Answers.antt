use Rattle.std.proofs.Common.{rules, ◌≡◌, ◌≤◌, ◌<◌, Result, ap, ◌∙◌, subst, sym, arith, nat_eq}
use Rattle.std.specs.Ordering.{nat_cmp}
use Rattle.std.specs.List.Sorted.{IsBinarySearchResult}
use Rattle.std.proofs.lemmas.List.Sorted.{answers_always}
use Rattle.lazy_msgs.specs.declared.limits.TheConstants.{TIME_LIMIT}
use Rattle.diary_merge.specs.Acts.{word_at}
use Rattle.diary_merge.specs.declared.place.Place.{Place}
use Rattle.diary_merge.specs.declared.place.TheConstants.{NODES}
use Rattle.diary_merge.proofs.Searches.{step_found, step_missing}
use Rattle.diary_merge.proofs.numbers.place_of_step.Goals as goal

pub returns-in-Ok-clause-some : goal.returns-in-Ok-clause-some
returns-in-Ok-clause-some c =
    let early : c.args.time < TIME_LIMIT = search rules in
    let few : c.args.node < NODES = search rules in
    let found = c.binary_search_by_key.ensures.position (λ (p : Place). p.key) (answers_always _ _ _ (λ f a r g h. search rules)) in
    step_found c.args.places.now c.args.time c.args.node early few c.binary_search_by_key.result
    (subst (λ key. IsBinarySearchResult (λ (p : Place). nat_cmp p.key key) c.args.places.now c.binary_search_by_key.result) c.key_at.ensures found) c.in-Ok.at c.in-Ok.is c.binary_search_by_key.ensures.bound

pub returns-in-Err-clause-none : goal.returns-in-Err-clause-none
returns-in-Err-clause-none c = λ up early few.
    let found = c.binary_search_by_key.ensures.position (λ (p : Place). p.key) (answers_always _ _ _ (λ f a r g h. search rules)) in
    step_missing c.args.places.now c.args.time c.args.node early few c.binary_search_by_key.result
    (subst (λ key. IsBinarySearchResult (λ (p : Place). nat_cmp p.key key) c.args.places.now c.binary_search_by_key.result) c.key_at.ensures found) c.in-Err.field-0 c.in-Err.is up
