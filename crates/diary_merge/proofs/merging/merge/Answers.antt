use Rattle.std.proofs.Common.{◌≡◌, ℕ, List, length, IfOk, ap, ◌∙◌, subst, sym}
use Rattle.lazy_msgs.specs.declared.input.WorldEvent.{WorldEvent}
use Rattle.diary_laws.specs.Merges.{AreEventsOf, IsFirstNumber, sent_by}
use Rattle.diary_merge.specs.Acts.{CanBeMerged, acts_at, starts_from}
use Rattle.diary_merge.specs.declared.place.Place.{Place}
use Rattle.diary_merge.proofs.Walks.{starts_counted}
use Rattle.diary_merge.proofs.WholeDiaries.{merge_answered}
use Rattle.diary_merge.proofs.merging.merge.Goals as goal

pub events_of-requires-clause-counted : goal.events_of-requires-clause-counted
events_of-requires-clause-counted c =
    ap length c.as_slice-3.ensures.value ∙ starts_counted c.args.diaries.now c.as_slice.result.now c.in_ok-starts.starts.items c.in_ok-starts.ensures ∙ ap length (c.as_slice.ensures.value ∙ sym c.as_slice-2.ensures.value)

pub returns : goal.returns
returns c =
    let diaries = c.args.diaries.now in
    let places = c.in_ok-places.places.items in
    let starts = c.as_slice-3.result.now in
    let are : starts ≡ starts_from 0 (acts_at diaries places) = c.as_slice-3.ensures.value ∙ c.in_ok-starts.ensures ∙ ap (λ (ps : List Place). starts_from 0 (acts_at diaries ps)) c.as_slice.ensures.value in
    merge_answered c.args.shape.now diaries places c.in_ok-places.ensures.all c.in_ok-places.ensures.ordered c.in_ok-places.ensures.there starts are c.events_of.result
    (subst (λ (ps : List Place). IfOk c.events_of.result (λ (events : List WorldEvent). CanBeMerged diaries ps starts → AreEventsOf (IsFirstNumber (sent_by (acts_at diaries ps))) (acts_at diaries ps) events)) c.as_slice-2.ensures.value c.events_of.ensures)
