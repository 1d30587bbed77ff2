-- What a primary pushes leaves its store as it is; and once its open cells are no-ops, none is open.
use Rattle.std.proofs.Common.{◌≡◌, ℕ, List, [], ◌∷◌, false, None, refl}
use Rattle.std.specs.Prelude.{drop, map, nat_lt, slice_range}
use Rattle.std.specs.List.{filter, list_any}
use Rattle.std.specs.Option.{option_map_or}
use Rattle.list_facts.proofs.Cases.{either, some_or_none}
use Rattle.rec_id.specs.declared.item.Body.{Body}
use Rattle.rec_id.specs.declared.item.Body.TheVariants.{Elsewhere, Kept, Noop, Open, Gone}
use Rattle.rec_id.specs.declared.item.Cell.{Cell}
use Rattle.lazy_msgs.specs.declared.msg.Msg.TheVariants.{Placed, Copy, FlushCopy, Flushed}
use Rattle.lazy_msgs.specs.Step.{Row}
use Rattle.lazy_rules.specs.Pushing.{flush_ends, is_settled, lagging, length_of, places_end, pushes_above, pushes_flush, pushes_place, pushes_places, settles}
use Rattle.lazy_rules.specs.Rows.{stays, answers, sends_all, followed, to_each}
use Rattle.lazy_rules.specs.ShardState.{FlushJob, PlaceJob, ShardState}
use Rattle.lazy_rules.specs.Store.{Store, closed, closed_cell, has_open, has_open_below, is_open, open_to_noop}
use Rattle.world_facts.proofs.ReaderShape.{Next}

module _ (store : Store) where
  abbrev Own : Row ShardState → Type 0
  Own = Next (λ (s : ShardState). s.store ≡ store)

  later : (first : Row ShardState) (more : ShardState → Row ShardState) → Own (more first.next) → Own (followed first more)
  later first more h = record { next = h.next }

  places_ended : (jobs : List PlaceJob) (s : ShardState) → s.store ≡ store → Own (places_end s jobs)
  places_ended [] s ok = record { next = ok }
  places_ended (job ∷ jobs) s ok =
      either Own (is_settled s job.end) (followed (answers (record s { jobs = jobs }) job.asker (Placed s.view job.end)) (λ (after : ShardState). places_end after jobs)) (stays s)
      (λ k. later (answers (record s { jobs = jobs }) job.asker (Placed s.view job.end)) (λ (after : ShardState). places_end after jobs) (places_ended jobs (record s { jobs = jobs }) ok))
      (λ k. record { next = ok })

  flush_ended : (s : ShardState) → s.store ≡ store → (job : FlushJob) → Own (flush_ends s job)
  flush_ended s ok job = either Own (is_settled s (length_of s)) (answers (record s { flush = None }) job.asker (Flushed s.view)) (stays s) (λ h. record { next = ok }) (λ h. record { next = ok })

  settled : (s : ShardState) → s.store ≡ store → Own (settles s)
  settled s ok =
      let first = places_ended s.jobs s ok in
      let after = (places_end s s.jobs).next in
      later (places_end s s.jobs) (λ (a : ShardState). option_map_or (flush_ends a) a.flush (stays a))
      (some_or_none Own (flush_ends after) after.flush (stays after) (λ job is. flush_ended after first.next job) (λ none. record { next = first.next }))

  place_pushed : (s : ShardState) → s.store ≡ store → (job : PlaceJob) → Own (pushes_place s job)
  place_pushed s ok job =
      let first = sends_all s (to_each (lagging s job.end) (Copy s.view job.from (slice_range s.store.order job.from job.end))) in
      either Own (has_open_below s.store job.end) (stays s) (followed first settles) (λ h. record { next = ok }) (λ h. later first settles (settled s ok))

  flush_pushed : (s : ShardState) → s.store ≡ store → (job : FlushJob) → Own (pushes_flush s job)
  flush_pushed s ok job =
      let first = sends_all s (to_each (lagging s (length_of s)) (FlushCopy s.view job.from (drop job.from s.store.order))) in
      either Own (has_open s.store) (stays s) (followed first settles) (λ h. record { next = ok }) (λ h. later first settles (settled s ok))

  places_pushed : (jobs : List PlaceJob) (s : ShardState) → s.store ≡ store → Own (pushes_places s jobs)
  places_pushed [] s ok = record { next = ok }
  places_pushed (job ∷ jobs) s ok =
      let first = place_pushed s ok job in
      later (pushes_place s job) (λ (after : ShardState). pushes_places after jobs) (places_pushed jobs (pushes_place s job).next first.next)

  pub all_pushed : (s : ShardState) → s.store ≡ store → (place : ℕ) → (pushes_above s place).next.store ≡ store
  all_pushed s ok place =
      let jobs = filter (λ (job : PlaceJob). nat_lt place job.end) s.jobs in
      let first = places_pushed jobs s ok in
      let after = (pushes_places s jobs).next in
      let all = later (pushes_places s jobs) (λ (a : ShardState). option_map_or (pushes_flush a) a.flush (stays a))
      (some_or_none Own (pushes_flush after) after.flush (stays after) (λ job is. flush_pushed after first.next job) (λ none. record { next = first.next })) in
      all.next

closes : (body : Body) → is_open (closed body) ≡ false
closes Elsewhere = refl
closes (Kept bytes) = refl
closes Noop = refl
closes Open = refl
closes Gone = refl

none_open : (cells : List Cell) → list_any (λ (cell : Cell). is_open cell.body) (map closed_cell cells) ≡ false
none_open [] = refl
none_open (cell ∷ cells) = rw (closes cell.body) (none_open cells)

pub noops_closed : (store : Store) → has_open (open_to_noop store) ≡ false
noops_closed store = none_open store.order
