-- What a primary pushes leaves its store as it is, and is no claim.
use Rattle.std.proofs.Common.{ℕ, List, [], ◌∷◌, None}
use Rattle.std.specs.Prelude.{drop, nat_lt, slice_range}
use Rattle.std.specs.List.{filter}
use Rattle.std.specs.Option.{option_map_or}
use Rattle.list_facts.proofs.Cases.{either, some_or_none}
use Rattle.rec_id.specs.Identity.{Identity}
use Rattle.lazy_msgs.specs.declared.msg.Msg.{Msg}
use Rattle.lazy_msgs.specs.declared.msg.Msg.TheVariants.{Placed, Copy, FlushCopy, Flushed}
use Rattle.lazy_msgs.specs.Step.{Row}
use Rattle.lazy_rules.specs.Pushing.{flush_ends, is_settled, lagging, length_of, places_end, pushes_above, pushes_flush, pushes_place, pushes_places, settles}
use Rattle.lazy_rules.specs.Rows.{stays, answers, sends_all, followed, to_each}
use Rattle.lazy_rules.specs.ShardState.{FlushJob, PlaceJob, ShardState}
use Rattle.lazy_rules.specs.Store.{has_open, has_open_below}
use Rattle.world_facts.specs.Turns.{IsMail}
use Rattle.world_facts.proofs.Claims.{Keeps}
use Rattle.world_facts.proofs.Rows.{keeps_followed, sends_each}
use Rattle.world_facts.proofs.goes.Sends.{any}
use Rattle.diary_laws.proofs.shards.Stores.{Firm}

abbrev pub Mail : ℕ → Msg → Type 0
Mail to msg = IsMail msg

module _ (count : ℕ) (front : List Identity) where
  abbrev pub FirmShard : ShardState → Type 0
  FirmShard s = Firm count front s.store

  abbrev pub KeptFirm : Row ShardState → Type 0
  KeptFirm = Keeps FirmShard Mail

  pub firm_stays : (s : ShardState) → FirmShard s → KeptFirm (stays s)
  firm_stays s ok = record { next = ok; sends = tt }

  then_firm : (first : Row ShardState) (more : ShardState → Row ShardState) → KeptFirm first → KeptFirm (more first.next) → KeptFirm (followed first more)
  then_firm = keeps_followed FirmShard Mail

  places_end_firm : (jobs : List PlaceJob) (s : ShardState) → FirmShard s → KeptFirm (places_end s jobs)
  places_end_firm [] s ok = firm_stays s ok
  places_end_firm (job ∷ jobs) s ok =
      either KeptFirm (is_settled s job.end)
      (followed (answers (record s { jobs = jobs }) job.asker (Placed s.view job.end)) (λ (after : ShardState). places_end after jobs)) (stays s)
      (λ k. then_firm (answers (record s { jobs = jobs }) job.asker (Placed s.view job.end)) (λ (after : ShardState). places_end after jobs) (record { next = ok; sends = (tt, tt) }) (places_end_firm jobs (record s { jobs = jobs }) ok))
      (λ k. firm_stays s ok)

  flush_ends_firm : (s : ShardState) → FirmShard s → (job : FlushJob) → KeptFirm (flush_ends s job)
  flush_ends_firm s ok job =
      either KeptFirm (is_settled s (length_of s)) (answers (record s { flush = None }) job.asker (Flushed s.view)) (stays s)
      (λ h. record { next = ok; sends = (tt, tt) }) (λ h. firm_stays s ok)

  pub settles_firm : (s : ShardState) → FirmShard s → KeptFirm (settles s)
  settles_firm s ok =
      let first = places_end_firm s.jobs s ok in
      let after = (places_end s s.jobs).next in
      then_firm (places_end s s.jobs) (λ (a : ShardState). option_map_or (flush_ends a) a.flush (stays a)) first
      (some_or_none KeptFirm (flush_ends after) after.flush (stays after) (λ job is. flush_ends_firm after first.next job) (λ none. firm_stays after first.next))

  pub pushes_place_firm : (s : ShardState) → FirmShard s → (job : PlaceJob) → KeptFirm (pushes_place s job)
  pushes_place_firm s ok job =
      let msg = Copy s.view job.from (slice_range s.store.order job.from job.end) in
      either KeptFirm (has_open_below s.store job.end) (stays s) (followed (sends_all s (to_each (lagging s job.end) msg)) settles)
      (λ h. firm_stays s ok)
      (λ h. then_firm (sends_all s (to_each (lagging s job.end) msg)) settles (record { next = ok; sends = sends_each Mail (lagging s job.end) msg (any (lagging s job.end)) }) (settles_firm s ok))

  pub pushes_flush_firm : (s : ShardState) → FirmShard s → (job : FlushJob) → KeptFirm (pushes_flush s job)
  pushes_flush_firm s ok job =
      let msg = FlushCopy s.view job.from (drop job.from s.store.order) in
      either KeptFirm (has_open s.store) (stays s) (followed (sends_all s (to_each (lagging s (length_of s)) msg)) settles)
      (λ h. firm_stays s ok)
      (λ h. then_firm (sends_all s (to_each (lagging s (length_of s)) msg)) settles (record { next = ok; sends = sends_each Mail (lagging s (length_of s)) msg (any (lagging s (length_of s))) }) (settles_firm s ok))

  pushes_places_firm : (jobs : List PlaceJob) (s : ShardState) → FirmShard s → KeptFirm (pushes_places s jobs)
  pushes_places_firm [] s ok = firm_stays s ok
  pushes_places_firm (job ∷ jobs) s ok =
      let first = pushes_place_firm s ok job in
      then_firm (pushes_place s job) (λ (after : ShardState). pushes_places after jobs) first (pushes_places_firm jobs (pushes_place s job).next first.next)

  pub pushes_above_firm : (s : ShardState) → FirmShard s → (place : ℕ) → KeptFirm (pushes_above s place)
  pushes_above_firm s ok place =
      let jobs = filter (λ (job : PlaceJob). nat_lt place job.end) s.jobs in
      let first = pushes_places_firm jobs s ok in
      let after = (pushes_places s jobs).next in
      then_firm (pushes_places s jobs) (λ (a : ShardState). option_map_or (pushes_flush a) a.flush (stays a)) first
      (some_or_none KeptFirm (pushes_flush after) after.flush (stays after) (λ job is. pushes_flush_firm after first.next job) (λ none. firm_stays after first.next))
