-- The sizes of what a primary has and sends as batches reach its backups.
use Rattle.world_facts.specs.Sizes.{Sized, IsCell, CopySays}
use Rattle.lazy_msgs.specs.declared.msg.Msg.TheVariants.{Placed, Copy, FlushCopy, Flushed}
use Rattle.lazy_msgs.specs.declared.limits.TheConstants.{BATCH_LIMIT, PENDING_LIMIT}
use Rattle.rec_id.specs.declared.item.Cell.{Cell}
use Rattle.view_config.specs.Shape.{Dimensions}
use Rattle.list_facts.specs.Lists.{Each}
use Rattle.lazy_rules.specs.ShardState.{FlushJob, PlaceJob, ShardState}
use Rattle.world_facts.specs.SizesOf.{IsFlush, IsFlushIn, IsJob, ShardSized}
use Rattle.world_facts.proofs.Claims.{Keeps}
use Rattle.lazy_msgs.specs.declared.msg.Msg.{Msg}
use Rattle.lazy_msgs.specs.Step.{Row}
use Rattle.world_facts.proofs.sizes.Store.{any_dropped, closed_cells}
use Rattle.world_facts.proofs.sizes.Flight.{each_drop}
use Rattle.world_facts.proofs.goes.Sends.{each_filter}
use Rattle.world_facts.proofs.goes.WithoutNamed.{each_take}
use Rattle.lazy_rules.specs.Pushing.{flush_ends, is_settled, length_of, places_end, pushes_above, pushes_flush, pushes_place, pushes_places, lagging, settles}
use Rattle.lazy_rules.specs.Store.{has_open, has_open_below, is_open}
use Rattle.world_facts.proofs.Rows.{keeps_followed}
use Rattle.std.proofs.lemmas.List.{length-drop, length-take, drop-take}
use Rattle.std.specs.List.{list_any}
use Rattle.std.specs.Prelude.{nat_lt, slice_range, filter}
use Rattle.std.specs.Option.{option_map_or}
use Rattle.lazy_rules.specs.Rows.{sends_all, to_each, followed, stays, answers}
use Rattle.list_facts.proofs.Cases.{some_or_none, either}
use Rattle.world_facts.proofs.sizes.Sends.{to_all}
use Rattle.std.proofs.Common.{ap, arith, drop, length, subst, sym, take, ◌≡◌, ◌+◌, ◌∷◌, ◌-◌, ◌∙◌, [], false, None, Some, ℕ, List, Bool}

-- a replica whose order has so many cells
pub record Pushed (shape : Dimensions) (cells : ℕ) (s : ShardState) : Type 0 where
  pub sized : ShardSized shape s
  pub same : length s.store.order ≡ cells

module _ (shape : Dimensions) (cells : ℕ) where
  abbrev pub SizedPush : Row ShardState → Type 0
  SizedPush = Keeps (Pushed shape cells) (λ (to : ℕ) (msg : Msg). Sized shape msg)

  pub push_stays : (s : ShardState) → Pushed shape cells s → SizedPush (stays s)
  push_stays s own = record { next = own; sends = tt }

  push_followed : (first : Row ShardState) (more : ShardState → Row ShardState) → SizedPush first → SizedPush (more first.next) → SizedPush (followed first more)
  push_followed first more h k = keeps_followed (Pushed shape cells) (λ (to : ℕ) (msg : Msg). Sized shape msg) first more h k

  places_end_sized : (jobs : List PlaceJob) → Each (IsJob cells) jobs → (s : ShardState) → Pushed shape cells s → SizedPush (places_end s jobs)
  places_end_sized [] h s own = push_stays s own
  places_end_sized (job ∷ jobs) h s own =
      let same = own.same in
      let long = own.sized.store.long in
      let within = h.0.within in
      let left : Each (IsJob (length s.store.order)) jobs = subst (λ (n : ℕ). Each (IsJob n) jobs) (sym same) h.1 in
      let first : SizedPush (answers (record s { jobs = jobs }) job.asker (Placed s.view job.end)) = record {
        next = record { sized = record { view = own.sized.view; store = own.sized.store; jobs = left; flush = own.sized.flush }; same = same };
        sends = ((own.sized.view, omega arith), tt);
      } in
      either SizedPush (is_settled s job.end)
      (followed (answers (record s { jobs = jobs }) job.asker (Placed s.view job.end)) (λ (after : ShardState). places_end after jobs)) (stays s)
      (λ k. push_followed (answers (record s { jobs = jobs }) job.asker (Placed s.view job.end)) (λ (after : ShardState). places_end after jobs) first (places_end_sized jobs h.1 (record s { jobs = jobs }) first.next))
      (λ k. push_stays s own)

  flush_ends_sized : (s : ShardState) → Pushed shape cells s → (job : FlushJob) → SizedPush (flush_ends s job)
  flush_ends_sized s own job =
      either SizedPush (is_settled s (length_of s)) (answers (record s { flush = None }) job.asker (Flushed s.view)) (stays s)
      (λ h. record {
        next = record { sized = record { view = own.sized.view; store = own.sized.store; jobs = own.sized.jobs; flush = tt }; same = own.same };
        sends = (own.sized.view, tt);
      })
      (λ h. push_stays s own)

  flush_ends_if : (s : ShardState) → Pushed shape cells s → SizedPush (option_map_or (flush_ends s) s.flush (stays s))
  flush_ends_if s own = some_or_none SizedPush (flush_ends s) s.flush (stays s) (λ job is. flush_ends_sized s own job) (λ none. push_stays s own)

  pub settles_sized : (s : ShardState) → Pushed shape cells s → SizedPush (settles s)
  settles_sized s own =
      let first = places_end_sized s.jobs (subst (λ (n : ℕ). Each (IsJob n) s.jobs) own.same own.sized.jobs) s own in
      push_followed (places_end s s.jobs) (λ (after : ShardState). option_map_or (flush_ends after) after.flush (stays after)) first (flush_ends_if (places_end s s.jobs).next first.next)

  copy_says : (s : ShardState) → Pushed shape cells s → (job : PlaceJob) → IsJob cells job → has_open_below s.store job.end ≡ false → CopySays shape BATCH_LIMIT job.from (slice_range s.store.order job.from job.end)
  copy_says s own job h none =
      let same = own.same in
      let long = own.sized.store.long in
      let least = h.least in
      let most = h.most in
      let within = h.within in
      let left = length-drop job.from s.store.order in
      let count = length-take (job.end - job.from) (drop job.from s.store.order) in
      let whole : job.from + (job.end - job.from) ≡ job.end = omega arith in
      let test : List Cell → Bool = list_any (λ (cell : Cell). is_open cell.body) in
      let front : list_any (λ (cell : Cell). is_open cell.body) (take (job.from + (job.end - job.from)) s.store.order) ≡ false = ap (λ (n : ℕ). list_any (λ (cell : Cell). is_open cell.body) (take n s.store.order)) whole ∙ none in
      let closed : list_any (λ (cell : Cell). is_open cell.body) (take (job.end - job.from) (drop job.from s.store.order)) ≡ false =
      ap (list_any (λ (cell : Cell). is_open cell.body)) (sym (drop-take job.from (job.end - job.from) s.store.order)) ∙ any_dropped (λ (cell : Cell). is_open cell.body) job.from (take (job.from + (job.end - job.from)) s.store.order) front in
      record {
        stretch = record { few = omega arith; end = omega arith };
        each = closed_cells shape (take (job.end - job.from) (drop job.from s.store.order))
            (each_take (IsCell shape) (job.end - job.from) (drop job.from s.store.order) (each_drop (IsCell shape) job.from s.store.order own.sized.store.order)) closed;
      }

  pub pushes_place_sized : (s : ShardState) → Pushed shape cells s → (job : PlaceJob) → IsJob cells job → SizedPush (pushes_place s job)
  pushes_place_sized s own job h =
      let copy = Copy s.view job.from (slice_range s.store.order job.from job.end) in
      either SizedPush (has_open_below s.store job.end) (stays s) (followed (sends_all s (to_each (lagging s job.end) copy)) settles)
      (λ k. push_stays s own)
      (λ k. push_followed (sends_all s (to_each (lagging s job.end) copy)) settles
      (record { next = own; sends = to_all shape (lagging s job.end) copy (own.sized.view, copy_says s own job h k) })
      (settles_sized s own))

  flush_copy_says : (s : ShardState) → Pushed shape cells s → (job : FlushJob) → IsFlush s.primary (length s.store.order) job → has_open s.store ≡ false → CopySays shape PENDING_LIMIT job.from (drop job.from s.store.order)
  flush_copy_says s own job h none =
      let long = own.sized.store.long in
      let from = h.from in
      let few = h.few in
      let left = length-drop job.from s.store.order in
      record {
        stretch = record { few = omega arith; end = omega arith };
        each = closed_cells shape (drop job.from s.store.order) (each_drop (IsCell shape) job.from s.store.order own.sized.store.order) (any_dropped (λ (cell : Cell). is_open cell.body) job.from s.store.order none);
      }

  pub pushes_flush_sized : (s : ShardState) → Pushed shape cells s → (job : FlushJob) → IsFlush s.primary (length s.store.order) job → SizedPush (pushes_flush s job)
  pushes_flush_sized s own job h =
      let copy = FlushCopy s.view job.from (drop job.from s.store.order) in
      either SizedPush (has_open s.store) (stays s) (followed (sends_all s (to_each (lagging s (length_of s)) copy)) settles)
      (λ k. push_stays s own)
      (λ k. push_followed (sends_all s (to_each (lagging s (length_of s)) copy)) settles
      (record { next = own; sends = to_all shape (lagging s (length_of s)) copy (own.sized.view, flush_copy_says s own job h k) })
      (settles_sized s own))

  pushes_places_sized : (jobs : List PlaceJob) → Each (IsJob cells) jobs → (s : ShardState) → Pushed shape cells s → SizedPush (pushes_places s jobs)
  pushes_places_sized [] h s own = push_stays s own
  pushes_places_sized (job ∷ jobs) h s own =
      let first = pushes_place_sized s own job h.0 in
      push_followed (pushes_place s job) (λ (after : ShardState). pushes_places after jobs) first (pushes_places_sized jobs h.1 (pushes_place s job).next first.next)

  pub flush_here : (s : ShardState) → ShardSized shape s → (job : FlushJob) → s.flush ≡ Some job → IsFlush s.primary (length s.store.order) job
  flush_here s own job is = let h : IsFlushIn s.primary (length s.store.order) (Some job) = subst (IsFlushIn s.primary (length s.store.order)) is own.flush in h

  pushes_flush_if : (s : ShardState) → Pushed shape cells s → SizedPush (option_map_or (pushes_flush s) s.flush (stays s))
  pushes_flush_if s own = some_or_none SizedPush (pushes_flush s) s.flush (stays s) (λ job is. pushes_flush_sized s own job (flush_here s own.sized job is)) (λ none. push_stays s own)

  pub pushes_above_sized : (s : ShardState) → Pushed shape cells s → (place : ℕ) → SizedPush (pushes_above s place)
  pushes_above_sized s own place =
      let jobs = filter (λ (job : PlaceJob). nat_lt place job.end) s.jobs in
      let first = pushes_places_sized jobs (each_filter (IsJob cells) (λ (job : PlaceJob). nat_lt place job.end) s.jobs (subst (λ (n : ℕ). Each (IsJob n) s.jobs) own.same own.sized.jobs)) s own in
      push_followed (pushes_places s jobs) (λ (after : ShardState). option_map_or (pushes_flush after) after.flush (stays after)) first (pushes_flush_if (pushes_places s jobs).next first.next)
