-- PUSH: a batch or a flush goes to the backups that lack it.
use Rattle.std.proofs.Common.{◌≡◌, ℕ, ◌+◌, ◌≤◌, List, [], ◌∷◌, drop, take, Option, Some, None, refl, sym, ◌∙◌, ap, subst, arith, true, false}
use Rattle.std.specs.Prelude.{filter, nat_lt, option_map, slice_get, slice_range}
use Rattle.std.specs.Option.{option_map_or}
use Rattle.std.proofs.lemmas.List.{length-drop, length-map}
use Rattle.std.proofs.lemmas.Option.{slice_get-map, slice_get_within}
use Rattle.list_facts.specs.Lists.{Each, In, put}
use Rattle.list_facts.proofs.Cases.{either, some_or_none}
use Rattle.list_facts.proofs.Members.{each_map, each_weaker, in_each, in_filter}
use Rattle.list_facts.proofs.Places.{in_at}
use Rattle.list_facts.proofs.Puts.{put_own}
use Rattle.rec_id.specs.Identity.{Identity}
use Rattle.rec_id.specs.declared.item.Cell.{Cell}
use Rattle.view_config.specs.Shape.{Dimensions}
use Rattle.lazy_msgs.specs.declared.msg.Msg.{Msg}
use Rattle.lazy_msgs.specs.declared.msg.Msg.TheVariants.{Copy, FlushCopy}
use Rattle.lazy_rules.specs.Pushing.{lagging, length_of, pushes_above, pushes_flush, pushes_place, pushes_places, settles}
use Rattle.lazy_rules.specs.Rows.{followed, sends_all, stays, to_each}
use Rattle.lazy_rules.specs.ShardRules.{first_unplaced}
use Rattle.lazy_rules.specs.ShardState.{FlushJob, PlaceJob, ShardState}
use Rattle.lazy_rules.specs.Store.{Store, has_open, has_open_below, is_open}
use Rattle.lazy_rules.specs.WorldRules.{ids_in}
use Rattle.world_facts.specs.Members.{IsShardNode}
use Rattle.log_facts.specs.Ghosts.{Ghost, IsStarted, Views}
use Rattle.log_facts.specs.Good.{Moment}
use Rattle.log_facts.specs.Parts.{Parts, with_shard}
use Rattle.log_facts.specs.Said.{Said}
use Rattle.log_facts.specs.Says.{CopySays, FlushCopySays, IsFlush}
use Rattle.log_facts.specs.Signs.{ordered_at}
use Rattle.log_facts.specs.facts.OfShards.{FlushJobFacts}
use Rattle.log_facts.proofs.Places.{take_at}
use Rattle.shard_rows.proofs.Bookkeeping.{sends_part, stays_part}
use Rattle.shard_rows.proofs.Handing.{at_drop, at_range, hands, lagging_follows, stable_placed}
use Rattle.shard_rows.proofs.Joining.{Part, followed_part}
use Rattle.shard_rows.proofs.Placing.{job_within, none_pass}
use Rattle.shard_rows.proofs.Settling.{busy_primary, flushing_primary, settles_part, there}

-- a primary may push this batch, whether it is at it still or not
pub record IsPushable (v : Views) (s : ShardState) (job : PlaceJob) : Type 0 where
  pub started : IsStarted v s.view
  pub primary : s.primary ≡ true
  pub behind : s.store.stable ≤ job.from

pushable_after : (v : Views) (s t : ShardState) (job : PlaceJob) → t.view ≡ s.view → t.primary ≡ s.primary → t.store ≡ s.store → IsPushable v s job → IsPushable v t job
pushable_after v s t job view primary store h = record {
  started = subst (IsStarted v) (sym view) h.started;
  primary = primary ∙ h.primary;
  behind = subst (λ (x : Store). x.stable ≤ job.from) (sym store) h.behind;
}

module _ (shape : Dimensions) (g : Ghost) (a : Parts) (me : ℕ) (moment : Moment shape g a) (node : IsShardNode shape me) where
  abbrev s : ShardState
  s = a.shards me

  some : 1 ≤ s.view
  some = there shape g a me moment node

  -- the batches that it is at, it may push
  pub job_pushable : (job : PlaceJob) → In job s.jobs → IsPushable g.views s job
  job_pushable job i =
      let facts = moment.agreed.shards.jobs me some in
      let placed = stable_placed shape g a me moment some in
      let within = job_within (first_unplaced s s.jobs) (length_of s) s.jobs facts.follow job i in
      let first = within.0 in
      record {
        started = facts.started job i;
        primary = by s.jobs refl i;
        behind = omega arith;
      }
    where
      by : (jobs : List PlaceJob) → s.jobs ≡ jobs → In job jobs → s.primary ≡ true
      by [] is i = absurd i
      by (first ∷ jobs) is i = busy_primary shape g a me moment node first jobs is

  -- the same message to backups that lack something
  to_lagging : (upto : ℕ) (msg : Msg) → ((to : ℕ) → In to (lagging s upto) → Said shape g (with_shard a me s) me to msg) → Each (λ (send : ℕ × Msg). Said shape g (with_shard a me s) me send.0 send.1) (to_each (lagging s upto) msg)
  to_lagging upto msg said = each_map (λ (to : ℕ). (to, msg)) (λ (send : ℕ × Msg). Said shape g (with_shard a me s) me send.0 send.1) (lagging s upto)
      (in_each (λ (to : ℕ). Said shape g (with_shard a me s) me to msg) (lagging s upto) said)

  module _ (job : PlaceJob) (can : IsPushable g.views s job) (shut : has_open_below s.store job.end ≡ false) where
    abbrev cells : List Cell
    cells = slice_range s.store.order job.from job.end

    copy_says : (to : ℕ) → In to (lagging s job.end) → CopySays shape g.views a.history (put a.shards me s me) me to s.view job.from cells
    copy_says to i = subst (λ (x : ShardState). CopySays shape g.views a.history x me to s.view job.from cells) (sym (put_own a.shards me s)) (record {
      started = can.started;
      handed = hands shape g a me moment some can.primary job.from cells can.behind
          (λ k cell at. (at_range s.store.order job.from job.end k cell at).1)
          (λ k cell at.
          let inside = at_range s.store.order job.from job.end k cell at in
          none_pass (λ (c : Cell). is_open c.body) (take job.end s.store.order) shut cell (in_at (take job.end s.store.order) (job.from + k) cell (take_at job.end s.store.order (job.from + k) cell inside.0 inside.1)))
          to (lagging_follows shape g a me moment some job.end can.primary to i);
    })

    pub copies_part : Part shape g a me (sends_all s (to_each (lagging s job.end) (Copy s.view job.from cells)))
    copies_part = sends_part shape g a me moment (to_each (lagging s job.end) (Copy s.view job.from cells)) (to_lagging job.end (Copy s.view job.from cells) copy_says)

  module _ (job : FlushJob) (is : s.flush ≡ Some job) (shut : has_open s.store ≡ false) where
    flushing : FlushJobFacts g.views s job
    flushing = (moment.agreed.shards.jobs me some).flush job is

    abbrev flushed : List Cell
    flushed = drop job.from s.store.order

    flush_is : IsFlush g.views g.log.line s.view job.from (ids_in flushed)
    flush_is =
        let known = (moment.agreed.shards.ranks me some).known in
        let first = flushing.is in
        let from = flushing.from_is in
        let whole = flushing.whole in
        let ends = moment.agreed.views.bounds.ended flushing.before (omega arith) in
        let all = (moment.agreed.places.orders me some).flushed flushing.before flushing.some flushing.is in
        let count = length-map flushed (λ (cell : Cell). cell.id) in
        let left = length-drop job.from s.store.order in
        record {
          before = flushing.before;
          some = flushing.some;
          is = flushing.is;
          known = known;
          starts = flushing.from_is;
          ends = omega arith;
          piece = λ k id at.
              let one = mapped_at flushed k id at in
              let here = at_drop job.from s.store.order k one.0 one.1 in
              let inside = slice_get_within s.store.order (job.from + k) one.0 here in
              all.ordered (job.from + k) (omega arith) id (ordered_by one.0 (job.from + k) id here one.2);
        }
      where
        ordered_by : (cell : Cell) (place : ℕ) (id : Identity) → slice_get s.store.order place ≡ Some cell → cell.id ≡ id → ordered_at s place ≡ Some id
        ordered_by cell place id at named = ap (option_map (λ (c : Cell). c.id)) at ∙ ap Some named

        mapped_at : (those : List Cell) (k : ℕ) (id : Identity) → slice_get (ids_in those) k ≡ Some id → (cell : Cell) × (slice_get those k ≡ Some cell) × (cell.id ≡ id)
        mapped_at those k id at = by (slice_get those k) refl (sym (slice_get-map (λ (cell : Cell). cell.id) those k) ∙ at)
          where
            by : (o : Option Cell) → slice_get those k ≡ o → option_map (λ (cell : Cell). cell.id) o ≡ Some id → (cell : Cell) × (slice_get those k ≡ Some cell) × (cell.id ≡ id)
            by None e h = cc
            by (Some cell) e h = (cell, e, let both : Some cell.id ≡ Some id = h in cc)

    flush_copy_says : (to : ℕ) → In to (lagging s (length_of s)) → FlushCopySays shape g.views g.log.line a.history (put a.shards me s me) me to s.view job.from flushed
    flush_copy_says to i = subst (λ (x : ShardState). FlushCopySays shape g.views g.log.line a.history x me to s.view job.from flushed) (sym (put_own a.shards me s)) (record {
      flush = flush_is;
      handed = hands shape g a me moment some (flushing_primary shape g a me moment node job is) job.from flushed flushing.stable
          (λ k cell at. at_drop job.from s.store.order k cell at)
          (λ k cell at. none_pass (λ (c : Cell). is_open c.body) s.store.order shut cell (in_at s.store.order (job.from + k) cell (at_drop job.from s.store.order k cell at)))
          to (lagging_follows shape g a me moment some (length_of s) (flushing_primary shape g a me moment node job is) to i);
    })

    pub flush_copies_part : Part shape g a me (sends_all s (to_each (lagging s (length_of s)) (FlushCopy s.view job.from flushed)))
    flush_copies_part = sends_part shape g a me moment (to_each (lagging s (length_of s)) (FlushCopy s.view job.from flushed)) (to_lagging (length_of s) (FlushCopy s.view job.from flushed) flush_copy_says)

module _ (shape : Dimensions) (me : ℕ) (node : IsShardNode shape me) (g : Ghost) where
  -- PUSH of a Place job
  pub pushes_place_part : (a : Parts) → Moment shape g a → (job : PlaceJob) → IsPushable g.views (a.shards me) job → Part shape g a me (pushes_place (a.shards me) job)
  pushes_place_part a moment job can =
      let sends = to_each (lagging (a.shards me) job.end) (Copy (a.shards me).view job.from (slice_range (a.shards me).store.order job.from job.end)) in
      either (Part shape g a me) (has_open_below (a.shards me).store job.end) (stays (a.shards me)) (followed (sends_all (a.shards me) sends) settles)
      (λ e. stays_part shape g a me moment)
      (λ shut. followed_part shape g a me moment (sends_all (a.shards me) sends) (copies_part shape g a me moment node job can shut) settles (λ b begins own. settles_part shape me node g b begins))

  -- of several, one after the other
  pub pushes_places_part : (jobs : List PlaceJob) (a : Parts) → Moment shape g a → Each (IsPushable g.views (a.shards me)) jobs → Part shape g a me (pushes_places (a.shards me) jobs)
  pushes_places_part [] a moment can = stays_part shape g a me moment
  pushes_places_part (job ∷ jobs) a moment can =
      let first = pushes_place_part a moment job can.0 in
      followed_part shape g a me moment (pushes_place (a.shards me) job) first (λ after. pushes_places after jobs)
      (λ b begins own. pushes_places_part jobs b begins
      (each_weaker (IsPushable g.views (a.shards me)) (IsPushable g.views (b.shards me))
      (λ other. pushable_after g.views (a.shards me) (b.shards me) other (ap (λ (x : ShardState). x.view) own ∙ first.view) (ap (λ (x : ShardState). x.primary) own ∙ first.primary) (ap (λ (x : ShardState). x.store) own ∙ first.store)) jobs can.1))

  -- PUSH of a Flush job
  pub pushes_flush_part : (a : Parts) → Moment shape g a → (job : FlushJob) → (a.shards me).flush ≡ Some job → Part shape g a me (pushes_flush (a.shards me) job)
  pushes_flush_part a moment job is =
      let sends = to_each (lagging (a.shards me) (length_of (a.shards me))) (FlushCopy (a.shards me).view job.from (drop job.from (a.shards me).store.order)) in
      either (Part shape g a me) (has_open (a.shards me).store) (stays (a.shards me)) (followed (sends_all (a.shards me) sends) settles)
      (λ e. stays_part shape g a me moment)
      (λ shut. followed_part shape g a me moment (sends_all (a.shards me) sends) (flush_copies_part shape g a me moment node job is shut) settles (λ b begins own. settles_part shape me node g b begins))

  pub pushes_flush_if_part : (a : Parts) → Moment shape g a → Part shape g a me (option_map_or (pushes_flush (a.shards me)) (a.shards me).flush (stays (a.shards me)))
  pushes_flush_if_part a moment = some_or_none (Part shape g a me) (pushes_flush (a.shards me)) (a.shards me).flush (stays (a.shards me)) (λ job is. pushes_flush_part a moment job is) (λ none. stays_part shape g a me moment)

  -- PUSH of all that ends above a place
  pub pushes_above_part : (a : Parts) → Moment shape g a → (place : ℕ) → Part shape g a me (pushes_above (a.shards me) place)
  pushes_above_part a moment place =
      let jobs = filter (λ (job : PlaceJob). nat_lt place job.end) (a.shards me).jobs in
      let can : Each (IsPushable g.views (a.shards me)) jobs = in_each (IsPushable g.views (a.shards me)) jobs (λ job i. job_pushable shape g a me moment node job (in_filter (λ (other : PlaceJob). nat_lt place other.end) (a.shards me).jobs job i).0) in
      followed_part shape g a me moment (pushes_places (a.shards me) jobs) (pushes_places_part jobs a moment can) (λ after. option_map_or (pushes_flush after) after.flush (stays after))
      (λ b begins own. pushes_flush_if_part b begins)
