-- Place at a replica: a primary extends its order by the next batch and pushes it; what it is placing it pushes again, and
-- what it has placed it answers again.
use Rattle.std.proofs.Common.{◌≡◌, ◌≢◌, ℕ, ◌+◌, ◌≤◌, List, [], ◌∷◌, ◌++◌, cond, length, Bool, true, false, not, Option, Some, None, inl, inr, refl, sym, ap, ◌∙◌, subst, arith}
use Rattle.std.specs.Prelude.{option_map, find, nat_le, nat_lt, ◌&&◌, ◌==◌, if◌then◌else◌}
use Rattle.std.specs.Option.{is_some, option_map_or}
use Rattle.std.proofs.lemmas.Bool.{and_parts, eqb-true, leb-true, not-false}
use Rattle.list_facts.specs.Lists.{Each, In}
use Rattle.list_facts.proofs.Cases.{either, some_or_none}
use Rattle.list_facts.proofs.Members.{each_append, in_last}
use Rattle.rec_id.specs.declared.item.Body.{Body}
use Rattle.rec_id.specs.declared.item.Body.TheVariants.{Elsewhere, Kept, Noop, Open, Gone}
use Rattle.rec_id.specs.declared.item.Cell.{Cell}
use Rattle.rec_id.specs.declared.item.Item.{Item}
use Rattle.view_config.specs.Shape.{Dimensions}
use Rattle.world_facts.specs.Members.{IsSeqNode, IsShardNode}
use Rattle.lazy_msgs.specs.declared.msg.Msg.TheVariants.{Place, Placed}
use Rattle.lazy_rules.specs.Ids.{ids_of}
use Rattle.lazy_rules.specs.Pushing.{length_of, pushes_place}
use Rattle.lazy_rules.specs.Rows.{answers, stays}
use Rattle.lazy_rules.specs.ShardRules.{answers_placed, first_unplaced, has_places, is_primary, new_job, on_place, places, takes_place, was_placed, with_placed}
use Rattle.lazy_rules.specs.ShardState.{FlushJob, PlaceJob, ShardState}
use Rattle.lazy_rules.specs.Store.{Store, held_bytes}
use Rattle.lazy_rules.specs.declared.limits.TheConstants.{JOBS_LIMIT}
use Rattle.log_facts.specs.Ghosts.{Ghost, IsStarted}
use Rattle.log_facts.specs.Good.{GoodShard, Heard, Moment}
use Rattle.log_facts.specs.Handed.{EachFrom, ItemGiven}
use Rattle.log_facts.specs.Parts.{Parts, ShardFormed, home_of}
use Rattle.log_facts.specs.Says.{PlaceSays}
use Rattle.log_facts.specs.Signs.{IsPiece, NoneOpen, sign_of}
use Rattle.log_facts.specs.facts.OfShards.{FollowOn, IsNotedTo, JobFacts}
use Rattle.log_facts.proofs.Places.{each_from_at, each_from_weaker}
use Rattle.shard_rows.proofs.Adding.{AddedCell, Adds, adds_shows, grown, grown_long}
use Rattle.shard_rows.proofs.Becoming.{FreshCell, IsFresh, Takes, cells_for, cells_ids, cells_length, extend_is, fresh_cells, fresh_lacks}
use Rattle.shard_rows.proofs.Bookkeeping.{sends_good, stays_good}
use Rattle.shard_rows.proofs.Continued.{whole_same}
use Rattle.shard_rows.proofs.Extending.{extend_order}
use Rattle.shard_rows.proofs.Joining.{followed_good, part_good}
use Rattle.shard_rows.proofs.PlacedAgain.{all_placed}
use Rattle.shard_rows.proofs.Pushing.{job_pushable, pushes_place_part}
use Rattle.shard_rows.proofs.Standing.{jobs, store, there, unplaced_within}
use Rattle.shard_rows.proofs.Stepping.{shows_good}

find_in : {A : Type 0} (p : A → Bool) (xs : List A) (x : A) → find p xs ≡ Some x → In x xs
find_in p [] x h = cc
find_in p (z ∷ zs) x h = by (λ e. find_in p zs x e) (p z) h
  where
    by : (find p zs ≡ Some x → In x zs) → (b : Bool) → cond b (Some z) (find p zs) ≡ Some x → In x (z ∷ zs)
    by rest true e = inl (let is : Some z ≡ Some x = e in cc)
    by rest false e = inr (rest e)

-- one job more, behind the others
follow_more : (from mid end : ℕ) (before : List PlaceJob) (job : PlaceJob) → FollowOn from mid before → job.from ≡ mid → job.from ≤ job.end → job.end ≡ end → FollowOn from end (before ++ job ∷ [])
follow_more from mid end [] job h starts forward ends = (let is : from ≡ mid = h in omega arith, forward, ends)
follow_more from mid end (first ∷ before) job h starts forward ends = (h.0, h.1, follow_more first.end mid end before job h.2 starts forward ends)

none_flushing : (o : Option FlushJob) → not (is_some o) ≡ true → o ≡ None
none_flushing None h = refl
none_flushing (Some job) h = cc

pub fresh_here : (body : Body) → IsFresh body → body ≢ Gone
fresh_here Gone h e = h
fresh_here Elsewhere h e = cc
fresh_here (Kept bytes) h e = cc
fresh_here Noop h e = cc
fresh_here Open h e = cc

pub fresh_not_noop : (body : Body) → IsFresh body → body ≢ Noop
fresh_not_noop Noop h e = h
fresh_not_noop Elsewhere h e = cc
fresh_not_noop (Kept bytes) h e = cc
fresh_not_noop Open h e = cc
fresh_not_noop Gone h e = cc

module _ (shape : Dimensions) (g : Ghost) (a : Parts) (sender me : ℕ) (view from : ℕ) (items : List Item) (moment : Moment shape g a) (node : IsShardNode shape me) (heard : Heard shape g a sender me (Place view from items)) where
  abbrev s : ShardState
  s = a.shards me

  says : PlaceSays shape g.views g.log.line a.history me view from items
  says = heard.said

  some : 1 ≤ s.view
  some = there shape g a moment me node

  module _ (primary : s.primary ≡ true) (own : s.view ≡ view) where
    started : IsStarted g.views s.view
    started = subst (IsStarted g.views) (sym own) says.started

    -- ---- the next batch
    module _ (unasked : s.flush ≡ None) (next : from ≡ length_of s) where
      abbrev job : PlaceJob
      job = new_job s sender items

      abbrev placing : List PlaceJob
      placing = s.jobs ++ job ∷ []

      abbrev cells : List Cell
      cells = cells_for s.store items

      abbrev t : ShardState
      t = grown shape g a me moment node cells placing

      takes : Takes shape a.history (home_of me) s.store
      takes =
          let f = store shape g a moment me in
          record { mode = f.mode; shards = f.shards; shard_is = f.shard; held = (moment.agreed.bytes me).held }

      given : EachFrom (ItemGiven shape a.history (home_of me)) (length s.store.order) items
      given = subst (λ (n : ℕ). EachFrom (ItemGiven shape a.history (home_of me)) n items) next says.given

      fresh : EachFrom (FreshCell shape a.history (home_of me)) (length_of s) cells
      fresh = fresh_cells shape a.history (home_of me) items s.store takes given

      backup_never : {P : Type 0} → s.primary ≡ false → P
      backup_never backup = absurd (let wrong : true ≡ false = sym primary ∙ backup in let no : ⊥ = cc in no)

      count : length cells ≡ length items
      count = cells_length items s.store

      unplaced : (before : List PlaceJob) → first_unplaced t (before ++ job ∷ []) ≡ first_unplaced s before
      unplaced [] = refl
      unplaced (first ∷ before) = refl

      none_open : (upto : ℕ) → upto ≤ length_of s → NoneOpen s upto → NoneOpen t upto
      none_open upto le h place sign lt at = h place sign lt (sym (ap (option_map sign_of) (whole_same t.store.order s.store.order cells (extend_order cells s.store) place (omega arith))) ∙ at)

      jobs_after : JobFacts g.views t
      jobs_after =
          let f : JobFacts g.views s = jobs shape g a moment me some in
          let within = unplaced_within shape g a moment me some in
          let long = grown_long shape g a me moment node cells placing in
          record {
            flush = λ one is. absurd (let wrong : Some one ≡ None = sym is ∙ unasked in let no : ⊥ = cc in no);
            started = λ one i. started;
            follow = subst (λ (n : ℕ). FollowOn n (length_of t) placing) (sym (unplaced s.jobs)) (follow_more (first_unplaced s s.jobs) (length_of s) (length_of t) s.jobs job f.follow refl (omega arith) (omega (arith, count)));
            whole = λ none. subst (NoneOpen t) (sym (unplaced s.jobs)) (none_open (first_unplaced s s.jobs) within (f.whole unasked));
            noted = λ none. subst (λ (n : ℕ). Each (IsNotedTo s.view n) s.backups) (sym (unplaced s.jobs)) (f.noted unasked);
          }

      adds : Adds shape g a me moment node cells placing
      adds = record {
        started = started;
        each = each_from_weaker (FreshCell shape a.history (home_of me)) (AddedCell shape a.history (home_of me)) (λ place cell h. record { placed = h.placed; begun = h.begun; here = fresh_here cell.body h.fresh }) (length_of s) cells fresh;
        piece = λ now. subst (IsPiece g.log.line (length_of s)) (sym (cells_ids items s.store)) (subst (λ (n : ℕ). IsPiece g.log.line n (ids_of items)) next (says.piece (sym own ∙ now)));
        lacks = λ now cell i opened. ap (λ (x : Store). held_bytes x.held cell.id) (sym (extend_is items s.store)) ∙ fresh_lacks shape a.history (home_of me) items s.store takes given cell i opened;
        voids = λ now k cell e noop. absurd (fresh_not_noop cell.body (each_from_at (FreshCell shape a.history (home_of me)) (length_of s) cells fresh k cell e).fresh noop);
        decided = λ backup. backup_never backup;
        copied = λ e home same backup first. backup_never backup;
        idle = λ backup. backup_never backup;
        jobs = jobs_after;
        unplaced = let same = unplaced s.jobs in omega arith;
      }

      grown_good : GoodShard shape g a me (stays t)
      grown_good = shows_good shape g a me moment g.log.given t (adds_shows shape g a me moment node cells placing adds) [] tt

      placed_good : GoodShard shape g a me (stays (with_placed s sender items))
      placed_good = subst (λ (x : Store). GoodShard shape g a me (stays (record s { store = x; jobs = placing }))) (sym (extend_is items s.store)) grown_good

      formed : ShardFormed shape me (with_placed s sender items)
      formed =
          let f = moment.formed.shards me in
          record {
            shaped = f.shaped;
            numbered = f.numbered;
            backups = f.backups;
            jobs = each_append (λ (one : PlaceJob). IsSeqNode shape one.asker) s.jobs (job ∷ []) f.jobs (heard.goes.0, tt);
            flush = f.flush;
          }

      next_good : GoodShard shape g a me (places s sender items)
      next_good = either (GoodShard shape g a me) (has_places (length_of s) (length items)) (pushes_place (with_placed s sender items) job) (stays s)
          (λ e. followed_good shape g a me moment (stays (with_placed s sender items)) placed_good formed (λ after. pushes_place after job)
          (λ h b begins is. part_good shape h b me (pushes_place (b.shards me) job)
          (pushes_place_part shape me node h b begins job (job_pushable shape h b me begins node job (subst (λ (x : ShardState). In job x.jobs) (sym is) (in_last job s.jobs))))))
          (λ e. stays_good shape g a me moment)

    -- ---- a batch that it is placing, and one that it has placed
    again_good : (job : PlaceJob) → In job s.jobs → GoodShard shape g a me (pushes_place s job)
    again_good job i = part_good shape g a me (pushes_place s job) (pushes_place_part shape me node g a moment job (job_pushable shape g a me moment node job i))

    answered_good : (upto : ℕ) → GoodShard shape g a me (answers_placed s sender upto)
    answered_good upto = either (GoodShard shape g a me) (was_placed s upto) (answers s sender (Placed s.view upto)) (stays s)
        (λ e.
        let parts = and_parts (not (is_some s.flush)) (nat_le upto (first_unplaced s s.jobs)) e in
        sends_good shape g a me moment ((sender, Placed s.view upto) ∷ [])
        (record { started = started; settled = all_placed shape g a me moment node primary (none_flushing s.flush parts.0) upto (leb-true upto (first_unplaced s s.jobs) parts.1) }, tt))
        (λ e. stays_good shape g a me moment)

    primary_good : GoodShard shape g a me (if takes_place s from then places s sender items else option_map_or (pushes_place s) (find (λ job. job.from == from) s.jobs) (answers_placed s sender (from + length items)))
    primary_good = either (GoodShard shape g a me) (takes_place s from) (places s sender items) (option_map_or (pushes_place s) (find (λ job. job.from == from) s.jobs) (answers_placed s sender (from + length items)))
        (λ e.
        let both = and_parts (not (is_some s.flush) && nat_lt (length s.jobs) JOBS_LIMIT) (from == length_of s) e in
        let first = and_parts (not (is_some s.flush)) (nat_lt (length s.jobs) JOBS_LIMIT) both.0 in
        next_good (none_flushing s.flush first.0) (eqb-true from (length_of s) both.1))
        (λ e. some_or_none (GoodShard shape g a me) (pushes_place s) (find (λ job. job.from == from) s.jobs) (answers_placed s sender (from + length items))
        (λ job is. again_good job (find_in (λ (one : PlaceJob). one.from == from) s.jobs job is))
        (λ none. answered_good (from + length items)))

  pub place_good : GoodShard shape g a me (on_place s sender view from items)
  place_good = either (GoodShard shape g a me) (not (is_primary s view)) (stays s) (if takes_place s from then places s sender items else option_map_or (pushes_place s) (find (λ job. job.from == from) s.jobs) (answers_placed s sender (from + length items)))
      (λ e. stays_good shape g a me moment)
      (λ e. let parts = and_parts s.primary (s.view == view) (not-false (is_primary s view) e) in primary_good parts.0 (eqb-true s.view view parts.1))
