-- SETTLE: what a primary is at ends where all of its shard have it.
use Rattle.std.proofs.Common.{◌≡◌, ℕ, ◌≤◌, List, [], ◌∷◌, Option, Some, None, inl, inr, refl, sym, ◌∙◌, ap, subst, arith, Bool, true, false, not}
use Rattle.std.specs.List.{list_all}
use Rattle.std.specs.Option.{option_map_or}
use Rattle.std.proofs.lemmas.Bool.{and_parts, not-true}
use Rattle.list_facts.specs.Lists.{Each, In, put}
use Rattle.list_facts.proofs.Cases.{either, some_or_none}
use Rattle.list_facts.proofs.Puts.{put_own}
use Rattle.view_config.specs.Shape.{Dimensions}
use Rattle.lazy_msgs.specs.declared.msg.Msg.TheVariants.{Flushed, Placed}
use Rattle.lazy_rules.specs.Pushing.{flush_ends, is_settled, length_of, places_end, reaches, settles}
use Rattle.lazy_rules.specs.Rows.{answers, followed, stays}
use Rattle.lazy_rules.specs.ShardRules.{first_unplaced}
use Rattle.lazy_rules.specs.ShardState.{FlushJob, PlaceJob, ShardState}
use Rattle.lazy_rules.specs.Store.{has_open_below}
use Rattle.world_facts.specs.Members.{IsSeqNode, IsShardNode}
use Rattle.log_facts.specs.Finality.{AllSettledIn, HasSettled}
use Rattle.log_facts.specs.Ghosts.{Ghost}
use Rattle.log_facts.specs.Good.{Moment}
use Rattle.log_facts.specs.Parts.{Parts, ShardFormed, home_of}
use Rattle.log_facts.specs.Says.{FlushedSays, PlacedSays}
use Rattle.log_facts.specs.Signs.{NoneOpen}
use Rattle.log_facts.specs.facts.OfShards.{FlushJobFacts, FollowOn, IsNotedTo, JobFacts, RankFacts}
use Rattle.shard_rows.proofs.Backups.{all_settled, reaches_noted}
use Rattle.shard_rows.proofs.Bookkeeping.{Books, books_part, stays_part, with_books}
use Rattle.shard_rows.proofs.Joining.{Part, followed_part}
use Rattle.shard_rows.proofs.Placing.{follow_within, none_open_below, unplaced_follow}

module _ (shape : Dimensions) (g : Ghost) (a : Parts) (me : ℕ) (moment : Moment shape g a) (node : IsShardNode shape me) where
  abbrev s : ShardState
  s = a.shards me

  pub there : 1 ≤ s.view
  there = moment.agreed.places.among.there me node

  rank : RankFacts g.views me s
  rank = moment.agreed.shards.ranks me there

  facts : JobFacts g.views s
  facts = moment.agreed.shards.jobs me there

  pub busy_primary : (job : PlaceJob) (jobs : List PlaceJob) → s.jobs ≡ job ∷ jobs → s.primary ≡ true
  busy_primary job jobs is = by s.primary refl
    where
      by : (b : Bool) → s.primary ≡ b → s.primary ≡ true
      by true e = e
      by false e = let wrong : job ∷ jobs ≡ [] = sym is ∙ rank.idle e in absurd (let no : ⊥ = cc in no)

  pub flushing_primary : (job : FlushJob) → s.flush ≡ Some job → s.primary ≡ true
  flushing_primary job is = by s.primary refl
    where
      by : (b : Bool) → s.primary ≡ b → s.primary ≡ true
      by true e = e
      by false e = let wrong : Some job ≡ None = sym is ∙ rank.unasked e in absurd (let no : ⊥ = cc in no)

  -- ---- a Place job
  module _ (job : PlaceJob) (jobs : List PlaceJob) (is : s.jobs ≡ job ∷ jobs) where
    unflushing : s.flush ≡ None
    unflushing = by s.flush refl
      where
        by : (o : Option FlushJob) → s.flush ≡ o → s.flush ≡ None
        by None e = e
        by (Some flush) e = let wrong : job ∷ jobs ≡ [] = sym is ∙ (facts.flush flush e).alone in absurd (let no : ⊥ = cc in no)

    abbrev left : ShardState
    left = with_books shape g a me moment s.backups jobs s.flush

    follow : FollowOn job.from (length_of s) (job ∷ jobs)
    follow =
        let h : FollowOn (first_unplaced s (job ∷ jobs)) (length_of s) (job ∷ jobs) = subst (λ (js : List PlaceJob). FollowOn (first_unplaced s js) (length_of s) js) is facts.follow in
        h

    unplaced_left : first_unplaced left jobs ≡ job.end
    unplaced_left = unplaced_follow left job.end jobs follow.2

    unplaced_before : first_unplaced s s.jobs ≡ job.from
    unplaced_before = ap (first_unplaced s) is

    module _ (open_below : has_open_below s.store job.end ≡ false) (all : list_all (reaches job.end) s.backups ≡ true) where
      left_facts : JobFacts g.views left
      left_facts = record {
        flush = λ flush e. let wrong : Some flush ≡ None = sym e ∙ unflushing in absurd (let no : ⊥ = cc in no);
        started = λ other i. facts.started other (subst (λ (js : List PlaceJob). In other js) (sym is) (inr i));
        follow = subst (λ (n : ℕ). FollowOn n (length_of s) jobs) (sym unplaced_left) follow.2;
        whole = λ none. subst (NoneOpen s) (sym unplaced_left) (none_open_below s job.end open_below);
        noted = λ none. subst (λ (n : ℕ). Each (IsNotedTo s.view n) s.backups) (sym unplaced_left) (reaches_noted s.view job.end s.backups all);
      }

      left_books : Books shape g a me moment s.backups jobs s.flush
      left_books = record {
        nodes = refl;
        noted = moment.agreed.places.among.noted me;
        alone = λ some. rank.alone;
        idle = λ some backup. let wrong : true ≡ false = sym (busy_primary job jobs is) ∙ backup in absurd (let no : ⊥ = cc in no);
        unasked = λ some. rank.unasked;
        facts = λ some. left_facts;
        placed = let before = unplaced_before in let later : first_unplaced s jobs ≡ job.end = unplaced_follow s job.end jobs follow.2 in let forward : job.from ≤ job.end = follow.1 in omega arith;
        flushed = λ none. none;
      }

      left_settled : HasSettled left job.end
      left_settled = record {
        has = follow_end;
        whole = none_open_below s job.end open_below;
        placed = let same = unplaced_left in omega arith;
      }
        where
          follow_end : job.end ≤ length_of s
          follow_end = follow_within job.end (length_of s) jobs follow.2

      placed_says : PlacedSays g.views (put a.shards me left) me s.view job.end
      placed_says = record {
        started = facts.started job (subst (λ (js : List PlaceJob). In job js) (sym is) (inl refl));
        settled = all_settled shape g a me moment there job.end (busy_primary job jobs is) all left refl left_settled;
      }

      pub place_ended : Part shape g a me (answers (record s { jobs = jobs }) job.asker (Placed s.view job.end))
      place_ended = books_part shape g a me moment s.backups jobs s.flush left_books formed_left ((job.asker, Placed s.view job.end) ∷ []) (placed_says, tt)
        where
          formed_left : ShardFormed shape me left
          formed_left =
              let f = moment.formed.shards me in
              let asked : Each (λ (other : PlaceJob). IsSeqNode shape other.asker) (job ∷ jobs) = subst (Each (λ (other : PlaceJob). IsSeqNode shape other.asker)) is f.jobs in
              record { shaped = f.shaped; numbered = f.numbered; backups = f.backups; jobs = asked.1; flush = f.flush }

  -- ---- a Flush job
  module _ (job : FlushJob) (is : s.flush ≡ Some job) where
    flushing : FlushJobFacts g.views s job
    flushing = facts.flush job is

    abbrev done : ShardState
    done = with_books shape g a me moment s.backups s.jobs None

    unplaced_all : first_unplaced s s.jobs ≡ length_of s
    unplaced_all = ap (first_unplaced s) flushing.alone

    unplaced_done : first_unplaced done s.jobs ≡ length_of s
    unplaced_done = ap (first_unplaced done) flushing.alone

    module _ (open_below : has_open_below s.store (length_of s) ≡ false) (all : list_all (reaches (length_of s)) s.backups ≡ true) where
      done_facts : JobFacts g.views done
      done_facts = record {
        flush = λ flush e. cc;
        started = facts.started;
        follow = subst (λ (n : ℕ). FollowOn n (length_of s) s.jobs) (unplaced_all ∙ sym unplaced_done) facts.follow;
        whole = λ none. subst (NoneOpen s) (sym unplaced_done) (none_open_below s (length_of s) open_below);
        noted = λ none. subst (λ (n : ℕ). Each (IsNotedTo s.view n) s.backups) (sym unplaced_done) (reaches_noted s.view (length_of s) s.backups all);
      }

      done_books : Books shape g a me moment s.backups s.jobs None
      done_books = record {
        nodes = refl;
        noted = moment.agreed.places.among.noted me;
        alone = λ some. rank.alone;
        idle = λ some. rank.idle;
        unasked = λ some backup. refl;
        facts = λ some. done_facts;
        placed = omega arith;
        flushed = λ none. refl;
      }

      done_settled : HasSettled done (length_of s)
      done_settled = record {
        has = omega arith;
        whole = none_open_below s (length_of s) open_below;
        placed = let same = unplaced_done in omega arith;
      }

      flushed_says : FlushedSays g.views (put a.shards me done) me s.view
      flushed_says =
          let whole : length_of s ≡ g.views.le flushing.before = flushing.whole in
          let own : put a.shards me done me ≡ done = put_own a.shards me done in
          record {
            before = flushing.before;
            some = flushing.some;
            is = flushing.is;
            known = rank.known;
            own = subst (λ (x : ShardState). s.view ≤ x.view) (sym own) (omega arith);
            settled = subst (λ (n : ℕ). AllSettledIn g.views (put a.shards me done) s.view (home_of me) n) whole
                (all_settled shape g a me moment there (length_of s) (flushing_primary job is) all done refl done_settled);
            ended = λ same. ap (λ (x : ShardState). x.flush) own;
          }

      pub flush_ended : Part shape g a me (answers (record s { flush = None }) job.asker (Flushed s.view))
      flush_ended = books_part shape g a me moment s.backups s.jobs None done_books formed_done ((job.asker, Flushed s.view) ∷ []) (flushed_says, tt)
        where
          formed_done : ShardFormed shape me done
          formed_done = let f = moment.formed.shards me in record { shaped = f.shaped; numbered = f.numbered; backups = f.backups; jobs = f.jobs; flush = tt }

-- what is settled has no open cell, and every backup has it
settled_parts : (s : ShardState) (upto : ℕ) → is_settled s upto ≡ true → (has_open_below s.store upto ≡ false) × (list_all (reaches upto) s.backups ≡ true)
settled_parts s upto h =
    let parts = and_parts (not (has_open_below s.store upto)) (list_all (reaches upto) s.backups) h in
    (not-true (has_open_below s.store upto) parts.0, parts.1)

module _ (shape : Dimensions) (me : ℕ) (node : IsShardNode shape me) where
  places_end_part : (jobs : List PlaceJob) (g : Ghost) (a : Parts) → Moment shape g a → (a.shards me).jobs ≡ jobs → Part shape g a me (places_end (a.shards me) jobs)
  places_end_part [] g a moment is = stays_part shape g a me moment
  places_end_part (job ∷ jobs) g a moment is =
      either (Part shape g a me) (is_settled (a.shards me) job.end)
      (followed (answers (record (a.shards me) { jobs = jobs }) job.asker (Placed (a.shards me).view job.end)) (λ after. places_end after jobs)) (stays (a.shards me))
      (λ e.
      let parts = settled_parts (a.shards me) job.end e in
      let first = place_ended shape g a me moment node job jobs is parts.0 parts.1 in
      followed_part shape g a me moment (answers (record (a.shards me) { jobs = jobs }) job.asker (Placed (a.shards me).view job.end)) first (λ after. places_end after jobs)
      (λ b begins own. places_end_part jobs g b begins (ap (λ (x : ShardState). x.jobs) own)))
      (λ e. stays_part shape g a me moment)

  flush_ends_part : (g : Ghost) (a : Parts) → Moment shape g a → (job : FlushJob) → (a.shards me).flush ≡ Some job → Part shape g a me (flush_ends (a.shards me) job)
  flush_ends_part g a moment job is =
      either (Part shape g a me) (is_settled (a.shards me) (length_of (a.shards me)))
      (answers (record (a.shards me) { flush = None }) job.asker (Flushed (a.shards me).view)) (stays (a.shards me))
      (λ e. let parts = settled_parts (a.shards me) (length_of (a.shards me)) e in flush_ended shape g a me moment node job is parts.0 parts.1)
      (λ e. stays_part shape g a me moment)

  -- SETTLE
  pub settles_part : (g : Ghost) (a : Parts) → Moment shape g a → Part shape g a me (settles (a.shards me))
  settles_part g a moment =
      followed_part shape g a me moment (places_end (a.shards me) (a.shards me).jobs) (places_end_part (a.shards me).jobs g a moment refl) (λ after. option_map_or (flush_ends after) after.flush (stays after))
      (λ b begins own. some_or_none (Part shape g b me) (flush_ends (b.shards me)) (b.shards me).flush (stays (b.shards me))
      (λ job is. flush_ends_part g b begins job is) (λ none. stays_part shape g b me begins))
