-- What a primary sends as batches reach its backups, and to whom.
use Rattle.std.proofs.Common.{◌≡◌, ℕ, ◌<◌, List, [], ◌∷◌, Some, None, refl, sym, ◌∙◌, subst}
use Rattle.std.specs.Prelude.{not, drop, nat_lt, slice_range}
use Rattle.std.specs.List.{filter}
use Rattle.std.specs.Option.{option_map_or}
use Rattle.list_facts.specs.Lists.{Each}
use Rattle.list_facts.proofs.Cases.{either, some_or_none}
use Rattle.list_facts.proofs.Members.{each_map, each_weaker}
use Rattle.view_config.specs.Nodes.{shard_id}
use Rattle.view_config.specs.Shape.{Dimensions}
use Rattle.view_config.specs.declared.nodes.TheConstants.{CONTROLLER}
use Rattle.lazy_msgs.specs.declared.msg.Msg.{Msg}
use Rattle.lazy_msgs.specs.declared.msg.Msg.TheVariants.{Placed, Copy, FlushCopy, Flushed}
use Rattle.lazy_msgs.specs.Step.{Row}
use Rattle.lazy_rules.specs.Pushing.{flush_ends, is_settled, lagging, length_of, places_end, pushes_above, pushes_flush, pushes_place, pushes_places, reaches, settles}
use Rattle.lazy_rules.specs.Rows.{stays, answers, sends_all, followed, to_each}
use Rattle.lazy_rules.specs.ShardState.{Backup, FlushJob, PlaceJob, ShardState}
use Rattle.lazy_rules.specs.Store.{has_open, has_open_below}
use Rattle.world_facts.specs.MembersOf.{FlushOf, ShardOf}
use Rattle.world_facts.specs.Members.{IsSeqNode, IsShardNode, Goes}
use Rattle.world_facts.proofs.Claims.{Keeps}
use Rattle.world_facts.proofs.Rows.{keeps_followed, sends_each}
use Rattle.world_facts.proofs.goes.Sends.{each_filter}

module _ (shape : Dimensions) (i j : ℕ) (few : i < shape.shards) (some : j < shape.copies) where
  pub own_shard : IsShardNode shape (shard_id i j)
  own_shard = record { shard = i; copy = j; row = few; column = some; is = refl }

  abbrev pub KeptShard : Row ShardState → Type 0
  KeptShard = Keeps (ShardOf shape i j) (Goes shape (shard_id i j))

  abbrev pub SentByShard : List (ℕ × Msg) → Type 0
  SentByShard sends = Each (λ (send : ℕ × Msg). Goes shape (shard_id i j) send.0 send.1) sends

  -- a replica that differs in its store alone
  pub shard_like : (s : ShardState) → ShardOf shape i j s → (row : Row ShardState) → row.next.shape ≡ s.shape → row.next.node ≡ s.node → row.next.backups ≡ s.backups → row.next.jobs ≡ s.jobs → row.next.flush ≡ s.flush → SentByShard row.sends → KeptShard row
  shard_like s ok row a b c d e sent = record {
    next = record {
      shaped = a ∙ ok.shaped;
      numbered = b ∙ ok.numbered;
      backups = subst (Each (λ (backup : Backup). IsShardNode shape backup.node)) (sym c) ok.backups;
      jobs = subst (Each (λ (job : PlaceJob). IsSeqNode shape job.asker)) (sym d) ok.jobs;
      flush = subst FlushOf (sym e) ok.flush;
    };
    sends = sent;
  }

  pub shard_stays : (s : ShardState) → ShardOf shape i j s → KeptShard (stays s)
  shard_stays s ok = record { next = ok; sends = tt }

  places_end_kept : (jobs : List PlaceJob) → Each (λ (job : PlaceJob). IsSeqNode shape job.asker) jobs → (s : ShardState) → ShardOf shape i j s → KeptShard (places_end s jobs)
  places_end_kept [] h s ok = shard_stays s ok
  places_end_kept (job ∷ jobs) h s ok =
      let first : KeptShard (answers (record s { jobs = jobs }) job.asker (Placed s.view job.end)) = record {
        next = record { shaped = ok.shaped; numbered = ok.numbered; backups = ok.backups; jobs = h.1; flush = ok.flush };
        sends = ((own_shard, h.0), tt);
      } in
      either KeptShard (is_settled s job.end)
      (followed (answers (record s { jobs = jobs }) job.asker (Placed s.view job.end)) (λ (after : ShardState). places_end after jobs)) (stays s)
      (λ k. keeps_followed (ShardOf shape i j) (Goes shape (shard_id i j)) (answers (record s { jobs = jobs }) job.asker (Placed s.view job.end)) (λ (after : ShardState). places_end after jobs) first (places_end_kept jobs h.1 (record s { jobs = jobs }) first.next))
      (λ k. shard_stays s ok)

  flush_ends_kept : (s : ShardState) → ShardOf shape i j s → (job : FlushJob) → job.asker ≡ CONTROLLER → KeptShard (flush_ends s job)
  flush_ends_kept s ok job asks =
      either KeptShard (is_settled s (length_of s)) (answers (record s { flush = None }) job.asker (Flushed s.view)) (stays s)
      (λ h. record {
        next = record { shaped = ok.shaped; numbered = ok.numbered; backups = ok.backups; jobs = ok.jobs; flush = tt };
        sends = ((own_shard, asks), tt);
      })
      (λ h. shard_stays s ok)

  flush_ends_if : (s : ShardState) → ShardOf shape i j s → KeptShard (option_map_or (flush_ends s) s.flush (stays s))
  flush_ends_if s ok =
      some_or_none KeptShard (flush_ends s) s.flush (stays s)
      (λ job is. flush_ends_kept s ok job (let asks : FlushOf (Some job) = subst FlushOf is ok.flush in asks))
      (λ none. shard_stays s ok)

  pub settles_kept : (s : ShardState) → ShardOf shape i j s → KeptShard (settles s)
  settles_kept s ok =
      let first = places_end_kept s.jobs ok.jobs s ok in
      keeps_followed (ShardOf shape i j) (Goes shape (shard_id i j)) (places_end s s.jobs) (λ (after : ShardState). option_map_or (flush_ends after) after.flush (stays after))
      first (flush_ends_if (places_end s s.jobs).next first.next)

  module _ (s : ShardState) (ok : ShardOf shape i j s) where
    lagging_nodes : (upto : ℕ) → Each (IsShardNode shape) (lagging s upto)
    lagging_nodes upto =
        each_map (λ (backup : Backup). backup.node) (IsShardNode shape) (filter (λ (backup : Backup). not (reaches upto backup)) s.backups)
        (each_filter (λ (backup : Backup). IsShardNode shape backup.node) (λ (backup : Backup). not (reaches upto backup)) s.backups ok.backups)

    copies_sent : (job : PlaceJob) → SentByShard (to_each (lagging s job.end) (Copy s.view job.from (slice_range s.store.order job.from job.end)))
    copies_sent job =
        sends_each (Goes shape (shard_id i j)) (lagging s job.end) (Copy s.view job.from (slice_range s.store.order job.from job.end))
        (each_weaker (IsShardNode shape) (λ (node : ℕ). Goes shape (shard_id i j) node (Copy s.view job.from (slice_range s.store.order job.from job.end))) (λ node m. (own_shard, m)) (lagging s job.end) (lagging_nodes job.end))

    flush_copies_sent : (job : FlushJob) → SentByShard (to_each (lagging s (length_of s)) (FlushCopy s.view job.from (drop job.from s.store.order)))
    flush_copies_sent job =
        sends_each (Goes shape (shard_id i j)) (lagging s (length_of s)) (FlushCopy s.view job.from (drop job.from s.store.order))
        (each_weaker (IsShardNode shape) (λ (node : ℕ). Goes shape (shard_id i j) node (FlushCopy s.view job.from (drop job.from s.store.order))) (λ node m. (own_shard, m)) (lagging s (length_of s)) (lagging_nodes (length_of s)))

    pub pushes_place_kept : (job : PlaceJob) → KeptShard (pushes_place s job)
    pushes_place_kept job =
        let sends = to_each (lagging s job.end) (Copy s.view job.from (slice_range s.store.order job.from job.end)) in
        either KeptShard (has_open_below s.store job.end) (stays s) (followed (sends_all s sends) settles)
        (λ h. shard_stays s ok)
        (λ h. keeps_followed (ShardOf shape i j) (Goes shape (shard_id i j)) (sends_all s sends) settles (record { next = ok; sends = copies_sent job }) (settles_kept s ok))

    pub pushes_flush_kept : (job : FlushJob) → KeptShard (pushes_flush s job)
    pushes_flush_kept job =
        let sends = to_each (lagging s (length_of s)) (FlushCopy s.view job.from (drop job.from s.store.order)) in
        either KeptShard (has_open s.store) (stays s) (followed (sends_all s sends) settles)
        (λ h. shard_stays s ok)
        (λ h. keeps_followed (ShardOf shape i j) (Goes shape (shard_id i j)) (sends_all s sends) settles (record { next = ok; sends = flush_copies_sent job }) (settles_kept s ok))

  pushes_places_kept : (jobs : List PlaceJob) (s : ShardState) → ShardOf shape i j s → KeptShard (pushes_places s jobs)
  pushes_places_kept [] s ok = shard_stays s ok
  pushes_places_kept (job ∷ jobs) s ok =
      let first = pushes_place_kept s ok job in
      keeps_followed (ShardOf shape i j) (Goes shape (shard_id i j)) (pushes_place s job) (λ (after : ShardState). pushes_places after jobs) first (pushes_places_kept jobs (pushes_place s job).next first.next)

  pushes_flush_if : (s : ShardState) → ShardOf shape i j s → KeptShard (option_map_or (pushes_flush s) s.flush (stays s))
  pushes_flush_if s ok = some_or_none KeptShard (pushes_flush s) s.flush (stays s) (λ job is. pushes_flush_kept s ok job) (λ none. shard_stays s ok)

  pub pushes_above_kept : (s : ShardState) → ShardOf shape i j s → (place : ℕ) → KeptShard (pushes_above s place)
  pushes_above_kept s ok place =
      let jobs = filter (λ (job : PlaceJob). nat_lt place job.end) s.jobs in
      let first = pushes_places_kept jobs s ok in
      keeps_followed (ShardOf shape i j) (Goes shape (shard_id i j)) (pushes_places s jobs) (λ (after : ShardState). option_map_or (pushes_flush after) after.flush (stays after))
      first (pushes_flush_if (pushes_places s jobs).next first.next)
