-- Flush at a replica: it takes the view as the primary with the flushed order and pushes it; what it is at it pushes again,
-- and what ended it answers again.
use Rattle.std.proofs.Common.{◌≡◌, ℕ, ◌+◌, ◌<◌, ◌≤◌, List, [], ◌∷◌, length, map, true, Some, None, refl, sym, ap, ◌∙◌, subst, arith}
use Rattle.std.specs.Prelude.{nat_le, nat_lt, ◌&&◌, ◌==◌, if◌then◌else◌}
use Rattle.std.proofs.lemmas.Bool.{and_parts, eqb-true, leb-true, ltb-true}
use Rattle.std.proofs.lemmas.List.{length-take-le}
use Rattle.list_facts.proofs.Cases.{either, some_or_none}
use Rattle.list_facts.proofs.Members.{each_map, in_each}
use Rattle.list_facts.proofs.Puts.{put_own}
use Rattle.rec_id.specs.declared.item.Cell.{Cell}
use Rattle.rec_id.specs.declared.item.Item.{Item}
use Rattle.view_config.specs.Shape.{Dimensions}
use Rattle.view_config.specs.declared.config.Config.{Config}
use Rattle.world_facts.specs.Members.{IsShardNode}
use Rattle.world_facts.proofs.goes.Sends.{homes_named}
use Rattle.world_facts.proofs.goes.Shard.{backups_named}
use Rattle.lazy_msgs.specs.declared.msg.Msg.TheVariants.{Flush, Flushed}
use Rattle.lazy_rules.specs.Pushing.{length_of, pushes_flush}
use Rattle.lazy_rules.specs.Roles.{is_first, others_of, replicas_at}
use Rattle.lazy_rules.specs.Rows.{answers, stays}
use Rattle.lazy_rules.specs.ShardRules.{can_cut, flushed, flushes_again, has_places, on_flush, takes_flush}
use Rattle.lazy_rules.specs.ShardState.{Backup, FlushJob, ShardState, backups_of, new_backup}
use Rattle.lazy_rules.specs.Store.{Store, cut, held_bytes}
use Rattle.log_facts.specs.Ghosts.{Ghost}
use Rattle.log_facts.specs.Good.{GoodShard, Heard, Moment}
use Rattle.log_facts.specs.Handed.{EachFrom, ItemGiven}
use Rattle.log_facts.specs.Parts.{Parts, ShardFormed, home_of, with_shard}
use Rattle.log_facts.specs.Says.{FlushSays, FlushedSays, IsFlush}
use Rattle.log_facts.specs.facts.OfShards.{BackupNoted}
use Rattle.log_facts.proofs.Places.{each_from_at, each_from_weaker}
use Rattle.shard_rows.proofs.Adding.{AddedCell}
use Rattle.shard_rows.proofs.Becoming.{FreshCell, Takes, cells_for, cells_ids, extend_is, fresh_cells, fresh_lacks}
use Rattle.shard_rows.proofs.Bookkeeping.{sends_good, stays_good}
use Rattle.shard_rows.proofs.Cutting.{cut_begun, cut_order, cut_same}
use Rattle.shard_rows.proofs.Joining.{followed_good, part_good}
use Rattle.shard_rows.proofs.Place.{fresh_here, fresh_not_noop}
use Rattle.shard_rows.proofs.PlacedAgain.{all_placed}
use Rattle.shard_rows.proofs.Placing.{first_alone, first_in}
use Rattle.shard_rows.proofs.Pushing.{pushes_flush_part}
use Rattle.shard_rows.proofs.Retaking.{Retakes, retaken, retakes_shows}
use Rattle.shard_rows.proofs.Standing.{order, store, there}
use Rattle.shard_rows.proofs.Stepping.{shows_good}

new_nodes : (nodes : List ℕ) → map (λ (backup : Backup). backup.node) (map new_backup nodes) ≡ nodes
new_nodes [] = refl
new_nodes (node ∷ nodes) = ap (λ (others : List ℕ). node ∷ others) (new_nodes nodes)

module _ (shape : Dimensions) (g : Ghost) (a : Parts) (sender me : ℕ) (config : Config) (from : ℕ) (items : List Item) (moment : Moment shape g a) (node : IsShardNode shape me) (heard : Heard shape g a sender me (Flush config from items)) where
  abbrev s : ShardState
  s = a.shards me

  says : FlushSays shape g.views g.log.line a.history me config from items
  says = heard.said

  some : 1 ≤ s.view
  some = there shape g a moment me node

  -- ---- it takes the view
  module _ (rises : s.view < config.view) (leads : is_first (replicas_at config s.store.shard) s.node ≡ true) (stable : s.store.stable ≤ from) (within : from ≤ length_of s) where
    abbrev behind : Store
    behind = cut s.store from

    abbrev cells : List Cell
    cells = cells_for behind items

    abbrev job : FlushJob
    job = record { from = from; asker = sender }

    abbrev group : List ℕ
    group = replicas_at (g.views.cf config.view) (home_of me)

    abbrev backups : List Backup
    backups = backups_of (replicas_at config s.store.shard)

    group_is : replicas_at config s.store.shard ≡ group
    group_is = ap (replicas_at config) (store shape g a moment me).shard ∙ ap (λ (c : Config). replicas_at c (home_of me)) says.named

    first : is_first group me ≡ true
    first = subst (λ (nodes : List ℕ). is_first nodes me ≡ true) group_is (subst (λ (n : ℕ). is_first (replicas_at config s.store.shard) n ≡ true) (moment.formed.shards me).numbered leads)

    cut_long : length behind.order ≡ from
    cut_long = ap (λ (xs : List Cell). length xs) (cut_order s.store from) ∙ length-take-le from s.store.order within

    takes : Takes shape a.history (home_of me) behind
    takes =
        let f = store shape g a moment me in
        let same = cut_same s.store from in
        record { mode = same.mode ∙ f.mode; shards = same.shards ∙ f.shards; shard_is = same.shard ∙ f.shard; held = cut_begun a.history s.store from (moment.agreed.bytes me) }

    given : EachFrom (ItemGiven shape a.history (home_of me)) (length behind.order) items
    given = subst (λ (n : ℕ). EachFrom (ItemGiven shape a.history (home_of me)) n items) (sym cut_long) says.given

    fresh : EachFrom (FreshCell shape a.history (home_of me)) from cells
    fresh = subst (λ (n : ℕ). EachFrom (FreshCell shape a.history (home_of me)) n cells) cut_long (fresh_cells shape a.history (home_of me) items behind takes given)

    retakes : Retakes shape g a me moment node config.view from cells true backups (Some job)
    retakes = record {
      rises = rises;
      flush = subst (IsFlush g.views g.log.line config.view from) (sym (cells_ids items behind)) says.flush;
      stable = stable;
      within = within;
      each = each_from_weaker (FreshCell shape a.history (home_of me)) (AddedCell shape a.history (home_of me)) (λ place cell h. record { placed = h.placed; begun = h.begun; here = fresh_here cell.body h.fresh }) from cells fresh;
      listed = first_in group me first;
      first = sym first;
      ahead = λ e other its. absurd (other (first_alone group e me its first));
      nodes = λ primary. new_nodes (others_of (replicas_at config s.store.shard)) ∙ ap others_of group_is;
      noted = each_map new_backup (BackupNoted a.shards config.view) (others_of (replicas_at config s.store.shard)) (in_each (λ (n : ℕ). BackupNoted a.shards config.view (new_backup n)) (others_of (replicas_at config s.store.shard)) (λ n i far is. cc));
      job = λ one is. let same : job ≡ one = cc in ap (λ (k : FlushJob). k.from) (sym same);
      alone = λ none. cc;
      unasked = λ backup. cc;
      decided = λ none. cc;
      copied = λ e home same backup primary. cc;
      lacks = λ now cell i opened. ap (λ (x : Store). held_bytes x.held cell.id) (sym (extend_is items behind)) ∙ fresh_lacks shape a.history (home_of me) items behind takes given cell i opened;
      voids = λ now k cell e noop. absurd (fresh_not_noop cell.body (each_from_at (FreshCell shape a.history (home_of me)) from cells fresh k cell e).fresh noop);
    }

    abbrev t : ShardState
    t = retaken shape g a me moment node config.view from cells true backups (Some job)

    retaken_good : GoodShard shape g a me (stays t)
    retaken_good = shows_good shape g a me moment g.log.given t (retakes_shows shape g a me moment node config.view from cells true backups (Some job) retakes) [] tt

    flushed_good : GoodShard shape g a me (stays (flushed s sender config from items))
    flushed_good = subst (λ (x : Store). GoodShard shape g a me (stays (record s { view = config.view; primary = true; backups = backups; store = x; jobs = []; flush = Some job }))) (sym (extend_is items behind)) retaken_good

    formed : ShardFormed shape me (flushed s sender config from items)
    formed =
        let f = moment.formed.shards me in
        record {
          shaped = f.shaped;
          numbered = f.numbered;
          backups = backups_named (IsShardNode shape) (replicas_at config s.store.shard) (homes_named shape config heard.goes.2 s.store.shard);
          jobs = tt;
          flush = heard.goes.0;
        }

    taken_good : GoodShard shape g a me (pushes_flush (flushed s sender config from items) job)
    taken_good = followed_good shape g a me moment (stays (flushed s sender config from items)) flushed_good formed (λ after. pushes_flush after job)
        (λ h b begins is. part_good shape h b me (pushes_flush (b.shards me) job) (pushes_flush_part shape me node h b begins job (ap (λ (x : ShardState). x.flush) is)))

  -- ---- it has taken it
  module _ (same : s.view ≡ config.view) where
    ended : s.flush ≡ None → s.primary ≡ true → FlushedSays g.views (with_shard a me s).shards me s.view
    ended none primary =
        let flush = says.flush in
        let own : s.view ≡ flush.before + 1 = same ∙ flush.is in
        let all = (order shape g a moment me some).flushed flush.before flush.some own in
        let mine = put_own a.shards me s in
        record {
          before = flush.before;
          some = flush.some;
          is = own;
          known = subst (λ (w : ℕ). w ≤ g.views.cur) (sym same) flush.known;
          own = let view = ap (λ (x : ShardState). x.view) mine in omega arith;
          settled = all_placed shape g a me moment node primary none (g.views.le flush.before) all.placed;
          ended = λ current. ap (λ (x : ShardState). x.flush) mine ∙ none;
        }

    again_good : GoodShard shape g a me (flushes_again s sender)
    again_good = some_or_none (GoodShard shape g a me) (pushes_flush s) s.flush (if s.primary then answers s sender (Flushed s.view) else stays s)
        (λ job is. part_good shape g a me (pushes_flush s job) (pushes_flush_part shape me node g a moment job is))
        (λ none. either (GoodShard shape g a me) s.primary (answers s sender (Flushed s.view)) (stays s)
        (λ primary. sends_good shape g a me moment ((sender, Flushed s.view) ∷ []) (ended none primary, tt))
        (λ backup. stays_good shape g a me moment))

  pub flush_good : GoodShard shape g a me (on_flush s sender config from items)
  flush_good = either (GoodShard shape g a me) (s.view == config.view) (flushes_again s sender)
      (if nat_lt s.view config.view && takes_flush s config from items then pushes_flush (flushed s sender config from items) (record { from = from; asker = sender }) else stays s)
      (λ e. again_good (eqb-true s.view config.view e))
      (λ e. either (GoodShard shape g a me) (nat_lt s.view config.view && takes_flush s config from items) (pushes_flush (flushed s sender config from items) (record { from = from; asker = sender })) (stays s)
      (λ f.
      let both = and_parts (nat_lt s.view config.view) (takes_flush s config from items) f in
      let fits = and_parts (is_first (replicas_at config s.store.shard) s.node && can_cut s from) (has_places from (length items)) both.1 in
      let leads = and_parts (is_first (replicas_at config s.store.shard) s.node) (can_cut s from) fits.0 in
      let cuts = and_parts (nat_le s.store.stable from) (nat_le from (length_of s)) leads.1 in
      taken_good (ltb-true s.view config.view both.0) leads.0 (leb-true s.store.stable from cuts.0) (leb-true from (length_of s) cuts.1))
      (λ f. stays_good shape g a me moment))
