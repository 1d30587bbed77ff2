-- What a shard replica sends, and to whom.
use Rattle.std.proofs.Common.{◌≡◌, ℕ, ◌+◌, ◌<◌, List, [], ◌∷◌, length, min, refl}
use Rattle.std.specs.Prelude.{◌==◌}
use Rattle.std.specs.Option.{option_map_or}
use Rattle.list_facts.specs.Lists.{Each}
use Rattle.list_facts.proofs.Cases.{either, some_or_none}
use Rattle.list_facts.proofs.Members.{each_append, each_map}
use Rattle.rec_id.specs.Identity.{Identity}
use Rattle.rec_id.specs.declared.item.Cell.{Cell}
use Rattle.rec_id.specs.declared.item.Item.{Item}
use Rattle.view_config.specs.Nodes.{shard_id}
use Rattle.view_config.specs.Shape.{Dimensions}
use Rattle.view_config.specs.declared.config.Config.{Config}
use Rattle.view_config.specs.declared.nodes.TheConstants.{BOARD, CONTROLLER}
use Rattle.lazy_msgs.specs.declared.input.Input.{Input}
use Rattle.lazy_msgs.specs.declared.input.Input.TheVariants.{Take, Grace}
use Rattle.lazy_msgs.specs.declared.msg.Msg.{Msg}
use Rattle.lazy_msgs.specs.declared.msg.Msg.TheVariants.{Put, DataAck, Rejected, Place, Placed, Copy, Copied, Stable, Fetch, Flush, FlushCopy, Flushed, Claim, Trim, TrimAck, TrimmedAt}
use Rattle.lazy_msgs.specs.Step.{Row}
use Rattle.lazy_rules.specs.Door.{is_turned_away}
use Rattle.lazy_rules.specs.Pushing.{length_of, pushes_above, pushes_flush, pushes_place, settles}
use Rattle.lazy_rules.specs.Roles.{others_of, replicas_at}
use Rattle.lazy_rules.specs.Rows.{stays, answers}
use Rattle.lazy_rules.specs.ShardRules.{answers_placed, fetched, fills, finds_noop, flush_copied, flushed, gives_up, holds, new_job, on_copied, on_copy, on_fetch, on_flush, on_flush_copy, on_grace, on_place, on_put, on_stable, on_trim, places, raised, raised_of, shard_row, shard_step, shard_took, with_placed, with_store}
use Rattle.lazy_rules.specs.ShardState.{Backup, FlushJob, PlaceJob, ShardState, new_backup, backups_of}
use Rattle.lazy_rules.specs.Store.{extend_cells, fill, hold, noop_at, open_at, open_to_noop, raise_stable, trim}
use Rattle.world_facts.specs.MembersOf.{ShardOf}
use Rattle.world_facts.specs.Members.{IsNamed, IsSeqNode, IsShardNode, Goes}
use Rattle.world_facts.proofs.Rows.{keeps_followed}
use Rattle.world_facts.proofs.goes.Pushing.{KeptShard, SentByShard, own_shard, shard_like, shard_stays, settles_kept, pushes_place_kept, pushes_flush_kept, pushes_above_kept}
use Rattle.world_facts.proofs.goes.Sends.{GivenTo, each_other, homes_named}

-- the backups of a shard are its replicas
pub backups_named : (P : ℕ → Type 0) (nodes : List ℕ) → Each P nodes → Each (λ (backup : Backup). P backup.node) (backups_of nodes)
backups_named P nodes h = each_map new_backup (λ (backup : Backup). P backup.node) (others_of nodes) (each_other P nodes h)

raised_each : (P : ℕ → Type 0) (node upto : ℕ) (backups : List Backup) → Each (λ (backup : Backup). P backup.node) backups → Each (λ (backup : Backup). P backup.node) (raised_of node upto backups)
raised_each P node upto [] h = tt
raised_each P node upto (backup ∷ backups) h =
    (either (λ (b : Backup). P b.node) (backup.node == node) (raised upto backup) backup (λ k. h.0) (λ k. h.0), raised_each P node upto backups h.1)

module _ (shape : Dimensions) (i j : ℕ) (few : i < shape.shards) (some : j < shape.copies) where
  abbrev Kept : Row ShardState → Type 0
  Kept = KeptShard shape i j few some

  abbrev Sent : List (ℕ × Msg) → Type 0
  Sent = SentByShard shape i j few some

  module _ (s : ShardState) (ok : ShardOf shape i j s) where
    like : (row : Row ShardState) → row.next.shape ≡ s.shape → row.next.node ≡ s.node → row.next.backups ≡ s.backups → row.next.jobs ≡ s.jobs → row.next.flush ≡ s.flush → Sent row.sends → Kept row
    like = shard_like shape i j few some s ok

    stay : Kept (stays s)
    stay = shard_stays shape i j few some s ok

    own : IsShardNode shape (shard_id i j)
    own = own_shard shape i j few some

    places_now : (sender : ℕ) → IsSeqNode shape sender → (items : List Item) → Kept (places s sender items)
    places_now sender asks items =
        let after : ShardState = with_placed s sender items in
        let pushed : Kept (pushes_place after (new_job s sender items)) = pushes_place_kept shape i j few some after (record {
          shaped = ok.shaped;
          numbered = ok.numbered;
          backups = ok.backups;
          jobs = each_append (λ (job : PlaceJob). IsSeqNode shape job.asker) s.jobs (new_job s sender items ∷ []) ok.jobs (asks, tt);
          flush = ok.flush;
        }) (new_job s sender items) in
        search (either Kept, pushed, stay) depth 12

    placed_again : (sender upto : ℕ) → IsSeqNode shape sender → Kept (answers_placed s sender upto)
    placed_again sender upto asks =
        let told : Kept (answers s sender (Placed s.view upto)) = like (answers s sender (Placed s.view upto)) refl refl refl refl refl ((own, asks), tt) in
        search (either Kept, told, stay) depth 12

    placing : (sender view from : ℕ) → IsSeqNode shape sender → (items : List Item) → Kept (on_place s sender view from items)
    placing sender view from asks items =
        let now = places_now sender asks items in
        let again = placed_again sender (from + length items) asks in
        let pushed = pushes_place_kept shape i j few some s ok in
        search (either Kept, some_or_none {A = PlaceJob} Kept, now, again, pushed, stay) depth 12

    copying : (sender view from : ℕ) → IsShardNode shape sender → (cells : List Cell) → Kept (on_copy s sender view from cells)
    copying sender view from asks cells =
        let next : Kept (answers (with_store s (extend_cells s.store cells)) sender (Copied s.view (length_of s + length cells))) =
        like (answers (with_store s (extend_cells s.store cells)) sender (Copied s.view (length_of s + length cells))) refl refl refl refl refl ((own, asks), tt) in
        let again : Kept (answers s sender (Copied view (from + length cells))) = like (answers s sender (Copied view (from + length cells))) refl refl refl refl refl ((own, asks), tt) in
        search (either Kept, next, again, stay) depth 12

    copied : (sender view upto : ℕ) → Kept (on_copied s sender view upto)
    copied sender view upto =
        let settled : Kept (settles (record s { backups = raised_of sender upto s.backups })) = settles_kept shape i j few some (record s { backups = raised_of sender upto s.backups }) (record {
          shaped = ok.shaped;
          numbered = ok.numbered;
          backups = raised_each (IsShardNode shape) sender upto s.backups ok.backups;
          jobs = ok.jobs;
          flush = ok.flush;
        }) in
        search (either Kept, settled, stay) depth 12

    stable : (view upto : ℕ) → Kept (on_stable s view upto)
    stable view upto =
        let claims : Kept (answers (with_store s (raise_stable s.store upto)) BOARD (Claim upto)) = like (answers (with_store s (raise_stable s.store upto)) BOARD (Claim upto)) refl refl refl refl refl ((own, refl), tt) in
        search (either Kept, claims, stay) depth 12

    noops : (sender : ℕ) (id : Identity) (bytes : List ℕ) → sender < shape.clients → id.client ≡ sender → (place : ℕ) → Kept (finds_noop s sender id bytes place)
    noops sender id bytes there is place =
        let rejects : Kept (answers s sender (Rejected id place)) = like (answers s sender (Rejected id place)) refl refl refl refl refl ((own, there, is), tt) in
        let keeps : Kept (stays (with_store s (hold s.store id bytes))) = like (stays (with_store s (hold s.store id bytes))) refl refl refl refl refl tt in
        search (either Kept, rejects, keeps) depth 12

    filled : (sender : ℕ) (id : Identity) (bytes : List ℕ) → sender < shape.clients → id.client ≡ sender → (place : ℕ) → Kept (fills s sender id bytes place)
    filled sender id bytes there is place =
        let first : Kept (answers (with_store s (fill s.store place bytes)) sender (DataAck s.view id)) = like (answers (with_store s (fill s.store place bytes)) sender (DataAck s.view id)) refl refl refl refl refl ((own, there, is), tt) in
        keeps_followed (ShardOf shape i j) (Goes shape (shard_id i j)) (answers (with_store s (fill s.store place bytes)) sender (DataAck s.view id)) (λ (after : ShardState). pushes_above after place)
        first (pushes_above_kept shape i j few some (with_store s (fill s.store place bytes)) first.next place)

    puts : (sender : ℕ) (id : Identity) (bytes : List ℕ) → sender < shape.clients → id.client ≡ sender → Kept (on_put s sender id bytes)
    puts sender id bytes there is =
        let held : Kept (holds s sender id bytes) = like (holds s sender id bytes) refl refl refl refl refl ((own, there, is), tt) in
        some_or_none Kept (finds_noop s sender id bytes) (noop_at s.store id) (option_map_or (fills s sender id bytes) (open_at s.store id) (holds s sender id bytes))
        (λ place at. noops sender id bytes there is place)
        (λ none. some_or_none Kept (fills s sender id bytes) (open_at s.store id) (holds s sender id bytes) (λ place at. filled sender id bytes there is place) (λ no. held))

    graces : Kept (on_grace s)
    graces =
        let given_up : (place : ℕ) → Kept (gives_up s place) = λ place. pushes_above_kept shape i j few some (with_store s (open_to_noop s.store)) (record { shaped = ok.shaped; numbered = ok.numbered; backups = ok.backups; jobs = ok.jobs; flush = ok.flush }) place in
        search (either Kept, some_or_none {A = ℕ} Kept, given_up, stay) depth 12

    fetching : (sender read from end : ℕ) → sender < shape.clients → Kept (on_fetch s sender read from end)
    fetching sender read from end there =
        let trimmed : Kept (answers s sender (TrimmedAt read s.store.floor)) = like (answers s sender (TrimmedAt read s.store.floor)) refl refl refl refl refl ((own, there), tt) in
        let told : Kept (answers s sender (fetched s read from (min end s.store.stable))) = like (answers s sender (fetched s read from (min end s.store.stable))) refl refl refl refl refl ((own, there), tt) in
        search (either Kept, trimmed, told) depth 12

    flushing : (sender : ℕ) → sender ≡ CONTROLLER → (config : Config) → IsNamed shape config → (from : ℕ) (items : List Item) → Kept (on_flush s sender config from items)
    flushing sender is config named from items =
        let after : ShardState = flushed s sender config from items in
        let begun : Kept (pushes_flush after (record { from = from; asker = sender })) = pushes_flush_kept shape i j few some after (record {
          shaped = ok.shaped;
          numbered = ok.numbered;
          backups = backups_named (IsShardNode shape) (replicas_at config s.store.shard) (homes_named shape config named s.store.shard);
          jobs = tt;
          flush = is;
        }) (record { from = from; asker = sender }) in
        let told : Kept (answers s sender (Flushed s.view)) = like (answers s sender (Flushed s.view)) refl refl refl refl refl ((own, is), tt) in
        let pushed = pushes_flush_kept shape i j few some s ok in
        search (either Kept, some_or_none {A = FlushJob} Kept, begun, told, pushed, stay) depth 12

    flush_copying : (sender view from : ℕ) → IsShardNode shape sender → (cells : List Cell) → Kept (on_flush_copy s sender view from cells)
    flush_copying sender view from asks cells =
        let next : Kept (answers (flush_copied s view from cells) sender (Copied view (from + length cells))) = record {
          next = record { shaped = ok.shaped; numbered = ok.numbered; backups = tt; jobs = tt; flush = tt };
          sends = ((own, asks), tt);
        } in
        let again : Kept (answers s sender (Copied view (from + length cells))) = like (answers s sender (Copied view (from + length cells))) refl refl refl refl refl ((own, asks), tt) in
        search (either Kept, next, again, stay) depth 12

    trims : (sender read floor : ℕ) → sender < shape.clients → Kept (on_trim s sender read floor)
    trims sender read floor there =
        let acks : Kept (answers (with_store s (trim s.store floor)) sender (TrimAck read)) = like (answers (with_store s (trim s.store floor)) sender (TrimAck read)) refl refl refl refl refl ((own, there), tt) in
        search (either Kept, acks, stay) depth 12

    rows : (sender : ℕ) (msg : Msg) → Goes shape sender (shard_id i j) msg → Kept (shard_row s sender msg)
    rows sender (Put id bytes) says = puts sender id bytes says.0 says.2
    rows sender (Place view from items) says = placing sender view from says.0 items
    rows sender (Copy view from cells) says = copying sender view from says.0 cells
    rows sender (Copied view upto) says = copied sender view upto
    rows sender (Stable view upto) says = stable view upto
    rows sender (Fetch read from end) says = fetching sender read from end says.0
    rows sender (Flush config from items) says = flushing sender says.0 config says.2 from items
    rows sender (FlushCopy view from cells) says = flush_copying sender view from says.0 cells
    rows sender (Trim read floor) says = trims sender read floor says.0
    rows sender _ says = stay

    takes : (sender : ℕ) (msg : Msg) → Goes shape sender (shard_id i j) msg → Kept (shard_took s sender msg)
    takes sender msg says =
        either Kept (is_turned_away s.shape sender msg) (stays s) (shard_row s sender msg)
        (λ h. stay) (λ h. rows sender msg says)

    pub shard_kept : (input : Input) → GivenTo shape (shard_id i j) input → Kept (shard_step s input)
    shard_kept (Take e) given = takes e.from e.msg given
    shard_kept Grace given = graces
    shard_kept _ given = stay
