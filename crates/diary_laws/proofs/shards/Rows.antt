-- No row of a shard replica changes an identity below its stable number, and what it claims is stable behind it.
use Rattle.std.proofs.Common.{◌≡◌, ℕ, ◌+◌, ◌≤◌, List, length, min, true, arith}
use Rattle.std.specs.Prelude.{not, ◌&&◌, ◌==◌, nat_le, nat_lt, if◌then◌else◌}
use Rattle.std.specs.Option.{option_map_or}
use Rattle.std.proofs.lemmas.Bool.{and_parts, ltb-true, leb-true}
use Rattle.list_facts.specs.Lists.{Each}
use Rattle.list_facts.proofs.Cases.{either, some_or_none}
use Rattle.list_facts.proofs.Members.{each_weaker}
use Rattle.rec_id.specs.Identity.{Identity}
use Rattle.rec_id.specs.declared.item.Cell.{Cell}
use Rattle.rec_id.specs.declared.item.Item.{Item}
use Rattle.view_config.specs.declared.config.Config.{Config}
use Rattle.view_config.specs.declared.nodes.TheConstants.{BOARD}
use Rattle.lazy_msgs.specs.declared.input.Input.{Input}
use Rattle.lazy_msgs.specs.declared.input.Input.TheVariants.{Take, Grace}
use Rattle.lazy_msgs.specs.declared.msg.Msg.{Msg}
use Rattle.lazy_msgs.specs.declared.msg.Msg.TheVariants.{Put, DataAck, Rejected, Place, Placed, Copy, Copied, Stable, Fetch, Flush, FlushCopy, Flushed, Claim, Trim, TrimAck, TrimmedAt}
use Rattle.lazy_msgs.specs.Step.{Row}
use Rattle.lazy_rules.specs.Door.{is_turned_away}
use Rattle.lazy_rules.specs.Pushing.{length_of, pushes_above, pushes_flush, pushes_place, settles}
use Rattle.lazy_rules.specs.Roles.{is_first, replicas_at}
use Rattle.lazy_rules.specs.Rows.{stays, answers}
use Rattle.lazy_rules.specs.ShardRules.{answers_placed, can_cut, fetched, fills, finds_noop, flush_copied, flushed, flushes_again, gives_up, has_places, holds, is_backup, new_job, on_copied, on_copy, on_fetch, on_flush, on_flush_copy, on_grace, on_place, on_put, on_stable, on_trim, places, raised_of, shard_row, shard_step, takes_flush, with_placed, with_store}
use Rattle.lazy_rules.specs.ShardState.{FlushJob, PlaceJob, ShardState}
use Rattle.lazy_rules.specs.Store.{extend_cells, fill, has_open_below, hold, noop_at, open_at, open_to_noop, raise_stable, trim}
use Rattle.world_facts.specs.Turns.{IsMail}
use Rattle.world_facts.proofs.Rows.{keeps_followed}
use Rattle.diary_laws.proofs.shards.Stores.{Firm, firm_cells, firm_items, firm_hold, firm_recut, firm_recut_cells, firm_fill, firm_noops, firm_trim, firm_raise}
use Rattle.diary_laws.proofs.shards.Pushes.{Mail, FirmShard, KeptFirm, firm_stays, settles_firm, pushes_place_firm, pushes_flush_firm, pushes_above_firm}

-- a claim is of no more than this
abbrev pub ClaimsWithin : ℕ → Msg → Type 0
ClaimsWithin most (Claim stable) = stable ≤ most
ClaimsWithin most _ = Unit {0}

-- a row leaves the front of the order, and claims what is stable behind it
pub record KeepsFirm (count : ℕ) (front : List Identity) (row : Row ShardState) : Type 0 where
  pub next : Firm count front row.next.store
  pub claims : Each (λ (send : ℕ × Msg). ClaimsWithin row.next.store.stable send.1) row.sends

mail_within : (most : ℕ) (msg : Msg) → IsMail msg → ClaimsWithin most msg
mail_within most (Claim stable) h = absurd h
mail_within most _ h = tt

module _ (count : ℕ) (front : List Identity) where
  abbrev Kept : Row ShardState → Type 0
  Kept = KeptFirm count front

  module _ (s : ShardState) (ok : FirmShard count front s) where
    stay : Kept (stays s)
    stay = firm_stays count front s ok

    places_now : (sender : ℕ) (items : List Item) → Kept (places s sender items)
    places_now sender items =
        let pushed : Kept (pushes_place (with_placed s sender items) (new_job s sender items)) = pushes_place_firm count front (with_placed s sender items) (firm_items count front items s.store ok) (new_job s sender items) in
        search (either Kept, pushed, stay) depth 12

    placed_again : (sender upto : ℕ) → Kept (answers_placed s sender upto)
    placed_again sender upto =
        let told : Kept (answers s sender (Placed s.view upto)) = record { next = ok; sends = (tt, tt) } in
        search (either Kept, told, stay) depth 12

    placing : (sender view from : ℕ) (items : List Item) → Kept (on_place s sender view from items)
    placing sender view from items =
        let now = places_now sender items in
        let again = placed_again sender (from + length items) in
        let pushed = pushes_place_firm count front s ok in
        search (either Kept, some_or_none {A = PlaceJob} Kept, now, again, pushed, stay) depth 12

    copying : (sender view from : ℕ) (cells : List Cell) → Kept (on_copy s sender view from cells)
    copying sender view from cells =
        let next : Kept (answers (with_store s (extend_cells s.store cells)) sender (Copied s.view (length_of s + length cells))) = record { next = firm_cells count front cells s.store ok; sends = (tt, tt) } in
        let again : Kept (answers s sender (Copied view (from + length cells))) = record { next = ok; sends = (tt, tt) } in
        search (either Kept, next, again, stay) depth 12

    copied : (sender view upto : ℕ) → Kept (on_copied s sender view upto)
    copied sender view upto =
        let settled : Kept (settles (record s { backups = raised_of sender upto s.backups })) = settles_firm count front (record s { backups = raised_of sender upto s.backups }) ok in
        search (either Kept, settled, stay) depth 12

    noops : (sender : ℕ) (id : Identity) (bytes : List ℕ) (place : ℕ) → Kept (finds_noop s sender id bytes place)
    noops sender id bytes place =
        let rejects : Kept (answers s sender (Rejected id place)) = record { next = ok; sends = (tt, tt) } in
        let keeps : Kept (stays (with_store s (hold s.store id bytes))) = record { next = firm_hold count front s.store id bytes ok; sends = tt } in
        search (either Kept, rejects, keeps) depth 12

    filled : (sender : ℕ) (id : Identity) (bytes : List ℕ) (place : ℕ) → Kept (fills s sender id bytes place)
    filled sender id bytes place =
        let next = firm_fill count front s.store place bytes ok in
        keeps_followed (FirmShard count front) Mail (answers (with_store s (fill s.store place bytes)) sender (DataAck s.view id)) (λ (after : ShardState). pushes_above after place)
        (record { next = next; sends = (tt, tt) }) (pushes_above_firm count front (with_store s (fill s.store place bytes)) next place)

    puts : (sender : ℕ) (id : Identity) (bytes : List ℕ) → Kept (on_put s sender id bytes)
    puts sender id bytes =
        some_or_none Kept (finds_noop s sender id bytes) (noop_at s.store id) (option_map_or (fills s sender id bytes) (open_at s.store id) (holds s sender id bytes))
        (λ place at. noops sender id bytes place)
        (λ none. some_or_none Kept (fills s sender id bytes) (open_at s.store id) (holds s sender id bytes) (λ place at. filled sender id bytes place)
        (λ no. record { next = firm_hold count front s.store id bytes ok; sends = (tt, tt) }))

    graces : Kept (on_grace s)
    graces =
        let given_up : (place : ℕ) → Kept (gives_up s place) = λ place. pushes_above_firm count front (with_store s (open_to_noop s.store)) (firm_noops count front s.store ok) place in
        search (either Kept, some_or_none {A = ℕ} Kept, given_up, stay) depth 12

    fetching : (sender read from end : ℕ) → Kept (on_fetch s sender read from end)
    fetching sender read from end =
        let trimmed : Kept (answers s sender (TrimmedAt read s.store.floor)) = record { next = ok; sends = (tt, tt) } in
        let told : Kept (answers s sender (fetched s read from (min end s.store.stable))) = record { next = ok; sends = (tt, tt) } in
        search (either Kept, trimmed, told) depth 12

    cuts : (from : ℕ) → can_cut s from ≡ true → (s.store.stable ≤ from) × (from ≤ length s.store.order)
    cuts from h = let both = and_parts (nat_le s.store.stable from) (nat_le from (length_of s)) h in (leb-true s.store.stable from both.0, leb-true from (length_of s) both.1)

    flushing : (sender : ℕ) (config : Config) (from : ℕ) (items : List Item) → Kept (on_flush s sender config from items)
    flushing sender config from items =
        let again : Kept (flushes_again s sender) =
        some_or_none Kept (pushes_flush s) s.flush (if s.primary then answers s sender (Flushed s.view) else stays s)
        (λ job is. pushes_flush_firm count front s ok job)
        (λ none. either Kept s.primary (answers s sender (Flushed s.view)) (stays s) (λ k. record { next = ok; sends = (tt, tt) }) (λ k. stay)) in
        let job : FlushJob = record { from = from; asker = sender } in
        either Kept (s.view == config.view) (flushes_again s sender)
        (if nat_lt s.view config.view && takes_flush s config from items then pushes_flush (flushed s sender config from items) job else stays s)
        (λ k. again)
        (λ k. either Kept (nat_lt s.view config.view && takes_flush s config from items) (pushes_flush (flushed s sender config from items) job) (stays s)
        (λ h.
        let takes = and_parts (nat_lt s.view config.view) (takes_flush s config from items) h in
        let fits = and_parts (is_first (replicas_at config s.store.shard) s.node && can_cut s from) (has_places from (length items)) takes.1 in
        let cut = and_parts (is_first (replicas_at config s.store.shard) s.node) (can_cut s from) fits.0 in
        let range = cuts from cut.1 in
        pushes_flush_firm count front (flushed s sender config from items) (firm_recut count front s.store from items range.0 range.1 ok) job)
        (λ h. stay))

    flush_copying : (sender view from : ℕ) (cells : List Cell) → Kept (on_flush_copy s sender view from cells)
    flush_copying sender view from cells =
        let again : Kept (answers s sender (Copied view (from + length cells))) = record { next = ok; sends = (tt, tt) } in
        either Kept (nat_lt s.view view && can_cut s from && has_places from (length cells)) (answers (flush_copied s view from cells) sender (Copied view (from + length cells)))
        (if is_backup s view && nat_le (from + length cells) (length_of s) then answers s sender (Copied view (from + length cells)) else stays s)
        (λ h.
        let fits = and_parts (nat_lt s.view view && can_cut s from) (has_places from (length cells)) h in
        let cut = and_parts (nat_lt s.view view) (can_cut s from) fits.0 in
        let range = cuts from cut.1 in
        record { next = firm_recut_cells count front s.store from cells range.0 range.1 ok; sends = (tt, tt) })
        (λ h. search (either Kept, again, stay) depth 12)

    trims : (sender read floor : ℕ) → Kept (on_trim s sender read floor)
    trims sender read floor =
        let acks : Kept (answers (with_store s (trim s.store floor)) sender (TrimAck read)) = record { next = firm_trim count front s.store floor ok; sends = (tt, tt) } in
        search (either Kept, acks, stay) depth 12

    mails : (row : Row ShardState) → Kept row → KeepsFirm count front row
    mails row h = record {
      next = h.next;
      claims = each_weaker (λ (send : ℕ × Msg). IsMail send.1) (λ (send : ℕ × Msg). ClaimsWithin row.next.store.stable send.1) (λ send k. mail_within row.next.store.stable send.1 k) row.sends h.sends;
    }

    -- the one row that claims
    stable : (view upto : ℕ) → KeepsFirm count front (on_stable s view upto)
    stable view upto =
        either (KeepsFirm count front) (s.view == view && nat_lt s.store.stable upto && nat_le upto (length_of s) && not (has_open_below s.store upto)) (answers (with_store s (raise_stable s.store upto)) BOARD (Claim upto)) (stays s)
        (λ h.
        let three = and_parts (s.view == view && nat_lt s.store.stable upto && nat_le upto (length_of s)) (not (has_open_below s.store upto)) h in
        let two = and_parts (s.view == view && nat_lt s.store.stable upto) (nat_le upto (length_of s)) three.0 in
        let one = and_parts (s.view == view) (nat_lt s.store.stable upto) two.0 in
        let more = ltb-true s.store.stable upto one.1 in
        let within = leb-true upto (length_of s) two.1 in
        record { next = firm_raise count front s.store upto (omega arith) within ok; claims = (omega arith, tt) })
        (λ h. mails (stays s) stay)

    rows : (sender : ℕ) (msg : Msg) → KeepsFirm count front (shard_row s sender msg)
    rows sender (Put id bytes) = mails (on_put s sender id bytes) (puts sender id bytes)
    rows sender (Place view from items) = mails (on_place s sender view from items) (placing sender view from items)
    rows sender (Copy view from cells) = mails (on_copy s sender view from cells) (copying sender view from cells)
    rows sender (Copied view upto) = mails (on_copied s sender view upto) (copied sender view upto)
    rows sender (Stable view upto) = stable view upto
    rows sender (Fetch read from end) = mails (on_fetch s sender read from end) (fetching sender read from end)
    rows sender (Flush config from items) = mails (on_flush s sender config from items) (flushing sender config from items)
    rows sender (FlushCopy view from cells) = mails (on_flush_copy s sender view from cells) (flush_copying sender view from cells)
    rows sender (Trim read floor) = mails (on_trim s sender read floor) (trims sender read floor)
    rows sender _ = mails (stays s) stay

    pub shard_firm : (input : Input) → KeepsFirm count front (shard_step s input)
    shard_firm (Take e) =
        either (KeepsFirm count front) (is_turned_away s.shape e.from e.msg) (stays s) (shard_row s e.from e.msg)
        (λ h. mails (stays s) stay) (λ h. rows e.from e.msg)
    shard_firm Grace = mails (on_grace s) graces
    shard_firm _ = mails (stays s) stay
