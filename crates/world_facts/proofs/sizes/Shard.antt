-- The sizes of what a shard replica has and sends.
use Rattle.world_facts.specs.Sizes.{Sized, IsOwn, IsCell, IsSentCell, PlaceSays, CopySays, FlushSays, FetchSays, line_limit}
use Rattle.lazy_msgs.specs.declared.msg.Msg.TheVariants.{Put, DataAck, Rejected, Place, Placed, Copy, Copied, Stable, Fetch, Flush, FlushCopy, Flushed, Claim, Trim, TrimAck, TrimmedAt}
use Rattle.lazy_msgs.specs.declared.input.Input.TheVariants.{Take, Grace}
use Rattle.lazy_msgs.specs.declared.limits.TheConstants.{BATCH_LIMIT, PENDING_LIMIT}
use Rattle.view_config.specs.declared.nodes.TheConstants.{BOARD}
use Rattle.lazy_msgs.specs.FrameLimits.{BytesFit, IsCounted, IsTwo}
use Rattle.rec_id.specs.declared.item.Cell.{Cell}
use Rattle.view_config.specs.declared.config.Config.{Config}
use Rattle.view_config.specs.Shape.{Dimensions}
use Rattle.list_facts.specs.Lists.{Each}
use Rattle.lazy_rules.specs.ShardState.{FlushJob, PlaceJob, ShardState}
use Rattle.rec_id.specs.Identity.{Identity}
use Rattle.lazy_msgs.specs.declared.input.Input.{Input}
use Rattle.world_facts.specs.SizesOf.{IsFlush, IsFlushIn, IsJob, ShardSized}
use Rattle.rec_id.specs.declared.item.Item.{Item}
use Rattle.lazy_rules.specs.declared.limits.TheConstants.{JOBS_LIMIT}
use Rattle.world_facts.proofs.Claims.{Keeps}
use Rattle.lazy_msgs.specs.declared.msg.Msg.{Msg}
use Rattle.world_facts.proofs.sizes.Pushing.{Pushed, SizedPush, flush_here, pushes_above_sized, pushes_flush_sized, pushes_place_sized, settles_sized}
use Rattle.lazy_msgs.specs.Step.{Row}
use Rattle.world_facts.proofs.sizes.Sends.{SizedInput}
use Rattle.lazy_rules.specs.Store.{Store, extend_cells, first_open, has_open_below, noop_at, open_at, open_to_noop, raise_stable, extend, fill, hold, recut, trim}
use Rattle.world_facts.proofs.sizes.Store.{Stored, cells_more, entries_few, entries_placed, fill_kept, hold_more, items_more, noops_kept, recut_cells_kept, recut_kept, trim_kept}
use Rattle.std.proofs.lemmas.Bool.{and_parts, eqb-true, leb-true, ltb-true}
use Rattle.lazy_rules.specs.ShardRules.{answers_placed, can_cut, finds_noop, flush_copied, gives_up, has_places, is_backup, is_primary, new_job, on_copied, on_copy, on_fetch, on_flush, on_flush_copy, on_grace, on_place, on_put, on_stable, on_trim, raised_of, shard_row, shard_step, shard_took, takes_flush, takes_place, was_placed, with_placed, with_store, copies, fetched, fills, flushes_again, holds, places, flushed}
use Rattle.list_facts.proofs.Members.{each_append, each_weaker}
use Rattle.world_facts.proofs.sizes.Flight.{each_drop}
use Rattle.world_facts.proofs.goes.WithoutNamed.{each_take}
use Rattle.lazy_rules.specs.Roles.{is_first, replicas_at}
use Rattle.lazy_rules.specs.Door.{is_turned_away}
use Rattle.world_facts.proofs.Rows.{keeps_followed}
use Rattle.std.proofs.lemmas.List.{length-drop, length-take}
use Rattle.lazy_rules.specs.Pushing.{length_of, pushes_above, pushes_flush, pushes_place, settles}
use Rattle.std.specs.Prelude.{nat_le, nat_lt, find, min, ◌&&◌, ◌==◌, if◌then◌else◌}
use Rattle.std.specs.Option.{option_map_or}
use Rattle.list_facts.proofs.Cases.{some_or_none, either}
use Rattle.lazy_rules.specs.Rows.{answers, stays}
use Rattle.std.proofs.Common.{arith, drop, length, not, refl, subst, sym, take, ◌≡◌, ◌+◌, ◌≤◌, ◌∷◌, ◌-◌, [], true, false, None, Some, ℕ, Bool, List, Option, is_some}

find_each : {A : Type 0} (P : A → Type 0) (p : A → Bool) (xs : List A) → Each P xs → (x : A) → find p xs ≡ Some x → P x
find_each P p [] h x is = let wrong : None ≡ Some x = is in absurd (let no : ⊥ = cc in no)
find_each P p (y ∷ ys) h x is = by (λ e. find_each P p ys h.1 x e) (p y) is
  where
    by : (find p ys ≡ Some x → P x) → (b : Bool) → (if b then Some y else find p ys) ≡ Some x → P x
    by later true e = let same : y ≡ x = cc in subst P same h.0
    by later false e = later e

-- jobs in an order that grew
jobs_more : (long more : ℕ) → long ≤ more → (jobs : List PlaceJob) → Each (IsJob long) jobs → Each (IsJob more) jobs
jobs_more long more le jobs h = each_weaker (IsJob long) (IsJob more) (λ job k. let within = k.within in record { least = k.least; most = k.most; within = omega arith }) jobs h

no_flush : (o : Option FlushJob) → not (is_some o) ≡ true → o ≡ None
no_flush None h = refl
no_flush (Some job) h = let wrong : false ≡ true = h in absurd (let no : ⊥ = cc in no)

-- a backup is at no flush
backup_flush : (primary : Bool) (long more : ℕ) (o : Option FlushJob) → not primary ≡ true → IsFlushIn primary long o → IsFlushIn primary more o
backup_flush primary long more None h k = tt
backup_flush true long more (Some job) h k = let wrong : false ≡ true = h in absurd (let no : ⊥ = cc in no)
backup_flush false long more (Some job) h k = let wrong : false ≡ true = k.leads in absurd (let no : ⊥ = cc in no)

not_false : (b : Bool) → not b ≡ false → b ≡ true
not_false true h = refl
not_false false h = let wrong : true ≡ false = h in absurd (let no : ⊥ = cc in no)

module _ (shape : Dimensions) where
  abbrev pub SizedShard : Row ShardState → Type 0
  SizedShard = Keeps (ShardSized shape) (λ (to : ℕ) (msg : Msg). Sized shape msg)

  pushed : (cells : ℕ) (row : Row ShardState) → SizedPush shape cells row → SizedShard row
  pushed cells row h = record { next = h.next.sized; sends = h.sends }

  module _ (s : ShardState) (own : ShardSized shape s) where
    abbrev long : ℕ
    long = length s.store.order

    stay : SizedShard (stays s)
    stay = record { next = own; sends = tt }

    here : Pushed shape long s
    here = record { sized = own; same = refl }

    -- another store with an order of the same length
    restored : (store : Store) → Stored shape store long → Pushed shape long (with_store s store)
    restored store h = record {
      sized = record {
        view = own.view;
        store = h.sized;
        jobs = subst (λ (n : ℕ). Each (IsJob n) s.jobs) (sym h.long) own.jobs;
        flush = subst (λ (n : ℕ). IsFlushIn s.primary n s.flush) (sym h.long) own.flush;
      };
      same = h.long;
    }

    -- Place
    places_now : (sender from : ℕ) (items : List Item) → PlaceSays shape from items → takes_place s from ≡ true → SizedShard (places s sender items)
    places_now sender from items says takes =
        let both = and_parts (not (is_some s.flush) && nat_lt (length s.jobs) JOBS_LIMIT) (from == length_of s) takes in
        let parts = and_parts (not (is_some s.flush)) (nat_lt (length s.jobs) JOBS_LIMIT) both.0 in
        let start = eqb-true from (length_of s) both.1 in
        let end = says.stretch.end in
        let few = says.stretch.few in
        let stored = items_more shape says.shard from items s.store own.store says.each (omega arith) in
        let grown = stored.long in
        let after : ShardState = with_placed s sender items in
        let job : IsJob (length (extend s.store items).order) (new_job s sender items) = record { least = omega arith; most = omega arith; within = omega arith } in
        let sized : ShardSized shape after = record {
          view = own.view;
          store = stored.sized;
          jobs = each_append (IsJob (length (extend s.store items).order)) s.jobs (new_job s sender items ∷ []) (jobs_more long (length (extend s.store items).order) (omega arith) s.jobs own.jobs) (job, tt);
          flush = subst (IsFlushIn s.primary (length (extend s.store items).order)) (sym (no_flush s.flush parts.0)) tt;
        } in
        either SizedShard (has_places (length_of s) (length items)) (pushes_place after (new_job s sender items)) (stays s)
        (λ h. pushed (length (extend s.store items).order) (pushes_place after (new_job s sender items)) (pushes_place_sized shape (length (extend s.store items).order) after (record { sized = sized; same = refl }) (new_job s sender items) job))
        (λ h. stay)

    placed_again : (sender upto : ℕ) → upto ≤ line_limit → SizedShard (answers_placed s sender upto)
    placed_again sender upto most =
        either SizedShard (was_placed s upto) (answers s sender (Placed s.view upto)) (stays s)
        (λ h. record { next = own; sends = ((own.view, most), tt) }) (λ h. stay)

    placing : (sender view from : ℕ) (items : List Item) → PlaceSays shape from items → SizedShard (on_place s sender view from items)
    placing sender view from items says =
        let end = says.stretch.end in
        let pushes : (job : PlaceJob) → find (λ (job : PlaceJob). job.from == from) s.jobs ≡ Some job → SizedShard (pushes_place s job) = λ job is.
        pushed long (pushes_place s job) (pushes_place_sized shape long s here job (find_each (IsJob long) (λ (job : PlaceJob). job.from == from) s.jobs own.jobs job is)) in
        either SizedShard (not (is_primary s view)) (stays s)
        (if takes_place s from then places s sender items else option_map_or (pushes_place s) (find (λ (job : PlaceJob). job.from == from) s.jobs) (answers_placed s sender (from + length items)))
        (λ h. stay)
        (λ h. either SizedShard (takes_place s from) (places s sender items) (option_map_or (pushes_place s) (find (λ (job : PlaceJob). job.from == from) s.jobs) (answers_placed s sender (from + length items)))
        (λ k. places_now sender from items says k)
        (λ k. some_or_none SizedShard (pushes_place s) (find (λ (job : PlaceJob). job.from == from) s.jobs) (answers_placed s sender (from + length items)) pushes (λ none. placed_again sender (from + length items) (omega arith))))

    -- Copy
    cells_of : (cells : List Cell) → Each (IsSentCell shape) cells → Each (IsCell shape) cells
    cells_of cells h = each_weaker (IsSentCell shape) (IsCell shape) (λ cell k. k.sized) cells h

    copying : (sender view from : ℕ) (cells : List Cell) → IsCounted view → CopySays shape BATCH_LIMIT from cells → SizedShard (on_copy s sender view from cells)
    copying sender view from cells counted says =
        let end = says.stretch.end in
        let again : SizedShard (answers s sender (Copied view (from + length cells))) = record { next = own; sends = ((counted, omega arith), tt) } in
        let next : is_backup s view ≡ true → (from == length_of s) ≡ true → SizedShard (answers (with_store s (extend_cells s.store cells)) sender (Copied s.view (length_of s + length cells))) = λ backup at.
        let start = eqb-true from (length_of s) at in
        let stored = cells_more shape cells s.store own.store (cells_of cells says.each) (omega arith) in
        let grown = stored.long in
        record {
          next = record {
            view = own.view;
            store = stored.sized;
            jobs = jobs_more long (length (extend_cells s.store cells).order) (omega arith) s.jobs own.jobs;
            flush = backup_flush s.primary long (length (extend_cells s.store cells).order) s.flush (and_parts (not s.primary) (s.view == view) backup).0 own.flush;
          };
          sends = ((own.view, omega arith), tt);
        } in
        either SizedShard (not (is_backup s view)) (stays s)
        (if from == length_of s then copies s sender cells else (if nat_le (from + length cells) (length_of s) then answers s sender (Copied view (from + length cells)) else stays s))
        (λ h. stay)
        (λ h. either SizedShard (from == length_of s) (copies s sender cells) (if nat_le (from + length cells) (length_of s) then answers s sender (Copied view (from + length cells)) else stays s)
        (λ k. either SizedShard (has_places (length_of s) (length cells)) (answers (with_store s (extend_cells s.store cells)) sender (Copied s.view (length_of s + length cells))) (stays s)
        (λ m. next (not_false (is_backup s view) h) k) (λ m. stay))
        (λ k. either SizedShard (nat_le (from + length cells) (length_of s)) (answers s sender (Copied view (from + length cells))) (stays s) (λ m. again) (λ m. stay)))

    copied : (sender view upto : ℕ) → SizedShard (on_copied s sender view upto)
    copied sender view upto =
        let settled : SizedShard (settles (record s { backups = raised_of sender upto s.backups })) =
        pushed long (settles (record s { backups = raised_of sender upto s.backups })) (settles_sized shape long (record s { backups = raised_of sender upto s.backups }) (record { sized = record { view = own.view; store = own.store; jobs = own.jobs; flush = own.flush }; same = refl })) in
        search (either SizedShard, settled, stay) depth 12

    -- Stable
    stable : (view upto : ℕ) → SizedShard (on_stable s view upto)
    stable view upto =
        either SizedShard (s.view == view && nat_lt s.store.stable upto && nat_le upto (length_of s) && not (has_open_below s.store upto)) (answers (with_store s (raise_stable s.store upto)) BOARD (Claim upto)) (stays s)
        (λ h.
        let three = and_parts (s.view == view && nat_lt s.store.stable upto && nat_le upto (length_of s)) (not (has_open_below s.store upto)) h in
        let two = and_parts (s.view == view && nat_lt s.store.stable upto) (nat_le upto (length_of s)) three.0 in
        let one = and_parts (s.view == view) (nat_lt s.store.stable upto) two.0 in
        let more = ltb-true s.store.stable upto one.1 in
        let most = leb-true upto (length_of s) two.1 in
        let floor = own.store.floor in
        let limit = own.store.long in
        let stored : Stored shape (raise_stable s.store upto) long = record {
          sized = record { order = own.store.order; held = own.store.held; long = own.store.long; stable = most; floor = omega arith; two = own.store.two };
          long = refl;
        } in
        record { next = (restored (raise_stable s.store upto) stored).sized; sends = (omega arith, tt) })
        (λ h. stay)

    -- Put
    noops : (sender : ℕ) (id : Identity) (bytes : List ℕ) → IsOwn shape id → BytesFit shape.edition bytes → (place : ℕ) → SizedShard (finds_noop s sender id bytes place)
    noops sender id bytes mine fits place =
        either SizedShard (nat_lt place s.store.stable) (answers s sender (Rejected id place)) (stays (with_store s (hold s.store id bytes)))
        (λ h. let below = ltb-true place s.store.stable h in let most = own.store.stable in let limit = own.store.long in record { next = own; sends = ((mine, omega arith), tt) })
        (λ h. record { next = (restored (hold s.store id bytes) (hold_more shape s.store id bytes own.store mine fits)).sized; sends = tt })

    filled : (sender : ℕ) (id : Identity) (bytes : List ℕ) → IsOwn shape id → BytesFit shape.edition bytes → (place : ℕ) → SizedShard (fills s sender id bytes place)
    filled sender id bytes mine fits place =
        let after = with_store s (fill s.store place bytes) in
        let now = restored (fill s.store place bytes) (fill_kept shape s.store place bytes own.store fits) in
        pushed long (fills s sender id bytes place)
        (keeps_followed (Pushed shape long) (λ (to : ℕ) (msg : Msg). Sized shape msg) (answers after sender (DataAck s.view id)) (λ (x : ShardState). pushes_above x place)
        (record { next = now; sends = ((own.view, mine), tt) }) (pushes_above_sized shape long after now place))

    puts : (sender : ℕ) (id : Identity) (bytes : List ℕ) → IsOwn shape id → BytesFit shape.edition bytes → SizedShard (on_put s sender id bytes)
    puts sender id bytes mine fits =
        some_or_none SizedShard (finds_noop s sender id bytes) (noop_at s.store id) (option_map_or (fills s sender id bytes) (open_at s.store id) (holds s sender id bytes))
        (λ place at. noops sender id bytes mine fits place)
        (λ none. some_or_none SizedShard (fills s sender id bytes) (open_at s.store id) (holds s sender id bytes)
        (λ place at. filled sender id bytes mine fits place)
        (λ no. record { next = (restored (hold s.store id bytes) (hold_more shape s.store id bytes own.store mine fits)).sized; sends = ((own.view, mine), tt) }))

    -- Grace
    given : (place : ℕ) → SizedShard (gives_up s place)
    given place = pushed long (gives_up s place) (pushes_above_sized shape long (with_store s (open_to_noop s.store)) (restored (open_to_noop s.store) (noops_kept shape s.store own.store)) place)

    graces : SizedShard (on_grace s)
    graces =
        either SizedShard s.primary (option_map_or (gives_up s) (first_open s.store) (stays s)) (stays s)
        (λ h. some_or_none SizedShard (gives_up s) (first_open s.store) (stays s) (λ place is. given place) (λ none. stay))
        (λ h. stay)

    -- Fetch
    fetching : (sender read from end : ℕ) → IsCounted read → FetchSays from end → SizedShard (on_fetch s sender read from end)
    fetching sender read from end counted says =
        let floor = own.store.floor in
        let most = own.store.stable in
        let limit = own.store.long in
        let few = says.few in
        either SizedShard (nat_lt from s.store.floor) (answers s sender (TrimmedAt read s.store.floor)) (answers s sender (fetched s read from (min end s.store.stable)))
        (λ h. let below = ltb-true from s.store.floor h in record { next = own; sends = ((counted, own.store.two (omega arith), omega arith), tt) })
        (λ h.
        let last : ℕ = min end s.store.stable in
        let cells = take (min end s.store.stable - from) (drop from s.store.order) in
        let left = length-drop from s.store.order in
        let count = length-take (min end s.store.stable - from) (drop from s.store.order) in
        let told = entries_few shape from (take (min end s.store.stable - from) (drop from s.store.order)) in
        record {
          next = own;
          sends = (
            (
              counted,
              says.least,
              record {
                most = omega arith;
                few = omega arith;
                each = entries_placed shape from (take (min end s.store.stable - from) (drop from s.store.order)) (λ some. omega arith)
                    (each_take (IsCell shape) (min end s.store.stable - from) (drop from s.store.order) (each_drop (IsCell shape) from s.store.order own.store.order));
              },
            ),
            tt,
          );
        })

    -- Flush
    flushing : (sender : ℕ) (config : Config) (from : ℕ) (items : List Item) → IsCounted config.view → FlushSays shape from items → SizedShard (on_flush s sender config from items)
    flushing sender config from items counted says =
        let end = says.stretch.end in
        let few = says.stretch.few in
        let told : SizedShard (answers s sender (Flushed s.view)) = record { next = own; sends = (own.view, tt) } in
        let again : SizedShard (flushes_again s sender) =
        some_or_none SizedShard (pushes_flush s) s.flush (if s.primary then answers s sender (Flushed s.view) else stays s)
        (λ job is. pushed long (pushes_flush s job) (pushes_flush_sized shape long s here job (flush_here shape long s own job is)))
        (λ none. either SizedShard s.primary (answers s sender (Flushed s.view)) (stays s) (λ h. told) (λ h. stay)) in
        let begins : takes_flush s config from items ≡ true → SizedShard (pushes_flush (flushed s sender config from items) (record { from = from; asker = sender })) = λ takes.
        let both = and_parts (is_first (replicas_at config s.store.shard) s.node && can_cut s from) (has_places from (length items)) takes in
        let cuts = and_parts (is_first (replicas_at config s.store.shard) s.node) (can_cut s from) both.0 in
        let range = and_parts (nat_le s.store.stable from) (nat_le from (length_of s)) cuts.1 in
        let stored = recut_kept shape s.store from says.shard items own.store (leb-true s.store.stable from range.0) (leb-true from (length_of s) range.1) says.each end in
        let job : IsFlush true (length (recut s.store from items).order) (record { from = from; asker = sender }) = let size = stored.long in record { leads = refl; from = omega arith; few = omega arith } in
        let sized : ShardSized shape (flushed s sender config from items) = record { view = counted; store = stored.sized; jobs = tt; flush = job } in
        pushed (length (recut s.store from items).order) (pushes_flush (flushed s sender config from items) (record { from = from; asker = sender }))
        (pushes_flush_sized shape (length (recut s.store from items).order) (flushed s sender config from items) (record { sized = sized; same = refl }) (record { from = from; asker = sender }) job) in
        either SizedShard (s.view == config.view) (flushes_again s sender)
        (if nat_lt s.view config.view && takes_flush s config from items then pushes_flush (flushed s sender config from items) (record { from = from; asker = sender }) else stays s)
        (λ h. again)
        (λ h. either SizedShard (nat_lt s.view config.view && takes_flush s config from items) (pushes_flush (flushed s sender config from items) (record { from = from; asker = sender })) (stays s)
        (λ k. begins (and_parts (nat_lt s.view config.view) (takes_flush s config from items) k).1) (λ k. stay))

    flush_copying : (sender view from : ℕ) (cells : List Cell) → IsCounted view → CopySays shape PENDING_LIMIT from cells → SizedShard (on_flush_copy s sender view from cells)
    flush_copying sender view from cells counted says =
        let end = says.stretch.end in
        either SizedShard (nat_lt s.view view && can_cut s from && has_places from (length cells)) (answers (flush_copied s view from cells) sender (Copied view (from + length cells)))
        (if is_backup s view && nat_le (from + length cells) (length_of s) then answers s sender (Copied view (from + length cells)) else stays s)
        (λ h.
        let both = and_parts (nat_lt s.view view && can_cut s from) (has_places from (length cells)) h in
        let cuts = and_parts (nat_lt s.view view) (can_cut s from) both.0 in
        let range = and_parts (nat_le s.store.stable from) (nat_le from (length_of s)) cuts.1 in
        let stored = recut_cells_kept shape s.store from cells own.store (leb-true s.store.stable from range.0) (leb-true from (length_of s) range.1) (cells_of cells says.each) end in
        record { next = record { view = counted; store = stored.sized; jobs = tt; flush = tt }; sends = ((counted, end), tt) })
        (λ h. either SizedShard (is_backup s view && nat_le (from + length cells) (length_of s)) (answers s sender (Copied view (from + length cells))) (stays s)
        (λ k. record { next = own; sends = ((counted, end), tt) }) (λ k. stay))

    -- Trim
    trims : (sender read floor : ℕ) → IsCounted read → IsTwo shape.edition → SizedShard (on_trim s sender read floor)
    trims sender read floor counted two =
        either SizedShard (nat_le floor s.store.stable) (answers (with_store s (trim s.store floor)) sender (TrimAck read)) (stays s)
        (λ h. record { next = (restored (trim s.store floor) (trim_kept shape s.store floor own.store (leb-true floor s.store.stable h) two)).sized; sends = ((counted, two), tt) })
        (λ h. stay)

    rows : (sender : ℕ) (msg : Msg) → Sized shape msg → SizedShard (shard_row s sender msg)
    rows sender (Put id bytes) says = puts sender id bytes says.0 says.1
    rows sender (Place view from items) says = placing sender view from items says.1
    rows sender (Copy view from cells) says = copying sender view from cells says.0 says.1
    rows sender (Copied view upto) says = copied sender view upto
    rows sender (Stable view upto) says = stable view upto
    rows sender (Fetch read from end) says = fetching sender read from end says.0 says.1
    rows sender (Flush config from items) says = flushing sender config from items says.0 says.1
    rows sender (FlushCopy view from cells) says = flush_copying sender view from cells says.0 says.1
    rows sender (Trim read floor) says = trims sender read floor says.0 says.1
    rows sender _ says = stay

    takes : (sender : ℕ) (msg : Msg) → Sized shape msg → SizedShard (shard_took s sender msg)
    takes sender msg says =
        either SizedShard (is_turned_away s.shape sender msg) (stays s) (shard_row s sender msg)
        (λ h. stay) (λ h. rows sender msg says)

    pub shard_sized : (input : Input) → SizedInput shape input → SizedShard (shard_step s input)
    shard_sized (Take e) says = takes e.from e.msg says
    shard_sized Grace says = graces
    shard_sized _ says = stay
