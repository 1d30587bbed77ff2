-- The sizes of what a sequencing replica has and sends.
use Rattle.world_facts.specs.Sizes.{Sized, IsOwn, IsPending, IsWindow, DueBytes, OrderSays, line_limit}
use Rattle.lazy_msgs.specs.declared.msg.Msg.TheVariants.{Append, AppendAck, Placed, Order, Ordered, Probe, ProbeAck, TailReady, Seal, Sealed, SealedEmpty, NewView, Started, Stable}
use Rattle.lazy_msgs.specs.declared.input.Input.TheVariants.{Take, Tick}
use Rattle.lazy_rules.specs.Flight.{with_probe, Probe as Waiting, has_later_probe, has_ordering, has_placing, order_noted, place_noted, with_order, with_place}
use Rattle.view_config.specs.declared.config.Config.{Config}
use Rattle.view_config.specs.Shape.{Dimensions}
use Rattle.list_facts.specs.Lists.{Each}
use Rattle.rec_id.specs.Identity.{Identity, has_id}
use Rattle.lazy_msgs.specs.declared.input.Input.{Input}
use Rattle.lazy_msgs.specs.FrameLimits.{IsCounted, IsWord}
use Rattle.world_facts.specs.SizesOf.{IsWaiting, LeaderSized, SeqSized}
use Rattle.rec_id.specs.declared.item.Item.{Item}
use Rattle.world_facts.proofs.sizes.Flight.{Leads, Led, SizedSeq, begins_led, finishes_led, flight_mapped, flight_more, forces_led, led_followed, led_stays, order_counts, order_starts, passes_led, place_counts, place_starts, resent_all_sized, stable_sized, with_flight, led}
use Rattle.rec_id.specs.declared.marks.Marks.{Marks}
use Rattle.lazy_msgs.specs.declared.msg.Msg.{Msg}
use Rattle.lazy_msgs.specs.declared.limits.TheConstants.{PENDING_LIMIT}
use Rattle.lazy_rules.specs.declared.limits.TheConstants.{POSITION_LIMIT}
use Rattle.world_facts.specs.MembersOf.{SeqOf}
use Rattle.lazy_rules.specs.SeqState.{SeqState}
use Rattle.world_facts.proofs.sizes.Sends.{SizedInput, to_all, two_lists}
use Rattle.std.proofs.lemmas.Bool.{and_parts, eqb-true, leb-true, ltb-true}
use Rattle.list_facts.proofs.Members.{each_append}
use Rattle.world_facts.proofs.goes.Sends.{each_filter}
use Rattle.std.specs.List.{flat_map}
use Rattle.lazy_rules.specs.Roles.{follower_of, replicas_of, shard_led_by}
use Rattle.lazy_rules.specs.SeqRules.{has_positions, has_room, in_view, is_active, is_following, is_leader, is_leading, notes_order, notes_place, on_append, on_new_view, on_order, on_ordered, on_placed, on_probe, on_seal, on_tick, seq_row, seq_step, seq_took, tail_sends, with_bound, with_item, with_waiting, binds, waits}
use Rattle.lazy_rules.specs.Door.{is_turned_away}
use Rattle.lazy_rules.specs.Items.{is_whole}
use Rattle.std.proofs.lemmas.List.{length-map}
use Rattle.std.specs.Prelude.{nat_le, nat_lt, max, ◌&&◌, ◌==◌, if◌then◌else◌}
use Rattle.std.specs.Option.{option_map_or}
use Rattle.lazy_rules.specs.Rows.{sends_all, answers, followed, stays}
use Rattle.list_facts.proofs.Cases.{some_or_none, either}
use Rattle.lazy_rules.specs.Leading.{stable_sends, begins, finishes, forces, passes, resends}
use Rattle.world_facts.proofs.sizes.Windows.{window_all, window_more}
use Rattle.world_facts.proofs.goes.Seq.{with_probe_each}
use Rattle.std.proofs.Common.{ap, arith, length, not, refl, sym, ◌≡◌, ◌+◌, ◌≤◌, ◌++◌, ◌∷◌, ◌^◌, ◌∙◌, [], true, false, suc, ℕ, List, Option, Bool, length-append}
use Rattle.view_config.proofs.Kept.{fewer}

module _ (shape : Dimensions) (i : ℕ) where
  module _ (s : SeqState) (ok : SeqOf shape i s) (own : SeqSized shape s) where
    stay : SizedSeq shape (stays s)
    stay = record { next = own; sends = tt }

    -- what is active is in the view, which has started
    active : (view : ℕ) → is_active s view ≡ true → (s.view ≡ view) × (1 ≤ view)
    active view h =
        let both = and_parts (s.view == view && nat_le 1 view) (not s.sealed) h in
        let parts = and_parts (s.view == view) (nat_le 1 view) both.0 in
        (eqb-true s.view view parts.0, leb-true 1 view parts.1)

    leading : (view : ℕ) → is_leading s view ≡ true → Leads shape s
    leading view h =
        let both = and_parts (is_active s view && is_leader s) (has_positions s) h in
        let parts = and_parts (is_active s view) (is_leader s) both.0 in
        let is = active view parts.0 in
        let same = is.0 in
        let least = is.1 in
        record { shaped = ok.shaped; view = omega arith; sized = own; leads = parts.1; leader = own.leads parts.1 }

    -- what is bound and what isn't make no more than a line
    line : s.bound + length s.pending ≤ line_limit
    line = by s.pending refl
      where
        by : (items : List Item) → s.pending ≡ items → s.bound + length s.pending ≤ line_limit
        by [] is = let none : length s.pending ≡ 0 = ap length is in let bound = own.bound in omega arith
        by (item ∷ items) is = let some : length s.pending ≡ suc (length items) = ap length is in let few = own.few in let room = own.room (omega arith) in omega arith

    -- Append
    with_one : (id : Identity) (bytes : Option (List ℕ)) → IsOwn shape id → DueBytes (is_whole shape.mode) shape.edition bytes → has_room s ≡ true → SeqSized shape (with_item s id bytes)
    with_one id bytes mine due room =
        let both = and_parts (nat_lt (length s.pending) PENDING_LIMIT) (nat_lt (s.bound + length s.pending) POSITION_LIMIT) room in
        let few = ltb-true (length s.pending) PENDING_LIMIT both.0 in
        let positions = ltb-true (s.bound + length s.pending) POSITION_LIMIT both.1 in
        let long = length-append s.pending (record { id = id; bytes = bytes } ∷ []) in
        record {
          view = own.view;
          few = omega arith;
          bound = own.bound;
          room = λ k. omega arith;
          pending = each_append (IsPending shape) s.pending (record { id = id; bytes = bytes } ∷ []) own.pending (record { id = mine; bytes = due }, tt);
          window = window_more shape s.window id own.window mine;
          probes = own.probes;
          leads = λ k. record {
            flight = flight_more s.bound (s.bound + length s.pending) (s.bound + length (s.pending ++ record { id = id; bytes = bytes } ∷ [])) (omega arith) s.flight (own.leads k).flight;
            few = (own.leads k).few;
            room = λ m. omega arith;
          };
        }

    appends : (view : ℕ) (id : Identity) (bytes : Option (List ℕ)) → IsCounted view → IsOwn shape id → DueBytes (is_whole shape.mode) shape.edition bytes → SizedSeq shape (on_append s view id bytes)
    appends view id bytes counted mine due =
        let again : SizedSeq shape (answers s id.client (AppendAck view id)) = record { next = own; sends = ((counted, mine), tt) } in
        let new : has_room s ≡ true → SizedSeq shape (answers (with_item s id bytes) id.client (AppendAck view id)) = λ room. record { next = with_one id bytes mine due room; sends = ((counted, mine), tt) } in
        search (either (SizedSeq shape), again, new, stay) depth 12

    -- Tick
    ticks : SizedSeq shape (on_tick s)
    ticks =
        either (SizedSeq shape) (is_leading s s.view) (followed (sends_all s (flat_map (resends s) s.flight)) begins) (stays s)
        (λ h. let leads = leading s.view h in
        led shape (followed (sends_all s (flat_map (resends s) s.flight)) begins)
        (led_followed shape (sends_all s (flat_map (resends s) s.flight)) begins (record { after = leads; sends = resent_all_sized shape s leads }) (begins_led shape s leads)))
        (λ h. stay)

    -- Placed, Ordered
    notes_placed : (upto shard : ℕ) → Leads shape s → SizedSeq shape (notes_place s upto shard)
    notes_placed upto shard leads =
        let noted = with_flight shape s leads (with_place s.flight shard upto)
        (flight_mapped (place_noted upto shard) (place_starts upto shard) (place_counts upto shard) s.bound (s.bound + length s.pending) s.flight leads.leader.flight)
        (let few = leads.leader.few in let long = length-map s.flight (place_noted upto shard) in omega arith) in
        let first = passes_led shape (record s { flight = with_place s.flight shard upto }) noted in
        led shape (notes_place s upto shard)
        (led_followed shape (passes (record s { flight = with_place s.flight shard upto })) finishes first (finishes_led shape (passes (record s { flight = with_place s.flight shard upto })).next first.after))

    placed : (sender view upto : ℕ) → SizedSeq shape (on_placed s sender view upto)
    placed sender view upto =
        either (SizedSeq shape) (not (is_leading s view)) (stays s) (if not (has_placing s.flight upto) then stays s else option_map_or (notes_place s upto) (shard_led_by s.config sender) (stays s))
        (λ h. stay)
        (λ h. let leads = leading view (not_false (is_leading s view) h) in
        either (SizedSeq shape) (not (has_placing s.flight upto)) (stays s) (option_map_or (notes_place s upto) (shard_led_by s.config sender) (stays s))
        (λ k. stay)
        (λ k. some_or_none (SizedSeq shape) (notes_place s upto) (shard_led_by s.config sender) (stays s) (λ shard is. notes_placed upto shard leads) (λ none. stay)))
      where
        not_false : (b : Bool) → not b ≡ false → b ≡ true
        not_false true h = refl
        not_false false h = let wrong : true ≡ false = h in absurd (let no : ⊥ = cc in no)

    notes_ordered : (upto follower : ℕ) → Leads shape s → SizedSeq shape (notes_order s upto follower)
    notes_ordered upto follower leads =
        let noted = with_flight shape s leads (with_order s.flight follower upto)
        (flight_mapped (order_noted upto follower) (order_starts upto follower) (order_counts upto follower) s.bound (s.bound + length s.pending) s.flight leads.leader.flight)
        (let few = leads.leader.few in let long = length-map s.flight (order_noted upto follower) in omega arith) in
        led shape (notes_order s upto follower) (finishes_led shape (record s { flight = with_order s.flight follower upto }) noted)

    ordered : (sender view upto : ℕ) → SizedSeq shape (on_ordered s sender view upto)
    ordered sender view upto =
        either (SizedSeq shape) (not (is_leading s view)) (stays s) (if not (has_ordering s.flight upto) then stays s else option_map_or (notes_order s upto) (follower_of s.config sender) (stays s))
        (λ h. stay)
        (λ h. let leads = leading view (not_false (is_leading s view) h) in
        either (SizedSeq shape) (not (has_ordering s.flight upto)) (stays s) (option_map_or (notes_order s upto) (follower_of s.config sender) (stays s))
        (λ k. stay)
        (λ k. some_or_none (SizedSeq shape) (notes_order s upto) (follower_of s.config sender) (stays s) (λ follower is. notes_ordered upto follower leads) (λ none. stay)))
      where
        not_false : (b : Bool) → not b ≡ false → b ≡ true
        not_false true h = refl
        not_false false h = let wrong : true ≡ false = h in absurd (let no : ⊥ = cc in no)

    -- Order
    bound_more : (ids : List Identity) → is_leader s ≡ false → s.bound + length ids ≤ POSITION_LIMIT → Each (IsOwn shape) ids → SeqSized shape (with_bound s ids)
    bound_more ids follows end mine =
        let fewer_left = fewer (λ (item : Item). not (has_id ids item.id)) s.pending in
        let few = own.few in
        record {
          view = own.view;
          few = omega arith;
          bound = omega arith;
          room = λ k. omega arith;
          pending = each_filter (IsPending shape) (λ (item : Item). not (has_id ids item.id)) s.pending own.pending;
          window = window_all shape s.window ids own.window mine;
          probes = own.probes;
          leads = λ k. let wrong : true ≡ false = sym k ∙ follows in absurd (let no : ⊥ = cc in no);
        }

    orders : (sender view from : ℕ) (ids : List Identity) → IsCounted view → OrderSays shape from ids → SizedSeq shape (on_order s sender view from ids)
    orders sender view from ids counted says =
        let end = says.stretch.end in
        either (SizedSeq shape) (not (is_following s view)) (stays s) (if from == s.bound then binds s sender view ids else (if nat_le (from + length ids) s.bound then answers s sender (Ordered view (from + length ids)) else stays s))
        (λ h. stay)
        (λ h.
        let follows = not_true (is_leader s) (and_parts (is_active s view) (not (is_leader s)) (not_false (is_following s view) h)).1 in
        either (SizedSeq shape) (from == s.bound) (binds s sender view ids) (if nat_le (from + length ids) s.bound then answers s sender (Ordered view (from + length ids)) else stays s)
        (λ k.
        let same = eqb-true from s.bound k in
        either (SizedSeq shape) (nat_lt (s.bound + length ids) (2 ^ 32)) (answers (with_bound s ids) sender (Ordered view (s.bound + length ids))) (stays s)
        (λ m. record { next = bound_more ids follows (omega arith) says.each; sends = ((counted, omega arith), tt) })
        (λ m. stay))
        (λ k. either (SizedSeq shape) (nat_le (from + length ids) s.bound) (answers s sender (Ordered view (from + length ids))) (stays s)
        (λ m. record { next = own; sends = ((counted, omega arith), tt) })
        (λ m. stay)))
      where
        not_false : (b : Bool) → not b ≡ false → b ≡ true
        not_false true h = refl
        not_false false h = let wrong : true ≡ false = h in absurd (let no : ⊥ = cc in no)

        not_true : (b : Bool) → not b ≡ true → b ≡ false
        not_true false h = refl
        not_true true h = let wrong : false ≡ true = h in absurd (let no : ⊥ = cc in no)

    -- Probe
    put_waiting : (probe : Waiting) → IsWaiting probe → Each IsWaiting (with_probe s.probes probe)
    put_waiting probe h = with_probe_each IsWaiting probe h s.probes own.probes

    waiting : (client read : ℕ) → IsCounted read → Leads shape s → Leads shape (with_waiting s client read)
    waiting client read counted leads =
        let leader : LeaderSized (with_waiting s client read) = record { flight = leads.leader.flight; few = leads.leader.few; room = leads.leader.room } in
        record {
          shaped = leads.shaped;
          view = leads.view;
          leads = leads.leads;
          leader = leader;
          sized = record {
            view = own.view;
            few = own.few;
            bound = own.bound;
            room = own.room;
            pending = own.pending;
            window = own.window;
            probes = put_waiting (record { client = client; read = read; target = s.bound + length s.pending }) (record { read = counted; target = line });
            leads = λ k. leader;
          };
        }

    waited : (client read : ℕ) → IsCounted read → Leads shape s → Led shape (waits s client read)
    waited client read counted leads =
        either (Led shape) (has_later_probe s.probes client read) (stays s) (forces (with_waiting s client read))
        (λ h. led_stays shape s leads)
        (λ h. forces_led shape (with_waiting s client read) (waiting client read counted leads))

    probed : (sender view read : ℕ) → IsCounted view → IsCounted read → SizedSeq shape (on_probe s sender view read)
    probed sender view read counted numbered =
        let acks : SizedSeq shape (answers s sender (ProbeAck view read)) = record { next = own; sends = ((counted, numbered), tt) } in
        let tells : is_leading s view ≡ true → SizedSeq shape (sends_all s ((sender, ProbeAck view read) ∷ tail_sends s sender read)) = λ h. let leads = leading view h in record {
          next = own;
          sends = ((counted, numbered), two_lists shape (stable_sends s s.bound) ((sender, TailReady s.view read s.bound) ∷ []) (stable_sized shape s leads s.bound own.bound) ((record { least = leads.view; word = own.view }, numbered, own.bound), tt));
        } in
        let waits_on : is_leading s view ≡ true → SizedSeq shape (followed (answers s sender (ProbeAck view read)) (λ (after : SeqState). waits after sender read)) = λ h. let leads = leading view h in
        led shape (followed (answers s sender (ProbeAck view read)) (λ (after : SeqState). waits after sender read))
        (led_followed shape (answers s sender (ProbeAck view read)) (λ (after : SeqState). waits after sender read) (record { after = leads; sends = ((counted, numbered), tt) }) (waited sender read numbered leads)) in
        either (SizedSeq shape) (is_following s view) (answers s sender (ProbeAck view read))
        (if not (is_leading s view) then stays s else (if length s.pending == 0 then sends_all s ((sender, ProbeAck view read) ∷ tail_sends s sender read) else followed (answers s sender (ProbeAck view read)) (λ (after : SeqState). waits after sender read)))
        (λ h. acks)
        (λ h. either (SizedSeq shape) (not (is_leading s view)) (stays s) (if length s.pending == 0 then sends_all s ((sender, ProbeAck view read) ∷ tail_sends s sender read) else followed (answers s sender (ProbeAck view read)) (λ (after : SeqState). waits after sender read))
        (λ k. stay)
        (λ k. either (SizedSeq shape) (length s.pending == 0) (sends_all s ((sender, ProbeAck view read) ∷ tail_sends s sender read)) (followed (answers s sender (ProbeAck view read)) (λ (after : SeqState). waits after sender read))
        (λ m. tells (not_false (is_leading s view) k)) (λ m. waits_on (not_false (is_leading s view) k))))
      where
        not_false : (b : Bool) → not b ≡ false → b ≡ true
        not_false true h = refl
        not_false false h = let wrong : true ≡ false = h in absurd (let no : ⊥ = cc in no)

    -- Seal
    sealing : SeqSized shape (record s { sealed = true })
    sealing = record {
      view = own.view;
      few = own.few;
      bound = own.bound;
      room = own.room;
      pending = own.pending;
      window = own.window;
      probes = own.probes;
      leads = λ k. record { flight = (own.leads k).flight; few = (own.leads k).few; room = (own.leads k).room };
    }

    barring : (view : ℕ) → SeqSized shape (record s { barred = max s.barred view })
    barring view = record {
      view = own.view;
      few = own.few;
      bound = own.bound;
      room = own.room;
      pending = own.pending;
      window = own.window;
      probes = own.probes;
      leads = λ k. record { flight = (own.leads k).flight; few = (own.leads k).few; room = (own.leads k).room };
    }

    seals : (sender view : ℕ) → IsCounted view → SizedSeq shape (on_seal s sender view)
    seals sender view counted =
        let told : SizedSeq shape (answers (record s { sealed = true }) sender (Sealed view s.bound s.window s.pending)) = record {
          next = sealing;
          sends = ((counted, record { stretch = record { few = own.few; end = line }; marks = own.window; each = own.pending }), tt);
        } in
        let bars : SizedSeq shape (answers (record s { barred = max s.barred view }) sender (SealedEmpty view)) = record { next = barring view; sends = (counted, tt) } in
        search (either (SizedSeq shape), told, bars, stay) depth 12

  module _ (s : SeqState) (ok : SeqOf shape i s) (own : SeqSized shape s) where
    -- NewView
    entered : (config : Config) (base : ℕ) (window : List Marks) → IsWord config.view → base ≤ line_limit → IsWindow shape window → SeqSized shape (in_view s config base window)
    entered config base window word most marks = record {
      view = word;
      few = omega arith;
      bound = most;
      room = λ k. absurd (omega arith);
      pending = tt;
      window = marks;
      probes = tt;
      leads = λ k. record { flight = tt; few = omega arith; room = λ m. absurd (omega arith) };
    }

    views : (sender : ℕ) (config : Config) (base : ℕ) (window : List Marks) → IsCounted config.view → base ≤ line_limit → IsWindow shape window → SizedSeq shape (on_new_view s sender config base window)
    views sender config base window counted most marks =
        let after : SeqState = in_view s config base window in
        let sized = entered config base window counted.word most marks in
        let leads : SizedSeq shape (sends_all after ((sender, Started config.view) ∷ stable_sends after base)) = record {
          next = sized;
          sends = (counted, to_all shape (replicas_of config) (Stable config.view base) (counted, most));
        } in
        let follows : SizedSeq shape (answers after sender (Started config.view)) = record { next = sized; sends = (counted, tt) } in
        let again : SizedSeq shape (answers s sender (Started config.view)) = record { next = own; sends = (counted, tt) } in
        let left = stay s ok own in
        search (either (SizedSeq shape), leads, follows, again, left) depth 12

    rows : (sender : ℕ) (msg : Msg) → Sized shape msg → SizedSeq shape (seq_row s sender msg)
    rows sender (Append view id bytes) says = appends s ok own view id bytes says.0 says.1 says.2
    rows sender (Placed view upto) says = placed s ok own sender view upto
    rows sender (Order view from ids) says = orders s ok own sender view from ids says.0 says.1
    rows sender (Ordered view upto) says = ordered s ok own sender view upto
    rows sender (Probe view read) says = probed s ok own sender view read says.0 says.1
    rows sender (Seal view) says = seals s ok own sender view says
    rows sender (NewView config base window) says = views sender config base window says.0 says.1 says.2
    rows sender _ says = stay s ok own

    takes : (sender : ℕ) (msg : Msg) → Sized shape msg → SizedSeq shape (seq_took s sender msg)
    takes sender msg says =
        either (SizedSeq shape) (is_turned_away s.shape sender msg) (stays s) (seq_row s sender msg)
        (λ h. stay s ok own) (λ h. rows sender msg says)

    pub seq_sized : (input : Input) → SizedInput shape input → SizedSeq shape (seq_step s input)
    seq_sized (Take e) says = takes e.from e.msg says
    seq_sized Tick says = ticks s ok own
    seq_sized _ says = stay s ok own
