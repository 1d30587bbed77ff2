-- The sizes of what a client's appends have and send.
use Rattle.world_facts.specs.Sizes.{Sized, IsOwn, DueBytes}
use Rattle.lazy_msgs.specs.declared.msg.Msg.TheVariants.{Append, AppendAck, Put, DataAck, Rejected, ViewIs}
use Rattle.view_config.specs.declared.edition.Mode.TheVariants.{M, St}
use Rattle.lazy_msgs.specs.declared.input.Input.TheVariants.{Take, Tick, Post}
use Rattle.world_facts.proofs.sizes.Sends.{AreSized, SizedInput, to_all, two_lists}
use Rattle.lazy_msgs.specs.FrameLimits.{BytesFit, IsCounted, IsWord}
use Rattle.world_facts.specs.MembersOf.{ClientOf}
use Rattle.world_facts.specs.SizesOf.{ClientSized, IsUnfinished}
use Rattle.lazy_rules.specs.ClientState.{ClientState, OpenAppend, id_of, lowest}
use Rattle.view_config.specs.declared.config.Config.{Config}
use Rattle.view_config.specs.Shape.{Dimensions}
use Rattle.list_facts.specs.Lists.{Each}
use Rattle.view_config.specs.declared.edition.Edition.{Edition}
use Rattle.world_facts.proofs.goes.Sends.{GivenTo, each_flat_map}
use Rattle.world_facts.specs.Members.{Goes, IsNamed}
use Rattle.rec_id.specs.Identity.{Identity}
use Rattle.lazy_msgs.specs.declared.input.Input.{Input}
use Rattle.world_facts.proofs.Claims.{Keeps}
use Rattle.view_config.specs.declared.edition.Mode.{Mode}
use Rattle.lazy_msgs.specs.declared.msg.Msg.{Msg}
use Rattle.lazy_msgs.specs.declared.refused.PostRefused.TheVariants.{NumbersSpent, TooLong, WindowFull}
use Rattle.lazy_msgs.specs.declared.refused.PostRefused.{PostRefused}
use Rattle.lazy_rules.specs.declared.limits.TheConstants.{RESENT_LIMIT}
use Rattle.lazy_msgs.specs.Step.{Row}
use Rattle.lazy_rules.specs.ClientRules.{client_row, client_step, client_took, data_nodes, homes_of, in_config, is_complete, on_append_ack, on_client_tick, on_data_ack, on_post, on_rejected, on_view_is, place_of, post_refusal, sending_data, sending_each, sending_record, carried, sending, notes, rejects, lacking, advances, invokes, noted, unacknowledged, finishes, begun}
use Rattle.list_facts.proofs.Members.{each_append, each_in, each_map, each_weaker, in_each}
use Rattle.list_facts.proofs.Places.{each_at}
use Rattle.list_facts.proofs.Changes.{each_set, in_removed}
use Rattle.world_facts.proofs.goes.WithoutNamed.{each_take}
use Rattle.std.proofs.lemmas.Bool.{eqb-false, ltb-false}
use Rattle.std.specs.Option.{is_none, option_map_or}
use Rattle.lazy_rules.specs.Door.{is_turned_away}
use Rattle.lazy_rules.specs.Items.{is_whole}
use Rattle.std.specs.Prelude.{nat_le, nat_lt, slice_set, ◌==◌, if◌then◌else◌}
use Rattle.view_config.specs.Limits.{record_limit, window_of}
use Rattle.list_facts.proofs.Cases.{some_or_none, either}
use Rattle.std.proofs.Common.{◌≡◌, ◌+◌, ◌<◌, ◌≤◌, ◌∷◌, ◌^◌, ◌-◌, [], true, false, None, Some, ℕ, ap, List, subst, Option, Bool, remove, slice_get, take, sym, map, length, arith, refl}
use Rattle.lazy_rules.specs.Rows.{stays}

module _ (shape : Dimensions) (c : ℕ) (few : c < shape.clients) where
  abbrev pub SizedClient : Row ClientState → Type 0
  SizedClient = Keeps (ClientSized shape) (λ (to : ℕ) (msg : Msg). Sized shape msg)

  module _ (s : ClientState) (ok : ClientOf shape c s) (own : ClientSized shape s) where
    stay : SizedClient (stays s)
    stay = record { next = own; sends = tt }

    shaped_edition : s.shape.edition ≡ shape.edition
    shaped_edition = ap (λ (d : Dimensions). d.edition) ok.shaped

    -- another list of appends
    with_appends : (appends : List OpenAppend) → Each (IsUnfinished shape) appends → ClientSized shape (record s { unfinished = appends })
    with_appends appends h = record { view = own.view; least = own.least; word = own.word; unfinished = h }

    own_id : (append : OpenAppend) → IsUnfinished shape append → IsOwn shape (id_of s append.number)
    own_id append h = record { client = subst (λ (n : ℕ). n < shape.clients) (sym ok.numbered) few; least = h.least; word = h.word }

    carried_so : (mode : Mode) (edition : Edition) (bytes : List ℕ) → BytesFit edition bytes → DueBytes (is_whole mode) edition (carried mode bytes)
    carried_so M edition bytes h = h
    carried_so St edition bytes h = tt

    due : (append : OpenAppend) → IsUnfinished shape append → DueBytes (is_whole shape.mode) shape.edition (carried s.shape.mode append.bytes)
    due append h = subst (λ (d : Dimensions). DueBytes (is_whole shape.mode) shape.edition (carried d.mode append.bytes)) (sym ok.shaped) (carried_so shape.mode shape.edition append.bytes h.bytes)

    counted : IsCounted s.config.view
    counted = record { least = ok.config.view; word = own.view }

    mapped : (nodes : List ℕ) (msg : Msg) → Sized shape msg → AreSized shape (map (λ (node : ℕ). (node, msg)) nodes)
    mapped nodes msg h = to_all shape nodes msg h

    sent_append : (append : OpenAppend) → IsUnfinished shape append → AreSized shape (sending s append)
    sent_append append h =
        two_lists shape (sending_data s append) (sending_record s append)
        (mapped (lacking append (data_nodes s.shape.mode (homes_of s (id_of s append.number)))) (Put (id_of s append.number) append.bytes) (own_id append h, h.bytes))
        (mapped (lacking append s.config.seq) (Append s.config.view (id_of s append.number) (carried s.shape.mode append.bytes)) (counted, own_id append h, due append h))

    sent_each : (appends : List OpenAppend) → Each (IsUnfinished shape) appends → SizedClient (sending_each s appends)
    sent_each appends h = record {
      next = own;
      sends = each_flat_map (λ (send : ℕ × Msg). Sized shape send.1) (sending s) (IsUnfinished shape) sent_append appends h;
    }

    -- Post
    free : (o : Option PostRefused) → is_none o ≡ true → o ≡ None
    free None h = refl
    free (Some r) h = let wrong : false ≡ true = h in cc

    tests : (a b d : Bool) (x y z : PostRefused) → (if a then Some x else (if b then Some y else (if d then Some z else None))) ≡ None → (a ≡ false) × (b ≡ false)
    tests true b d x y z h = let wrong : Some x ≡ None = h in cc
    tests false true d x y z h = let wrong : Some y ≡ None = h in cc
    tests false false d x y z h = (refl, refl)

    begins : (bytes : List ℕ) → is_none (post_refusal s (length bytes)) ≡ true → SizedClient (invokes s bytes)
    begins bytes allowed =
        let passed = tests (nat_lt (record_limit s.shape.edition) (length bytes)) (s.next == 2 ^ 32 - 1) (nat_le (lowest s.next s.unfinished + window_of s.shape.edition) s.next) TooLong NumbersSpent (WindowFull (lowest s.next s.unfinished)) (free (post_refusal s (length bytes)) allowed) in
        let short = ltb-false (record_limit s.shape.edition) (length bytes) passed.0 in
        let unspent = eqb-false s.next (2 ^ 32 - 1) passed.1 in
        let word = own.word in
        let fits : BytesFit shape.edition bytes = subst (λ (e : Edition). length bytes ≤ record_limit e) shaped_edition short in
        let new : IsUnfinished shape (begun s bytes) = record { least = own.least; word = own.word; bytes = fits } in
        record {
          next = record {
            view = own.view;
            least = omega arith;
            word = omega arith;
            unfinished = each_append (IsUnfinished shape) s.unfinished (begun s bytes ∷ []) own.unfinished (new, tt);
          };
          sends = sent_append (begun s bytes) new;
        }

    posts : (bytes : List ℕ) → SizedClient (on_post s bytes)
    posts bytes = search (either SizedClient, begins bytes, stay) depth 12

    -- acknowledgements
    removed : (i : ℕ) → Each (IsUnfinished shape) (remove s.unfinished i)
    removed i = in_each (IsUnfinished shape) (remove s.unfinished i) (λ x m. each_in (IsUnfinished shape) s.unfinished own.unfinished x (in_removed s.unfinished i x m))

    advanced : (i : ℕ) (append : OpenAppend) (node : ℕ) → slice_get s.unfinished i ≡ Some append → SizedClient (advances s i (noted append node))
    advanced i append node at =
        let h = each_at (IsUnfinished shape) s.unfinished own.unfinished i append at in
        let same : IsUnfinished shape (noted append node) = record { least = h.least; word = h.word; bytes = h.bytes } in
        either SizedClient (is_complete s (noted append node)) (finishes s i (noted append node)) (stays (record s { unfinished = slice_set s.unfinished i (noted append node) }))
        (λ k. record { next = with_appends (remove s.unfinished i) (removed i); sends = tt })
        (λ k. record { next = with_appends (slice_set s.unfinished i (noted append node)) (each_set (IsUnfinished shape) s.unfinished i (noted append node) own.unfinished same); sends = tt })

    notes_kept : (node number : ℕ) → SizedClient (notes s node number)
    notes_kept node number =
        some_or_none SizedClient (λ (i : ℕ). option_map_or (λ (append : OpenAppend). advances s i (noted append node)) (slice_get s.unfinished i) (stays s)) (place_of s number) (stays s)
        (λ i is. some_or_none SizedClient (λ (append : OpenAppend). advances s i (noted append node)) (slice_get s.unfinished i) (stays s) (λ append at. advanced i append node at) (λ none. stay))
        (λ none. stay)

    rejected : (i : ℕ) (id : Identity) (place : ℕ) → SizedClient (rejects s i id place)
    rejected i id place = record { next = with_appends (remove s.unfinished i) (removed i); sends = tt }

    acks : (sender view : ℕ) (id : Identity) → SizedClient (on_append_ack s sender view id)
    acks sender view id = search (either SizedClient, notes_kept sender id.number, stay) depth 12

    data_acks : (sender view : ℕ) (id : Identity) → SizedClient (on_data_ack s sender view id)
    data_acks sender view id = search (either SizedClient, notes_kept sender id.number, stay) depth 12

    rejections : (id : Identity) (place : ℕ) → SizedClient (on_rejected s id place)
    rejections id place = search (either SizedClient, some_or_none {A = ℕ} SizedClient, rejected, stay) depth 12

  module _ (s : ClientState) (ok : ClientOf shape c s) (own : ClientSized shape s) where
    unacked : (appends : List OpenAppend) → Each (IsUnfinished shape) appends → Each (IsUnfinished shape) (map unacknowledged appends)
    unacked appends h = each_map unacknowledged (IsUnfinished shape) appends (each_weaker (IsUnfinished shape) (λ (a : OpenAppend). IsUnfinished shape (unacknowledged a)) (λ a k. record { least = k.least; word = k.word; bytes = k.bytes }) appends h)

    moved : (config : Config) → IsNamed shape config → IsWord config.view → SizedClient (sending_each (in_config s config) (in_config s config).unfinished)
    moved config named word =
        let later : ClientOf shape c (in_config s config) = record { shaped = ok.shaped; numbered = ok.numbered; config = named } in
        let sized : ClientSized shape (in_config s config) = record { view = word; least = own.least; word = own.word; unfinished = unacked s.unfinished own.unfinished } in
        sent_each (in_config s config) later sized (in_config s config).unfinished sized.unfinished

    views : (config : Config) → IsNamed shape config → IsWord config.view → SizedClient (on_view_is s config)
    views config named word =
        either SizedClient (nat_lt s.config.view config.view) (sending_each (in_config s config) (in_config s config).unfinished) (stays s)
        (λ h. moved config named word) (λ h. stay s ok own)

    rows : (sender : ℕ) (msg : Msg) → Goes shape sender c msg → Sized shape msg → SizedClient (client_row s sender msg)
    rows sender (AppendAck view id) goes says = acks s ok own sender view id
    rows sender (DataAck view id) goes says = data_acks s ok own sender view id
    rows sender (Rejected id place) goes says = rejections s ok own id place
    rows sender (ViewIs config) goes says = views config goes.2 says.word
    rows sender _ goes says = stay s ok own

    takes : (sender : ℕ) (msg : Msg) → Goes shape sender c msg → Sized shape msg → SizedClient (client_took s sender msg)
    takes sender msg goes says =
        either SizedClient (is_turned_away s.shape sender msg) (stays s) (client_row s sender msg)
        (λ h. stay s ok own) (λ h. rows sender msg goes says)

    ticks : SizedClient (on_client_tick s)
    ticks = sent_each s ok own (take RESENT_LIMIT s.unfinished) (each_take (IsUnfinished shape) RESENT_LIMIT s.unfinished own.unfinished)

    pub client_sized : (input : Input) → GivenTo shape c input → SizedInput shape input → SizedClient (client_step s input)
    client_sized (Take e) goes says = takes e.from e.msg goes says
    client_sized Tick goes says = ticks
    client_sized (Post bytes) goes says = posts s ok own bytes
    client_sized _ goes says = stay s ok own
