-- A sequencing replica keeps its shape, and its configuration is one of that: a message with another one is turned away.
use Rattle.std.proofs.Common.{◌≡◌, ℕ, zero, suc, List, [], ◌∷◌, length, Bool, true, false, refl, ap, ◌∙◌, subst}
use Rattle.std.specs.Prelude.{◌-◌, ◌&&◌, nat_lt, not, if◌then◌else◌}
use Rattle.std.specs.List.{flat_map}
use Rattle.list_facts.proofs.Cases.{either, some_or_none}
use Rattle.rec_id.specs.declared.marks.Marks.{Marks}
use Rattle.view_config.specs.Shape.{Dimensions}
use Rattle.view_config.specs.declared.config.Config.{Config}
use Rattle.lazy_msgs.specs.declared.input.Input.{Input}
use Rattle.lazy_msgs.specs.declared.input.Input.TheVariants.{Take, Tick}
use Rattle.lazy_msgs.specs.declared.msg.Msg.{Msg}
use Rattle.lazy_msgs.specs.declared.msg.Msg.TheVariants.{Append, Placed, Order, Ordered, Probe, ProbeAck, Seal, NewView}
use Rattle.lazy_msgs.specs.Step.{Row}
use Rattle.lazy_rules.specs.Door.{carries_config, carries_window, has_due_items, has_due_sender, is_config, is_turned_away, names_clients}
use Rattle.lazy_rules.specs.Flight.{Batch, flight_end, is_finished, waits_above, with_order, with_place}
use Rattle.lazy_rules.specs.Leading.{begins, behind, finishes, finishes_from, finishing, forces, forcing, leaves, next_batch, passes, place_sends, resends, with_next}
use Rattle.lazy_rules.specs.Roles.{followers_of}
use Rattle.lazy_rules.specs.Rows.{stays, answers, sends_all, followed}
use Rattle.lazy_rules.specs.SeqRules.{in_view, is_leading, notes_order, notes_place, on_probe, on_tick, seq_row, seq_step, seq_took, starts, waits, with_waiting}
use Rattle.lazy_rules.specs.SeqState.{SeqState}
use Rattle.lazy_rules.specs.declared.limits.TheConstants.{FLIGHT_LIMIT}
use Rattle.view_config.specs.Shape.{node_of}
use Rattle.world_facts.proofs.ReaderShape.{Next}

-- what the door lets in carries a configuration of the shape, if any
config_of : (a b c d e : Bool) → (if not a then true else (if not b then true else (if not c then true else (if not d then true else not e)))) ≡ false → e ≡ true
config_of false b c d e h = let wrong : true ≡ false = h in cc
config_of true false c d e h = let wrong : true ≡ false = h in cc
config_of true true false d e h = let wrong : true ≡ false = h in cc
config_of true true true false e h = let wrong : true ≡ false = h in cc
config_of true true true true false h = let wrong : true ≡ false = h in cc
config_of true true true true true h = refl

let_in : (shape : Dimensions) (sender : ℕ) (msg : Msg) → is_turned_away shape sender msg ≡ false → carries_config shape msg ≡ true
let_in shape sender msg h = config_of (has_due_sender (node_of shape sender) msg) (has_due_items msg) (names_clients shape msg) (carries_window shape msg) (carries_config shape msg) h

module _ (shape : Dimensions) where
  -- the replica has this shape, and a configuration of it
  abbrev pub Seated : SeqState → Type 0
  Seated s = (s.shape ≡ shape) × (is_config shape s.config ≡ true)

  abbrev Kept : Row SeqState → Type 0
  Kept = Next Seated

  alike : (s : SeqState) → Seated s → (row : Row SeqState) → row.next.shape ≡ s.shape → row.next.config ≡ s.config → Kept row
  alike s ok row a b = record { next = (a ∙ ok.0, ap (is_config shape) b ∙ ok.1) }

  later : (first : Row SeqState) (more : SeqState → Row SeqState) → Kept (more first.next) → Kept (followed first more)
  later first more h = record { next = h.next }

  begun : (s : SeqState) → Seated s → Kept (begins s)
  begun s ok =
      either Kept (nat_lt (length s.flight) FLIGHT_LIMIT && nat_lt 0 (length (behind s))) (sends_all (with_next s) (place_sends s (next_batch s))) (stays s)
      (λ h. record { next = ok }) (λ h. record { next = ok })

  forced : (room : ℕ) (s : SeqState) → Seated s → Kept (forcing room s)
  forced zero s ok = record { next = ok }
  forced (suc room) s ok =
      let first = begun s ok in
      either Kept (waits_above s.probes (flight_end s.bound s.flight)) (followed (begins s) (forcing room)) (stays s)
      (λ h. later (begins s) (forcing room) (forced room (begins s).next first.next)) (λ h. record { next = ok })

  all_forced : (s : SeqState) → Seated s → Kept (forces s)
  all_forced s ok = forced (FLIGHT_LIMIT - length s.flight) s ok

  left : (batches : List Batch) (s : SeqState) → Seated s → Kept (finishing s batches)
  left [] s ok = record { next = ok }
  left (batch ∷ others) s ok =
      either Kept (is_finished (length (followers_of s.config)) batch) (followed (leaves s batch others) (λ (after : SeqState). finishing after others)) (stays s)
      (λ h. later (leaves s batch others) (λ (after : SeqState). finishing after others) (left others (leaves s batch others).next ok)) (λ h. record { next = ok })

  left_from : (batches : List Batch) (s : SeqState) → Seated s → Kept (finishes_from s batches)
  left_from [] s ok = record { next = ok }
  left_from (batch ∷ others) s ok =
      let first = left (batch ∷ others) s ok in
      either Kept (is_finished (length (followers_of s.config)) batch) (followed (finishing s (batch ∷ others)) forces) (stays s)
      (λ h. later (finishing s (batch ∷ others)) forces (all_forced (finishing s (batch ∷ others)).next first.next)) (λ h. record { next = ok })

  all_left : (s : SeqState) → Seated s → Kept (finishes s)
  all_left s ok = left_from s.flight s ok

  module _ (s : SeqState) (ok : Seated s) where
    stay : Kept (stays s)
    stay = record { next = ok }

    ticked : Kept (on_tick s)
    ticked =
        either Kept (is_leading s s.view) (followed (sends_all s (flat_map (resends s) s.flight)) begins) (stays s)
        (λ h. later (sends_all s (flat_map (resends s) s.flight)) begins (begun s ok)) (λ h. stay)

    placed : (upto shard : ℕ) → Kept (notes_place s upto shard)
    placed upto shard = later (passes (record s { flight = with_place s.flight shard upto })) finishes (all_left (passes (record s { flight = with_place s.flight shard upto })).next ok)

    ordered : (upto follower : ℕ) → Kept (notes_order s upto follower)
    ordered upto follower = all_left (record s { flight = with_order s.flight follower upto }) ok

    waited : (client read : ℕ) → Kept (waits s client read)
    waited client read = let forced : Kept (forces (with_waiting s client read)) = all_forced (with_waiting s client read) ok in search (either Kept, forced, stay) depth 12

    probed : (sender view read : ℕ) → Kept (on_probe s sender view read)
    probed sender view read =
        let waits_for : Kept (followed (answers s sender (ProbeAck view read)) (λ (after : SeqState). waits after sender read)) =
        later (answers s sender (ProbeAck view read)) (λ (after : SeqState). waits after sender read) (waited sender read) in
        search (either Kept, waits_for, alike s ok) depth 12

    started : (sender : ℕ) (config : Config) (base : ℕ) (window : List Marks) → is_config shape config ≡ true → Kept (starts (in_view s config base window) sender)
    started sender config base window named =
        let own : Seated (in_view s config base window) = (ok.0, named) in
        search (either Kept, alike (in_view s config base window) own) depth 12

    rows : (sender : ℕ) (msg : Msg) → carries_config shape msg ≡ true → Kept (seq_row s sender msg)
    rows sender (Append view id bytes) h = search (either Kept, alike s ok) depth 12
    rows sender (Placed view upto) h = search (either Kept, some_or_none {A = ℕ} Kept, placed, stay) depth 12
    rows sender (Order view from ids) h = search (either Kept, alike s ok) depth 12
    rows sender (Ordered view upto) h = search (either Kept, some_or_none {A = ℕ} Kept, ordered, stay) depth 12
    rows sender (Probe view read) h = probed sender view read
    rows sender (Seal view) h = search (either Kept, alike s ok) depth 12
    rows sender (NewView config base window) h = let begins_in = started sender config base window h in search (either Kept, begins_in, alike s ok) depth 12
    rows sender _ h = stay

    takes : (sender : ℕ) (msg : Msg) → Kept (seq_took s sender msg)
    takes sender msg =
        either Kept (is_turned_away s.shape sender msg) (stays s) (seq_row s sender msg) (λ h. stay)
        (λ h. rows sender msg (subst (λ (d : Dimensions). carries_config d msg ≡ true) ok.0 (let_in s.shape sender msg h)))

  pub seat_kept : (s : SeqState) → Seated s → (input : Input) → Seated (seq_step s input).next
  seat_kept s ok (Take e) = (takes s ok e.from e.msg).next
  seat_kept s ok Tick = (ticked s ok).next
  seat_kept s ok _ = ok
