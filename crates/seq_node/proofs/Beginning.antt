-- Batches that begin.
use Rattle.std.proofs.Common.{◌≡◌, ℕ, zero, suc, ◌+◌, ◌^◌, ◌<◌, ◌≤◌, List, [], ◌∷◌, ◌++◌, Bool, true, false, ◌||◌, cond, ltb, length, append_assoc, append-nil, inl, inr, Some, sym, ap, subst, ◌∙◌, refl, arith}
use Rattle.std.specs.Prelude.{option_map, slice_get, flat_map, map, ◌==◌, if◌then◌else◌}
use Rattle.std.proofs.lemmas.Bool.{cases_Bool, cases_lt, lt-ltb, le-ltb, ltb-true, true≢false}
use Rattle.std.proofs.lemmas.List.{length_push}
use Rattle.binder.specs.declared.batch.Batch.{Batch as Outline}
use Rattle.binder.specs.Binding.{outline}
use Rattle.binder.specs.Sound.{IsFlight}
use Rattle.lazy_msgs.specs.Step.{Row}
use Rattle.lazy_rules.specs.declared.limits.TheConstants.{FLIGHT_LIMIT}
use Rattle.lazy_rules.specs.Flight.{Batch, Probe, flight_end, has_probe_of, new_batch, waits_above, with_probe}
use Rattle.lazy_rules.specs.Leading.{begins, behind, forcing, next_batch, place_sends, with_next}
use Rattle.lazy_rules.specs.Rows.{followed, sends_all, stays}
use Rattle.lazy_rules.specs.SeqRules.{has_positions, is_leader}
use Rattle.lazy_rules.specs.SeqState.{SeqState}
use Rattle.seq_node.specs.Batches.{IsWithin}
use Rattle.seq_node.specs.Beginning.{begun, next_begun, next_count, pending_end, room_for_one, with_begun}
use Rattle.seq_node.specs.Kept.{IsKept, Starts}
use Rattle.seq_node.proofs.Going.{chain_at, chain_place}
use Rattle.seq_node.proofs.Keeping.{starts_push, end_push}
use Rattle.seq_node.proofs.Forcing.{forcing_goes, forcing_stops}
use Rattle.seq_node.proofs.Parts.{behind_long, begins_full, begins_none, begins_next}

-- a batch of a replica's flight is pending
pub within_flight : (s : SeqState) (room shards followers : ℕ) → IsKept s room shards followers → has_positions s ≡ true → IsFlight s.flight
    → (i : ℕ) (seen : Outline) → option_map outline (slice_get s.flight i) ≡ Some seen → IsWithin s seen.from seen.count
within_flight s room shards followers kept fits sound i seen there =
    let place = chain_place s.flight s.bound i seen (chain_at s.flight s.bound sound kept.starts) there in
    record {
      begins = place.0;
      ends = omega (arith, kept.ends, place.1);
      fits = ltb-true (s.bound + length s.pending) (2 ^ 32) fits;
    }

-- ---- the batches that begin, one by one
pub begun_none : (room from end limit : ℕ) → limit ≤ from → begun room from end limit ≡ []
begun_none zero from end limit past = refl
begun_none (suc room) from end limit past =
    ap (λ (b : Bool). cond b (new_batch from (next_count from end) ∷ begun room (from + next_count from end) end limit) []) (le-ltb from limit past)

pub begun_no_room : (room from end limit : ℕ) → room ≡ 0 → begun room from end limit ≡ []
begun_no_room room from end limit none = ap (λ (n : ℕ). begun n from end limit) none

pub begun_next : (room rest from end limit : ℕ) → room ≡ suc rest → from < limit
    → begun room from end limit ≡ new_batch from (next_count from end) ∷ begun rest (from + next_count from end) end limit
begun_next room rest from end limit is below =
    ap (λ (n : ℕ). begun n from end limit) is
    ∙ ap (λ (b : Bool). cond b (new_batch from (next_count from end) ∷ begun rest (from + next_count from end) end limit) []) (lt-ltb from limit below)

pub begun_kept : (room from end limit bound : ℕ) (flight : List Batch) → from ≡ flight_end bound flight → Starts bound flight → limit ≤ end → from ≤ end
    → Starts bound (flight ++ begun room from end limit) × (flight_end bound (flight ++ begun room from end limit) ≤ end)
begun_kept zero from end limit bound flight is starts within before =
    let same : flight ++ [] ≡ flight = append-nil flight in
    (subst (Starts bound) (sym same) starts, omega (arith, ap (flight_end bound) same, is, before))
begun_kept (suc room) from end limit bound flight is starts within before =
    elim (cases_lt from limit) [
      | inl below ↦
          let count = next_count from end in
          let one : List Batch = flight ++ new_batch from count ∷ [] in
          let all : one ++ begun room (from + count) end limit ≡ flight ++ begun (suc room) from end limit =
          append_assoc flight (new_batch from count ∷ []) (begun room (from + count) end limit)
          ∙ ap (λ (l : List Batch). flight ++ l) (sym (begun_next (suc room) room from end limit refl below)) in
          let rest = begun_kept room (from + count) end limit bound one (sym (end_push bound flight from count)) (starts_push bound flight from count is starts) within (omega arith) in
          subst (λ (l : List Batch). Starts bound l × (flight_end bound l ≤ end)) all rest
      | inr past ↦
          let same : flight ++ begun (suc room) from end limit ≡ flight =
          ap (λ (l : List Batch). flight ++ l) (begun_none (suc room) from end limit past) ∙ append-nil flight in
          (subst (Starts bound) (sym same) starts, omega (arith, ap (flight_end bound) same, is, before))
    ]

-- a leader keeps what is true of every replica
pub kept_begun : (s : SeqState) (room shards followers : ℕ) → IsKept s room shards followers → is_leader s ≡ true → (more limit : ℕ) → limit ≤ pending_end s
    → IsKept (with_begun s more limit) room shards followers
kept_begun s room shards followers kept leads more limit within =
    let both = begun_kept more (flight_end s.bound s.flight) (pending_end s) limit s.bound s.flight refl kept.starts within kept.ends in
    record {
      clients = kept.clients;
      room_is = kept.room_is;
      shards_are = kept.shards_are;
      followers_are = kept.followers_are;
      known = kept.known;
      starts = both.0;
      ends = both.1;
      idle = λ follows. absurd (true≢false (sym leads ∙ follows));
    }

-- ---- rows in which batches begin
abbrev pub beginning : SeqState → ℕ → ℕ → Row SeqState
beginning s room limit = sends_all (with_begun s room limit) (flat_map (place_sends s) (next_begun s room limit))

beginning_none : (s : SeqState) (room limit : ℕ) → next_begun s room limit ≡ [] → beginning s room limit ≡ stays s
beginning_none s room limit none =
    let with_all : List Batch → Row SeqState = λ l. sends_all (record s { flight = s.flight ++ l }) (flat_map (place_sends s) l) in
    let with_flight : List Batch → Row SeqState = λ l. stays (record s { flight = l }) in
    ap with_all none ∙ ap with_flight (append-nil s.flight)

-- one of them
beginning_one : (s : SeqState) (room rest limit : ℕ) → room ≡ suc rest → flight_end s.bound s.flight < limit → limit ≤ pending_end s → s.bound ≤ flight_end s.bound s.flight
    → length s.flight < FLIGHT_LIMIT → beginning s room limit ≡ followed (begins s) (λ after. beginning after rest limit)
beginning_one s room rest limit is below within above free =
    let from = flight_end s.bound s.flight in
    let end = pending_end s in
    let long = behind_long s in
    let some : 1 ≤ length (behind s) = omega (arith, long, below, within, above) in
    let batch : Batch = next_batch s in
    let count : next_count from end ≡ batch.count = omega (arith, long, above, within, below) in
    let others : List Batch = begun rest (from + batch.count) end limit in
    let list : next_begun s room limit ≡ batch ∷ others =
    begun_next room rest from end limit is below
    ∙ ap (λ (n : ℕ). new_batch from n ∷ begun rest (from + n) end limit) count in
    let with_all : List Batch → Row SeqState = λ l. sends_all (record s { flight = s.flight ++ l }) (flat_map (place_sends s) l) in
    let place : from + batch.count ≡ flight_end s.bound (s.flight ++ batch ∷ []) = sym (end_push s.bound s.flight from batch.count) in
    let two : List Batch → List Batch → Row SeqState = λ l m. sends_all (record s { flight = l }) (place_sends s batch ++ flat_map (place_sends s) m) in
    ap with_all list
    ∙ ap (λ (l : List Batch). two l others) (sym (append_assoc s.flight (batch ∷ []) others))
    ∙ ap (λ (n : ℕ). two ((s.flight ++ batch ∷ []) ++ begun rest n end limit) (begun rest n end limit)) place
    ∙ sym (ap (λ (r : Row SeqState). followed r (λ after. beginning after rest limit)) (begins_next s free some))

-- FORCE does nothing where BEGIN does nothing
force_nothing : (n : ℕ) (s : SeqState) (b : Bool) → begins s ≡ stays s → forcing n s ≡ stays s → cond b (followed (begins s) (forcing n)) (stays s) ≡ stays s
force_nothing n s true none rest = ap (λ (r : Row SeqState). followed r (forcing n)) none ∙ rest
force_nothing n s false none rest = refl

forcing_nothing : (n : ℕ) (s : SeqState) → begins s ≡ stays s → forcing n s ≡ stays s
forcing_nothing zero s none = refl
forcing_nothing (suc n) s none = force_nothing n s (waits_above s.probes (flight_end s.bound s.flight)) none (forcing_nothing n s none)

-- FORCE begins just these, where below the end a read waits for more than a position if that is below the limit
pub forcing_is : (room : ℕ) (s : SeqState) (limit : ℕ) → length s.flight + room ≤ FLIGHT_LIMIT → s.bound ≤ flight_end s.bound s.flight → limit ≤ pending_end s
    → ((p : ℕ) → s.bound ≤ p → p < pending_end s → waits_above s.probes p ≡ ltb p limit) → flight_end s.bound s.flight ≤ pending_end s
    → forcing room s ≡ beginning s room limit
forcing_is zero s limit free above within waiting inside = sym (beginning_none s 0 limit refl)
forcing_is (suc room) s limit free above within waiting inside =
    let from = flight_end s.bound s.flight in
    let long = behind_long s in
    elim (cases_lt from limit) [
      | inl below ↦
          let waits : waits_above s.probes from ≡ true = waiting from above (omega (arith, below, within)) ∙ lt-ltb from limit below in
          let after : SeqState = with_next s in
          let some : 1 ≤ length (behind s) = omega (arith, long, below, within, above) in
          let one : begins s ≡ sends_all after (place_sends s (next_batch s)) = begins_next s (omega (arith, free)) some in
          let batch : Batch = next_batch s in
          let end : flight_end s.bound after.flight ≡ from + batch.count = end_push s.bound s.flight from batch.count in
          let rest : forcing room after ≡ beginning after room limit =
          forcing_is room after limit (omega (arith, free, length_push s.flight batch)) (omega (arith, end, above)) within waiting (omega (arith, end, long, above, inside)) in
          forcing_goes (suc room) room s refl waits
          ∙ ap (λ (r : Row SeqState). followed r (forcing room)) one
          ∙ ap (λ (r : Row SeqState). let first : Row SeqState = sends_all after (place_sends s batch) in followed first (λ _. r)) rest
          ∙ sym (ap (λ (r : Row SeqState). followed r (λ x. beginning x room limit)) one)
          ∙ sym (beginning_one s (suc room) room limit refl below within above (omega (arith, free)))
      | inr past ↦
          let none : beginning s (suc room) limit ≡ stays s = beginning_none s (suc room) limit (begun_none (suc room) from (pending_end s) limit past) in
          elim (cases_lt from (pending_end s)) [
            | inl below ↦ forcing_stops (suc room) s (waiting from above below ∙ le-ltb from limit past) ∙ sym none
            | inr ended ↦ forcing_nothing (suc room) s (begins_none s (omega (arith, long, ended, above))) ∙ sym none
          ]
    ]

-- BEGIN begins one of them at most
pub begins_is : (s : SeqState) (room : ℕ) → room ≡ room_for_one (length s.flight) → s.bound ≤ flight_end s.bound s.flight → flight_end s.bound s.flight ≤ pending_end s
    → begins s ≡ beginning s room (pending_end s)
begins_is s room is above inside =
    let from = flight_end s.bound s.flight in
    let end = pending_end s in
    let long = behind_long s in
    elim (cases_lt (length s.flight) FLIGHT_LIMIT) [
      | inl free ↦ elim (cases_lt from end) [
        | inl below ↦
            let some : 1 ≤ length (behind s) = omega (arith, long, below, above) in
            let last : beginning s room end ≡ followed (begins s) (λ after. beginning after 0 end) =
            beginning_one s room 0 end (omega (arith, is, free)) below (omega arith) above free in
            let after : SeqState = with_next s in
            let one : begins s ≡ sends_all after (place_sends s (next_batch s)) = begins_next s free some in
            let nothing : beginning after 0 end ≡ stays after = beginning_none after 0 end refl in
            let no_more : followed (sends_all after (place_sends s (next_batch s))) (λ x. stays x) ≡ sends_all after (place_sends s (next_batch s)) =
            ap (sends_all after) (append-nil (place_sends s (next_batch s))) in
            sym (last ∙ ap (λ (r : Row SeqState). followed r (λ x. beginning x 0 end)) one
            ∙ ap (λ (r : Row SeqState). let first : Row SeqState = sends_all after (place_sends s (next_batch s)) in followed first (λ _. r)) nothing
            ∙ no_more ∙ sym one)
        | inr ended ↦
            begins_none s (omega (arith, long, ended, above)) ∙ sym (beginning_none s room end (begun_none room from end end ended))
      ]
      | inr full ↦
          begins_full s full ∙ sym (beginning_none s room end (begun_no_room room from end end (omega (arith, is, full))))
    ]

-- ---- a read waits for all that is pending
or_true : (b : Bool) → (b || true) ≡ true
or_true true = refl
or_true false = refl

waits_replaced : (probes : List Probe) (probe : Probe) (p : ℕ) → p < probe.target → has_probe_of probes probe.client ≡ true
    → waits_above (map (λ other. if other.client == probe.client then probe else other) probes) p ≡ true
waits_replaced [] probe p below has = absurd (true≢false (sym has))
waits_replaced (x ∷ xs) probe p below has =
    let others : List Probe = map (λ other. if other.client == probe.client then probe else other) xs in
    elim (cases_Bool (x.client == probe.client)) [
      | inl same ↦
          ap (λ (b : Bool). let first : Probe = cond b probe x in ltb p first.target || waits_above others p) same
          ∙ ap (λ (b : Bool). b || waits_above others p) (lt-ltb p probe.target below)
      | inr other ↦
          let later : has_probe_of xs probe.client ≡ true = sym (ap (λ (b : Bool). b || has_probe_of xs probe.client) other) ∙ has in
          ap (λ (b : Bool). let first : Probe = cond b probe x in ltb p first.target || waits_above others p) other
          ∙ ap (λ (b : Bool). ltb p x.target || b) (waits_replaced xs probe p below later) ∙ or_true (ltb p x.target)
    ]

waits_last : (probes : List Probe) (probe : Probe) (p : ℕ) → p < probe.target → waits_above (probes ++ probe ∷ []) p ≡ true
waits_last [] probe p below = ap (λ (b : Bool). b || false) (lt-ltb p probe.target below)
waits_last (x ∷ xs) probe p below = ap (λ (b : Bool). ltb p x.target || b) (waits_last xs probe p below) ∙ or_true (ltb p x.target)

pub probe_waits : (probes : List Probe) (probe : Probe) (p : ℕ) → p < probe.target → waits_above (with_probe probes probe) p ≡ true
probe_waits probes probe p below =
    let replaced : List Probe = map (λ other. if other.client == probe.client then probe else other) probes in
    elim (cases_Bool (has_probe_of probes probe.client)) [
      | inl has ↦ ap (λ (b : Bool). waits_above (cond b replaced (probes ++ probe ∷ [])) p) has ∙ waits_replaced probes probe p below has
      | inr none ↦ ap (λ (b : Bool). waits_above (cond b replaced (probes ++ probe ∷ [])) p) none ∙ waits_last probes probe p below
    ]

pub kept_read : (s : SeqState) (room shards followers : ℕ) → IsKept s room shards followers → (probes : List Probe) → IsKept (record s { probes = probes }) room shards followers
kept_read s room shards followers kept probes = record {
  clients = kept.clients;
  room_is = kept.room_is;
  shards_are = kept.shards_are;
  followers_are = kept.followers_are;
  known = kept.known;
  starts = kept.starts;
  ends = kept.ends;
  idle = kept.idle;
}
