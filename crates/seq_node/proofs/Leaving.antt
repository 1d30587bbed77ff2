-- The first batches leave: what is told then, and what is left.
use Rattle.std.proofs.Common.{◌≡◌, ℕ, zero, suc, ◌+◌, ◌-◌, ◌<◌, ◌≤◌, min, List, [], ◌∷◌, ◌++◌, Bool, true, false, not, ◌&&◌, ◌||◌, cond, leb, ltb, length, take, drop, drop-cons, get_or, append-nil, inl, inr, sym, ap, subst, ◌∙◌, refl, arith, ◌^◌}
use Rattle.std.specs.Prelude.{flat_map, filter, is_some, option_map, slice_get, Option, None, Some}
use Rattle.std.proofs.Math.Dec.{leb-zero}
use Rattle.std.proofs.lemmas.Bool.{cases_Bool, cases_eq, cases_lt, eq-eqb, leb-false, le-leb, lt-leb, le-ltb, lt-ltb, ltb-true, ne_eqb}
use Rattle.std.proofs.lemmas.List.{drop-drop, length-drop}
use Rattle.binder.specs.declared.batch.Batch.{Batch as Outline}
use Rattle.binder.specs.Binding.{after_finish, leaving, outline}
use Rattle.binder.specs.Sound.{IsChain, IsFlight}
use Rattle.binder.proofs.Chains.{SameSpans, chain_same}
use Rattle.rec_id.specs.declared.item.Item.{Item}
use Rattle.view_config.specs.declared.config.Config.{Config}
use Rattle.lazy_msgs.specs.declared.msg.Msg.{Msg}
use Rattle.lazy_msgs.specs.declared.msg.Msg.TheVariants.{Stable}
use Rattle.lazy_msgs.specs.Step.{Row}
use Rattle.lazy_rules.specs.Flight.{Batch, Probe, batch_end, finish, flight_end, is_finished, new_batch, ready_probes, waiting_probes, waits_above}
use Rattle.lazy_rules.specs.Leading.{finishes, finishing, forces, forcing, leaves, place_sends}
use Rattle.lazy_rules.specs.Roles.{followers_of, replicas_of}
use Rattle.lazy_rules.specs.Rows.{followed, joined, sends_all, stays, to_each}
use Rattle.lazy_rules.specs.SeqRules.{has_positions, is_leader}
use Rattle.lazy_rules.specs.SeqState.{SeqState}
use Rattle.lazy_rules.specs.declared.limits.TheConstants.{FLIGHT_LIMIT}
use Rattle.seq_node.specs.Beginning.{begun, next_begun, next_count, pending_end, with_begun}
use Rattle.seq_node.specs.Kept.{IsKept, Starts}
use Rattle.seq_node.specs.Leaving.{first_leaves, is_told, left_sends, room_once_left, told, told_in}
use Rattle.seq_node.proofs.Going.{ahead, chain_at, finishes_goes, finishes_stays, finishing_stays, IsAhead, Lead, long, made, places_same, starts_tail}
use Rattle.seq_node.proofs.Noting.{end_same, long_same, starts_same}
use Rattle.seq_node.proofs.Known.{all_drop}
use Rattle.seq_node.proofs.Parts.{end_grows, part_next}
use Rattle.seq_node.proofs.Beginning.{beginning, begun_next, begun_none, forcing_is}

-- ---- the reads that wait for so many positions at least
abbrev pub from_on : ℕ → List Probe → List Probe
from_on low probes = filter (λ probe. leb low probe.target) probes

pub from_first : (probes : List Probe) → from_on 0 probes ≡ probes
from_first [] = refl
from_first (x ∷ xs) =
    ap (λ (b : Bool). cond b (x ∷ from_on 0 xs) (from_on 0 xs)) (leb-zero x.target)
    ∙ ap (λ (l : List Probe). x ∷ l) (from_first xs)

le_both : (low upto : ℕ) (x : Probe) (xs : List Probe)
    → ready_probes upto (cond (leb low x.target) (x ∷ xs) xs) ≡ cond (is_told low upto x) (x ∷ ready_probes upto xs) (ready_probes upto xs)
le_both low upto x xs = by_test (leb low x.target)
  where
    by_test : (b : Bool) → ready_probes upto (cond b (x ∷ xs) xs) ≡ cond (b && leb x.target upto) (x ∷ ready_probes upto xs) (ready_probes upto xs)
    by_test true = refl
    by_test false = refl

pub ready_from : (low upto : ℕ) (probes : List Probe) → ready_probes upto (from_on low probes) ≡ told_in low upto probes
ready_from low upto [] = refl
ready_from low upto (x ∷ xs) =
    le_both low upto x (from_on low xs)
    ∙ ap (λ (l : List Probe). cond (is_told low upto x) (x ∷ l) l) (ready_from low upto xs)

above_too : (low upto target : ℕ) → low ≤ upto + 1 → (leb low target && not (leb target upto)) ≡ leb (upto + 1) target
above_too low upto target below = elim (cases_lt upto target) [
  | inl past ↦
      ap (λ (b : Bool). b && not (leb target upto)) (le-leb low target (omega arith))
      ∙ ap (λ (b : Bool). not b) (lt-leb target upto past)
      ∙ sym (le-leb (upto + 1) target (omega (arith, past)))
  | inr within ↦
      ap (λ (b : Bool). leb low target && not b) (le-leb target upto within)
      ∙ and_none (leb low target)
      ∙ sym (lt-leb (upto + 1) target (omega (arith, within)))
]
  where
    and_none : (b : Bool) → (b && false) ≡ false
    and_none true = refl
    and_none false = refl

waiting_step : (low upto : ℕ) (x : Probe) (xs : List Probe)
    → waiting_probes upto (cond (leb low x.target) (x ∷ xs) xs) ≡ cond (leb low x.target && not (leb x.target upto)) (x ∷ waiting_probes upto xs) (waiting_probes upto xs)
waiting_step low upto x xs = by_test (leb low x.target)
  where
    by_test : (b : Bool) → waiting_probes upto (cond b (x ∷ xs) xs) ≡ cond (b && not (leb x.target upto)) (x ∷ waiting_probes upto xs) (waiting_probes upto xs)
    by_test true = refl
    by_test false = refl

pub waiting_from : (low upto : ℕ) (probes : List Probe) → low ≤ upto + 1 → waiting_probes upto (from_on low probes) ≡ from_on (upto + 1) probes
waiting_from low upto [] below = refl
waiting_from low upto (x ∷ xs) below =
    waiting_step low upto x (from_on low xs)
    ∙ ap (λ (l : List Probe). cond (leb low x.target && not (leb x.target upto)) (x ∷ l) l) (waiting_from low upto xs below)
    ∙ ap (λ (b : Bool). cond b (x ∷ from_on (upto + 1) xs) (from_on (upto + 1) xs)) (above_too low upto x.target below)

-- a read that waits for more than a position from low on is among them
pub waits_from : (low p : ℕ) (probes : List Probe) → low ≤ p + 1 → waits_above (from_on low probes) p ≡ waits_above probes p
waits_from low p [] below = refl
waits_from low p (x ∷ xs) below = elim (cases_Bool (leb low x.target)) [
  | inl here ↦
      ap (λ (b : Bool). waits_above (cond b (x ∷ from_on low xs) (from_on low xs)) p) here
      ∙ ap (λ (b : Bool). ltb p x.target || b) (waits_from low p xs below)
  | inr before ↦
      let late : ltb p x.target ≡ false = le-ltb p x.target (omega (arith, below, leb-false low x.target before)) in
      ap (λ (b : Bool). waits_above (cond b (x ∷ from_on low xs) (from_on low xs)) p) before
      ∙ waits_from low p xs below
      ∙ sym (ap (λ (b : Bool). b || waits_above xs p) late)
]

-- ---- what is told of them, read by read
pub told_next : (view low upto : ℕ) (p : Probe) (ps : List Probe)
    → told view (told_in low upto (p ∷ ps)) ≡ told view (told_in low upto (p ∷ [])) ++ told view (told_in low upto ps)
told_next view low upto p ps = by_test (is_told low upto p)
  where
    by_test : (b : Bool) → told view (cond b (p ∷ told_in low upto ps) (told_in low upto ps)) ≡ told view (cond b (p ∷ []) []) ++ told view (told_in low upto ps)
    by_test true = refl
    by_test false = refl

pub told_drop : (view low upto : ℕ) (probes : List Probe) (i : ℕ) (d : Probe) → i < length probes
    → told view (told_in low upto (drop i probes)) ≡ told view (told_in low upto (get_or probes i d ∷ [])) ++ told view (told_in low upto (drop (i + 1) probes))
told_drop view low upto probes i d inside =
    let split : drop i probes ≡ get_or probes i d ∷ drop (suc i) probes = rw (drop-cons probes i d) refl in
    let next : suc i ≡ i + 1 = omega arith in
    ap (λ (l : List Probe). told view (told_in low upto l)) split
    ∙ told_next view low upto (get_or probes i d) (drop (suc i) probes)
    ∙ ap (λ (k : ℕ). told view (told_in low upto (get_or probes i d ∷ [])) ++ told view (told_in low upto (drop k probes))) next

pub not_told_below : (low upto : ℕ) (p : Probe) → p.target < low → told_in low upto (p ∷ []) ≡ []
not_told_below low upto p below =
    ap (λ (b : Bool). cond (b && leb p.target upto) (p ∷ []) []) (lt-leb low p.target below)

pub not_told_above : (low upto : ℕ) (p : Probe) → upto < p.target → told_in low upto (p ∷ []) ≡ []
not_told_above low upto p above =
    ap (λ (b : Bool). cond (leb low p.target && b) (p ∷ []) []) (lt-leb p.target upto above) ∙ by_test (leb low p.target)
  where
    by_test : (b : Bool) → cond (b && false) (p ∷ []) [] ≡ []
    by_test true = refl
    by_test false = refl

pub told_here : (low upto : ℕ) (p : Probe) → low ≤ p.target → p.target ≤ upto → told_in low upto (p ∷ []) ≡ p ∷ []
told_here low upto p above below =
    ap (λ (b : Bool). cond (b && leb p.target upto) (p ∷ []) []) (le-leb low p.target above)
    ∙ ap (λ (b : Bool). cond b (p ∷ []) []) (le-leb p.target upto below)

-- where a batch ends, by what callers see of it
pub seen_end : (flight : List Batch) (i : ℕ) (seen : Outline) → option_map outline (slice_get flight i) ≡ Some seen → option_map batch_end (slice_get flight i) ≡ Some (seen.from + seen.count)
seen_end flight i seen is = by_option (slice_get flight i) is
  where
    by_option : (o : Option Batch) → option_map outline o ≡ Some seen → option_map batch_end o ≡ Some (seen.from + seen.count)
    by_option None none = let wrong : None ≡ Some seen = none in cc
    by_option (Some batch) some =
        let same : outline batch ≡ seen = cc in
        ap (λ (o : Outline). Some (o.from + o.count)) same

pub end_is : (flight : List Batch) (i upto : ℕ) (batch : Batch) → slice_get flight i ≡ Some batch → option_map batch_end (slice_get flight i) ≡ Some upto → batch_end batch ≡ upto
end_is flight i upto batch there is =
    let same : Some (batch_end batch) ≡ Some upto = sym (ap (option_map batch_end) there) ∙ is in
    cc

-- ---- what is told of batches that leave is told of those at the same places
pub left_same : (config : Config) (view low : ℕ) (probes : List Probe) (n : ℕ) (xs ys : List Batch) → SameSpans xs ys
    → left_sends config view low probes (take n xs) ≡ left_sends config view low probes (take n ys)
left_same config view low probes zero xs ys same = refl
left_same config view low probes (suc n) [] [] same = refl
left_same config view low probes (suc n) [] (y ∷ ys) same = absurd same
left_same config view low probes (suc n) (x ∷ xs) [] same = absurd same
left_same config view low probes (suc n) (x ∷ xs) (y ∷ ys) same =
    let place : batch_end x ≡ batch_end y = omega (arith, same.0, same.1) in
    let here : ℕ → List (ℕ × Msg) = λ upto. to_each (replicas_of config) (Stable view upto) ++ told view (told_in low upto probes) in
    ap (λ (l : List (ℕ × Msg)). here (batch_end x) ++ l) (left_same config view (batch_end x + 1) probes n xs ys same.2)
    ∙ ap (λ (upto : ℕ). here upto ++ left_sends config view (upto + 1) probes (take n ys)) place

-- the next of them
pub left_next : (config : Config) (view low : ℕ) (probes : List Probe) (n i : ℕ) (flight : List Batch) (batch : Batch) → slice_get flight i ≡ Some batch → i < n
    → left_sends config view low probes (drop i (take n flight))
    ≡ (to_each (replicas_of config) (Stable view (batch_end batch)) ++ told view (told_in low (batch_end batch) probes)) ++ left_sends config view (batch_end batch + 1) probes (drop (i + 1) (take n flight))
left_next config view low probes n i flight batch there inside =
    let next : suc i ≡ i + 1 = omega arith in
    ap (left_sends config view low probes) (part_next flight 0 n i i batch (omega arith) there inside)
    ∙ ap (λ (k : ℕ). (to_each (replicas_of config) (Stable view (batch_end batch)) ++ told view (told_in low (batch_end batch) probes)) ++ left_sends config view (batch_end batch + 1) probes (drop k (take n flight))) next

-- ---- what FINISH comes to, before FORCE: a replica that is ahead of this one
pub record IsGone (s : SeqState) (row : Row SeqState) (sends : List (ℕ × Msg)) (probes : List Probe) (bound count left : ℕ) (flight : List Batch) : Type 0 where
  pub lead : Lead
  pub is : IsAhead s lead
  pub row_is : row ≡ sends_all (ahead s lead) sends
  pub fewer : length lead.flight + left ≡ count
  pub end : flight_end lead.bound lead.flight ≡ flight_end bound flight
  pub past : lead.bound ≤ flight_end lead.bound lead.flight
  pub waits : (p : ℕ) → lead.bound ≤ p → waits_above lead.probes p ≡ waits_above probes p

module _ (s : SeqState) (probes : List Probe) where
  abbrev from_here : ℕ → ℕ → List Batch → Lead
  from_here bound low flight = made bound flight (from_on low probes)

  pub gone : (flight : List Batch) (bound low : ℕ) → IsAhead s (from_here bound low flight) → IsChain bound flight → low ≤ bound + 1
      → IsGone s (finishing (ahead s (from_here bound low flight)) flight)
      (left_sends s.config s.view low probes (take (leaving (length (followers_of s.config)) flight) flight))
      probes bound (length flight) (leaving (length (followers_of s.config)) flight) flight
  gone [] bound low is chain below = record {
    lead = from_here bound low [];
    is = is;
    row_is = refl;
    fewer = refl;
    end = refl;
    past = omega arith;
    waits = λ p above. waits_from low p probes (omega (arith, below, above));
  }
  gone (x ∷ xs) bound low is chain below =
      let n = length (followers_of s.config) in
      let l : Lead = from_here bound low (x ∷ xs) in
      let a : SeqState = ahead s l in
      elim (cases_Bool (is_finished n x)) [
        | inl holds ↦
            let upto = batch_end x in
            let place : bound + x.count ≡ upto = omega (arith, chain.0.begins) in
            let m : Lead = from_here upto (upto + 1) xs in
            let grows : upto ≤ flight_end upto xs = end_grows xs upto chain.1 in
            let starts : Starts upto xs = starts_tail upto upto xs refl chain.1 in
            let ends : flight_end upto xs ≤ s.bound + length s.pending = is.ends in
            let next : IsAhead s m = record {
              above = omega (arith, is.above, place);
              within = omega (arith, grows, ends);
              starts = starts;
              ends = ends;
              fits = is.fits;
            } in
            let told_here : List (ℕ × Msg) = to_each (replicas_of s.config) (Stable s.view upto) ++ told s.view (told_in low upto probes) in
            let places : (bound - s.bound) + x.count ≡ upto - s.bound = omega (arith, is.above, place) in
            let items : drop x.count (drop (bound - s.bound) s.pending) ≡ drop (upto - s.bound) s.pending =
            drop-drop x.count (bound - s.bound) s.pending ∙ ap (λ (k : ℕ). drop k s.pending) places in
            let row_with : ℕ → List Item → Row SeqState =
            λ b p. sends_all (record s { bound = b; pending = p; flight = xs; probes = waiting_probes b (from_on low probes) })
            (to_each (replicas_of s.config) (Stable s.view b) ++ told s.view (ready_probes b (from_on low probes))) in
            let row_of : List Probe → List Probe → Row SeqState =
            λ w r. sends_all (record s { bound = upto; pending = drop (upto - s.bound) s.pending; flight = xs; probes = w })
            (to_each (replicas_of s.config) (Stable s.view upto) ++ told s.view r) in
            let first : leaves a x xs ≡ sends_all (ahead s m) told_here =
            ap (λ (p : List Item). row_with (bound + x.count) p) items
            ∙ ap (λ (b : ℕ). row_with b (drop (upto - s.bound) s.pending)) place
            ∙ ap (λ (r : List Probe). row_of (waiting_probes upto (from_on low probes)) r) (ready_from low upto probes)
            ∙ ap (λ (w : List Probe). row_of w (told_in low upto probes)) (waiting_from low upto probes (omega (arith, below, place))) in
            let rest = gone xs upto (upto + 1) next chain.1 (omega arith) in
            let more : ℕ = leaving n xs in
            let count : leaving n (x ∷ xs) ≡ suc more = ap (λ (c : Bool). cond c (suc more) 0) holds in
            record {
              lead = rest.lead;
              is = rest.is;
              row_is =
                  ap (λ (c : Bool). cond c (followed (leaves a x xs) (λ after. finishing after xs)) (stays a)) holds
                  ∙ ap (λ (r : Row SeqState). followed r (λ after. finishing after xs)) first
                  ∙ ap (λ (r : Row SeqState). let told_first : Row SeqState = sends_all (ahead s m) told_here in joined told_first r) rest.row_is
                  ∙ ap (λ (k : ℕ). sends_all (ahead s rest.lead) (left_sends s.config s.view low probes (take k (x ∷ xs)))) (sym count);
              fewer = omega (arith, rest.fewer, count);
              end = rest.end;
              past = rest.past;
              waits = rest.waits;
            }
        | inr fails ↦
            let count : leaving n (x ∷ xs) ≡ 0 = ap (λ (c : Bool). cond c (suc (leaving n xs)) 0) fails in
            let grows : batch_end x ≤ flight_end (batch_end x) xs = end_grows xs (batch_end x) chain.1 in
            record {
              lead = l;
              is = is;
              row_is =
                  ap (λ (c : Bool). cond c (followed (leaves a x xs) (λ after. finishing after xs)) (stays a)) fails
                  ∙ ap (λ (k : ℕ). sends_all a (left_sends s.config s.view low probes (take k (x ∷ xs)))) (sym count);
              fewer = omega (arith, count);
              end = refl;
              past = omega (arith, grows, chain.0.begins);
              waits = λ p above. waits_from low p probes (omega (arith, below, above));
            }
      ]

-- what the batches are that begin then
pub places_all : (s : SeqState) (m : Lead) → IsAhead s m → (room from end limit : ℕ) → m.bound ≤ from
    → flat_map (place_sends (ahead s m)) (begun room from end limit) ≡ flat_map (place_sends s) (begun room from end limit)
places_all s m is zero from end limit past = refl
places_all s m is (suc room) from end limit past = elim (cases_lt from limit) [
  | inl below ↦
      let count = next_count from end in
      let batch : Batch = new_batch from count in
      let others : List Batch = begun room (from + count) end limit in
      let list : begun (suc room) from end limit ≡ batch ∷ others = begun_next (suc room) room from end limit refl below in
      ap (flat_map (place_sends (ahead s m))) list
      ∙ ap (λ (l : List (ℕ × Msg)). l ++ flat_map (place_sends (ahead s m)) others) (places_same s m is from count past)
      ∙ ap (λ (l : List (ℕ × Msg)). place_sends s batch ++ l) (places_all s m is room (from + count) end limit (omega (arith, past)))
      ∙ sym (ap (flat_map (place_sends s)) list)
  | inr ended ↦
      let none : begun (suc room) from end limit ≡ [] = begun_none (suc room) from end limit ended in
      ap (flat_map (place_sends (ahead s m))) none ∙ sym (ap (flat_map (place_sends s)) none)
]

-- ---- how many leave
pub leaving_none : (n : ℕ) (flight : List Batch) → is_some (finish n flight) ≡ false → leaving n flight ≡ 0
leaving_none n [] none = refl
leaving_none n (x ∷ xs) none = elim (cases_Bool (is_finished n x)) [
  | inl holds ↦ let wrong : true ≡ false = rw holds at none in cc
  | inr fails ↦ ap (λ (c : Bool). cond c (suc (leaving n xs)) 0) fails
]

pub leaving_some : (n : ℕ) (flight : List Batch) → is_some (finish n flight) ≡ true → 1 ≤ leaving n flight
leaving_some n [] some = let wrong : false ≡ true = some in cc
leaving_some n (x ∷ xs) some = elim (cases_Bool (is_finished n x)) [
  | inl holds ↦
      let count : leaving n (x ∷ xs) ≡ suc (leaving n xs) = ap (λ (c : Bool). cond c (suc (leaving n xs)) 0) holds in
      omega (arith, count)
  | inr fails ↦ let wrong : false ≡ true = rw fails at some in cc
]

-- ---- a replica once an answer is noted, and once the finished batches have left
module _ (s : SeqState) (room shards followers : ℕ) (kept : IsKept s room shards followers) (fits : has_positions s ≡ true)
    (flight : List Batch) (same : SameSpans flight s.flight) (sound : IsFlight s.flight) where
  abbrev pub noted : SeqState
  noted = record s { flight = flight }

  abbrev pub count_left : ℕ
  count_left = leaving (length (followers_of s.config)) flight

  abbrev told_left : List (ℕ × Msg)
  told_left = left_sends s.config s.view 0 s.probes (take count_left flight)

  pub gone_noted : IsGone s (finishing noted flight) told_left s.probes s.bound (length flight) count_left flight
  gone_noted =
      let chain : IsChain s.bound flight = chain_same s.bound flight s.flight same (chain_at s.flight s.bound sound kept.starts) in
      let l : Lead = made s.bound flight (from_on 0 s.probes) in
      let is : IsAhead s l = record {
        above = omega arith;
        within = omega arith;
        starts = starts_same flight s.flight s.bound same kept.starts;
        ends = omega (arith, kept.ends, end_same flight s.flight s.bound same);
        fits = ltb-true (s.bound + length s.pending) (2 ^ 32) fits;
      } in
      let none : s.bound - s.bound ≡ 0 = omega arith in
      let with_parts : ℕ → List Probe → SeqState = λ k p. record s { pending = drop k s.pending; flight = flight; probes = p } in
      let here : ahead s l ≡ noted = ap (λ (k : ℕ). with_parts k (from_on 0 s.probes)) none ∙ ap (with_parts 0) (from_first s.probes) in
      subst (λ (x : SeqState). IsGone s (finishing x flight) told_left s.probes s.bound (length flight) count_left flight) here
      (gone s s.probes flight s.bound 0 is chain (omega arith))

  -- it is a leader as before, and has the same items
  pub left_leads : is_leader s ≡ true → is_leader (finishing noted flight).next ≡ true
  left_leads leads = ap (λ (r : Row SeqState). is_leader r.next) gone_noted.row_is ∙ leads

  pub left_end : pending_end (finishing noted flight).next ≡ pending_end s
  left_end =
      let g = gone_noted in
      omega (arith, ap (λ (r : Row SeqState). pending_end r.next) g.row_is, long s g.lead g.is, g.is.above, g.is.within)

  pub left_count : length (finishing noted flight).next.flight + count_left ≡ length s.flight
  left_count =
      let g = gone_noted in
      omega (arith, ap (λ (r : Row SeqState). length r.next.flight) g.row_is, g.fewer, long_same flight s.flight same)

  -- FINISH after an answer was noted
  pub finishes_noted : (begins limit from : ℕ) → begins ≡ room_once_left count_left (length s.flight) → limit ≤ pending_end s → from ≡ flight_end s.bound s.flight
      → ((p : ℕ) → p < pending_end s → waits_above s.probes p ≡ ltb p limit)
      → sends_all (with_begun (finishing noted flight).next begins limit) (left_sends s.config s.view 0 s.probes (take count_left s.flight) ++ flat_map (place_sends s) (begun begins from (pending_end s) limit))
      ≡ finishes noted
  finishes_noted begins limit from begins_is within from_is waiting = elim (cases_Bool (is_some (finish (length (followers_of s.config)) flight))) [
    | inl some ↦
        let g = gone_noted in
        let y : SeqState = ahead s g.lead in
        let left : 1 ≤ count_left = leaving_some (length (followers_of s.config)) flight some in
        let number : begins ≡ FLIGHT_LIMIT - (length s.flight - count_left) =
        begins_is ∙ ap (λ (b : Bool). cond b 0 (FLIGHT_LIMIT - (length s.flight - count_left))) (ne_eqb count_left 0 (λ is. absurd (omega (arith, is, left)))) in
        let few : length s.flight ≤ FLIGHT_LIMIT = sound.few in
        let all : length g.lead.flight + count_left ≡ length s.flight = omega (arith, g.fewer, long_same flight s.flight same) in
        let room_is : FLIGHT_LIMIT - length g.lead.flight ≡ begins = omega (arith, number, all) in
        let end_is : pending_end y ≡ pending_end s = omega (arith, long s g.lead g.is, g.is.above, g.is.within) in
        let place : flight_end y.bound y.flight ≡ from = g.end ∙ end_same flight s.flight s.bound same ∙ sym from_is in
        let waits : (p : ℕ) → y.bound ≤ p → p < pending_end y → waits_above y.probes p ≡ ltb p limit = λ p above below. g.waits p above ∙ waiting p (omega (arith, below, end_is)) in
        let forced : forces y ≡ beginning y begins limit =
        ap (λ (n : ℕ). forcing n y) room_is
        ∙ forcing_is begins y limit (omega (arith, number, all, few)) g.past (omega (arith, within, end_is)) waits (omega (arith, g.is.ends, end_is)) in
        let told : List (ℕ × Msg) = left_sends s.config s.view 0 s.probes (take count_left s.flight) in
        let said : told_left ≡ told = left_same s.config s.view 0 s.probes count_left flight s.flight same in
        let begun_of : ℕ → ℕ → List Batch = λ f e. begun begins f e limit in
        let part : flat_map (place_sends y) (next_begun y begins limit) ≡ flat_map (place_sends s) (begun_of from (pending_end s)) =
        places_all s g.lead g.is begins (flight_end y.bound y.flight) (pending_end y) limit g.past
        ∙ ap (λ (f : ℕ). flat_map (place_sends s) (begun_of f (pending_end y))) place
        ∙ ap (λ (e : ℕ). flat_map (place_sends s) (begun_of from e)) end_is in
        let row_of : List (ℕ × Msg) → List (ℕ × Msg) → Row SeqState = λ t p. sends_all (with_begun y begins limit) (t ++ p) in
        sym (finishes_goes noted flight some
        ∙ ap (λ (r : Row SeqState). followed r forces) g.row_is
        ∙ ap (λ (r : Row SeqState). let first : Row SeqState = sends_all y told_left in joined first r) forced
        ∙ ap (λ (t : List (ℕ × Msg)). row_of t (flat_map (place_sends y) (next_begun y begins limit))) said
        ∙ ap (row_of told) part
        ∙ sym (ap (λ (r : Row SeqState). sends_all (with_begun r.next begins limit) (told ++ flat_map (place_sends s) (begun_of from (pending_end s)))) g.row_is))
    | inr none ↦
        let zero_left : count_left ≡ 0 = leaving_none (length (followers_of s.config)) flight none in
        let no_room : begins ≡ 0 = begins_is ∙ ap (λ (n : ℕ). room_once_left n (length s.flight)) zero_left in
        let stays_here : finishing noted flight ≡ stays noted = (finishing_stays noted flight none).0 in
        let with_flight : List Batch → Row SeqState = λ l. let after : SeqState = record s { flight = l } in stays after in
        let row_of : SeqState → ℕ → ℕ → Row SeqState =
        λ y n k. sends_all (with_begun y n limit) (left_sends s.config s.view 0 s.probes (take k s.flight) ++ flat_map (place_sends s) (begun n from (pending_end s) limit)) in
        ap (λ (r : Row SeqState). row_of r.next begins count_left) stays_here
        ∙ ap (λ (n : ℕ). row_of noted n count_left) no_room
        ∙ ap (λ (k : ℕ). row_of noted 0 k) zero_left
        ∙ ap with_flight (append-nil flight)
        ∙ sym (finishes_stays noted flight none)
  ]

-- ---- the first batch leaves
first_fits : (followers bound end : ℕ) (flight : List Batch) (seen : Outline) → IsChain bound flight → flight_end bound flight ≤ end → option_map outline (finish followers flight) ≡ Some seen
    → (bound + seen.count ≤ end) × Starts (bound + seen.count) (after_finish followers flight)
    × (flight_end (bound + seen.count) (after_finish followers flight) ≡ flight_end bound flight) × (1 ≤ length flight)
first_fits followers bound end [] seen chain ends some = let wrong : None ≡ Some seen = some in cc
first_fits followers bound end (x ∷ xs) seen chain ends some = elim (cases_Bool (is_finished followers x)) [
  | inl holds ↦
      let told_is : Some (outline x) ≡ Some seen = rw holds at some in
      let same : outline x ≡ seen = cc in
      let count : x.count ≡ seen.count = ap (λ (o : Outline). o.count) same in
      let place : bound + seen.count ≡ batch_end x = omega (arith, count, chain.0.begins) in
      let rest : xs ≡ after_finish followers (x ∷ xs) = sym (ap (λ (c : Bool). cond c xs (x ∷ xs)) holds) in
      let grows : batch_end x ≤ flight_end (batch_end x) xs = end_grows xs (batch_end x) chain.1 in (
        omega (arith, place, grows, ends),
        subst (Starts (bound + seen.count)) rest (starts_tail (batch_end x) (bound + seen.count) xs (sym place) chain.1),
        ap (flight_end (bound + seen.count)) (sym rest) ∙ ap (λ (k : ℕ). flight_end k xs) place,
        omega arith,
      )
  | inr fails ↦ let wrong : None ≡ Some seen = rw fails at some in cc
]

-- the replica then
abbrev pub without : SeqState → ℕ → Outline → SeqState
without s followers seen = record s {
  bound = s.bound + seen.count;
  pending = drop seen.count s.pending;
  flight = after_finish followers s.flight;
  probes = waiting_probes (s.bound + seen.count) s.probes;
}

pub kept_without : (s : SeqState) (room shards followers : ℕ) → IsKept s room shards followers → IsFlight s.flight → (seen : Outline) → option_map outline (finish followers s.flight) ≡ Some seen
    → IsKept (without s followers seen) room shards followers × (s.bound + seen.count ≤ pending_end s)
kept_without s room shards followers kept sound seen some =
    let chain : IsChain s.bound s.flight = chain_at s.flight s.bound sound kept.starts in
    let facts = first_fits followers s.bound (pending_end s) s.flight seen chain kept.ends some in
    let inside : s.bound + seen.count ≤ pending_end s = facts.0 in
    let same : flight_end (s.bound + seen.count) (after_finish followers s.flight) ≡ flight_end s.bound s.flight = facts.2 in
    let flies : 1 ≤ length s.flight = facts.3 in
    let is : IsKept (without s followers seen) room shards followers = record {
      clients = kept.clients;
      room_is = kept.room_is;
      shards_are = kept.shards_are;
      followers_are = kept.followers_are;
      known = all_drop s.window seen.count s.pending kept.known;
      starts = facts.1;
      ends = omega (arith, same, kept.ends, inside, length-drop seen.count s.pending);
      idle = λ follows. let none : length s.flight ≡ 0 = ap (λ (l : List Batch). length l) (kept.idle follows) in absurd (omega (arith, none, flies));
    } in
    (is, inside)

pub leaves_first : (s : SeqState) (flight : List Batch) (seen : Outline) → option_map outline (finish (length (followers_of s.config)) flight) ≡ Some seen
    → (first_leaves s flight).next ≡ (let with_flight : SeqState = record s { flight = flight } in without with_flight (length (followers_of s.config)) seen)
leaves_first s [] seen some = let wrong : None ≡ Some seen = some in cc
leaves_first s (x ∷ xs) seen some = elim (cases_Bool (is_finished (length (followers_of s.config)) x)) [
  | inl holds ↦
      let told_is : Some (outline x) ≡ Some seen = rw holds at some in
      let same : outline x ≡ seen = cc in
      let with_rest : List Batch → SeqState = λ l. record s {
        bound = s.bound + x.count;
        pending = drop x.count s.pending;
        flight = l;
        probes = waiting_probes (s.bound + x.count) s.probes;
      } in
      let rest : List Batch = after_finish (length (followers_of s.config)) (x ∷ xs) in
      let with_seen : Outline → SeqState = λ o. record s {
        bound = s.bound + o.count;
        pending = drop o.count s.pending;
        flight = rest;
        probes = waiting_probes (s.bound + o.count) s.probes;
      } in
      ap (λ (c : Bool). (cond c (leaves s x xs) (stays s)).next) holds
      ∙ ap with_rest (sym (ap (λ (c : Bool). cond c xs (x ∷ xs)) holds))
      ∙ ap with_seen same
  | inr fails ↦ let wrong : None ≡ Some seen = rw fails at some in cc
]

-- ---- batches at the same places keep what is true of every replica
spans_none : (xs ys : List Batch) → SameSpans xs ys → ys ≡ [] → xs ≡ []
spans_none [] ys same none = refl
spans_none (x ∷ xs) [] same none = absurd same
spans_none (x ∷ xs) (y ∷ ys) same none = let wrong : y ∷ ys ≡ [] = none in cc

pub kept_spans : (s : SeqState) (room shards followers : ℕ) → IsKept s room shards followers → (flight : List Batch) → SameSpans flight s.flight
    → IsKept (record s { flight = flight }) room shards followers
kept_spans s room shards followers kept flight same = record {
  clients = kept.clients;
  room_is = kept.room_is;
  shards_are = kept.shards_are;
  followers_are = kept.followers_are;
  known = kept.known;
  starts = starts_same flight s.flight s.bound same kept.starts;
  ends = omega (arith, kept.ends, end_same flight s.flight s.bound same);
  idle = λ follows. spans_none flight s.flight same (kept.idle follows);
}

-- ---- numbers
pub below_least : (p target end least : ℕ) → p < end → least ≡ min target end → ltb p target ≡ ltb p least
below_least p target end least below is = elim (cases_lt p target) [
  | inl before ↦ lt-ltb p target before ∙ sym (lt-ltb p least (omega (arith, before, below, is)))
  | inr past ↦ le-ltb p target past ∙ sym (le-ltb p least (omega (arith, past, is)))
]

pub once_room : (left flight rest room : ℕ) → rest + left ≡ flight → flight ≤ FLIGHT_LIMIT → room ≡ room_once_left left flight → rest + room ≤ FLIGHT_LIMIT
once_room left flight rest room all few is = elim (cases_eq left 0) [
  | inl none ↦
      let nothing : room ≡ 0 = is ∙ ap (λ (b : Bool). cond b 0 (FLIGHT_LIMIT - (flight - left))) (eq-eqb left 0 none) in
      omega (arith, nothing, all, few)
  | inr some ↦
      let number : room ≡ FLIGHT_LIMIT - (flight - left) = is ∙ ap (λ (b : Bool). cond b 0 (FLIGHT_LIMIT - (flight - left))) (ne_eqb left 0 some) in
      omega (arith, number, all, few)
]
