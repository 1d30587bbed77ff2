-- Records that were invoked, by keys.
use Rattle.std.proofs.Common.{◌≡◌, ◌≢◌, ℕ, ◌+◌, ◌<◌, ◌≤◌, Bool, nat_lt, List, length, map, max, Some, None, slice_get, inl, inr, refl, sym, ap, ◌∙◌, subst, arith}
use Rattle.std.specs.Prelude.{option_and_then}
use Rattle.std.specs.Bool.{Decides}
use Rattle.std.proofs.lemmas.Bool.{cases_eq, cases_lt}
use Rattle.std.proofs.lemmas.Bool.Decides.{Decides-ltb, Decides-like}
use Rattle.std.proofs.lemmas.List.{length-map}
use Rattle.std.proofs.lemmas.Option.{slice_get_past, slice_get_within, same_Some, some_pair_parts}
use Rattle.law_cases.proofs.Clauses.{dec_invoked_at, told_within}
use Rattle.rec_id.specs.Identity.{Identity}
use Rattle.rec_id.specs.History.{Read, invoked_id, asked_trim, told_at, IsInvoked, IsInvokedWith}
use Rattle.rec_id.specs.Lawful.{InvokedAt, IsTrimAsked}
use Rattle.rec_id.specs.declared.entry.Entry.{Entry}
use Rattle.rec_id.specs.declared.entry.Entry.TheVariants.{Kept, Noop, Gone}
use Rattle.rec_id.specs.declared.event.Event.{Event}
use Rattle.rec_id.specs.declared.event.Event.TheVariants.{Invoke, Acked, Rejected, Begin, Answer, Seen, TrimAsk, TrimDone, Trimmed}
use Rattle.log_law.specs.declared.told.Told.TheVariants.{Invoked}
use Rattle.log_law.specs.Floors.{floor_of, IsAskedFloor, IsHighest}
use Rattle.log_law.specs.Keys.{key_at, IsNext}
use Rattle.log_law.specs.Told.{id_key, event_key}
use Rattle.log_law.proofs.ToldKeys.{keys_of_told, told_of_keys, same_id}

-- the highest floor, with one more event

pub asked_floor : (event : Event) (trim : Read) (floor : ℕ) → asked_trim event ≡ Some (trim, floor) → floor_of event ≡ floor
asked_floor (TrimAsk client read own) trim floor e = (some_pair_parts _ trim own floor e).1
asked_floor (Invoke a bytes) trim floor e = cc
asked_floor (Acked a) trim floor e = cc
asked_floor (Rejected a place) trim floor e = cc
asked_floor (Begin client read ask) trim floor e = cc
asked_floor (Answer client read from entries tail) trim floor e = cc
asked_floor (Seen client from ids) trim floor e = cc
asked_floor (TrimDone client read own) trim floor e = cc
asked_floor (Trimmed client read own) trim floor e = cc

floor_asked : (event : Event) → 0 < floor_of event → (trim : Read) × (asked_trim event ≡ Some (trim, floor_of event))
floor_asked (TrimAsk client read own) lt = (record { client = client; number = read }, refl)
floor_asked (Invoke a bytes) lt = absurd (omega arith)
floor_asked (Acked a) lt = absurd (omega arith)
floor_asked (Rejected a place) lt = absurd (omega arith)
floor_asked (Begin client read ask) lt = absurd (omega arith)
floor_asked (Answer client read from entries tail) lt = absurd (omega arith)
floor_asked (Seen client from ids) lt = absurd (omega arith)
floor_asked (TrimDone client read own) lt = absurd (omega arith)
floor_asked (Trimmed client read own) lt = absurd (omega arith)

pub highest_more : (history : List Event) (j highest : ℕ) (event : Event) → slice_get history j ≡ Some event → IsHighest history j highest → IsHighest history (j + 1) (max highest (floor_of event))
highest_more history j highest event here h = record {
  at_least = λ i trim floor lt e. elim (cases_eq i j) [
    | inl same ↦ (let there : told_at asked_trim history j ≡ Some (trim, floor) = subst (λ (x : ℕ). told_at asked_trim history x ≡ Some (trim, floor)) same e in
        let is = asked_floor event trim floor (sym (ap (option_and_then asked_trim) here) ∙ there) in omega arith)
    | inr ne ↦ (let le = h.at_least i trim floor (omega arith) e in omega arith)
  ];
  asked = λ pos. elim (cases_lt highest (floor_of event)) [
    | inl lt ↦ (let a = floor_asked event (omega arith) in let same : floor_of event ≡ max highest (floor_of event) = omega arith in
        subst (λ (n : ℕ). IsAskedFloor history (j + 1) n) same (record { index = j; before = omega arith; trim = a.0; asks = ap (option_and_then asked_trim) here ∙ a.1 }))
    | inr ge ↦ (let same : highest ≡ max highest (floor_of event) = omega arith in let a = h.asked (omega arith) in
        subst (λ (n : ℕ). IsAskedFloor history (j + 1) n) same (record { index = a.index; before = let b = a.before in omega arith; trim = a.trim; asks = a.asks }))
  ];
}

-- an invoke of the identity with the bytes, looked for along its keys

module _ (history : List Event) (id : Identity) (bytes : List ℕ) where
  invoke_key : (k : ℕ) → slice_get history k ≡ Some (Invoke id bytes) → key_at (map (event_key Invoked) history) k ≡ Some (id_key id)
  invoke_key k e = keys_of_told invoked_id id_key history k id (ap (option_and_then invoked_id) e)

  pub none_first : (n : ℕ) → IsNext (map (event_key Invoked) history) 0 (id_key id) n → (k : ℕ) → k < n → slice_get history k ≢ Some (Invoke id bytes)
  none_first n h k lt e = h.none k (omega arith) lt (invoke_key k e)

  pub none_next : (i m : ℕ) → IsNext (map (event_key Invoked) history) (i + 1) (id_key id) m → ((k : ℕ) → k < i → slice_get history k ≢ Some (Invoke id bytes)) → slice_get history i ≢ Some (Invoke id bytes) →
      (k : ℕ) → k < m → slice_get history k ≢ Some (Invoke id bytes)
  none_next i m h f n k lt e = elim (cases_eq k i) [
    | inl same ↦ n (subst (λ (x : ℕ). slice_get history x ≡ Some (Invoke id bytes)) same e)
    | inr ne ↦ elim (cases_lt k i) [ inl less ↦ f k less e | inr more ↦ h.none k (omega arith) lt (invoke_key k e) ]
  ]

  pub none_with : (n : ℕ) → length history ≤ n → ((k : ℕ) → k < n → slice_get history k ≢ Some (Invoke id bytes)) → ¬ IsInvokedWith history id bytes
  none_with n ge f h = f h.index (let w = slice_get_within history h.index (Invoke id bytes) h.stands in omega arith) h.stands

-- an invoke of the identity, by its first key
pub invoked_decides : (history : List Event) (id : Identity) (n : ℕ) → IsNext (map (event_key Invoked) history) 0 (id_key id) n → Decides (nat_lt n (length history)) (IsInvoked history id)
invoked_decides history id n h = Decides-like (nat_lt n (length history)) to from (Decides-ltb n (length history))
  where
    to : n < length history → IsInvoked history id
    to lt = let t = told_of_keys invoked_id id_key history n (id_key id) (h.stands (omega (arith, length-map history (event_key Invoked)))) in record { index = n; tells = t.tells ∙ ap Some (same_id t.told id t.is) }

    from : IsInvoked history id → n < length history
    from a =
        let k = keys_of_told invoked_id id_key history a.index id a.tells in
        let w = told_within invoked_id history a.index id a.tells in
        elim (cases_lt a.index n) [ inl lt ↦ absurd (h.none a.index (omega arith) lt k) | inr ge ↦ omega arith ]

-- a trim above the place, by the highest floor
pub asked_decides : (history : List Event) (place highest : ℕ) → IsHighest history (length history) highest → Decides (nat_lt place highest) (IsTrimAsked history place)
asked_decides history place highest h = Decides-like (nat_lt place highest) to from (Decides-ltb place highest)
  where
    to : place < highest → IsTrimAsked history place
    to lt = let a = h.asked (omega arith) in record { index = a.index; trim = a.trim; floor = highest; asks = a.asks; above = lt }

    from : IsTrimAsked history place → place < highest
    from a = let w = told_within asked_trim history a.index (a.trim, a.floor) a.asks in let le = h.at_least a.index a.trim a.floor w a.asks in let lt = a.above in omega arith

-- the clause at a place, by its entry
module _ (history : List Event) (line : List Entry) (place : ℕ) where
  pub kept_decides : (b : Bool) (id : Identity) (bytes : List ℕ) → slice_get line place ≡ Some (Kept id bytes) → Decides b (IsInvokedWith history id bytes) → Decides b (InvokedAt history line place)
  kept_decides b id bytes here d = Decides-like b to (λ h. h.kept id bytes here) d
    where
      to : IsInvokedWith history id bytes → InvokedAt history line place
      to w = record {
        kept = λ other own e. (let same : Kept id bytes ≡ Kept other own = same_Some (Kept id bytes) (Kept other own) (sym here ∙ e) in
            let one : id ≡ other = cc in let two : bytes ≡ own = cc in subst (λ (x : Identity). IsInvokedWith history x own) one (subst (λ (xs : List ℕ). IsInvokedWith history id xs) two w));
        noop = λ other e. absurd (let same : Kept id bytes ≡ Noop other = same_Some (Kept id bytes) (Noop other) (sym here ∙ e) in cc);
        gone = λ other e. absurd (let same : Kept id bytes ≡ Gone other = same_Some (Kept id bytes) (Gone other) (sym here ∙ e) in cc);
        trimmed = λ other e. absurd (let same : Kept id bytes ≡ Gone other = same_Some (Kept id bytes) (Gone other) (sym here ∙ e) in cc);
      }

  pub noop_decides : (b : Bool) (id : Identity) → slice_get line place ≡ Some (Noop id) → Decides b (IsInvoked history id) → Decides b (InvokedAt history line place)
  noop_decides b id here d = Decides-like b to (λ h. h.noop id here) d
    where
      to : IsInvoked history id → InvokedAt history line place
      to w = record {
        kept = λ other own e. absurd (let same : Noop id ≡ Kept other own = same_Some (Noop id) (Kept other own) (sym here ∙ e) in cc);
        noop = λ other e. (let same : Noop id ≡ Noop other = same_Some (Noop id) (Noop other) (sym here ∙ e) in let one : id ≡ other = cc in subst (λ (x : Identity). IsInvoked history x) one w);
        gone = λ other e. absurd (let same : Noop id ≡ Gone other = same_Some (Noop id) (Gone other) (sym here ∙ e) in cc);
        trimmed = λ other e. absurd (let same : Noop id ≡ Gone other = same_Some (Noop id) (Gone other) (sym here ∙ e) in cc);
      }

  module _ (id : Identity) (here : slice_get line place ≡ Some (Gone id)) where
    pub gone_uninvoked : ¬ IsInvoked history id → ¬ InvokedAt history line place
    gone_uninvoked n h = n (h.gone id here)

    pub gone_decides : (b : Bool) → IsInvoked history id → Decides b (IsTrimAsked history place) → Decides b (InvokedAt history line place)
    gone_decides b w d = Decides-like b to (λ h. h.trimmed id here) d
      where
        to : IsTrimAsked history place → InvokedAt history line place
        to asked = record {
          kept = λ other own e. absurd (let same : Gone id ≡ Kept other own = same_Some (Gone id) (Kept other own) (sym here ∙ e) in cc);
          noop = λ other e. absurd (let same : Gone id ≡ Noop other = same_Some (Gone id) (Noop other) (sym here ∙ e) in cc);
          gone = λ other e. (let same : Gone id ≡ Gone other = same_Some (Gone id) (Gone other) (sym here ∙ e) in let one : id ≡ other = cc in subst (λ (x : Identity). IsInvoked history x) one w);
          trimmed = λ other e. asked;
        }

pub invoked_beyond : (history : List Event) (line : List Entry) (i : ℕ) → length line ≤ i → InvokedAt history line i
invoked_beyond history line i ge = let e : slice_get line i ≡ None = slice_get_past line i ge in (dec_invoked_at history line i).decides.0 (rw e refl)

pub invoked_past : (history : List Event) (line : List Entry) (n : ℕ) → length line ≤ n → ((k : ℕ) → k < n → InvokedAt history line k) → (i : ℕ) → InvokedAt history line i
invoked_past history line n ge f i = elim (cases_lt i n) [ inl lt ↦ f i lt | inr past ↦ invoked_beyond history line i (omega arith) ]
