-- Reads that end, by keys.
use Rattle.std.proofs.Common.{◌≡◌, ◌≢◌, ℕ, ◌+◌, ◌<◌, ◌≤◌, Bool, nat_le, List, length, map, Option, Some, None, slice_get, inl, inr, refl, sym, ap, ◌∙◌, subst, arith}
use Rattle.std.specs.Prelude.{option_and_then, option_map}
use Rattle.std.specs.Option.{MatchOption}
use Rattle.std.specs.Bool.{Decides}
use Rattle.std.proofs.lemmas.Bool.{cases_eq, cases_lt}
use Rattle.std.proofs.lemmas.Bool.Decides.{Decides-like}
use Rattle.std.proofs.lemmas.Option.{same_Some, slice_get_past}
use Rattle.law_cases.proofs.Decide.{le_decides}
use Rattle.law_cases.proofs.ReadClauses.{dec_trims_at}
use Rattle.rec_id.specs.History.{Read, begun_read, ended_read, asked_trim, done_trim, asked_from, told_at, NoneBefore, OneBefore}
use Rattle.rec_id.specs.Lawful.{EndsRead, IsTrimmedRead, TrimsAt}
use Rattle.rec_id.specs.declared.event.Ask.{Ask}
use Rattle.rec_id.specs.declared.event.Event.{Event}
use Rattle.rec_id.specs.declared.event.Event.TheVariants.{Invoke, Acked, Rejected, Begin, Answer, Seen, TrimAsk, TrimDone, Trimmed}
use Rattle.log_law.specs.declared.told.Told.TheVariants.{Begun, Ended, Asked, Done}
use Rattle.log_law.specs.Floors.{floor_of, IsHighest}
use Rattle.log_law.specs.Keys.{key_at, IsNext}
use Rattle.log_law.specs.Reads.{read_of, ask_of, EndsKey, EndsAsked, IsDoneOnce, KeepsTrims, IsNextAsk}
use Rattle.log_law.specs.Told.{read_key, trim_key, event_key}
use Rattle.log_law.proofs.Before.{none_yes, none_no}
use Rattle.log_law.proofs.InvokedRecords.{asked_floor}
use Rattle.log_law.proofs.ToldKeys.{keys_of_told, told_of_keys, same_read}

module _ (history : List Event) (j : ℕ) (key : ℕ × ℕ) where
  tells_read : (f : Event → Option Read) (i : ℕ) → key_at (map (λ (e : Event). option_map read_key (f e)) history) i ≡ Some key → told_at f history i ≡ Some (read_of key)
  tells_read f i k = let t = told_of_keys f read_key history i key k in t.tells ∙ ap Some (same_read t.told (read_of key) t.is)

  pub ends_from : (h : EndsRead history j (read_of key)) → EndsKey (map (event_key Begun) history) (map (event_key Ended) history) j key h.begun.index
  ends_from h = record {
    before = h.begun.before;
    begins = keys_of_told begun_read read_key history h.begun.index (read_of key) h.begun.tells;
    only = λ i lt k. h.begun.only i lt (tells_read begun_read i k);
    not_ended = λ i lt k. h.not_ended.none i lt (tells_read ended_read i k);
  }

  module _ (b : ℕ) (h : EndsKey (map (event_key Begun) history) (map (event_key Ended) history) j key b) where
    abbrev one : OneBefore begun_read history j (read_of key)
    one = record { index = b; before = h.before; tells = tells_read begun_read b h.begins; only = λ i lt t. h.only i lt (keys_of_told begun_read read_key history i (read_of key) t) }

    abbrev no_end : NoneBefore ended_read history j (read_of key)
    no_end = record { none = λ i lt t. h.not_ended i lt (keys_of_told ended_read read_key history i (read_of key) t) }

    begins : (event : Event) → slice_get history b ≡ Some event → begun_read event ≡ Some (read_of key)
    begins event here = sym (ap (option_and_then begun_read) here) ∙ tells_read begun_read b h.begins

    nothing : begun_read (Acked (record { client = 0; number = 0 })) ≡ Some (read_of key) → ⊥
    nothing e = let g : None ≡ Some (read_of key) = e in cc

    pub asked_at : (event : Event) → slice_get history b ≡ Some event → MatchOption (ask_of event) (EndsRead history j (read_of key) → ⊥) (λ ask. EndsAsked history j (read_of key) ask)
    asked_at (Begin client read ask) here =
        let same : record { client = client; number = read } ≡ read_of key = same_Some _ (read_of key) (begins (Begin client read ask) here) in
        let is : Begin client read ask ≡ Begin key.0 key.1 ask = ap (λ (r : Read). Begin r.client r.number ask) same in
        record { ends = record { begun = one; ask = ask; asks = here ∙ ap Some is; not_ended = no_end }; is = refl }
    asked_at (Invoke id bytes) here = λ _. nothing (begins (Invoke id bytes) here)
    asked_at (Acked id) here = λ _. nothing (begins (Acked id) here)
    asked_at (Rejected id place) here = λ _. nothing (begins (Rejected id place) here)
    asked_at (Answer client read from entries tail) here = λ _. nothing (begins (Answer client read from entries tail) here)
    asked_at (Seen client from ids) here = λ _. nothing (begins (Seen client from ids) here)
    asked_at (TrimAsk client read floor) here = λ _. nothing (begins (TrimAsk client read floor) here)
    asked_at (TrimDone client read floor) here = λ _. nothing (begins (TrimDone client read floor) here)
    asked_at (Trimmed client read floor) here = λ _. nothing (begins (Trimmed client read floor) here)

-- a read that ends has one ask
pub same_ask : (history : List Event) (j : ℕ) (read : Read) (a b : EndsRead history j read) → a.ask ≡ b.ask
same_ask history j read a b =
    let same = b.begun.only a.begun.index a.begun.before a.begun.tells in
    let there : slice_get history b.begun.index ≡ Some (Begin read.client read.number a.ask) = subst (λ (i : ℕ). slice_get history i ≡ Some (Begin read.client read.number a.ask)) same a.asks in
    let g : Begin read.client read.number a.ask ≡ Begin read.client read.number b.ask = same_Some _ _ (sym there ∙ b.asks) in
    cc

-- a trimmed read, by the highest floor
module _ (history : List Event) (j : ℕ) (read : Read) (floor : ℕ) (ask : Ask) (h : EndsAsked history j read ask) where
  asks_from : (t : EndsRead history j read) → asked_from t.ask ≡ asked_from ask
  asks_from t = ap asked_from (same_ask history j read t h.ends ∙ h.is)

  pub not_below : floor ≤ asked_from ask → ¬ IsTrimmedRead history j read floor
  not_below le t = let b = t.below in let same = asks_from t.ends in absurd (omega arith)

  pub trimmed_decides : (highest : ℕ) → IsHighest history j highest → asked_from ask < floor → Decides (nat_le floor highest) (IsTrimmedRead history j read floor)
  trimmed_decides highest top lt = Decides-like (nat_le floor highest) to from (le_decides floor highest)
    where
      to : floor ≤ highest → IsTrimmedRead history j read floor
      to le = let a = top.asked (omega arith) in let same = asks_from h.ends in
          record { ends = h.ends; below = omega arith; asked = record { index = a.index; before = a.before; trim = a.trim; asked_floor = highest; asks = a.asks; at_least = le } }

      from : IsTrimmedRead history j read floor → floor ≤ highest
      from t = let a = t.asked in let k = top.at_least a.index a.trim a.asked_floor a.before a.asks in let le = a.at_least in omega arith

pub no_read : (history : List Event) (j floor : ℕ) (read : Read) → (EndsRead history j read → ⊥) → ¬ IsTrimmedRead history j read floor
no_read history j floor read f t = f t.ends

-- a trim that is asked for, along its keys

pub ask_key : (history : List Event) (read : Read) (floor k : ℕ) → told_at asked_trim history k ≡ Some (read, floor) → key_at (map (event_key Asked) history) k ≡ Some (read_key read)
ask_key history read floor k t = keys_of_told asked_trim trim_key history k (read, floor) t

pub asks_here : (history : List Event) (key : ℕ × ℕ) (n : ℕ) (event : Event) → slice_get history n ≡ Some event → key_at (map (event_key Asked) history) n ≡ Some key → told_at asked_trim history n ≡ Some (read_of key, floor_of event)
asks_here history key n event here k =
    let t = told_of_keys asked_trim trim_key history n key k in
    let e : asked_trim event ≡ Some t.told = sym (ap (option_and_then asked_trim) here) ∙ t.tells in
    let floor : floor_of event ≡ t.told.1 = asked_floor event t.told.0 t.told.1 e in
    let same : t.told.0 ≡ read_of key = same_read t.told.0 (read_of key) t.is in
    t.tells ∙ ap Some (λ i. (same i, sym floor i))

pub asks_floor : (history : List Event) (read : Read) (floor n : ℕ) (event : Event) → slice_get history n ≡ Some event → told_at asked_trim history n ≡ Some (read, floor) → floor_of event ≡ floor
asks_floor history read floor n event here t = asked_floor event read floor (sym (ap (option_and_then asked_trim) here) ∙ t)

module _ (history : List Event) (key : ℕ × ℕ) (floor j : ℕ) where
  pub none_after : (i n m : ℕ) → IsNext (map (event_key Asked) history) (n + 1) key m →
      ((k : ℕ) → i ≤ k → k < n → k < j → told_at asked_trim history k ≢ Some (read_of key, floor)) → told_at asked_trim history n ≢ Some (read_of key, floor) →
      (k : ℕ) → i ≤ k → k < m → k < j → told_at asked_trim history k ≢ Some (read_of key, floor)
  none_after i n m h f here k le lt within t = elim (cases_eq k n) [
    | inl same ↦ here (subst (λ (x : ℕ). told_at asked_trim history x ≡ Some (read_of key, floor)) same t)
    | inr ne ↦ elim (cases_lt k n) [ inl less ↦ f k le less within t | inr more ↦ h.none k (omega arith) lt (ask_key history (read_of key) floor k t) ]
  ]

  module _ (first one : ℕ) (h : IsNext (map (event_key Asked) history) 0 key first) (a : IsNextAsk history (read_of key) floor first j one) where
    before_one : (k : ℕ) → k < one → k < j → told_at asked_trim history k ≢ Some (read_of key, floor)
    before_one k lt within t = elim (cases_lt k first) [
      | inl less ↦ h.none k (omega arith) less (ask_key history (read_of key) floor k t)
      | inr more ↦ a.none k more lt within t
    ]

    pub asked_never : j ≤ one → ¬ OneBefore asked_trim history j (read_of key, floor)
    asked_never le o = before_one o.index (let b = o.before in omega arith) o.before o.tells

    pub asked_once_decides : (next two : ℕ) → one < j → IsNext (map (event_key Asked) history) (one + 1) key next → IsNextAsk history (read_of key) floor next j two → Decides (nat_le j two) (OneBefore asked_trim history j (read_of key, floor))
    asked_once_decides next two lt k b = Decides-like (nat_le j two) to from (le_decides j two)
      where
        to : j ≤ two → OneBefore asked_trim history j (read_of key, floor)
        to le = record { index = one; before = lt; tells = a.asks lt; only = only }
          where
            only : (i : ℕ) → i < j → told_at asked_trim history i ≡ Some (read_of key, floor) → i ≡ one
            only i within t = elim (cases_eq i one) [
              | inl e ↦ e
              | inr ne ↦ absurd (elim (cases_lt i one) [
                | inl less ↦ before_one i less within t
                | inr more ↦ elim (cases_lt i next) [
                  | inl short ↦ k.none i (omega arith) short (ask_key history (read_of key) floor i t)
                  | inr far ↦ b.none i far (omega arith) within t
                ]
              ])
            ]

        from : OneBefore asked_trim history j (read_of key, floor) → j ≤ two
        from o = elim (cases_lt two j) [
          | inl less ↦ absurd (let p = o.only one lt (a.asks lt) in let q = o.only two less (b.asks less) in let r = k.at_least in let s = b.at_least in omega arith)
          | inr ge ↦ ge
        ]

-- a trim that is done, by keys
module _ (history : List Event) (key : ℕ × ℕ) (floor j n : ℕ) (short : j ≤ length history) (h : IsNext (map (event_key Done) history) 0 key n) where
  pub done_before : n < j → ¬ IsDoneOnce history j (read_of key) floor
  done_before lt d = none_no done_trim read_key same_read history j short (read_of key) n h lt d.done_once

  pub done_decides : (b : Bool) → j ≤ n → Decides b (OneBefore asked_trim history j (read_of key, floor)) → Decides b (IsDoneOnce history j (read_of key) floor)
  done_decides b le d = Decides-like b (λ o. record { asked = o; done_once = none_yes done_trim read_key same_read history j short (read_of key) n h le }) (λ k. k.asked) d

-- the clause at an index, by its event
module _ (history : List Event) (j : ℕ) where
  pub trims_to : (event : Event) → slice_get history j ≡ Some event → KeepsTrims history j event → TrimsAt history j
  trims_to event here k = record {
    trimmed = λ client read floor e. (let same : event ≡ Trimmed client read floor = same_Some event _ (sym here ∙ e) in subst (KeepsTrims history j) same k);
    asked = λ client read floor e. (let same : event ≡ TrimDone client read floor = same_Some event _ (sym here ∙ e) in (done client read floor (subst (KeepsTrims history j) same k)).asked);
    done_once = λ client read floor e. (let same : event ≡ TrimDone client read floor = same_Some event _ (sym here ∙ e) in (done client read floor (subst (KeepsTrims history j) same k)).done_once);
  }
    where
      done : (client read floor : ℕ) → KeepsTrims history j (TrimDone client read floor) → IsDoneOnce history j (record { client = client; number = read }) floor
      done client read floor k = k

  pub trims_from : (event : Event) → slice_get history j ≡ Some event → TrimsAt history j → KeepsTrims history j event
  trims_from (Trimmed client read floor) here h = h.trimmed client read floor here
  trims_from (TrimDone client read floor) here h = record { asked = h.asked client read floor here; done_once = h.done_once client read floor here }
  trims_from (Invoke id bytes) here h = tt
  trims_from (Acked id) here h = tt
  trims_from (Rejected id place) here h = tt
  trims_from (Begin client read ask) here h = tt
  trims_from (Answer client read from entries tail) here h = tt
  trims_from (Seen client from ids) here h = tt
  trims_from (TrimAsk client read floor) here h = tt

pub trims_beyond : (history : List Event) (i : ℕ) → length history ≤ i → TrimsAt history i
trims_beyond history i ge = let e : slice_get history i ≡ None = slice_get_past history i ge in (dec_trims_at history i).decides.0 (rw e refl)

pub trims_past : (history : List Event) (n : ℕ) → length history ≤ n → ((k : ℕ) → k < n → TrimsAt history k) → (i : ℕ) → TrimsAt history i
trims_past history n ge f i = elim (cases_lt i n) [ inl lt ↦ f i lt | inr past ↦ trims_beyond history i (omega arith) ]
