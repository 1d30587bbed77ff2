-- Clause (c) at an index, by the keys of what was invoked and finished.
use Rattle.std.proofs.Common.{◌≡◌, ℕ, ◌<◌, ◌≤◌, Bool, nat_lt, nat_le, List, length, map, Option, Some, None, slice_get, inl, inr, refl, sym, ap, ◌∙◌, subst, arith}
use Rattle.std.specs.Prelude.{option_and_then, option_map}
use Rattle.std.specs.Bool.{Decides}
use Rattle.std.proofs.lemmas.Bool.{cases_lt}
use Rattle.std.proofs.lemmas.Bool.Decides.{Decides-ltb, Decides-like}
use Rattle.std.proofs.lemmas.Option.{slice_get_past, same_Some}
use Rattle.law_cases.proofs.Clauses.{dec_finished_at}
use Rattle.law_cases.proofs.Decide.{le_decides}
use Rattle.rec_id.specs.Identity.{Identity}
use Rattle.rec_id.specs.History.{invoked_id, finished_id, told_at, SomeBefore, NoneBefore}
use Rattle.rec_id.specs.Line.{appended_id, IsAppended}
use Rattle.rec_id.specs.Lawful.{FinishedAt}
use Rattle.rec_id.specs.declared.entry.Entry.{Entry}
use Rattle.rec_id.specs.declared.event.Event.{Event}
use Rattle.rec_id.specs.declared.event.Event.TheVariants.{Invoke, Acked, Rejected, Begin, Answer, Seen, TrimAsk, TrimDone, Trimmed}
use Rattle.log_law.specs.declared.told.Told.TheVariants.{Invoked, Finished}
use Rattle.log_law.specs.declared.told.Names.TheVariants.{Appended}
use Rattle.log_law.specs.Ends.{StandsAsTold}
use Rattle.log_law.specs.Keys.{key_at, IsNext}
use Rattle.log_law.specs.Told.{id_key, entry_key, event_key}
use Rattle.log_law.proofs.Before.{none_yes, none_no, some_yes, some_no}
use Rattle.log_law.proofs.Indexing.{key_within}
use Rattle.log_law.proofs.ToldKeys.{keys_of_told, told_of_keys, same_id}

-- an appended entry, by keys
pub appended_decides : (line : List Entry) (id : Identity) (n : ℕ) → IsNext (map (entry_key Appended) line) 0 (id_key id) n → Decides (nat_lt n (length (map (entry_key Appended) line))) (IsAppended line id)
appended_decides line id n h = Decides-like (nat_lt n (length (map (entry_key Appended) line))) to from (Decides-ltb n (length (map (entry_key Appended) line)))
  where
    to : n < length (map (entry_key Appended) line) → IsAppended line id
    to lt = let t = told_of_keys appended_id id_key line n (id_key id) (h.stands lt) in record { place = n; tells = t.tells ∙ ap Some (same_id t.told id t.is) }

    from : IsAppended line id → n < length (map (entry_key Appended) line)
    from a =
        let k = keys_of_told appended_id id_key line a.place id a.tells in
        let w = key_within (map (entry_key Appended) line) a.place (id_key id) k in
        elim (cases_lt a.place n) [ inl lt ↦ absurd (h.none a.place (omega arith) lt k) | inr ge ↦ omega arith ]

-- an event that invokes does not finish
invokes_alone : (event : Event) (id : Identity) → invoked_id event ≡ Some id → finished_id event ≡ None
invokes_alone (Invoke a bytes) id e = refl
invokes_alone (Acked a) id e = cc
invokes_alone (Rejected a place) id e = cc
invokes_alone (Begin client read ask) id e = cc
invokes_alone (Answer client read from entries tail) id e = cc
invokes_alone (Seen client from ids) id e = cc
invokes_alone (TrimAsk client read floor) id e = cc
invokes_alone (TrimDone client read floor) id e = cc
invokes_alone (Trimmed client read floor) id e = cc

invokes_only : (line : List Entry) (event : Event) (id : Identity) → invoked_id event ≡ Some id → StandsAsTold line event
invokes_only line (Invoke a bytes) id e = tt
invokes_only line (Acked a) id e = cc
invokes_only line (Rejected a place) id e = cc
invokes_only line (Begin client read ask) id e = cc
invokes_only line (Answer client read from entries tail) id e = cc
invokes_only line (Seen client from ids) id e = cc
invokes_only line (TrimAsk client read floor) id e = cc
invokes_only line (TrimDone client read floor) id e = cc
invokes_only line (Trimmed client read floor) id e = cc

-- what the clause says of the event that stands at the index
module _ (history : List Event) (line : List Entry) (j : ℕ) (event : Event) (here : slice_get history j ≡ Some event) where
  abbrev told : {B : Type 0} (f : Event → Option B) → told_at f history j ≡ f event
  told f = ap (option_and_then f) here

  finished_from : ((id : Identity) → invoked_id event ≡ Some id → NoneBefore invoked_id history j id) →
      ((id : Identity) → finished_id event ≡ Some id → SomeBefore invoked_id history j id) → ((id : Identity) → finished_id event ≡ Some id → NoneBefore finished_id history j id) →
      StandsAsTold line event → FinishedAt history line j
  finished_from once before ends stands = record {
    invoked_once = λ id e. once id (sym (told invoked_id) ∙ e);
    invoked_before = λ id e. before id (sym (told finished_id) ∙ e);
    finished_once = λ id e. ends id (sym (told finished_id) ∙ e);
    acked = λ id e. (let same : event ≡ Acked id = same_Some event (Acked id) (sym here ∙ e) in subst (StandsAsTold line) same stands);
    rejected = λ id place e. (let same : event ≡ Rejected id place = same_Some event (Rejected id place) (sym here ∙ e) in subst (StandsAsTold line) same stands);
  }

  stands_of : (own : Event) → event ≡ own → FinishedAt history line j → StandsAsTold line own
  stands_of (Invoke a bytes) e f = tt
  stands_of (Acked a) e f = f.acked a (here ∙ ap Some e)
  stands_of (Rejected a place) e f = f.rejected a place (here ∙ ap Some e)
  stands_of (Begin client read ask) e f = tt
  stands_of (Answer client read from entries tail) e f = tt
  stands_of (Seen client from ids) e f = tt
  stands_of (TrimAsk client read floor) e f = tt
  stands_of (TrimDone client read floor) e f = tt
  stands_of (Trimmed client read floor) e f = tt

  module _ (n : ℕ) (short : j ≤ length history) where
    pub invoke_decides : (key : ℕ × ℕ) → key_at (map (event_key Invoked) history) j ≡ Some key → IsNext (map (event_key Invoked) history) 0 key n → Decides (nat_le j n) (FinishedAt history line j)
    invoke_decides key k h =
        let t = told_of_keys invoked_id id_key history j key k in
        let e : invoked_id event ≡ Some t.told = sym (told invoked_id) ∙ t.tells in
        let own : IsNext (map (event_key Invoked) history) 0 (id_key t.told) n = subst (λ (x : ℕ × ℕ). IsNext (map (event_key Invoked) history) 0 x n) (sym t.is) h in
        Decides-like (nat_le j n) (to t.told e own) (from t.told t.tells own) (le_decides j n)
      where
        to : (id : Identity) → invoked_id event ≡ Some id → IsNext (map (event_key Invoked) history) 0 (id_key id) n → j ≤ n → FinishedAt history line j
        to id e own le = finished_from
            (λ other f. (let same : id ≡ other = same_Some id other (sym e ∙ f) in subst (λ (x : Identity). NoneBefore invoked_id history j x) same (none_yes invoked_id id_key same_id history j short id n own le)))
            (λ other f. absurd (let g : None ≡ Some other = sym (invokes_alone event id e) ∙ f in cc)) (λ other f. absurd (let g : None ≡ Some other = sym (invokes_alone event id e) ∙ f in cc))
            (invokes_only line event id e)

        from : (id : Identity) → told_at invoked_id history j ≡ Some id → IsNext (map (event_key Invoked) history) 0 (id_key id) n → FinishedAt history line j → j ≤ n
        from id t own f = elim (cases_lt n j) [ inl lt ↦ absurd (none_no invoked_id id_key same_id history j short id n own lt (f.invoked_once id t)) | inr ge ↦ ge ]

    pub not_begun : (key : ℕ × ℕ) → key_at (map (event_key Finished) history) j ≡ Some key → IsNext (map (event_key Invoked) history) 0 key n → j ≤ n → ¬ FinishedAt history line j
    not_begun key k h le f =
        let t = told_of_keys finished_id id_key history j key k in
        some_no invoked_id id_key same_id history j short t.told n (subst (λ (x : ℕ × ℕ). IsNext (map (event_key Invoked) history) 0 x n) (sym t.is) h) le (f.invoked_before t.told t.tells)

    pub ended_before : (key : ℕ × ℕ) → key_at (map (event_key Finished) history) j ≡ Some key → IsNext (map (event_key Finished) history) 0 key n → n < j → ¬ FinishedAt history line j
    ended_before key k h lt f =
        let t = told_of_keys finished_id id_key history j key k in
        none_no finished_id id_key same_id history j short t.told n (subst (λ (x : ℕ × ℕ). IsNext (map (event_key Finished) history) 0 x n) (sym t.is) h) lt (f.finished_once t.told t.tells)

    pub end_decides : (m : ℕ) (b : Bool) (key : ℕ × ℕ) → key_at (map (event_key Invoked) history) j ≡ None → key_at (map (event_key Finished) history) j ≡ Some key →
        IsNext (map (event_key Invoked) history) 0 key n → n < j → IsNext (map (event_key Finished) history) 0 key m → j ≤ m → Decides b (StandsAsTold line event) → Decides b (FinishedAt history line j)
    end_decides m b key ki kf hn lt hm le d =
        let t = told_of_keys finished_id id_key history j key kf in
        let e : finished_id event ≡ Some t.told = sym (told finished_id) ∙ t.tells in
        let own_n = subst (λ (x : ℕ × ℕ). IsNext (map (event_key Invoked) history) 0 x n) (sym t.is) hn in
        let own_m = subst (λ (x : ℕ × ℕ). IsNext (map (event_key Finished) history) 0 x m) (sym t.is) hm in
        let before = some_yes invoked_id id_key same_id history j short t.told n own_n lt in
        let ends = none_yes finished_id id_key same_id history j short t.told m own_m le in
        Decides-like b
        (λ stands. finished_from (λ id f. absurd (no_invoke ki id f))
        (λ other f. (let same : t.told ≡ other = same_Some t.told other (sym e ∙ f) in subst (λ (x : Identity). SomeBefore invoked_id history j x) same before))
        (λ other f. (let same : t.told ≡ other = same_Some t.told other (sym e ∙ f) in subst (λ (x : Identity). NoneBefore finished_id history j x) same ends)) stands)
        (stands_of event refl) d
      where
        no_invoke : key_at (map (event_key Invoked) history) j ≡ None → (id : Identity) → invoked_id event ≡ Some id → ⊥
        no_invoke none id f = let g : None ≡ Some (id_key id) = sym none ∙ keys_of_told invoked_id id_key history j id (told invoked_id ∙ f) in cc

    pub silent_decides : (b : Bool) → key_at (map (event_key Invoked) history) j ≡ None → key_at (map (event_key Finished) history) j ≡ None → Decides b (StandsAsTold line event) → Decides b (FinishedAt history line j)
    silent_decides b ki kf d = Decides-like b
        (λ stands. finished_from (λ id f. absurd (no_key invoked_id ki id f)) (λ id f. absurd (no_key finished_id kf id f)) (λ id f. absurd (no_key finished_id kf id f)) stands)
        (stands_of event refl) d
      where
        no_key : (f : Event → Option Identity) → key_at (map (λ (e : Event). option_map id_key (f e)) history) j ≡ None → (id : Identity) → f event ≡ Some id → ⊥
        no_key f none id e = let g : None ≡ Some (id_key id) = sym none ∙ keys_of_told f id_key history j id (told f ∙ e) in cc

-- past the end it says nothing
pub finished_beyond : (history : List Event) (line : List Entry) (i : ℕ) → length history ≤ i → FinishedAt history line i
finished_beyond history line i ge = let e : slice_get history i ≡ None = slice_get_past history i ge in (dec_finished_at history line i).decides.0 (rw e refl)

pub finished_past : (history : List Event) (line : List Entry) (n : ℕ) → length history ≤ n → ((k : ℕ) → k < n → FinishedAt history line k) → (i : ℕ) → FinishedAt history line i
finished_past history line n ge f i = elim (cases_lt i n) [ inl lt ↦ f i lt | inr past ↦ finished_beyond history line i (omega arith) ]
