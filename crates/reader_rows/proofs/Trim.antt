-- Trim at a reader: the trim gets the next number, and is sent to all shard replicas.
use Rattle.std.proofs.Common.{◌≡◌, ◌≢◌, ℕ, ◌+◌, ◌≤◌, List, [], ◌∷◌, ◌++◌, Option, Some, None, Bool, true, false, ◌⊎◌, inl, inr, refl, sym, ap, ◌∙◌, subst, arith}
use Rattle.std.specs.Prelude.{nat_lt, if◌then◌else◌}
use Rattle.std.specs.Option.{is_none, option_map_or}
use Rattle.std.proofs.lemmas.Bool.{ltb-false}
use Rattle.list_facts.specs.Lists.{In, Precedes}
use Rattle.list_facts.proofs.Cases.{either}
use Rattle.list_facts.proofs.Members.{in_last, in_more}
use Rattle.list_facts.proofs.Precedence.{precedes_first}
use Rattle.rec_id.specs.declared.event.Ask.{Ask}
use Rattle.rec_id.specs.declared.event.Event.{Event}
use Rattle.rec_id.specs.declared.event.Event.TheVariants.{Begin, TrimAsk, TrimDone}
use Rattle.rec_id.specs.History.{Read, asked_trim, done_trim}
use Rattle.view_config.specs.Shape.{Dimensions}
use Rattle.view_config.specs.declared.edition.Edition.{Edition}
use Rattle.view_config.specs.declared.edition.Edition.TheVariants.{One, Two}
use Rattle.lazy_msgs.specs.declared.refused.TrimRefused.TheVariants.{Ahead, Outstanding as TrimOutstanding}
use Rattle.lazy_rules.specs.ReaderRules.{begins_trim, has_number, on_trim_input, trim_refusal, with_trimmer}
use Rattle.lazy_rules.specs.ReaderState.{ReaderState, outstanding}
use Rattle.lazy_rules.specs.Roles.{replicas_of}
use Rattle.lazy_msgs.specs.declared.msg.Msg.TheVariants.{Trim as TrimMsg}
use Rattle.lazy_rules.specs.Rows.{stays, to_each}
use Rattle.log_facts.specs.Ghosts.{Ghost}
use Rattle.log_facts.specs.Good.{GoodReader, Moment}
use Rattle.log_facts.specs.Parts.{Parts, with_reader}
use Rattle.log_facts.specs.facts.OfReads.{IsTrimming, ReaderFacts}
use Rattle.log_facts.proofs.telling.Histories.{TrimAllowed, history_more, no_append, no_read, none_new}
use Rattle.log_facts.proofs.telling.Told.{Tells}
use Rattle.reader_rows.proofs.Asking.{trims_said}
use Rattle.reader_rows.proofs.Stepping.{stays_good, tells_good}

-- the event that asks for a trim, and the one that ends it
ask_is : (event : Event) (client number floor : ℕ) → asked_trim event ≡ Some (record { client = client; number = number }, floor) → event ≡ TrimAsk client number floor
ask_is (TrimAsk c n f) client number floor is =
    let read : Read = record { client = c; number = n } in
    let other : Read = record { client = client; number = number } in
    let both : Some (read, f) ≡ Some (other, floor) = is in
    let pair : (read, f) ≡ (other, floor) = cc in
    let same : read ≡ other = ap (λ (x : Read × ℕ). x.0) pair in
    let one : c ≡ client = ap (λ (x : Read). x.client) same in
    let two : n ≡ number = ap (λ (x : Read). x.number) same in
    let three : f ≡ floor = ap (λ (x : Read × ℕ). x.1) pair in
    ap (λ (x : ℕ). TrimAsk x n f) one ∙ ap (λ (x : ℕ). TrimAsk client x f) two ∙ ap (TrimAsk client number) three
ask_is _ client number floor is = let wrong : None ≡ Some (record { client = client; number = number }, floor) = is in cc

done_is : (event : Event) (client number : ℕ) → done_trim event ≡ Some (record { client = client; number = number }) → (floor : ℕ) × (event ≡ TrimDone client number floor)
done_is (TrimDone c n f) client number is =
    let read : Read = record { client = c; number = n } in
    let other : Read = record { client = client; number = number } in
    let both : Some read ≡ Some other = is in
    let same : read ≡ other = cc in
    let one : c ≡ client = ap (λ (x : Read). x.client) same in
    let two : n ≡ number = ap (λ (x : Read). x.number) same in
    (f, ap (λ (x : ℕ). TrimDone x n f) one ∙ ap (λ (x : ℕ). TrimDone client x f) two)
done_is _ client number is = let wrong : None ≡ Some (record { client = client; number = number }) = is in cc

-- a trim that isn't refused is no further than the answers reached
not_ahead : (waits : Option ℕ) (reach floor : ℕ) → is_none (option_map_or (λ number. Some (TrimOutstanding number)) waits (if nat_lt reach floor then Some (Ahead reach) else None)) ≡ true → floor ≤ reach
not_ahead (Some number) reach floor h = cc
not_ahead None reach floor h = by (nat_lt reach floor) refl h
  where
    by : (b : Bool) → nat_lt reach floor ≡ b → is_none (if b then Some (Ahead reach) else None) ≡ true → floor ≤ reach
    by true is none = cc
    by false is none = ltb-false reach floor is

module _ (shape : Dimensions) (g : Ghost) (a : Parts) (c floor : ℕ) (moment : Moment shape g a) where
  abbrev r : ReaderState
  r = a.readers c

  abbrev number : ℕ
  number = r.count + 1

  abbrev read : Read
  read = record { client = c; number = number }

  abbrev event : Event
  event = TrimAsk c number floor

  abbrev later : List Event
  later = a.history ++ event ∷ []

  abbrev next : ReaderState
  next = with_trimmer r floor

  facts : ReaderFacts g.views a.history c r
  facts = moment.agreed.clients.reads c

  unasked : (high : ℕ) → ¬ In (TrimAsk c number high) a.history
  unasked high i = let most = facts.trims number high i in absurd (omega arith)

  allowed : TrimAllowed a.history event
  allowed = record {
    asked_new = λ other low high before i one is.
        let both : Some (read, floor) ≡ Some (other, high) = is in
        let pair : (read, floor) ≡ (other, high) = cc in
        let same : read ≡ other = ap (λ (x : Read × ℕ). x.0) pair in
        let first : before ≡ TrimAsk c number low = ask_is before c number low (one ∙ ap (λ (x : Read). Some (x, low)) (sym same)) in
        unasked low (subst (λ (e : Event). In e a.history) first i);
    asked = λ client other limit is. cc;
    done_new = none_new done_trim a.history event refl;
  }

  tells : Tells shape g a event
  tells = record {
    once = history_more shape a.history event (no_append shape a.history event refl refl) (no_read a.history event refl refl) allowed moment.agreed.history;
    begins = λ client other asked is. cc;
    invokes = λ id bytes is. cc;
    ends = λ id is. let wrong : None ≡ Some id = is in cc;
    reaches = λ x is. let wrong : None ≡ Some x = is in cc;
    acked = λ id apart is. cc;
    rejected = λ id place is. cc;
    trimmed = λ client other limit is. cc;
    answers = λ client other from entries tail is. cc;
    seen = λ client from ids is. cc;
  }

  trimming : IsTrimming later c number floor
  trimming = record {
    asked = in_last event a.history;
    going = λ other i. by other (in_more other event a.history i);
  }
    where
      by : (other : Event) → In other a.history ⊎ (event ≡ other) → done_trim other ≢ Some read
      by other (inl i) = λ is.
          let done = done_is other c number is in
          let before : Precedes (TrimAsk c number done.0) (TrimDone c number done.0) a.history = moment.agreed.history.trims.asked_before c number done.0 (subst (λ (e : Event). In e a.history) done.1 i) in
          unasked done.0 (precedes_first (TrimAsk c number done.0) (TrimDone c number done.0) a.history before)
      by other (inr same) = λ is. let wrong : None ≡ Some read = ap done_trim same ∙ is in cc

  facts_now : ReaderFacts g.views later c next
  facts_now = record {
    config = facts.config;
    reads = λ other ask i. by other ask (in_more (Begin c other ask) event a.history i);
    trims = λ other limit i. by_trim other limit (in_more (TrimAsk c other limit) event a.history i);
    stage = trimming;
  }
    where
      by : (other : ℕ) (ask : Ask) → In (Begin c other ask) a.history ⊎ (event ≡ Begin c other ask) → other ≤ r.count + 1
      by other ask (inl i) = let most = facts.reads other ask i in omega arith
      by other ask (inr is) = cc

      by_trim : (other limit : ℕ) → In (TrimAsk c other limit) a.history ⊎ (event ≡ TrimAsk c other limit) → other ≤ r.count + 1
      by_trim other limit (inl i) = let most = facts.trims other limit i in omega arith
      by_trim other limit (inr is) = let same : number ≡ other = cc in omega arith

  module _ (least : floor ≤ r.reach) where
    begun_good : GoodReader shape g a c (record {
      next = next;
      sends = to_each (replicas_of r.config) (TrimMsg number floor);
      events = TrimAsk r.client number floor ∷ [];
    })
    begun_good = tells_good shape g a c moment (record { next = next; sends = to_each (replicas_of r.config) (TrimMsg number floor); events = TrimAsk r.client number floor ∷ [] }) event
        (ap (λ (x : ℕ). TrimAsk x number floor ∷ []) (moment.formed.readers c).numbered) (record {
          facts = facts_now;
          notes = let reach = (moment.agreed.clients.reads_noted c).reach in record { reach = reach; stage = record { below = omega arith; acked = tt } };
          tells = tells;
          others = λ n other. record {
            begins = λ x ask is. cc;
            asks = λ x limit is. let same : c ≡ n = cc in other (sym same);
            ends = λ x is. let wrong : None ≡ Some (record { client = n; number = x }) = is in cc;
            done = λ x is. let wrong : None ≡ Some (record { client = n; number = x }) = is in cc;
          };
          no_append = λ n. record { invoked = λ id bytes is. cc; ended = λ id is. let wrong : None ≡ Some id = is in cc };
        }) (trims_said shape g (with_reader a c next (event ∷ [])) c number floor (in_last event a.history) (replicas_of r.config))

    begins_good : GoodReader shape g a c (begins_trim r floor)
    begins_good = either (GoodReader shape g a c) (has_number r) (record { next = next; sends = to_each (replicas_of r.config) (TrimMsg number floor); events = TrimAsk r.client number floor ∷ [] }) (stays r) (λ e. begun_good) (λ e. stays_good shape g a c moment)

  by_edition : (edition : Edition) → GoodReader shape g a c (elim edition [
    | One ↦ stays r
    | Two ↦ if is_none (trim_refusal r floor) then begins_trim r floor else stays r
  ])
  by_edition One = stays_good shape g a c moment
  by_edition Two = either (GoodReader shape g a c) (is_none (trim_refusal r floor)) (begins_trim r floor) (stays r) (λ e. begins_good (not_ahead (outstanding r.stage) r.reach floor e)) (λ e. stays_good shape g a c moment)

  pub trim_good : GoodReader shape g a c (on_trim_input r floor)
  trim_good = by_edition r.shape.edition
