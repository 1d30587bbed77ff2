-- Post at a client: the append gets the next number, and is sent.
use Rattle.std.proofs.Common.{◌≡◌, ◌≢◌, ◌⊎◌, ℕ, ◌+◌, ◌<◌, ◌≤◌, List, [], ◌∷◌, ◌++◌, length, Bool, true, false, Option, Some, None, inl, inr, refl, sym, ap, ◌∙◌, subst, arith}
use Rattle.std.specs.Prelude.{◌==◌, ◌-◌, ◌^◌, if◌then◌else◌, nat_le, nat_lt}
use Rattle.std.specs.Option.{is_none}
use Rattle.std.proofs.lemmas.Bool.{cases_lt, leb-false}
use Rattle.list_facts.specs.Lists.{Each, In}
use Rattle.list_facts.proofs.Cases.{either}
use Rattle.list_facts.proofs.Members.{each_append, each_in, each_weaker, in_last, in_left, in_more}
use Rattle.list_facts.proofs.Precedence.{precedes_first}
use Rattle.rec_id.specs.Identity.{Identity}
use Rattle.rec_id.specs.History.{finished_id, invoked_id}
use Rattle.rec_id.specs.declared.event.Event.{Event}
use Rattle.rec_id.specs.declared.event.Event.TheVariants.{Invoke}
use Rattle.view_config.specs.Limits.{record_limit, window_of}
use Rattle.view_config.specs.Shape.{Dimensions}
use Rattle.lazy_msgs.specs.declared.refused.PostRefused.{PostRefused}
use Rattle.lazy_msgs.specs.declared.refused.PostRefused.TheVariants.{NumbersSpent, TooLong, WindowFull}
use Rattle.lazy_rules.specs.ClientRules.{begun, invokes, on_post, post_refusal}
use Rattle.lazy_rules.specs.ClientState.{ClientState, OpenAppend, id_of, lowest}
use Rattle.lazy_rules.specs.Rows.{stays}
use Rattle.world_facts.specs.Members.{IsClientNode}
use Rattle.log_facts.specs.Ghosts.{Ghost}
use Rattle.log_facts.specs.Good.{GoodClient, Moment}
use Rattle.log_facts.specs.Parts.{Parts, with_client}
use Rattle.log_facts.specs.Past.{HasEnded}
use Rattle.log_facts.specs.facts.OfClients.{AckNoted, ClientFacts, ClientNotes, IsOpen, OpenFacts}
use Rattle.log_facts.proofs.telling.Clients.{IsNoAppendOf}
use Rattle.log_facts.proofs.telling.Histories.{AppendAllowed, history_more, no_read, no_trim, none_new}
use Rattle.log_facts.proofs.telling.Past.{ended_stays}
use Rattle.log_facts.proofs.telling.Told.{Tells}
use Rattle.client_rows.proofs.OpenAppends.{lowest_more, rises_more}
use Rattle.client_rows.proofs.Sending.{append_said}
use Rattle.client_rows.proofs.Stepping.{tells_good}
use Rattle.client_rows.proofs.Tick.{stays_good}

third_false : (one two three : Bool) (x y z : PostRefused) → (if one then Some x else (if two then Some y else (if three then Some z else None))) ≡ None → three ≡ false
third_false true two three x y z h = cc
third_false false true three x y z h = cc
third_false false false true x y z h = cc
third_false false false false x y z h = refl

-- the next number is less than a window above the lowest open one
post_near : (k : ClientState) (size : ℕ) → post_refusal k size ≡ None → k.next < lowest k.next k.unfinished + window_of k.shape.edition
post_near k size h = leb-false (lowest k.next k.unfinished + window_of k.shape.edition) k.next (third_false (nat_lt (record_limit k.shape.edition) size) (k.next == 2 ^ 32 - 1) (nat_le (lowest k.next k.unfinished + window_of k.shape.edition) k.next) TooLong NumbersSpent (WindowFull (lowest k.next k.unfinished)) h)

allowed_of : (refusal : Option PostRefused) → is_none refusal ≡ true → refusal ≡ None
allowed_of None h = refl
allowed_of (Some refused) h = cc

-- an event that begins an append is its Invoke
invoke_is : (event : Event) (id : Identity) → invoked_id event ≡ Some id → (bytes : List ℕ) × (event ≡ Invoke id bytes)
invoke_is (Invoke other bytes) id is = let same : other ≡ id = let both : Some other ≡ Some id = is in cc in (bytes, ap (λ (x : Identity). Invoke x bytes) same)
invoke_is _ id is = let wrong : None ≡ Some id = is in cc

module _ (shape : Dimensions) (g : Ghost) (a : Parts) (c : ℕ) (moment : Moment shape g a) (there : IsClientNode shape c) (bytes : List ℕ) where
  abbrev k : ClientState
  k = a.clients c

  facts : ClientFacts shape g.views a.history c k
  facts = moment.agreed.clients.appends c

  own : k.client ≡ c
  own = (moment.formed.clients c).numbered

  abbrev id : Identity
  id = id_of k k.next

  abbrev event : Event
  event = Invoke id bytes

  abbrev later : List Event
  later = a.history ++ event ∷ []

  abbrev now : ClientState
  now = (invokes k bytes).next

  -- no append of this number began, and so none ended
  not_begun : (others : List ℕ) → ¬ In (Invoke id others) a.history
  not_begun others i = let number = facts.begun id others own i in absurd (omega arith)

  not_ended : ¬ HasEnded later id
  not_ended e = by (in_more e.event event a.history e.stands)
    where
      by : In e.event a.history ⊎ (event ≡ e.event) → ⊥
      by (inl i) = let before = moment.agreed.history.appends.begun_before id e.event e.ends i in not_begun before.0 (precedes_first (Invoke id before.0) e.event a.history before.1)
      by (inr is) = let wrong : None ≡ Some id = ap finished_id is ∙ e.ends in cc

  unended : (n : ℕ) → ¬ HasEnded a.history (id_of k n) → ¬ HasEnded later (id_of now n)
  unended n before e = by (in_more e.event event a.history e.stands)
    where
      by : In e.event a.history ⊎ (event ≡ e.event) → ⊥
      by (inl i) = before (record { event = e.event; ends = e.ends; stands = i })
      by (inr is) = let wrong : None ≡ Some (id_of k n) = ap finished_id is ∙ e.ends in cc

  opened_now : Each (OpenFacts later now) now.unfinished
  opened_now = each_append (OpenFacts later now) k.unfinished (begun k bytes ∷ [])
      (each_weaker (OpenFacts a.history k) (OpenFacts later now) (λ append f. let below = f.below in record { below = omega arith; begun = in_left (Invoke (id_of k append.number) append.bytes) a.history (event ∷ []) f.begun; not_ended = unended append.number f.not_ended }) k.unfinished facts.opened)
      (record { below = omega arith; begun = in_last event a.history; not_ended = not_ended }, tt)

  ended_now : (n : ℕ) → 1 ≤ n → n < k.next + 1 → IsOpen now n ⊎ HasEnded later (id_of now n)
  ended_now n some below = elim (cases_lt n k.next) [
    | inl earlier ↦ old (facts.ended n some earlier)
    | inr least ↦ inl (record { append = begun k bytes; among = in_last (begun k bytes) k.unfinished; number_is = omega arith })
  ]
    where
      old : IsOpen k n ⊎ HasEnded a.history (id_of k n) → IsOpen now n ⊎ HasEnded later (id_of now n)
      old (inl o) = inl (record { append = o.append; among = in_left o.append k.unfinished (begun k bytes ∷ []) o.among; number_is = o.number_is })
      old (inr e) = inr (ended_stays a.history (event ∷ []) (id_of k n) e)

  module _ (allowed : post_refusal k (length bytes) ≡ None) where
    facts_now : ClientFacts shape g.views later c now
    facts_now = record {
      config = facts.config;
      next = omega arith;
      few =
          let near : k.next < lowest k.next k.unfinished + window_of shape.edition = subst (λ (d : Dimensions). k.next < lowest k.next k.unfinished + window_of d.edition) (moment.formed.clients c).shaped (post_near k (length bytes) allowed) in
          let same : lowest (k.next + 1) (k.unfinished ++ begun k bytes ∷ []) ≡ lowest k.next k.unfinished = lowest_more k.next k.unfinished (begun k bytes) refl in
          omega arith;
      rising = rises_more 1 k.next k.unfinished (begun k bytes) facts.rising (λ other h. (each_in (OpenFacts a.history k) k.unfinished facts.opened other h).below) facts.next refl;
      opened = opened_now;
      begun = λ other others client i. by other others client (in_more (Invoke other others) event a.history i);
      ended = ended_now;
    }
      where
        by : (other : Identity) (others : List ℕ) → other.client ≡ c → In (Invoke other others) a.history ⊎ (event ≡ Invoke other others) → other.number < k.next + 1
        by other others client (inl i) = let number = facts.begun other others client i in omega arith
        by other others client (inr is) = let same : id ≡ other = cc in let number : k.next ≡ other.number = ap (λ (x : Identity). x.number) same in omega arith

    notes_now : ClientNotes g.views g.log a.seqs now
    notes_now = each_append (λ (append : OpenAppend). Each (AckNoted g.views g.log a.seqs now (id_of now append.number)) append.acked) k.unfinished (begun k bytes ∷ [])
        (each_weaker (λ (append : OpenAppend). Each (AckNoted g.views g.log a.seqs k (id_of k append.number)) append.acked) (λ (append : OpenAppend). Each (AckNoted g.views g.log a.seqs now (id_of now append.number)) append.acked)
        (λ append all. each_weaker (AckNoted g.views g.log a.seqs k (id_of k append.number)) (AckNoted g.views g.log a.seqs now (id_of now append.number)) (λ node n. record { member = n.member; home = n.home }) append.acked all) k.unfinished (moment.agreed.clients.appends_noted c))
        (tt, tt)

    fresh : AppendAllowed shape a.history event
    fresh = record {
      client = λ x others is. let same : id ≡ x = cc in (subst (λ (y : Identity). y.client < shape.clients) same (subst (λ (n : ℕ). n < shape.clients) (sym own) there), subst (λ (y : Identity). 1 ≤ y.number) same facts.next);
      invoked = λ x is before i one.
          let same : id ≡ x = let both : Some id ≡ Some x = is in cc in
          let found = invoke_is before id (one ∙ ap (λ (y : Identity). Some y) (sym same)) in
          not_begun found.0 (subst (λ (e : Event). In e a.history) found.1 i);
      begun = λ x is. let wrong : None ≡ Some x = is in cc;
      ended = none_new finished_id a.history event refl;
    }

    tells : Tells shape g a event
    tells = record {
      once = history_more shape a.history event fresh (no_read a.history event refl refl) (no_trim a.history event refl refl) moment.agreed.history;
      begins = λ client read ask is. cc;
      invokes = λ x others is b. let same : id ≡ x = cc in not_begun b.bytes (subst (λ (y : Identity). In (Invoke y b.bytes) a.history) (sym same) b.stands);
      ends = λ x is. let wrong : None ≡ Some x = is in cc;
      reaches = λ reach is. let wrong : None ≡ Some reach = is in cc;
      acked = λ x apart is. cc;
      rejected = λ x p is. cc;
      trimmed = λ client read floor is. cc;
      answers = λ client read from entries tail is. cc;
      seen = λ client from ids is. cc;
    }

    others_apart : (n : ℕ) → n ≢ c → IsNoAppendOf event n
    others_apart n other = record {
      invoked = λ x others is same. let same_id : id ≡ x = cc in other (sym same ∙ ap (λ (y : Identity). y.client) (sym same_id) ∙ own);
      ended = λ x is. let wrong : None ≡ Some x = is in cc;
    }

    invokes_good : GoodClient shape g a c (invokes k bytes)
    invokes_good = tells_good shape g a c moment (invokes k bytes) event refl (record {
      facts = facts_now;
      notes = notes_now;
      tells = tells;
      others = others_apart;
      no_read = λ n. record { begins = λ read ask is. cc; asks = λ read floor is. cc; ends = λ read is. let wrong : None ≡ Some (record { client = n; number = read }) = is in cc; done = λ read is. let wrong : None ≡ Some (record { client = n; number = read }) = is in cc };
    }) (append_said shape g (with_client a c now (event ∷ [])) c k (moment.formed.clients c).shaped (begun k bytes) (in_last event a.history))

  pub post_good : GoodClient shape g a c (on_post k bytes)
  post_good = either (GoodClient shape g a c) (is_none (post_refusal k (length bytes))) (invokes k bytes) (stays k) (λ e. invokes_good (allowed_of (post_refusal k (length bytes)) e)) (λ e. stays_good shape g a c moment)
