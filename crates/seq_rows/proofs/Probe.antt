-- Probe at a sequencing replica: it acknowledges the read, which nobody does who is shut. The leader tells what is
-- bound where nothing is pending, and else keeps the probe.
use Rattle.std.proofs.Common.{◌≡◌, ◌⊎◌, ℕ, ◌≤◌, List, [], ◌∷◌, ◌++◌, length, take, true, false, not, inl, inr, refl, sym, ap, ◌∙◌, subst, arith, append-nil}
use Rattle.std.specs.Prelude.{◌==◌, if◌then◌else◌}
use Rattle.std.proofs.lemmas.Bool.{cases_eq, cases_lt, eq-eqb, eqb-true, not-false}
use Rattle.list_facts.specs.Lists.{Each, In, put}
use Rattle.list_facts.proofs.Cases.{either}
use Rattle.list_facts.proofs.Members.{each_append, each_map, in_each}
use Rattle.rec_id.specs.Identity.{Identity}
use Rattle.rec_id.specs.declared.item.Item.{Item}
use Rattle.view_config.specs.Shape.{Dimensions}
use Rattle.lazy_msgs.specs.declared.msg.Msg.{Msg}
use Rattle.lazy_msgs.specs.declared.msg.Msg.TheVariants.{Probe, ProbeAck, Stable, TailReady}
use Rattle.lazy_rules.specs.Ids.{ids_of}
use Rattle.lazy_rules.specs.Leading.{stable_sends}
use Rattle.lazy_rules.specs.Roles.{is_first, replicas_of}
use Rattle.lazy_rules.specs.Rows.{answers, followed, sends_all, stays}
use Rattle.lazy_rules.specs.SeqRules.{is_following, is_leading, on_probe, tail_sends, waits}
use Rattle.lazy_rules.specs.SeqState.{SeqState}
use Rattle.log_facts.specs.Finality.{BarredOrCovered, IsShut, line_ids}
use Rattle.log_facts.specs.Ghosts.{Ghost, Log, Probed, Views}
use Rattle.log_facts.specs.Good.{GoodSeq, Heard, Moment}
use Rattle.log_facts.specs.Parts.{Parts, with_seq}
use Rattle.log_facts.specs.Past.{HasBegun}
use Rattle.log_facts.specs.Said.{Said}
use Rattle.log_facts.specs.Says.{ProbeAckSays, StableSays, TailSays}
use Rattle.log_facts.proofs.telling.Stands.{seq_same}
use Rattle.seq_rows.proofs.Active.{IsActive, following, not_shut}
use Rattle.seq_rows.proofs.Composing.{followed_good, moment_then}
use Rattle.seq_rows.proofs.Stepping.{Keeps, Steps, at_me, same_steps, stays_good, steps_good}
use Rattle.seq_rows.proofs.Waiting.{waits_led}
use Rattle.seq_rows.proofs.leading.Leading.{Leading, first, joined, known, leading_of, live}

none_pending : {A : Type 0} (xs : List A) → length xs ≡ 0 → xs ≡ []
none_pending [] e = refl
none_pending (x ∷ xs) e = absurd (omega arith)

module _ (shape : Dimensions) (g : Ghost) (a : Parts) (sender me : ℕ) (view read : ℕ) (moment : Moment shape g a) (heard : Heard shape g a sender me (Probe view read)) where
  abbrev s : SeqState
  s = a.seqs me

  abbrev v : Views
  v = g.views

  abbrev one : Probed
  one = record { node = me; view = view; client = sender; read = read }

  abbrev probed : List Probed
  probed = one ∷ g.log.probed

  abbrev later : Log
  later = record g.log { probed = one ∷ g.log.probed }

  abbrev acked : Ghost
  acked = record { views = g.views; log = later }

  begun : HasBegun a.history sender read
  begun = heard.said

  -- ---- the acknowledgement
  module _ (act : IsActive s view) where
    silent : (other : Probed) → In other probed → In other g.log.probed ⊎ (¬ IsShut (a.seqs other.node) other.view)
    silent other (inl is) = inr (subst (λ (x : Probed). ¬ IsShut (a.seqs x.node) x.view) is (not_shut s view act))
    silent other (inr i) = inl i

    acks : Keeps shape g a me moment s probed
    acks = record { grows = seq_same s; has = λ id current i. i; more = λ other i. inr i; silent = silent; probed_begun = (begun, moment.agreed.among_seqs.probed) }

    ack_steps : Steps shape g a me moment s later
    ack_steps = same_steps shape g a me moment probed acks

    ack_says : ProbeAckSays later.probed me view sender read
    ack_says = inl refl

    acks_good : GoodSeq shape g a me (answers s sender (ProbeAck view read))
    acks_good = steps_good shape g a me moment s later ack_steps ((sender, ProbeAck view read) ∷ []) (ack_says, tt)

  module _ (leading : Leading s) (own : s.view ≡ view) where
    act : IsActive s view
    act = record { own = own; some = let some = leading.some in omega arith; unsealed = leading.unsealed }

    -- ---- nothing is pending
    stable_says : StableSays v g.log.low s.view s.bound
    stable_says = record {
      started = (joined shape g a me moment leading).started;
      below = elim (cases_lt s.view v.cur) [
        | inl before ↦ let one = (moment.agreed.seqs me).closed leading.leads before in let two = moment.agreed.line.closed s.view before in omega arith
        | inr not ↦
            let within = known shape g a me moment leading in
            let now : s.view ≡ v.cur = omega arith in
            let first_now = subst (λ (w : ℕ). is_first (v.cf w).seq me ≡ true) now (first shape g a me moment leading) in
            let low = ((moment.agreed.line.live (live shape g a me moment leading now)).leader me first_now).low now in
            omega arith
      ];
      closed = λ before. (moment.agreed.seqs me).closed leading.leads before;
    }

    tail_says : s.pending ≡ [] → TailSays v later a.history (put a.seqs me s) s.view sender read s.bound
    tail_says none =
        let ids : line_ids g.log.line s ≡ take s.bound g.log.line = ap (λ (items : List Item). take s.bound g.log.line ++ ids_of items) none ∙ append-nil (take s.bound g.log.line) in
        let r = (ack_steps act).reads leading.some leading.leads in
        record {
          begun = begun;
          stable = stable_says;
          covers = subst (λ (list : List Identity). BarredOrCovered v later.probed a.history (put a.seqs me s) s.view sender read list s.bound) ids (r.cover sender read begun);
        }

    stables_said : Each (λ (send : ℕ × Msg). Said shape acked (with_seq a me s) me send.0 send.1) (stable_sends s s.bound)
    stables_said = each_map (λ (node : ℕ). (node, Stable s.view s.bound)) (λ (send : ℕ × Msg). Said shape acked (with_seq a me s) me send.0 send.1) (replicas_of s.config)
        (in_each (λ (node : ℕ). StableSays v g.log.low s.view s.bound) (replicas_of s.config) (λ node i. stable_says))

    tells_good : length s.pending ≡ 0 → GoodSeq shape g a me (sends_all s ((sender, ProbeAck view read) ∷ tail_sends s sender read))
    tells_good none = steps_good shape g a me moment s later (ack_steps act) ((sender, ProbeAck view read) ∷ tail_sends s sender read)
        (ack_says act, each_append (λ (send : ℕ × Msg). Said shape acked (with_seq a me s) me send.0 send.1) (stable_sends s s.bound) ((sender, TailReady s.view read s.bound) ∷ []) stables_said (tail_says (none_pending s.pending none), tt))

    -- ---- something is
    waits_good : 1 ≤ length s.pending → GoodSeq shape g a me (followed (answers s sender (ProbeAck view read)) (λ after. waits after sender read))
    waits_good some =
        let first_part : GoodSeq shape g a me (answers s sender (ProbeAck view read)) = acks_good act in
        followed_good shape g a me (answers s sender (ProbeAck view read)) (λ after. waits after sender read) first_part
        (waits_led shape first_part.ghost (with_seq a me s) me (moment_then shape g a me moment (answers s sender (ProbeAck view read)) (moment.formed.seqs me) first_part) (at_me Leading a me s leading) sender read
        (at_me (λ (x : SeqState). 1 ≤ length x.pending) a me s some) begun heard.goes.0).good

  pub probe_good : GoodSeq shape g a me (on_probe s sender view read)
  probe_good = either (GoodSeq shape g a me) (is_following s view) (answers s sender (ProbeAck view read))
      (if not (is_leading s view) then stays s else (if length s.pending == 0 then sends_all s ((sender, ProbeAck view read) ∷ tail_sends s sender read) else followed (answers s sender (ProbeAck view read)) (λ after. waits after sender read)))
      (λ e. acks_good (following s view e).active)
      (λ e. either (GoodSeq shape g a me) (not (is_leading s view)) (stays s)
      (if length s.pending == 0 then sends_all s ((sender, ProbeAck view read) ∷ tail_sends s sender read) else followed (answers s sender (ProbeAck view read)) (λ after. waits after sender read)) (λ f. stays_good shape g a me moment)
      (λ f. let lead = leading_of s view (not-false (is_leading s view) f) in
      either (GoodSeq shape g a me) (length s.pending == 0) (sends_all s ((sender, ProbeAck view read) ∷ tail_sends s sender read)) (followed (answers s sender (ProbeAck view read)) (λ after. waits after sender read))
      (λ h. tells_good lead.0 lead.1 (eqb-true (length s.pending) 0 h))
      (λ h. waits_good lead.0 lead.1 (elim (cases_eq (length s.pending) 0) [ inl none ↦ let wrong : false ≡ true = sym h ∙ eq-eqb (length s.pending) 0 none in cc | inr some ↦ omega arith ]))))
