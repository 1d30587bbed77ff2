-- A part of a leader's row that is good and leaves a leader, from which the next part goes on.
use Rattle.std.proofs.Common.{◌≡◌, ℕ, List, subst}
use Rattle.list_facts.proofs.Puts.{put_own}
use Rattle.list_facts.specs.Lists.{Each}
use Rattle.view_config.specs.Shape.{Dimensions}
use Rattle.lazy_msgs.specs.Step.{Row}
use Rattle.lazy_msgs.specs.declared.msg.Msg.{Msg}
use Rattle.lazy_rules.specs.Flight.{Batch}
use Rattle.lazy_rules.specs.Rows.{followed, sends_all, stays}
use Rattle.lazy_rules.specs.SeqState.{SeqState}
use Rattle.log_facts.specs.Ghosts.{Ghost}
use Rattle.log_facts.specs.Good.{GoodSeq, Moment}
use Rattle.log_facts.specs.Parts.{Parts, SeqFormed, with_seq}
use Rattle.log_facts.specs.Said.{Said}
use Rattle.seq_rows.proofs.Composing.{followed_good, moment_then}
use Rattle.seq_rows.proofs.Stepping.{at_me, stays_good, unchanged_good}
use Rattle.seq_rows.proofs.leading.Flown.{Flies, flown_good}
use Rattle.seq_rows.proofs.leading.Leading.{Leading}

module _ (shape : Dimensions) (me : ℕ) where
  pub record Led (g : Ghost) (a : Parts) (row : Row SeqState) : Type 0 where
    pub good : GoodSeq shape g a me row
    pub formed : SeqFormed shape me row.next
    pub leading : Leading row.next

  pub led_followed :
      (g : Ghost) (a : Parts) (moment : Moment shape g a) (first : Row SeqState) (more : SeqState → Row SeqState) → Led g a first →
      ((h : Ghost) (b : Parts) → Moment shape h b → Leading (b.seqs me) → b.seqs me ≡ first.next → Led h b (more (b.seqs me))) → Led g a (followed first more)
  led_followed g a moment first more one rest =
      let own : (with_seq a me first.next).seqs me ≡ first.next = put_own a.seqs me first.next in
      let two : Led one.good.ghost (with_seq a me first.next) (more ((with_seq a me first.next).seqs me)) =
      rest one.good.ghost (with_seq a me first.next) (moment_then shape g a me moment first one.formed one.good) (at_me Leading a me first.next one.leading) own in
      record {
        good = followed_good shape g a me first more one.good two.good;
        formed = subst (λ (s : SeqState). SeqFormed shape me (more s).next) own two.formed;
        leading = subst (λ (s : SeqState). Leading (more s).next) own two.leading;
      }

  module _ (g : Ghost) (a : Parts) (moment : Moment shape g a) (leading : Leading (a.seqs me)) where
    -- nothing but messages
    pub led_sends : (sends : List (ℕ × Msg)) → Each (λ (send : ℕ × Msg). Said shape g a me send.0 send.1) sends → Led g a (sends_all (a.seqs me) sends)
    led_sends sends said = record { good = unchanged_good shape g a me moment sends said; formed = moment.formed.seqs me; leading = leading }

    pub led_stays : Led g a (stays (a.seqs me))
    led_stays = record { good = stays_good shape g a me moment; formed = moment.formed.seqs me; leading = leading }

    -- another flight
    pub led_flown :
        (flight : List Batch) → Flies shape g a me moment leading flight → (sends : List (ℕ × Msg)) → Each (λ (send : ℕ × Msg). Said shape g a me send.0 send.1) sends →
        Led g a (sends_all (record (a.seqs me) { flight = flight }) sends)
    led_flown flight flies sends said =
        let formed = moment.formed.seqs me in
        record {
          good = flown_good shape g a me moment leading flight flies sends said;
          formed = record { shaped = formed.shaped; numbered = formed.numbered; config = formed.config; probes = formed.probes };
          leading = record { some = leading.some; unsealed = leading.unsealed; leads = leading.leads };
        }
