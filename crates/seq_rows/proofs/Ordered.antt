-- Ordered at a leader: a follower's answer is noted, and batches that all have ordered leave.
use Rattle.std.proofs.Common.{◌≡◌, ℕ, Some, not, sym, subst}
use Rattle.std.proofs.lemmas.Bool.{not-false}
use Rattle.list_facts.proofs.Cases.{either, some_or_none}
use Rattle.view_config.specs.Shape.{Dimensions}
use Rattle.std.specs.Option.{option_map_or}
use Rattle.std.specs.Prelude.{if◌then◌else◌}
use Rattle.lazy_msgs.specs.declared.msg.Msg.TheVariants.{Ordered}
use Rattle.lazy_rules.specs.Flight.{has_ordering, with_order}
use Rattle.lazy_rules.specs.Leading.{finishes}
use Rattle.lazy_rules.specs.Roles.{follower_of}
use Rattle.lazy_rules.specs.Rows.{stays}
use Rattle.lazy_rules.specs.SeqRules.{is_leading, notes_order, on_ordered}
use Rattle.lazy_rules.specs.SeqState.{SeqState}
use Rattle.log_facts.specs.Ghosts.{Ghost}
use Rattle.log_facts.specs.Good.{GoodSeq, Heard, Moment}
use Rattle.log_facts.specs.Parts.{Parts}
use Rattle.log_facts.specs.Says.{OrderedSays}
use Rattle.seq_rows.proofs.Stepping.{stays_good}
use Rattle.seq_rows.proofs.leading.Finish.{finishes_led}
use Rattle.seq_rows.proofs.leading.Leading.{Leading, leading_of}
use Rattle.seq_rows.proofs.leading.Led.{Led, led_followed}
use Rattle.seq_rows.proofs.leading.Note.{order_led}

module _ (shape : Dimensions) (g : Ghost) (a : Parts) (sender me view upto : ℕ) (moment : Moment shape g a) (heard : Heard shape g a sender me (Ordered view upto)) where
  abbrev s : SeqState
  s = a.seqs me

  noted_led : Leading s → s.view ≡ view → (follower : ℕ) → follower_of s.config sender ≡ Some follower → Led shape me g a (notes_order s upto follower)
  noted_led leading own follower found =
      let says : OrderedSays g.views (a.seqs sender) sender s.view upto = subst (λ (w : ℕ). OrderedSays g.views (a.seqs sender) sender w upto) (sym own) heard.said in
      led_followed shape me g a moment (stays (record s { flight = with_order s.flight follower upto })) finishes
      (order_led shape me g a moment leading sender upto follower found says) (λ h b after leads is. finishes_led shape me h b after leads)

  pub ordered_good : GoodSeq shape g a me (on_ordered s sender view upto)
  ordered_good = either (GoodSeq shape g a me) (not (is_leading s view)) (stays s) (if not (has_ordering s.flight upto) then stays s else option_map_or (notes_order s upto) (follower_of s.config sender) (stays s))
      (λ follows. stays_good shape g a me moment)
      (λ leads.
      let own = leading_of s view (not-false (is_leading s view) leads) in
      either (GoodSeq shape g a me) (not (has_ordering s.flight upto)) (stays s) (option_map_or (notes_order s upto) (follower_of s.config sender) (stays s))
      (λ none. stays_good shape g a me moment)
      (λ there. some_or_none (GoodSeq shape g a me) (notes_order s upto) (follower_of s.config sender) (stays s)
      (λ follower found. (noted_led own.0 own.1 follower found).good)
      (λ stranger. stays_good shape g a me moment)))
