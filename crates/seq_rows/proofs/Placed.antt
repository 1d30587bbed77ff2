-- Placed at a leader: the answer of a shard's primary is noted, batches pass, and those that are ordered leave.
use Rattle.std.proofs.Common.{◌≡◌, ℕ, Some, not, sym, subst}
use Rattle.std.proofs.lemmas.Bool.{not-false}
use Rattle.list_facts.proofs.Cases.{either, some_or_none}
use Rattle.view_config.specs.Shape.{Dimensions}
use Rattle.std.specs.Option.{option_map_or}
use Rattle.std.specs.Prelude.{if◌then◌else◌}
use Rattle.lazy_msgs.specs.declared.msg.Msg.TheVariants.{Placed}
use Rattle.lazy_rules.specs.Flight.{has_placing, with_place}
use Rattle.lazy_rules.specs.Leading.{finishes, passes}
use Rattle.lazy_rules.specs.Roles.{shard_led_by}
use Rattle.lazy_rules.specs.Rows.{followed, stays}
use Rattle.lazy_rules.specs.SeqRules.{is_leading, notes_place, on_placed}
use Rattle.lazy_rules.specs.SeqState.{SeqState}
use Rattle.log_facts.specs.Ghosts.{Ghost}
use Rattle.log_facts.specs.Good.{GoodSeq, Heard, Moment}
use Rattle.log_facts.specs.Parts.{Parts}
use Rattle.log_facts.specs.Says.{PlacedSays}
use Rattle.seq_rows.proofs.Stepping.{stays_good}
use Rattle.seq_rows.proofs.leading.Finish.{finishes_led}
use Rattle.seq_rows.proofs.leading.Leading.{Leading, leading_of}
use Rattle.seq_rows.proofs.leading.Led.{Led, led_followed}
use Rattle.seq_rows.proofs.leading.Note.{place_led}
use Rattle.seq_rows.proofs.leading.Pass.{passes_led}

module _ (shape : Dimensions) (g : Ghost) (a : Parts) (sender me view upto : ℕ) (moment : Moment shape g a) (heard : Heard shape g a sender me (Placed view upto)) where
  abbrev s : SeqState
  s = a.seqs me

  noted_led : Leading s → s.view ≡ view → (shard : ℕ) → shard_led_by s.config sender ≡ Some shard → Led shape me g a (notes_place s upto shard)
  noted_led leading own shard found =
      let says : PlacedSays g.views a.shards sender s.view upto = subst (λ (w : ℕ). PlacedSays g.views a.shards sender w upto) (sym own) heard.said in
      let noted = place_led shape me g a moment leading sender upto shard found says in
      let passed : Led shape me g a (followed (stays (record s { flight = with_place s.flight shard upto })) passes) =
      led_followed shape me g a moment (stays (record s { flight = with_place s.flight shard upto })) passes noted (λ h b after leads is. passes_led shape me h b after leads) in
      led_followed shape me g a moment (passes (record s { flight = with_place s.flight shard upto })) finishes passed (λ h b after leads is. finishes_led shape me h b after leads)

  pub placed_good : GoodSeq shape g a me (on_placed s sender view upto)
  placed_good = either (GoodSeq shape g a me) (not (is_leading s view)) (stays s) (if not (has_placing s.flight upto) then stays s else option_map_or (notes_place s upto) (shard_led_by s.config sender) (stays s))
      (λ follows. stays_good shape g a me moment)
      (λ leads.
      let own = leading_of s view (not-false (is_leading s view) leads) in
      either (GoodSeq shape g a me) (not (has_placing s.flight upto)) (stays s) (option_map_or (notes_place s upto) (shard_led_by s.config sender) (stays s))
      (λ none. stays_good shape g a me moment)
      (λ there. some_or_none (GoodSeq shape g a me) (notes_place s upto) (shard_led_by s.config sender) (stays s)
      (λ shard found. (noted_led own.0 own.1 shard found).good)
      (λ stranger. stays_good shape g a me moment)))
