-- FINISH: the first batches leave while every follower answered for them; where one left, batches are forced.
use Rattle.std.proofs.Common.{◌≡◌, ℕ, List, [], ◌∷◌, length, refl, ap}
use Rattle.list_facts.proofs.Cases.{either}
use Rattle.view_config.specs.Shape.{Dimensions}
use Rattle.lazy_rules.specs.Flight.{Batch, is_finished}
use Rattle.lazy_rules.specs.Leading.{finishes, finishes_from, finishing, forces, leaves}
use Rattle.lazy_rules.specs.Roles.{followers_of}
use Rattle.lazy_rules.specs.Rows.{followed, stays}
use Rattle.lazy_rules.specs.SeqState.{SeqState}
use Rattle.log_facts.specs.Ghosts.{Ghost}
use Rattle.log_facts.specs.Good.{Moment}
use Rattle.log_facts.specs.Parts.{Parts}
use Rattle.seq_rows.proofs.leading.Force.{forces_led}
use Rattle.seq_rows.proofs.leading.Leading.{Leading}
use Rattle.seq_rows.proofs.leading.Leave.{leaves_led}
use Rattle.seq_rows.proofs.leading.Led.{Led, led_followed, led_stays}

module _ (shape : Dimensions) (me : ℕ) where
  finishing_led : (flight : List Batch) (g : Ghost) (a : Parts) → Moment shape g a → Leading (a.seqs me) → (a.seqs me).flight ≡ flight → Led shape me g a (finishing (a.seqs me) flight)
  finishing_led [] g a moment leading is = led_stays shape me g a moment leading
  finishing_led (batch ∷ others) g a moment leading is =
      either (Led shape me g a) (is_finished (length (followers_of (a.seqs me).config)) batch) (followed (leaves (a.seqs me) batch others) (λ after. finishing after others)) (stays (a.seqs me))
      (λ done. led_followed shape me g a moment (leaves (a.seqs me) batch others) (λ after. finishing after others) (leaves_led shape me g a moment leading batch others is done)
      (λ h b then leads next. finishing_led others h b then leads (ap (λ (s : SeqState). s.flight) next)))
      (λ awaited. led_stays shape me g a moment leading)

  module _ (g : Ghost) (a : Parts) (moment : Moment shape g a) (leading : Leading (a.seqs me)) where
    finishes_from_led : (flight : List Batch) → (a.seqs me).flight ≡ flight → Led shape me g a (finishes_from (a.seqs me) flight)
    finishes_from_led [] is = led_stays shape me g a moment leading
    finishes_from_led (batch ∷ others) is =
        either (Led shape me g a) (is_finished (length (followers_of (a.seqs me).config)) batch) (followed (finishing (a.seqs me) (batch ∷ others)) forces) (stays (a.seqs me))
        (λ done. led_followed shape me g a moment (finishing (a.seqs me) (batch ∷ others)) forces (finishing_led (batch ∷ others) g a moment leading is) (λ h b then leads next. forces_led shape me h b then leads))
        (λ awaited. led_stays shape me g a moment leading)

    pub finishes_led : Led shape me g a (finishes (a.seqs me))
    finishes_led = finishes_from_led (a.seqs me).flight refl
