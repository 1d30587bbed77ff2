-- FORCE: batches begin while there is room and a read waits for what is behind them.
use Rattle.std.proofs.Common.{ℕ, zero, suc, ◌-◌, length}
use Rattle.list_facts.proofs.Cases.{either}
use Rattle.view_config.specs.Shape.{Dimensions}
use Rattle.lazy_rules.specs.declared.limits.TheConstants.{FLIGHT_LIMIT}
use Rattle.lazy_rules.specs.Flight.{flight_end, waits_above}
use Rattle.lazy_rules.specs.Leading.{begins, forces, forcing}
use Rattle.lazy_rules.specs.Rows.{followed, stays}
use Rattle.log_facts.specs.Ghosts.{Ghost}
use Rattle.log_facts.specs.Good.{Moment}
use Rattle.log_facts.specs.Parts.{Parts}
use Rattle.seq_rows.proofs.leading.Begin.{begins_led}
use Rattle.seq_rows.proofs.leading.Leading.{Leading}
use Rattle.seq_rows.proofs.leading.Led.{Led, led_followed, led_stays}

module _ (shape : Dimensions) (me : ℕ) where
  forcing_led : (room : ℕ) (g : Ghost) (a : Parts) → Moment shape g a → Leading (a.seqs me) → Led shape me g a (forcing room (a.seqs me))
  forcing_led zero g a moment leading = led_stays shape me g a moment leading
  forcing_led (suc room) g a moment leading =
      either (Led shape me g a) (waits_above (a.seqs me).probes (flight_end (a.seqs me).bound (a.seqs me).flight)) (followed (begins (a.seqs me)) (forcing room)) (stays (a.seqs me))
      (λ waits. led_followed shape me g a moment (begins (a.seqs me)) (forcing room) (begins_led shape me g a moment leading) (λ h b then leads is. forcing_led room h b then leads))
      (λ none. led_stays shape me g a moment leading)

  pub forces_led : (g : Ghost) (a : Parts) → Moment shape g a → Leading (a.seqs me) → Led shape me g a (forces (a.seqs me))
  forces_led g a moment leading = forcing_led (FLIGHT_LIMIT - length (a.seqs me).flight) g a moment leading
