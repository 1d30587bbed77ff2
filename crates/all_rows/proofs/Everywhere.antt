-- After every list of events, since all rows are good.
use Rattle.std.specs.Prelude.{◌<◌, List}
use Rattle.list_facts.specs.Lists.{Each}
use Rattle.view_config.specs.Shape.{Dimensions, IsShape}
use Rattle.lazy_msgs.specs.FrameLimits.{Fits}
use Rattle.lazy_msgs.specs.declared.input.WorldEvent.{WorldEvent}
use Rattle.lazy_msgs.specs.declared.limits.TheConstants.{TIME_LIMIT}
use Rattle.lazy_rules.specs.WorldState.{WorldState}
use Rattle.world_facts.specs.Reached.{InEveryWorld, WhereAskedInWords, reached}
use Rattle.world_facts.proofs.Runs.{form_of_run}
use Rattle.world_facts.proofs.goes.All.{members_of_run}
use Rattle.world_facts.proofs.sizes.Sent.{fit_all as fit_unless_given_up}
use Rattle.log_facts.specs.Agreed.{Kept}
use Rattle.log_facts.specs.Good.{AllRows, Moment}
use Rattle.log_facts.specs.LawfulLines.{AreLinesLawful}
use Rattle.log_facts.specs.Parts.{parts_of}
use Rattle.log_facts.specs.Promises.{PromisesKept}
use Rattle.log_facts.proofs.lines.Safety.{lines_of_run, promises_of_run}
use Rattle.log_facts.proofs.worlds.Run.{kept_of_run}
use Rattle.log_facts.proofs.worlds.Turns.{moment_of}
use Rattle.all_rows.specs.Records.{AreTold}
use Rattle.all_rows.proofs.HandedOn.{fit_all}
use Rattle.all_rows.proofs.Telling.{all_told}

module _ (rows : (shape : Dimensions) → AllRows shape) where
  kept : (shape : Dimensions) (events : List WorldEvent) → IsShape shape → Kept shape (reached shape events)
  kept shape events formed = kept_of_run shape (rows shape) formed events

  pub lines_lawful : InEveryWorld (λ shape w. AreLinesLawful w)
  lines_lawful shape events formed = lines_of_run shape formed (rows shape) events

  pub promises_kept : InEveryWorld (λ shape w. PromisesKept w)
  promises_kept shape events formed = promises_of_run shape formed (rows shape) events

  pub records_told : InEveryWorld (λ shape w. AreTold w.history)
  records_told shape events formed =
      let w : WorldState = reached shape events in
      let k : Kept shape w = kept shape events formed in
      let moment : Moment shape k.ghost (parts_of w) = moment_of shape (rows shape) formed w (form_of_run shape events) (members_of_run shape events formed) k.ghost k.holds in
      all_told shape k.ghost (parts_of w) moment

  pub messages_fit : WhereAskedInWords (λ shape w. w.events < TIME_LIMIT → Each (Fits shape.edition) w.sent)
  messages_fit shape events formed words small =
      let w : WorldState = reached shape events in
      let k : Kept shape w = kept shape events formed in
      fit_all shape k.ghost (parts_of w) w.sent k.holds.sent (fit_unless_given_up shape events formed words small)
