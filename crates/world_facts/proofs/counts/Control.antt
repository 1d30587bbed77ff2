-- The newest view's number grows by one with an event at most.
use Rattle.lazy_msgs.specs.declared.msg.Msg.TheVariants.{Sealed, SealedEmpty, Flushed, Started, AskView}
use Rattle.lazy_msgs.specs.declared.input.Input.TheVariants.{Take, Tick, Suspect}
use Rattle.lazy_rules.specs.ControlState.{ControlState, Flushing, Phase, Running, Sealing, newest}
use Rattle.lazy_msgs.specs.declared.input.Input.{Input}
use Rattle.rec_id.specs.declared.item.Item.{Item}
use Rattle.rec_id.specs.declared.marks.Marks.{Marks}
use Rattle.lazy_msgs.specs.declared.msg.Msg.{Msg}
use Rattle.world_facts.proofs.ReaderShape.{Next}
use Rattle.lazy_msgs.specs.Step.{Row}
use Rattle.lazy_rules.specs.ControlRules.{control_row, control_step, control_took, on_ask_view, on_flushed, on_sealed, on_started, on_suspect, suspect_refusal, replaces}
use Rattle.std.specs.Option.{is_none}
use Rattle.lazy_rules.specs.Door.{is_turned_away}
use Rattle.list_facts.proofs.Cases.{some_or_none, either}
use Rattle.std.proofs.Common.{arith, refl, ◌≡◌, ◌+◌, ◌≤◌, [], ℕ, List}
use Rattle.lazy_rules.specs.Rows.{stays}

module _ (k : ControlState) where
  abbrev Counts : Row ControlState → Type 0
  Counts = Next (λ (x : ControlState). (newest x).view ≤ (newest k).view + 1)

  same : (row : Row ControlState) → (newest row.next).view ≡ (newest k).view → Counts row
  same row is = record { next = omega arith }

  one_more : (row : Row ControlState) → (newest row.next).view ≡ (newest k).view + 1 → Counts row
  one_more row is = record { next = omega arith }

module _ (k : ControlState) where
  abbrev at : Phase → ControlState
  at phase = record k { phase = phase }

  replaced : (phase : Phase) (node : ℕ) → Counts (at phase) (replaces (at phase) node)
  replaced (Running reign) node = one_more (at (Running reign)) _ refl
  replaced (Sealing change) node = one_more (at (Sealing change)) _ refl
  replaced (Flushing taken) node = one_more (at (Flushing taken)) _ refl

  sealed : (phase : Phase) (view bound : ℕ) (window : List Marks) (items : List Item) → Counts (at phase) (on_sealed (at phase) view bound window items)
  sealed (Running reign) view bound window items = same (at (Running reign)) _ refl
  sealed (Sealing change) view bound window items = search (either (Counts (at (Sealing change))), same (at (Sealing change))) depth 12
  sealed (Flushing taken) view bound window items = same (at (Flushing taken)) _ refl

  flushed : (phase : Phase) (sender view : ℕ) → Counts (at phase) (on_flushed (at phase) sender view)
  flushed (Running reign) sender view = same (at (Running reign)) _ refl
  flushed (Sealing change) sender view = same (at (Sealing change)) _ refl
  flushed (Flushing taken) sender view = search (either (Counts (at (Flushing taken))), some_or_none {A = ℕ} (Counts (at (Flushing taken))), same (at (Flushing taken))) depth 14

  started : (phase : Phase) (sender view : ℕ) → Counts (at phase) (on_started (at phase) sender view)
  started (Running reign) sender view = search (either (Counts (at (Running reign))), same (at (Running reign))) depth 12
  started (Sealing change) sender view = same (at (Sealing change)) _ refl
  started (Flushing taken) sender view = same (at (Flushing taken)) _ refl

  asked : (phase : Phase) (sender : ℕ) → Counts (at phase) (on_ask_view (at phase) sender)
  asked (Running reign) sender = same (at (Running reign)) _ refl
  asked (Sealing change) sender = same (at (Sealing change)) _ refl
  asked (Flushing taken) sender = same (at (Flushing taken)) _ refl

module _ (k : ControlState) where
  rows : (sender : ℕ) (msg : Msg) → Counts k (control_row k sender msg)
  rows sender (Sealed view bound window items) = sealed k k.phase view bound window items
  rows sender (SealedEmpty view) = sealed k k.phase view k.base k.window []
  rows sender (Flushed view) = flushed k k.phase sender view
  rows sender (Started view) = started k k.phase sender view
  rows sender AskView = asked k k.phase sender
  rows sender _ = same k _ refl

  takes : (sender : ℕ) (msg : Msg) → Counts k (control_took k sender msg)
  takes sender msg = either (Counts k) (is_turned_away k.shape sender msg) (stays k) (control_row k sender msg) (λ h. same k _ refl) (λ h. rows sender msg)

  suspects : (node : ℕ) → Counts k (on_suspect k node)
  suspects node = either (Counts k) (is_none (suspect_refusal k node)) (replaces k node) (stays k) (λ h. replaced k k.phase node) (λ h. same k _ refl)

  steps : (input : Input) → Counts k (control_step k input)
  steps (Take e) = takes e.from e.msg
  steps (Suspect node) = suspects node
  steps Tick = same k _ refl
  steps _ = same k _ refl

pub control_counts : (k : ControlState) (input : Input) → (newest (control_step k input).next).view ≤ (newest k).view + 1
control_counts k input = (steps k input).next
