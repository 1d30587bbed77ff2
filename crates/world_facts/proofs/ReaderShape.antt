-- A reader keeps its shape.
use Rattle.std.proofs.Common.{◌≡◌, ℕ, List, refl}
use Rattle.std.specs.Prelude.{if◌then◌else◌}
use Rattle.std.specs.Option.{is_none}
use Rattle.list_facts.proofs.Cases.{either, some_or_none}
use Rattle.rec_id.specs.declared.entry.Entry.{Entry}
use Rattle.rec_id.specs.declared.event.Ask.{Ask}
use Rattle.rec_id.specs.declared.event.Ask.TheVariants.{Range, Tail}
use Rattle.view_config.specs.declared.config.Config.{Config}
use Rattle.view_config.specs.declared.edition.Edition.{Edition}
use Rattle.view_config.specs.declared.edition.Edition.TheVariants.{One, Two}
use Rattle.lazy_msgs.specs.declared.input.Input.{Input}
use Rattle.lazy_msgs.specs.declared.input.Input.TheVariants.{Take, Tick, Ask as AskInput, Trim as TrimInput}
use Rattle.lazy_msgs.specs.declared.msg.Msg.{Msg}
use Rattle.lazy_msgs.specs.declared.msg.Msg.TheVariants.{ProbeAck, TailReady, Part, ViewIs, TrimAck, TrimmedAt}
use Rattle.lazy_msgs.specs.Step.{Row}
use Rattle.lazy_rules.specs.Door.{is_turned_away}
use Rattle.lazy_rules.specs.ReaderRules.{begins_read, begins_trim, trim_refusal, on_trim_ack, on_part, on_trimmed_at, decides, on_probe_ack, on_tail_ready, goes_on, on_reader_view_is, on_reader_tick, on_ask, reader_row, reader_took, reader_step}
use Rattle.lazy_rules.specs.ReaderState.{ReaderState, Force, Stage, Idle, Fetching, Probing, Trimming}
use Rattle.lazy_rules.specs.Rows.{stays, followed}

pub record Next {S : Type 0} (P : S → Type 0) (row : Row S) : Type 0 where
  pub next : P row.next

module _ (r : ReaderState) where
  abbrev Shaped : Row ReaderState → Type 0
  Shaped = Next (λ (x : ReaderState). x.shape ≡ r.shape)

  leaf : (x : Row ReaderState) → x.next.shape ≡ r.shape → Shaped x
  leaf x h = record { next = h }

  later : (first : Row ReaderState) (more : ReaderState → Row ReaderState) → Shaped (more first.next) → Shaped (followed first more)
  later first more h = record { next = h.next }

  begins : (ask : Ask) → Shaped (begins_read r ask)
  begins (Range from to) = search (either Shaped, later, leaf) depth 12
  begins (Tail from) = search (either Shaped, later, leaf) depth 12

  asks : (ask : Ask) → Shaped (on_ask r ask)
  asks ask = search (either Shaped, begins ask, leaf) depth 12

  trims : (floor : ℕ) → Shaped (begins_trim r floor)
  trims floor = search (either Shaped, leaf) depth 12

  -- edition One has no trims
  trims_in : (edition : Edition) (floor : ℕ) → Shaped (elim edition [ One ↦ stays r | Two ↦ if is_none (trim_refusal r floor) then begins_trim r floor else stays r ])
  trims_in One floor = leaf _ refl
  trims_in Two floor = search (either Shaped, trims floor, leaf) depth 12

  acks : (stage : Stage) (sender number : ℕ) → Shaped (on_trim_ack (record r { stage = stage }) sender number)
  acks Idle sender number = leaf _ refl
  acks (Fetching fetch) sender number = leaf _ refl
  acks (Probing force) sender number = leaf _ refl
  acks (Trimming trimmer) sender number = search (either Shaped, leaf) depth 12

  parts : (stage : Stage) (sender number from end : ℕ) (entries : List (ℕ × Entry)) → Shaped (on_part (record r { stage = stage }) sender number from end entries)
  parts Idle sender number from end entries = leaf _ refl
  parts (Fetching fetch) sender number from end entries = search (either Shaped, some_or_none {A = ℕ} Shaped, leaf) depth 12
  parts (Probing force) sender number from end entries = leaf _ refl
  parts (Trimming trimmer) sender number from end entries = leaf _ refl

  gone : (stage : Stage) (number floor : ℕ) → Shaped (on_trimmed_at (record r { stage = stage }) number floor)
  gone Idle number floor = leaf _ refl
  gone (Fetching fetch) number floor = search (either Shaped, leaf) depth 12
  gone (Probing force) number floor = leaf _ refl
  gone (Trimming trimmer) number floor = leaf _ refl

  settled : (force : Force) → Shaped (decides r force)
  settled force = search (either Shaped, some_or_none {A = ℕ} Shaped, leaf) depth 12

  probed : (stage : Stage) (sender view number : ℕ) → ((force : Force) → Shaped (decides (record r { stage = stage }) force)) → Shaped (on_probe_ack (record r { stage = stage }) sender view number)
  probed Idle sender view number h = leaf _ refl
  probed (Fetching fetch) sender view number h = leaf _ refl
  probed (Probing force) sender view number h = search (either Shaped, h, leaf) depth 12
  probed (Trimming trimmer) sender view number h = leaf _ refl

  ready : (stage : Stage) (sender view number tail : ℕ) → ((force : Force) → Shaped (decides (record r { stage = stage }) force)) → Shaped (on_tail_ready (record r { stage = stage }) sender view number tail)
  ready Idle sender view number tail h = leaf _ refl
  ready (Fetching fetch) sender view number tail h = leaf _ refl
  ready (Probing force) sender view number tail h = search (either Shaped, h, leaf) depth 12
  ready (Trimming trimmer) sender view number tail h = leaf _ refl

  goes : (stage : Stage) (config : Config) → Shaped (goes_on (record r { stage = stage; config = config }))
  goes Idle config = leaf _ refl
  goes (Fetching fetch) config = leaf _ refl
  goes (Probing force) config = leaf _ refl
  goes (Trimming trimmer) config = search (either Shaped, leaf) depth 12

  views : (config : Config) → Shaped (on_reader_view_is r config)
  views config = search (either Shaped, goes r.stage config, leaf) depth 12

  ticks : (stage : Stage) → Shaped (on_reader_tick (record r { stage = stage }))
  ticks Idle = leaf _ refl
  ticks (Fetching fetch) = search (either Shaped, leaf) depth 12
  ticks (Probing force) = leaf _ refl
  ticks (Trimming trimmer) = leaf _ refl

  rows : (sender : ℕ) (msg : Msg) → Shaped (reader_row r sender msg)
  rows sender (ProbeAck view number) = probed r.stage sender view number settled
  rows sender (TailReady view number tail) = ready r.stage sender view number tail settled
  rows sender (Part number from end entries) = parts r.stage sender number from end entries
  rows sender (ViewIs config) = views config
  rows sender (TrimAck number) = acks r.stage sender number
  rows sender (TrimmedAt number floor) = gone r.stage number floor
  rows sender _ = leaf _ refl

  takes : (sender : ℕ) (msg : Msg) → Shaped (reader_took r sender msg)
  takes sender msg = either Shaped (is_turned_away r.shape sender msg) (stays r) (reader_row r sender msg) (λ h. leaf _ refl) (λ h. rows sender msg)

pub reader_shape : (r : ReaderState) (input : Input) → (reader_step r input).next.shape ≡ r.shape
reader_shape r (Take envelope) = (takes r envelope.from envelope.msg).next
reader_shape r Tick = (ticks r r.stage).next
reader_shape r (AskInput ask) = (asks r ask).next
reader_shape r (TrimInput floor) = (trims_in r r.shape.edition floor).next
reader_shape r _ = refl
