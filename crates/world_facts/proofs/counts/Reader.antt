-- The number of a reader's reads and trims, and of its turns, grows by one with an event at most.
use Rattle.rec_id.specs.declared.entry.Entry.{Entry}
use Rattle.rec_id.specs.declared.event.Ask.TheVariants.{Range, Tail}
use Rattle.lazy_msgs.specs.declared.msg.Msg.TheVariants.{ProbeAck, TailReady, Part, ViewIs, TrimAck, TrimmedAt}
use Rattle.lazy_msgs.specs.declared.input.Input.TheVariants.{Take, Tick, Ask as AskInput, Trim as TrimInput}
use Rattle.lazy_rules.specs.ReaderState.{ReaderState, Force, Stage, Idle, Fetching, Probing, Trimming}
use Rattle.view_config.specs.declared.config.Config.{Config}
use Rattle.view_config.specs.declared.edition.Edition.{Edition}
use Rattle.lazy_msgs.specs.declared.input.Input.{Input}
use Rattle.lazy_msgs.specs.declared.msg.Msg.{Msg}
use Rattle.world_facts.proofs.ReaderShape.{Next}
use Rattle.view_config.specs.declared.edition.Edition.TheVariants.{One, Two}
use Rattle.lazy_msgs.specs.Step.{Row}
use Rattle.lazy_rules.specs.ReaderRules.{acked_force, at_stage, begin_refusal, begins_read, begins_trim, fetches_in_turn, forced_end, goes_on, has_number, on_ask, on_part, on_probe_ack, on_reader_tick, on_reader_view_is, on_tail_ready, on_trim_ack, on_trimmed_at, probes_all, reader_row, reader_step, reader_took, trim_refusal, with_number, with_tail, with_turn, answered, concludes, decides, fetches, opens, seeks}
use Rattle.rec_id.specs.History.{asked_from}
use Rattle.lazy_rules.specs.Rows.{has_node, followed, stays}
use Rattle.std.specs.Option.{is_none, option_map_or}
use Rattle.lazy_rules.specs.Door.{is_turned_away}
use Rattle.std.specs.List.{list_all}
use Rattle.std.specs.Prelude.{nat_le, nat_lt, ◌==◌, if◌then◌else◌}
use Rattle.list_facts.proofs.Cases.{some_or_none, either}
use Rattle.world_facts.specs.Numbers.{turn_of}
use Rattle.std.proofs.Common.{arith, refl, ◌≡◌, ◌+◌, ◌≤◌, ◌^◌, [], None, Some, ℕ, List}
use Rattle.rec_id.specs.declared.event.Ask.{Ask}

pub record IsCountedBy (count turns : ℕ) (x : ReaderState) : Type 0 where
  pub reads : x.count ≤ count
  pub turn : turn_of x.stage ≤ turns

module _ (r : ReaderState) where
  abbrev Counts : Row ReaderState → Type 0
  Counts = Next (IsCountedBy (r.count + 1) (turn_of r.stage + 1))

  -- no more reads, and as many turns or none
  same : (row : Row ReaderState) → row.next.count ≡ r.count → turn_of row.next.stage ≡ turn_of r.stage → Counts row
  same row a b = record { next = record { reads = omega arith; turn = omega arith } }

  fresh : (row : Row ReaderState) → row.next.count ≡ r.count → turn_of row.next.stage ≡ 0 → Counts row
  fresh row a b = record { next = record { reads = omega arith; turn = omega arith } }

  -- one read or trim more
  more : (row : Row ReaderState) → row.next.count ≡ r.count + 1 → turn_of row.next.stage ≡ 0 → Counts row
  more row a b = record { next = record { reads = omega arith; turn = omega arith } }

  later : (first : Row ReaderState) (rest : ReaderState → Row ReaderState) → Counts (rest first.next) → Counts (followed first rest)
  later first rest h = record { next = h.next }

  begins : (ask : Ask) → Counts (begins_read r ask)
  begins (Range from to) =
      either Counts (has_number r) (followed (opens r (Range from to)) (λ (after : ReaderState). seeks after (Range from to))) (stays r)
      (λ h. later (opens r (Range from to)) (λ (after : ReaderState). seeks after (Range from to))
      (either Counts (from == to) (answered (with_number r) (r.count + 1) (Range from to) [] None) (fetches (with_number r) (r.count + 1) (Range from to) to None) (λ k. more _ refl refl) (λ k. more _ refl refl)))
      (λ h. same _ refl refl)
  begins (Tail from) =
      either Counts (has_number r) (followed (opens r (Tail from)) (λ (after : ReaderState). seeks after (Tail from))) (stays r)
      (λ h. later (opens r (Tail from)) (λ (after : ReaderState). seeks after (Tail from)) (more (probes_all (with_number r) (r.count + 1) (Tail from)) refl refl))
      (λ h. same _ refl refl)

  asks : (ask : Ask) → Counts (on_ask r ask)
  asks ask = either Counts (is_none (begin_refusal r ask)) (begins_read r ask) (stays r) (λ h. begins ask) (λ h. same _ refl refl)

  trims : (floor : ℕ) → Counts (begins_trim r floor)
  trims floor = search (either Counts, more, same) depth 12

  trims_in : (edition : Edition) (floor : ℕ) → Counts (elim edition [ One ↦ stays r | Two ↦ if is_none (trim_refusal r floor) then begins_trim r floor else stays r ])
  trims_in One floor = same _ refl refl
  trims_in Two floor = either Counts (is_none (trim_refusal r floor)) (begins_trim r floor) (stays r) (λ h. trims floor) (λ h. same _ refl refl)

-- the stage is given apart
module _ (r : ReaderState) where
  abbrev at : Stage → ReaderState
  at stage = record r { stage = stage }

  settled : (force old : Force) → Counts (at (Probing old)) (decides (at (Probing old)) force)
  settled force old =
      either (Counts (at (Probing old))) (list_all (has_node force.acked) r.config.seq) (option_map_or (concludes (at (Probing old)) force) force.tail (stays (at_stage (at (Probing old)) (Probing force)))) (stays (at_stage (at (Probing old)) (Probing force)))
      (λ h. some_or_none (Counts (at (Probing old))) (concludes (at (Probing old)) force) force.tail (stays (at_stage (at (Probing old)) (Probing force)))
      (λ tail is. either (Counts (at (Probing old))) (nat_le (forced_end force.ask tail) (asked_from force.ask)) (answered (at (Probing old)) force.number force.ask [] (Some tail)) (fetches (at (Probing old)) force.number force.ask (forced_end force.ask tail) (Some tail))
      (λ k. fresh (at (Probing old)) _ refl refl) (λ k. fresh (at (Probing old)) _ refl refl))
      (λ none. fresh (at (Probing old)) _ refl refl))
      (λ h. fresh (at (Probing old)) _ refl refl)

  acks : (stage : Stage) (sender view number : ℕ) → Counts (at stage) (on_probe_ack (at stage) sender view number)
  acks Idle sender view number = same (at Idle) _ refl refl
  acks (Fetching fetch) sender view number = same (at (Fetching fetch)) _ refl refl
  acks (Probing force) sender view number = let more_acks = settled (acked_force force sender) force in let stay = same (at (Probing force)) (stays (at (Probing force))) refl refl in search (either (Counts (at (Probing force))), more_acks, stay) depth 12
  acks (Trimming trimmer) sender view number = same (at (Trimming trimmer)) _ refl refl

  tails : (stage : Stage) (sender view number tail : ℕ) → Counts (at stage) (on_tail_ready (at stage) sender view number tail)
  tails Idle sender view number tail = same (at Idle) _ refl refl
  tails (Fetching fetch) sender view number tail = same (at (Fetching fetch)) _ refl refl
  tails (Probing force) sender view number tail = let known = settled (with_tail force tail) force in let stay = same (at (Probing force)) (stays (at (Probing force))) refl refl in search (either (Counts (at (Probing force))), known, stay) depth 12
  tails (Trimming trimmer) sender view number tail = same (at (Trimming trimmer)) _ refl refl

  parts : (stage : Stage) (sender number from end : ℕ) (entries : List (ℕ × Entry)) → Counts (at stage) (on_part (at stage) sender number from end entries)
  parts Idle sender number from end entries = same (at Idle) _ refl refl
  parts (Fetching fetch) sender number from end entries = search (either (Counts (at (Fetching fetch))), some_or_none {A = ℕ} (Counts (at (Fetching fetch))), same (at (Fetching fetch)), fresh (at (Fetching fetch))) depth 14
  parts (Probing force) sender number from end entries = same (at (Probing force)) _ refl refl
  parts (Trimming trimmer) sender number from end entries = same (at (Trimming trimmer)) _ refl refl

  gone : (stage : Stage) (number floor : ℕ) → Counts (at stage) (on_trimmed_at (at stage) number floor)
  gone Idle number floor = same (at Idle) _ refl refl
  gone (Fetching fetch) number floor = search (either (Counts (at (Fetching fetch))), same (at (Fetching fetch)), fresh (at (Fetching fetch))) depth 12
  gone (Probing force) number floor = same (at (Probing force)) _ refl refl
  gone (Trimming trimmer) number floor = same (at (Trimming trimmer)) _ refl refl

  trim_acks : (stage : Stage) (sender number : ℕ) → Counts (at stage) (on_trim_ack (at stage) sender number)
  trim_acks Idle sender number = same (at Idle) _ refl refl
  trim_acks (Fetching fetch) sender number = same (at (Fetching fetch)) _ refl refl
  trim_acks (Probing force) sender number = same (at (Probing force)) _ refl refl
  trim_acks (Trimming trimmer) sender number = search (either (Counts (at (Trimming trimmer))), fresh (at (Trimming trimmer))) depth 12

  goes : (stage : Stage) (config : Config) → Counts (at stage) (goes_on (record r { stage = stage; config = config }))
  goes Idle config = same (at Idle) _ refl refl
  goes (Fetching fetch) config = same (at (Fetching fetch)) _ refl refl
  goes (Probing force) config = fresh (at (Probing force)) _ refl refl
  goes (Trimming trimmer) config = search (either (Counts (at (Trimming trimmer))), fresh (at (Trimming trimmer))) depth 12

  turns : (stage : Stage) → Counts (at stage) (on_reader_tick (at stage))
  turns Idle = same (at Idle) _ refl refl
  turns (Fetching fetch) =
      either (Counts (at (Fetching fetch))) (nat_lt (fetch.turn + 1) (2 ^ 32)) (fetches_in_turn (at (Fetching fetch)) (with_turn fetch)) (stays (at (Fetching fetch)))
      (λ h. record { next = record { reads = omega arith; turn = omega arith } }) (λ h. same (at (Fetching fetch)) _ refl refl)
  turns (Probing force) = same (at (Probing force)) _ refl refl
  turns (Trimming trimmer) = same (at (Trimming trimmer)) _ refl refl

module _ (r : ReaderState) where
  views : (config : Config) → Counts r (on_reader_view_is r config)
  views config = either (Counts r) (nat_lt r.config.view config.view) (goes_on (record r { config = config })) (stays r) (λ h. goes r r.stage config) (λ h. same r _ refl refl)

  rows : (sender : ℕ) (msg : Msg) → Counts r (reader_row r sender msg)
  rows sender (ProbeAck view number) = acks r r.stage sender view number
  rows sender (TailReady view number tail) = tails r r.stage sender view number tail
  rows sender (Part number from end entries) = parts r r.stage sender number from end entries
  rows sender (ViewIs config) = views config
  rows sender (TrimAck number) = trim_acks r r.stage sender number
  rows sender (TrimmedAt number floor) = gone r r.stage number floor
  rows sender _ = same r _ refl refl

  takes : (sender : ℕ) (msg : Msg) → Counts r (reader_took r sender msg)
  takes sender msg = either (Counts r) (is_turned_away r.shape sender msg) (stays r) (reader_row r sender msg) (λ h. same r _ refl refl) (λ h. rows sender msg)

  steps : (input : Input) → Counts r (reader_step r input)
  steps (Take e) = takes e.from e.msg
  steps Tick = turns r r.stage
  steps (AskInput ask) = asks r ask
  steps (TrimInput floor) = trims_in r r.shape.edition floor
  steps _ = same r _ refl refl

pub reader_counts : (r : ReaderState) (input : Input) → IsCountedBy (r.count + 1) (turn_of r.stage + 1) (reader_step r input).next
reader_counts r input = (steps r input).next
