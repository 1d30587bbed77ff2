-- Only clients are told anything: no step of another node tells an event.
use Rattle.std.proofs.Common.{◌≡◌, ℕ, zero, suc, ◌-◌, List, [], ◌∷◌, ◌++◌, length, refl, ap, ◌∙◌}
use Rattle.std.specs.Prelude.{nat_lt}
use Rattle.std.specs.List.{filter}
use Rattle.std.specs.Option.{is_none, option_map_or}
use Rattle.list_facts.proofs.Cases.{either, some_or_none}
use Rattle.rec_id.specs.declared.item.Item.{Item}
use Rattle.rec_id.specs.declared.marks.Marks.{Marks}
use Rattle.lazy_msgs.specs.Step.{Row}
use Rattle.lazy_msgs.specs.declared.input.Input.{Input}
use Rattle.lazy_msgs.specs.declared.input.Input.TheVariants.{Take, Tick, Grace, Suspect}
use Rattle.lazy_msgs.specs.declared.msg.Msg.{Msg}
use Rattle.lazy_msgs.specs.declared.msg.Msg.TheVariants.{Append, Put, Place, Placed as PlacedMsg, Copy, Copied, Order, Ordered, Stable, Probe, Fetch, Flush, FlushCopy, Flushed, Seal, Sealed, SealedEmpty, NewView, Started, AskView, Trim as TrimMsg}
use Rattle.lazy_rules.specs.ControlRules.{control_step, control_row, notes_flush, on_flushed, on_sealed, on_started, on_ask_view, replaces, suspect_refusal}
use Rattle.lazy_rules.specs.ControlState.{ControlState, Phase, Running, Sealing, Flushing, Taken}
use Rattle.lazy_rules.specs.Door.{is_turned_away}
use Rattle.lazy_rules.specs.Flight.{Batch, flight_end, is_finished, waits_above}
use Rattle.lazy_rules.specs.Leading.{begins, finishes, finishes_from, finishing, forces, forcing, leaves}
use Rattle.lazy_rules.specs.Pushing.{flush_ends, is_settled, places_end, pushes_above, pushes_flush, pushes_place, pushes_places, settles}
use Rattle.lazy_rules.specs.Roles.{followers_of}
use Rattle.lazy_rules.specs.Rows.{answers, followed, stays}
use Rattle.lazy_rules.specs.SeqRules.{seq_row, seq_step}
use Rattle.lazy_rules.specs.SeqState.{SeqState}
use Rattle.lazy_rules.specs.ShardRules.{shard_row, shard_step}
use Rattle.lazy_rules.specs.ShardState.{FlushJob, PlaceJob, ShardState}

abbrev Quiet : {S : Type 0} → Row S → Type 0
Quiet row = row.events ≡ []

quiet_followed : {S : Type 0} (first : Row S) (more : S → Row S) → Quiet first → Quiet (more first.next) → Quiet (followed first more)
quiet_followed first more h k = ap (λ es. es ++ (more first.next).events) h ∙ k

-- ---- sequencing replicas
abbrev SeqQuiet : Row SeqState → Type 0
SeqQuiet row = Quiet row

quiet_begins : (s : SeqState) → Quiet (begins s)
quiet_begins s = either SeqQuiet _ _ _ (λ h. refl) (λ h. refl)

quiet_forcing : (room : ℕ) (s : SeqState) → Quiet (forcing room s)
quiet_forcing zero s = refl
quiet_forcing (suc room) s =
    either SeqQuiet (waits_above s.probes (flight_end s.bound s.flight)) _ _
    (λ h. quiet_followed (begins s) (forcing room) (quiet_begins s) (quiet_forcing room (begins s).next)) (λ h. refl)

quiet_finishing : (s : SeqState) (flight : List Batch) → Quiet (finishing s flight)
quiet_finishing s [] = refl
quiet_finishing s (batch ∷ others) =
    either SeqQuiet (is_finished (length (followers_of s.config)) batch) _ _
    (λ h. quiet_followed (leaves s batch others) (λ after. finishing after others) refl (quiet_finishing (leaves s batch others).next others)) (λ h. refl)

quiet_finishes_from : (s : SeqState) (flight : List Batch) → Quiet (finishes_from s flight)
quiet_finishes_from s [] = refl
quiet_finishes_from s (batch ∷ others) =
    either SeqQuiet (is_finished (length (followers_of s.config)) batch) _ _
    (λ h. quiet_followed (finishing s (batch ∷ others)) forces (quiet_finishing s (batch ∷ others)) (quiet_forcing (4 - length (finishing s (batch ∷ others)).next.flight) (finishing s (batch ∷ others)).next)) (λ h. refl)

quiet_finishes : (s : SeqState) → Quiet (finishes s)
quiet_finishes s = quiet_finishes_from s s.flight

quiet_seq_row : (s : SeqState) (sender : ℕ) (msg : Msg) → Quiet (seq_row s sender msg)
quiet_seq_row s sender (Append view id bytes) = search (either SeqQuiet) depth 12
quiet_seq_row s sender (PlacedMsg view upto) = search (either SeqQuiet, some_or_none {A = ℕ} SeqQuiet, quiet_finishes) depth 12
quiet_seq_row s sender (Order view from ids) = search (either SeqQuiet) depth 12
quiet_seq_row s sender (Ordered view upto) = search (either SeqQuiet, some_or_none {A = ℕ} SeqQuiet, quiet_finishes) depth 12
quiet_seq_row s sender (Probe view read) = search (either SeqQuiet, quiet_followed, quiet_forcing) depth 12
quiet_seq_row s sender (Seal view) = search (either SeqQuiet) depth 12
quiet_seq_row s sender (NewView config base window) = search (either SeqQuiet) depth 12
quiet_seq_row s sender _ = refl

pub quiet_seq : (s : SeqState) (input : Input) → Quiet (seq_step s input)
quiet_seq s (Take e) = either SeqQuiet (is_turned_away s.shape e.from e.msg) _ _ (λ h. refl) (λ h. quiet_seq_row s e.from e.msg)
quiet_seq s Tick = search (either SeqQuiet, quiet_begins) depth 12
quiet_seq s _ = refl

-- ---- shard replicas
abbrev ShardQuiet : Row ShardState → Type 0
ShardQuiet row = Quiet row

quiet_places_end : (s : ShardState) (jobs : List PlaceJob) → Quiet (places_end s jobs)
quiet_places_end s [] = refl
quiet_places_end s (job ∷ jobs) =
    either ShardQuiet (is_settled s job.end) _ _
    (λ h. quiet_followed (answers (record s { jobs = jobs }) job.asker (PlacedMsg s.view job.end)) (λ after. places_end after jobs) refl (quiet_places_end (record s { jobs = jobs }) jobs)) (λ h. refl)

quiet_flush_ends : (s : ShardState) (job : FlushJob) → Quiet (flush_ends s job)
quiet_flush_ends s job = search (either ShardQuiet) depth 12

quiet_flush_end : (s : ShardState) → ShardQuiet (option_map_or (flush_ends s) s.flush (stays s))
quiet_flush_end s = some_or_none ShardQuiet (flush_ends s) s.flush (stays s) (λ job h. quiet_flush_ends s job) (λ h. refl)

quiet_settles : (s : ShardState) → Quiet (settles s)
quiet_settles s =
    quiet_followed (places_end s s.jobs) (λ after. option_map_or (flush_ends after) after.flush (stays after)) (quiet_places_end s s.jobs) (quiet_flush_end (places_end s s.jobs).next)

quiet_pushes_place : (s : ShardState) (job : PlaceJob) → Quiet (pushes_place s job)
quiet_pushes_place s job = search (either ShardQuiet, quiet_settles) depth 12

quiet_pushes_flush : (s : ShardState) (job : FlushJob) → Quiet (pushes_flush s job)
quiet_pushes_flush s job = search (either ShardQuiet, quiet_settles) depth 12

quiet_pushes_places : (s : ShardState) (jobs : List PlaceJob) → Quiet (pushes_places s jobs)
quiet_pushes_places s [] = refl
quiet_pushes_places s (job ∷ jobs) = quiet_followed (pushes_place s job) (λ after. pushes_places after jobs) (quiet_pushes_place s job) (quiet_pushes_places (pushes_place s job).next jobs)

quiet_flush_pushed : (s : ShardState) → ShardQuiet (option_map_or (pushes_flush s) s.flush (stays s))
quiet_flush_pushed s = some_or_none ShardQuiet (pushes_flush s) s.flush (stays s) (λ job h. quiet_pushes_flush s job) (λ h. refl)

quiet_pushes_above : (s : ShardState) (place : ℕ) → Quiet (pushes_above s place)
quiet_pushes_above s place =
    let jobs : List PlaceJob = filter (λ job. nat_lt place job.end) s.jobs in
    quiet_followed (pushes_places s jobs) (λ after. option_map_or (pushes_flush after) after.flush (stays after)) (quiet_pushes_places s jobs) (quiet_flush_pushed (pushes_places s jobs).next)

quiet_shard_row : (s : ShardState) (sender : ℕ) (msg : Msg) → Quiet (shard_row s sender msg)
quiet_shard_row s sender (Put id bytes) = search (either ShardQuiet, some_or_none {A = ℕ} ShardQuiet, quiet_pushes_above) depth 12
quiet_shard_row s sender (Place view from items) = search (either ShardQuiet, some_or_none {A = PlaceJob} ShardQuiet, quiet_pushes_place) depth 12
quiet_shard_row s sender (Copy view from cells) = search (either ShardQuiet) depth 12
quiet_shard_row s sender (Copied view upto) = search (either ShardQuiet, quiet_settles) depth 12
quiet_shard_row s sender (Stable view upto) = search (either ShardQuiet) depth 12
quiet_shard_row s sender (Fetch read from end) = search (either ShardQuiet) depth 12
quiet_shard_row s sender (Flush config from items) = search (either ShardQuiet, some_or_none {A = FlushJob} ShardQuiet, quiet_pushes_flush) depth 12
quiet_shard_row s sender (FlushCopy view from cells) = search (either ShardQuiet) depth 12
quiet_shard_row s sender (TrimMsg read floor) = search (either ShardQuiet) depth 12
quiet_shard_row s sender _ = refl

pub quiet_shard : (s : ShardState) (input : Input) → Quiet (shard_step s input)
quiet_shard s (Take e) = either ShardQuiet (is_turned_away s.shape e.from e.msg) _ _ (λ h. refl) (λ h. quiet_shard_row s e.from e.msg)
quiet_shard s Grace = search (either ShardQuiet, some_or_none {A = ℕ} ShardQuiet, quiet_pushes_above) depth 12
quiet_shard s _ = refl

-- ---- the controller
abbrev ControlQuiet : Row ControlState → Type 0
ControlQuiet row = Quiet row

quiet_notes : (k : ControlState) (taken : Taken) → Quiet (notes_flush k taken)
quiet_notes k taken = search (either ControlQuiet) depth 12

quiet_sealed : (k : ControlState) (view bound : ℕ) (window : List Marks) (items : List Item) (phase : Phase) → k.phase ≡ phase → Quiet (on_sealed k view bound window items)
quiet_sealed k view bound window items (Running reign) is = rw is refl
quiet_sealed k view bound window items (Sealing change) is = rw is (either ControlQuiet _ _ _ (λ h. refl) (λ h. refl))
quiet_sealed k view bound window items (Flushing taken) is = rw is refl

quiet_flushed : (k : ControlState) (sender view : ℕ) (phase : Phase) → k.phase ≡ phase → Quiet (on_flushed k sender view)
quiet_flushed k sender view (Running reign) is = rw is refl
quiet_flushed k sender view (Sealing change) is = rw is refl
quiet_flushed k sender view (Flushing taken) is = rw is (search (either ControlQuiet, some_or_none {A = ℕ} ControlQuiet, quiet_notes) depth 12)

quiet_started : (k : ControlState) (sender view : ℕ) (phase : Phase) → k.phase ≡ phase → Quiet (on_started k sender view)
quiet_started k sender view (Running reign) is = rw is (either ControlQuiet _ _ _ (λ h. refl) (λ h. refl))
quiet_started k sender view (Sealing change) is = rw is refl
quiet_started k sender view (Flushing taken) is = rw is refl

quiet_asked : (k : ControlState) (sender : ℕ) (phase : Phase) → k.phase ≡ phase → Quiet (on_ask_view k sender)
quiet_asked k sender (Running reign) is = rw is refl
quiet_asked k sender (Sealing change) is = rw is refl
quiet_asked k sender (Flushing taken) is = rw is refl

quiet_replaces : (k : ControlState) (node : ℕ) (phase : Phase) → k.phase ≡ phase → Quiet (replaces k node)
quiet_replaces k node (Running reign) is = rw is refl
quiet_replaces k node (Sealing change) is = rw is refl
quiet_replaces k node (Flushing taken) is = rw is refl

quiet_control_row : (k : ControlState) (sender : ℕ) (msg : Msg) → Quiet (control_row k sender msg)
quiet_control_row k sender (Sealed view bound window items) = quiet_sealed k view bound window items k.phase refl
quiet_control_row k sender (SealedEmpty view) = quiet_sealed k view k.base k.window [] k.phase refl
quiet_control_row k sender (Flushed view) = quiet_flushed k sender view k.phase refl
quiet_control_row k sender (Started view) = quiet_started k sender view k.phase refl
quiet_control_row k sender AskView = quiet_asked k sender k.phase refl
quiet_control_row k sender _ = refl

pub quiet_control : (k : ControlState) (input : Input) → Quiet (control_step k input)
quiet_control k (Take e) = either ControlQuiet (is_turned_away k.shape e.from e.msg) _ _ (λ h. refl) (λ h. quiet_control_row k e.from e.msg)
quiet_control k Tick = refl
quiet_control k (Suspect node) = either ControlQuiet (is_none (suspect_refusal k node)) _ _ (λ h. quiet_replaces k node k.phase refl) (λ h. refl)
quiet_control k _ = refl
