-- What a script led to, by what its reader of lines gives next.
use Rattle.std.proofs.Common.{◌≡◌, ◌≢◌, ℕ, List, [], Option, None, Some, refl, sym, ap, ◌∙◌, subst}
use Rattle.std.specs.Prelude.{Result, Ok, Err}
use Rattle.io_edges.specs.Faults.{Rose}
use Rattle.io_edges.specs.declared.status.Status.{Status}
use Rattle.io_edges.specs.declared.status.Status.TheVariants.{BadLine, Done, Limit, Memory, ReadFault, Usage, WriteFault}
use Rattle.script_streams.specs.Lines.{IsLine}
use Rattle.script_streams.specs.Reading.{Gives, IsLong, Reading, StopsSo, coming}
use Rattle.script_streams.specs.declared.line_reader.Next.{Next}
use Rattle.script_streams.specs.declared.line_reader.Next.TheVariants.{End, Last, Line}
use Rattle.script_streams.specs.declared.line_reader.LineError.{LineError}
use Rattle.script_streams.specs.declared.line_reader.LineError.TheVariants.{Failed, TooLong}
use Rattle.script_streams.specs.Streams.{SinkUse}
use Rattle.recode_top.specs.declared.counts.Counts.{Counts}
use Rattle.recode_top.specs.declared.counts.TheConstants.{LINE_LIMIT}
use Rattle.recode_top.specs.Output.{IsStop, Output, line_output, long_output, start, stops}
use Rattle.recode_top.specs.Recoding.{RanOf, Writes}
use Rattle.recode_top.proofs.LineOutput.{stop_writes}
use Rattle.recode_top.proofs.Far.{Far, far_line, far_start, last_done, line_stopped, long_stopped, no_memory, none_left, seen, source_stopped}

-- nothing was read
pub far_first : (had known : Option (List ℕ)) (r : Counts) → r ≡ start → Far had had known known r
far_first had known r is = subst (Far had had known known) (sym is) (far_start had known)

-- the reader has nothing ahead
pub far_fresh : (had known : Option (List ℕ)) (reader : Reading) (r : Counts) → r ≡ start → reader.ahead ≡ [] → Far had (coming reader had) known known r
far_fresh had known reader r is none = subst (λ (k : Option (List ℕ)). Far had k known known r) (none_ahead had ∙ ap (λ (ahead : List ℕ). coming (record reader { ahead = ahead }) had) (sym none)) (far_first had known r is)
  where
    none_ahead : (k : Option (List ℕ)) → k ≡ coming (record reader { ahead = [] }) k
    none_ahead None = refl
    none_ahead (Some bytes) = refl

-- without memory for the reader
pub none_read : {R : Type 0} (had known : Option (List ℕ)) (r : Counts) → r ≡ start → (faults : ℕ) → RanOf {R = R} (seen had had faults faults) known known r (Err Memory)
none_read had known r is faults = no_memory had had known known r (far_first had known r is) had faults faults

stop_is : (status : Status) → IsStop status → (status ≢ ReadFault) × (status ≢ WriteFault) × (status ≢ Usage)
stop_is (BadLine n) h = (λ e. cc, λ e. cc, λ e. cc)
stop_is (Limit n) h = (λ e. cc, λ e. cc, λ e. cc)
stop_is Done h = absurd h
stop_is Usage h = absurd h
stop_is ReadFault h = absurd h
stop_is WriteFault h = absurd h
stop_is Memory h = absurd h

module _ (had before between : Option (List ℕ)) (reader reader_now : Reading) (left left_now : Option (List ℕ)) (r : Counts) (far : Far had (coming reader left) before between r) (most_is : reader.most ≡ LINE_LIMIT) where
  -- what the reader gave, by its name
  given : (next named : Next) → next ≡ named → Gives next reader.most (coming reader left) reader_now left_now → Gives named reader.most (coming reader left) reader_now left_now
  given next named is gives = subst (λ (n : Next). Gives n reader.most (coming reader left) reader_now left_now) is gives

  stopped_so : (e named : LineError) → e ≡ named → StopsSo e reader.most (coming reader left) reader_now left_now → StopsSo named reader.most (coming reader left) reader_now left_now
  stopped_so e named is stops = subst (λ (x : LineError). StopsSo x reader.most (coming reader left) reader_now left_now) is stops

  -- a line came
  module _ (next : Next) (next_is : next ≡ Line) (given_line : Gives next reader.most (coming reader left) reader_now left_now) (line : List ℕ) (line_is : line ≡ reader_now.line) where
    gives : Gives Line reader.most (coming reader left) reader_now left_now
    gives = given next Line next_is given_line

    line_fits : IsLine LINE_LIMIT reader_now.line
    line_fits = subst (λ (n : ℕ). IsLine n reader_now.line) most_is gives.0

    pub next_more : (sink : SinkUse) → sink.before ≡ between → (now : Counts) {R : Type 0} (x : R) → Writes (line_output r line) sink now (Ok x) → Far had (coming reader_now left_now) before sink.after now
    next_more sink same now {R = R} x t =
        far_line had (coming reader left) before between r far reader_now.line (coming reader_now left_now) line_fits gives.1 sink same now x
        (subst (λ (l : List ℕ). Writes {R = R} (line_output r l) sink now (Ok x)) line_is t)

    pub next_stopped : (faults faults_now : ℕ) (sink : SinkUse) → sink.before ≡ between → (now : Counts) {R : Type 0} (status : Status) → Writes {R = R} (line_output r line) sink now (Err status) → RanOf {R = R} (seen had left_now faults faults_now) before sink.after now (Err status)
    next_stopped faults faults_now sink same now {R = R} status t =
        line_stopped had (coming reader left) before between r far left_now faults faults_now reader_now.line (coming reader_now left_now) line_fits gives.1 sink same now status
        (subst (λ (l : List ℕ). Writes {R = R} (line_output r l) sink now (Err status)) line_is t)

  -- the last one came
  pub next_last : (next : Next) → next ≡ Last → Gives next reader.most (coming reader left) reader_now left_now → (line : List ℕ) → line ≡ reader_now.line → (faults faults_now : ℕ) (sink : SinkUse) → sink.before ≡ between → (now : Counts) {R : Type 0} (outcome : Result R Status) → Writes (line_output r line) sink now outcome → RanOf (seen had left_now faults faults_now) before sink.after now outcome
  next_last next next_is given_last line line_is faults faults_now sink same now outcome t =
      let gives = given next Last next_is given_last in
      last_done had (coming reader left) before between r far left_now faults faults_now reader_now.line (subst (λ (n : ℕ). IsLine n reader_now.line) most_is gives.0) gives.1 gives.4 gives.3 sink same now outcome
      (subst (λ (l : List ℕ). Writes (line_output r l) sink now outcome) line_is t)

  -- none is left
  pub next_end : (next : Next) → next ≡ End → Gives next reader.most (coming reader left) reader_now left_now → (faults faults_now : ℕ) {R : Type 0} (x : R) → RanOf (seen had left_now faults faults_now) before between r (Ok x)
  next_end next next_is given_end faults faults_now x =
      let gives = given next End next_is given_end in
      none_left had (coming reader left) before between r far left_now faults faults_now gives.3 gives.2 x

  -- one is too long
  pub next_long : (e : LineError) → e ≡ TooLong → StopsSo e reader.most (coming reader left) reader_now left_now → (faults faults_now : ℕ) (sink : SinkUse) → sink.before ≡ between → sink.after ≡ between → sink.faults_now ≡ sink.faults → {R : Type 0} (status : Status) → long_output r ≡ stops status → IsStop status → RanOf {R = R} (seen had left_now faults faults_now) before sink.after r (Err status)
  next_long e e_is long_so faults faults_now sink same unwritten faultless {R = R} status is stop =
      let long = stopped_so e TooLong e_is long_so in
      let what = stop_is status stop in
      long_stopped had (coming reader left) before between r far left_now faults faults_now (coming reader_now left_now) (subst (λ (n : ℕ). IsLong n (coming reader left) (coming reader_now left_now)) most_is long) sink same r status
      (subst (λ (t : Output). Writes {R = R} t sink r (Err status)) (sym is) (stop_writes sink (unwritten ∙ sym same) faultless r status what.0 what.1 what.2))

  -- the source failed
  pub next_failed : (e : LineError) → e ≡ Failed → StopsSo e reader.most (coming reader left) reader_now left_now → (faults faults_now : ℕ) → Rose faults faults_now → {R : Type 0} → RanOf {R = R} (seen had left_now faults faults_now) before between r (Err ReadFault)
  next_failed e e_is failed_so faults faults_now rose =
      let stops = stopped_so e Failed e_is failed_so in
      source_stopped had (coming reader left) before between r far left_now faults faults_now reader_now.line (subst (λ (n : ℕ). IsLine n reader_now.line) most_is stops.0) stops.2 rose

  -- there was no memory for the line
  pub next_memory : (faults faults_now : ℕ) {R : Type 0} → RanOf {R = R} (seen had left_now faults faults_now) before between r (Err Memory)
  next_memory faults faults_now = no_memory had (coming reader left) before between r far left_now faults faults_now
