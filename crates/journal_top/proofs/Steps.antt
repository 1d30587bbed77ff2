-- What a script led to, by what its reader of lines gives next.
use Rattle.std.proofs.Common.{◌≡◌, ◌≢◌, ℕ, List, [], Option, None, Some, refl, sym, ap, ◌∙◌, subst}
use Rattle.std.specs.Prelude.{Result, Ok, Err}
use Rattle.io_edges.specs.Faults.{Rose}
use Rattle.io_edges.specs.declared.status.Status.{Status}
use Rattle.io_edges.specs.declared.status.Status.TheVariants.{BadLine, Done, Limit, Memory, ReadFault, Usage, WriteFault}
use Rattle.script_streams.specs.Lines.{IsLine}
use Rattle.script_streams.specs.Reading.{Gives, IsLong, Reading, StopsSo, coming}
use Rattle.script_streams.specs.declared.line_reader.Next.{Next}
use Rattle.script_streams.specs.declared.line_reader.Next.TheVariants.{End, Last, Line}
use Rattle.script_streams.specs.declared.line_reader.LineError.{LineError}
use Rattle.script_streams.specs.declared.line_reader.LineError.TheVariants.{Failed, TooLong}
use Rattle.script_streams.specs.Streams.{SinkUse}
use Rattle.journal_top.specs.declared.words.Shard.{Shard}
use Rattle.journal_top.specs.Rules.{ToolState, start}
use Rattle.view_config.specs.declared.limits.TheConstants.{LINE_LIMIT_ONE}
use Rattle.journal_top.specs.Output.{IsStop, Output, line_output, long_output, stops}
use Rattle.journal_top.specs.Telling.{RanOf, Writes}
use Rattle.journal_top.proofs.LineOutput.{stop_writes}
use Rattle.journal_top.proofs.Far.{Far, far_line, far_start, last_done, line_stopped, long_stopped, no_memory, none_left, seen, source_stopped}

module _ (shard : Shard) where
  -- nothing was read
  pub far_first : (had known : Option (List ℕ)) (r : ToolState) → r ≡ start shard → Far shard had had known known r
  far_first had known r is = subst (Far shard had had known known) (sym is) (far_start shard had known)

  -- the reader has nothing ahead
  pub far_fresh : (had known : Option (List ℕ)) (reader : Reading) (r : ToolState) → r ≡ start shard → reader.ahead ≡ [] → Far shard had (coming reader had) known known r
  far_fresh had known reader r is none = subst (λ (k : Option (List ℕ)). Far shard had k known known r) (none_ahead had ∙ ap (λ (ahead : List ℕ). coming (record reader { ahead = ahead }) had) (sym none)) (far_first had known r is)
    where
      none_ahead : (k : Option (List ℕ)) → k ≡ coming (record reader { ahead = [] }) k
      none_ahead None = refl
      none_ahead (Some bytes) = refl

  -- without memory for the reader
  pub none_read : (had known : Option (List ℕ)) (r : ToolState) → r ≡ start shard → (faults : ℕ) → RanOf (seen had had faults faults) shard known known (Err Memory)
  none_read had known r is faults = no_memory shard had had known known r (far_first had known r is) had faults faults

  stop_is : (status : Status) → IsStop status → (status ≢ ReadFault) × (status ≢ WriteFault) × (status ≢ Usage)
  stop_is (BadLine n) h = (λ e. cc, λ e. cc, λ e. cc)
  stop_is (Limit n) h = (λ e. cc, λ e. cc, λ e. cc)
  stop_is Done h = absurd h
  stop_is Usage h = absurd h
  stop_is ReadFault h = absurd h
  stop_is WriteFault h = absurd h
  stop_is Memory h = absurd h

  module _ (had before between : Option (List ℕ)) (reader reader_now : Reading) (left left_now : Option (List ℕ)) (r : ToolState) (far : Far shard had (coming reader left) before between r) (most_is : reader.most ≡ LINE_LIMIT_ONE) where
    -- what the reader gave, by its name
    given : (next named : Next) → next ≡ named → Gives next reader.most (coming reader left) reader_now left_now → Gives named reader.most (coming reader left) reader_now left_now
    given next named is gives = subst (λ (n : Next). Gives n reader.most (coming reader left) reader_now left_now) is gives

    stopped_so : (e named : LineError) → e ≡ named → StopsSo e reader.most (coming reader left) reader_now left_now → StopsSo named reader.most (coming reader left) reader_now left_now
    stopped_so e named is stops = subst (λ (x : LineError). StopsSo x reader.most (coming reader left) reader_now left_now) is stops

    -- a line came
    module _ (next : Next) (next_is : next ≡ Line) (given_line : Gives next reader.most (coming reader left) reader_now left_now) (line : List ℕ) (line_is : line ≡ reader_now.line) where
      gives : Gives Line reader.most (coming reader left) reader_now left_now
      gives = given next Line next_is given_line

      line_fits : IsLine LINE_LIMIT_ONE reader_now.line
      line_fits = subst (λ (n : ℕ). IsLine n reader_now.line) most_is gives.0

      pub next_more : (sink : SinkUse) → sink.before ≡ between → (now : ToolState) → Writes (line_output r line) sink (Ok now) → Far shard had (coming reader_now left_now) before sink.after now
      next_more sink same now t =
          far_line shard had (coming reader left) before between r far reader_now.line (coming reader_now left_now) line_fits gives.1 sink same now
          (subst (λ (l : List ℕ). Writes (line_output r l) sink (Ok now)) line_is t)

      pub next_stopped : (faults faults_now : ℕ) (sink : SinkUse) → sink.before ≡ between → (status : Status) → Writes (line_output r line) sink (Err status) → RanOf (seen had left_now faults faults_now) shard before sink.after (Err status)
      next_stopped faults faults_now sink same status t =
          line_stopped shard had (coming reader left) before between r far left_now faults faults_now reader_now.line (coming reader_now left_now) line_fits gives.1 sink same status
          (subst (λ (l : List ℕ). Writes (line_output r l) sink (Err status)) line_is t)

    -- the last one came
    pub next_last : (next : Next) → next ≡ Last → Gives next reader.most (coming reader left) reader_now left_now → (line : List ℕ) → line ≡ reader_now.line → (faults faults_now : ℕ) (sink : SinkUse) → sink.before ≡ between → (outcome : Result ToolState Status) → Writes (line_output r line) sink outcome → RanOf (seen had left_now faults faults_now) shard before sink.after outcome
    next_last next next_is given_last line line_is faults faults_now sink same outcome t =
        let gives = given next Last next_is given_last in
        last_done shard had (coming reader left) before between r far left_now faults faults_now reader_now.line (subst (λ (n : ℕ). IsLine n reader_now.line) most_is gives.0) gives.1 gives.4 gives.3 sink same outcome
        (subst (λ (l : List ℕ). Writes (line_output r l) sink outcome) line_is t)

    -- none is left
    pub next_end : (next : Next) → next ≡ End → Gives next reader.most (coming reader left) reader_now left_now → (faults faults_now : ℕ) → RanOf (seen had left_now faults faults_now) shard before between (Ok r)
    next_end next next_is given_end faults faults_now =
        let gives = given next End next_is given_end in
        none_left shard had (coming reader left) before between r far left_now faults faults_now gives.3 gives.2

    -- one is too long
    pub next_long : (e : LineError) → e ≡ TooLong → StopsSo e reader.most (coming reader left) reader_now left_now → (faults faults_now : ℕ) (sink : SinkUse) → sink.before ≡ between → sink.after ≡ between → sink.faults_now ≡ sink.faults → (status : Status) → long_output r ≡ stops status → IsStop status → RanOf (seen had left_now faults faults_now) shard before sink.after (Err status)
    next_long e e_is long_so faults faults_now sink same unwritten faultless status is stop =
        let long = stopped_so e TooLong e_is long_so in
        let what = stop_is status stop in
        long_stopped shard had (coming reader left) before between r far left_now faults faults_now (coming reader_now left_now) (subst (λ (n : ℕ). IsLong n (coming reader left) (coming reader_now left_now)) most_is long) sink same status
        (subst (λ (t : Output). Writes t sink (Err status)) (sym is) (stop_writes sink (unwritten ∙ sym same) faultless status what.0 what.1 what.2))

    -- the source failed
    pub next_failed : (e : LineError) → e ≡ Failed → StopsSo e reader.most (coming reader left) reader_now left_now → (faults faults_now : ℕ) → Rose faults faults_now → RanOf (seen had left_now faults faults_now) shard before between (Err ReadFault)
    next_failed e e_is failed_so faults faults_now rose =
        let stops = stopped_so e Failed e_is failed_so in
        source_stopped shard had (coming reader left) before between r far left_now faults faults_now reader_now.line (subst (λ (n : ℕ). IsLine n reader_now.line) most_is stops.0) stops.2 rose

    -- there was no memory for the line
    pub next_memory : (faults faults_now : ℕ) → RanOf (seen had left_now faults faults_now) shard before between (Err Memory)
    next_memory faults faults_now = no_memory shard had (coming reader left) before between r far left_now faults faults_now
