-- How far a script was read, and what it led to.
use Rattle.std.proofs.Common.{◌≡◌, ◌≢◌, ℕ, List, [], ◌∷◌, ◌++◌, Option, None, Some, refl, sym, ap, ◌∙◌, subst, append_assoc, append-nil}
use Rattle.std.specs.Prelude.{Result, Ok, Err}
use Rattle.std.specs.Io.KnownBytes.{append_known, prepend_known, IsAtEnd}
use Rattle.io_edges.specs.Faults.{Rose}
use Rattle.io_edges.specs.Telling.{Stops}
use Rattle.io_edges.specs.declared.status.Status.{Status}
use Rattle.io_edges.specs.declared.status.Status.TheVariants.{ReadFault, WriteFault, Memory}
use Rattle.script_streams.specs.Lines.{IsLine, Lines, Part, lines_of, only}
use Rattle.script_streams.specs.Reading.{IsLong}
use Rattle.script_streams.specs.Streams.{HasBytes, SinkUse, SourceUse}
use Rattle.script_streams.specs.Texts.{FailsAt, printed}
use Rattle.script_streams.proofs.SplitLines.{line_first, long_first, part_alone}
use Rattle.journal_top.specs.Rules.{ToolState, start}
use Rattle.view_config.specs.declared.limits.TheConstants.{LINE_LIMIT_ONE}
use Rattle.journal_top.specs.declared.words.Shard.{Shard}
use Rattle.journal_top.specs.Output.{Output, all_output, behind, continued, goes_on, line_output, lines_output, long_output, read_output, rest_output, script_output}
use Rattle.journal_top.specs.Telling.{RanOf, Writes}
use Rattle.journal_top.proofs.Texts.{fails_before, fails_behind, no_texts, stops_before, stops_behind, texts_behind}
use Rattle.journal_top.proofs.Outputs.{after_lines, all_append, continued_assoc, continued_begins, continued_err, continued_none, continued_ok, lines_append, one_line}

-- ---- what a source has left, where it tells it

abbrev left_bytes : Option (List ℕ) → List ℕ
left_bytes None = []
left_bytes (Some rest) = rest

left_has : (left : Option (List ℕ)) → HasBytes left (left_bytes left)
left_has None = tt
left_has (Some rest) = refl

has_left : (had left : Option (List ℕ)) (read : List ℕ) → had ≡ prepend_known read left → HasBytes had (read ++ left_bytes left)
has_left had None read is = subst (λ (h : Option (List ℕ)). HasBytes h (read ++ [])) (sym is) tt
has_left had (Some rest) read is = subst (λ (h : Option (List ℕ)). HasBytes h (read ++ rest)) (sym is) refl

has_all : (had left : Option (List ℕ)) (read : List ℕ) → IsAtEnd left → had ≡ prepend_known read left → HasBytes had read
has_all had None read ended is = subst (λ (h : Option (List ℕ)). HasBytes h read) (sym is) tt
has_all had (Some rest) read ended is =
    subst (λ (h : Option (List ℕ)). HasBytes h read) (sym is) (ap (λ (bs : List ℕ). read ++ bs) ended ∙ append-nil read)

prepend_more : (first second : List ℕ) (left : Option (List ℕ)) → prepend_known first (prepend_known second left) ≡ prepend_known (first ++ second) left
prepend_more first second None = refl
prepend_more first second (Some rest) = ap Some (sym (append_assoc first second rest))

prepend_none : (left : Option (List ℕ)) → left ≡ prepend_known [] left
prepend_none None = refl
prepend_none (Some rest) = refl

-- what a source told before and after
abbrev pub seen : Option (List ℕ) → Option (List ℕ) → ℕ → ℕ → SourceUse
seen had left faults faults_now = record { had = had; left = left; faults = faults; faults_now = faults_now }

-- ---- how far

module _ (shard : Shard) where
  -- These lines were read, of what a source had; so much comes behind them.
  pub record Far (had coming before after : Option (List ℕ)) (now : ToolState) : Type 0 where
    pub read : List ℕ
    pub lines : List (List ℕ)
    pub taken : had ≡ prepend_known read coming
    pub parted : (more : List ℕ) → lines_of LINE_LIMIT_ONE (read ++ more) ≡ after_lines lines (lines_of LINE_LIMIT_ONE more)
    pub on : (lines_output (start shard) lines).now ≡ Ok now
    pub written : after ≡ append_known before (printed (lines_output (start shard) lines).texts)

  pub far_start : (had known : Option (List ℕ)) → Far had had known known (start shard)
  far_start had known = record { read = []; lines = []; taken = prepend_none had; parted = λ more. refl; on = refl; written = no_texts (start shard) known }

  module _ (had coming before between : Option (List ℕ)) (r : ToolState) (far : Far had coming before between r) where
    -- the whole output, whatever comes
    script_is : (more : List ℕ) → script_output shard (far.read ++ more) ≡ behind (lines_output (start shard) far.lines) (all_output r (lines_of LINE_LIMIT_ONE more))
    script_is more =
        ap (all_output (start shard)) (far.parted more) ∙ all_append (start shard) far.lines (lines_of LINE_LIMIT_ONE more)
        ∙ continued_ok (lines_output (start shard) far.lines) r (λ n. all_output n (lines_of LINE_LIMIT_ONE more)) far.on

    -- what was written so far is a front of the whole, whatever comes
    so_far : (more : List ℕ) → Stops before between (printed (script_output shard (far.read ++ more)).texts)
    so_far more =
        let texts_are : (script_output shard (far.read ++ more)).texts ≡ (lines_output (start shard) far.lines).texts ++ (all_output r (lines_of LINE_LIMIT_ONE more)).texts = ap (λ (o : Output). o.texts) (script_is more) in
        subst (λ (texts : List (List ℕ)). Stops before between (printed texts)) (sym texts_are)
        (stops_before (lines_output (start shard) far.lines).texts (all_output r (lines_of LINE_LIMIT_ONE more)).texts before between
        (record { unwritten = []; goes = record { piece = printed (lines_output (start shard) far.lines).texts; comes = sym (append-nil (printed (lines_output (start shard) far.lines).texts)); written = far.written } }))

    -- one line more, which went on
    pub far_line : (line : List ℕ) (coming_now : Option (List ℕ)) → IsLine LINE_LIMIT_ONE line → coming ≡ prepend_known (line ++ 10 ∷ []) coming_now → (sink : SinkUse) → sink.before ≡ between → (now : ToolState) → Writes (line_output r line) sink (Ok now) → Far had coming_now before sink.after now
    far_line line coming_now is read sink same now t =
        let more_is : lines_output (start shard) (far.lines ++ line ∷ []) ≡ behind (lines_output (start shard) far.lines) (line_output r line) =
        lines_append (start shard) far.lines (line ∷ []) ∙ continued_ok (lines_output (start shard) far.lines) r (λ n. lines_output n (line ∷ [])) far.on ∙ ap (behind (lines_output (start shard) far.lines)) (one_line r now line t.on) in
        record {
          read = far.read ++ (line ++ 10 ∷ []);
          lines = far.lines ++ line ∷ [];
          taken = far.taken ∙ ap (prepend_known far.read) read ∙ prepend_more far.read (line ++ 10 ∷ []) coming_now;
          parted = λ more.
              ap (lines_of LINE_LIMIT_ONE) (append_assoc far.read (line ++ 10 ∷ []) more) ∙ far.parted ((line ++ 10 ∷ []) ++ more)
              ∙ ap (after_lines far.lines) (line_first LINE_LIMIT_ONE line more is)
              ∙ ap (λ (whole : List (List ℕ)). let made : Lines = record { whole = whole; rest = (lines_of LINE_LIMIT_ONE more).rest } in made) (sym (append_assoc far.lines (line ∷ []) (lines_of LINE_LIMIT_ONE more).whole));
          on = ap (λ (o : Output). o.now) more_is ∙ t.on;
          written =
              texts_behind (lines_output (start shard) far.lines).texts before between sink.after far.written (line_output r line).texts (t.whole ∙ ap (λ (k : Option (List ℕ)). append_known k (printed (line_output r line).texts)) same)
              ∙ ap (λ (o : Output). append_known before (printed o.texts)) (sym more_is);
        }

    -- ---- a call behind these lines, which writes the first of what is to come

    module _ (more : List ℕ) (first : Output) (after_first : ToolState → Output) (is : all_output r (lines_of LINE_LIMIT_ONE more) ≡ continued first after_first) (source : SourceUse) (has : HasBytes source.had (far.read ++ more)) (sink : SinkUse) (same : sink.before ≡ between) where
      whole_is : script_output shard (far.read ++ more) ≡ behind (lines_output (start shard) far.lines) (continued first after_first)
      whole_is = script_is more ∙ ap (behind (lines_output (start shard) far.lines)) is

      begun : (rest : List (List ℕ)) × ((script_output shard (far.read ++ more)).texts ≡ ((lines_output (start shard) far.lines).texts ++ first.texts) ++ rest)
      begun =
          let begins = continued_begins first after_first in (
            begins.0,
            ap (λ (o : Output). o.texts) whole_is ∙ ap (λ (texts : List (List ℕ)). (lines_output (start shard) far.lines).texts ++ texts) begins.1
                ∙ sym (append_assoc (lines_output (start shard) far.lines).texts first.texts begins.0),
          )

      front_so : Stops sink.before sink.after (printed first.texts) → Stops before sink.after (printed (script_output shard (far.read ++ more)).texts)
      front_so stops =
          let there : Stops between sink.after (printed first.texts) = subst (λ (k : Option (List ℕ)). Stops k sink.after (printed first.texts)) same stops in
          subst (λ (texts : List (List ℕ)). Stops before sink.after (printed texts)) (sym begun.1)
          (stops_before ((lines_output (start shard) far.lines).texts ++ first.texts) begun.0 before sink.after
          (stops_behind (lines_output (start shard) far.lines).texts before between sink.after far.written first.texts there))

      fails_so : FailsAt first.texts sink.before sink.after → FailsAt (script_output shard (far.read ++ more)).texts before sink.after
      fails_so fails =
          let there : FailsAt first.texts between sink.after = subst (λ (k : Option (List ℕ)). FailsAt first.texts k sink.after) same fails in
          subst (λ (texts : List (List ℕ)). FailsAt texts before sink.after) (sym begun.1)
          (fails_before ((lines_output (start shard) far.lines).texts ++ first.texts) begun.0 before sink.after
          (fails_behind (lines_output (start shard) far.lines).texts before between sink.after far.written first.texts there))

      -- all that is to come is the first
      written_so : script_output shard (far.read ++ more) ≡ behind (lines_output (start shard) far.lines) first → sink.after ≡ append_known sink.before (printed first.texts) → sink.after ≡ append_known before (printed (script_output shard (far.read ++ more)).texts)
      written_so all written =
          texts_behind (lines_output (start shard) far.lines).texts before between sink.after far.written first.texts (written ∙ ap (λ (k : Option (List ℕ)). append_known k (printed first.texts)) same)
          ∙ ap (λ (o : Output). append_known before (printed o.texts)) (sym all)

      -- it stopped there
      pub far_stop : (status : Status) → Writes first sink (Err status) → RanOf source shard before sink.after (Err status)
      far_stop status t =
          let all : status ≢ WriteFault → status ≢ Memory → script_output shard (far.read ++ more) ≡ behind (lines_output (start shard) far.lines) first = λ two three.
          whole_is ∙ ap (behind (lines_output (start shard) far.lines)) (continued_err first status after_first (t.stopped two three)) in
          record {
            bytes = far.read ++ more;
            has = has;
            ran = record {
              on = tt;
              ended = tt;
              whole = tt;
              stopped = λ one two three. ap (λ (o : Output). o.now) (all two three) ∙ t.stopped two three;
              written = λ one two three. written_so (all two three) (t.written two three);
              read = λ e. let wrong : status ≡ ReadFault = cc in absurd (t.faults.no_read_fault (ap Err wrong));
              failed = λ e. let failing : status ≡ WriteFault = cc in fails_so (t.failed (ap Err failing));
              front = front_so t.front;
            };
          }

      -- or was read to its end, and nothing more is to come
      pub far_ended : (outcome : Result ToolState Status) → IsAtEnd source.left → ((n : ToolState) → after_first n ≡ goes_on n) → Writes first sink outcome → RanOf source shard before sink.after outcome
      far_ended (Err status) ended none t = far_stop status t
      far_ended (Ok now) ended none t =
          let all : script_output shard (far.read ++ more) ≡ behind (lines_output (start shard) far.lines) first =
          whole_is ∙ ap (behind (lines_output (start shard) far.lines)) (continued_ok first now after_first t.on ∙ ap (behind first) (none now) ∙ sym (continued_ok first now goes_on t.on) ∙ continued_none first) in
          record {
            bytes = far.read ++ more;
            has = has;
            ran = record {
              on = ap (λ (o : Output). o.now) all ∙ t.on;
              ended = ended;
              whole = written_so all t.whole;
              stopped = tt;
              written = tt;
              read = λ e. cc;
              failed = λ e. cc;
              front = front_so t.front;
            };
          }

    -- ---- what may come

    module _ (left : Option (List ℕ)) (faults faults_now : ℕ) where
      -- a line that stopped it
      pub line_stopped : (line : List ℕ) (coming_now : Option (List ℕ)) → IsLine LINE_LIMIT_ONE line → coming ≡ prepend_known (line ++ 10 ∷ []) coming_now → (sink : SinkUse) → sink.before ≡ between → (status : Status) → Writes (line_output r line) sink (Err status) → RanOf (seen had left faults faults_now) shard before sink.after (Err status)
      line_stopped line coming_now is read sink same status t =
          let rest = left_bytes coming_now in
          let more = (line ++ 10 ∷ []) ++ rest in
          let lines = lines_of LINE_LIMIT_ONE rest in
          far_stop more (line_output r line) (λ n. all_output n lines)
          (ap (all_output r) (line_first LINE_LIMIT_ONE line rest is) ∙ continued_assoc (line_output r line) (λ n. lines_output n lines.whole) (λ n. rest_output n lines.rest))
          (seen had left faults faults_now)
          (subst (HasBytes had) (append_assoc far.read (line ++ 10 ∷ []) rest) (has_left had coming_now (far.read ++ (line ++ 10 ∷ [])) (far.taken ∙ ap (prepend_known far.read) read ∙ prepend_more far.read (line ++ 10 ∷ []) coming_now)))
          sink same status t

      -- one that is too long
      pub long_stopped : (coming_now : Option (List ℕ)) → IsLong LINE_LIMIT_ONE coming coming_now → (sink : SinkUse) → sink.before ≡ between → (status : Status) → Writes (long_output r) sink (Err status) → RanOf (seen had left faults faults_now) shard before sink.after (Err status)
      long_stopped coming_now long sink same status t =
          let rest = left_bytes coming_now in
          far_stop (long.read ++ rest) (long_output r) goes_on
          (ap (all_output r) (long_first LINE_LIMIT_ONE long.read rest long.plain long.long) ∙ sym (continued_none (long_output r)))
          (seen had left faults faults_now)
          (subst (HasBytes had) (append_assoc far.read long.read rest) (has_left had coming_now (far.read ++ long.read) (far.taken ∙ ap (prepend_known far.read) long.taken ∙ prepend_more far.read long.read coming_now)))
          sink same status t

      -- the last line, without a newline
      pub last_done : (line : List ℕ) → IsLine LINE_LIMIT_ONE line → line ≢ [] → coming ≡ prepend_known line left → IsAtEnd left → (sink : SinkUse) → sink.before ≡ between → (outcome : Result ToolState Status) → Writes (line_output r line) sink outcome → RanOf (seen had left faults faults_now) shard before sink.after outcome
      last_done line is some read ended sink same outcome t =
          far_ended line (line_output r line) goes_on
          (ap (all_output r) (part_alone LINE_LIMIT_ONE line is) ∙ part_is line some ∙ sym (continued_none (line_output r line)))
          (seen had left faults faults_now)
          (has_all had left (far.read ++ line) ended (far.taken ∙ ap (prepend_known far.read) read ∙ prepend_more far.read line left))
          sink same outcome ended (λ n. refl) t
        where
          part_is : (part : List ℕ) → part ≢ [] → all_output r (only (Part part)) ≡ line_output r part
          part_is [] none = absurd (none refl)
          part_is (byte ∷ bytes) some = refl

      -- no line is left
      pub none_left : coming ≡ left → IsAtEnd left → RanOf (seen had left faults faults_now) shard before between (Ok r)
      none_left read ended =
          let all : script_output shard far.read ≡ lines_output (start shard) far.lines =
          ap (script_output shard) (sym (append-nil far.read)) ∙ script_is [] ∙ ends (lines_output (start shard) far.lines) r far.on in
          record {
            bytes = far.read;
            has = has_all had left far.read ended (far.taken ∙ ap (prepend_known far.read) read);
            ran = record {
              on = ap (λ (o : Output). o.now) all ∙ far.on;
              ended = ended;
              whole = far.written ∙ ap (λ (o : Output). append_known before (printed o.texts)) (sym all);
              stopped = tt;
              written = tt;
              read = λ e. cc;
              failed = λ e. cc;
              front = record { unwritten = []; goes = record { piece = printed (script_output shard far.read).texts; comes = sym (append-nil (printed (script_output shard far.read).texts)); written = far.written ∙ ap (λ (o : Output). append_known before (printed o.texts)) (sym all) } };
            };
          }
        where
          ends : (t : Output) (n : ToolState) → t.now ≡ Ok n → behind t (goes_on n) ≡ t
          ends t n on = sym (continued_ok t n goes_on on) ∙ continued_none t

      -- the source failed, within a part of a line
      pub source_stopped : (part : List ℕ) → IsLine LINE_LIMIT_ONE part → coming ≡ prepend_known part left → Rose faults faults_now → RanOf (seen had left faults faults_now) shard before between (Err ReadFault)
      source_stopped part is read rose =
          let rest = left_bytes left in
          let parts : lines_of LINE_LIMIT_ONE (far.read ++ part) ≡ after_lines far.lines (only (Part part)) = far.parted part ∙ ap (after_lines far.lines) (part_alone LINE_LIMIT_ONE part is) in
          let said : read_output shard (far.read ++ part) ≡ lines_output (start shard) far.lines =
          ap (λ (lines : Lines). lines_output (start shard) lines.whole) parts ∙ ap (lines_output (start shard)) (append-nil far.lines) in
          let taken : had ≡ prepend_known (far.read ++ part) left = far.taken ∙ ap (prepend_known far.read) read ∙ prepend_more far.read part left in
          record {
            bytes = far.read ++ (part ++ rest);
            has = subst (HasBytes had) (append_assoc far.read part rest) (has_left had left (far.read ++ part) taken);
            ran = record {
              on = tt;
              ended = tt;
              whole = tt;
              stopped = λ one two three. absurd (one refl);
              written = λ one two three. absurd (one refl);
              read = λ e. (
                record {
                  read = far.read ++ part;
                  rest = rest;
                  now = r;
                  bytes_are = sym (append_assoc far.read part rest);
                  left_is = left_has left;
                  rose = rose;
                  on = ap (λ (o : Output). o.now) said ∙ far.on;
                },
                far.written ∙ ap (λ (o : Output). append_known before (printed o.texts)) (sym said),
              );
              failed = λ e. cc;
              front = so_far (part ++ rest);
            };
          }

      -- there was no memory
      pub no_memory : RanOf (seen had left faults faults_now) shard before between (Err Memory)
      no_memory = record {
        bytes = far.read ++ left_bytes coming;
        has = has_left had coming far.read far.taken;
        ran = record {
          on = tt;
          ended = tt;
          whole = tt;
          stopped = λ one two three. absurd (three refl);
          written = λ one two three. absurd (three refl);
          read = λ e. cc;
          failed = λ e. cc;
          front = so_far (left_bytes coming);
        };
      }
