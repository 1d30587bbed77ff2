-- The output of a script that comes in pieces, and what of it is written.
use Rattle.std.proofs.Common.{◌≡◌, ◌≢◌, ℕ, List, [], ◌∷◌, ◌++◌, Option, None, Some, refl, sym, ap, ◌∙◌, subst, append_assoc, append-nil}
use Rattle.std.specs.Prelude.{OnErr, Result, Ok, Err}
use Rattle.std.specs.Io.KnownBytes.{append_known, prepend_known, IsAtEnd}
use Rattle.io_edges.specs.Faults.{Rose}
use Rattle.io_edges.specs.Telling.{Fails, Stops}
use Rattle.io_edges.specs.declared.status.Status.{Status}
use Rattle.io_edges.specs.declared.status.Status.TheVariants.{ReadFault, WriteFault, Memory}
use Rattle.io_edges.proofs.TellingLemmas.{append_known-append, goes_on as goes_piece, stops_further, stops_within, stops_going}
use Rattle.lazy_rules.specs.WorldState.{WorldState}
use Rattle.lazy_rules.specs.WorldRules.{run}
use Rattle.lazylog_trace.specs.Output.{Progress, Output, behind, byte_output, line_output, continued, bytes_output, end_output, script_output}
use Rattle.script_streams.specs.Streams.{HasBytes, SourceUse}
use Rattle.lazylog_trace.specs.Calls.{FailedIn, Led, RanOf, Writes}
use Rattle.world_facts.proofs.Runs.{run_append}
use Rattle.lazylog_trace.proofs.OutputRuns.{bytes_follow}
use Rattle.lazylog_trace.proofs.ByteOutput.{SoFar, output_pieces, writes_further, continued_ok, continued_err}

-- where it stopped, it goes no further
err_from : (t : Output) (status : Status) (bytes more : List ℕ) → ((x : Progress) → (bytes_output x bytes).now ≡ Err status → bytes_output x (bytes ++ more) ≡ bytes_output x bytes) → (n : Result Progress Status) → t.now ≡ n → (continued t (λ x. bytes_output x bytes)).now ≡ Err status → continued t (λ x. bytes_output x (bytes ++ more)) ≡ continued t (λ x. bytes_output x bytes)
err_from t status bytes more later (Err other) e stopped = continued_err t other (λ x. bytes_output x (bytes ++ more)) e ∙ sym (continued_err t other (λ x. bytes_output x bytes) e)
err_from t status bytes more later (Ok next) e stopped =
    let first = continued_ok t next (λ x. bytes_output x bytes) e in
    let rest = later next (sym (ap (λ (x : Output). x.now) first) ∙ stopped) in
    continued_ok t next (λ x. bytes_output x (bytes ++ more)) e ∙ ap (behind t) rest ∙ sym first

output_err : (r : Progress) (status : Status) (bytes more : List ℕ) → (bytes_output r bytes).now ≡ Err status → bytes_output r (bytes ++ more) ≡ bytes_output r bytes
output_err r status [] more stopped = let wrong : Ok r ≡ Err status = stopped in cc
output_err r status (byte ∷ bytes) more stopped = err_from (byte_output r byte) status bytes more (λ x h. output_err x status bytes more h) (byte_output r byte).now refl stopped

-- what was printed for some bytes begins what is printed for more
pub record Begins (first whole : List ℕ) : Type 0 where
  pub more : List ℕ
  pub is : whole ≡ first ++ more

begins_by : (r : Progress) (bytes more : List ℕ) (n : Result Progress Status) → (bytes_output r bytes).now ≡ n → Begins (bytes_output r bytes).text (script_output r (bytes ++ more)).text
begins_by r bytes more (Err status) e = record {
  more = [];
  is =
      ap (λ (t : Output). t.text) (ap (λ (t : Output). continued t end_output) (output_err r status bytes more e) ∙ continued_err (bytes_output r bytes) status end_output e)
      ∙ sym (append-nil (bytes_output r bytes).text);
}
begins_by r bytes more (Ok now) e =
    let pieces = output_pieces r now bytes more e in
    by (bytes_output now more).now refl pieces
  where
    by : (n : Result Progress Status) → (bytes_output now more).now ≡ n → bytes_output r (bytes ++ more) ≡ behind (bytes_output r bytes) (bytes_output now more) → Begins (bytes_output r bytes).text (script_output r (bytes ++ more)).text
    by (Err status) f pieces = record {
      more = (bytes_output now more).text;
      is = ap (λ (t : Output). t.text) (ap (λ (t : Output). continued t end_output) pieces ∙ continued_err (behind (bytes_output r bytes) (bytes_output now more)) status end_output f);
    }
    by (Ok last) f pieces = record {
      more = (bytes_output now more).text ++ (end_output last).text;
      is =
          ap (λ (t : Output). t.text) (ap (λ (t : Output). continued t end_output) pieces ∙ continued_ok (behind (bytes_output r bytes) (bytes_output now more)) last end_output f)
          ∙ append_assoc (bytes_output r bytes).text (bytes_output now more).text (end_output last).text;
    }

begins : (r : Progress) (bytes more : List ℕ) → Begins (bytes_output r bytes).text (script_output r (bytes ++ more)).text
begins r bytes more = begins_by r bytes more (bytes_output r bytes).now refl

-- what a source has left, where it tells it
abbrev left_bytes : Option (List ℕ) → List ℕ
left_bytes None = []
left_bytes (Some rest) = rest

has_left : (had left : Option (List ℕ)) (read : List ℕ) → had ≡ prepend_known read left → HasBytes had (read ++ left_bytes left)
has_left had None read is = subst (λ (h : Option (List ℕ)). HasBytes h (read ++ [])) (sym is) tt
has_left had (Some rest) read is = subst (λ (h : Option (List ℕ)). HasBytes h (read ++ rest)) (sym is) refl

left_has : (left : Option (List ℕ)) → HasBytes left (left_bytes left)
left_has None = tt
left_has (Some rest) = refl

has_all : (had left : Option (List ℕ)) (read : List ℕ) → IsAtEnd left → had ≡ prepend_known read left → HasBytes had read
has_all had None read ended is = subst (λ (h : Option (List ℕ)). HasBytes h read) (sym is) tt
has_all had (Some rest) read ended is =
    subst (λ (h : Option (List ℕ)). HasBytes h read) (sym is) (ap (λ (bs : List ℕ). read ++ bs) ended ∙ append-nil read)

prepend_more : (read piece : List ℕ) (left : Option (List ℕ)) → prepend_known read (prepend_known piece left) ≡ prepend_known (read ++ piece) left
prepend_more read piece None = refl
prepend_more read piece (Some rest) = ap Some (sym (append_assoc read piece rest))

prepend_none : (left : Option (List ℕ)) → left ≡ prepend_known [] left
prepend_none None = refl
prepend_none (Some rest) = refl

-- what a source told before and after
abbrev pub seen : Option (List ℕ) → Option (List ℕ) → ℕ → ℕ → SourceUse
seen had left faults faults_now = record { had = had; left = left; faults = faults; faults_now = faults_now }

-- how far a script was read, of a source that had this and has that left
pub record Far (start : Progress) (had left : Option (List ℕ)) (before after : Option (List ℕ)) (now : Progress) : Type 0 where
  pub read : List ℕ
  pub had_is : had ≡ prepend_known read left
  pub so_far : SoFar start read before after now

module _ (start r : Progress) (had left left_now before between : Option (List ℕ)) (far : Far start had left before between r) where
  -- the source failed
  pub far_fault : {R : Type 0} (faults faults_now : ℕ) (x : Status) → x ≡ ReadFault → left_now ≡ left → Rose faults faults_now → RanOf {R = R} (seen had left_now faults faults_now) start before between r (Err x)
  far_fault {R = R} faults faults_now x is same rose =
      let goes = begins start far.read (left_bytes left) in
      record {
        bytes = far.read ++ left_bytes left;
        has = has_left had left far.read far.had_is;
        ran = record {
          on = tt;
          ended = tt;
          faultless = λ e. absurd (e (ap Err is));
          whole = tt;
          stopped = λ one two three. absurd (one is);
          written = λ one two three. absurd (one is);
          led = λ one two three. absurd (one is);
          read = λ e. (record { read = far.read; rest = left_bytes left; now = r; bytes_are = refl; left_is = subst (λ (k : Option (List ℕ)). HasBytes k (left_bytes left)) (sym same) (left_has left); rose = rose; on = far.so_far.on }, refl, far.so_far.written);
          failed = λ e. let wrong : ReadFault ≡ WriteFault = let same : x ≡ WriteFault = cc in sym is ∙ same in cc;
          front = stops_going (goes_piece (bytes_output start far.read).text goes.is far.so_far.written);
        };
      }

  -- a piece more was read
  module _ (piece : List ℕ) (read : left ≡ prepend_known piece left_now) (now : Progress) (after : Option (List ℕ)) where
    had_now : had ≡ prepend_known (far.read ++ piece) left_now
    had_now = far.had_is ∙ ap (prepend_known far.read) read ∙ prepend_more far.read piece left_now

    pub far_more : {R : Type 0} (x : R) → Writes {R = R} (bytes_output r piece) between after now (Ok x) → Far start had left_now before after now
    far_more {R = R} x t =
        let both = writes_further {R = R} start r now far.read piece before between after (Ok x) far.so_far t in
        record { read = far.read ++ piece; had_is = had_now; so_far = record { on = both.on; written = both.whole } }

    -- a script line of the piece whose texts weren't all written is one of the script
    failed_further : (more : List ℕ) (world : WorldState) → FailedIn r (piece ++ more) between after world → FailedIn start ((far.read ++ piece) ++ more) before after world
    failed_further more world k =
        let pieces = output_pieces start r far.read k.place.read far.so_far.on in
        let written : append_known between (bytes_output r k.place.read).text ≡ append_known before (bytes_output start (far.read ++ k.place.read)).text =
        ap (λ (known : Option (List ℕ)). append_known known (bytes_output r k.place.read).text) far.so_far.written
        ∙ append_known-append before (bytes_output start far.read).text (bytes_output r k.place.read).text
        ∙ ap (λ (t : Output). append_known before t.text) (sym pieces) in
        record {
          place = record {
            read = far.read ++ k.place.read;
            rest = k.place.rest;
            now = k.place.now;
            bytes_are = append_assoc far.read piece more ∙ ap (λ (bs : List ℕ). far.read ++ bs) k.place.bytes_are ∙ sym (append_assoc far.read k.place.read k.place.rest);
            ends = k.place.ends;
            on = ap (λ (t : Output). t.now) pieces ∙ k.place.on;
            front = subst (λ (known : Option (List ℕ)). Fails known after (line_output k.place.now).text) written k.place.front;
          };
          world_is = k.world_is;
        }

    pub far_stop : {R : Type 0} (faults faults_now : ℕ) → faults_now ≡ faults → (status : Status) → status ≢ ReadFault → Writes {R = R} (bytes_output r piece) between after now (Err status)
        → (status ≢ WriteFault → status ≢ Memory → now.world ≡ run (bytes_output r piece).events r.world)
        → ((more : List ℕ) → ◌≡◌ {A = Result R Status} (Err status) (Err WriteFault) → FailedIn r (piece ++ more) between after now.world)
        → RanOf {R = R} (seen had left_now faults faults_now) start before after now (Err status)
    far_stop {R = R} faults faults_now quiet status other t led failed =
        let both = writes_further {R = R} start r now far.read piece before between after (Err status) far.so_far t in
        let rest = left_bytes left_now in
        let goes = begins start (far.read ++ piece) rest in
        let whole = λ (stopped : (bytes_output start (far.read ++ piece)).now ≡ Err status).
        let one : script_output start ((far.read ++ piece) ++ rest) ≡ continued (bytes_output start (far.read ++ piece)) end_output = ap (λ (x : Output). continued x end_output) (output_err start status (far.read ++ piece) rest stopped) in
        let two : script_output start ((far.read ++ piece) ++ rest) ≡ bytes_output start (far.read ++ piece) = one ∙ continued_err (bytes_output start (far.read ++ piece)) status end_output stopped in
        two in
        record {
          bytes = (far.read ++ piece) ++ rest;
          has = has_left had left_now (far.read ++ piece) had_now;
          ran = record {
            on = tt;
            ended = tt;
            faultless = λ e. quiet;
            whole = tt;
            stopped = λ one two three. ap (λ (x : Output). x.now) (whole (both.stopped two three)) ∙ both.stopped two three;
            written = λ one two three. both.written two three ∙ ap (λ (x : Output). append_known before x.text) (sym (whole (both.stopped two three)));
            led = λ one two three.
                led two three
                ∙ ap (run (bytes_output r piece).events) ((bytes_follow start far.read).leads r far.so_far.on)
                ∙ sym (run_append (bytes_output start far.read).events (bytes_output r piece).events start.world)
                ∙ ap (λ (x : Output). run x.events start.world) (sym (output_pieces start r far.read piece far.so_far.on))
                ∙ ap (λ (x : Output). run x.events start.world) (sym (whole (both.stopped two three)));
            read = λ e. let wrong : status ≡ ReadFault = let same : Err status ≡ Err ReadFault = e in cc in absurd (other wrong);
            failed = λ e. failed_further rest now.world (failed rest e);
            front = stops_within goes.more goes.is both.front;
          };
        }

  -- the end was read
  module _ (read : left ≡ prepend_known [] left_now) (ended : IsAtEnd left_now) (now : Progress) (after : Option (List ℕ)) where
    script_is : script_output start far.read ≡ behind (bytes_output start far.read) (end_output r)
    script_is = continued_ok (bytes_output start far.read) r end_output far.so_far.on

    text_after : after ≡ append_known between (end_output r).text → after ≡ append_known before (script_output start far.read).text
    text_after written =
        written ∙ ap (λ (k : Option (List ℕ)). append_known k (end_output r).text) far.so_far.written ∙ append_known-append before (bytes_output start far.read).text (end_output r).text
        ∙ ap (λ (x : Output). append_known before x.text) (sym script_is)

    end_front : Stops between after (end_output r).text → Stops before after (script_output start far.read).text
    end_front front = subst (λ (x : Output). Stops before after x.text) (sym script_is) (stops_further (goes_piece (bytes_output start far.read).text refl far.so_far.written) front)

    had_all : HasBytes had far.read
    had_all = has_all had left_now far.read ended (far.had_is ∙ ap (prepend_known far.read) (read ∙ sym (prepend_none left_now)))

    pub far_end : {R : Type 0} (faults faults_now : ℕ) → faults_now ≡ faults → (outcome : Result R Status) → outcome ≢ Err ReadFault → Writes {R = R} (end_output r) between after now outcome → Led {R = R} (end_output r).events r.world now.world outcome → OnErr outcome (end_output r ≡ line_output r) → RanOf {R = R} (seen had left_now faults faults_now) start before after now outcome
    far_end faults faults_now quiet (Ok x) other t led line = record {
      bytes = far.read;
      has = had_all;
      ran = record {
        on = ap (λ (y : Output). y.now) script_is ∙ t.on;
        ended = ended;
        faultless = λ e. quiet;
        whole = text_after t.whole;
        stopped = tt;
        written = tt;
        led = tt;
        read = λ e. let wrong : Ok x ≡ Err ReadFault = e in cc;
        failed = λ e. let wrong : Ok x ≡ Err WriteFault = e in cc;
        front = end_front t.front;
      };
    }
    far_end faults faults_now quiet (Err status) other t led line = record {
      bytes = far.read;
      has = had_all;
      ran = record {
        on = tt;
        ended = tt;
        faultless = λ e. quiet;
        whole = tt;
        stopped = λ one two three. ap (λ (y : Output). y.now) script_is ∙ t.stopped two three;
        written = λ one two three. text_after (t.written two three);
        led = λ one two three.
            led.leads (λ e. let same : status ≡ Memory = cc in three same)
            ∙ ap (run (end_output r).events) ((bytes_follow start far.read).leads r far.so_far.on)
            ∙ sym (run_append (bytes_output start far.read).events (end_output r).events start.world)
            ∙ ap (λ (x : Output). run x.events start.world) (sym script_is);
        read = λ e. absurd (other e);
        failed = λ e. record {
          place = record {
            read = far.read;
            rest = [];
            now = r;
            bytes_are = sym (append-nil far.read);
            ends = tt;
            on = far.so_far.on;
            front = subst (λ (k : Option (List ℕ)). Fails k after (line_output r).text) far.so_far.written (subst (λ (x : Output). Fails between after x.text) line (t.failed e));
          };
          world_is = led.leads (λ f. let wrong : Err WriteFault ≡ Err Memory = sym e ∙ f in cc) ∙ ap (λ (x : Output). run x.events r.world) line;
        };
        front = end_front t.front;
      };
    }
