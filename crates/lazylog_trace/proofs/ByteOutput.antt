-- The output of each byte and of many, and what of it is written.
use Rattle.std.proofs.Common.{◌≡◌, ◌≢◌, ℕ, ◌+◌, ◌<◌, ◌≤◌, List, [], ◌∷◌, ◌++◌, length, take, drop, get_or, Bool, Option, refl, sym, ap, ◌∙◌, subst, append_assoc, append-nil}
use Rattle.std.specs.Prelude.{nat_le, Result, Ok, Err, if◌then◌else◌}
use Rattle.std.specs.Io.KnownBytes.{append_known}
use Rattle.std.proofs.lemmas.Bool.{eq-eqb, ne_eqb, le-leb}
use Rattle.std.proofs.lemmas.List.{take-append-drop, drop_more, take_more}
use Rattle.view_config.specs.Limits.{line_limit}
use Rattle.io_edges.specs.declared.status.Status.{Status}
use Rattle.io_edges.proofs.TellingLemmas.{append_known-nil, append_known-append, goes_on as goes_piece, fails_further, fails_within, stops_further, stops_within}
use Rattle.io_edges.specs.declared.status.Status.TheVariants.{WriteFault, Memory}
use Rattle.lazy_msgs.specs.declared.input.WorldEvent.{WorldEvent}
use Rattle.lazy_rules.specs.WorldRules.{run}
use Rattle.io_edges.specs.Telling.{Fails}
use Rattle.lazylog_trace.specs.Calls.{FailedIn, Led, Writes}
use Rattle.world_facts.proofs.Runs.{run_append}
use Rattle.lazylog_trace.proofs.OutputRuns.{bytes_follow}
use Rattle.lazylog_trace.specs.Output.{Progress, Output, behind, line_output, long_output, byte_output, goes_on, continued, continued_from, bytes_output}

module _ (r : Progress) (byte : ℕ) where
  newline_output : byte ≡ 10 → byte_output r byte ≡ line_output r
  newline_output is = ap (λ (b : Bool). if b then line_output r else (if nat_le (line_limit r.world.shape.edition) (length r.part) then long_output r else goes_on (record r { part = r.part ++ byte ∷ [] }))) (eq-eqb byte 10 is)

  other_output : byte ≢ 10 → byte_output r byte ≡ (if nat_le (line_limit r.world.shape.edition) (length r.part) then long_output r else goes_on (record r { part = r.part ++ byte ∷ [] }))
  other_output other = ap (λ (b : Bool). if b then line_output r else (if nat_le (line_limit r.world.shape.edition) (length r.part) then long_output r else goes_on (record r { part = r.part ++ byte ∷ [] }))) (ne_eqb byte 10 other)

  long_is : byte ≢ 10 → line_limit r.world.shape.edition ≤ length r.part → byte_output r byte ≡ long_output r
  long_is other full = other_output other ∙ ap (λ (b : Bool). if b then long_output r else goes_on (record r { part = r.part ++ byte ∷ [] })) (le-leb (line_limit r.world.shape.edition) (length r.part) full)

  module _ {R : Type 0} (before after : Option (List ℕ)) (now : Progress) (outcome : Result R Status) where
    pub newline_writes : byte ≡ 10 → Writes (line_output r) before after now outcome → Writes (byte_output r byte) before after now outcome
    newline_writes is h = subst (λ (t : Output). Writes t before after now outcome) (sym (newline_output is)) h

    pub too_long_writes : byte ≢ 10 → line_limit r.world.shape.edition ≤ length r.part → Writes (long_output r) before after now outcome → Writes (byte_output r byte) before after now outcome
    too_long_writes other full h = subst (λ (t : Output). Writes t before after now outcome) (sym (long_is other full)) h

-- output that goes on, and output that stopped

pub continued_ok : (t : Output) (r : Progress) (more : Progress → Output) → t.now ≡ Ok r → continued t more ≡ behind t (more r)
continued_ok t r more is = ap (λ (n : Result Progress Status). continued_from t n more) is

pub continued_err : (t : Output) (status : Status) (more : Progress → Output) → t.now ≡ Err status → continued t more ≡ t
continued_err t status more is = ap (λ (n : Result Progress Status). continued_from t n more) is

-- after some bytes it went on, and here is what was written
pub record SoFar (start : Progress) (bytes : List ℕ) (before after : Option (List ℕ)) (now : Progress) : Type 0 where
  pub on : (bytes_output start bytes).now ≡ Ok now
  pub written : after ≡ append_known before (bytes_output start bytes).text

pub none_yet : (r : Progress) (known : Option (List ℕ)) → SoFar r [] known known r
none_yet r known = record { on = refl; written = sym (append_known-nil known) }

-- three parts
behind_assoc : (first second third : Output) → behind (behind first second) third ≡ behind first (behind second third)
behind_assoc first second third =
    ap (λ (text : List ℕ). record { text = text; events = (first.events ++ second.events) ++ third.events; now = third.now }) (append_assoc first.text second.text third.text)
    ∙ ap (λ (events : List WorldEvent). record { text = first.text ++ (second.text ++ third.text); events = events; now = third.now }) (append_assoc first.events second.events third.events)

pieces_from : (t : Output) (now : Progress) (bytes more : List ℕ) → ((x : Progress) → (bytes_output x bytes).now ≡ Ok now → bytes_output x (bytes ++ more) ≡ behind (bytes_output x bytes) (bytes_output now more)) → (n : Result Progress Status) → t.now ≡ n → (continued t (λ x. bytes_output x bytes)).now ≡ Ok now → continued t (λ x. bytes_output x (bytes ++ more)) ≡ behind (continued t (λ x. bytes_output x bytes)) (bytes_output now more)
pieces_from t now bytes more later (Err status) e on =
    let wrong : Err status ≡ Ok now = sym (ap (λ (x : Output). x.now) (continued_err t status (λ x. bytes_output x bytes) e) ∙ e) ∙ on in
    cc
pieces_from t now bytes more later (Ok next) e on =
    let first = continued_ok t next (λ x. bytes_output x bytes) e in
    let then_on : (bytes_output next bytes).now ≡ Ok now = sym (ap (λ (x : Output). x.now) first) ∙ on in
    let rest = later next then_on in
    continued_ok t next (λ x. bytes_output x (bytes ++ more)) e
    ∙ ap (behind t) rest
    ∙ sym (behind_assoc t (bytes_output next bytes) (bytes_output now more))
    ∙ ap (λ (x : Output). behind x (bytes_output now more)) (sym first)

pub output_pieces : (r now : Progress) (bytes more : List ℕ) → (bytes_output r bytes).now ≡ Ok now → bytes_output r (bytes ++ more) ≡ behind (bytes_output r bytes) (bytes_output now more)
output_pieces r now [] more on = let is : r ≡ now = let both : Ok r ≡ Ok now = on in cc in ap (λ (x : Progress). bytes_output x more) is
output_pieces r now (byte ∷ bytes) more on = pieces_from (byte_output r byte) now bytes more (λ x h. output_pieces x now bytes more h) (byte_output r byte).now refl on

-- a call behind the output so far
pub writes_further : {R : Type 0} (start r now : Progress) (bytes more : List ℕ) (before between after : Option (List ℕ)) (outcome : Result R Status) → SoFar start bytes before between r → Writes (bytes_output r more) between after now outcome → Writes (bytes_output start (bytes ++ more)) before after now outcome
writes_further {R = R} start r now bytes more before between after outcome so_far writes =
    subst (λ (t : Output). Writes t before after now outcome) (sym (output_pieces start r bytes more so_far.on)) (by outcome writes)
  where
    by : (o : Result R Status) → Writes (bytes_output r more) between after now o → Writes (behind (bytes_output start bytes) (bytes_output r more)) before after now o
    by (Ok x) t = record {
      on = t.on;
      whole = t.whole ∙ ap (λ (k : Option (List ℕ)). append_known k (bytes_output r more).text) so_far.written ∙ append_known-append before (bytes_output start bytes).text (bytes_output r more).text;
      stopped = tt;
      written = tt;
      failed = λ e. cc;
      front = stops_further (goes_piece (bytes_output start bytes).text refl so_far.written) t.front;
    }
    by (Err status) t = record {
      on = tt;
      whole = tt;
      stopped = t.stopped;
      written = λ one other. t.written one other ∙ ap (λ (k : Option (List ℕ)). append_known k (bytes_output r more).text) so_far.written ∙ append_known-append before (bytes_output start bytes).text (bytes_output r more).text;
      failed = λ e. fails_further (goes_piece (bytes_output start bytes).text refl so_far.written) (t.failed e);
      front = stops_further (goes_piece (bytes_output start bytes).text refl so_far.written) t.front;
    }

-- a byte at which it stopped, and those behind it
module _ {R : Type 0} (r now : Progress) (byte : ℕ) (rest : List ℕ) (before after : Option (List ℕ)) where
  err_by : (status : Status) (n : Result Progress Status) → (byte_output r byte).now ≡ n → Writes {R = R} (byte_output r byte) before after now (Err status) → Writes {R = R} (bytes_output r (byte ∷ rest)) before after now (Err status)
  err_by status (Err other) e t = subst (λ (x : Output). Writes {R = R} x before after now (Err status)) (sym (continued_err (byte_output r byte) other (λ x. bytes_output x rest) e)) t
  err_by status (Ok next) e t = subst (λ (x : Output). Writes {R = R} x before after now (Err status)) (sym (continued_ok (byte_output r byte) next (λ x. bytes_output x rest) e)) (record {
    on = tt;
    whole = tt;
    stopped = λ one other. let wrong : Ok next ≡ Err status = sym e ∙ t.stopped one other in cc;
    written = λ one other. let wrong : Ok next ≡ Err status = sym e ∙ t.stopped one other in cc;
    failed = λ f. fails_within (bytes_output next rest).text refl (t.failed f);
    front = stops_within (bytes_output next rest).text refl t.front;
  })

  pub err_writes : (status : Status) → Writes {R = R} (byte_output r byte) before after now (Err status) → Writes {R = R} (bytes_output r (byte ∷ rest)) before after now (Err status)
  err_writes status t = err_by status (byte_output r byte).now refl t

-- one byte more, at which it went on
pub one_more : {R : Type 0} (start r now : Progress) (bytes : List ℕ) (i byte : ℕ) (before between after : Option (List ℕ)) (x : R) → i < length bytes → byte ≡ get_or bytes i 0 → SoFar start (take i bytes) before between r → Writes {R = R} (byte_output r byte) between after now (Ok x) → SoFar start (take (i + 1) bytes) before after now
one_more {R = R} start r now bytes i byte before between after x there is so_far t =
    let first = continued_ok (byte_output r byte) now goes_on t.on in
    let one : Writes {R = R} (bytes_output r (byte ∷ [])) between after now (Ok x) = subst (λ (y : Output). Writes {R = R} y between after now (Ok x)) (sym first) (record {
      on = refl;
      whole = t.whole ∙ ap (append_known between) (sym (append-nil (byte_output r byte).text));
      stopped = tt;
      written = tt;
      failed = λ e. cc;
      front = stops_within [] refl t.front;
    }) in
    let both = writes_further start r now (take i bytes) (byte ∷ []) before between after (Ok x) so_far one in
    let bytes_are : take (i + 1) bytes ≡ take i bytes ++ byte ∷ [] = take_more bytes i 0 there ∙ ap (λ (b : ℕ). take i bytes ++ b ∷ []) (sym is) in
    subst (λ (bs : List ℕ). SoFar start bs before after now) (sym bytes_are) (record { on = both.on; written = both.whole })

-- the byte at which it stopped
pub stop_at : {R : Type 0} (start r now : Progress) (bytes : List ℕ) (i byte : ℕ) (before between after : Option (List ℕ)) (status : Status) → i < length bytes → byte ≡ get_or bytes i 0 → SoFar start (take i bytes) before between r → Writes {R = R} (byte_output r byte) between after now (Err status) → Writes {R = R} (bytes_output start bytes) before after now (Err status)
stop_at {R = R} start r now bytes i byte before between after status there is so_far t =
    let both = writes_further {R = R} start r now (take i bytes) (byte ∷ drop (i + 1) bytes) before between after (Err status) so_far (err_writes r now byte (drop (i + 1) bytes) between after status t) in
    let bytes_are : take i bytes ++ byte ∷ drop (i + 1) bytes ≡ bytes =
    ap (λ (b : ℕ). take i bytes ++ b ∷ drop (i + 1) bytes) is ∙ ap (λ (bs : List ℕ). take i bytes ++ bs) (sym (drop_more bytes i 0 there)) ∙ take-append-drop i bytes in
    subst (λ (bs : List ℕ). Writes {R = R} (bytes_output start bs) before after now (Err status)) bytes_are both

-- the world at the byte at which it stopped
module _ {R : Type 0} (start r now : Progress) (bytes : List ℕ) (i byte : ℕ) (before between after : Option (List ℕ)) (status : Status) (there : i < length bytes) (byte_is : byte ≡ get_or bytes i 0) (so_far : SoFar start (take i bytes) before between r) (writes : Writes {R = R} (byte_output r byte) between after now (Err status)) (led : Led {R = R} (byte_output r byte).events r.world now.world (Err status)) where
  parts_are : take i bytes ++ byte ∷ drop (i + 1) bytes ≡ bytes
  parts_are = ap (λ (b : ℕ). take i bytes ++ b ∷ drop (i + 1) bytes) byte_is ∙ ap (λ (bs : List ℕ). take i bytes ++ bs) (sym (drop_more bytes i 0 there)) ∙ take-append-drop i bytes

  pub stop_led : status ≢ WriteFault → status ≢ Memory → now.world ≡ run (bytes_output start bytes).events start.world
  stop_led one other =
      let stopped : bytes_output r (byte ∷ drop (i + 1) bytes) ≡ byte_output r byte = continued_err (byte_output r byte) status (λ next. bytes_output next (drop (i + 1) bytes)) (writes.stopped one other) in
      let whole : bytes_output start bytes ≡ behind (bytes_output start (take i bytes)) (byte_output r byte) = ap (bytes_output start) (sym parts_are) ∙ output_pieces start r (take i bytes) (byte ∷ drop (i + 1) bytes) so_far.on ∙ ap (behind (bytes_output start (take i bytes))) stopped in
      led.leads (λ e. let same : status ≡ Memory = cc in other same)
      ∙ ap (run (byte_output r byte).events) ((bytes_follow start (take i bytes)).leads r so_far.on)
      ∙ sym (run_append (bytes_output start (take i bytes)).events (byte_output r byte).events start.world)
      ∙ ap (λ (t : Output). run t.events start.world) (sym whole)

  pub stop_failed : (more : List ℕ) → byte ≡ 10 → status ≡ WriteFault → FailedIn start (bytes ++ more) before after now.world
  stop_failed more newline is = record {
    place = record {
      read = take i bytes;
      rest = byte ∷ (drop (i + 1) bytes ++ more);
      now = r;
      bytes_are = ap (λ (bs : List ℕ). bs ++ more) (sym parts_are) ∙ append_assoc (take i bytes) (byte ∷ drop (i + 1) bytes) more;
      ends = newline;
      on = so_far.on;
      front = subst (λ (k : Option (List ℕ)). Fails k after (line_output r).text) so_far.written (subst (λ (t : Output). Fails between after t.text) (newline_output r byte newline) (writes.failed (ap Err is)));
    };
    world_is = led.leads (λ e. let wrong : WriteFault ≡ Memory = let same : status ≡ Memory = cc in sym is ∙ same in cc) ∙ ap (λ (t : Output). run t.events r.world) (newline_output r byte newline);
  }
