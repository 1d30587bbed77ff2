-- Whole traces, computed: the output, what they end with, and the history and the holders' lines then. The scripts
-- are those of the folder `examples`. A byte 97 is the letter a, 98 the letter b; node 257 is `s0`.
use Rattle.std.proofs.Common.{◌≡◌, ℕ, List, [], ◌∷◌, map, codes, refl}
use Rattle.std.specs.Prelude.{Result, Ok}
use Rattle.std.specs.Fmt.{digits}
use Rattle.rec_id.specs.Identity.{Identity}
use Rattle.rec_id.specs.declared.entry.Entry.{Entry}
use Rattle.rec_id.specs.declared.entry.Entry.TheVariants.{Kept}
use Rattle.rec_id.specs.declared.event.Event.{Event}
use Rattle.rec_id.specs.declared.event.Event.TheVariants.{Invoke, Acked}
use Rattle.view_config.specs.Shape.{Dimensions}
use Rattle.view_config.specs.declared.edition.Edition.TheVariants.{One}
use Rattle.view_config.specs.declared.edition.Mode.TheVariants.{M}
use Rattle.io_edges.specs.declared.status.Status.{Status}
use Rattle.io_edges.specs.declared.status.Status.TheVariants.{Done, BadLine}
use Rattle.lazy_rules.specs.Holders.{holders}
use Rattle.lazy_rules.specs.Lines.{line_told}
use Rattle.lazy_rules.specs.WorldState.{WorldState, first_world}
use Rattle.lazy_rules.specs.WorldRules.{run}
use Rattle.script_streams.specs.Texts.{printed, with_newline}
use Rattle.lazylog_trace.specs.Output.{end_of, first_progress, out, script_output}

-- lines, each with its newline
abbrev lines : List (List ℕ) → List ℕ
lines texts = printed (map with_newline texts)

-- the words `trace m SEQ 0 1 1 CLIENTS`
abbrev shape_of : ℕ → ℕ → Dimensions
shape_of seq clients = record { edition = One; mode = M; seq = seq; spares = 0; shards = 1; copies = 1; clients = clients }

-- a holder, and its line or the shard that is lost
pub record Held : Type 0 where
  pub holder : ℕ
  pub line : Result (List Entry) ℕ

abbrev held : WorldState → ℕ → Held
held w holder = record { holder = holder; line = line_told w holder }

-- what a trace shows
pub record Shown : Type 0 where
  pub out : List ℕ
  pub end : Status
  pub history : List Event
  pub lines : List Held

abbrev shown : Dimensions → List (List ℕ) → Shown
shown shape script =
    let start = first_progress shape in
    let bytes = lines script in
    let w = run (script_output start bytes).events (first_world shape) in
    record { out = out start bytes; end = end_of start bytes; history = w.history; lines = map (held w) (holders w) }

-- an identity, and a holder with these entries
abbrev c# : ℕ → ℕ → Identity
c# client number = record { client = client; number = number }

abbrev has : ℕ → List Entry → Held
has holder entries = record { holder = holder; line = Ok entries }

-- acknowledged, though nothing is bound
pub acknowledged_unbound : shown (shape_of 3 1) (codes "append c0 a" ∷ codes "flow 1 6" ∷ []) ≡ record {
  out = lines (codes "c0#1 invoked" ∷ codes "c0#1 acked" ∷ codes "end: 7 events, 6 messages" ∷ []);
  end = Done;
  history = Invoke (c# 0 1) (97 ∷ []) ∷ Acked (c# 0 1) ∷ [];
  lines = has 257 (Kept (c# 0 1) (97 ∷ []) ∷ []) ∷ has 258 (Kept (c# 0 1) (97 ∷ []) ∷ []) ∷ has 259 (Kept (c# 0 1) (97 ∷ []) ∷ []) ∷ [];
}
unfolding digits
acknowledged_unbound = refl

-- delivered five times, and stored once
pub repeated_delivery : shown (shape_of 3 1) (codes "append c0 a" ∷ codes "deliver 1" ∷ codes "deliver 1" ∷ codes "deliver 1" ∷ codes "deliver 1" ∷ codes "deliver 1" ∷ codes "lines" ∷ []) ≡ record {
  out = lines (codes "c0#1 invoked" ∷ codes "line s0: c0#1=a" ∷ codes "line s1: -" ∷ codes "line s2: -" ∷ codes "end: 6 events, 8 messages" ∷ []);
  end = Done;
  history = Invoke (c# 0 1) (97 ∷ []) ∷ [];
  lines = has 257 (Kept (c# 0 1) (97 ∷ []) ∷ []) ∷ has 258 [] ∷ has 259 [] ∷ [];
}
unfolding digits
repeated_delivery = refl

-- repeated behind a later append, which keeps its place
pub repeat_after_a_later_append : shown (shape_of 2 2) (codes "append c0 a" ∷ codes "flow 1 4" ∷ codes "append c1 b" ∷ codes "deliver 6" ∷ codes "deliver 2" ∷ codes "lines" ∷ []) ≡ record {
  out = lines (codes "c0#1 invoked" ∷ codes "c0#1 acked" ∷ codes "c1#1 invoked" ∷ codes "line s0: c0#1=a" ∷ codes "line s1: c0#1=a c1#1=b" ∷ codes "end: 8 events, 8 messages" ∷ []);
  end = Done;
  history = Invoke (c# 0 1) (97 ∷ []) ∷ Acked (c# 0 1) ∷ Invoke (c# 1 1) (98 ∷ []) ∷ [];
  lines = has 257 (Kept (c# 0 1) (97 ∷ []) ∷ []) ∷ has 258 (Kept (c# 0 1) (97 ∷ []) ∷ Kept (c# 1 1) (98 ∷ []) ∷ []) ∷ [];
}
unfolding digits
repeat_after_a_later_append = refl

-- stopped at a number with a leading zero; the line behind it isn't handled
pub bad_line : shown (shape_of 3 1) (codes "# a comment" ∷ [] ∷ codes "append c0 a" ∷ codes "deliver 01" ∷ codes "deliver 1" ∷ []) ≡ record {
  out = lines (codes "c0#1 invoked" ∷ codes "stopped: bad line 4" ∷ []);
  end = BadLine 4;
  history = Invoke (c# 0 1) (97 ∷ []) ∷ [];
  lines = has 257 [] ∷ has 258 [] ∷ has 259 [] ∷ [];
}
unfolding digits
bad_line = refl

-- refused, and passed over by a flow
pub refusals : shown (shape_of 1 2) (codes "deliver 0" ∷ codes "append c7" ∷ codes "append c300 a" ∷ codes "deliver 1" ∷ codes "flow 1 3" ∷ []) ≡ record {
  out = lines (codes "refused: no message 0" ∷ codes "refused: no node c7" ∷ codes "refused: no node c300" ∷ codes "refused: no message 1" ∷ codes "end: 0 events, 0 messages" ∷ []);
  end = Done;
  history = [];
  lines = has 257 [] ∷ [];
}
unfolding digits
refusals = refl
