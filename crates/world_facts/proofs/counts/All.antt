-- No number of 32 bits is ever spent in a run of fewer events.
use Rattle.world_facts.specs.Numbers.{turn_of, ClientCounts, ReaderCounts, ControlCounts, HasNumbers, PlacesCount}
use Rattle.lazy_msgs.specs.declared.msg.Msg.TheVariants.{Flush, FlushCopy}
use Rattle.lazy_rules.specs.ReaderState.{ReaderState, Fetch, Stage, Fetching}
use Rattle.world_facts.proofs.Claims.{Always, Cases, Claims, nothing}
use Rattle.world_facts.specs.SizesOf.{ControlSized, IsOfWords, IsPhase, SeqSized}
use Rattle.lazy_rules.specs.ControlState.{ControlState, Flushing, Taken, newest}
use Rattle.view_config.specs.Shape.{Dimensions, IsShape}
use Rattle.list_facts.specs.Lists.{Each}
use Rattle.lazy_msgs.specs.declared.msg.Envelope.{Envelope}
use Rattle.world_facts.specs.Turns.{Meets}
use Rattle.lazy_msgs.specs.declared.msg.Msg.{Msg}
use Rattle.lazy_rules.specs.SeqState.{SeqState}
use Rattle.world_facts.specs.Sizes.{Sized, line_limit}
use Rattle.lazy_msgs.specs.declared.input.WorldEvent.{WorldEvent}
use Rattle.world_facts.proofs.counts.Client.{client_counts}
use Rattle.lazy_rules.specs.ClientRules.{client_step}
use Rattle.world_facts.proofs.counts.Control.{control_counts}
use Rattle.lazy_rules.specs.ControlRules.{control_step, has_base}
use Rattle.list_facts.proofs.Members.{each_weaker}
use Rattle.lazy_rules.specs.WorldState.{first_world}
use Rattle.lazy_rules.specs.ShardRules.{has_places, shard_step}
use Rattle.std.proofs.lemmas.Bool.{lt-ltb, ne_eqb}
use Rattle.world_facts.proofs.Runs.{nothing_always, run_keeps}
use Rattle.world_facts.proofs.counts.Reader.{reader_counts}
use Rattle.lazy_rules.specs.ReaderRules.{reader_step}
use Rattle.lazy_rules.specs.SeqRules.{seq_step}
use Rattle.world_facts.proofs.sizes.All.{sizes_of_run}
use Rattle.world_facts.proofs.goes.Sends.{any}
use Rattle.std.proofs.Common.{arith, length, subst, ◌≡◌, ◌+◌, ◌*◌, ◌<◌, ◌≤◌, ◌^◌, ◌-◌, true, ℕ, List}
use Rattle.lazy_rules.specs.WorldRules.{run}

-- how many reads, turns, appends and views there are after so many events
abbrev pub counts : Claims
counts = record {
  client = λ n c s. ClientCounts n s;
  reader = λ n c r. ReaderCounts n r;
  control = λ n k. ControlCounts n k;
  seq = λ n i s. Unit {0};
  shard = λ n i j s. Unit {0};
  sent = λ n sender to msg. Unit {0};
}

module _ (shape : Dimensions) (formed : IsShape shape) where
  counts_cases : Cases shape IsOfWords nothing counts
  counts_cases = record {
    lasting = record {
      client = λ n c s h. let few = h.next in record { next = omega arith };
      reader = λ n c r h. let reads = h.reads in let turn = h.turn in record { reads = omega arith; turn = omega arith };
      control = λ n k h. let view = h.view in record { view = omega arith };
      seq = λ n i s h. tt;
      shard = λ n i j s h. tt;
      sent = λ n sender to msg h. tt;
    };
    client = λ c few. record {
      first = record { next = omega arith };
      steps = λ n s input knew held given. record { next = (let most = held.next in let step = client_counts s input in record { next = omega arith }); sends = any (client_step s input).sends };
    };
    reader = λ c few. record {
      first = record { reads = omega arith; turn = omega arith };
      steps = λ n s input knew held given. record {
        next = (let reads = held.reads in let turn = held.turn in let step = reader_counts s input in let one = step.reads in let two = step.turn in record { reads = omega arith; turn = omega arith });
        sends = any (reader_step s input).sends;
      };
    };
    asking = λ n c few. tt;
    control = record {
      first = record { view = omega arith };
      steps = λ n s input knew held given. record { next = (let most = held.view in let step = control_counts s input in record { view = omega arith }); sends = any (control_step s input).sends };
    };
    seq = λ i few. record { first = tt; steps = λ n s input knew held given. record { next = tt; sends = any (seq_step s input).sends } };
    shard = λ i j few some. record { first = tt; steps = λ n s input knew held given. record { next = tt; sends = any (shard_step s input).sends } };
  }

  counts_always : Always shape IsOfWords counts
  counts_always = run_keeps shape formed IsOfWords nothing counts counts_cases (nothing_always shape IsOfWords)

-- ---- what is not spent
line_has : (from count : ℕ) → from + count ≤ line_limit → has_places from count ≡ true
line_has from count h = lt-ltb (from + count) (2 ^ 32) (omega arith)

places_count : (shape : Dimensions) (msg : Msg) → Sized shape msg → PlacesCount msg
places_count shape (Flush config from items) h = line_has from (length items) h.1.stretch.end
places_count shape (FlushCopy view from cells) h = line_has from (length cells) h.1.stretch.end
places_count shape _ h = tt

base_has : (shape : Dimensions) (k : ControlState) → ControlSized shape k → (taken : Taken) → k.phase ≡ Flushing taken → has_base taken ≡ true
base_has shape k h taken is =
    let sized : IsPhase shape (Flushing taken) = subst (IsPhase shape) is h.phase in
    let end = sized.end in
    lt-ltb (taken.from + length taken.items) (2 ^ 32) (omega arith)

turn_here : (n : ℕ) (r : ReaderState) → ReaderCounts n r → (fetch : Fetch) → r.stage ≡ Fetching fetch → fetch.turn ≤ n
turn_here n r h fetch is = let most : turn_of (Fetching fetch) ≤ n = subst (λ (stage : Stage). turn_of stage ≤ n) is h.turn in most

positions_most : (shape : Dimensions) (s : SeqState) → SeqSized shape s → s.bound + length s.pending ≤ 2 * line_limit
positions_most shape s h = let few = h.few in let bound = h.bound in omega arith

pub numbers_of_run : (shape : Dimensions) (events : List WorldEvent) → IsShape shape → Each (Meets IsOfWords) events → (run events (first_world shape)).events + 2 < 2 ^ 32 → HasNumbers (run events (first_world shape))
numbers_of_run shape events formed words early =
    let w = run events (first_world shape) in
    let holds = (counts_always shape formed).holds events words in
    let sizes = sizes_of_run shape events formed words in
    record {
      clients = λ c s at. let most = (holds.clients c s at).next in ne_eqb s.next (2 ^ 32 - 1) (omega arith);
      readers = λ c r at. let most = (holds.readers c r at).reads in lt-ltb (r.count + 1) (2 ^ 32) (omega arith);
      turns = λ c r at fetch is. let most = turn_here (run events (first_world shape)).events r (holds.readers c r at) fetch is in lt-ltb (fetch.turn + 1) (2 ^ 32) (omega arith);
      views = let most = holds.control.view in lt-ltb ((newest (run events (first_world shape)).control).view + 1) (2 ^ 32) (omega arith);
      bases = λ taken is. base_has shape (run events (first_world shape)).control sizes.control taken is;
      leaders = λ i s at. let most = positions_most shape s (sizes.seqs i s at) in lt-ltb (s.bound + length s.pending) (2 ^ 32) (omega arith);
      followers = λ i s at count few. let bound = (sizes.seqs i s at).bound in lt-ltb (s.bound + count) (2 ^ 32) (omega arith);
      shards = λ k s at count few. let long = (sizes.shards k s at).store.long in lt-ltb (length s.store.order + count) (2 ^ 32) (omega arith);
      sent = each_weaker (λ (e : Envelope). Sized shape e.msg) (λ (e : Envelope). PlacesCount e.msg) (λ e says. places_count shape e.msg says) (run events (first_world shape)).sent sizes.sent;
    }
