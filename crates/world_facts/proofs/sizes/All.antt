-- Everything has its sizes, where reads are asked with numbers of 32 bits.
use Rattle.world_facts.specs.Sizes.{Sized}
use Rattle.lazy_msgs.specs.declared.input.Input.TheVariants.{Take, Ask as AskInput}
use Rattle.world_facts.proofs.Claims.{Always, Cases, Claims, Given, both}
use Rattle.view_config.specs.declared.nodes.TheConstants.{CONTROLLER}
use Rattle.world_facts.specs.SizesOf.{ClientSized, ControlSized, HasSizes, IsOfWords, ReaderSized, SeqSized, ShardSized}
use Rattle.view_config.specs.Shape.{Dimensions, IsShape}
use Rattle.list_facts.specs.Lists.{Each}
use Rattle.world_facts.proofs.goes.Sends.{GivenTo}
use Rattle.lazy_msgs.specs.declared.input.Input.{Input}
use Rattle.lazy_msgs.specs.FrameLimits.{IsWord}
use Rattle.world_facts.specs.Turns.{Meets}
use Rattle.world_facts.proofs.sizes.Sends.{SizedInput}
use Rattle.lazy_msgs.specs.declared.input.WorldEvent.{WorldEvent}
use Rattle.world_facts.proofs.sizes.Client.{client_sized}
use Rattle.world_facts.proofs.sizes.Control.{control_sized}
use Rattle.lazy_rules.specs.SeqState.{first_seq}
use Rattle.lazy_rules.specs.ShardState.{first_shard}
use Rattle.lazy_rules.specs.WorldState.{first_world}
use Rattle.world_facts.proofs.goes.All.{going_always, going}
use Rattle.std.specs.Prelude.{nat_lt}
use Rattle.world_facts.proofs.sizes.Windows.{nothing_seen}
use Rattle.world_facts.proofs.sizes.Reader.{reader_sized}
use Rattle.world_facts.proofs.Runs.{run_keeps, both_always}
use Rattle.view_config.specs.Nodes.{seq_id, shard_id}
use Rattle.world_facts.proofs.sizes.Seq.{seq_sized}
use Rattle.world_facts.proofs.sizes.Shard.{shard_sized}
use Rattle.std.proofs.Common.{arith, ℕ, List}
use Rattle.list_facts.proofs.Cases.{either}
use Rattle.lazy_rules.specs.WorldRules.{run}

abbrev pub sizes : Dimensions → Claims
sizes shape = record {
  client = λ n c s. ClientSized shape s;
  reader = λ n c r. ReaderSized shape r;
  control = λ n k. ControlSized shape k;
  seq = λ n i s. SeqSized shape s;
  shard = λ n i j s. ShardSized shape s;
  sent = λ n sender to msg. Sized shape msg;
}

module _ (shape : Dimensions) (formed : IsShape shape) where
  goes_to : (n me : ℕ) (input : Input) → Given IsOfWords (going shape) (sizes shape) n me input → GivenTo shape me input
  goes_to n me (Take e) h = h.knew
  goes_to n me _ h = tt

  sized_of : (n me : ℕ) (input : Input) → Given IsOfWords (going shape) (sizes shape) n me input → SizedInput shape input
  sized_of n me (Take e) h = h.said
  sized_of n me (AskInput ask) h = h
  sized_of n me _ h = tt

  first_of_shard : (i j : ℕ) → ShardSized shape (first_shard shape i j)
  first_of_shard i j = record {
    view = record { least = omega arith; word = omega arith };
    store = record { order = tt; held = tt; long = omega arith; stable = omega arith; floor = omega arith; two = λ some. absurd (omega arith) };
    jobs = tt;
    flush = tt;
  }

  first_of_seq : (i : ℕ) → SeqSized shape (first_seq shape i)
  first_of_seq i = record {
    view = either IsWord (nat_lt i shape.seq) 1 0 (λ h. omega arith) (λ h. omega arith);
    few = omega arith;
    bound = omega arith;
    room = λ some. absurd (omega arith);
    pending = tt;
    window = nothing_seen shape;
    probes = tt;
    leads = λ leads. record { flight = tt; few = omega arith; room = λ some. absurd (omega arith) };
  }

  sizes_cases : Cases shape IsOfWords (going shape) (sizes shape)
  sizes_cases = record {
    lasting = record {
      client = λ n c s h. h;
      reader = λ n c s h. h;
      control = λ n s h. h;
      seq = λ n i s h. h;
      shard = λ n i j s h. h;
      sent = λ n sender to msg h. h;
    };
    client = λ c few. record {
      first = record { view = omega arith; least = omega arith; word = omega arith; unfinished = tt };
      steps = λ n s input knew held given. client_sized shape c few s knew held input (goes_to n c input given) (sized_of n c input given);
    };
    reader = λ c few. record {
      first = record { view = omega arith; count = omega arith; reach = omega arith; stage = tt };
      steps = λ n s input knew held given. reader_sized shape c s knew held input (goes_to n c input given) (sized_of n c input given);
    };
    asking = λ n c few. tt;
    control = record {
      first = record { base = omega arith; window = nothing_seen shape; phase = omega arith };
      steps = λ n s input knew held given. control_sized shape s knew held input (goes_to n CONTROLLER input given) (sized_of n CONTROLLER input given);
    };
    seq = λ i few. record {
      first = first_of_seq i;
      steps = λ n s input knew held given. seq_sized shape i s knew held input (sized_of n (seq_id i) input given);
    };
    shard = λ i j few some. record {
      first = first_of_shard i j;
      steps = λ n s input knew held given. shard_sized shape s held input (sized_of n (shard_id i j) input given);
    };
  }

pub sizes_always : (shape : Dimensions) → IsShape shape → Always shape IsOfWords (sizes shape)
sizes_always shape formed = run_keeps shape formed IsOfWords (going shape) (sizes shape) (sizes_cases shape formed) (going_always shape formed IsOfWords)

pub sizes_of_run : (shape : Dimensions) (events : List WorldEvent) → IsShape shape → Each (Meets IsOfWords) events → HasSizes shape (run events (first_world shape))
sizes_of_run shape events formed words =
    let holds = (sizes_always shape formed).holds events words in
    record { clients = holds.clients; readers = holds.readers; control = holds.control; seqs = holds.seqs; shards = holds.shards; sent = holds.sent }

-- what later claims may know: where each message goes, and the sizes of all
pub known_always : (shape : Dimensions) → IsShape shape → Always shape IsOfWords (both (going shape) (sizes shape))
known_always shape formed = both_always shape IsOfWords (going shape) (sizes shape) (going_always shape formed IsOfWords) (sizes_always shape formed)
