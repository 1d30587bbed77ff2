-- Every message goes from a node that sends its kind to a node that takes it.
use Rattle.std.proofs.Common.{ℕ, ◌+◌, ◌<◌, ◌≤◌, [], map, refl, arith, suc, zero, List}
use Rattle.std.specs.List.{range_with_len}
use Rattle.list_facts.specs.Lists.{Each}
use Rattle.list_facts.proofs.Members.{each_map}
use Rattle.view_config.specs.Config.{first_copies, initial_config}
use Rattle.view_config.specs.Nodes.{seq_id, shard_id}
use Rattle.view_config.specs.Shape.{Dimensions, IsShape}
use Rattle.view_config.specs.declared.nodes.TheConstants.{CONTROLLER}
use Rattle.lazy_msgs.specs.declared.input.Input.{Input}
use Rattle.lazy_msgs.specs.declared.input.Input.TheVariants.{Take}
use Rattle.lazy_rules.specs.ShardState.{Backup, first_backups, backups_of}
use Rattle.world_facts.specs.MembersOf.{ClientOf, ControlOf, SeqOf, ShardOf, ReaderOf, HasMembers}
use Rattle.world_facts.specs.Members.{IsGroup, IsNamed, IsSeqNode, IsShardNode, Goes}
use Rattle.world_facts.proofs.Claims.{Always, Claims, Cases, Given, nothing}
use Rattle.world_facts.proofs.Runs.{nothing_always, run_keeps, met_all}
use Rattle.world_facts.proofs.goes.Client.{client_kept}
use Rattle.world_facts.proofs.goes.Control.{control_kept}
use Rattle.world_facts.proofs.goes.Reader.{reader_kept}
use Rattle.world_facts.proofs.goes.Seq.{seq_kept}
use Rattle.world_facts.proofs.goes.Sends.{GivenTo}
use Rattle.world_facts.proofs.goes.Shard.{backups_named, shard_kept}
use Rattle.std.proofs.lemmas.List.FromFn.{length-map-range_with_len}
use Rattle.list_facts.proofs.Cases.{either}
use Rattle.std.specs.Prelude.{◌==◌}
use Rattle.lazy_msgs.specs.declared.input.WorldEvent.{WorldEvent}
use Rattle.lazy_rules.specs.WorldState.{first_world}
use Rattle.lazy_rules.specs.WorldRules.{run}

-- who sends what to whom, and what each node has of its shape
abbrev pub going : Dimensions → Claims
going shape = record {
  client = λ n c s. ClientOf shape c s;
  reader = λ n c r. ReaderOf shape c r;
  control = λ n k. ControlOf shape k;
  seq = λ n i s. SeqOf shape i s;
  shard = λ n i j s. ShardOf shape i j s;
  sent = λ n sender to msg. Goes shape sender to msg;
}

-- numbers in a range
each_in_range : (P : ℕ → Type 0) (from count : ℕ) → ((n : ℕ) → from ≤ n → n < from + count → P n) → Each P (range_with_len from count)
each_in_range P from zero f = tt
each_in_range P from (suc count) f = (f from (omega arith) (omega arith), each_in_range P (from + 1) count (λ n least most. f n (omega arith) (omega arith)))

module _ (shape : Dimensions) (formed : IsShape shape) where
  seqs_named : (from count : ℕ) → from + count ≤ shape.seq + shape.spares → Each (IsSeqNode shape) (map seq_id (range_with_len from count))
  seqs_named from count most =
      each_map seq_id (IsSeqNode shape) (range_with_len from count)
      (each_in_range (λ (n : ℕ). IsSeqNode shape (seq_id n)) from count (λ n least below. record { place = n; few = omega arith; is = refl }))

  group_named : (shard : ℕ) → shard < shape.shards → IsGroup shape (first_copies shape.copies shard)
  group_named shard below = record {
    some = let long = length-map-range_with_len (shard_id shard) 0 shape.copies in let least = formed.copies_least in omega arith;
    few = let long = length-map-range_with_len (shard_id shard) 0 shape.copies in omega arith;
    each = each_map (shard_id shard) (IsShardNode shape) (range_with_len 0 shape.copies)
        (each_in_range (λ (n : ℕ). IsShardNode shape (shard_id shard n)) 0 shape.copies (λ n least most. record { shard = shard; copy = n; row = below; column = omega arith; is = refl }));
  }

  pub first_named : IsNamed shape (initial_config shape)
  first_named = record {
    view = omega arith;
    some = let long = length-map-range_with_len seq_id 0 shape.seq in let least = formed.seq_least in omega arith;
    few = let long = length-map-range_with_len seq_id 0 shape.seq in omega arith;
    seq = seqs_named 0 shape.seq (omega arith);
    count = length-map-range_with_len (first_copies shape.copies) 0 shape.shards;
    shards = each_map (first_copies shape.copies) (IsGroup shape) (range_with_len 0 shape.shards)
        (each_in_range (λ (n : ℕ). IsGroup shape (first_copies shape.copies n)) 0 shape.shards (λ n least most. group_named n (omega arith)));
  }

  backups_first : (shard j : ℕ) → shard < shape.shards → Each (λ (backup : Backup). IsShardNode shape backup.node) (first_backups (first_copies shape.copies shard) j)
  backups_first shard j below =
      either (Each (λ (backup : Backup). IsShardNode shape backup.node)) (j == 0) (backups_of (first_copies shape.copies shard)) []
      (λ h. backups_named (IsShardNode shape) (first_copies shape.copies shard) (group_named shard below).each) (λ h. tt)

  given_to : (Asked : Input → Type 0) (n me : ℕ) (input : Input) → Given Asked nothing (going shape) n me input → GivenTo shape me input
  given_to Asked n me (Take e) h = h.said
  given_to Asked n me _ h = tt

  pub going_cases : (Asked : Input → Type 0) → Cases shape Asked nothing (going shape)
  going_cases Asked = record {
    lasting = record {
      client = λ n c s h. h;
      reader = λ n c s h. h;
      control = λ n s h. h;
      seq = λ n i s h. h;
      shard = λ n i j s h. h;
      sent = λ n sender to msg h. h;
    };
    client = λ c few. record {
      first = record { shaped = refl; numbered = refl; config = first_named };
      steps = λ n s input knew held given. client_kept shape c few s held input (given_to Asked n c input given);
    };
    reader = λ c few. record {
      first = record { shaped = refl; numbered = refl; config = first_named };
      steps = λ n s input knew held given. reader_kept shape c few s held input (given_to Asked n c input given);
    };
    asking = λ n c few. (few, refl);
    control = record {
      first = record { shaped = refl; spares = seqs_named shape.seq shape.spares (omega arith); phase = first_named };
      steps = λ n s input knew held given. control_kept shape s held input (given_to Asked n CONTROLLER input given);
    };
    seq = λ i few. record {
      first = record { shaped = refl; numbered = refl; config = first_named; probes = tt };
      steps = λ n s input knew held given. seq_kept shape i few s held input (given_to Asked n (seq_id i) input given);
    };
    shard = λ i j few some. record {
      first = record { shaped = refl; numbered = refl; backups = backups_first i j few; jobs = tt; flush = tt };
      steps = λ n s input knew held given. shard_kept shape i j few some s held input (given_to Asked n (shard_id i j) input given);
    };
  }

pub going_always : (shape : Dimensions) → IsShape shape → (Asked : Input → Type 0) → Always shape Asked (going shape)
going_always shape formed Asked = run_keeps shape formed Asked nothing (going shape) (going_cases shape formed Asked) (nothing_always shape Asked)

-- what each node has of its shape, and where each message goes
pub members_of_run : (shape : Dimensions) (events : List WorldEvent) → IsShape shape → HasMembers shape (run events (first_world shape))
members_of_run shape events formed =
    let holds = (going_always shape formed (λ (input : Input). Unit {0})).holds events (met_all events) in
    record { clients = holds.clients; readers = holds.readers; control = holds.control; seqs = holds.seqs; shards = holds.shards; sent = holds.sent }
