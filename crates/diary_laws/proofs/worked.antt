-- One worked list of diaries: a client appends a record, peeks before and after it is claimed, and the sequencing
-- replica crashes. The definitions can be met, and the merge's history is what one expects.
use Rattle.std.proofs.Common.{◌≡◌, ℕ, List, [], ◌∷◌, Option, Some, None, true, false, swap, inl, inr, refl, sym, ◌∙◌, arith}
use Rattle.list_facts.specs.Lists.{In}
use Rattle.rec_id.specs.Identity.{Identity}
use Rattle.rec_id.specs.declared.event.Event.TheVariants.{Invoke, Acked, Seen}
use Rattle.rec_id.specs.declared.item.Item.{Item}
use Rattle.view_config.specs.Shape.{Dimensions, node_of}
use Rattle.view_config.specs.declared.edition.Edition.TheVariants.{One}
use Rattle.view_config.specs.declared.edition.Mode.TheVariants.{M}
use Rattle.view_config.specs.declared.nodes.Node.{Node}
use Rattle.view_config.specs.declared.nodes.Node.TheVariants.{Client, Controller, Seq, Shard}
use Rattle.view_config.specs.declared.nodes.TheConstants.{BOARD}
use Rattle.lazy_msgs.specs.declared.diary.Diary.{Diary}
use Rattle.lazy_msgs.specs.declared.diary.DiaryEntry.{DiaryEntry}
use Rattle.lazy_msgs.specs.declared.input.Input.{Input}
use Rattle.lazy_msgs.specs.declared.input.Input.TheVariants.{Take, Tick, Crash, Post, Peek}
use Rattle.lazy_msgs.specs.declared.input.WorldEvent.{WorldEvent}
use Rattle.lazy_msgs.specs.declared.input.WorldEvent.TheVariants.{Post as PostEvent, Peek as PeekEvent, Deliver, Tick as TickEvent, Crash as CrashEvent}
use Rattle.lazy_msgs.specs.declared.msg.Envelope.{Envelope}
use Rattle.lazy_msgs.specs.declared.msg.Msg.{Msg}
use Rattle.lazy_msgs.specs.declared.msg.Msg.TheVariants.{Append, AppendAck, Place, Placed, Stable, Claim}
use Rattle.lazy_rules.specs.ClientState.{first_client}
use Rattle.lazy_rules.specs.ControlState.{first_control}
use Rattle.lazy_rules.specs.ReaderState.{first_reader}
use Rattle.lazy_rules.specs.Rows.{has_node}
use Rattle.lazy_rules.specs.SeqState.{first_seq}
use Rattle.lazy_rules.specs.ShardState.{first_shard}
use Rattle.lazy_rules.specs.WorldRules.{run}
use Rattle.lazy_rules.specs.WorldState.{first_world}
use Rattle.world_facts.proofs.Nodes.{client_is, controller_is, seq_is, shard_is}
use Rattle.diary_laws.specs.Closed.{AreClosed}
use Rattle.diary_laws.specs.Formed.{AreDiaries, IsFormed, nodes_of}
use Rattle.diary_laws.specs.Lived.{IsLived}
use Rattle.diary_laws.specs.Machines.{Machine, Step, step_of}
use Rattle.diary_laws.specs.Merges.{AreEventsOf, IsMerged, IsNumber, event_steps, sent_by}
use Rattle.diary_laws.specs.Nodes.{NodeState, OfClient, OfControl, OfSeq, OfShard, node_step, nodes_of_shape, state_of}
use Rattle.diary_laws.proofs.holding.Same.{among}
use Rattle.diary_laws.proofs.runs.Merged.{lived}

abbrev pub shape : Dimensions
shape = record { edition = One; mode = M; seq = 1; spares = 0; shards = 1; copies = 1; clients = 1 }

abbrev pub m : Machine
m = nodes_of_shape shape

abbrev pub id : Identity
id = record { client = 0; number = 1 }

abbrev pub a : List ℕ
a = 97 ∷ []

abbrev item : Item
item = record { id = id; bytes = Some a }

abbrev pub from_to : ℕ → ℕ → ℕ → Msg → Envelope
from_to sender to time msg = record { from = sender; to = to; time = time; msg = msg }

abbrev pub entry : ℕ → Input → List (ℕ × Msg) → DiaryEntry
entry time input sends = record { time = time; input = input; sends = sends }

abbrev pub append : Envelope
append = from_to 0 257 1 (Append 1 id (Some a))

abbrev pub ack : Envelope
ack = from_to 257 0 2 (AppendAck 1 id)

abbrev place : Envelope
place = from_to 257 264 3 (Place 1 0 (item ∷ []))

abbrev placed : Envelope
placed = from_to 264 257 4 (Placed 1 1)

abbrev final : Envelope
final = from_to 257 264 5 (Stable 1 1)

abbrev client : Diary
client = record {
  node = 0;
  entries = entry 1 (Post a) ((257, Append 1 id (Some a)) ∷ [])
      ∷ entry 2 (Peek 0 0 0 0 []) []
      ∷ entry 3 (Take ack) []
      ∷ entry 7 (Peek 1 6 0 0 (id ∷ [])) []
      ∷ [];
}

abbrev control : Diary
control = record { node = 256; entries = [] }

abbrev seq : Diary
seq = record {
  node = 257;
  entries = entry 2 (Take append) ((0, AppendAck 1 id) ∷ [])
      ∷ entry 3 Tick ((264, Place 1 0 (item ∷ [])) ∷ [])
      ∷ entry 5 (Take placed) ((264, Stable 1 1) ∷ [])
      ∷ entry 6 Crash []
      ∷ [];
}

abbrev shard : Diary
shard = record {
  node = 264;
  entries = entry 4 (Take place) ((257, Placed 1 1) ∷ [])
      ∷ entry 6 (Take final) ((BOARD, Claim 1) ∷ [])
      ∷ [];
}

abbrev diaries : List Diary
diaries = client ∷ control ∷ seq ∷ shard ∷ []

client_formed : IsFormed m client
client_formed = record {
  start = OfClient (record { appends = first_client shape 0; reads = first_reader shape 0 });
  first = refl;
  follows = (
    record { later = omega arith; early = omega arith; received = tt; allowed = refl; sends = refl },
    tt,
    (
      record { later = omega arith; early = omega arith; received = tt; allowed = tt; sends = refl },
      tt,
      (
        record { later = omega arith; early = omega arith; received = record { own = refl; older = omega arith; mail = tt }; allowed = tt; sends = refl },
        tt,
        (record { later = omega arith; early = omega arith; received = tt; allowed = tt; sends = refl }, tt, tt),
      ),
    ),
  );
}

control_formed : IsFormed m control
control_formed = record { start = OfControl (first_control shape); first = refl; follows = tt }

seq_formed : IsFormed m seq
seq_formed = record {
  start = OfSeq (first_seq shape 0);
  first = refl;
  follows = (
    record { later = omega arith; early = omega arith; received = record { own = refl; older = omega arith; mail = tt }; allowed = tt; sends = refl },
    tt,
    (
      record { later = omega arith; early = omega arith; received = tt; allowed = tt; sends = refl },
      tt,
      (
        record { later = omega arith; early = omega arith; received = record { own = refl; older = omega arith; mail = tt }; allowed = tt; sends = refl },
        tt,
        (record { later = omega arith; early = omega arith; received = tt; allowed = tt; sends = refl }, refl, tt),
      ),
    ),
  );
}

shard_formed : IsFormed m shard
shard_formed = record {
  start = OfShard (first_shard shape 0 0);
  first = refl;
  follows = (
    record { later = omega arith; early = omega arith; received = record { own = refl; older = omega arith; mail = tt }; allowed = tt; sends = refl },
    tt,
    (
      record { later = omega arith; early = omega arith; received = record { own = refl; older = omega arith; mail = tt }; allowed = tt; sends = refl },
      tt,
      tt,
    ),
  );
}

not_in : (nodes : List ℕ) (node : ℕ) → has_node nodes node ≡ false → ¬ In node nodes
not_in nodes node none there = let wrong : true ≡ false = sym (among nodes node there) ∙ none in cc

all_nodes : (node : ℕ) (s : NodeState) (o : Option Node) → node_of shape node ≡ o → state_of (first_world shape) o ≡ Some s → In node (nodes_of diaries)
all_nodes node s (Some (Client c)) is h = let k = client_is shape node c is in let own = k.0 in let few = k.1 in inl (omega arith)
all_nodes node s (Some Controller) is h = inr (inl (sym (controller_is shape node is)))
all_nodes node s (Some (Seq i)) is h = let k = seq_is shape node i is in let own = k.0 in let few = k.1 in inr (inr (inl (omega arith)))
all_nodes node s (Some (Shard i j)) is h = let k = shard_is shape node i j is in let own = k.0 in let row = k.1 in let column = k.2 in inr (inr (inr (inl (omega arith))))
all_nodes node s None is h = let wrong : None ≡ Some s = h in absurd (let no : ⊥ = cc in no)

are : AreDiaries m diaries
are = record {
  formed = (client_formed, (control_formed, (seq_formed, (shard_formed, tt))));
  once = (not_in (256 ∷ 257 ∷ 264 ∷ []) 0 refl, (not_in (257 ∷ 264 ∷ []) 256 refl, (not_in (264 ∷ []) 257 refl, (not_in [] 264 refl, tt))));
  all = λ node s h. all_nodes node s (node_of shape node) refl h;
}

-- the step that claims
abbrev claims : Step NodeState
claims = step_of m 264 (node_step (OfShard (first_shard shape 0 0)) (Take place)).next (entry 6 (Take final) ((BOARD, Claim 1) ∷ []))

closed : AreClosed m diaries
closed = (
  (
    tt,
    (
      record { few = omega arith; within = omega arith; claimed = λ some. absurd (omega (arith, some)) },
      (
        inr (inl refl),
        (
          record {
            few = omega arith;
            within = omega arith;
            claimed = λ some. record {
              step = claims;
              there = inr (inr (inr (inr (inr (inr (inr (inr (inr (inl refl)))))))));
              at = refl;
              before = omega arith;
              by = refl;
              addressee = BOARD;
              claims = inl refl;
              has = refl;
            };
          },
          tt,
        ),
      ),
    ),
  ),
  (tt, ((inl refl, (tt, (inr (inr (inr (inr (inl refl)))), (tt, tt)))), ((inr (inr (inl refl)), (inr (inr (inr (inl refl))), tt)), tt))),
)

-- the steps in order: the peek that found no claim isn't among them
abbrev moves : List (ℕ × ℕ)
moves = (7, 8) ∷ (4, 7) ∷ (3, 4) ∷ (2, 3) ∷ (1, 3) ∷ []

abbrev exchanged : {X : Type 0} → List X → List (ℕ × ℕ) → List X
exchanged xs [] = xs
exchanged xs (p ∷ ps) = swap (exchanged xs ps) p.0 p.1

abbrev merged : List (Step NodeState)
merged = exchanged (event_steps m diaries) moves

in_order : IsMerged m diaries merged
in_order = record {
  all = record {
    moves = moves;
    below = ((omega arith), (omega arith), ((omega arith), (omega arith), ((omega arith), (omega arith), ((omega arith), (omega arith), ((omega arith), (omega arith), tt)))));
    is = refl;
  };
  ordered = ((inl (omega arith), (inl (omega arith), (inl (omega arith), (inl (omega arith), (inl (omega arith), (inl (omega arith), (inl (omega arith), (inl (omega arith), tt)))))))), ((inl (omega arith), (inl (omega arith), (inl (omega arith), (inl (omega arith), (inl (omega arith), (inl (omega arith), (inl (omega arith), tt))))))), ((inr (refl, omega arith), (inl (omega arith), (inl (omega arith), (inl (omega arith), (inl (omega arith), (inl (omega arith), tt)))))), ((inl (omega arith), (inl (omega arith), (inl (omega arith), (inl (omega arith), (inl (omega arith), tt))))), ((inl (omega arith), (inl (omega arith), (inl (omega arith), (inl (omega arith), tt)))), ((inl (omega arith), (inl (omega arith), (inl (omega arith), tt))), ((inr (refl, omega arith), (inl (omega arith), tt)), ((inl (omega arith), tt), (tt, tt)))))))));
}

abbrev events : List WorldEvent
events = PostEvent 0 a ∷ Deliver 1 ∷ Deliver 2 ∷ TickEvent 257 ∷ Deliver 3 ∷ Deliver 4 ∷ CrashEvent 257 ∷ Deliver 5 ∷ PeekEvent 0 6 0 1 ∷ []

become : AreEventsOf (IsNumber (sent_by merged)) merged events
become = (
  refl,
  (
    record { number = 1; numbered = refl; is = refl },
    (
      record { number = 2; numbered = refl; is = refl },
      (
        refl,
        (
          record { number = 3; numbered = refl; is = refl },
          (
            record { number = 4; numbered = refl; is = refl },
            (
              refl,
              (
                record { number = 5; numbered = refl; is = refl },
                (record { claim = from_to 264 BOARD 6 (Claim 1); by = refl; at = refl; says = refl; number = 6; numbered = refl; is = refl }, tt),
              ),
            ),
          ),
        ),
      ),
    ),
  ),
)

-- the law on this list
pub worked : IsLived shape diaries merged events
worked = lived shape diaries are closed merged in_order events become

pub worked_history : (run events (first_world shape)).history ≡ Invoke id a ∷ Acked id ∷ Seen 0 0 (id ∷ []) ∷ []
worked_history = refl
