-- Each message comes of a node.
use Rattle.std.proofs.Common.{◌≡◌, ℕ, ◌+◌, ◌<◌, List, [], ◌∷◌, true, Option, ap}
use Rattle.std.specs.Prelude.{not}
use Rattle.std.specs.Option.{is_none}
use Rattle.list_facts.specs.Lists.{Each}
use Rattle.view_config.specs.Nodes.{seq_id, shard_id}
use Rattle.view_config.specs.Shape.{Dimensions, IsShape}
use Rattle.view_config.specs.declared.nodes.Node.{Node}
use Rattle.view_config.specs.declared.nodes.TheConstants.{CONTROLLER}
use Rattle.lazy_msgs.specs.declared.input.Input.{Input}
use Rattle.lazy_msgs.specs.declared.msg.Msg.{Msg}
use Rattle.lazy_msgs.specs.Step.{Row}
use Rattle.lazy_rules.specs.ClientRules.{client_step}
use Rattle.lazy_rules.specs.ControlRules.{control_step}
use Rattle.lazy_rules.specs.ReaderRules.{reader_step}
use Rattle.lazy_rules.specs.SeqRules.{seq_step}
use Rattle.lazy_rules.specs.ShardRules.{shard_step}
use Rattle.lazy_rules.specs.Door.{is_node}
use Rattle.world_facts.specs.Forms.{HasSenders}
use Rattle.world_facts.proofs.Claims.{Claims, Cases, Keeps, nothing}
use Rattle.world_facts.proofs.Nodes.{client_node_of, control_node_of, seq_node_of, shard_node_at}
use Rattle.world_facts.proofs.Runs.{met_all, nothing_always, run_keeps}
use Rattle.world_facts.specs.Reached.{InEveryWorld}

abbrev pub senders : Dimensions → Claims
senders shape = record {
  client = λ n c s. Unit {0};
  reader = λ n c s. Unit {0};
  control = λ n s. Unit {0};
  seq = λ n i s. Unit {0};
  shard = λ n i j s. Unit {0};
  sent = λ n sender to msg. is_node shape sender ≡ true;
}

each_so : {A : Type 0} (P : Type 0) → P → (xs : List A) → Each (λ (x : A). P) xs
each_so P h [] = tt
each_so P h (x ∷ xs) = (h, each_so P h xs)

keeps_sender : {S : Type 0} (shape : Dimensions) (sender : ℕ) (row : Row S) → is_node shape sender ≡ true → Keeps (λ (s : S). Unit {0}) (λ (to : ℕ) (msg : Msg). is_node shape sender ≡ true) row
keeps_sender shape sender row h = record { next = tt; sends = each_so (is_node shape sender ≡ true) h row.sends }

module _ (shape : Dimensions) (formed : IsShape shape) where
  client_is_node : (c : ℕ) → c < shape.clients → is_node shape c ≡ true
  client_is_node c few = ap (λ (o : Option Node). not (is_none o)) (client_node_of shape formed c few)

  control_is_node : is_node shape CONTROLLER ≡ true
  control_is_node = ap (λ (o : Option Node). not (is_none o)) (control_node_of shape formed)

  seq_is_node : (i : ℕ) → i < shape.seq + shape.spares → is_node shape (seq_id i) ≡ true
  seq_is_node i few = ap (λ (o : Option Node). not (is_none o)) (seq_node_of shape formed i few)

  shard_is_node : (i j : ℕ) → i < shape.shards → j < shape.copies → is_node shape (shard_id i j) ≡ true
  shard_is_node i j few some = ap (λ (o : Option Node). not (is_none o)) (shard_node_at shape formed i j few some)

  cases : Cases shape (λ (input : Input). Unit {0}) nothing (senders shape)
  cases = record {
    lasting = record {
      client = λ n c s h. tt;
      reader = λ n c s h. tt;
      control = λ n s h. tt;
      seq = λ n i s h. tt;
      shard = λ n i j s h. tt;
      sent = λ n sender to msg h. h;
    };
    client = λ c few. record { first = tt; steps = λ n s input knew held given. keeps_sender shape c (client_step s input) (client_is_node c few) };
    reader = λ c few. record { first = tt; steps = λ n s input knew held given. keeps_sender shape c (reader_step s input) (client_is_node c few) };
    asking = λ n c few. client_is_node c few;
    control = record { first = tt; steps = λ n s input knew held given. keeps_sender shape CONTROLLER (control_step s input) control_is_node };
    seq = λ i few. record { first = tt; steps = λ n s input knew held given. keeps_sender shape (seq_id i) (seq_step s input) (seq_is_node i few) };
    shard = λ i j few some. record { first = tt; steps = λ n s input knew held given. keeps_sender shape (shard_id i j) (shard_step s input) (shard_is_node i j few some) };
  }

pub senders_of_run : InEveryWorld HasSenders
senders_of_run shape events formed =
    let always = run_keeps shape formed (λ (input : Input). Unit {0}) nothing (senders shape) (cases shape formed) (nothing_always shape (λ (input : Input). Unit {0})) in
    let holds = always.holds events (met_all events) in
    record { from_nodes = holds.sent }
