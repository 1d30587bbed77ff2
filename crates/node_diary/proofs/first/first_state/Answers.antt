use Rattle.std.proofs.Common.{◌≡◌, Some}
use Rattle.view_config.specs.Shape.{node_of}
use Rattle.view_config.specs.declared.nodes.Node.TheVariants.{Client as ClientRole, Seq as SeqRole, Shard as ShardRole}
use Rattle.lazy_core.specs.declared.node_state.NodeState.TheVariants.{Client, Seq, Shard}
use Rattle.node_diary.specs.States.{first_of}
use Rattle.node_diary.proofs.FirstStates.{begun}
use Rattle.node_diary.proofs.first.first_state.Goals as goal

pub returns-in_ok-new-in-Some-Client-clause-begins : goal.returns-in_ok-new-in-Some-Client-clause-begins
returns-in_ok-new-in-Some-Client-clause-begins c =
    let at : node_of c.args.shape.now c.args.number ≡ Some (ClientRole c.in-Some-Client.c) = cc (c.in-Some-Client.ensures.node) in
    let is : Client c.in_ok-appends-in-Some-Client.appends c.in_ok-new-in-Some-Client.field-0 ≡ first_of c.args.shape.now (Some (ClientRole c.in-Some-Client.c)) = cc (c.in_ok-appends-in-Some-Client.ensures, c.in_ok-new-in-Some-Client.ensures) in
    begun c.args.shape.now c.in-Some-Client.ensures.valid c.args.number (ClientRole c.in-Some-Client.c) at (Client c.in_ok-appends-in-Some-Client.appends c.in_ok-new-in-Some-Client.field-0) is

pub returns-in_ok-new-in-Some-Seq-clause-begins : goal.returns-in_ok-new-in-Some-Seq-clause-begins
returns-in_ok-new-in-Some-Seq-clause-begins c =
    let at : node_of c.args.shape.now c.args.number ≡ Some (SeqRole c.in-Some-Seq.i) = cc (c.in-Some-Seq.ensures.node) in
    let is : Seq c.in_ok-new-in-Some-Seq.field-0 ≡ first_of c.args.shape.now (Some (SeqRole c.in-Some-Seq.i)) = cc (c.in_ok-new-in-Some-Seq.ensures) in
    begun c.args.shape.now c.in-Some-Seq.ensures.valid c.args.number (SeqRole c.in-Some-Seq.i) at (Seq c.in_ok-new-in-Some-Seq.field-0) is

pub returns-in_ok-new-in-Some-Shard-clause-begins : goal.returns-in_ok-new-in-Some-Shard-clause-begins
returns-in_ok-new-in-Some-Shard-clause-begins c =
    let at : node_of c.args.shape.now c.args.number ≡ Some (ShardRole c.in-Some-Shard.i c.in-Some-Shard.j) = cc (c.in-Some-Shard.ensures.node) in
    let is : Shard c.in_ok-new-in-Some-Shard.field-0 ≡ first_of c.args.shape.now (Some (ShardRole c.in-Some-Shard.i c.in-Some-Shard.j)) = cc (c.in_ok-new-in-Some-Shard.ensures) in
    begun c.args.shape.now c.in-Some-Shard.ensures.valid c.args.number (ShardRole c.in-Some-Shard.i c.in-Some-Shard.j) at (Shard c.in_ok-new-in-Some-Shard.field-0) is
