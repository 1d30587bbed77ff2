use Rattle.lazy_rules.specs.SeqState.{SeqState}
use Rattle.seq_node.specs.declared.node.SeqNode.TheInside.{Inside}
use Rattle.seq_node.specs.Kept.{IsKept}

-- a sequencing replica as the rules see it
abbrev pub seq_of : Inside → SeqState
seq_of a = record {
  shape = a.shape;
  node = a.node;
  view = a.view;
  config = a.config;
  sealed = a.sealed;
  barred = a.barred;
  bound = a.bound;
  window = a.window;
  pending = a.pending.items;
  flight = a.binder.flight;
  probes = a.binder.probes;
}

abbrev pub IsSeqNode : Inside → Type 0
IsSeqNode a = IsKept (seq_of a) a.pending.capacity a.binder.shards a.binder.followers
