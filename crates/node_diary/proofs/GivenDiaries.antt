-- Whoever saw to it that a node was fed what a run gives to it has a well-formed diary of it.
use Rattle.std.proofs.Common.{◌≡◌, ◌<◌, ℕ, List, [], ◌∷◌, Option, Some, None, refl, ap, ◌∙◌, subst}
use Rattle.std.specs.Prelude.{length, slice_get}
use Rattle.std.specs.Option.{option_map}
use Rattle.list_facts.specs.Lists.{Each}
use Rattle.view_config.specs.Shape.{Dimensions, IsShape, node_of}
use Rattle.view_config.specs.declared.edition.Edition.{Edition}
use Rattle.view_config.specs.declared.edition.Edition.TheVariants.{One, Two}
use Rattle.view_config.specs.declared.nodes.Node.{Node}
use Rattle.view_config.specs.declared.nodes.Node.TheVariants.{Client as ClientRole, Controller, Seq as SeqRole, Shard as ShardRole}
use Rattle.lazy_msgs.specs.declared.diary.DiaryEntry.{DiaryEntry}
use Rattle.lazy_msgs.specs.declared.input.Input.{Input}
use Rattle.lazy_msgs.specs.declared.input.Input.TheVariants.{Take, Tick, Grace, Crash, Post, Ask, Trim, Suspect, Peek}
use Rattle.lazy_rules.specs.ClientNode.{ClientNode}
use Rattle.lazy_rules.specs.ControlState.{ControlState}
use Rattle.lazy_rules.specs.ClientRules.{post_refusal}
use Rattle.lazy_rules.specs.ControlRules.{suspect_refusal}
use Rattle.lazy_rules.specs.ReaderRules.{begin_refusal, trim_refusal}
use Rattle.lazy_rules.specs.SeqState.{SeqState}
use Rattle.lazy_rules.specs.ShardState.{ShardState}
use Rattle.lazy_rules.specs.WorldRules.{client_node}
use Rattle.lazy_rules.specs.WorldState.{first_world, shard_place}
use Rattle.world_facts.proofs.ClientTurns.{node_reader_shape, reads_of}
use Rattle.world_facts.proofs.Forming.{first_formed}
use Rattle.world_facts.specs.Turns.{time_in}
use Rattle.diary_laws.specs.Formed.{Follows, IsFormed, IsReceived}
use Rattle.diary_laws.specs.Nodes.{NodeAllows, NodeState, OfClient, OfControl, OfSeq, OfShard, node_step, nodes_of_shape, state_of}
use Rattle.node_diary.specs.declared.refused.FeedRefused.TheVariants.{Post as PostSo, Begin as BeginSo, Suspect as SuspectSo, Trim as TrimSo}
use Rattle.node_diary.specs.Fed.{AreFed, IsFedIn}
use Rattle.node_diary.specs.Feeding.{Diarist}
use Rattle.node_diary.specs.Given.{CrashIsLast, IsForRole, IsGivenAll, IsGivenTo, IsMailFor, diary_of}
use Rattle.node_diary.specs.Refusals.{own_refusal, trim_refusal_in}
use Rattle.node_diary.specs.States.{law_state}

none_inside : {A B : Type 0} (f : A → B) (o : Option A) → option_map f o ≡ None → o ≡ None
none_inside f None h = refl
none_inside f (Some x) h = cc

receipt : (me now : ℕ) (input : Input) → IsMailFor me input → time_in input < now → IsReceived me now input
receipt me now (Take envelope) mail older = record { own = mail.0; older = older; mail = mail.1 }
receipt me now _ mail older = tt

module _ (shape : Dimensions) where
  -- the state is one of this role
  abbrev HasRole : Option Node → NodeState → Type 0
  HasRole (Some (ClientRole c)) (OfClient n) = n.reads.shape ≡ shape
  HasRole (Some Controller) (OfControl k) = Unit {0}
  HasRole (Some (SeqRole i)) (OfSeq s) = Unit {0}
  HasRole (Some (ShardRole i j)) (OfShard s) = Unit {0}
  HasRole _ _ = ⊥

  role_kept : (role : Option Node) (s : NodeState) (input : Input) → HasRole role s → HasRole role (node_step s input).next
  role_kept (Some (ClientRole c)) (OfClient n) input h = node_reader_shape n input ∙ h
  role_kept (Some Controller) (OfControl k) input h = tt
  role_kept (Some (SeqRole i)) (OfSeq s) input h = tt
  role_kept (Some (ShardRole i j)) (OfShard s) input h = tt
  role_kept _ _ input h = absurd h

  trim_allowed : (edition : Edition) (n : ClientNode) (floor : ℕ) → edition ≡ Two → trim_refusal_in edition n.reads floor ≡ None → trim_refusal n.reads floor ≡ None
  trim_allowed One n floor two none = cc
  trim_allowed Two n floor two none = none_inside TrimSo (trim_refusal n.reads floor) none

  client_allows : (c : ℕ) (n : ClientNode) (input : Input) → n.reads.shape ≡ shape → IsForRole shape (Some (ClientRole c)) input → own_refusal (OfClient n) input ≡ None → NodeAllows shape (OfClient n) input
  client_allows c n (Post bytes) own due none = none_inside PostSo (post_refusal n.appends (length bytes)) none
  client_allows c n (Ask ask) own due none = none_inside BeginSo (begin_refusal n.reads ask) none
  client_allows c n (Trim floor) own due none = (due, trim_allowed n.reads.shape.edition n floor (ap (λ (d : Dimensions). d.edition) own ∙ due) none)
  client_allows c n (Suspect node) own due none = absurd due
  client_allows c n (Take envelope) own due none = tt
  client_allows c n Tick own due none = tt
  client_allows c n Grace own due none = tt
  client_allows c n Crash own due none = tt
  client_allows c n (Peek stable time replica from ids) own due none = tt

  control_allows : (k : ControlState) (input : Input) → IsForRole shape (Some Controller) input → own_refusal (OfControl k) input ≡ None → NodeAllows shape (OfControl k) input
  control_allows k (Take envelope) due none = tt
  control_allows k Tick due none = tt
  control_allows k Grace due none = tt
  control_allows k (Suspect node) due none = (due, none_inside SuspectSo (suspect_refusal k node) none)
  control_allows k Crash due none = absurd due
  control_allows k (Post bytes) due none = absurd due
  control_allows k (Ask ask) due none = absurd due
  control_allows k (Trim floor) due none = absurd due
  control_allows k (Peek stable time replica from ids) due none = absurd due

  allows : (role : Option Node) (s : NodeState) (input : Input) → HasRole role s → IsForRole shape role input → own_refusal s input ≡ None → NodeAllows shape s input
  allows (Some (ClientRole c)) (OfClient n) input own due none = client_allows c n input own due none
  allows (Some Controller) (OfControl k) input own due none = control_allows k input due none
  allows (Some (SeqRole i)) (OfSeq s) input own due none = due
  allows (Some (ShardRole i j)) (OfShard s) input own due none = due
  allows _ _ input own due none = absurd own

  follows : (me last : ℕ) (s : NodeState) (entries : List DiaryEntry) → HasRole (node_of shape me) s → AreFed last s entries → Each (IsGivenTo shape me) entries → CrashIsLast entries → Follows (nodes_of_shape shape) me last s entries
  follows me last s [] role fed given crash = tt
  follows me last s (entry ∷ entries) role fed given crash = (
    record {
      later = fed.0.later;
      early = fed.0.early;
      received = receipt me entry.time entry.input given.0.mail fed.0.older;
      allowed = allows (node_of shape me) s entry.input role given.0.role fed.0.allowed;
      sends = fed.0.sends;
    },
    crash.0,
    follows me entry.time (node_step s entry.input).next entries (role_kept (node_of shape me) s entry.input role) fed.1 given.1 crash.1,
  )

  -- the first states
  first_client_role : (c : ℕ) (o : Option ClientNode) → client_node (first_world shape) c ≡ o → IsShape shape → (s : NodeState) → option_map OfClient o ≡ Some s → HasRole (Some (ClientRole c)) s
  first_client_role c None here formed s is = cc
  first_client_role c (Some n) here formed s is =
      let same : OfClient n ≡ s = cc in
      subst (HasRole (Some (ClientRole c))) same ((first_formed shape).readers_shaped c n.reads (reads_of (first_world shape) c n here))

  first_seq_role : (i : ℕ) (o : Option SeqState) (s : NodeState) → option_map OfSeq o ≡ Some s → HasRole (Some (SeqRole i)) s
  first_seq_role i None s is = cc
  first_seq_role i (Some x) s is = let same : OfSeq x ≡ s = cc in subst (HasRole (Some (SeqRole i))) same tt

  first_shard_role : (i j : ℕ) (o : Option ShardState) (s : NodeState) → option_map OfShard o ≡ Some s → HasRole (Some (ShardRole i j)) s
  first_shard_role i j None s is = cc
  first_shard_role i j (Some x) s is = let same : OfShard x ≡ s = cc in subst (HasRole (Some (ShardRole i j))) same tt

  first_role : IsShape shape → (role : Option Node) (s : NodeState) → state_of (first_world shape) role ≡ Some s → HasRole role s
  first_role formed (Some (ClientRole c)) s is = first_client_role c (client_node (first_world shape) c) refl formed s is
  first_role formed (Some Controller) s is = let same : OfControl (first_world shape).control ≡ s = cc in subst (HasRole (Some Controller)) same tt
  first_role formed (Some (SeqRole i)) s is = first_seq_role i (slice_get (first_world shape).seqs i) s is
  first_role formed (Some (ShardRole i j)) s is = first_shard_role i j (slice_get (first_world shape).shards (shard_place shape i j)) s is
  first_role formed None s is = cc

  pub formed_of : (d : Diarist) → IsFedIn shape d → IsGivenAll shape d → IsFormed (nodes_of_shape shape) (diary_of d)
  formed_of d h given = record {
    start = law_state h.start;
    first = h.begins.first;
    follows = follows d.node 0 (law_state h.start) d.entries (first_role h.begins.formed (node_of shape d.node) (law_state h.start) h.begins.first) h.entries given.each given.last;
  }
