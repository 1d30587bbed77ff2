-- Parts of a row make up the row: each is good where the part before it left off.
use Rattle.std.proofs.Common.{◌≡◌, ℕ, List, ◌++◌, Bool, true, false, refl, ◌∙◌, ap, subst}
use Rattle.std.proofs.Math.Path.{fun_ext}
use Rattle.std.specs.Prelude.{◌==◌, if◌then◌else◌}
use Rattle.list_facts.specs.Lists.{Each, put}
use Rattle.list_facts.proofs.Members.{each_append, each_weaker}
use Rattle.list_facts.proofs.Puts.{put_cases, put_own}
use Rattle.view_config.specs.Shape.{Dimensions}
use Rattle.lazy_msgs.specs.Step.{Row}
use Rattle.lazy_msgs.specs.declared.msg.Msg.{Msg}
use Rattle.lazy_rules.specs.Rows.{followed}
use Rattle.lazy_rules.specs.ShardState.{ShardState}
use Rattle.log_facts.specs.Agreed.{Agreed}
use Rattle.log_facts.specs.Ghosts.{Ghost}
use Rattle.log_facts.specs.Good.{Good, GoodShard, Moment}
use Rattle.log_facts.specs.Parts.{Formed, Parts, ShardFormed, with_shard}
use Rattle.log_facts.specs.Said.{Said}

-- the second of two values at one number stays
put_twice : {A : Type 0} (f : ℕ → A) (me : ℕ) (x y : A) → put (put f me x) me y ≡ put f me y
put_twice f me x y = fun_ext (λ n. by n (n == me))
  where
    by : (n : ℕ) (b : Bool) → (if b then y else (if b then x else f n)) ≡ (if b then y else f n)
    by n true = refl
    by n false = refl

-- a part of a row that leaves the view, the rank and the store, and what is known of the views and the log; and what it
-- leaves is formed
pub record Part (shape : Dimensions) (g : Ghost) (a : Parts) (me : ℕ) (row : Row ShardState) : Type 0 where
  pub agreed : Agreed shape g (with_shard a me row.next)
  pub lifts : (node to : ℕ) (msg : Msg) → Said shape g a node to msg → Said shape g (with_shard a me row.next) node to msg
  pub said : Each (λ (send : ℕ × Msg). Said shape g (with_shard a me row.next) me send.0 send.1) row.sends
  pub formed : ShardFormed shape me row.next
  pub view : row.next.view ≡ (a.shards me).view
  pub primary : row.next.primary ≡ (a.shards me).primary
  pub store : row.next.store ≡ (a.shards me).store

pub part_good : (shape : Dimensions) (g : Ghost) (a : Parts) (me : ℕ) (row : Row ShardState) → Part shape g a me row → GoodShard shape g a me row
part_good shape g a me row part = record { ghost = g; agreed = part.agreed; lifts = part.lifts; said = part.said }

same_after : (a : Parts) (me : ℕ) (first next : ShardState) → with_shard (with_shard a me first) me next ≡ with_shard a me next
same_after a me first next = ap (λ (f : ℕ → ShardState). record a { shards = f }) (put_twice a.shards me first next)

-- what is formed stays so with a replica that is
formed_between : (shape : Dimensions) (g : Ghost) (a : Parts) (me : ℕ) → Moment shape g a → (first : Row ShardState) → ShardFormed shape me first.next → Formed shape (with_shard a me first.next)
formed_between shape g a me moment first formed = record {
  clients = moment.formed.clients;
  readers = moment.formed.readers;
  control = moment.formed.control;
  seqs = moment.formed.seqs;
  shards = put_cases (λ (n : ℕ) (x : ShardState). ShardFormed shape n x) a.shards me first.next formed (λ n other. moment.formed.shards n);
}

module _ (shape : Dimensions) (g : Ghost) (a : Parts) (me : ℕ) (moment : Moment shape g a) (first : Row ShardState) (good : GoodShard shape g a me first) (formed : ShardFormed shape me first.next) where
  -- the world where the second part begins
  abbrev pub between : Parts
  between = with_shard a me first.next

  pub moment_between : Moment shape good.ghost between
  moment_between = record {
    is_shape = moment.is_shape;
    formed = formed_between shape g a me moment first formed;
    agreed = good.agreed;
  }

  pub own_between : between.shards me ≡ first.next
  own_between = put_own a.shards me first.next

  module _ (next : ShardState) (sends : List (ℕ × Msg)) (second : Good shape good.ghost between me (with_shard between me next) sends) where
    both : Good shape g a me (with_shard between me next) (first.sends ++ sends)
    both = record {
      ghost = second.ghost;
      agreed = second.agreed;
      lifts = λ node to msg said. second.lifts node to msg (good.lifts node to msg said);
      said = each_append (λ (send : ℕ × Msg). Said shape second.ghost (with_shard between me next) me send.0 send.1) first.sends sends
          (each_weaker (λ (send : ℕ × Msg). Said shape good.ghost between me send.0 send.1) (λ (send : ℕ × Msg). Said shape second.ghost (with_shard between me next) me send.0 send.1)
          (λ send said. second.lifts me send.0 send.1 said) first.sends good.said)
          second.said;
    }

    pub joined_good : Good shape g a me (with_shard a me next) (first.sends ++ sends)
    joined_good = subst (λ (b : Parts). Good shape g a me b (first.sends ++ sends)) (same_after a me first.next next) both

  -- the second part begins with what the first one left
  pub followed_good :
      (more : ShardState → Row ShardState) →
      ((h : Ghost) (b : Parts) → Moment shape h b → b.shards me ≡ first.next → GoodShard shape h b me (more (b.shards me))) →
      GoodShard shape g a me (followed first more)
  followed_good more second =
      joined_good (more first.next).next (more first.next).sends
      (subst (λ (x : ShardState). Good shape good.ghost between me (with_shard between me (more x).next) (more x).sends) own_between (second good.ghost between moment_between own_between))

module _ (shape : Dimensions) (g : Ghost) (a : Parts) (me : ℕ) (moment : Moment shape g a) (first : Row ShardState) (part : Part shape g a me first) where
  pub followed_part :
      (more : ShardState → Row ShardState) →
      ((b : Parts) → Moment shape g b → b.shards me ≡ first.next → Part shape g b me (more (b.shards me))) →
      Part shape g a me (followed first more)
  followed_part more second =
      let good : GoodShard shape g a me first = part_good shape g a me first part in
      let middle : Parts = with_shard a me first.next in
      let own : middle.shards me ≡ first.next = put_own a.shards me first.next in
      let begins : Moment shape g middle = record {
        is_shape = moment.is_shape;
        formed = formed_between shape g a me moment first part.formed;
        agreed = part.agreed;
      } in
      let next : Part shape g middle me (more first.next) = subst (λ (x : ShardState). Part shape g middle me (more x)) own (second middle begins own) in
      let sends : List (ℕ × Msg) = first.sends ++ (more first.next).sends in
      let same : with_shard middle me (more first.next).next ≡ with_shard a me (more first.next).next = same_after a me first.next (more first.next).next in
      let lifts : (node to : ℕ) (msg : Msg) → Said shape g a node to msg → Said shape g (with_shard middle me (more first.next).next) node to msg = λ node to msg said. next.lifts node to msg (part.lifts node to msg said) in
      let said : Each (λ (send : ℕ × Msg). Said shape g (with_shard middle me (more first.next).next) me send.0 send.1) sends =
      each_append (λ (send : ℕ × Msg). Said shape g (with_shard middle me (more first.next).next) me send.0 send.1) first.sends (more first.next).sends
      (each_weaker (λ (send : ℕ × Msg). Said shape g middle me send.0 send.1) (λ (send : ℕ × Msg). Said shape g (with_shard middle me (more first.next).next) me send.0 send.1)
      (λ send said. next.lifts me send.0 send.1 said) first.sends part.said)
      next.said in
      record {
        agreed = subst (Agreed shape g) same next.agreed;
        lifts = subst (λ (b : Parts). (node to : ℕ) (msg : Msg) → Said shape g a node to msg → Said shape g b node to msg) same lifts;
        said = subst (λ (b : Parts). Each (λ (send : ℕ × Msg). Said shape g b me send.0 send.1) sends) same said;
        formed = next.formed;
        view = next.view ∙ ap (λ (x : ShardState). x.view) own ∙ part.view;
        primary = next.primary ∙ ap (λ (x : ShardState). x.primary) own ∙ part.primary;
        store = next.store ∙ ap (λ (x : ShardState). x.store) own ∙ part.store;
      }
