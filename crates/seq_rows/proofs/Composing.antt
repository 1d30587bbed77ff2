-- One part of a row and then another that goes on from the state that the first one leaves.
use Rattle.std.proofs.Common.{◌≡◌, ℕ, List, ◌++◌, Bool, true, false, cond, eqb, refl, ap, subst}
use Rattle.std.proofs.Math.Path.{fun_ext}
use Rattle.list_facts.specs.Lists.{put}
use Rattle.list_facts.proofs.Members.{each_append, each_weaker}
use Rattle.list_facts.proofs.Puts.{put_cases, put_own}
use Rattle.view_config.specs.Shape.{Dimensions}
use Rattle.lazy_msgs.specs.Step.{Row}
use Rattle.lazy_msgs.specs.declared.msg.Msg.{Msg}
use Rattle.lazy_rules.specs.Rows.{followed}
use Rattle.lazy_rules.specs.SeqState.{SeqState}
use Rattle.log_facts.specs.Ghosts.{Ghost}
use Rattle.log_facts.specs.Good.{Good, GoodSeq, Moment}
use Rattle.log_facts.specs.Parts.{Formed, Parts, SeqFormed, with_seq}
use Rattle.log_facts.specs.Said.{Said}

-- the later one of two changes counts
put_twice : {A : Type 0} (f : ℕ → A) (me : ℕ) (x y : A) → put (put f me x) me y ≡ put f me y
put_twice f me x y = fun_ext (λ n. by n (eqb n me))
  where
    by : (n : ℕ) (b : Bool) → cond b y (cond b x (f n)) ≡ cond b y (f n)
    by n true = refl
    by n false = refl

pub seq_twice : (a : Parts) (me : ℕ) (s t : SeqState) → with_seq (with_seq a me s) me t ≡ with_seq a me t
seq_twice a me s t = ap (λ (seqs : ℕ → SeqState). record a { seqs = seqs }) (put_twice a.seqs me s t)

module _ (shape : Dimensions) (g : Ghost) (a : Parts) (me : ℕ) where
  -- where a step ended the next one begins
  pub formed_then : Formed shape a → (t : SeqState) → SeqFormed shape me t → Formed shape (with_seq a me t)
  formed_then formed t own = record {
    clients = formed.clients;
    readers = formed.readers;
    control = formed.control;
    seqs = put_cases (λ (node : ℕ) (s : SeqState). SeqFormed shape node s) a.seqs me t own (λ node other. formed.seqs node);
    shards = formed.shards;
  }

  pub moment_then : (moment : Moment shape g a) (row : Row SeqState) → SeqFormed shape me row.next → (one : GoodSeq shape g a me row) → Moment shape one.ghost (with_seq a me row.next)
  moment_then moment row own one = record { is_shape = moment.is_shape; formed = formed_then moment.formed row.next own; agreed = one.agreed }

  good_then : (mid after : Parts) (first second : List (ℕ × Msg)) (one : Good shape g a me mid first) → Good shape one.ghost mid me after second → Good shape g a me after (first ++ second)
  good_then mid after first second one two = record {
    ghost = two.ghost;
    agreed = two.agreed;
    lifts = λ node to msg said. two.lifts node to msg (one.lifts node to msg said);
    said = each_append (λ (send : ℕ × Msg). Said shape two.ghost after me send.0 send.1) first second
        (each_weaker (λ (send : ℕ × Msg). Said shape one.ghost mid me send.0 send.1) (λ (send : ℕ × Msg). Said shape two.ghost after me send.0 send.1) (λ send. two.lifts me send.0 send.1) first one.said)
        two.said;
  }

  -- two good parts of a row make a good one
  pub followed_good : (first : Row SeqState) (more : SeqState → Row SeqState) (one : GoodSeq shape g a me first) →
      GoodSeq shape one.ghost (with_seq a me first.next) me (more ((with_seq a me first.next).seqs me)) → GoodSeq shape g a me (followed first more)
  followed_good first more one two =
      let second : GoodSeq shape one.ghost (with_seq a me first.next) me (more first.next) = subst (λ (s : SeqState). GoodSeq shape one.ghost (with_seq a me first.next) me (more s)) (put_own a.seqs me first.next) two in
      good_then (with_seq a me first.next) (with_seq a me (more first.next).next) first.sends (more first.next).sends one
      (subst (λ (b : Parts). Good shape one.ghost (with_seq a me first.next) me b (more first.next).sends) (seq_twice a me first.next (more first.next).next) second)
