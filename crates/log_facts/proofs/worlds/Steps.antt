-- Good steps: what they come to, one after the other and in a world.
use Rattle.std.proofs.Common.{◌≡◌, ℕ, List, [], ◌++◌, sym, subst, append-nil}
use Rattle.list_facts.specs.Lists.{Each, put}
use Rattle.list_facts.proofs.Members.{each_append, each_map, each_weaker}
use Rattle.list_facts.proofs.Puts.{put_same}
use Rattle.rec_id.specs.declared.event.Event.{Event}
use Rattle.view_config.specs.Shape.{Dimensions}
use Rattle.view_config.specs.declared.nodes.TheConstants.{CONTROLLER}
use Rattle.lazy_msgs.specs.declared.msg.Envelope.{Envelope}
use Rattle.lazy_msgs.specs.declared.msg.Msg.{Msg}
use Rattle.lazy_rules.specs.ClientState.{ClientState}
use Rattle.lazy_rules.specs.ReaderState.{ReaderState}
use Rattle.lazy_rules.specs.Rows.{stays}
use Rattle.lazy_rules.specs.SeqState.{SeqState}
use Rattle.lazy_rules.specs.ShardState.{ShardState}
use Rattle.lazy_rules.specs.WorldRules.{enveloped}
use Rattle.lazy_rules.specs.WorldState.{WorldState}
use Rattle.log_facts.specs.Agreed.{Agreed, Holds, Kept}
use Rattle.log_facts.specs.Ghosts.{Ghost}
use Rattle.log_facts.specs.Good.{Good, GoodClient, GoodControl, GoodReader, GoodSeq, GoodShard}
use Rattle.log_facts.specs.Parts.{Parts, parts_of}
use Rattle.log_facts.specs.Said.{Said}

module _ (shape : Dimensions) (g : Ghost) (a : Parts) where
  -- a step that changes nothing and sends nothing
  pub good_same : (agreed : Agreed shape g a) (me : ℕ) → Good shape g a me a []
  good_same agreed me = record { ghost = g; agreed = agreed; lifts = λ node to msg h. h; said = tt }

  module _ (agreed : Agreed shape g a) where
    pub good_seq_stays : (me : ℕ) → GoodSeq shape g a me (stays (a.seqs me))
    good_seq_stays me = subst (λ (seqs : ℕ → SeqState). Good shape g a me (record a { seqs = seqs }) []) (sym (put_same a.seqs me)) (good_same agreed me)

    pub good_shard_stays : (me : ℕ) → GoodShard shape g a me (stays (a.shards me))
    good_shard_stays me = subst (λ (shards : ℕ → ShardState). Good shape g a me (record a { shards = shards }) []) (sym (put_same a.shards me)) (good_same agreed me)

    pub good_control_stays : GoodControl shape g a (stays a.control)
    good_control_stays = good_same agreed CONTROLLER

    told_nothing : a.history ++ [] ≡ a.history
    told_nothing = append-nil a.history

    pub good_client_stays : (c : ℕ) → GoodClient shape g a c (stays (a.clients c))
    good_client_stays c =
        subst (λ (history : List Event). Good shape g a c (record a { clients = put a.clients c (a.clients c); history = history }) []) (sym told_nothing)
        (subst (λ (clients : ℕ → ClientState). Good shape g a c (record a { clients = clients }) []) (sym (put_same a.clients c)) (good_same agreed c))

    pub good_reader_stays : (c : ℕ) → GoodReader shape g a c (stays (a.readers c))
    good_reader_stays c =
        subst (λ (history : List Event). Good shape g a c (record a { readers = put a.readers c (a.readers c); history = history }) []) (sym told_nothing)
        (subst (λ (readers : ℕ → ReaderState). Good shape g a c (record a { readers = readers }) []) (sym (put_same a.readers c)) (good_same agreed c))

  -- a good step and then another one are one
  module _ (b c : Parts) (me : ℕ) (sends more : List (ℕ × Msg)) where
    pub good_then : (first : Good shape g a me b sends) → Good shape first.ghost b me c more → Good shape g a me c (sends ++ more)
    good_then first second = record {
      ghost = second.ghost;
      agreed = second.agreed;
      lifts = λ node to msg h. second.lifts node to msg (first.lifts node to msg h);
      said = each_append (λ (send : ℕ × Msg). Said shape second.ghost c me send.0 send.1) sends more
          (each_weaker (λ (send : ℕ × Msg). Said shape first.ghost b me send.0 send.1) (λ (send : ℕ × Msg). Said shape second.ghost c me send.0 send.1) (λ send h. second.lifts me send.0 send.1 h) sends first.said)
          second.said;
    }

-- what is kept of a world is kept by a good step
module _ (shape : Dimensions) (g : Ghost) (w next : WorldState) (holds : Holds shape g w) (me time : ℕ) (b : Parts) (sends : List (ℕ × Msg)) where
  pub kept_by : parts_of next ≡ b → next.sent ≡ w.sent ++ enveloped me time sends → Good shape g (parts_of w) me b sends → Kept shape next
  kept_by is sent good =
      record {
        ghost = good.ghost;
        holds = record {
          agreed = subst (Agreed shape good.ghost) (sym is) good.agreed;
          sent = subst (λ (x : Parts). Each (λ (e : Envelope). Said shape good.ghost x e.from e.to e.msg) next.sent) (sym is)
              (subst (λ (es : List Envelope). Each Says es) (sym sent)
              (each_append Says w.sent (enveloped me time sends)
              (each_weaker (λ (e : Envelope). Said shape g (parts_of w) e.from e.to e.msg) Says (λ e h. good.lifts e.from e.to e.msg h) w.sent holds.sent)
              (each_map (λ (send : ℕ × Msg). record { from = me; to = send.0; time = time; msg = send.1 }) Says sends good.said)));
        };
      }
    where
      Says : Envelope → Type 0
      Says e = Said shape good.ghost b e.from e.to e.msg
