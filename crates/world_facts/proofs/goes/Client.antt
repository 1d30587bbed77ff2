-- What a client's appends send, and to whom.
use Rattle.std.proofs.Common.{◌≡◌, ℕ, ◌<◌, List, [], refl, ◌∙◌, sym, subst, take}
use Rattle.std.specs.Prelude.{not}
use Rattle.list_facts.specs.Lists.{Each}
use Rattle.list_facts.proofs.Cases.{either, some_or_none}
use Rattle.list_facts.proofs.Members.{each_append, each_map, each_weaker}
use Rattle.rec_id.specs.Identity.{Identity, shard_of}
use Rattle.view_config.specs.Shape.{Dimensions}
use Rattle.view_config.specs.declared.config.Config.{Config}
use Rattle.view_config.specs.declared.edition.Mode.{Mode}
use Rattle.view_config.specs.declared.edition.Mode.TheVariants.{M, St}
use Rattle.lazy_msgs.specs.declared.input.Input.{Input}
use Rattle.lazy_msgs.specs.declared.input.Input.TheVariants.{Take, Tick, Post}
use Rattle.lazy_msgs.specs.declared.msg.Msg.{Msg}
use Rattle.lazy_msgs.specs.declared.msg.Msg.TheVariants.{Append, AppendAck, Put, DataAck, Rejected, ViewIs}
use Rattle.lazy_msgs.specs.Step.{Row}
use Rattle.lazy_rules.specs.ClientRules.{carried, data_nodes, homes_of, lacking, sending, sending_data, sending_record, sending_each, begun, invokes, on_client_tick, on_post, in_config, client_row, client_took, client_step}
use Rattle.lazy_rules.specs.ClientState.{ClientState, OpenAppend, id_of}
use Rattle.lazy_rules.specs.Door.{is_turned_away}
use Rattle.lazy_rules.specs.Rows.{stays, has_node}
use Rattle.lazy_rules.specs.declared.limits.TheConstants.{RESENT_LIMIT}
use Rattle.world_facts.specs.MembersOf.{ClientOf}
use Rattle.world_facts.specs.Members.{IsNamed, IsSeqNode, IsShardNode, Goes}
use Rattle.world_facts.proofs.Claims.{Keeps}
use Rattle.world_facts.proofs.goes.Sends.{any, each_filter, each_flat_map, homes_named, GivenTo}

module _ (shape : Dimensions) (c : ℕ) (few : c < shape.clients) where
  abbrev Kept : Row ClientState → Type 0
  Kept = Keeps (ClientOf shape c) (Goes shape c)

  abbrev Sent : List (ℕ × Msg) → Type 0
  Sent sends = Each (λ (send : ℕ × Msg). Goes shape c send.0 send.1) sends

  module _ (s : ClientState) (ok : ClientOf shape c s) where
    -- a client that differs in its bookkeeping alone
    quiet : (row : Row ClientState) → row.next.shape ≡ s.shape → row.next.client ≡ s.client → row.next.config ≡ s.config → row.sends ≡ [] → Kept row
    quiet row a b e none = record {
      next = record { shaped = a ∙ ok.shaped; numbered = b ∙ ok.numbered; config = subst (IsNamed shape) (sym e) ok.config };
      sends = subst Sent (sym none) tt;
    }

    stores : (mode : Mode) (id : Identity) → Each (IsShardNode shape) (data_nodes mode (homes_of s id))
    stores M id = tt
    stores St id = homes_named shape s.config ok.config (shard_of id s.shape.shards)

    sent_data : (append : OpenAppend) → Sent (sending_data s append)
    sent_data append =
        each_map (λ (node : ℕ). (node, Put (id_of s append.number) append.bytes)) (λ (send : ℕ × Msg). Goes shape c send.0 send.1) (lacking append (data_nodes s.shape.mode (homes_of s (id_of s append.number))))
        (each_weaker (IsShardNode shape) (λ (node : ℕ). Goes shape c node (Put (id_of s append.number) append.bytes)) (λ node h. (few, h, ok.numbered)) (lacking append (data_nodes s.shape.mode (homes_of s (id_of s append.number))))
        (each_filter (IsShardNode shape) (λ (node : ℕ). not (has_node append.acked node)) (data_nodes s.shape.mode (homes_of s (id_of s append.number))) (stores s.shape.mode (id_of s append.number))))

    sent_record : (append : OpenAppend) → Sent (sending_record s append)
    sent_record append =
        each_map (λ (node : ℕ). (node, Append s.config.view (id_of s append.number) (carried s.shape.mode append.bytes))) (λ (send : ℕ × Msg). Goes shape c send.0 send.1) (lacking append s.config.seq)
        (each_weaker (IsSeqNode shape) (λ (node : ℕ). Goes shape c node (Append s.config.view (id_of s append.number) (carried s.shape.mode append.bytes))) (λ node h. (few, h, ok.numbered)) (lacking append s.config.seq)
        (each_filter (IsSeqNode shape) (λ (node : ℕ). not (has_node append.acked node)) s.config.seq ok.config.seq))

    sent_append : (append : OpenAppend) → Sent (sending s append)
    sent_append append = each_append (λ (send : ℕ × Msg). Goes shape c send.0 send.1) (sending_data s append) (sending_record s append) (sent_data append) (sent_record append)

    sent_each : (appends : List OpenAppend) → Kept (sending_each s appends)
    sent_each appends = record {
      next = ok;
      sends = each_flat_map (λ (send : ℕ × Msg). Goes shape c send.0 send.1) (sending s) (λ (append : OpenAppend). Unit {0}) (λ append h. sent_append append) appends (any appends);
    }

    begins : (bytes : List ℕ) → Kept (invokes s bytes)
    begins bytes = record {
      next = record { shaped = ok.shaped; numbered = ok.numbered; config = ok.config };
      sends = sent_append (begun s bytes);
    }

    pub posts : (bytes : List ℕ) → Kept (on_post s bytes)
    posts bytes = search (either Kept, begins bytes, quiet) depth 12

  module _ (s : ClientState) (ok : ClientOf shape c s) where
    moved : (config : Config) → IsNamed shape config → Kept (sending_each (in_config s config) (in_config s config).unfinished)
    moved config named = sent_each (in_config s config) (record { shaped = ok.shaped; numbered = ok.numbered; config = named }) (in_config s config).unfinished

    rows : (sender : ℕ) (msg : Msg) → Goes shape sender c msg → Kept (client_row s sender msg)
    rows sender (AppendAck view id) says = search (either Kept, some_or_none {A = ℕ} Kept, some_or_none {A = OpenAppend} Kept, quiet s ok) depth 14
    rows sender (DataAck view id) says = search (either Kept, some_or_none {A = ℕ} Kept, some_or_none {A = OpenAppend} Kept, quiet s ok) depth 14
    rows sender (Rejected id place) says = search (either Kept, some_or_none {A = ℕ} Kept, quiet s ok) depth 12
    rows sender (ViewIs config) says = search (either Kept, moved config says.2, quiet s ok) depth 12
    rows sender _ says = quiet s ok _ refl refl refl refl

    pub takes : (sender : ℕ) (msg : Msg) → Goes shape sender c msg → Kept (client_took s sender msg)
    takes sender msg says =
        either Kept (is_turned_away s.shape sender msg) (stays s) (client_row s sender msg)
        (λ h. quiet s ok (stays s) refl refl refl refl) (λ h. rows sender msg says)

    pub ticks : Kept (on_client_tick s)
    ticks = sent_each s ok (take RESENT_LIMIT s.unfinished)

  module _ (s : ClientState) (ok : ClientOf shape c s) where
    pub client_kept : (input : Input) → GivenTo shape c input → Kept (client_step s input)
    client_kept (Take e) given = takes s ok e.from e.msg given
    client_kept Tick given = ticks s ok
    client_kept (Post bytes) given = posts s ok bytes
    client_kept _ given = quiet s ok (stays s) refl refl refl refl
