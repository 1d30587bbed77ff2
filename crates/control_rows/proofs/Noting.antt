-- The controller notes something, and nothing that the facts speak of changes but its own state.
use Rattle.std.proofs.Common.{◌≡◌, ℕ, List, []}
use Rattle.list_facts.specs.Lists.{Each}
use Rattle.view_config.specs.Shape.{Dimensions}
use Rattle.lazy_msgs.specs.declared.msg.Msg.{Msg}
use Rattle.lazy_msgs.specs.declared.msg.Msg.TheVariants.{Append, AppendAck, Put, DataAck, Rejected, Place, Placed, Copy, Copied, Order, Ordered, Stable, Probe, ProbeAck, TailReady, Fetch, Part, Flush, FlushCopy, Flushed, Seal, Sealed, SealedEmpty, NewView, Started, AskView, ViewIs, Claim, Trim, TrimAck, TrimmedAt}
use Rattle.lazy_rules.specs.ControlState.{ControlState, Taken, Flushing}
use Rattle.lazy_rules.specs.Rows.{stays, sends_all}
use Rattle.log_facts.specs.Agreed.{Agreed, ClientsAgree}
use Rattle.log_facts.specs.Ghosts.{Ghost}
use Rattle.log_facts.specs.Good.{GoodControl}
use Rattle.log_facts.specs.Parts.{Parts, with_control}
use Rattle.log_facts.specs.Said.{Said}
use Rattle.log_facts.specs.facts.OfLine.{TakenHeld}
use Rattle.log_facts.specs.facts.OfViews.{ControlFacts, ControlNotes}
use Rattle.view_config.specs.declared.nodes.TheConstants.{CONTROLLER}

-- a message of the controller's says what it should
abbrev pub Told : Dimensions → Ghost → Parts → ℕ × Msg → Type 0
Told shape g a send = Said shape g a CONTROLLER send.0 send.1

-- no message speaks of the controller's state
pub said_beside : (shape : Dimensions) (g : Ghost) (a : Parts) (k : ControlState) (node to : ℕ) (msg : Msg) → Said shape g a node to msg → Said shape g (with_control a k) node to msg
said_beside shape g a k node to (Append view id bytes) h = h
said_beside shape g a k node to (AppendAck view id) h = h
said_beside shape g a k node to (Put id bytes) h = h
said_beside shape g a k node to (DataAck view id) h = h
said_beside shape g a k node to (Rejected id place) h = h
said_beside shape g a k node to (Place view from items) h = h
said_beside shape g a k node to (Placed view upto) h = h
said_beside shape g a k node to (Copy view from cells) h = h
said_beside shape g a k node to (Copied view upto) h = h
said_beside shape g a k node to (Order view from ids) h = h
said_beside shape g a k node to (Ordered view upto) h = h
said_beside shape g a k node to (Stable view upto) h = h
said_beside shape g a k node to (Probe view read) h = h
said_beside shape g a k node to (ProbeAck view read) h = h
said_beside shape g a k node to (TailReady view read tail) h = h
said_beside shape g a k node to (Fetch read from end) h = h
said_beside shape g a k node to (Part read from end entries) h = h
said_beside shape g a k node to (Flush config from items) h = h
said_beside shape g a k node to (FlushCopy view from cells) h = h
said_beside shape g a k node to (Flushed view) h = h
said_beside shape g a k node to (Seal view) h = h
said_beside shape g a k node to (Sealed view bound window items) h = h
said_beside shape g a k node to (SealedEmpty view) h = h
said_beside shape g a k node to (NewView config base window) h = h
said_beside shape g a k node to (Started view) h = h
said_beside shape g a k node to AskView h = h
said_beside shape g a k node to (ViewIs config) h = h
said_beside shape g a k node to (Claim stable) h = h
said_beside shape g a k node to (Trim read floor) h = h
said_beside shape g a k node to (TrimAck read) h = h
said_beside shape g a k node to (TrimmedAt read floor) h = h

pub clients_beside : (shape : Dimensions) (g : Ghost) (a : Parts) (k : ControlState) → ClientsAgree shape g.views g.log a → ClientsAgree shape g.views g.log (with_control a k)
clients_beside shape g a k h = record { appends = h.appends; appends_noted = h.appends_noted; reads = h.reads; reads_noted = h.reads_noted }

module _ (shape : Dimensions) (g : Ghost) (a : Parts) (agreed : Agreed shape g a) where
  pub agreed_noted : (k : ControlState) → ControlFacts g.views k → ((taken : Taken) → k.phase ≡ Flushing taken → TakenHeld shape g.log a.history taken) → ControlNotes g.views a.shards k.phase → Agreed shape g (with_control a k)
  agreed_noted k facts taken noted = record {
    views = record { configs = agreed.views.configs; started = agreed.views.started; bounds = agreed.views.bounds; control = facts };
    history = agreed.history;
    line = record {
      distinct = agreed.line.distinct;
      begun = agreed.line.begun;
      low = agreed.line.low;
      high = agreed.line.high;
      closed = agreed.line.closed;
      reached = agreed.line.reached;
      behind = agreed.line.behind;
      members = agreed.line.members;
      live = agreed.line.live;
      closing = agreed.line.closing;
      taken = taken;
    };
    seqs = agreed.seqs;
    among_seqs = agreed.among_seqs;
    shards = agreed.shards;
    places = agreed.places;
    bytes = agreed.bytes;
    given = agreed.given;
    clients = clients_beside shape g a k agreed.clients;
    flushed = noted;
    told = agreed.told;
  }

  pub good_noted : (k : ControlState) (sends : List (ℕ × Msg)) → ControlFacts g.views k → ((taken : Taken) → k.phase ≡ Flushing taken → TakenHeld shape g.log a.history taken) → ControlNotes g.views a.shards k.phase
      → Each (Told shape g (with_control a k)) sends → GoodControl shape g a (sends_all k sends)
  good_noted k sends facts taken noted said = record {
    ghost = g;
    agreed = agreed_noted k facts taken noted;
    lifts = said_beside shape g a k;
    said = said;
  }

  -- its state stays as well
  pub good_sends : (sends : List (ℕ × Msg)) → Each (Told shape g a) sends → GoodControl shape g a (sends_all a.control sends)
  good_sends sends said = record {
    ghost = g;
    agreed = agreed;
    lifts = λ node to msg h. h;
    said = said;
  }

  pub good_stays : GoodControl shape g a (stays a.control)
  good_stays = good_sends [] tt
