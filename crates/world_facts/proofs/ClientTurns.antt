-- A client's node is both of its halves.
use Rattle.std.proofs.Common.{◌≡◌, ℕ, List, [], ◌∷◌, Bool, true, false, Option, Some, None, refl, ap}
use Rattle.std.specs.Prelude.{slice_get}
use Rattle.list_facts.specs.Lists.{Each}
use Rattle.view_config.specs.declared.nodes.TheConstants.{CONTROLLER}
use Rattle.lazy_msgs.specs.declared.input.Input.{Input}
use Rattle.lazy_msgs.specs.declared.input.Input.TheVariants.{Take, Tick, Grace, Crash, Post, Ask, Trim, Suspect, Peek}
use Rattle.lazy_msgs.specs.declared.msg.Envelope.{Envelope}
use Rattle.lazy_msgs.specs.declared.msg.Msg.{Msg}
use Rattle.lazy_msgs.specs.declared.msg.Msg.TheVariants.{AskView}
use Rattle.lazy_msgs.specs.Step.{Row}
use Rattle.lazy_rules.specs.ClientNode.{ClientNode, Half, Appends, Reads, Both, half_of, half_took, appends_took, reads_took, in_appends, in_reads, appends_tick, reads_tick, asks_view, is_busy, client_node_step, with_appends}
use Rattle.lazy_rules.specs.ClientRules.{client_step, client_took, on_client_tick, on_post}
use Rattle.lazy_rules.specs.ClientState.{ClientState}
use Rattle.lazy_rules.specs.ReaderRules.{reader_step, reader_took, on_reader_tick, on_ask, on_trim_input}
use Rattle.lazy_rules.specs.ReaderState.{ReaderState}
use Rattle.lazy_rules.specs.Rows.{followed}
use Rattle.lazy_rules.specs.WorldState.{WorldState}
use Rattle.lazy_rules.specs.WorldRules.{halves, client_node}
use Rattle.world_facts.proofs.Claims.{Keeps}
use Rattle.world_facts.proofs.ReaderShape.{reader_shape}
use Rattle.world_facts.proofs.Rows.{keeps_stays, keeps_answers, keeps_followed}

abbrev of_halves : ClientState → ReaderState → ClientNode
of_halves a r = record { appends = a; reads = r }

-- what a client's node has of each half
halves_are : (a : Option ClientState) (r : Option ReaderState) (n : ClientNode) → halves a r ≡ Some n → (a ≡ Some n.appends) × (r ≡ Some n.reads)
halves_are (Some a) (Some r) n h =
    let same : of_halves a r ≡ n = cc in
    (ap (λ (x : ClientNode). Some x.appends) same, ap (λ (x : ClientNode). Some x.reads) same)
halves_are (Some a) None n h = let wrong : None ≡ Some n = h in cc
halves_are None (Some r) n h = let wrong : None ≡ Some n = h in cc
halves_are None None n h = let wrong : None ≡ Some n = h in cc

pub appends_of : (w : WorldState) (c : ℕ) (n : ClientNode) → client_node w c ≡ Some n → slice_get w.clients c ≡ Some n.appends
appends_of w c n h = (halves_are (slice_get w.clients c) (slice_get w.readers c) n h).0

pub reads_of : (w : WorldState) (c : ℕ) (n : ClientNode) → client_node w c ≡ Some n → slice_get w.readers c ≡ Some n.reads
reads_of w c n h = (halves_are (slice_get w.clients c) (slice_get w.readers c) n h).1

-- what each half keeps, the node keeps
pub record InHalves (Client : ClientState → Type 0) (Reader : ReaderState → Type 0) (n : ClientNode) : Type 0 where
  pub appends : Client n.appends
  pub reads : Reader n.reads

module _ (Client : ClientState → Type 0) (Reader : ReaderState → Type 0) (Send : ℕ → Msg → Type 0) where
  abbrev Kept : Row ClientNode → Type 0
  Kept = Keeps (InHalves Client Reader) Send

  kept_appends : (n : ClientNode) (row : Row ClientState) → Reader n.reads → Keeps Client Send row → Kept (in_appends n row)
  kept_appends n row reads h = record { next = record { appends = h.next; reads = reads }; sends = h.sends }

  kept_reads : (n : ClientNode) (row : Row ReaderState) → Client n.appends → Keeps Reader Send row → Kept (in_reads n row)
  kept_reads n row appends h = record { next = record { appends = appends; reads = h.next }; sends = h.sends }

  module _ (n : ClientNode) (appends : Client n.appends) (reads : Reader n.reads) where
    kept_take : (e : Envelope) → Keeps Client Send (client_took n.appends e.from e.msg) → Keeps Reader Send (reader_took n.reads e.from e.msg) → (h : Half) → Kept (half_took h n e.from e.msg)
    kept_take e a r Appends = kept_appends n (client_took n.appends e.from e.msg) reads a
    kept_take e a r Reads = kept_reads n (reader_took n.reads e.from e.msg) appends r
    kept_take e a r Both =
        keeps_followed (InHalves Client Reader) Send (appends_took n e.from e.msg) (λ (after : ClientNode). reads_took after e.from e.msg)
        (kept_appends n (client_took n.appends e.from e.msg) reads a)
        (kept_reads (with_appends n (client_took n.appends e.from e.msg).next) (reader_took n.reads e.from e.msg) a.next r)

    kept_asks : (asks : Send CONTROLLER AskView) (busy : Bool) (m : ClientNode) → InHalves Client Reader m → Kept (asks_view busy m)
    kept_asks asks true m h = keeps_answers (InHalves Client Reader) Send m CONTROLLER AskView h asks
    kept_asks asks false m h = keeps_stays (InHalves Client Reader) Send m h

    kept_tick : Send CONTROLLER AskView → Keeps Client Send (on_client_tick n.appends) → Keeps Reader Send (on_reader_tick n.reads) → Kept (client_node_step n Tick)
    kept_tick asks a r =
        let first : Kept (appends_tick n) = kept_appends n (on_client_tick n.appends) reads a in
        let second : Kept (reads_tick (appends_tick n).next) = kept_reads (appends_tick n).next (on_reader_tick n.reads) a.next r in
        let two : Kept (followed (appends_tick n) reads_tick) = keeps_followed (InHalves Client Reader) Send (appends_tick n) reads_tick first second in
        keeps_followed (InHalves Client Reader) Send (followed (appends_tick n) reads_tick) (asks_view (is_busy n)) two
        (kept_asks asks (is_busy n) (followed (appends_tick n) reads_tick).next two.next)

    pub kept_node : Send CONTROLLER AskView → (input : Input) → Keeps Client Send (client_step n.appends input) → Keeps Reader Send (reader_step n.reads input) → Kept (client_node_step n input)
    kept_node asks (Take e) a r = kept_take e a r (half_of e.msg)
    kept_node asks Tick a r = kept_tick asks a r
    kept_node asks (Post bytes) a r = kept_appends n (on_post n.appends bytes) reads a
    kept_node asks (Ask ask) a r = kept_reads n (on_ask n.reads ask) appends r
    kept_node asks (Trim floor) a r = kept_reads n (on_trim_input n.reads floor) appends r
    kept_node asks (Peek stable time replica from ids) a r = record { next = record { appends = appends; reads = reads }; sends = tt }
    kept_node asks Grace a r = keeps_stays (InHalves Client Reader) Send n (record { appends = appends; reads = reads })
    kept_node asks Crash a r = keeps_stays (InHalves Client Reader) Send n (record { appends = appends; reads = reads })
    kept_node asks (Suspect node) a r = keeps_stays (InHalves Client Reader) Send n (record { appends = appends; reads = reads })

-- the reader's half keeps its shape
no_sends : (sends : List (ℕ × Msg)) → Each (λ (send : ℕ × Msg). Unit {0}) sends
no_sends [] = tt
no_sends (send ∷ sends) = (tt, no_sends sends)

pub node_reader_shape : (n : ClientNode) (input : Input) → (client_node_step n input).next.reads.shape ≡ n.reads.shape
node_reader_shape n input =
    let kept = kept_node (λ (s : ClientState). Unit {0}) (λ (r : ReaderState). r.shape ≡ n.reads.shape) (λ (to : ℕ) (msg : Msg). Unit {0}) n tt refl tt input
    (record { next = tt; sends = no_sends (client_step n.appends input).sends })
    (record { next = reader_shape n.reads input; sends = no_sends (reader_step n.reads input).sends }) in
    kept.next.reads
