-- Nobody hands on a cell whose data was given up.
use Rattle.std.proofs.Common.{◌≡◌, ℕ, ◌+◌, List, [], ◌∷◌, Bool, false, ◌||◌, refl, ap, ◌∙◌}
use Rattle.std.specs.List.{list_any}
use Rattle.list_facts.specs.Lists.{Each}
use Rattle.rec_id.specs.declared.item.Body.{Body}
use Rattle.rec_id.specs.declared.item.Body.TheVariants.{Elsewhere, Kept, Noop, Open, Gone}
use Rattle.rec_id.specs.declared.item.Cell.{Cell}
use Rattle.rec_id.specs.declared.event.Event.{Event}
use Rattle.view_config.specs.Shape.{Dimensions}
use Rattle.lazy_msgs.specs.declared.msg.Envelope.{Envelope}
use Rattle.lazy_msgs.specs.declared.msg.Msg.{Msg}
use Rattle.lazy_msgs.specs.declared.msg.Msg.TheVariants.{Append, AppendAck, Put, DataAck, Rejected, Place, Placed, Copy, Copied, Order, Ordered, Stable, Probe, ProbeAck, TailReady, Fetch, Part, Flush, FlushCopy, Flushed, Seal, Sealed, SealedEmpty, NewView, Started, AskView, ViewIs, Claim, Trim, TrimAck, TrimmedAt}
use Rattle.lazy_msgs.specs.FrameLimits.{Fits}
use Rattle.world_facts.specs.Sizes.{GivesNothingUp, is_gone}
use Rattle.log_facts.specs.Ghosts.{Ghost}
use Rattle.log_facts.specs.Handed.{BodyDecided, CellHanded, EachFrom}
use Rattle.log_facts.specs.Parts.{Parts}
use Rattle.log_facts.specs.Said.{Said}

kept_body : (body : Body) → BodyDecided body → is_gone body ≡ false
kept_body Elsewhere d = refl
kept_body (Kept bytes) d = refl
kept_body Noop d = refl
kept_body Open d = absurd d
kept_body Gone d = absurd d

none_gone : (shape : Dimensions) (history : List Event) (shard place : ℕ) (cells : List Cell) → EachFrom (CellHanded shape history shard) place cells → list_any (λ (cell : Cell). is_gone cell.body) cells ≡ false
none_gone shape history shard place [] each = refl
none_gone shape history shard place (cell ∷ cells) each =
    ap (λ (b : Bool). b || list_any (λ (cell : Cell). is_gone cell.body) cells) (kept_body cell.body each.0.decided) ∙ none_gone shape history shard (place + 1) cells each.1

pub nothing_given_up : (shape : Dimensions) (g : Ghost) (a : Parts) (node to : ℕ) (msg : Msg) → Said shape g a node to msg → GivesNothingUp msg
nothing_given_up shape g a node to (Copy view from cells) said = none_gone shape a.history _ from cells said.handed.each
nothing_given_up shape g a node to (FlushCopy view from cells) said = none_gone shape a.history _ from cells said.handed.each
nothing_given_up shape g a node to (Append view id bytes) said = tt
nothing_given_up shape g a node to (AppendAck view id) said = tt
nothing_given_up shape g a node to (Put id bytes) said = tt
nothing_given_up shape g a node to (DataAck view id) said = tt
nothing_given_up shape g a node to (Rejected id place) said = tt
nothing_given_up shape g a node to (Place view from items) said = tt
nothing_given_up shape g a node to (Placed view upto) said = tt
nothing_given_up shape g a node to (Copied view upto) said = tt
nothing_given_up shape g a node to (Order view from ids) said = tt
nothing_given_up shape g a node to (Ordered view upto) said = tt
nothing_given_up shape g a node to (Stable view upto) said = tt
nothing_given_up shape g a node to (Probe view read) said = tt
nothing_given_up shape g a node to (ProbeAck view read) said = tt
nothing_given_up shape g a node to (TailReady view read tail) said = tt
nothing_given_up shape g a node to (Fetch read from end) said = tt
nothing_given_up shape g a node to (Part read from end entries) said = tt
nothing_given_up shape g a node to (Flush config from items) said = tt
nothing_given_up shape g a node to (Flushed view) said = tt
nothing_given_up shape g a node to (Seal view) said = tt
nothing_given_up shape g a node to (Sealed view bound window items) said = tt
nothing_given_up shape g a node to (SealedEmpty view) said = tt
nothing_given_up shape g a node to (NewView config base window) said = tt
nothing_given_up shape g a node to (Started view) said = tt
nothing_given_up shape g a node to AskView said = tt
nothing_given_up shape g a node to (ViewIs config) said = tt
nothing_given_up shape g a node to (Claim stable) said = tt
nothing_given_up shape g a node to (Trim read floor) said = tt
nothing_given_up shape g a node to (TrimAck read) said = tt
nothing_given_up shape g a node to (TrimmedAt read floor) said = tt

-- so each message fits that would fit without one
pub fit_all : (shape : Dimensions) (g : Ghost) (a : Parts) (sent : List Envelope) → Each (λ (e : Envelope). Said shape g a e.from e.to e.msg) sent → Each (λ (e : Envelope). GivesNothingUp e.msg → Fits shape.edition e) sent → Each (Fits shape.edition) sent
fit_all shape g a [] said fits = tt
fit_all shape g a (e ∷ sent) said fits = (fits.0 (nothing_given_up shape g a e.from e.to e.msg said.0), fit_all shape g a sent said.1 fits.1)
