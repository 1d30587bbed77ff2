-- No stable number, stored or sent, is above what a holder knows to be bound.
use Rattle.std.proofs.Common.{ℕ, ◌≤◌, arith}
use Rattle.list_facts.specs.Lists.{Each}
use Rattle.list_facts.proofs.Members.{each_in}
use Rattle.view_config.specs.Shape.{Dimensions}
use Rattle.world_facts.specs.Members.{Goes}
use Rattle.lazy_msgs.specs.declared.msg.Envelope.{Envelope}
use Rattle.lazy_msgs.specs.declared.msg.Msg.{Msg}
use Rattle.lazy_msgs.specs.declared.msg.Msg.TheVariants.{Stable, TailReady, Claim}
use Rattle.lazy_rules.specs.WorldState.{WorldState}
use Rattle.log_facts.specs.Ghosts.{Ghost}
use Rattle.log_facts.specs.Parts.{parts_of}
use Rattle.log_facts.specs.Promises.{IsBelow, StableBelow, replica}
use Rattle.log_facts.specs.Said.{Said}
use Rattle.log_facts.proofs.lines.Finals.{IsAgreed}

module _ (shape : Dimensions) (g : Ghost) (w : WorldState) (is : IsAgreed shape g w) (sent : Each (λ (e : Envelope). Said shape g (parts_of w) e.from e.to e.msg) w.sent) (goes : Each (λ (e : Envelope). Goes shape e.from e.to e.msg) w.sent) (bound : ℕ) (least : g.log.low ≤ bound) where
  stored : (d : ℕ) → 1 ≤ (replica w d).view → (replica w d).store.stable ≤ bound
  stored d some = let low = (is.agreed.places.finals d some).stable in omega arith

  below : (node to : ℕ) (msg : Msg) → Goes shape node to msg → Said shape g (parts_of w) node to msg → IsBelow bound msg
  below node to (Stable view upto) goes says = let low = says.below in omega arith
  below node to (TailReady view read tail) goes says = let low = says.stable.below in omega arith
  below node to (Claim stable) goes says =
      let low = stored node (is.agreed.places.among.there node goes.0) in
      omega (arith, says)
  below node to _ goes says = tt

  pub stable_below : StableBelow w bound
  stable_below = record {
    stored = stored;
    sent = λ e h. below e.from e.to e.msg (each_in (λ (x : Envelope). Goes shape x.from x.to x.msg) w.sent goes e h) (each_in (λ (x : Envelope). Said shape g (parts_of w) x.from x.to x.msg) w.sent sent e h);
  }
