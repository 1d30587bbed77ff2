-- What is acknowledged is at every replica of its shard, and what is rejected is a no-op there.
use Rattle.std.proofs.Common.{◌≡◌, ℕ, ◌≤◌, Option, Some, None, refl, sym, ap, ◌∙◌, subst, arith}
use Rattle.std.specs.Prelude.{option_map}
use Rattle.list_facts.specs.Lists.{Each}
use Rattle.list_facts.proofs.Members.{each_in}
use Rattle.rec_id.specs.Identity.{Identity, shard_of}
use Rattle.rec_id.specs.declared.item.Body.{Body}
use Rattle.rec_id.specs.declared.item.Body.TheVariants.{Elsewhere, Kept, Noop, Open, Gone}
use Rattle.rec_id.specs.declared.item.Cell.{Cell}
use Rattle.view_config.specs.declared.edition.Mode.TheVariants.{St}
use Rattle.view_config.specs.Shape.{Dimensions}
use Rattle.lazy_msgs.specs.declared.msg.Envelope.{Envelope}
use Rattle.lazy_msgs.specs.declared.msg.Msg.{Msg}
use Rattle.lazy_msgs.specs.declared.msg.Msg.TheVariants.{Rejected}
use Rattle.lazy_rules.specs.WorldState.{WorldState}
use Rattle.log_facts.specs.Ghosts.{Ghost}
use Rattle.log_facts.specs.Parts.{parts_of}
use Rattle.log_facts.specs.Promises.{DataKept, IsListed, IsNoop, IsRejection, replica}
use Rattle.log_facts.specs.Said.{Said}
use Rattle.log_facts.specs.Says.{RejectedSays}
use Rattle.log_facts.specs.Signs.{Sign, Void, sign_at, sign_of, sort_of}
use Rattle.log_facts.proofs.lines.Acknowledged.{has_it, no_void}
use Rattle.log_facts.proofs.lines.Finals.{IsAgreed, at_home, final, final_cell, there}

-- a cell with the sign of a no-op is one
abbrev sign_or : Sign → Option Sign → Sign
sign_or d None = d
sign_or d (Some sign) = sign

is_noop_cell : (id : Identity) (cell : Cell) → Some (sign_of cell) ≡ Some (record { id = id; sort = Void }) → cell ≡ record { id = id; body = Noop }
is_noop_cell id cell same =
    let sign : sign_of cell ≡ record { id = id; sort = Void } = ap (sign_or (sign_of cell)) same in
    by cell.body refl (ap (λ (s : Sign). s.id) sign) (ap (λ (s : Sign). s.sort) sign)
  where
    by : (body : Body) → cell.body ≡ body → cell.id ≡ id → sort_of body ≡ Void → cell ≡ record { id = id; body = Noop }
    by Elsewhere e named void = cc
    by (Kept bytes) e named void = cc
    by Noop e named void = ap (λ (x : Identity). record { id = x; body = cell.body }) named ∙ ap (λ (b : Body). record { id = id; body = b }) e
    by Open e named void = cc
    by Gone e named void = cc

module _ (shape : Dimensions) (g : Ghost) (w : WorldState) (is : IsAgreed shape g w) (sent : Each (λ (e : Envelope). Said shape g (parts_of w) e.from e.to e.msg) w.sent) (bound : ℕ) (least : g.log.low ≤ bound) (most : bound ≤ g.log.high) where
  listed_own : (id : Identity) (d : ℕ) → IsListed w (shard_of id w.shape.shards) d → IsListed w (shard_of id shape.shards) d
  listed_own id d h = subst (λ (k : Dimensions). IsListed w (shard_of id k.shards) d) is.shaped h

  apart_own : w.shape.mode ≡ St → shape.mode ≡ St
  apart_own e = subst (λ (k : Dimensions). k.mode ≡ St) is.shaped e

  rejection : (id : Identity) (place : ℕ) → RejectedSays shape g.views g.log (parts_of w).shards id place → IsNoop w id place
  rejection id place says d h =
      let own = listed_own id d h in
      let below = says.below in
      let high = is.agreed.line.low in
      let lasts = final shape g w is (shard_of id shape.shards) d place own (omega arith) in
      let some = there shape g w is (shard_of id shape.shards) d own in
      let at = final_cell shape g w is d place some lasts in
      let void = says.void d (at_home shape g w is (shard_of id shape.shards) d own) some lasts in
      let signed : sign_at (replica w d) place ≡ Some (sign_of at.cell) = ap (λ (o : Option Cell). option_map sign_of o) at.here in
      at.here ∙ ap Some (is_noop_cell id at.cell (sym signed ∙ void))

  rejects : (node to : ℕ) (msg : Msg) → Said shape g (parts_of w) node to msg → IsRejection w bound msg
  rejects node to (Rejected id place) says = let below = says.below in (omega arith, rejection id place says)
  rejects node to _ says = tt

  pub data_kept : DataKept w bound
  data_kept = record {
    there = λ id d apart acked h. has_it shape g w is id (apart_own apart) acked d (listed_own id d h);
    no_noop = λ id d place apart acked h below here.
        no_void shape g w is id (apart_own apart) acked d place (listed_own id d h) (omega arith) (ap (λ (o : Option Cell). option_map sign_of o) here);
    rejected = λ e h. rejects e.from e.to e.msg (each_in (λ (x : Envelope). Said shape g (parts_of w) x.from x.to x.msg) w.sent sent e h);
  }
