use Rattle.std.proofs.Common.{rules, ◌≡◌, ◌≤◌, sym, ◌∙◌, subst}
use mathlib.Core.Option.{none}
use Rattle.atomic_table.specs.Table.{step}
use Rattle.list_facts.specs.Lists.{Each}
use Rattle.stable_board.specs.declared.views.View.{View}
use Rattle.stable_board.specs.declared.claim.BoardClaim.{BoardClaim}
use Rattle.stable_board.specs.Claims.{packed_claim, claim_in}
use Rattle.stable_board.specs.Ends.{PeekerEnd, last_claim, peeker_of}
use Rattle.stable_board.proofs.Turns.{looks_as}
use Rattle.stable_board.proofs.Telling.{told_look, last_more, risen}
use Rattle.stable_board.proofs.peeker.Peeker.peek.Goals as goal

pub load-word-requires : goal.load-word-requires
load-word-requires c = (search rules, search rules, looks_as _ _ _ _ _ (step 0 0 0 0 none) c.self.invariant.0.view_is)

pub returns-clause-last : goal.returns-clause-last
returns-clause-last c =
    let seat = c.self.inside.seat in
    let told = told_look _ _ _ _ _ c.self.invariant.0.view_is c.load-word.ensures.2.1 in
    subst (λ (v : View). last_claim (peeker_of c.load-word.new.seat.table_id v).saw.claims ≡ c.unpack.result) (sym told.0)
    (last_more (peeker_of seat.table_id seat.me.0).saw.claims (claim_in c.load-word.result) ∙ sym c.unpack.ensures)

pub returns-clause-rises : goal.returns-clause-rises
returns-clause-rises c =
    let told = told_look _ _ _ _ _ c.self.invariant.0.view_is c.load-word.ensures.2.1 in
    let up = risen _ _ told.1 in
    let same : Each (λ (claim : BoardClaim). packed_claim claim ≤ packed_claim c.unpack.result) (peeker_of c.self.inside.seat.table_id c.self.inside.seat.me.0).saw.claims =
    subst (λ (top : BoardClaim). Each (λ (claim : BoardClaim). packed_claim claim ≤ packed_claim top) (peeker_of c.self.inside.seat.table_id c.self.inside.seat.me.0).saw.claims) (sym c.unpack.ensures) up in
    subst (λ (end : PeekerEnd). Each (λ (claim : BoardClaim). packed_claim claim ≤ packed_claim c.unpack.result) end.saw.claims) c.self.view_is same

pub invariant_of-self : goal.invariant_of-self
invariant_of-self c =
    let seat = c.self.inside.seat in
    let told = told_look _ _ _ _ _ c.self.invariant.0.view_is c.load-word.ensures.2.1 in
    let known = (peeker_of seat.table_id seat.me.0).saw.claims in (
      search rules,
      subst (λ (v : View). (last_claim (peeker_of c.load-word.new.seat.table_id v).saw.claims).stable ≤ 65536) (sym told.0)
          (subst (λ (claim : BoardClaim). claim.stable ≤ 65536) (sym (last_more known (claim_in c.load-word.result))) told.1.stable),
    )
