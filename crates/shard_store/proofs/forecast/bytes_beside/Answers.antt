use Rattle.std.proofs.Common.{◌≡◌, List, Bool, true, false, cond, Some, None, take, drop, sym, ap, ◌∙◌, rules}
use Rattle.std.specs.Prelude.{is_some}
use Rattle.std.specs.List.{list_any}
use Rattle.rec_id.specs.Identity.{Identity}
use Rattle.rec_id.specs.declared.item.Cell.{Cell}
use Rattle.lazy_rules.specs.Store.{is_cell_of, held_bytes}
use Rattle.shard_store.specs.Kinds.{is_kept}
use Rattle.shard_store.specs.Settling.{given_back, held_beside_all}
use Rattle.shard_store.proofs.Extensions.{Pairs}
use Rattle.list_facts.proofs.Positions.{position_any}
use Rattle.shard_store.proofs.Forecasts.{bytes_beside}
use Rattle.shard_store.proofs.forecast.bytes_beside.Goals as goal

-- with what is known of the cells that came
beside : (back : Pairs) (made : List Cell) (id : Identity) (b : Bool) → list_any (is_cell_of is_kept id) made ≡ b → held_bytes (held_beside_all back made) id ≡ cond b None (held_bytes back id)
beside back made id b any = bytes_beside back made id ∙ ap (λ (t : Bool). cond t None (held_bytes back id)) any

pub returns-then-is_some : goal.returns-then-is_some
returns-then-is_some c =
    let back = given_back c.args.mode (take c.args.from c.args.order.now.cells) c.args.held.now.records (drop c.args.from c.args.order.now.cells) in
    let any : list_any (is_cell_of is_kept c.args.id) c.args.made.now.cells ≡ true =
    sym (position_any (is_cell_of is_kept c.args.id) c.args.made.now.cells) ∙ ap is_some (sym c.first.ensures) ∙ sym c.is_some.ensures ∙ c.if-is_some.true in
    sym (beside back c.args.made.now.cells c.args.id true any)

pub returns-in_ok-clone-in-Some : goal.returns-in_ok-clone-in-Some
returns-in_ok-clone-in-Some c =
    let back = given_back c.args.mode (take c.args.from c.args.order.now.cells) c.args.held.now.records (drop c.args.from c.args.order.now.cells) in
    let any : list_any (is_cell_of is_kept c.args.id) c.args.made.now.cells ≡ false =
    sym (position_any (is_cell_of is_kept c.args.id) c.args.made.now.cells) ∙ ap is_some (sym c.first.ensures) ∙ sym c.is_some.ensures ∙ c.if-is_some.false in
    let got : Some c.in_ok-clone-in-Some.field-0 ≡ held_bytes back c.args.id = search rules in
    got ∙ sym (beside back c.args.made.now.cells c.args.id false any)

pub returns-in-None : goal.returns-in-None
returns-in-None c =
    let back = given_back c.args.mode (take c.args.from c.args.order.now.cells) c.args.held.now.records (drop c.args.from c.args.order.now.cells) in
    let any : list_any (is_cell_of is_kept c.args.id) c.args.made.now.cells ≡ false =
    sym (position_any (is_cell_of is_kept c.args.id) c.args.made.now.cells) ∙ ap is_some (sym c.first.ensures) ∙ sym c.is_some.ensures ∙ c.if-is_some.false in
    let got : None ≡ held_bytes back c.args.id = search rules in
    got ∙ sym (beside back c.args.made.now.cells c.args.id false any)
