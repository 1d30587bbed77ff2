use Rattle.std.proofs.Common.{◌≡◌, ◌∷◌, [], ◌++◌, List, length, take, drop, sym, ap, ◌∙◌, arith, rules}
use Rattle.std.proofs.lemmas.List.{length_push}
use Rattle.rec_id.specs.declared.item.Cell.{Cell}
use Rattle.shard_store.specs.Places.{Places}
use Rattle.shard_store.specs.Settling.{settled, settled_all, held_beside_all, given_back}
use Rattle.shard_store.proofs.Forecasts.{forecast_step}
use Rattle.shard_store.proofs.forecast.foresee_all.Goals as goal

pub loop-draft-preserved : goal.loop-draft-preserved
loop-draft-preserved c =
    let back = given_back c.args.mode (take c.args.from c.args.order.now.cells) c.args.held.now.records (drop c.args.from c.args.order.now.cells) in
    let front = c.loop-draft.made.cells in
    let rest = c.pop_front.new.self.items in
    let seen = settled (held_beside_all back front) c.in-Some.draft in
    let split : c.loop-draft.drafts.items ≡ c.in-Some.draft ∷ rest = search rules in
    let cells : c.push.new.self.cells ≡ front ++ seen ∷ [] =
    ap (λ (p : Places). p.cells) c.push.ensures ∙ ap (λ (x : Cell). front ++ x ∷ []) c.in_ok-cell.ensures in
    let count = ap (λ (l : List Cell). length l) split in
    let longer = ap (λ (l : List Cell). length l) cells in
    record {
      room = omega (arith, count, ap (λ (p : Places). p.spare) c.push.ensures, c.loop-draft.invariant.room);
      short = omega (arith, count, longer, length_push front seen, c.loop-draft.invariant.short);
      all = ap (λ (l : List Cell). l ++ settled_all (held_beside_all back l) rest) cells
          ∙ forecast_step front back c.in-Some.draft rest
          ∙ ap (λ (l : List Cell). front ++ settled_all (held_beside_all back front) l) (sym split)
          ∙ c.loop-draft.invariant.all;
    }
