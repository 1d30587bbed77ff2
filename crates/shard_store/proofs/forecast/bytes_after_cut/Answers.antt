use Rattle.std.proofs.Common.{◌≡◌, ℕ, List, Option, Some, None, take, drop, sym, ap, ◌∙◌, rules}
use Rattle.std.specs.Option.{option_or}
use Rattle.lazy_rules.specs.Store.{held_bytes}
use Rattle.shard_store.specs.Settling.{bytes_back}
use Rattle.shard_store.proofs.Forecasts.{cut_bytes}
use Rattle.shard_store.proofs.forecast.bytes_after_cut.Goals as goal

pub returns-in-Some : goal.returns-in-Some
returns-in-Some c =
    let front = take c.args.from c.args.order.now.cells in
    let tail = drop c.args.from c.args.order.now.cells in
    let got : Some c.in-Some.bytes.now ≡ held_bytes c.args.held.now.records c.args.id = search rules in
    ap (λ (h : Option (List ℕ)). option_or h (bytes_back c.args.mode front tail c.args.id)) got
    ∙ sym (cut_bytes c.args.mode front c.args.held.now.records tail c.args.id)

pub returns-in-None : goal.returns-in-None
returns-in-None c =
    let front = take c.args.from c.args.order.now.cells in
    let tail = drop c.args.from c.args.order.now.cells in
    let none : None ≡ held_bytes c.args.held.now.records c.args.id = search rules in
    c.bytes_back.ensures
    ∙ ap (λ (h : Option (List ℕ)). option_or h (bytes_back c.args.mode front tail c.args.id)) none
    ∙ sym (cut_bytes c.args.mode front c.args.held.now.records tail c.args.id)
