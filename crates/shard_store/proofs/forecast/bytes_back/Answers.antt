use Rattle.std.proofs.Common.{◌≡◌, false, Bool, cond, None, take, drop, sym, ap, ◌∙◌}
use Rattle.std.specs.List.{list_any}
use Rattle.view_config.specs.declared.edition.Mode.{Mode}
use Rattle.lazy_rules.specs.Store.{is_cell_of, has_data, kept_bytes}
use Rattle.shard_store.specs.Settling.{bytes_back}
use Rattle.shard_store.proofs.Forecasts.{kept_cut}
use Rattle.shard_store.proofs.forecast.bytes_back.Goals as goal

pub returns-else-has_before : goal.returns-else-has_before
returns-else-has_before c =
    let cells = c.args.order.now.cells in
    let front = take c.args.from cells in
    let tail = drop c.args.from cells in
    let none : list_any (is_cell_of has_data c.args.id) front ≡ false = sym c.has_before.ensures ∙ c.if-has_before.false in
    c.kept_of.ensures ∙ kept_cut cells c.args.from c.args.id none
    ∙ ap (λ (b : Bool). cond b None (kept_bytes tail c.args.id)) (sym none)
    ∙ ap (λ (mode : Mode). bytes_back mode front tail c.args.id) (sym c.in-St.is)
