use Rattle.std.proofs.Common.{◌≡◌, ℕ, None, Some, get_or, sym, ap, ◌∙◌, arith}
use Rattle.std.specs.List.{position}
use Rattle.std.specs.Prelude.{not}
use Rattle.std.proofs.Math.ListN.{set, length-set}
use Rattle.std.proofs.lemmas.Option.{slice_get-get_or}
use Rattle.rec_id.specs.Identity.{same_id}
use Rattle.lazy_rules.specs.Store.{held_bytes, without_held, is_cell_of, given_up_cell}
use Rattle.shard_store.specs.Kinds.{is_kept}
use Rattle.shard_store.specs.Links.{blank}
use Rattle.shard_store.specs.Places.{Places}
use Rattle.shard_store.specs.Holding.{Holding, is_distinct, records_in}
use Rattle.list_facts.proofs.Positions.{position_some}
use Rattle.shard_store.proofs.Searches.{kept_found, kept_none}
use Rattle.shard_store.proofs.Holdings.{Pair, no_bytes_absent, absent_without, distinct_filter}
use Rattle.shard_store.proofs.HeldCells.{held_is_kept, given_is_without}
use Rattle.shard_store.proofs.held.Held.take.Goals as goal

found : (c : goal.After-take_data) → Some c.in-Some.place ≡ position (is_cell_of is_kept c.args.id) c.self.inside.cells.cells
found c = sym c.in-Some.is ∙ c.first.ensures

rest : (c : goal.After-take_data) → records_in c.take_data.new.self.cells ≡ without_held (records_in c.self.inside.cells.cells) c.args.id
rest c =
    let cells = c.self.inside.cells.cells in
    let facts = position_some (is_cell_of is_kept c.args.id) cells c.in-Some.place (found c) in
    ap (λ (o : Places). records_in o.cells) c.take_data.ensures.cells
    ∙ ap (λ (k : ℕ). records_in (set cells k (given_up_cell (get_or cells k blank)))) facts.1
    ∙ given_is_without cells c.args.id c.self.invariant.0 facts.0

pub invariant_of-self : goal.invariant_of-self
invariant_of-self c =
    let cells = c.self.inside.cells.cells in
    let len = length-set cells c.in-Some.place (given_up_cell (get_or cells c.in-Some.place blank)) in (
      ap is_distinct (rest c) ∙ distinct_filter (λ (one : Pair). not (same_id one.0 c.args.id)) (records_in cells) c.self.invariant.0,
      rw c.take_data.ensures.cells (omega (arith, len, c.self.invariant.1)),
    )

pub returns-in-Some-clause-rest : goal.returns-in-Some-clause-rest
returns-in-Some-clause-rest c = rest c ∙ ap (λ (held : Holding). without_held held.records c.args.id) c.self.view_is

none : (c : goal.In-None) → held_bytes (records_in c.self.inside.cells.cells) c.args.id ≡ None
none c = held_is_kept c.self.inside.cells.cells c.args.id ∙ kept_none c.self.inside.cells.cells c.args.id (sym c.in-None.is ∙ c.first.ensures)

pub returns-in-None-clause-bytes : goal.returns-in-None-clause-bytes
returns-in-None-clause-bytes c = sym (none c) ∙ ap (λ (held : Holding). held_bytes held.records c.args.id) c.self.view_is

pub returns-in-None-clause-rest : goal.returns-in-None-clause-rest
returns-in-None-clause-rest c =
    let records = records_in c.self.inside.cells.cells in
    sym (ap (λ (held : Holding). without_held held.records c.args.id) (sym c.self.view_is)
    ∙ absent_without records c.args.id (no_bytes_absent records c.args.id (none c))
    ∙ ap (λ (held : Holding). held.records) c.self.view_is)

pub returns-in-Some-clause-bytes : goal.returns-in-Some-clause-bytes
returns-in-Some-clause-bytes c =
    let cells = c.self.inside.cells.cells in
    let facts = position_some (is_cell_of is_kept c.args.id) cells c.in-Some.place (found c) in
    c.take_data.ensures.bytes
    ∙ kept_found cells c.args.id c.in-Some.place (get_or cells c.in-Some.place blank) (found c) (slice_get-get_or cells c.in-Some.place blank (omega (arith, facts.0, facts.1)))
    ∙ sym (held_is_kept cells c.args.id) ∙ ap (λ (held : Holding). held_bytes held.records c.args.id) c.self.view_is
