use Rattle.std.proofs.Common.{rules, ◌≡◌, ◌<◌, ◌∙◌, List, [], ◌∷◌, ◌++◌, length, sym, ap, subst}
use Rattle.stable_board.specs.declared.views.Published.{Published}
use Rattle.stable_board.specs.declared.views.View.TheVariants.{Keeps}
use Rattle.stable_board.specs.Ends.{PublisherEnd, IsKeeping, known_of, with_published}
use Rattle.stable_board.proofs.Joining.{joins_publisher_as}
use Rattle.stable_board.proofs.Ending.{nothing, ends_none, ends_next, ends_more, ends_all, publisher_table, keeps_publisher}
use Rattle.stable_board.proofs.keeper.end_publishers.Goals as goal

pub loop-rest-init : goal.loop-rest-init
loop-rest-init c =
    let start = known_of c.args.seat.now.me.0 in
    let seated : IsKeeping c.args.table.now.shared.table_id c.args.seat.now (with_published start []) = record {
      table_is = c.requires.seat.table_is;
      words = c.requires.seat.words;
      slots = c.requires.seat.slots;
      view_is = c.requires.seat.view_is ∙ ap (λ (all : List Published). Keeps (with_published start all)) c.requires.none;
    } in
    ends_none _ _ _ _ _ seated c.requires.all c.into_vec-rest.ensures

pub join_seat-requires : goal.join_seat-requires
join_seat-requires c =
    let h = c.loop-rest.invariant in
    let some_left : 0 < length c.loop-rest.rest.items = search rules in
    let seat = c.other.inside.seat in
    let next = ends_next _ _ _ _ c.loop-rest.rest.items c.remove.result some_left c.remove.ensures.value h in
    let table : seat.table_id ≡ c.args.table.now.shared.table_id = sym (publisher_table seat.table_id seat.me.0) ∙ (ap (λ (end : PublisherEnd). end.board) c.other.view_is ∙ next.0) in
    let number = ap (λ (end : PublisherEnd). end.replica) c.other.view_is ∙ next.1 in
    (h.seated.table_is, table, nothing _ c.other.invariant.0.slots, search rules, joins_publisher_as _ _ _ _ _ _ _ h.seated.view_is c.other.invariant.0.view_is number)

pub loop-rest-preserved : goal.loop-rest-preserved
loop-rest-preserved c =
    let h = c.loop-rest.invariant in
    let some_left : 0 < length c.loop-rest.rest.items = search rules in
    let table = c.args.table.now.shared.table_id in
    let start = known_of c.args.seat.now.me.0 in
    let seat = c.other.inside.seat in
    let kept = keeps_publisher table c.loop-rest.seat c.join_seat.new.seat start h.known seat.me.0 _ _ h.seated c.other.invariant.0.view_is c.join_seat.ensures.0 c.join_seat.ensures.2 in
    let here = subst (λ (end : PublisherEnd). IsKeeping table c.join_seat.new.seat (with_published start (h.known ++ end.did ∷ []))) c.other.view_is kept in
    ends_more _ _ _ _ (λ (known : List Published). IsKeeping table c.join_seat.new.seat (with_published start known)) c.loop-rest.rest.items c.remove.new.self.items c.remove.result some_left c.remove.ensures.value c.remove.ensures.items h here

pub returns : goal.returns
returns c = ends_all _ _ (λ (known : List Published). IsKeeping c.args.table.now.shared.table_id c.loop-rest.seat (with_published (known_of c.args.seat.now.me.0) known)) _ c.loop-rest.rest.items (nothing _ (search rules)) c.loop-rest.invariant
