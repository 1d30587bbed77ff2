use Rattle.std.proofs.Common.{rules, ◌≡◌, ◌<◌, ◌∙◌, List, [], ◌∷◌, ◌++◌, length, sym, ap, subst}
use Rattle.stable_board.specs.declared.views.Peeked.{Peeked}
use Rattle.stable_board.specs.declared.views.View.TheVariants.{Keeps}
use Rattle.stable_board.specs.Ends.{PeekerEnd, IsKeeping, known_of, with_peeked}
use Rattle.stable_board.proofs.Joining.{joins_peeker_as}
use Rattle.stable_board.proofs.Ending.{nothing, ends_none, ends_next, ends_more, ends_all, peeker_table, keeps_peeker}
use Rattle.stable_board.proofs.keeper.end_peekers.Goals as goal

pub loop-rest-init : goal.loop-rest-init
loop-rest-init c =
    let start = known_of c.args.seat.now.me.0 in
    let seated : IsKeeping c.args.table.now.shared.table_id c.args.seat.now (with_peeked start []) = record {
      table_is = c.requires.seat.table_is;
      words = c.requires.seat.words;
      slots = c.requires.seat.slots;
      view_is = c.requires.seat.view_is ∙ ap (λ (all : List Peeked). Keeps (with_peeked start all)) c.requires.none;
    } in
    ends_none _ _ _ _ _ seated c.requires.all c.into_vec-rest.ensures

pub join_seat-requires : goal.join_seat-requires
join_seat-requires c =
    let h = c.loop-rest.invariant in
    let some_left : 0 < length c.loop-rest.rest.items = search rules in
    let seat = c.other.inside.seat in
    let next = ends_next _ _ _ _ c.loop-rest.rest.items c.remove.result some_left c.remove.ensures.value h in
    let table : seat.table_id ≡ c.args.table.now.shared.table_id = sym (peeker_table seat.table_id seat.me.0) ∙ (ap (λ (end : PeekerEnd). end.board) c.other.view_is ∙ next.0) in
    let number = ap (λ (end : PeekerEnd). end.number) c.other.view_is ∙ next.1 in
    (h.seated.table_is, table, nothing _ c.other.invariant.0.slots, search rules, joins_peeker_as _ _ _ _ _ _ _ h.seated.view_is c.other.invariant.0.view_is number)

pub loop-rest-preserved : goal.loop-rest-preserved
loop-rest-preserved c =
    let h = c.loop-rest.invariant in
    let some_left : 0 < length c.loop-rest.rest.items = search rules in
    let table = c.args.table.now.shared.table_id in
    let start = known_of c.args.seat.now.me.0 in
    let seat = c.other.inside.seat in
    let kept = keeps_peeker table c.loop-rest.seat c.join_seat.new.seat start h.known seat.me.0 _ _ h.seated c.other.invariant.0.view_is c.join_seat.ensures.0 c.join_seat.ensures.2 in
    let here = subst (λ (end : PeekerEnd). IsKeeping table c.join_seat.new.seat (with_peeked start (h.known ++ end.saw ∷ []))) c.other.view_is kept in
    ends_more _ _ _ _ (λ (known : List Peeked). IsKeeping table c.join_seat.new.seat (with_peeked start known)) c.loop-rest.rest.items c.remove.new.self.items c.remove.result some_left c.remove.ensures.value c.remove.ensures.items h here

pub returns : goal.returns
returns c = ends_all _ _ (λ (known : List Peeked). IsKeeping c.args.table.now.shared.table_id c.loop-rest.seat (with_peeked (known_of c.args.seat.now.me.0) known)) _ c.loop-rest.rest.items (nothing _ (search rules)) c.loop-rest.invariant
