use Rattle.std.proofs.Common.{◌≡◌, ℕ, List, ◌++◌, map, ap, ◌∙◌, sym, subst}
use Rattle.std.specs.List.{flat_map}
use Rattle.view_config.specs.Shape.{Dimensions}
use Rattle.lazy_msgs.specs.declared.diary.Diary.{Diary}
use Rattle.lazy_core.specs.declared.node_state.NodeState.{NodeState}
use Rattle.lazy_core.specs.Filled.{spared_lines}
use Rattle.lazy_core.specs.Standing.{IsLaid, Standing, world_of_standing}
use Rattle.node_diary.specs.declared.fold.Telling.{Telling}
use Rattle.node_diary.specs.Folding.{IsHistoryOf, crashed_in, found_state, found_tellings, nodes_in_order}
use Rattle.node_diary.proofs.Replays.{trail_of}
use Rattle.node_diary.proofs.Snapshots.{laid}
use Rattle.node_diary.proofs.replaying.replay.Goals as goal

pub new-snapshot-requires : goal.new-snapshot-requires
new-snapshot-requires c =
    let shape : Dimensions = c.args.shape.now in
    let diaries : List Diary = c.args.diaries in
    let states : c.in_ok-states.states ≡ map (found_state shape diaries) (nodes_in_order shape) =
    c.in_ok-states.ensures.states ∙ ap (map (found_state shape diaries)) (c.as_slice.ensures.value ∙ c.in_ok-nodes.ensures.nodes) in
    subst (IsLaid shape) (sym states) (laid shape diaries c.nodes_in_order.ensures.valid)

pub returns-clause-replay : goal.returns-clause-replay
returns-clause-replay c =
    let shape : Dimensions = c.args.shape.now in
    let diaries : List Diary = c.args.diaries in
    let nodes : c.as_slice.result.now ≡ nodes_in_order shape = c.as_slice.ensures.value ∙ c.in_ok-nodes.ensures.nodes in
    let told : c.fold_all.new.tellings.items ≡ flat_map (found_tellings shape diaries) (nodes_in_order shape) =
    c.in_ok-states.ensures.told
    ∙ ap (λ (l : List Telling). l ++ flat_map (found_tellings shape diaries) c.as_slice.result.now) c.new-tellings.ensures.items
    ∙ ap (flat_map (found_tellings shape diaries)) nodes in
    let states : c.in_ok-states.states ≡ map (found_state shape diaries) (nodes_in_order shape) =
    c.in_ok-states.ensures.states ∙ ap (map (found_state shape diaries)) nodes in
    let crashed : c.in_ok-crashed.crashed ≡ crashed_in diaries = c.in_ok-crashed.ensures ∙ ap crashed_in c.as_slice-2.ensures in
    let standing : c.new-snapshot.result ≡ record { shape = shape; states = map (found_state shape diaries) (nodes_in_order shape); crashed = crashed_in diaries } =
    c.new-snapshot.ensures
    ∙ ap (λ (s : List NodeState). record { shape = shape; states = s; crashed = c.in_ok-crashed.crashed }) states
    ∙ ap (λ (n : List ℕ). record { shape = shape; states = map (found_state shape diaries) (nodes_in_order shape); crashed = n }) crashed in
    λ whole. trail_of shape diaries whole _
    (subst (λ (l : List Telling). IsHistoryOf l c.in_ok-history.history) told c.in_ok-history.ensures)
    (c.in_ok-lines.ensures ∙ ap (λ (s : Standing). spared_lines (world_of_standing s)) standing)
