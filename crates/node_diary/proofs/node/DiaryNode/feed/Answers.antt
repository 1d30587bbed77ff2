use Rattle.std.proofs.Common.{◌≡◌, ℕ, Option, Ok, Err, Some, ap, ◌∙◌, subst}
use Rattle.std.specs.Prelude.{max, ◌+◌}
use Rattle.std.proofs.lemmas.Result.{err_from_is_err_and}
use Rattle.node_diary.specs.Feeding.{Diarist, next_time}
use Rattle.node_diary.specs.Writing.{Writes, page_of}
use Rattle.node_diary.proofs.Kept.{kept_fed, kept_weight, ready_of, refused_by, room_for}
use Rattle.node_diary.proofs.node.DiaryNode.feed.Goals as goal

pub write-outcome-requires-clause-ready : goal.write-outcome-requires-clause-ready
write-outcome-requires-clause-ready c =
    let d : Diarist = record { node = c.self.inside.diary.node; state = c.self.inside.state; entries = c.self.inside.diary.entries; told = c.self.inside.told; time = c.self.inside.time } in
    ready_of d c.self.invariant.0

pub returns-in_err-sends-clause-refused : goal.returns-in_err-sends-clause-refused
returns-in_err-sends-clause-refused c =
    let d : Diarist = record { node = c.self.inside.diary.node; state = c.self.inside.state; entries = c.self.inside.diary.entries; told = c.self.inside.told; time = c.self.inside.time } in
    let room = room_for d c.args.input c.time_in.result c.in-Some.time c.len.result c.self.inside.weight c.input_weight-weight.result c.in-Some-room_left.left c.time_in.ensures c.in-Some.ensures.some.0 c.in-Some.ensures.some.1 c.len.ensures
    c.in-Some-room_left.ensures.some.0 c.self.invariant.1 c.input_weight-weight.ensures c.in-Some-room_left.ensures.some.1 in
    let failed : Writes c.in-Some.time c.in-Some-room_left.left c.args.input (page_of c.self.inside.state c.take_out-entries.result.items c.take_out-told.result.items) (page_of c.write-outcome.new.state c.write-outcome.new.entries.items c.write-outcome.new.told.items) (Err c.in_err-sends.field-0.0) = c.in_err-sends.ensures in
    let p = err_from_is_err_and c.from_residual.result c.from_residual.ensures.1 in
    rw (p.1, p.2, ← c.self.view_is)
    (refused_by d c.args.input c.in-Some.time c.in-Some-room_left.left c.take_out-entries.result.items c.write-outcome.new.entries.items c.write-outcome.new.entries.items c.take_out-told.result.items c.write-outcome.new.told.items c.write-outcome.new.told.items c.write-outcome.new.state
    room c.take_out-entries.ensures c.take_out-told.ensures c.in_err-sends.field-0.0 failed)

pub invariant_of-self-in-Some-2 : goal.invariant_of-self-in-Some-2
invariant_of-self-in-Some-2 c =
    let d : Diarist = record { node = c.self.inside.diary.node; state = c.self.inside.state; entries = c.self.inside.diary.entries; told = c.self.inside.told; time = c.self.inside.time } in
    let room = room_for d c.args.input c.time_in.result c.in-Some.time c.len.result c.self.inside.weight c.input_weight-weight.result c.in-Some-room_left.left c.time_in.ensures c.in-Some.ensures.some.0 c.in-Some.ensures.some.1 c.len.ensures
    c.in-Some-room_left.ensures.some.0 c.self.invariant.1 c.input_weight-weight.ensures c.in-Some-room_left.ensures.some.1 in
    let when : c.in-Some.time ≡ next_time d c.args.input = c.in-Some.ensures.some.0 ∙ ap (λ r. max c.self.inside.time r + 1) c.time_in.ensures in
    let wrote : Writes c.in-Some.time c.in-Some-room_left.left c.args.input (page_of c.self.inside.state c.take_out-entries.result.items c.take_out-told.result.items) (page_of c.write-outcome.new.state c.write-outcome.new.entries.items c.write-outcome.new.told.items) (Ok (Some c.in-Some-2.sends)) =
    subst (λ (o : Option ℕ). Writes c.in-Some.time c.in-Some-room_left.left c.args.input (page_of c.self.inside.state c.take_out-entries.result.items c.take_out-told.result.items) (page_of c.write-outcome.new.state c.write-outcome.new.entries.items c.write-outcome.new.told.items) (Ok o)) c.in-Some-2.is c.in_ok-sends.ensures in (
      record {
        shape = c.self.invariant.0.shape;
        is = kept_fed d c.args.input c.in-Some.time c.in-Some-room_left.left c.take_out-entries.result.items c.write-outcome.new.entries.items c.from_vec.result c.take_out-told.result.items c.write-outcome.new.told.items c.from_vec-2.result c.write-outcome.new.state
            room c.take_out-entries.ensures c.take_out-told.ensures c.in-Some-2.sends wrote when c.from_vec.ensures c.from_vec-2.ensures c.self.invariant.0.shape c.self.invariant.0.is;
      },
      kept_weight d c.args.input c.in-Some.time c.in-Some-room_left.left c.take_out-entries.result.items c.write-outcome.new.entries.items c.from_vec.result c.take_out-told.result.items c.write-outcome.new.told.items c.from_vec-2.result c.write-outcome.new.state
          room c.take_out-entries.ensures c.take_out-told.ensures c.in-Some-2.sends wrote when c.from_vec.ensures c.from_vec-2.ensures c.self.inside.weight c.input_weight-weight.result c.self.invariant.1 c.input_weight-weight.ensures,
    )

pub returns-in-Some-2-clause-fed : goal.returns-in-Some-2-clause-fed
returns-in-Some-2-clause-fed c =
    let d : Diarist = record { node = c.self.inside.diary.node; state = c.self.inside.state; entries = c.self.inside.diary.entries; told = c.self.inside.told; time = c.self.inside.time } in
    let room = room_for d c.args.input c.time_in.result c.in-Some.time c.len.result c.self.inside.weight c.input_weight-weight.result c.in-Some-room_left.left c.time_in.ensures c.in-Some.ensures.some.0 c.in-Some.ensures.some.1 c.len.ensures
    c.in-Some-room_left.ensures.some.0 c.self.invariant.1 c.input_weight-weight.ensures c.in-Some-room_left.ensures.some.1 in
    let when : c.in-Some.time ≡ next_time d c.args.input = c.in-Some.ensures.some.0 ∙ ap (λ r. max c.self.inside.time r + 1) c.time_in.ensures in
    let wrote : Writes c.in-Some.time c.in-Some-room_left.left c.args.input (page_of c.self.inside.state c.take_out-entries.result.items c.take_out-told.result.items) (page_of c.write-outcome.new.state c.write-outcome.new.entries.items c.write-outcome.new.told.items) (Ok (Some c.in-Some-2.sends)) =
    subst (λ (o : Option ℕ). Writes c.in-Some.time c.in-Some-room_left.left c.args.input (page_of c.self.inside.state c.take_out-entries.result.items c.take_out-told.result.items) (page_of c.write-outcome.new.state c.write-outcome.new.entries.items c.write-outcome.new.told.items) (Ok o)) c.in-Some-2.is c.in_ok-sends.ensures in
    rw (← c.self.view_is)
    (kept_fed d c.args.input c.in-Some.time c.in-Some-room_left.left c.take_out-entries.result.items c.write-outcome.new.entries.items c.from_vec.result c.take_out-told.result.items c.write-outcome.new.told.items c.from_vec-2.result c.write-outcome.new.state
    room c.take_out-entries.ensures c.take_out-told.ensures c.in-Some-2.sends wrote when c.from_vec.ensures c.from_vec-2.ensures)
