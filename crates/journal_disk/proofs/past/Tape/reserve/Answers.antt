use Rattle.std.proofs.Common.{arith}
use Rattle.journal_disk.proofs.Tapes.{reserved}
use Rattle.journal_disk.proofs.past.Tape.reserve.Goals as goal

pub invariant_of-self-in_err-make_room : goal.invariant_of-self-in_err-make_room
invariant_of-self-in_err-make_room c =
    let t = c.self.invariant in
    reserved _ _ _ _ _ _ _ _ _ _ _ _ _ t c.in_ok-reserve.ensures.items c.in_ok-reserve-2.ensures.items c.make_room.ensures.same c.make_room.ensures.grown
    (omega (arith, t.room_calls, c.reserve.ensures.capacity)) (omega (arith, t.room_bytes, c.reserve-2.ensures.capacity)) (omega (arith, t.room_file, c.make_room.ensures.grown))

pub invariant_of-self-2 : goal.invariant_of-self-2
invariant_of-self-2 c =
    let t = c.self.invariant in
    reserved _ _ _ _ _ _ _ _ _ _ _ _ _ t c.in_ok-reserve.ensures.items c.in_ok-reserve-2.ensures.items c.make_room.ensures.same c.make_room.ensures.grown
    (omega (arith, c.in_ok-reserve.ensures.ok, c.self.inside.past.ok.0)) (omega (arith, c.in_ok-reserve-2.ensures.ok, c.self.inside.bytes.ok.0)) (omega (arith, c.in_ok-make_room.ensures.room))
