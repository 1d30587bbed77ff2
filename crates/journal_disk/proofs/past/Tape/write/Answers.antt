use Rattle.std.proofs.Common.{length, arith, ◌∙◌, ap, refl}
use Rattle.std.proofs.lemmas.List.{take_all, length-take}
use Rattle.journal_disk.specs.declared.past.Change.TheVariants.{Write}
use Rattle.journal_disk.specs.Past.{Written, Taped, after_deed, deeds_of}
use Rattle.std.specs.Prelude.{List, ℕ, take, ◌≡◌, ◌+◌, ◌≤◌}
use Rattle.journal_disk.proofs.Tapes.{grown_tape, grown_view, size_within}
use Rattle.journal_disk.proofs.past.Tape.write.Goals as goal

pub invariant_of-self : goal.invariant_of-self
invariant_of-self c =
    let t = c.self.invariant in
    let begins = size_within _ _ _ _ _ _ _ t c.args.at (rw (← c.self.view_is) at c.requires.begins) in
    let calls = rw (← c.self.view_is) at c.requires.call_room in
    let room = rw (← c.self.view_is) at c.requires.byte_room in
    let bytes : take (length c.args.bytes.now) c.args.bytes.now ≡ c.args.bytes.now = take_all _ c.args.bytes.now (omega arith) in
    let ends : c.args.at + length c.args.bytes.now ≤ length c.self.inside.buffer.items = omega (arith, begins, room, t.room_file) in
    grown_tape _ _ _ _ _ _ _ t (Write c.args.at (length c.args.bytes.now)) c.args.bytes.now _ _ _ _ _ _ _ (record {
      past_is = c.push_change.ensures.items;
      bytes_is = c.push_bytes.ensures.items;
      counted = refl;
      doable = rw bytes (omega (arith, begins, t.within, length-take c.self.inside.len c.self.inside.buffer.items), ends, c.requires.ends);
      buffer_len = c.write_over-self-inside.ensures.room;
      file_is = rw bytes c.write_over-self-inside.ensures.written;
      within = omega (arith, c.write_over-self-inside.ensures.size, ends, t.within);
      short = omega (arith, c.write_over-self-inside.ensures.size, t.short, c.requires.ends);
      longer = omega (arith, c.write_over-self-inside.ensures.size, begins);
      calls_left = omega (arith, calls);
      bytes_left = omega (arith, room);
      past_grown = c.push_change.ensures.room;
      bytes_grown = c.push_bytes.ensures.room;
    })

pub returns : goal.returns
returns c =
    let bytes : take (length c.args.bytes.now) c.args.bytes.now ≡ c.args.bytes.now = take_all _ c.args.bytes.now (omega arith) in
    grown_view _ _ _ _ _ _ _ c.self.invariant (Write c.args.at (length c.args.bytes.now)) c.args.bytes.now _ _ _ _ c.push_change.ensures.items c.push_bytes.ensures.items refl refl
    ∙ ap (λ (bs : List ℕ). after_deed (record { past = deeds_of c.self.inside.past.items c.self.inside.bytes.items; room = record { calls = c.self.inside.room_calls; bytes = c.self.inside.room_bytes } }) (Written c.args.at bs) (length c.args.bytes.now)) bytes
    ∙ ap (λ (tape : Taped). after_deed tape (Written c.args.at c.args.bytes.now) (length c.args.bytes.now)) c.self.view_is
