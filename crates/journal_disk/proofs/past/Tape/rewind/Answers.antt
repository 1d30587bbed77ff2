use Rattle.journal_disk.proofs.Tapes.{rewound_doable, rewound_tape}
use Rattle.journal_disk.proofs.past.Tape.rewind.Goals as goal

pub replay-self-inside-requires-clause-doable : goal.replay-self-inside-requires-clause-doable
replay-self-inside-requires-clause-doable c =
    rw (c.deref.ensures.value, c.deref-2.ensures.value) (rewound_doable _ _ _ _ _ _ _ _ _ c.self.invariant c.drop_loose.ensures.left)

pub invariant_of-self : goal.invariant_of-self
invariant_of-self c =
    let d = c.drop_loose.ensures in
    let r = c.replay-self-inside.ensures in
    let file = rw (c.deref.ensures.value, c.deref-2.ensures.value) at r.file in
    rewound_tape _ _ _ _ _ _ _ _ _ _ _ _ _ c.self.invariant d.left d.bytes_are d.past_room d.bytes_room d.fewer d.shorter file r.within r.short r.room
