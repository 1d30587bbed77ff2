use Rattle.std.proofs.Common.{[], arith, sym, ◌∙◌, ap, refl}
use Rattle.std.proofs.lemmas.List.{append-nil, take-take, length-take}
use Rattle.journal_disk.specs.declared.past.Change.TheVariants.{Cut}
use Rattle.journal_disk.specs.Past.{CutTo, Taped, after_deed}
use Rattle.journal_disk.proofs.Tapes.{grown_tape, grown_view, size_within}
use Rattle.journal_disk.proofs.past.Tape.cut.Goals as goal

pub invariant_of-self : goal.invariant_of-self
invariant_of-self c =
    let t = c.self.invariant in
    let le = size_within _ _ _ _ _ _ _ t c.args.size (rw (← c.self.view_is) at c.requires.within) in
    grown_tape _ _ _ _ _ _ _ t (Cut c.args.size) [] _ _ _ _ _ _ _ (record {
      past_is = c.push_change.ensures.items;
      bytes_is = sym (append-nil c.self.inside.bytes.items);
      counted = refl;
      doable = omega (arith, length-take c.self.inside.len c.self.inside.buffer.items, le, t.within);
      buffer_len = refl;
      file_is = sym (take-take c.args.size c.self.inside.len c.self.inside.buffer.items le);
      within = omega (arith, le, t.within);
      short = omega (arith, le, t.short);
      longer = omega (arith, le);
      calls_left = omega (arith, rw (← c.self.view_is) at c.requires.call_room);
      bytes_left = omega arith;
      past_grown = c.push_change.ensures.room;
      bytes_grown = omega arith;
    })

pub returns : goal.returns
returns c =
    grown_view _ _ _ _ _ _ _ c.self.invariant (Cut c.args.size) [] _ _ _ _ c.push_change.ensures.items (sym (append-nil c.self.inside.bytes.items)) refl (omega arith)
    ∙ ap (λ (tape : Taped). after_deed tape (CutTo c.args.size) 0) c.self.view_is
