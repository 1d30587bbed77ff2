use Rattle.std.proofs.Common.{[], arith, sym, ◌∙◌, ap, refl}
use Rattle.std.proofs.lemmas.List.{append-nil}
use Rattle.journal_disk.specs.declared.past.Change.TheVariants.{Sync}
use Rattle.journal_disk.specs.Past.{Synced, Taped, after_deed}
use Rattle.journal_disk.proofs.Tapes.{grown_tape, grown_view}
use Rattle.journal_disk.proofs.past.Tape.sync.Goals as goal

pub invariant_of-self : goal.invariant_of-self
invariant_of-self c =
    let t = c.self.invariant in
    grown_tape _ _ _ _ _ _ _ t Sync [] _ _ _ _ _ _ _ (record {
      past_is = c.push_change.ensures.items;
      bytes_is = sym (append-nil c.self.inside.bytes.items);
      counted = refl;
      doable = tt;
      buffer_len = refl;
      file_is = refl;
      within = t.within;
      short = t.short;
      longer = omega arith;
      calls_left = omega (arith, rw (← c.self.view_is) at c.requires);
      bytes_left = omega arith;
      past_grown = c.push_change.ensures.room;
      bytes_grown = omega arith;
    })

pub returns : goal.returns
returns c =
    grown_view _ _ _ _ _ _ _ c.self.invariant Sync [] _ _ _ _ c.push_change.ensures.items (sym (append-nil c.self.inside.bytes.items)) refl (omega arith)
    ∙ ap (λ (tape : Taped). after_deed tape Synced 0) c.self.view_is
