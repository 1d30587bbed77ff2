use Rattle.std.proofs.Common.{◌≡◌, ℕ, List, true, ap, sym, subst, ◌∙◌, arith}
use Rattle.std.specs.Prelude.{slice_range}
use Rattle.std.specs.List.{AllByRecursion, list_all}
use Rattle.rec_id.specs.declared.entry.Entry.{Entry}
use Rattle.shard_journal.specs.State.{EntryIsShort, is_short, next_to}
use Rattle.shard_journal.proofs.NextBlocks.{short_part, next_fits_at}
use Rattle.shard_journal.proofs.block.Block.next.Goals as goal

pub know_fits-requires : goal.know_fits-requires
know_fits-requires c =
    let to_is : c.next_to-to.result ≡ next_to c.args.store.now c.args.kept = omega (arith, c.next_to-to.ensures.to, c.stable.ensures) in
    let short : list_all is_short (slice_range c.args.store.now.order c.args.kept c.next_to-to.result) ≡ true = ap (λ n. list_all is_short (slice_range c.args.store.now.order c.args.kept n)) to_is ∙ c.requires.can.short in
    subst (λ (l : List (ℕ × Entry)). AllByRecursion EntryIsShort l) (sym c.in_ok-entries.ensures) (short_part c.args.store.now c.args.kept c.next_to-to.result short)

pub returns-clause-fits : goal.returns-clause-fits
returns-clause-fits c =
    next_fits_at c.args.store.now c.args.kept c.next_to-to.result c.in_ok-entries.entries c.requires.more (omega (arith, c.stable.ensures, c.stable.type_inv)) (omega (arith, c.next_to-to.ensures.to, c.stable.ensures)) c.in_ok-entries.ensures c.know_fits.ensures
