use Rattle.std.proofs.Common.{ℕ, List, get_or, take, subst}
use Rattle.std.specs.Prelude.{All}
use Rattle.std.specs.List.{AllByRecursion}
use Rattle.std.proofs.lemmas.List.{take_all, take_more}
use Rattle.std.proofs.lemmas.List.Elements.{All-from_recursion, All-push, recursion_from_All}
use Rattle.rec_id.specs.declared.entry.Entry.{Entry}
use Rattle.view_config.specs.declared.edition.Edition.TheVariants.{One}
use Rattle.lazy_msgs.specs.FrameLimits.{PlacedFits}
use Rattle.shard_journal.specs.State.{EntryIsShort}
use Rattle.shard_journal.proofs.fitting.know_fits.Goals as goal

pub know_fit-requires : goal.know_fit-requires
know_fit-requires c =
    let same = c.as_slice-placed-items.ensures in
    rw c.placed-item.is (All-from_recursion EntryIsShort c.as_slice-placed-items.result.now (rw same c.requires) c.loop-placed.placed-index _ c.loop-placed-test.true)

pub loop-placed-preserved : goal.loop-placed-preserved
loop-placed-preserved c =
    let xs = c.as_slice-placed-items.result.now in
    let i = c.loop-placed.placed-index in
    let x = c.placed-item.result in
    let here : PlacedFits One (get_or xs i x) = subst (λ (placed : ℕ × Entry). PlacedFits One placed) c.placed-item.is c.know_fit.ensures in
    rw (take_more xs i x c.loop-placed-test.true) (All-push (PlacedFits One) (take i xs) (get_or xs i x) c.loop-placed.invariant here)

pub returns : goal.returns
returns c =
    let xs = c.as_slice-placed-items.result.now in
    let all : All (PlacedFits One) xs = subst (λ (l : List (ℕ × Entry)). All (PlacedFits One) l) (take_all c.loop-placed.placed-index xs c.loop-placed-test.false) c.loop-placed.invariant in
    subst (λ (l : List (ℕ × Entry)). AllByRecursion (PlacedFits One) l) c.as_slice-placed-items.ensures (recursion_from_All (PlacedFits One) xs all)
