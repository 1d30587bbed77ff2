use Rattle.std.proofs.Common.{◌≡◌, ◌+◌, true, false, ℕ, List, [], ◌∷◌, ◌++◌, Ok, Err, length, refl, sym, ap, subst, ◌∙◌, arith, length-append}
use Rattle.journal_disk.specs.Moments.{opened}
use Rattle.lazy_msgs.specs.Frame.{four}
use Rattle.wire_frames.proofs.FieldLengths.{length-four}
use Rattle.shard_journal.specs.declared.refused.JournalRefused.TheVariants.{DiskFault}
use Rattle.shard_journal.specs.Blocks.{body_form, behind_form}
use Rattle.shard_journal.specs.State.{JournalState, Adds}
use Rattle.shard_journal.proofs.Adding.{IsNext, added_leaves, adds_block, adds_failed, settled_again}
use Rattle.journal_disk.specs.Calls.{Does, put_calls}
use Rattle.shard_journal.specs.State.{HasPut, Puts}
use Rattle.shard_journal.proofs.journal.Journal.add.Goals as goal

pub invariant_of-self-in-Ok : goal.invariant_of-self-in-Ok
invariant_of-self-in-Ok g c = λ _.
    let k = g.D.Disk in
    let inside = c.self.inside in
    let is_open : inside.closed ≡ false = ap (λ (j : JournalState g.row.D.Denot). j.closed) c.self.view_is ∙ c.requires.open_ in
    let settled = c.self.invariant is_open in
    let bytes = c.deref.result.now in
    let next : IsNext k.seen k.may_leave k.moment k.left_since inside.kept c.args.block bytes = record { fits = c.requires.fits; from_is = c.requires.from ∙ sym (ap (λ (j : JournalState g.row.D.Denot). j.kept) c.self.view_is); bytes_are = c.deref.ensures.value ∙ c.in_ok-write_block.ensures } in
    let still = c.reserve.ensures.untouched in
    let leaves = added_leaves k.seen k.may_leave k.moment k.left_since inside.disk c.reserve.new.self c.put_behind.new.disk inside.end bytes (g.met.D.Disk.only_now inside.disk) settled.durable still c.reserve.ensures.time c.put_behind.ensures.any_moment in
    let reads = c.in-Ok.ensures.reads ∙ ap (λ (f : List ℕ). opened f inside.end bytes) still.reads in
    settled_again k.seen k.may_leave k.moment k.left_since inside.disk c.put_behind.new.disk inside.kept inside.end _ c.args.block bytes settled next reads c.in-Ok.ensures.durable
    (omega (arith, c.len-count.ensures, c.write_block.new.buffer.ok.0, ap length c.in_ok-write_block.ensures, length-append (behind_form c.args.block) (0 ∷ []), length-append (four (length (body_form c.args.block))) (body_form c.args.block), length-four (length (body_form c.args.block))))

pub returns-in-Ok-clause-adds : goal.returns-in-Ok-clause-adds
returns-in-Ok-clause-adds g c =
    let k = g.D.Disk in
    let inside = c.self.inside in
    let is_open : inside.closed ≡ false = ap (λ (j : JournalState g.row.D.Denot). j.closed) c.self.view_is ∙ c.requires.open_ in
    let settled = c.self.invariant is_open in
    let bytes = c.deref.result.now in
    let next : IsNext k.seen k.may_leave k.moment k.left_since inside.kept c.args.block bytes = record { fits = c.requires.fits; from_is = c.requires.from ∙ sym (ap (λ (j : JournalState g.row.D.Denot). j.kept) c.self.view_is); bytes_are = c.deref.ensures.value ∙ c.in_ok-write_block.ensures } in
    let still = c.reserve.ensures.untouched in
    let leaves = added_leaves k.seen k.may_leave k.moment k.left_since inside.disk c.reserve.new.self c.put_behind.new.disk inside.end bytes (g.met.D.Disk.only_now inside.disk) settled.durable still c.reserve.ensures.time c.put_behind.ensures.any_moment in
    let reads = c.in-Ok.ensures.reads ∙ ap (λ (f : List ℕ). opened f inside.end bytes) still.reads in
    let old : JournalState g.row.D.Denot = record { disk = inside.disk; kept = inside.kept; end = inside.end; closed = inside.closed } in
    let new : JournalState g.row.D.Denot = record { disk = c.put_behind.new.disk; kept = c.args.block.to; end = inside.end + c.len-count.result; closed = inside.closed } in
    subst (λ (was : JournalState g.row.D.Denot). Adds k.seen k.may_leave k.moment k.left_since was new (c.args.block ∷ []) c.args.block.to (Ok c.args.block.to)) c.self.view_is
    (adds_block k.seen k.may_leave k.moment k.left_since old new c.args.block bytes settled next leaves reads c.in-Ok.ensures.durable refl is_open)

pub returns-in-Err-clause-adds : goal.returns-in-Err-clause-adds
returns-in-Err-clause-adds g c =
    let k = g.D.Disk in
    let inside = c.self.inside in
    let is_open : inside.closed ≡ false = ap (λ (j : JournalState g.row.D.Denot). j.closed) c.self.view_is ∙ c.requires.open_ in
    let settled = c.self.invariant is_open in
    let bytes = c.deref.result.now in
    let next : IsNext k.seen k.may_leave k.moment k.left_since inside.kept c.args.block bytes = record { fits = c.requires.fits; from_is = c.requires.from ∙ sym (ap (λ (j : JournalState g.row.D.Denot). j.kept) c.self.view_is); bytes_are = c.deref.ensures.value ∙ c.in_ok-write_block.ensures } in
    let still = c.reserve.ensures.untouched in
    let leaves = added_leaves k.seen k.may_leave k.moment k.left_since inside.disk c.reserve.new.self c.put_behind.new.disk inside.end bytes (g.met.D.Disk.only_now inside.disk) settled.durable still c.reserve.ensures.time c.put_behind.ensures.any_moment in
    let old : JournalState g.row.D.Denot = record { disk = inside.disk; kept = inside.kept; end = inside.end; closed = inside.closed } in
    let new : JournalState g.row.D.Denot = record { disk = c.put_behind.new.disk; kept = inside.kept; end = inside.end; closed = true } in
    subst (λ (was : JournalState g.row.D.Denot). Adds k.seen k.may_leave k.moment k.left_since was new (c.args.block ∷ []) c.args.block.to (Err DiskFault)) c.self.view_is
    (adds_failed k.seen k.may_leave k.moment k.left_since old new c.args.block bytes settled next leaves refl)

pub returns-in-Ok-clause-puts : goal.returns-in-Ok-clause-puts
returns-in-Ok-clause-puts g c =
    let k = g.D.Disk in
    let inside = c.self.inside in
    let bytes_are : c.deref.result.now ≡ behind_form c.args.block ++ 0 ∷ [] = c.deref.ensures.value ∙ c.in_ok-write_block.ensures in
    let put : HasPut k.made k.alike inside.disk inside.end c.args.block true c.put_behind.new.disk =
    (c.reserve.new.self, c.reserve.ensures.alike, subst (λ (bytes : List ℕ). Does k.made (put_calls inside.end bytes) c.reserve.new.self true c.put_behind.new.disk) bytes_are c.in-Ok.ensures.makes.done) in
    let new : JournalState g.row.D.Denot = record { disk = c.put_behind.new.disk; kept = c.args.block.to; end = inside.end + c.len-count.result; closed = inside.closed } in
    subst (λ (was : JournalState g.row.D.Denot). Puts k.made k.alike was new c.args.block (Ok c.args.block.to)) c.self.view_is (record { done = put; failed = λ fault. absurd cc; end_is = omega (arith, c.len-count.ensures, c.write_block.new.buffer.ok.0, ap length c.in_ok-write_block.ensures, length-append (behind_form c.args.block) (0 ∷ [])) })

pub returns-in-Err-clause-puts : goal.returns-in-Err-clause-puts
returns-in-Err-clause-puts g c =
    let k = g.D.Disk in
    let inside = c.self.inside in
    let bytes_are : c.deref.result.now ≡ behind_form c.args.block ++ 0 ∷ [] = c.deref.ensures.value ∙ c.in_ok-write_block.ensures in
    let put : HasPut k.made k.alike inside.disk inside.end c.args.block false c.put_behind.new.disk =
    (c.reserve.new.self, c.reserve.ensures.alike, subst (λ (bytes : List ℕ). Does k.made (put_calls inside.end bytes) c.reserve.new.self false c.put_behind.new.disk) bytes_are c.in-Err.ensures.makes.failed) in
    let new : JournalState g.row.D.Denot = record { disk = c.put_behind.new.disk; kept = inside.kept; end = inside.end; closed = true } in
    subst (λ (was : JournalState g.row.D.Denot). Puts k.made k.alike was new c.args.block (Err DiskFault)) c.self.view_is (record { done = tt; failed = λ fault. put; end_is = tt })
