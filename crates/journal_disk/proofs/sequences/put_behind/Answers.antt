use Rattle.std.proofs.Common.{ℕ, ◌≡◌, ◌+◌, List, [], ◌∷◌, inl, inr, length, arith, sym, ap, subst, ◌∙◌}
use Rattle.journal_disk.specs.Disk.{with_bytes, Only}
use Rattle.journal_disk.specs.Moments.{IsStagedOrWritten, opened}
use Rattle.journal_disk.proofs.MomentLemmas.{goes_on}
use Rattle.journal_disk.proofs.Staging.{at_start, first_left, second_left, staged_longer, gate_written}
use Rattle.journal_disk.specs.Calls.{Syncs, Writes}
use Rattle.journal_disk.proofs.Calling.{does_last, does_before}
use Rattle.journal_disk.proofs.sequences.put_behind.Goals as goal

pub returns-in_err-write_at-clause-any_moment : goal.returns-in_err-write_at-clause-any_moment
returns-in_err-write_at-clause-any_moment g c =
    let k = g.D.Disk in
    let old = c.args.disk.now in
    let end = c.args.end in
    let bytes = c.args.bytes.now in
    let P = IsStagedOrWritten (k.seen old) end bytes in
    let e0 = at_start k.seen k.may_leave k.moment k.left_since old end bytes c.requires.durable (g.met.D.Disk.only_now old) in
    let first = first_left k.seen k.may_leave k.moment k.left_since old end bytes c.requires.durable c.write_at.new.self c.write_at.ensures.crash in
    let e1 = goes_on k.moment k.left_since old old c.write_at.new.self P (k.may_leave c.write_at.new.self) e0 c.write_at.ensures.time first in
    e1

pub returns-in_err-sync-clause-any_moment : goal.returns-in_err-sync-clause-any_moment
returns-in_err-sync-clause-any_moment g c =
    let k = g.D.Disk in
    let old = c.args.disk.now in
    let end = c.args.end in
    let bytes = c.args.bytes.now in
    let P = IsStagedOrWritten (k.seen old) end bytes in
    let e0 = at_start k.seen k.may_leave k.moment k.left_since old end bytes c.requires.durable (g.met.D.Disk.only_now old) in
    let first = first_left k.seen k.may_leave k.moment k.left_since old end bytes c.requires.durable c.write_at.new.self c.write_at.ensures.crash in
    let e1 = goes_on k.moment k.left_since old old c.write_at.new.self P (k.may_leave c.write_at.new.self) e0 c.write_at.ensures.time first in
    let e2 = goes_on k.moment k.left_since old c.write_at.new.self c.sync.new.self P (k.may_leave c.sync.new.self) e1 c.sync.ensures.time (λ f now. first f (c.sync.ensures.crash f now)) in
    e2

pub returns-in_err-write_at-2-clause-any_moment : goal.returns-in_err-write_at-2-clause-any_moment
returns-in_err-write_at-2-clause-any_moment g c =
    let k = g.D.Disk in
    let old = c.args.disk.now in
    let end = c.args.end in
    let bytes = c.args.bytes.now in
    let P = IsStagedOrWritten (k.seen old) end bytes in
    let e0 = at_start k.seen k.may_leave k.moment k.left_since old end bytes c.requires.durable (g.met.D.Disk.only_now old) in
    let first = first_left k.seen k.may_leave k.moment k.left_since old end bytes c.requires.durable c.write_at.new.self c.write_at.ensures.crash in
    let e1 = goes_on k.moment k.left_since old old c.write_at.new.self P (k.may_leave c.write_at.new.self) e0 c.write_at.ensures.time first in
    let e2 = goes_on k.moment k.left_since old c.write_at.new.self c.sync.new.self P (k.may_leave c.sync.new.self) e1 c.sync.ensures.time (λ f now. first f (c.sync.ensures.crash f now)) in
    let second = second_left k.seen k.may_leave k.moment k.left_since old end bytes c.requires.durable c.sync.new.self c.write_at-2.new.self (k.seen c.write_at.new.self) c.requires.within c.in_ok-write_at.ensures.written c.in_ok-sync.ensures.durable c.write_at-2.ensures.crash in
    let e3 = goes_on k.moment k.left_since old c.sync.new.self c.write_at-2.new.self P (k.may_leave c.write_at-2.new.self) e2 c.write_at-2.ensures.time second in
    e3

pub returns-clause-any_moment : goal.returns-clause-any_moment
returns-clause-any_moment g c =
    let k = g.D.Disk in
    let old = c.args.disk.now in
    let end = c.args.end in
    let bytes = c.args.bytes.now in
    let P = IsStagedOrWritten (k.seen old) end bytes in
    let e0 = at_start k.seen k.may_leave k.moment k.left_since old end bytes c.requires.durable (g.met.D.Disk.only_now old) in
    let first = first_left k.seen k.may_leave k.moment k.left_since old end bytes c.requires.durable c.write_at.new.self c.write_at.ensures.crash in
    let e1 = goes_on k.moment k.left_since old old c.write_at.new.self P (k.may_leave c.write_at.new.self) e0 c.write_at.ensures.time first in
    let e2 = goes_on k.moment k.left_since old c.write_at.new.self c.sync.new.self P (k.may_leave c.sync.new.self) e1 c.sync.ensures.time (λ f now. first f (c.sync.ensures.crash f now)) in
    let second = second_left k.seen k.may_leave k.moment k.left_since old end bytes c.requires.durable c.sync.new.self c.write_at-2.new.self (k.seen c.write_at.new.self) c.requires.within c.in_ok-write_at.ensures.written c.in_ok-sync.ensures.durable c.write_at-2.ensures.crash in
    let e3 = goes_on k.moment k.left_since old c.sync.new.self c.write_at-2.new.self P (k.may_leave c.write_at-2.new.self) e2 c.write_at-2.ensures.time second in
    let e4 = goes_on k.moment k.left_since old c.write_at-2.new.self c.sync-2.new.self P (k.may_leave c.sync-2.new.self) e3 c.sync-2.ensures.time (λ f now. second f (c.sync-2.ensures.crash f now)) in
    e4

pub returns-clause-makes : goal.returns-clause-makes
returns-clause-makes g c =
    let made = g.D.Disk.made in
    let end = c.args.end in
    let bytes = c.args.bytes.now in
    let first = c.write_at.new.self in
    let second = c.sync.new.self in
    let third = c.write_at-2.new.self in
    let last = does_last made third c.sync-2.new.self Syncs c.sync-2.result c.sync-2.ensures.makes in
    let three = does_before made second third c.sync-2.new.self (Writes end (1 ∷ [])) (Syncs ∷ []) c.sync-2.result c.in_ok-write_at-2.ensures.makes.done last in
    let two = does_before made first second c.sync-2.new.self Syncs (Writes end (1 ∷ []) ∷ Syncs ∷ []) c.sync-2.result c.in_ok-sync.ensures.makes.done three in
    does_before made c.args.disk.now first c.sync-2.new.self (Writes (end + 1) bytes) (Syncs ∷ Writes end (1 ∷ []) ∷ Syncs ∷ []) c.sync-2.result c.in_ok-write_at.ensures.makes.done two
