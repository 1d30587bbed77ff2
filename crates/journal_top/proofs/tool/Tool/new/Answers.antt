use Rattle.std.proofs.Common.{ap}
use Rattle.journal_disk.specs.Past.{Memory}
use Rattle.journal_top.proofs.Reopening.{first}
use Rattle.journal_top.proofs.tool.Tool.new.Goals as goal

pub open_disk-requires : goal.open_disk-requires
open_disk-requires c = record { none_to_fail = ap (λ (d : Memory). d.meter.to_fail) c.in_ok-new.ensures; no_stop = ap (λ (d : Memory). d.meter.stops_in) c.in_ok-new.ensures }

pub invariant_of-result : goal.invariant_of-result
invariant_of-result c =
    (first c.new-store.result c.in_ok-journal.journal c.args.shard c.in_ok-journal.field-0-1 c.in_ok-new.field-0 c.requires c.new-store.ensures (ap (λ (d : Memory). d.tape.past) c.in_ok-new.ensures) c.in_ok-journal.ensures).tool

pub returns : goal.returns
returns c =
    (first c.new-store.result c.in_ok-journal.journal c.args.shard c.in_ok-journal.field-0-1 c.in_ok-new.field-0 c.requires c.new-store.ensures (ap (λ (d : Memory). d.tape.past) c.in_ok-new.ensures) c.in_ok-journal.ensures).state_is
