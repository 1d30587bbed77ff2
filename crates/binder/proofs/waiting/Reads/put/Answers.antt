use Rattle.std.proofs.Common.{◌≡◌, ◌<◌, false, length, map, cond, eqb, rules}
use Rattle.std.specs.Prelude.{vec_capacity}
use Rattle.lazy_rules.specs.Flight.{Probe, has_probe_of}
use Rattle.binder.proofs.Waits.{roster_stays, roster_more, room_more, written}
use Rattle.binder.proofs.waiting.Reads.put.Goals as goal

pub invariant_of-self : goal.invariant_of-self
invariant_of-self c =
    let reads = c.self.inside.waiting.items in
    let probe : Probe = record { client = c.args.client; read = c.args.number; target = c.args.target } in
    let is : c.replace.new.waiting ≡ map (λ (other : Probe). cond (eqb other.client probe.client) probe other) reads = search rules in
    rw (written reads c.replace.new.waiting c.self.inside.waiting.len (search rules))
    (roster_stays probe reads c.replace.new.waiting _ is c.self.invariant)

pub push_reserved-requires : goal.push_reserved-requires
push_reserved-requires c =
    let reads = c.self.inside.waiting.items in
    let probe : Probe = record { client = c.args.client; read = c.args.number; target = c.args.target } in
    let new : has_probe_of reads c.args.client ≡ false = search rules in
    let room : length reads < vec_capacity c.self.inside.waiting = room_more probe reads _ c.requires new c.self.invariant in
    search rules

pub invariant_of-self-else-waits : goal.invariant_of-self-else-waits
invariant_of-self-else-waits c =
    let reads = c.self.inside.waiting.items in
    let probe : Probe = record { client = c.args.client; read = c.args.number; target = c.args.target } in
    let new : has_probe_of reads c.args.client ≡ false = search rules in
    rw (c.push_reserved.ensures.items, c.push_reserved.ensures.capacity)
    (roster_more probe reads _ c.requires new c.self.invariant)
