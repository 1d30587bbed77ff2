use Rattle.std.proofs.Common.{◌≡◌, ◌+◌, ◌^◌, ◌<◌, ◌≤◌, ◌++◌, length, take, drop}
use Rattle.shard_store.specs.Settling.{settled_all, held_beside_all, given_back}
use Rattle.shard_store.proofs.forecast.foresee_all.Given as goal

abbrev pub invariant-loop-draft : goal.invariant-loop-draft
invariant-loop-draft l =
    let back = given_back l.mode (take l.from l.order.cells) l.held.records (drop l.from l.order.cells) in
    record {
      room : length l.drafts.items ≤ l.made.spare;
      short : length l.made.cells + length l.drafts.items < 2 ^ 32;
      all : l.made.cells ++ settled_all (held_beside_all back l.made.cells) l.drafts.items ≡ settled_all back l.initial.drafts.items;
    }

abbrev pub decreases-loop-draft : goal.decreases-loop-draft
decreases-loop-draft l = length l.drafts.items
