use Rattle.std.proofs.Common.{◌≡◌, true, false, arith, rules}
use Rattle.std.specs.List.{list_all}
use Rattle.std.proofs.lemmas.Grind.{common_steps}
use Rattle.view_config.specs.Shape.{node_of}
use Rattle.lazy_rules.specs.Door.{has_client, is_shard_replica, name_of}
use Rattle.log_reader.proofs.Doors.{part_taken, part_turned_away}
use Rattle.log_reader.proofs.reader.LogReader.part.Goals as goal

pub returns-then-not-are_of_clients : goal.returns-then-not-are_of_clients
returns-then-not-are_of_clients c =
    let r = c.args.self.now in
    let entries = c.args.entries.now in
    let named : list_all (λ placed. has_client r.shape (name_of placed.1)) entries ≡ false = grind (arith, common_steps) in
    rw (part_turned_away r c.args.sender c.args.number c.args.from c.args.end entries named) (search rules)

pub returns : goal.returns
returns c =
    let r = c.args.self.now in
    let entries = c.args.entries.now in
    let due : is_shard_replica (node_of r.shape c.args.sender) ≡ true = grind (arith, common_steps) in
    let named : list_all (λ placed. has_client r.shape (name_of placed.1)) entries ≡ true = grind (arith, common_steps) in
    rw (part_taken r c.args.sender c.args.number c.args.from c.args.end entries due named) c.on_part.ensures
