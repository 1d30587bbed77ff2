-- What a trim that is done asked for is given up at every replica of the newest configuration.
use Rattle.std.proofs.Common.{arith}
use Rattle.view_config.specs.Shape.{Dimensions}
use Rattle.rec_id.specs.declared.item.Body.TheVariants.{Kept}
use Rattle.lazy_rules.specs.WorldState.{WorldState}
use Rattle.log_facts.specs.Ghosts.{Ghost}
use Rattle.log_facts.specs.Handed.{CellFloored}
use Rattle.log_facts.specs.Promises.{Trimmed, replica}
use Rattle.log_facts.proofs.Places.{each_from_first}
use Rattle.log_facts.proofs.lines.Finals.{IsAgreed, listed}

pub trimmed : (shape : Dimensions) (g : Ghost) (w : WorldState) → IsAgreed shape g w → Trimmed w
trimmed shape g w is = record {
  floors = λ client read floor shard d done h. is.agreed.told.of_data.trimmed client read floor done shard d (listed shape g w is shard d h);
  gone = λ d place bytes id below here.
      let kept : CellFloored (replica w d).store.floor place (record { id = id; body = Kept bytes }) = each_from_first (CellFloored (replica w d).store.floor) (replica w d).store.order (is.agreed.shards.stores d).floored place (record { id = id; body = Kept bytes }) here in
      omega (arith, kept);
}
