-- What the memory of a record's data has. A list of bytes is a slice of it.
use Rattle.std.specs.Prelude.{ℕ, List}
use Rattle.rec_id.specs.declared.bytes.Block.{Block}
use Rattle.rec_id.specs.declared.bytes.Block.TheVariants.{Short, Long}

abbrev pub bytes_of : Block → List ℕ
bytes_of (Short bytes) = bytes
bytes_of (Long bytes) = bytes
