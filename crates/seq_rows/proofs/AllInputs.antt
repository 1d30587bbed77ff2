-- All rows of sequencing replicas.
use Rattle.view_config.specs.Shape.{Dimensions}
use Rattle.log_facts.specs.Good.{SeqRows}
use Rattle.seq_rows.proofs.Append.{append_good}
use Rattle.seq_rows.proofs.NewView.{new_view_good}
use Rattle.seq_rows.proofs.Order.{order_good}
use Rattle.seq_rows.proofs.Ordered.{ordered_good}
use Rattle.seq_rows.proofs.Placed.{placed_good}
use Rattle.seq_rows.proofs.Probe.{probe_good}
use Rattle.seq_rows.proofs.Seal.{seal_good}
use Rattle.seq_rows.proofs.Tick.{tick_good}

pub seq_rows : (shape : Dimensions) → SeqRows shape
seq_rows shape = record {
  append = λ view id bytes g a sender me moment there heard. append_good shape g a sender me view id bytes moment heard;
  placed = λ view upto g a sender me moment there heard. placed_good shape g a sender me view upto moment heard;
  order = λ view from ids g a sender me moment there heard. order_good shape g a sender me view from ids moment heard;
  ordered = λ view upto g a sender me moment there heard. ordered_good shape g a sender me view upto moment heard;
  probe = λ view read g a sender me moment there heard. probe_good shape g a sender me view read moment heard;
  seal = λ view g a sender me moment there heard. seal_good shape g a me moment sender view heard;
  new_view = λ config base window g a sender me moment there heard. new_view_good shape g a sender me config base window moment heard;
  tick = λ g a me moment there. tick_good shape g a me moment;
}
