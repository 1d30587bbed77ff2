-- All rows of clients that append.
use Rattle.view_config.specs.Shape.{Dimensions}
use Rattle.log_facts.specs.Good.{ClientRows}
use Rattle.client_rows.proofs.AppendAck.{append_ack_good}
use Rattle.client_rows.proofs.DataAck.{data_ack_good}
use Rattle.client_rows.proofs.Post.{post_good}
use Rattle.client_rows.proofs.Rejected.{rejected_good}
use Rattle.client_rows.proofs.Tick.{tick_good}
use Rattle.client_rows.proofs.ViewIs.{view_is_good}

pub client_rows : (shape : Dimensions) → ClientRows shape
client_rows shape = record {
  append_ack = λ view id g a sender c moment there heard. append_ack_good shape g a sender c view id moment heard;
  data_ack = λ view id g a sender c moment there heard. data_ack_good shape g a sender c view id moment heard;
  rejected = λ id place g a sender c moment there heard. rejected_good shape g a sender c id place moment heard;
  view_is = λ config g a sender c moment there heard. view_is_good shape g a c moment config heard.said;
  tick = λ g a c moment there. tick_good shape g a c moment;
  post = λ bytes g a c moment there. post_good shape g a c moment there bytes;
}
