-- All rows of clients that read and trim.
use Rattle.view_config.specs.Shape.{Dimensions}
use Rattle.log_facts.specs.Good.{ReaderRows, SeenRows}
use Rattle.reader_rows.proofs.Ask.{ask_good}
use Rattle.reader_rows.proofs.Part.{part_good}
use Rattle.reader_rows.proofs.ProbeAck.{probe_ack_good}
use Rattle.reader_rows.proofs.Seen.{seen_good}
use Rattle.reader_rows.proofs.TailReady.{tail_ready_good}
use Rattle.reader_rows.proofs.Tick.{tick_good}
use Rattle.reader_rows.proofs.Trim.{trim_good}
use Rattle.reader_rows.proofs.TrimAck.{trim_ack_good}
use Rattle.reader_rows.proofs.TrimmedAt.{trimmed_at_good}
use Rattle.reader_rows.proofs.ViewIs.{view_is_good}

pub reader_rows : (shape : Dimensions) → ReaderRows shape
reader_rows shape = record {
  probe_ack = λ view read g a sender c moment there heard. probe_ack_good shape g a sender c view read moment heard;
  tail_ready = λ view read tail g a sender c moment there heard. tail_ready_good shape g a sender c view read tail moment heard;
  part = λ read from end entries g a sender c moment there heard. part_good shape g a sender c read from end entries moment heard;
  view_is = λ config g a sender c moment there heard. view_is_good shape g a c moment config heard.said;
  trim_ack = λ read g a sender c moment there heard. trim_ack_good shape g a sender c read moment heard;
  trimmed_at = λ read floor g a sender c moment there heard. trimmed_at_good shape g a sender c read floor moment heard;
  tick = λ g a c moment there. tick_good shape g a c moment;
  ask = λ ask g a c moment there. ask_good shape g a c moment ask;
  trim = λ floor g a c moment there. trim_good shape g a c floor moment;
}

pub seen_rows : (shape : Dimensions) → SeenRows shape
seen_rows shape = record { seen = λ g a c from ids moment there shown. seen_good shape g a c from ids moment shown }
