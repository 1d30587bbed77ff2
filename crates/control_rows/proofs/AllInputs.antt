-- The controller's rows: whatever it is given, its step is good.
use Rattle.view_config.specs.Shape.{Dimensions}
use Rattle.log_facts.specs.Good.{ControlRows}
use Rattle.control_rows.proofs.Flushed.{good_flushed}
use Rattle.control_rows.proofs.Sealed.{good_sealed, good_sealed_empty}
use Rattle.control_rows.proofs.Suspect.{good_suspect}
use Rattle.control_rows.proofs.Telling.{good_ask_view, good_control_tick, good_started}

pub control_rows : (shape : Dimensions) → ControlRows shape
control_rows shape = record {
  sealed = λ view bound window items g a sender moment heard. good_sealed shape g a moment view sender bound window items heard.said;
  sealed_empty = λ view g a sender moment heard. good_sealed_empty shape g a moment view sender heard.said;
  flushed = λ view g a sender moment heard. good_flushed shape g a moment sender view heard.said;
  started = λ view g a sender moment heard. good_started shape g a moment sender view;
  ask_view = λ g a sender moment heard. good_ask_view shape g a moment sender;
  tick = λ g a moment. good_control_tick shape g a moment;
  suspect = λ node g a moment. good_suspect shape g a moment node;
}
