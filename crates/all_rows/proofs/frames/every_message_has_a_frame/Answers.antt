use Rattle.all_rows.proofs.Everywhere.{messages_fit}
use Rattle.all_rows.proofs.Rows.{all_rows}
use Rattle.all_rows.proofs.frames.every_message_has_a_frame.Goals as goal

pub returns : goal.returns
returns c = messages_fit all_rows
