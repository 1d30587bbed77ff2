use Rattle.frame_recode.proofs.Recoding.{is_text_of, only_texts}
use Rattle.frame_recode.proofs.laws.lines_are_hexadecimal.Goals as goal

pub returns : goal.returns
returns c = record { text = is_text_of; only = only_texts }
