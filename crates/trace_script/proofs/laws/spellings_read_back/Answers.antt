use Rattle.trace_script.proofs.Spelling.{reads_back}
use Rattle.trace_script.proofs.laws.spellings_read_back.Goals as goal

pub returns : goal.returns
returns c = reads_back
