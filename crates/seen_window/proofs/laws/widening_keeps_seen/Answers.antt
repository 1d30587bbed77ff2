use Rattle.seen_window.proofs.LawLemmas.{seen_widened, top_widened, image_widened}
use Rattle.seen_window.proofs.laws.widening_keeps_seen.Goals as goal

pub returns-clause-seen : goal.returns-clause-seen
returns-clause-seen c image id narrow inside some = seen_widened image id narrow inside some

pub returns-clause-top : goal.returns-clause-top
returns-clause-top c image client inside = top_widened image client inside

pub returns-clause-image : goal.returns-clause-image
returns-clause-image c image is = (image_widened image is).0

pub returns-clause-words : goal.returns-clause-words
returns-clause-words c image is = (image_widened image is).1
