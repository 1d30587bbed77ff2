use Rattle.world_facts.proofs.sizes.Sent.{fit_all, fit_in_one}
use Rattle.world_facts.proofs.fitting.every_message_fits.Goals as goal

pub returns-clause-in_one : goal.returns-clause-in_one
returns-clause-in_one c = fit_in_one

pub returns-clause-in_both : goal.returns-clause-in_both
returns-clause-in_both c = fit_all
