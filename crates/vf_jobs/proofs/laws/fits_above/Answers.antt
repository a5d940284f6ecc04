use Rattle.vf_jobs.proofs.LimitLemmas.{fits_further_up}
use Rattle.vf_jobs.proofs.laws.fits_above.Goals as goal

pub returns : goal.returns
returns c = fits_further_up
