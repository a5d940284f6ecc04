use Rattle.vf_jobs.proofs.limits.+raise.Given as goal

abbrev pub decreases-raise : goal.decreases-raise
decreases-raise l = l.at.0
