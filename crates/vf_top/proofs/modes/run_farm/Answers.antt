use Rattle.vf_top.proofs.WorkLemmas.{farm_worked}
use Rattle.vf_top.proofs.modes.run_farm.Goals as goal

pub returns-in-Ok-clause-worked : goal.returns-in-Ok-clause-worked
returns-in-Ok-clause-worked g c = λ words shelf accepted.
    farm_worked words shelf c.args.command.now c.args.design c.args.plan c.args.steps.now c.farm_lines.new.steps c.in-Ok.lines c.requires.mode accepted c.in-Ok.ensures.farm
