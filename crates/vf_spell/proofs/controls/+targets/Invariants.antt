use Rattle.std.proofs.Common.{◌+◌, ◌*◌}
use Rattle.vf_spell.proofs.controls.+targets.Given as goal

abbrev pub decreases-spell_target_within : goal.decreases-spell_target_within
decreases-spell_target_within l = 4 * l.depth + 0

abbrev pub decreases-spell_targets : goal.decreases-spell_targets
decreases-spell_targets l = 4 * l.depth + 1

abbrev pub decreases-spell_target_form : goal.decreases-spell_target_form
decreases-spell_target_form l = 4 * l.depth + 2
