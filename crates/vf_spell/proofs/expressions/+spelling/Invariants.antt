use Rattle.std.proofs.Common.{◌+◌, ◌*◌}
use Rattle.vf_spell.proofs.expressions.+spelling.Given as goal

abbrev pub decreases-spell_within : goal.decreases-spell_within
decreases-spell_within l = 8 * l.depth + 0

abbrev pub decreases-spell_pair : goal.decreases-spell_pair
decreases-spell_pair l = 8 * l.depth + 1

abbrev pub decreases-spell_select_within : goal.decreases-spell_select_within
decreases-spell_select_within l = 8 * l.depth + 2

abbrev pub decreases-spell_all : goal.decreases-spell_all
decreases-spell_all l = 8 * l.depth + 1

abbrev pub decreases-spell_primary : goal.decreases-spell_primary
decreases-spell_primary l = 8 * l.depth + 3

abbrev pub decreases-spell_form : goal.decreases-spell_form
decreases-spell_form l = 8 * l.depth + 4
