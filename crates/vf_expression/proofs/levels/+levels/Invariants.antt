use Rattle.std.proofs.Common.{◌+◌, ◌*◌}
use Rattle.vf_expression.proofs.levels.+levels.Given as goal

abbrev pub decreases-first_at : goal.decreases-first_at
decreases-first_at l = 8 * l.level

abbrev pub decreases-in_pair : goal.decreases-in_pair
decreases-in_pair l = 8 * l.level + 1

abbrev pub decreases-in_select : goal.decreases-in_select
decreases-in_select l = 8 * l.level + 2

abbrev pub decreases-in_selects : goal.decreases-in_selects
decreases-in_selects l = 8 * l.level + 3

abbrev pub decreases-in_all : goal.decreases-in_all
decreases-in_all l = 8 * l.level + 1

abbrev pub decreases-in_repeat : goal.decreases-in_repeat
decreases-in_repeat l = 8 * l.level + 2

abbrev pub decreases-in_primary : goal.decreases-in_primary
decreases-in_primary l = 8 * l.level + 4

abbrev pub decreases-in_pick : goal.decreases-in_pick
decreases-in_pick l = 8 * l.level + 2

abbrev pub decreases-in_form : goal.decreases-in_form
decreases-in_form l = 8 * l.level + 5
