use Rattle.std.proofs.Common.{◌+◌, ◌*◌}
use Rattle.vf_spell.proofs.statements.+statements.Given as goal

abbrev pub decreases-spell_stmt : goal.decreases-spell_stmt
decreases-spell_stmt l = 4 * l.depth + 0

abbrev pub decreases-spell_block : goal.decreases-spell_block
decreases-spell_block l = 4 * l.depth + 1

abbrev pub decreases-spell_guarded : goal.decreases-spell_guarded
decreases-spell_guarded l = 4 * l.depth + 1

abbrev pub decreases-spell_if : goal.decreases-spell_if
decreases-spell_if l = 4 * l.depth + 1

abbrev pub decreases-spell_citem : goal.decreases-spell_citem
decreases-spell_citem l = 4 * l.depth + 1

abbrev pub decreases-spell_case : goal.decreases-spell_case
decreases-spell_case l = 4 * l.depth + 2

abbrev pub decreases-spell_simple : goal.decreases-spell_simple
decreases-spell_simple l = 4 * l.depth + 1

abbrev pub decreases-spell_stmt_form : goal.decreases-spell_stmt_form
decreases-spell_stmt_form l = 4 * l.depth + 3
