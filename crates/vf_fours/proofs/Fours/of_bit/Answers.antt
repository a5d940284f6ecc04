use Rattle.std.proofs.Common.{ap, sym, ◌∙◌}
use Rattle.vf_fours.specs.Planes.{bits_of, bit_from}
use Rattle.vf_fours.specs.Bits.{tabulate}
use Rattle.vf_fours.specs.Operators.{one_bit}
use Rattle.vf_fours.proofs.Fours.of_bit.Goals as goal

pub returns-in-Zero : goal.returns-in-Zero
unfolding bits_of bit_from tabulate
returns-in-Zero c = c.new.ensures ∙ ap one_bit (sym c.in-Zero.is)

pub returns-in-One : goal.returns-in-One
unfolding bits_of bit_from tabulate
returns-in-One c = c.new-in-One.ensures ∙ ap one_bit (sym c.in-One.is)

pub returns-in-X : goal.returns-in-X
unfolding bits_of bit_from tabulate
returns-in-X c = c.new-in-X.ensures ∙ ap one_bit (sym c.in-X.is)

pub returns-in-Z : goal.returns-in-Z
unfolding bits_of bit_from tabulate
returns-in-Z c = c.new-in-Z.ensures ∙ ap one_bit (sym c.in-Z.is)
