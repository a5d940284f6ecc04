use Rattle.vf_number.proofs.Digits.{are_digits}
use Rattle.vf_number.proofs.numbers.digits.Goals as goal

pub returns-then-is_digit_of-clause-digits : goal.returns-then-is_digit_of-clause-digits
returns-then-is_digit_of-clause-digits c = rw c.split.ensures.front (are_digits c.args.base c.args.text.now)
