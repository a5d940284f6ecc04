use Rattle.vf_number.specs.Numbers.{is_decimal_byte}
use Rattle.vf_number.proofs.RunLemmas.{run_all}
use Rattle.vf_number.proofs.numbers.number_at.Goals as goal

pub plain_or_based-requires : goal.plain_or_based-requires
plain_or_based-requires c = rw c.split.ensures.front (run_all is_decimal_byte c.args.text.now)
