use Rattle.std.proofs.Common.{Ok}
use Rattle.vf_number.proofs.Taking.{number_takes}
use Rattle.vf_number.proofs.laws.numbers_take.Goals as goal

pub returns : goal.returns
returns c = λ text value rest is. number_takes text (Ok (value, rest)) is
