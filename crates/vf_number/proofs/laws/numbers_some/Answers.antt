use Rattle.vf_number.specs.Reading.{number_at}
use Rattle.vf_number.proofs.Numbering.{number_sound, number_begins}
use Rattle.vf_number.proofs.laws.numbers_some.Goals as goal

pub returns : goal.returns
returns c = (λ text begins. (number_at text, number_sound text begins), λ text seen is. number_begins text seen is)
