use Rattle.vf_item.proofs.Wholes.{readings_are}
use Rattle.vf_item.proofs.laws.readings_are_items.Goals as goal

pub returns : goal.returns
returns c = readings_are
