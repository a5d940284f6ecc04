use Rattle.vf_number.proofs.Numbering.{found_from, shorter_from, refused_from}
use Rattle.vf_number.proofs.numbers.number.Goals as goal

pub returns-clause-found : goal.returns-clause-found
returns-clause-found c = found_from (λ r. (r.0, r.1.now)) c.args.text.now c.number_at.result c.requires c.number_at.ensures

pub returns-clause-shorter : goal.returns-clause-shorter
returns-clause-shorter c = shorter_from (λ r. (r.0, r.1.now)) c.args.text.now c.number_at.result c.requires c.number_at.ensures

pub returns-clause-refused : goal.returns-clause-refused
returns-clause-refused c = refused_from (λ r. (r.0, r.1.now)) c.args.text.now c.number_at.result c.requires c.number_at.ensures
