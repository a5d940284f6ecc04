use Rattle.std.proofs.Common.{take, drop, ap, ◌∙◌}
use Rattle.vf_number.proofs.RunLemmas.{split_front, split_after}
use Rattle.vf_number.proofs.runs.ByteClass.split.Goals as goal

pub returns-clause-front : goal.returns-clause-front
returns-clause-front g c = c.split_at.ensures.front ∙ ap (λ n. take n c.args.text.now) c.run_length.ensures
    ∙ split_front _ c.args.text.now

pub returns-clause-rest : goal.returns-clause-rest
returns-clause-rest g c = c.split_at.ensures.back ∙ ap (λ n. drop n c.args.text.now) c.run_length.ensures
    ∙ split_after _ c.args.text.now
