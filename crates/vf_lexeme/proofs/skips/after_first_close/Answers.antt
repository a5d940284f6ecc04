use Rattle.std.proofs.Common.{sym, ◌∙◌}
use Rattle.std.proofs.lemmas.List.{nil_from_length}
use Rattle.vf_lexeme.proofs.Skipping.{star_here, star_later, star_nowhere}
use Rattle.vf_lexeme.proofs.skips.after_first_close.Goals as goal

pub returns-in-Some-after_close : goal.returns-in-Some-after_close
returns-in-Some-after_close c =
    sym (c.loop-more.invariant ∙ star_here c.args.close _ c.in-Some.more.now c.loop-more.rest.now
    c.in-Some-after_close.after.now c.in-Some.ensures.cases.0
    (sym c.in-Some-after_close.ensures))

pub loop-more-preserved : goal.loop-more-preserved
loop-more-preserved c =
    c.loop-more.invariant ∙ star_later c.args.close _ c.in-Some.more.now c.loop-more.rest.now c.in-Some.ensures.cases.0
    (sym c.in_default-after_close.ensures)

pub returns : goal.returns
returns c = sym (c.loop-more.invariant
    ∙ star_nowhere c.args.close c.loop-more.rest.now (nil_from_length _ c.in_default.ensures.cases))
