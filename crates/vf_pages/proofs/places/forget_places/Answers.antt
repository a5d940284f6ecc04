use Rattle.std.proofs.Common.{◌<◌, slice_index, slice_set, length, ap, ◌∙◌, arith, ⊎_elim}
use Rattle.std.proofs.lemmas.Bool.{cases_eq, cases_lt}
use Rattle.std.proofs.lemmas.List.{get_or-set_other, get_or-set_same, get_or_past, length-set}
use Rattle.vf_pages.proofs.places.forget_places.Goals as goal

pub loop-i-preserved : goal.loop-i-preserved
loop-i-preserved c =
    let places = c.loop-i.places.items in
    let i = c.loop-i.i in
    let within : i < length places = omega (arith, c.loop-i-test.true, c.len-i-end.ensures, c.loop-i.invariant.long) in
    record {
      long = length-set places i 0 ∙ c.loop-i.invariant.long;
      none = λ p below. ⊎_elim
          (λ same. ap (slice_index (slice_set places i 0)) same ∙ get_or-set_same places i 0 0 within)
          (λ ne. get_or-set_other places i p 0 0 ne ∙ c.loop-i.invariant.none p (omega (arith, below, ne)))
          (cases_eq p i);
    }

pub returns-clause-none : goal.returns-clause-none
returns-clause-none c = λ p.
    ⊎_elim
    (λ below. c.loop-i.invariant.none p below)
    (λ past. get_or_past c.loop-i.places.items p 0 (omega (arith, past, c.loop-i.invariant.long, c.loop-i-test.false, c.len-i-end.ensures)))
    (cases_lt p c.loop-i.i)
