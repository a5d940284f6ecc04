use Rattle.std.proofs.Common.{◌∙◌, sym, ap, length, slice_index, bit_or, arith, ⊎_elim}
use Rattle.std.proofs.lemmas.Bool.{cases_lt}
use Rattle.std.proofs.lemmas.List.{get_or_past}
use Rattle.std.specs.Int.Bits.{or_zero_r}
use Rattle.vf_frames.proofs.set.or_words.Goals as goal

pub returns-clause-each : goal.returns-clause-each
returns-clause-each c = λ k.
    let other = c.args.other.now.items in
    let now = c.args.words.now.items in
    ⊎_elim
    (λ within. c.loop-i.invariant.done k (omega (arith, within)))
    (λ past. c.loop-i.invariant.rest k (omega (arith, past)) ∙ sym (ap (bit_or (slice_index now k)) (get_or_past other k 0 past) ∙ or_zero_r (slice_index now k)))
    (cases_lt k (length other))
