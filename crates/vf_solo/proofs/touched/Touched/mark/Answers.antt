use Rattle.std.proofs.Common.{◌≡◌, ℕ, ◌+◌, ◌<◌, Bool, true, false, List, length, get_or, slice_set, sym, ◌∙◌, ap, arith, subst}
use Rattle.std.proofs.lemmas.List.{length-set}
use Rattle.vf_solo.specs.Flags.{flag_at, flags_set}
use Rattle.vf_solo.proofs.FlagLemmas.{flags_set-one, flags_set-le}
use Rattle.vf_solo.proofs.touched.Touched.mark.Goals as goal

-- a flag that was read as not set is not set
flag_off : (flags : List Bool) (page : ℕ) (read : Bool) → read ≡ get_or flags page read → read ≡ false → flag_at flags page ≡ false
flag_off flags page read is off = ap (get_or flags page) (sym off) ∙ sym is ∙ off

one_more : (flags : List Bool) (page count : ℕ) (read : Bool) → page < length flags → read ≡ get_or flags page read → read ≡ false → count ≡ flags_set flags
    → count + 1 ≡ flags_set (slice_set flags page true)
one_more flags page count read within is off counted = omega (arith, counted, flags_set-one flags page within (flag_off flags page read is off))

pub overflow_add-self : goal.overflow_add-self
overflow_add-self c =
    let flags = c.self.inside.flags.items in
    let within = subst (λ (fs : List Bool). c.args.page < length fs) (sym c.self.view_is) c.requires in
    let more = one_more flags c.args.page c.self.inside.count c.index.result.now within c.index.ensures c.if-not-index.true c.self.invariant.0 in
    omega (arith, more, flags_set-le (slice_set flags c.args.page true), length-set flags c.args.page true, c.self.invariant.1)

pub invariant_of-self : goal.invariant_of-self
invariant_of-self c =
    let flags = c.self.inside.flags.items in
    let within = subst (λ (fs : List Bool). c.args.page < length fs) (sym c.self.view_is) c.requires in (
      one_more flags c.args.page c.self.inside.count c.index.result.now within c.index.ensures c.if-not-index.true c.self.invariant.0,
      omega (arith, length-set flags c.args.page true, c.self.invariant.1),
    )
