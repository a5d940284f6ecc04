use Rattle.std.proofs.Common.{false, length, sym, ◌∙◌, ap, arith}
use Rattle.std.proofs.lemmas.List.{length-replicate}
use Rattle.vf_solo.specs.Flags.{flags_set}
use Rattle.vf_solo.proofs.FlagLemmas.{flags_set-none}
use Rattle.vf_solo.proofs.touched.Touched.new.Goals as goal

pub invariant_of-result : goal.invariant_of-result
invariant_of-result c =
    let falses = c.in_ok-vec.ensures.items_if_clones_equal (λ y e. e) in (
      sym (ap flags_set falses ∙ flags_set-none c.args.pages),
      omega (arith, ap length falses, length-replicate c.args.pages false),
    )
