use Rattle.std.proofs.Common.{refl, ◌∙◌, inl, inr, length, arith}
use Rattle.std.specs.Prelude.{pos, neg_ℤ, ◌≤ℤ◌}
use Rattle.std.proofs.lemmas.Int.{ints}
use Rattle.vf_fours.specs.Operators.{select_of}
use Rattle.vf_fours.proofs.ListLemmas.{same_state}
use Rattle.vf_fours.proofs.OperatorLemmas.{select_outside}
use Rattle.vf_fours.proofs.Fours.select.Goals as goal
use Rattle.vf_fours.proofs.Fours.select.Goals.{then-low-from-via-then-low-from, then-low-from-via-else-low-from+then-low-from-2}

pub returns-then-low-from-clause-value : goal.returns-then-low-from-clause-value
unfolding select_of
returns-then-low-from-clause-value c =
    let bits = c.args.self.bits in
    let width = c.args.width in
    elim c.then-low-from.branch [
      | then-low-from-via-then-low-from w ↦
          let above : pos (length bits) ≤ℤ c.args.low = omega (arith, ints) in
          c.all_x.ensures.value ∙ same_state (select_outside bits c.args.low width (inl above)) refl
      | then-low-from-via-else-low-from+then-low-from-2 w ↦
          let below : c.args.low ≤ℤ neg_ℤ (pos width) = omega (arith, ints) in
          c.all_x.ensures.value ∙ same_state (select_outside bits c.args.low width (inr below)) refl
    ]
