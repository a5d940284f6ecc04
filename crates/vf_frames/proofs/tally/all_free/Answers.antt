use Rattle.std.proofs.Common.{◌-◌, not, ◌==◌, ◌∙◌, sym, ap, arith, ⊎_elim, eqb-true}
use Rattle.std.proofs.lemmas.Bool.{and_from, or_cases, not_from_false, false_from_ne_true}
use Rattle.vf_frames.specs.Numbers.{has, apart}
use Rattle.vf_frames.proofs.ListLemmas.{has-snoc, apart-snoc}
use Rattle.vf_frames.proofs.tally.all_free.Goals as goal

pub loop-i-preserved : goal.loop-i-preserved
loop-i-preserved c =
    let old = c.loop-i.free.items in
    let frame = c.args.frames - 1 - c.loop-i.i in
    record {
      len = omega (arith, c.push_reserved.ensures.len);
      room = omega (arith, c.push_reserved.ensures.capacity);
      once = rw (c.push_reserved.ensures.items, apart-snoc old frame)
          (and_from (not (has frame old)) (apart old)
          (not_from_false (has frame old) (false_from_ne_true (has frame old) (λ e. absurd (omega (arith, c.loop-i.invariant.each frame e)))))
          c.loop-i.invariant.once);
      each = λ f e. ⊎_elim
          (λ same. let at = eqb-true f frame same in (omega arith, omega arith))
          (λ before. let at = c.loop-i.invariant.each f before in (omega arith, omega arith))
          (or_cases (f == frame) (has f old) (sym (has-snoc f old frame) ∙ ap (has f) (sym c.push_reserved.ensures.items) ∙ e));
    }
