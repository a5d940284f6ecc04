-- A list has no more events than have numbers.
use Rattle.std.proofs.Common.{◌≡◌, ℕ, zero, suc, ◌+◌, ◌<◌, ◌≤◌, List, [], ◌∷◌, length, refl, ap, arith, ⊎_elim, if◌then◌else◌}
use Rattle.std.proofs.lemmas.Bool.{eq-eqb, ne_eqb, cases_eq}
use Rattle.vf_elaborated.specs.Elaborated.{Elaborated}
use Rattle.vf_scheduler.specs.State.{State, Item, of_process, of_slot}
use Rattle.vf_scheduler.specs.Sound.{times}
use Rattle.vf_scheduler.specs.Words.{numbers}
use Rattle.vf_scheduler.proofs.CallerLemmas.{times_here}
use Rattle.vf_layout.specs.Regions.{Region, ActiveRegion, InactiveRegion, NonblockingRegion, FutureRegion, StrobeRegion, list_in, HasLink, number, IsQueued}
use Rattle.vf_layout.proofs.Chained.{count_in}
use Rattle.vf_layout.proofs.Counts.{at_most_once}
use Rattle.vf_layout.proofs.Lists.{has_link}

-- how often the numbers below one stand in a list
abbrev count_below : ℕ → List ℕ → ℕ
count_below zero list = 0
count_below (suc n) list = count_below n list + count_in n list

none_below : (n : ℕ) → count_below n [] ≡ 0
none_below zero = refl
none_below (suc n) = omega (arith, none_below n)

-- one more stands below a bound
not_yet : (n x : ℕ) (list : List ℕ) → n ≤ x → count_below n (x ∷ list) ≡ count_below n list
not_yet zero x list h = refl
not_yet (suc n) x list h =
    let other = ap (λ b. (if b then 1 else 0) + count_in n list) (ne_eqb x n (λ same. omega (arith, h, same))) in
    omega (arith, other, not_yet n x list (omega (arith, h)))

one_more : (n x : ℕ) (list : List ℕ) → x < n → count_below n (x ∷ list) ≡ count_below n list + 1
one_more zero x list h = absurd (omega (arith, h))
one_more (suc n) x list h =
    ⊎_elim
    (λ same. let here = ap (λ b. (if b then 1 else 0) + count_in n list) (eq-eqb x n same) in omega (arith, here, not_yet n x list (omega (arith, same))))
    (λ other. let there = ap (λ b. (if b then 1 else 0) + count_in n list) (ne_eqb x n other) in omega (arith, there, one_more n x list (omega (arith, h, other))))
    (cases_eq x n)

once_each : (n : ℕ) (list : List ℕ) → ((m : ℕ) → count_in m list ≤ 1) → count_below n list ≤ n
once_each zero list most = omega arith
once_each (suc n) list most = omega (arith, once_each n list most, most n)

module _ (d : Elaborated) (s : State) (queued : IsQueued d s) (r : Region) where
  pub numbered_below : (item : Item) → HasLink d s item → number d item < length d.processes + d.slots
  numbered_below (of_process p) has = omega (arith, has)
  numbered_below (of_slot q) has = omega (arith, has.0)

  all_counted : (list : List Item) → ((item : Item) → 1 ≤ times item list → HasLink d s item) → count_below (length d.processes + d.slots) (numbers d s list) ≡ length list
  all_counted [] all = none_below (length d.processes + d.slots)
  all_counted (item ∷ rest) all =
      let below = numbered_below item (all item (omega (arith, times_here item rest))) in
      omega (
        arith,
        one_more (length d.processes + d.slots) (number d item) (numbers d s rest) below,
        all_counted rest (λ other h. all other (omega (arith, h))),
      )

  in_all : (r : Region) (m : ℕ) → count_in m (numbers d s (list_in r s)) ≤ 1
  in_all ActiveRegion m = omega (arith, at_most_once d s queued m)
  in_all InactiveRegion m = omega (arith, at_most_once d s queued m)
  in_all NonblockingRegion m = omega (arith, at_most_once d s queued m)
  in_all FutureRegion m = omega (arith, at_most_once d s queued m)
  in_all StrobeRegion m = omega (arith, at_most_once d s queued m)

  pub few_events : length (list_in r s) ≤ length d.processes + d.slots
  few_events =
      omega (
        arith,
        all_counted (list_in r s) (λ item h. has_link d s queued r item (list_in r s) refl h),
        once_each (length d.processes + d.slots) (numbers d s (list_in r s)) (in_all r),
      )
