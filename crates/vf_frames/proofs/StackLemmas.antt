-- The stack of free frames under a written number.
use Rattle.std.proofs.Common.{◌≡◌, ◌≢◌, ℕ, ◌+◌, ◌<◌, ◌≤◌, true, false, cond, not, ◌==◌, List, [], ◌∷◌, ◌++◌, length, slice_index, slice_set, get_or, refl, sym, ap, ◌∙◌, arith, ne_eqb, eq-eqb, eqb-true, ⊎_elim}
use Rattle.std.proofs.lemmas.Bool.{cases_eq, both_ways, and_parts, and_from, not-true, or_cases, or_left, or_right, not_from_false, false_from_ne_true}
use Rattle.std.proofs.lemmas.List.{get_or-set_other, get_or-set_same, length-set, length_push}
use Rattle.std.proofs.lemmas.List.Sums.{sum_by-set, count_by-le-length, get_or-le-sum_by}
use Rattle.vf_frames.specs.Numbers.{has, apart}
use Rattle.vf_frames.specs.FreeFrames.{zeros, IsFreeStack}
use Rattle.vf_frames.proofs.ListLemmas.{has-snoc, apart-snoc}

zeros-set : (ns : List ℕ) (f y : ℕ) → f < length ns → zeros (slice_set ns f y) + cond (slice_index ns f == 0) 1 0 ≡ zeros ns + cond (y == 0) 1 0
zeros-set ns f y h = sum_by-set (λ n. cond (n == 0) 1 0) ns f y 0 h

on-top : (stack rest : List ℕ) (f : ℕ) → stack ≡ rest ++ f ∷ [] → has f stack ≡ true
on-top stack rest f e = ap (has f) e ∙ has-snoc f rest f ∙ or_left (f == f) (has f rest) (eq-eqb f f refl)

below-top : (stack rest : List ℕ) (f g : ℕ) → stack ≡ rest ++ f ∷ [] → has g rest ≡ true → has g stack ≡ true
below-top stack rest f g e h = ap (has g) e ∙ has-snoc g rest f ∙ or_right (g == f) (has g rest) h

-- the top frame is a free one
pub stack-top : (ns stack rest : List ℕ) (f : ℕ) → IsFreeStack ns stack → stack ≡ rest ++ f ∷ [] → (f < length ns) × (slice_index ns f ≡ 0)
stack-top ns stack rest f s e = (s.within f (on-top stack rest f e), s.free f (on-top stack rest f e))

-- a number that is in the list is none that is not
pub apart_from : (xs : List ℕ) (f g : ℕ) → has f xs ≡ false → has g xs ≡ true → g ≢ f
apart_from xs f g absent present e = both_ways (has f xs) absent (ap (λ n. has n xs) (sym e) ∙ present)

-- the top frame is taken
pub stack-pop : (ns stack rest : List ℕ) (f : ℕ) → IsFreeStack ns stack → stack ≡ rest ++ f ∷ [] → IsFreeStack (slice_set ns f 1) rest
stack-pop ns stack rest f s e =
    let top = on-top stack rest f e in
    let within = s.within f top in
    let zero_at = s.free f top in
    let parts = and_parts (not (has f rest)) (apart rest) (sym (apart-snoc rest f) ∙ ap apart (sym e) ∙ s.once) in
    let len : length stack ≡ length rest + 1 = ap length e ∙ length_push rest f in
    let z = zeros-set ns f 1 within in
    record {
      once = parts.1;
      within = λ g h. omega (arith, s.within g (below-top stack rest f g e h), length-set ns f 1);
      free = λ g h. get_or-set_other ns f g 1 0 (apart_from rest f g (not-true (has f rest) parts.0) h) ∙ s.free g (below-top stack rest f g e h);
      all = omega (arith, s.all, rw zero_at at z);
    }

-- a frame whose number falls to 0 is put on top
pub stack-push : (ns stack : List ℕ) (f : ℕ) → IsFreeStack ns stack → f < length ns → slice_index ns f ≡ 1 → IsFreeStack (slice_set ns f 0) (stack ++ f ∷ [])
stack-push ns stack f s h one =
    let new : has f stack ≡ false = false_from_ne_true (has f stack) (λ e. absurd (omega (arith, s.free f e))) in
    let z = zeros-set ns f 0 h in
    record {
      once = apart-snoc stack f ∙ and_from (not (has f stack)) (apart stack) (not_from_false (has f stack) new) s.once;
      within = λ g e. ⊎_elim
          (λ same. omega (arith, eqb-true g f same, length-set ns f 0))
          (λ old. omega (arith, s.within g old, length-set ns f 0))
          (or_cases (g == f) (has g stack) (sym (has-snoc g stack f) ∙ e));
      free = λ g e. ⊎_elim
          (λ same. ap (λ n. get_or (slice_set ns f 0) n 0) (eqb-true g f same) ∙ get_or-set_same ns f 0 0 h)
          (λ old. get_or-set_other ns f g 0 0 (apart_from stack f g new old) ∙ s.free g old)
          (or_cases (g == f) (has g stack) (sym (has-snoc g stack f) ∙ e));
      all = omega (arith, s.all, length_push stack f, rw one at z);
    }

-- a number that stays 0 or stays above 0
pub stack-keep : (ns stack : List ℕ) (f y : ℕ) → IsFreeStack ns stack → f < length ns → (y == 0) ≡ (slice_index ns f == 0) → IsFreeStack (slice_set ns f y) stack
stack-keep ns stack f y s h e =
    let z = zeros-set ns f y h in
    let same = ap {B = ℕ} (λ b. cond b 1 0) e in
    record {
      once = s.once;
      within = λ g there. omega (arith, s.within g there, length-set ns f y);
      free = λ g there. ⊎_elim
          (λ at. ap (λ n. get_or (slice_set ns f y) n 0) at ∙ get_or-set_same ns f y 0 h ∙ eqb-true y 0 (e ∙ eq-eqb (slice_index ns f) 0 (ap (slice_index ns) (sym at) ∙ s.free g there)))
          (λ other. get_or-set_other ns f g y 0 other ∙ s.free g there)
          (cases_eq g f);
      all = omega (arith, s.all, z, same);
    }

-- where some number is above 0 the stack is not full
pub stack-room : (ns stack : List ℕ) (f : ℕ) → IsFreeStack ns stack → f < length ns → 0 < slice_index ns f → length stack < length ns
stack-room ns stack f s h above =
    let z = zeros-set ns f 0 h in
    let none = ap {B = ℕ} (λ b. cond b 1 0) (ne_eqb (slice_index ns f) 0 (λ e. absurd (omega arith))) in
    omega (arith, s.all, z, none, count_by-le-length (λ n. n == 0) (slice_set ns f 0), length-set ns f 0)

-- where the stack is empty every number is above 0
pub stack-empty : (ns : List ℕ) → zeros ns ≡ 0 → (f : ℕ) → f < length ns → 1 ≤ slice_index ns f
stack-empty ns z f h =
    ⊎_elim
    (λ e. let one = ap {B = ℕ} (λ b. cond b 1 0) (eq-eqb (slice_index ns f) 0 e) in
    absurd (omega (arith, get_or-le-sum_by (λ n. cond (n == 0) 1 0) ns f 0 h)))
    (λ ne. omega arith)
    (cases_eq (slice_index ns f) 0)
