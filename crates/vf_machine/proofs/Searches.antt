-- What a search below a bound finds.
use Rattle.std.proofs.Common.{◌≡◌, ℕ, zero, suc, ◌<◌, Bool, true, false, Option, Some, None, cond, refl, sym, ◌∙◌, ap, arith, ⊎_elim}
use Rattle.std.proofs.lemmas.Bool.{cases_lt, false≢true}
use Rattle.vf_machine.specs.Search.{first}

-- the least number below the bound that passes
pub record IsFirst (p : ℕ → Bool) (n i : ℕ) : Type 0 where
  pub below : i < n
  pub passes : p i ≡ true
  pub least : (j : ℕ) → j < i → p j ≡ false

abbrev pub NoneBelow : (ℕ → Bool) → ℕ → Type 0
NoneBelow p n = (j : ℕ) → j < n → p j ≡ false

-- what a search tells
abbrev pub Finds : (ℕ → Bool) → ℕ → Option ℕ → Type 0
Finds p n None = NoneBelow p n
Finds p n (Some i) = IsFirst p n i

pub none_below_more : (p : ℕ → Bool) (n : ℕ) → NoneBelow p n → p n ≡ false → NoneBelow p (suc n)
none_below_more p n none here j h =
    ⊎_elim (λ lt. none j lt) (λ ge. let same : j ≡ n = omega arith in ap p same ∙ here) (cases_lt j n)

finds_more : (p : ℕ → Bool) (n : ℕ) (found : Option ℕ) (here : Bool) → p n ≡ here → Finds p n found
    → Finds p (suc n) (elim found [ Some i ↦ Some i | None ↦ cond here (Some n) None ])
finds_more p n (Some i) here e f = record { below = omega (arith, f.below); passes = f.passes; least = f.least }
finds_more p n None true e f = record { below = omega arith; passes = e; least = f }
finds_more p n None false e f = none_below_more p n f e

pub first_finds : (p : ℕ → Bool) (n : ℕ) → Finds p n (first p n)
unfolding first
first_finds p zero = λ j h. absurd (omega arith)
first_finds p (suc n) = finds_more p n (first p n) (p n) refl (first_finds p n)

-- the least one is the one that is found
first_is_by : (p : ℕ → Bool) (n i : ℕ) (found : Option ℕ) → Finds p n found → IsFirst p n i → found ≡ Some i
first_is_by p n i None none f = absurd (false≢true (sym (none i f.below) ∙ f.passes))
first_is_by p n i (Some k) g f =
    ap Some (⊎_elim
    (λ lt. absurd (false≢true (sym (f.least k lt) ∙ g.passes)))
    (λ ge. ⊎_elim (λ lt. absurd (false≢true (sym (g.least i lt) ∙ f.passes))) (λ le. omega arith) (cases_lt i k))
    (cases_lt k i))

pub first_is : (p : ℕ → Bool) (n i : ℕ) → IsFirst p n i → first p n ≡ Some i
first_is p n i f = first_is_by p n i (first p n) (first_finds p n) f

first_none_by : (p : ℕ → Bool) (n : ℕ) (found : Option ℕ) → Finds p n found → NoneBelow p n → found ≡ None
first_none_by p n None f none = refl
first_none_by p n (Some k) f none = absurd (false≢true (sym (none k f.below) ∙ f.passes))

pub first_none : (p : ℕ → Bool) (n : ℕ) → NoneBelow p n → first p n ≡ None
first_none p n none = first_none_by p n (first p n) (first_finds p n) none
