-- Runs of bytes of a class.
use Rattle.std.proofs.Common.{◌≡◌, ℕ, ◌≤◌, Bool, true, List, [], ◌∷◌, ◌++◌, length, take, drop, take_while, refl, ap, inl, inr, arith, length-append}
use Rattle.std.specs.List.{list_all}
use Rattle.std.proofs.lemmas.Bool.{cases_Bool, and_parts}
use Rattle.std.proofs.lemmas.List.Sums.{take_while-cons}
use Rattle.vf_number.specs.Bytes.{Ends}
use Rattle.vf_number.specs.Runs.{run, after_run}

pub run_parts : (class : ℕ → Bool) (text : List ℕ) → text ≡ run class text ++ after_run class text
unfolding run after_run
run_parts class [] = refl
run_parts class (b ∷ rest) = elim (cases_Bool (class b)) [
  | inl in_class ↦ rw in_class (ap (λ (t : List ℕ). b ∷ t) (run_parts class rest))
  | inr other ↦ rw other refl
]

pub run_all : (class : ℕ → Bool) (text : List ℕ) → list_all class (run class text) ≡ true
unfolding run
run_all class [] = refl
run_all class (b ∷ rest) = elim (cases_Bool (class b)) [
  | inl in_class ↦ rw (in_class, in_class) (run_all class rest)
  | inr other ↦ rw other refl
]

pub after_run_ends : (class : ℕ → Bool) (text : List ℕ) → Ends class (after_run class text)
unfolding after_run
after_run_ends class [] = tt
after_run_ends class (b ∷ rest) = elim (cases_Bool (class b)) [
  | inl in_class ↦ rw in_class (after_run_ends class rest)
  | inr other ↦ rw other other
]

-- a run up to where it ends is the longest one
pub run_of : (class : ℕ → Bool) (more rest : List ℕ) → list_all class more ≡ true → Ends class rest
    → run class (more ++ rest) ≡ more
unfolding run
run_of class [] [] h ends = refl
run_of class [] (b ∷ rest) h ends = rw ends refl
run_of class (b ∷ more) rest h ends =
    let p = and_parts (class b) (list_all class more) h in
    rw p.0 (ap (λ (t : List ℕ). b ∷ t) (run_of class more rest p.1 ends))

pub after_run_of : (class : ℕ → Bool) (more rest : List ℕ) → list_all class more ≡ true → Ends class rest
    → after_run class (more ++ rest) ≡ rest
unfolding after_run
after_run_of class [] [] h ends = refl
after_run_of class [] (b ∷ rest) h ends = rw ends refl
after_run_of class (b ∷ more) rest h ends =
    let p = and_parts (class b) (list_all class more) h in
    rw p.0 (after_run_of class more rest p.1 ends)

-- what a split at the run's length gives
pub split_front : (class : ℕ → Bool) (text : List ℕ) → take (length (take_while class text)) text ≡ run class text
unfolding run
split_front class [] = refl
split_front class (b ∷ rest) = elim (cases_Bool (class b)) [
  | inl in_class ↦ rw (take_while-cons class b rest, in_class) (ap (λ (t : List ℕ). b ∷ t) (split_front class rest))
  | inr other ↦ rw (take_while-cons class b rest, other) refl
]

pub split_after : (class : ℕ → Bool) (text : List ℕ) → drop (length (take_while class text)) text ≡ after_run class text
unfolding after_run
split_after class [] = refl
split_after class (b ∷ rest) = elim (cases_Bool (class b)) [
  | inl in_class ↦ rw (take_while-cons class b rest, in_class) (split_after class rest)
  | inr other ↦ rw (take_while-cons class b rest, other) refl
]

pub after_run_within : (class : ℕ → Bool) (text : List ℕ) → length (after_run class text) ≤ length text
after_run_within class text =
    omega (arith, ap length (run_parts class text), length-append (run class text) (after_run class text))
