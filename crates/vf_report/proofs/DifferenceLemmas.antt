-- The first difference of two lists.
use Rattle.std.proofs.Common.{◌≡◌, ◌≢◌, ℕ, zero, suc, ◌+◌, ◌<◌, ◌≤◌, ◌==◌, nat_lt, Bool, true, false, not, cond, List, [], ◌∷◌, length, Some, None, unwrap_or, refl, sym, ap, ap₂, ◌∙◌, arith, eq-eqb}
use Rattle.std.specs.List.{slice_get, zip, position, position_or_len}
use Rattle.std.proofs.lemmas.Bool.{eqb-true, false≢true}
use Rattle.std.proofs.lemmas.Bool.Decides.{nat_tests}
use Rattle.std.proofs.lemmas.List.Sums.{prefix_len-le-length}
use Rattle.std.proofs.lemmas.Slice.Zip.{length-zip}
use Rattle.vf_report.specs.Texts.{first_difference}
use Rattle.vf_report.specs.Laws.{IsFirstDifference}

-- the place by recursion on the lists, for the proofs here
abbrev place : List ℕ → List ℕ → ℕ
place [] bytes = 0
place (e ∷ expected) [] = 0
place (e ∷ expected) (b ∷ bytes) = cond (e == b) (suc (place expected bytes)) 0

abbrev differs : ℕ × ℕ → Bool
differs pair = not (pair.0 == pair.1)

place_is : (expected bytes : List ℕ) → position_or_len differs (zip expected bytes) ≡ place expected bytes
place_is [] bytes = refl
place_is (e ∷ expected) [] = refl
place_is (e ∷ expected) (b ∷ bytes) =
    let more = place_is expected bytes in
    elim (e == b) as (λ same. cond (not (not same)) (1 + position_or_len differs (zip expected bytes)) 0 ≡ cond same (suc (place expected bytes)) 0) [
      | true ↦ omega (arith, more)
      | false ↦ refl
    ]

-- a place that is found below n, and n where none is
found_or_end : (place n : ℕ) → place ≤ n → unwrap_or (cond (nat_lt place n) (Some place) None) n ≡ place
found_or_end place n within = grind (arith, nat_tests)

first_is : (expected bytes : List ℕ) → first_difference expected bytes ≡ place expected bytes
first_is expected bytes =
    ap (λ end. unwrap_or (position differs (zip expected bytes)) end) (sym (length-zip expected bytes))
    ∙ found_or_end (position_or_len differs (zip expected bytes)) (length (zip expected bytes)) (prefix_len-le-length (λ pair. not (differs pair)) (zip expected bytes))
    ∙ place_is expected bytes

-- a place below the one of two longer lists: their heads are equal, and what follows is below the one of the tails
heads_same : (e b more at : ℕ) → at < cond (e == b) (suc more) 0 → (e ≡ b) × (at < suc more)
heads_same e b more at h = (grind (arith, nat_tests), grind (arith, nat_tests))

before : (expected bytes : List ℕ) (at : ℕ) → at < place expected bytes → slice_get expected at ≡ slice_get bytes at
before [] bytes at h = absurd (omega arith)
before (e ∷ expected) [] at h = absurd (omega arith)
before (e ∷ expected) (b ∷ bytes) zero h = ap (λ x. Some x) (heads_same e b (place expected bytes) 0 h).0
before (e ∷ expected) (b ∷ bytes) (suc at) h = let below = (heads_same e b (place expected bytes) (suc at) h).1 in before expected bytes at (omega (arith, below))

there_by_heads : (e b : ℕ) (expected bytes : List ℕ) (same : Bool) → (e == b) ≡ same → (e ∷ expected) ≢ (b ∷ bytes)
    → (expected ≢ bytes → slice_get expected (place expected bytes) ≢ slice_get bytes (place expected bytes))
    → slice_get (e ∷ expected) (cond same (suc (place expected bytes)) 0) ≢ slice_get (b ∷ bytes) (cond same (suc (place expected bytes)) 0)
there_by_heads e b expected bytes true same ne more = more (λ rest. ne (ap₂ (λ x xs. x ∷ xs) (eqb-true e b same) rest))
there_by_heads e b expected bytes false same ne more = λ h. let heads : e ≡ b = cc in false≢true (sym same ∙ eq-eqb e b heads)

there : (expected bytes : List ℕ) → expected ≢ bytes → slice_get expected (place expected bytes) ≢ slice_get bytes (place expected bytes)
there [] [] ne e = ne refl
there [] (b ∷ bytes) ne e = cc e
there (x ∷ expected) [] ne e = cc e
there (x ∷ expected) (b ∷ bytes) ne e = there_by_heads x b expected bytes (x == b) refl ne (there expected bytes) e

pub difference_is_first : (expected bytes : List ℕ) → expected ≢ bytes → IsFirstDifference expected bytes (first_difference expected bytes)
difference_is_first expected bytes ne = rw (first_is expected bytes) record { before = before expected bytes; there = there expected bytes ne }
