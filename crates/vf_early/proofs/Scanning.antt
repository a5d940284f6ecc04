-- The scanner's steps.
use Rattle.std.proofs.Common.{◌≡◌, ◌≢◌, ℕ, ◌+◌, ◌<◌, ◌≤◌, Bool, true, false, not, eqb, ◌&&◌, cond, List, length, get_or, drop, Option, Some, None, refl, ap, sym, ◌∙◌, add-one, drop-cons, arith}
use Rattle.std.specs.Option.{option_map}
use Rattle.std.proofs.lemmas.Bool.Decides.{nat_tests}
use Rattle.std.proofs.lemmas.List.{drop_all}
use Rattle.vf_early.specs.Reading.{inside_from}

pub differs : (a b : ℕ) → a ≢ b → eqb a b ≡ false
differs a b h = grind (arith, nat_tests)

inside_step : (e : Bool) (bytes : List ℕ) (at : ℕ) → at < length bytes → inside_from e (drop at bytes)
    ≡ cond (eqb (get_or bytes at 0) 10) None (cond (not e && eqb (get_or bytes at 0) 34) (Some 0) (option_map (λ n. n + 1) (inside_from (not e && eqb (get_or bytes at 0) 92) (drop (at + 1) bytes))))
unfolding inside_from
inside_step e bytes at h = ap (inside_from e) (drop-cons bytes at 0 h) ∙ rw (add-one at) refl

counted : (o : Option ℕ) (k : ℕ) → option_map (λ n. n + k) (option_map (λ n. n + 1) o) ≡ option_map (λ n. n + (k + 1)) o
counted None k = refl
counted (Some n) k = ap Some (omega arith)

pub inside_breaks : (e : Bool) (bytes : List ℕ) (at : ℕ) (total : Option ℕ) → at < length bytes → get_or bytes at 0 ≡ 10
    → total ≡ option_map (λ n. n + at) (inside_from e (drop at bytes)) → None ≡ total
inside_breaks e bytes at total h is so_far =
    let broken : eqb (get_or bytes at 0) 10 ≡ true = ap (λ (b : ℕ). eqb b 10) is in
    let step : inside_from e (drop at bytes) ≡ None = inside_step e bytes at h ∙ rw broken refl in
    sym (so_far ∙ rw step refl)

pub inside_closes : (e : Bool) (bytes : List ℕ) (at : ℕ) (total : Option ℕ) → at < length bytes → get_or bytes at 0 ≢ 10 → (not e && eqb (get_or bytes at 0) 34) ≡ true
    → total ≡ option_map (λ n. n + at) (inside_from e (drop at bytes)) → Some at ≡ total
inside_closes e bytes at total h other closed so_far =
    let step : inside_from e (drop at bytes) ≡ Some 0 = inside_step e bytes at h ∙ rw (differs (get_or bytes at 0) 10 other, closed) refl in
    sym (so_far ∙ rw step (ap Some (omega arith)))

pub inside_goes : (e : Bool) (bytes : List ℕ) (at : ℕ) (total : Option ℕ) → at < length bytes → get_or bytes at 0 ≢ 10 → (not e && eqb (get_or bytes at 0) 34) ≡ false
    → total ≡ option_map (λ n. n + at) (inside_from e (drop at bytes))
    → total ≡ option_map (λ n. n + (at + 1)) (inside_from (not e && eqb (get_or bytes at 0) 92) (drop (at + 1) bytes))
inside_goes e bytes at total h other still so_far =
    let more = inside_from (not e && eqb (get_or bytes at 0) 92) (drop (at + 1) bytes) in
    let step : inside_from e (drop at bytes) ≡ option_map (λ n. n + 1) more = inside_step e bytes at h ∙ rw (differs (get_or bytes at 0) 10 other, still) refl in
    so_far ∙ rw step (counted more at)

pub inside_lacks : (e : Bool) (bytes : List ℕ) (at : ℕ) (total : Option ℕ) → length bytes ≤ at → total ≡ option_map (λ n. n + at) (inside_from e (drop at bytes)) → None ≡ total
unfolding inside_from
inside_lacks e bytes at total h so_far = sym (so_far ∙ rw (drop_all at bytes h) refl)
