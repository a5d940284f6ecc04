-- The signals that an expression reads are those of its parts, and one that it names.
use Rattle.std.proofs.Common.{◌≡◌, ℕ, Bool, true, false, ◌||◌, List, [], ◌∷◌, map, refl, sym, ◌∙◌, ap, ap₂}
use Rattle.std.specs.List.{list_any}
use Rattle.vf_elaborated.specs.declared.expr.Expr.{Expr, roll-Expr}
use Rattle.vf_elaborated.specs.declared.expr.Expr.TheOpen.{Expr-F}
use Rattle.vf_elaborated.specs.declared.expr.Expr.TheFolds.{map-Expr}
use Rattle.vf_elaborated.specs.Values.{reads_signal, node_reads}
use Rattle.vf_elaborated.specs.Noting.{noted}
use Rattle.vf_elaborated.proofs.Shaped.{told_roll}
use Rattle.vf_elaborated.proofs.NoteLemmas.{noted_same, noted_twice}

pub reads_by : (e : Expr) (x : Expr-F Expr) → e ≡ roll-Expr x → (sig : ℕ) → reads_signal sig e ≡ node_reads sig (map-Expr Expr Bool (reads_signal sig) x)
reads_by e x is sig = ap (reads_signal sig) is ∙ told_roll (node_reads sig) x

pub or_false : (b : Bool) → (b || false) ≡ b
or_false true = refl
or_false false = refl

pub any_map : {A : Type 0} (f : A → Bool) (xs : List A) → list_any (λ b. b) (map f xs) ≡ list_any f xs
any_map f [] = refl
any_map f (x ∷ rest) = ap (λ b. f x || b) (any_map f rest)

-- what is noted by one test and then by another
pub noted_then : (number : ℕ) (s t u : ℕ → Bool) (lists middle new : List (List ℕ)) → ((n : ℕ) → u n ≡ (s n || t n)) → middle ≡ noted number s lists
    → new ≡ noted number t middle → new ≡ noted number u lists
noted_then number s t u lists middle new both first second =
    second ∙ ap (noted number t) first ∙ noted_twice number s t lists ∙ noted_same number (λ n. s n || t n) u lists (λ n. sym (both n))

-- an expression with one part, with two, with three; the code has each part again
module _ (number : ℕ) (e : Expr) (lists : List (List ℕ)) where
  pub one_read : (a part : Expr) (new : List (List ℕ)) → ((sig : ℕ) → reads_signal sig e ≡ reads_signal sig a) → part ≡ a
      → new ≡ noted number (λ sig. reads_signal sig part) lists → new ≡ noted number (λ sig. reads_signal sig e) lists
  one_read a part new by same step =
      step ∙ noted_same number (λ sig. reads_signal sig part) (λ sig. reads_signal sig e) lists (λ sig. ap (reads_signal sig) same ∙ sym (by sig))

  pub two_read : (a b first second : Expr) (middle new : List (List ℕ)) → ((sig : ℕ) → reads_signal sig e ≡ (reads_signal sig a || reads_signal sig b))
      → first ≡ a → second ≡ b → middle ≡ noted number (λ sig. reads_signal sig first) lists → new ≡ noted number (λ sig. reads_signal sig second) middle
      → new ≡ noted number (λ sig. reads_signal sig e) lists
  two_read a b first second middle new by fa sb =
      noted_then number (λ sig. reads_signal sig first) (λ sig. reads_signal sig second) (λ sig. reads_signal sig e) lists middle new
      (λ sig. by sig ∙ sym (ap₂ (λ x y. reads_signal sig x || reads_signal sig y) fa sb))

  pub three_read : (a b c first second third : Expr) (middle later new : List (List ℕ))
      → ((sig : ℕ) → reads_signal sig e ≡ (reads_signal sig a || (reads_signal sig b || reads_signal sig c))) → first ≡ a → second ≡ b → third ≡ c
      → middle ≡ noted number (λ sig. reads_signal sig first) lists → later ≡ noted number (λ sig. reads_signal sig second) middle
      → new ≡ noted number (λ sig. reads_signal sig third) later → new ≡ noted number (λ sig. reads_signal sig e) lists
  three_read a b c first second third middle later new by fa sb tc one two three =
      noted_then number (λ sig. reads_signal sig first) (λ sig. reads_signal sig second || reads_signal sig third) (λ sig. reads_signal sig e) lists middle new
      (λ sig.
      by sig ∙ sym (ap (λ x. reads_signal sig x || (reads_signal sig b || reads_signal sig c)) fa)
      ∙ sym (ap₂ (λ x y. reads_signal sig first || (reads_signal sig x || reads_signal sig y)) sb tc))
      one
      (noted_then number (λ sig. reads_signal sig second) (λ sig. reads_signal sig third) (λ sig. reads_signal sig second || reads_signal sig third) middle later new
      (λ sig. refl) two three)
