-- Names: which are the same, and that the name that the lexeme's crate finds is the one of the definitions.
use Rattle.std.proofs.Common.{◌≡◌, ◌≢◌, ℕ, false, List, [], ◌∷◌, ◌++◌, length, refl, ap, sym, inl, inr}
use Rattle.std.specs.Str.{bytes_eq}
use Rattle.std.proofs.lemmas.Bool.{cases_Bool}
use Rattle.std.proofs.lemmas.Slice.Eq.{bytes_eq-Decides}
use Rattle.std.proofs.Math.Seq.{drop-append_seam}
use Rattle.vf_lexeme.specs.Bytes.{begins_name, is_name_byte, Ends}
use Rattle.vf_lexeme.specs.Words.{IsName, IsNameAt, named as named_case, unnamed}
use Rattle.vf_number.proofs.CallerLemmas.{run_of}
use Rattle.vf_lex.specs.Names.{name_of, after_name}

front_of : (name rest : List ℕ) → IsName name → Ends is_name_byte rest → name_of (name ++ rest) ≡ name
unfolding name_of
front_of [] rest is ends = absurd is
front_of (b ∷ more) rest is ends = rw is.0 (ap (λ (t : List ℕ). b ∷ t) (run_of is_name_byte more rest is.1 ends))

no_front : (text : List ℕ) → Ends begins_name text → name_of text ≡ []
unfolding name_of
no_front [] ends = refl
no_front (b ∷ text) ends = rw ends refl

pub named : (text name rest : List ℕ) → IsNameAt text name rest → name ≡ name_of text
named text name rest (named_case is ends e) = rw (e, front_of name rest is ends) refl
named text name rest (unnamed ends e _) = rw (e, no_front text ends) refl

pub after : (text name rest : List ℕ) → IsNameAt text name rest → rest ≡ after_name text
after text name rest (named_case is ends e) = rw (e, front_of name rest is ends, drop-append_seam name rest) refl
after text name rest (unnamed ends e e2) = rw (e2, no_front text ends) refl

pub lengths_differ : (a b : List ℕ) → length a ≢ length b → false ≡ bytes_eq a b
lengths_differ a b h = elim (cases_Bool (bytes_eq a b)) [
  | inl is ↦ absurd (h (ap length ((bytes_eq-Decides a b).0 is)))
  | inr other ↦ sym other
]
