-- A number takes a byte or more of its text, and leaves what is after it.
use Rattle.std.proofs.Common.{◌≡◌, ℕ, ◌<◌, List, [], ◌∷◌, ◌++◌, length, Bool, Option, Result, Ok, Err, refl, sym, ap, ◌∙◌, append_assoc, arith}
use Rattle.std.proofs.lemmas.List.{length-append}
use Rattle.vf_number.specs.declared.bases.Base.{Base}
use Rattle.vf_number.specs.Bytes.{IsRest}
use Rattle.vf_number.specs.Numbers.{IsUnsigned, IsSized, unsized, sized, IsBased, unmarked, marked, Read, IsNumber, plain, plain_too_large, based, no_digits, no_bits, too_wide, too_large}

pub after_shorter : (text rest : List ℕ) → IsRest text rest → length rest < length text
after_shorter text rest b = let size = ap length b.1 in omega (arith, b.2, length-append b.0 rest)

-- an answer leaves what is after
abbrev pub Takes : {X E : Type 0} → List ℕ → Result (X × List ℕ) E → Type 0
Takes text (Ok x) = IsRest text x.1
Takes text (Err e) = Unit {0}

after_trans : (text middle rest : List ℕ) → IsRest text middle → IsRest middle rest → IsRest text rest
after_trans text middle rest a b = (
  a.0 ++ b.0,
  a.1 ∙ ap (λ (t : List ℕ). a.0 ++ t) b.1
      ∙ sym (append_assoc a.0 b.0 rest),
  omega (arith, a.2, b.2, length-append a.0 b.0),
)

pub after_first : (text rest : List ℕ) (b : ℕ) (more : List ℕ) → text ≡ b ∷ (more ++ rest) → IsRest text rest
after_first text rest b more e = (b ∷ more, e, omega arith)

pub after_two : (text rest : List ℕ) (b : ℕ) (front back : List ℕ) → text ≡ b ∷ (front ++ (back ++ rest)) → IsRest text rest
after_two text rest b front back e =
    (b ∷ (front ++ back), e ∙ ap (λ (t : List ℕ). b ∷ t) (sym (append_assoc front back rest)), omega arith)

after_some : (text rest front : List ℕ) → IsUnsigned front → text ≡ front ++ rest → IsRest text rest
after_some text rest [] is e = absurd is
after_some text rest (b ∷ front) is e = (b ∷ front, e, omega arith)

ticked_takes : (blanks more : List ℕ) → IsRest (blanks ++ 39 ∷ more) more
ticked_takes [] more = (39 ∷ [], refl, omega arith)
ticked_takes (b ∷ blanks) more = after_two (b ∷ (blanks ++ 39 ∷ more)) more b blanks (39 ∷ []) refl

sized_takes : (text : List ℕ) (size : Option ℕ) (rest : List ℕ) → IsSized text size rest → IsRest text rest
sized_takes text size rest (unsized e s) = after_first text rest 39 [] e
sized_takes text size rest (sized digits blanks is all e s) =
    let more = blanks ++ 39 ∷ rest in
    after_trans text more rest (after_some text more digits is e) (ticked_takes blanks rest)

based_takes : (text : List ℕ) (s : Bool) (b : Base) (digits rest : List ℕ) → IsBased text s b digits rest → IsRest text rest
based_takes text s b digits rest (unmarked letter blanks h all d e m) = after_two text rest letter blanks digits e
based_takes text s b digits rest (marked mark letter blanks k h all d e m) = after_two text rest mark (letter ∷ blanks) digits e

pub number_takes : (text : List ℕ) (seen : Read) → IsNumber text seen → Takes text seen
number_takes text seen (plain digits rest is ends h e small s) = rw s (after_some text rest digits is e)
number_takes text seen (plain_too_large digits rest is ends h e large s) = rw s tt
number_takes text seen (based size signed b more digits rest z is some most small s) =
    rw s (after_trans text more rest (sized_takes text size more z) (based_takes more signed b digits rest is))
number_takes text seen (no_digits size more z wrong s) = rw s tt
number_takes text seen (no_bits size signed b more digits rest z is w s) = rw s tt
number_takes text seen (too_large size signed b more digits rest z is large s) = rw s tt
number_takes text seen (too_wide size signed b more digits rest z is small w s) = rw s tt
