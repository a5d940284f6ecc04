-- Words: bytes that are no blank, no newline and no other control code. A number is one.
use Rattle.std.proofs.Common.{◌≡◌, ℕ, zero, suc, ◌+◌, ◌/◌, ◌%◌, ◌==◌, nat_lt, Bool, true, false, ◌&&◌, List, [], ◌∷◌, if◌then◌else◌, refl, arith}
use Rattle.std.specs.Prelude.{decimal}
use Rattle.std.specs.Fmt.{digits, digits_onto, digit_glyph}
use Rattle.std.specs.List.{list_all}
use Rattle.std.proofs.lemmas.Bool.{false≢true, lt-ltb}

abbrev pub is_inner : ℕ → Bool
is_inner byte = nat_lt 32 byte

abbrev pub is_word : List ℕ → Bool
is_word word = list_all is_inner word

glyph_inner : (d : ℕ) → is_inner (digit_glyph false d) ≡ true
glyph_inner d =
    elim (nat_lt d 10) as (λ b. nat_lt 32 (if b then 48 + d else 87 + d) ≡ true) [
      | true ↦ lt-ltb 32 (48 + d) (omega arith)
      | false ↦ lt-ltb 32 (87 + d) (omega arith)
    ]

pub and_both : (a b : Bool) → a ≡ true → b ≡ true → (a && b) ≡ true
and_both true b h k = k
and_both false b h k = absurd (false≢true h)

digits_inner : (k base n : ℕ) (acc : List ℕ) → is_word acc ≡ true → is_word (digits_onto k base false n acc) ≡ true
digits_inner zero base n acc h = h
digits_inner (suc k) base n acc h =
    let more : is_word (digit_glyph false (n % base) ∷ acc) ≡ true = and_both (is_inner (digit_glyph false (n % base))) (is_word acc) (glyph_inner (n % base)) h in
    elim (n / base == 0) as (λ b. is_word (if b then digit_glyph false (n % base) ∷ acc else digits_onto k base false (n / base) (digit_glyph false (n % base) ∷ acc)) ≡ true) [
      | true ↦ more
      | false ↦ digits_inner k base (n / base) (digit_glyph false (n % base) ∷ acc) more
    ]

pub number_word : (n : ℕ) → is_word (decimal n) ≡ true
unfolding digits
number_word n = digits_inner 64 10 n [] refl
