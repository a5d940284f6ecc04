-- Bits and digits from the top down.
use Rattle.std.proofs.Common.{◌≡◌, ◌≢◌, ℕ, zero, suc, ◌+◌, ◌-◌, ◌*◌, ◌^◌, ◌<◌, ◌≤◌, List, [], ◌∷◌, ◌++◌, length, take, drop, slice_get, Some, None, unwrap_or, refl, sym, ap, ap₂, ◌∙◌, arith, append_assoc, append-nil, ne_eqb}
use Rattle.std.proofs.Math.Nat.{pow-suc}
use Rattle.std.proofs.Math.Seq.{drop-cons}
use Rattle.std.proofs.lemmas.Nat.{pow_pos}
use Rattle.std.proofs.lemmas.Bool.{cond-true, cond-false, eq-eqb}
use Rattle.std.proofs.lemmas.List.{take_all}
use Rattle.std.proofs.lemmas.Option.{slice_get_within, get_or_from_slice_get}
use Rattle.vf_fours.specs.declared.Bit.{Bit}
use Rattle.vf_fours.specs.declared.Bit.TheVariants.{Zero, One, X, Z}
use Rattle.vf_fours.specs.Numbers.{weight_of, of_one, number}
use Rattle.vf_format.specs.Printed.{falling, without_first, trimmed, letter_of, digit_char, digit_of}

-- ---- runs of bits

-- one more bit before a run
pub run_more : (bits : List Bit) (at next high : ℕ) (b : Bit) → at + 1 ≡ next → next ≤ high → slice_get bits at ≡ Some b
    → take (high - at) (drop at bits) ≡ b ∷ take (high - next) (drop next bits)
run_more bits at next high b n h e =
    let inside = slice_get_within bits at b e in
    let more : high - at ≡ suc (high - next) = omega arith in
    let after : suc at ≡ next = omega arith in
    let here = drop-cons bits at b inside ∙ ap₂ (λ x k. x ∷ drop k bits) (get_or_from_slice_get bits at b b e) after in
    ap₂ (λ k xs. take k xs) more here

run_none : (bits : List Bit) (at : ℕ) → take (at - at) (drop at bits) ≡ []
run_none bits at = let none : at - at ≡ 0 = omega arith in ap (λ k. take k (drop at bits)) none

pub whole : (bits : List Bit) (w : ℕ) → w ≡ length bits → take (w - 0) (drop 0 bits) ≡ bits
whole bits w e = let all : length bits ≤ w - 0 = omega arith in take_all (w - 0) bits all

-- ---- the number of a run

pub number-none : (bits : List Bit) (at : ℕ) → 0 ≡ number (take (at - at) (drop at bits))
unfolding weight_of
number-none bits at = sym (ap number (run_none bits at))

pub fits-none : (at : ℕ) → 0 < 2 ^ (at - at)
fits-none at = pow_pos (at - at)

number_cons : (b : Bit) (bits : List Bit) → of_one b + 2 * number bits ≡ number (b ∷ bits)
unfolding weight_of
number_cons b bits = refl

pub number_more : (bits : List Bit) (at next high n : ℕ) (b : Bit) → at + 1 ≡ next → next ≤ high → slice_get bits at ≡ Some b
    → n ≡ number (take (high - next) (drop next bits)) → of_one b + 2 * n ≡ number (take (high - at) (drop at bits))
number_more bits at next high n b e h got is =
    ap (λ m. of_one b + 2 * m) is ∙ number_cons b (take (high - next) (drop next bits)) ∙ sym (ap number (run_more bits at next high b e h got))

pub one_below : (b : Bit) → of_one b < 2
one_below Zero = omega arith
one_below One = omega arith
one_below X = omega arith
one_below Z = omega arith

pub fits_more : (at next high n : ℕ) (b : Bit) → at + 1 ≡ next → next ≤ high → n < 2 ^ (high - next) → of_one b + 2 * n < 2 ^ (high - at)
fits_more at next high n b e h fits =
    let more : high - at ≡ suc (high - next) = omega arith in
    let double = pow-suc 2 (high - next) in
    let small = one_below b in
    rw more (omega arith)

-- ---- a digit

pub by_letter : (bits : List Bit) (c : ℕ) → Some c ≡ letter_of bits → c ≡ digit_of bits
unfolding digit_of
by_letter bits c e = ap (λ o. unwrap_or o (digit_char (number bits))) e

pub by_number : (bits : List Bit) → None ≡ letter_of bits → digit_char (number bits) ≡ digit_of bits
unfolding digit_of
by_number bits e = ap (λ o. unwrap_or o (digit_char (number bits))) e

-- ---- texts from the top down

pub append_falling : (text : List ℕ) (f : ℕ → ℕ) (m n x : ℕ) → m + 1 ≡ n → x ≡ f m → (text ++ x ∷ []) ++ falling f m ≡ text ++ falling f n
unfolding falling
append_falling text f m n x e is =
    let next : suc m ≡ n = omega arith in
    append_assoc text (x ∷ []) (falling f m) ∙ ap (λ y. text ++ y ∷ falling f m) is ∙ ap (λ k. text ++ falling f k) next

pub append_none : (text : List ℕ) (f : ℕ → ℕ) (n : ℕ) → n ≤ 0 → text ≡ text ++ falling f n
unfolding falling
append_none text f n h = let none : 0 ≡ n = omega arith in sym (append-nil text) ∙ ap (λ k. text ++ falling f k) none

pub first_gone : (c : ℕ) (f : ℕ → ℕ) (m n : ℕ) → m + 1 ≡ n → f m ≡ c → without_first c (falling f m) ≡ without_first c (falling f n)
unfolding falling
first_gone c f m n e is =
    let next : suc m ≡ n = omega arith in
    sym (cond-true _ _ _ (eq-eqb (f m) c is)) ∙ ap (λ k. without_first c (falling f k)) next

pub first_stays : (c : ℕ) (f : ℕ → ℕ) (m n : ℕ) → m + 1 ≡ n → f m ≢ c → falling f n ≡ without_first c (falling f n)
unfolding falling
first_stays c f m n e other =
    let next : suc m ≡ n = omega arith in
    ap (λ k. falling f k) (sym next) ∙ sym (cond-false _ _ _ (ne_eqb (f m) c other)) ∙ ap (λ k. without_first c (falling f k)) next

pub none_stays : (c : ℕ) (f : ℕ → ℕ) (n : ℕ) → n ≤ 0 → falling f n ≡ without_first c (falling f n)
unfolding falling
none_stays c f n h =
    let none : 0 ≡ n = omega arith in
    ap (λ k. falling f k) (sym none) ∙ ap (λ k. without_first c (falling f k)) none

pub zero_gone : (f : ℕ → ℕ) (m n : ℕ) → m + 1 ≡ n → 1 < n → f m ≡ 48 → trimmed (falling f m) ≡ trimmed (falling f n)
unfolding falling
zero_gone f zero n e h is = absurd (omega arith)
zero_gone f (suc k) n e h is =
    let next : suc (suc k) ≡ n = omega arith in
    sym (cond-true _ _ _ (eq-eqb (f (suc k)) 48 is)) ∙ ap (λ i. trimmed (falling f i)) next

pub digit_stays : (f : ℕ → ℕ) (m n : ℕ) → m + 1 ≡ n → 1 < n → f m ≢ 48 → falling f n ≡ trimmed (falling f n)
unfolding falling
digit_stays f zero n e h other = absurd (omega arith)
digit_stays f (suc k) n e h other =
    let next : suc (suc k) ≡ n = omega arith in
    ap (λ i. falling f i) (sym next) ∙ sym (cond-false _ _ _ (ne_eqb (f (suc k)) 48 other)) ∙ ap (λ i. trimmed (falling f i)) next

pub one_stays : (f : ℕ → ℕ) (n : ℕ) → n ≤ 1 → falling f n ≡ trimmed (falling f n)
unfolding falling
one_stays f zero h = refl
one_stays f (suc zero) h = refl
one_stays f (suc (suc n)) h = absurd (omega arith)
