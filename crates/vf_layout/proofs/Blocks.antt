-- Words made of a list, block by block: a change of one element is written over its block.
use Rattle.std.proofs.Common.{◌≡◌, ◌≢◌, ℕ, zero, suc, ◌+◌, ◌*◌, ◌<◌, ◌≤◌, List, [], ◌∷◌, ◌++◌, length, map, take, refl, sym, ◌∙◌, ap, ap₂, arith, flat_map, slice_index_or, slice_set, sum_by}
use Rattle.std.proofs.lemmas.List.{length-append}
use Rattle.std.proofs.lemmas.List.Elements.{All-head, All-tail}
use Rattle.std.proofs.lemmas.List.Sums.{sum_by-cons}
use Rattle.std.specs.List.{All, enumerate_from}
use Rattle.vf_fours.specs.declared.Bit.{Bit}
use Rattle.vf_elaborated.specs.Layout.{value_size}
use Rattle.vf_layout.specs.Puts.{put_all}
use Rattle.vf_layout.proofs.PutLemmas.{put_all_left, put_all_right, put_all_over}
use Rattle.vf_layout.proofs.Parts.{own_words, own_length}

-- ---- numbered elements

-- two ways to write an element differ at one number alone
module _ {A : Type 0} (f g : ℕ × A → List ℕ) (n : ℕ) (same : (m : ℕ) (x : A) → m ≢ n → g (m, x) ≡ f (m, x)) where
  pub none_changed : (k : ℕ) (xs : List A) → ((m : ℕ) → k ≤ m → m < k + length xs → m ≢ n) → flat_map g (enumerate_from k xs) ≡ flat_map f (enumerate_from k xs)
  none_changed k [] other = refl
  none_changed k (x ∷ xs) other =
      ap₂ (λ a b. a ++ b) (same k x (other k (omega arith) (omega arith)))
      (none_changed (k + 1) xs (λ m low high. other m (omega (arith, low)) (omega (arith, high))))

  pub one_changed : (k j : ℕ) (xs : List A) (y default : A) (at : ℕ) (list : List ℕ) → k + j ≡ n → j < length xs
      → g (n, y) ≡ put_all at list (f (n, slice_index_or xs j default)) → at + length list ≤ length (f (n, slice_index_or xs j default))
      → flat_map g (enumerate_from k (slice_set xs j y)) ≡ put_all (length (flat_map f (enumerate_from k (take j xs))) + at) list (flat_map f (enumerate_from k xs))
  one_changed k j [] y default at list is below new within = absurd (omega (arith, below))
  one_changed k zero (x ∷ xs) y default at list is below new within =
      let here : k ≡ n = omega (arith, is) in
      let start : at ≡ 0 + at = omega arith in
      let rest = flat_map f (enumerate_from (k + 1) xs) in
      ap₂ (λ a b. a ++ b) (ap (λ m. g (m, y)) here ∙ new) (none_changed (k + 1) xs (λ m low high e. omega (arith, low, here, e)))
      ∙ sym (put_all_left at list (f (n, x)) rest within)
      ∙ ap₂ (λ place m. put_all place list (f (m, x) ++ rest)) start (sym here)
  one_changed k (suc j) (x ∷ xs) y default at list is below new within =
      let ahead = flat_map f (enumerate_from (k + 1) (take j xs)) in
      let rest = flat_map f (enumerate_from (k + 1) xs) in
      let place : length (f (k, x)) + (length ahead + at) ≡ length (f (k, x) ++ ahead) + at = omega (arith, length-append (f (k, x)) ahead) in
      ap₂ (λ a b. a ++ b) (same k x (λ e. omega (arith, is, e)))
      (one_changed (k + 1) j xs y default at list (omega (arith, is)) (omega (arith, below)) new within)
      ∙ sym (put_all_right (length ahead + at) list (f (k, x)) rest)
      ∙ ap (λ place. put_all place list (f (k, x) ++ rest)) place

-- ---- values

pub bits_changed : (xs : List (List Bit)) (j : ℕ) (bits : List Bit) → j < length xs → length bits ≡ length (slice_index_or xs j [])
    → flat_map own_words (slice_set xs j bits) ≡ put_all (sum_by value_size (take j (map length xs))) (own_words bits) (flat_map own_words xs)
bits_changed [] j bits below long = absurd (omega (arith, below))
bits_changed (x ∷ xs) zero bits below long =
    let size : length (own_words bits) ≡ length (own_words x) = own_length bits ∙ ap value_size long ∙ sym (own_length x) in
    sym (put_all_left 0 (own_words bits) (own_words x) (flat_map own_words xs) (omega (arith, size))
    ∙ ap (λ list. list ++ flat_map own_words xs) (put_all_over (own_words bits) (own_words x) size))
bits_changed (x ∷ xs) (suc j) bits below long =
    let sum = sum_by-cons value_size (length x) (take j (map length xs)) in
    let size = own_length x in
    let place : length (own_words x) + sum_by value_size (take j (map length xs)) ≡ sum_by value_size (length x ∷ take j (map length xs)) = omega (arith, sum, size) in
    ap (λ list. own_words x ++ list) (bits_changed xs j bits (omega (arith, below)) long)
    ∙ sym (put_all_right (sum_by value_size (take j (map length xs))) (own_words bits) (own_words x) (flat_map own_words xs))
    ∙ ap (λ place. put_all place (own_words bits) (own_words x ++ flat_map own_words xs)) place

-- values of one width
pub even_places : (width : ℕ) (es : List (List Bit)) (j : ℕ) → All (λ bits. length bits ≡ width) es → j < length es
    → sum_by value_size (take j (map length es)) ≡ j * value_size width
even_places width [] j all below = absurd (omega (arith, below))
even_places width (x ∷ es) zero all below = omega arith
even_places width (x ∷ es) (suc j) all below =
    let P : List Bit → Type 0 = λ bits. length bits ≡ width in
    let first = ap value_size (All-head P x es all) in
    let rest = even_places width es j (All-tail P x es all) (omega (arith, below)) in
    sum_by-cons value_size (length x) (take j (map length es)) ∙ ap₂ (λ a b. a + b) first rest ∙ more j (value_size width)
  where
    more : (n size : ℕ) → size + n * size ≡ suc n * size
    more n size = grind arith

-- a value's words stand inside the words of all
pub place_within : (xs : List (List Bit)) (j : ℕ) → j < length xs
    → sum_by value_size (take j (map length xs)) + length (own_words (slice_index_or xs j [])) ≤ length (flat_map own_words xs)
place_within [] j below = absurd (omega (arith, below))
place_within (x ∷ xs) zero below = omega (arith, length-append (own_words x) (flat_map own_words xs))
place_within (x ∷ xs) (suc j) below =
    let sum = sum_by-cons value_size (length x) (take j (map length xs)) in
    omega (arith, place_within xs j (omega (arith, below)), length-append (own_words x) (flat_map own_words xs), own_length x, sum)
