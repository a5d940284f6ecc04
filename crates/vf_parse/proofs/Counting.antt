-- Columns, and how many tokens of a kind stand before an index.
use Rattle.std.proofs.Common.{◌≡◌, ℕ, ◌+◌, ◌-◌, ◌<◌, ◌≤◌, Bool, true, false, cond, eqb, ltb, List, [], ◌∷◌, length, get_or, take, drop, Option, Some, None, refl, ap, ap₂, sym, ◌∙◌, inl, inr, arith}
use Rattle.std.specs.List.{count_by, slice_get}
use Rattle.std.proofs.lemmas.Bool.{cases_Bool, eqb-true, eq-eqb, ltb-true, ltb-false, false_from_ne_true}
use Rattle.std.proofs.lemmas.List.Sums.{count_by_more_no, count_by_more_yes}
use Rattle.std.proofs.lemmas.List.{length-drop, take_all}
use Rattle.std.proofs.lemmas.Option.{slice_get-get_or}
use Rattle.std.proofs.Math.ListN.{drop_of_length-le}
use Rattle.vf_base.specs.declared.names.Place.{Place}
use Rattle.vf_lex.specs.declared.token.Token.{Token}
use Rattle.vf_expression.specs.Grammar.{Tokens}
use Rattle.vf_parse.specs.LeftOut.{begins_left_out, NoneLeftOut, IsLeftOutAt}
use Rattle.vf_parse.specs.Parsing.{HasPlace, IsPlace}
use Rattle.vf_parse.specs.Deep.{is_opening, is_closing, open_in, closed_in, IsDeep, IsDeepAt}

pub next_column : (p q : ℕ) → eqb (q - p) 1 ≡ eqb q (p + 1)
next_column p q =
    elim (cases_Bool (eqb q (p + 1))) [
      | inl equal ↦
          let same : q ≡ p + 1 = eqb-true q (p + 1) equal in
          let one : q - p ≡ 1 = omega arith in
          eq-eqb (q - p) 1 one ∙ sym equal
      | inr other ↦
          false_from_ne_true (eqb (q - p) 1) (λ same.
          let one : q - p ≡ 1 = eqb-true (q - p) 1 same in
          let next : q ≡ p + 1 = omega arith in
          let both : true ≡ false = sym (eq-eqb q (p + 1) next) ∙ other in
          absurd cc) ∙ sym other
    ]

-- one more token
pub counted : {A : Type 0} (p : A → Bool) (xs : List A) (i : ℕ) (d : A) → i < length xs → count_by p (take (i + 1) xs) ≡ cond (p (get_or xs i d)) (count_by p (take i xs) + 1) (count_by p (take i xs))
counted p xs i d lt =
    elim (cases_Bool (p (get_or xs i d))) [
      | inl passes ↦ rw passes (count_by_more_yes p xs i d lt passes)
      | inr other ↦ rw other (count_by_more_no p xs i d lt other)
    ]

-- ---- words that are left out

-- the slice from an index to the end
pub rest_is : (ts : Tokens) (i : ℕ) → take (length ts - i) (drop i ts) ≡ drop i ts
rest_is ts i = take_all (length ts - i) (drop i ts) (omega (arith, length-drop i ts))

pub left_none : (ts : Tokens) (n : ℕ) → length ts ≤ n → ((j : ℕ) → j < n → begins_left_out (drop j ts) ≡ false) → NoneLeftOut ts
left_none ts n long below k =
    elim (cases_Bool (ltb k n)) [
      | inl lt ↦ below k (ltb-true k n lt)
      | inr ge ↦
          let far : n ≤ k = ltb-false k n ge in
          let gone : drop k ts ≡ [] = drop_of_length-le ts (omega arith) in
          rw gone refl
    ]

pub left_found : (ts : Tokens) (i : ℕ) (t : Token) → i < length ts → t ≡ get_or ts i t → begins_left_out (drop i ts) ≡ true → ((j : ℕ) → j < i → begins_left_out (drop j ts) ≡ false) → IsLeftOutAt ts t.place
left_found ts i t lt same here first = record { index = i; token = t; at = slice_get-get_or ts i t lt ∙ ap Some (sym same); placed = refl; here = here; first = first }

pub left_more : (ts : Tokens) (i : ℕ) → ((j : ℕ) → j < i → begins_left_out (drop j ts) ≡ false) → begins_left_out (drop i ts) ≡ false → (j : ℕ) → j < i + 1 → begins_left_out (drop j ts) ≡ false
left_more ts i below here j lt =
    elim (cases_Bool (ltb j i)) [
      | inl small ↦ below j (ltb-true j i small)
      | inr ge ↦
          let far : i ≤ j = ltb-false j i ge in
          let same : j ≡ i = omega arith in
          rw same here
    ]

-- ---- depth

pub deep_found : (ts : Tokens) (i : ℕ) (t : Token) → i < length ts → t ≡ get_or ts i t → IsDeep (take (i + 1) ts) → ((j : ℕ) → j ≤ i → IsDeep (take j ts) → ⊥) → IsDeepAt ts t.place
deep_found ts i t lt same here first = record { index = i; token = t; at = slice_get-get_or ts i t lt ∙ ap Some (sym same); placed = refl; here = here; first = first }

-- the counts after one more token
pub opened_more : (ts : Tokens) (i : ℕ) (t : Token) → i < length ts → t ≡ get_or ts i t → open_in (take (i + 1) ts) ≡ cond (is_opening t.kind) (open_in (take i ts) + 1) (open_in (take i ts))
opened_more ts i t lt same = counted (λ (u : Token). is_opening u.kind) ts i t lt ∙ ap (λ (u : Token). cond (is_opening u.kind) (open_in (take i ts) + 1) (open_in (take i ts))) (sym same)

pub closed_more : (ts : Tokens) (i : ℕ) (t : Token) → i < length ts → t ≡ get_or ts i t → closed_in (take (i + 1) ts) ≡ cond (is_closing t.kind) (closed_in (take i ts) + 1) (closed_in (take i ts))
closed_more ts i t lt same = counted (λ (u : Token). is_closing u.kind) ts i t lt ∙ ap (λ (u : Token). cond (is_closing u.kind) (closed_in (take i ts) + 1) (closed_in (take i ts))) (sym same)

pub next_open : (ts : Tokens) (i : ℕ) (t : Token) (n m : ℕ) (b : Bool) → i < length ts → t ≡ get_or ts i t → n ≡ open_in (take i ts) → b ≡ is_opening t.kind → m ≡ cond b (n + 1) n → m ≡ open_in (take (i + 1) ts)
next_open ts i t n m b lt same count test made = made ∙ ap₂ (λ (c : Bool) (k : ℕ). cond c (k + 1) k) test count ∙ sym (opened_more ts i t lt same)

pub next_closed : (ts : Tokens) (i : ℕ) (t : Token) (n m : ℕ) (b : Bool) → i < length ts → t ≡ get_or ts i t → n ≡ closed_in (take i ts) → b ≡ is_closing t.kind → m ≡ cond b (n + 1) n → m ≡ closed_in (take (i + 1) ts)
next_closed ts i t n m b lt same count test made = made ∙ ap₂ (λ (c : Bool) (k : ℕ). cond c (k + 1) k) test count ∙ sym (closed_more ts i t lt same)

pub is_deep : (ts : Tokens) (k o c : ℕ) → o ≡ open_in (take k ts) → c ≡ closed_in (take k ts) → 200 < o - c → IsDeep (take k ts)
is_deep ts k o c opened closed many = let deep : c + 200 < o = omega arith in rw (← opened, ← closed) deep

-- ---- places

pub placed : (ts : Tokens) (i : ℕ) (t : Token) → i < length ts → t ≡ get_or ts i t → HasPlace ts t.place
placed ts i t lt same = record { index = i; token = t; at = slice_get-get_or ts i t lt ∙ ap Some (sym same); placed = refl }

never_there : (t : Token) → ◌≡◌ {A = Option Token} None (Some t) → ⊥
never_there t e = absurd cc

pub place_some : (ts : Tokens) (p : Place) → HasPlace ts p → IsPlace ts p
place_some [] p h = let none : ◌≡◌ {A = Option Token} (slice_get [] h.index) None = refl in absurd (never_there h.token (sym none ∙ h.at))
place_some (t ∷ ts) p h = h

pub place_none : (ts : Tokens) (p : Place) → ts ≡ [] → p ≡ record { line = 1; column = 1 } → IsPlace ts p
place_none [] p e h = h
place_none (t ∷ ts) p e h = absurd cc
