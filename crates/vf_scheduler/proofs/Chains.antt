-- A list of events is told by its first event and by the event that follows each.
use Rattle.std.proofs.Common.{◌≡◌, ℕ, ◌+◌, ◌<◌, ◌≤◌, false, List, [], ◌∷◌, ◌++◌, map, Option, Some, None, refl, sym, ◌∙◌, ap, ap₂, subst, arith, ⊎_elim, ◌==◌, if◌then◌else◌}
use Rattle.std.proofs.lemmas.Bool.{false≢true, eq-eqb, ne_eqb, cases_Bool}
use Rattle.std.proofs.lemmas.Option.{none-some, same_Some}
use Rattle.std.proofs.lemmas.List.{append_assoc}
use Rattle.std.specs.Prelude.{⊤}
use Rattle.std.specs.Option.{option_or}
use Rattle.vf_scheduler.specs.State.{Item, of_process, of_slot}
use Rattle.vf_scheduler.specs.Words.{item_number, head, next_in, next_among}
use Rattle.vf_scheduler.specs.Sound.{same_item, times}
use Rattle.vf_scheduler.proofs.Marks.{same_itself, times-append, times_here}

-- ---- numbers of events

-- a process of so many
abbrev pub Numbered : ℕ → Item → Type 0
Numbered processes (of_process p) = p < processes
Numbered processes (of_slot q) = ⊤

-- no number stands for two events
one_event : (processes : ℕ) (x y : Item) → Numbered processes x → Numbered processes y → item_number processes x ≡ item_number processes y → x ≡ y
one_event processes (of_process p) (of_process r) a b e = ap of_process e
one_event processes (of_process p) (of_slot q) a b e = absurd (omega (arith, a, e))
one_event processes (of_slot q) (of_process p) a b e = absurd (omega (arith, b, e))
one_event processes (of_slot q) (of_slot r) a b e = let same : q ≡ r = omega (arith, e) in ap of_slot same

module _ (processes : ℕ) where
  abbrev number : Item → ℕ
  number x = item_number processes x

  abbrev numbers_of : List Item → List ℕ
  numbers_of list = map number list

  -- each event that stands in a list is one of the design
  abbrev pub AllNumbered : List Item → Type 0
  AllNumbered list = (x : Item) → 1 ≤ times x list → Numbered processes x

  first_numbered : (x : Item) (rest : List Item) → AllNumbered (x ∷ rest) → Numbered processes x
  first_numbered x rest all = let here = times_here x rest in all x (omega (arith, here))

  rest_numbered : (x : Item) (rest : List Item) → AllNumbered (x ∷ rest) → AllNumbered rest
  rest_numbered x rest all y stands = all y (omega (arith, stands))

  other_number : (x y : Item) → Numbered processes x → Numbered processes y → same_item x y ≡ false → (number y == number x) ≡ false
  other_number x y a b other =
      ne_eqb (number y) (number x) (λ e.
      let is = one_event processes y x b a e in false≢true (sym other ∙ ap (same_item x) is ∙ same_itself x))

  differs : (x y : Item) (rest : List Item) → times x (y ∷ rest) ≡ 0 → same_item x y ≡ false
  differs x y rest h =
      ⊎_elim (λ same. absurd (omega (arith, h, ap (λ b. (if b then 1 else 0) + times x rest) same))) (λ other. other) (cases_Bool (same_item x y))

  -- nothing follows what does not stand in a list
  pub none_follows : (x : Item) (list : List Item) → Numbered processes x → AllNumbered list → times x list ≡ 0 → next_in (number x) (numbers_of list) ≡ None
  none_follows x [] is all h = refl
  none_follows x (y ∷ rest) is all h =
      let other = differs x y rest h in
      ap (λ b. if b then head (numbers_of rest) else next_in (number x) (numbers_of rest)) (other_number x y is (first_numbered y rest all) other)
      ∙ none_follows x rest is (rest_numbered y rest all) (omega (arith, h, ap (λ b. (if b then 1 else 0) + times x rest) other))

  -- the first of the rest follows what does not stand before it
  next_follows : (before : List Item) (x : Item) (rest : List Item) → AllNumbered (before ++ x ∷ rest) → times x before ≡ 0
      → next_in (number x) (numbers_of (before ++ x ∷ rest)) ≡ head (numbers_of rest)
  next_follows [] x rest all h = ap (λ b. if b then head (numbers_of rest) else next_in (number x) (numbers_of rest)) (eq-eqb (number x) (number x) refl)
  next_follows (y ∷ before) x rest all h =
      let other = differs x y before h in
      let there = times-append x before (x ∷ rest) in
      let here = times_here x rest in
      let is = all x (omega (arith, there, here)) in
      ap (λ b. if b then head (numbers_of (before ++ x ∷ rest)) else next_in (number x) (numbers_of (before ++ x ∷ rest)))
      (other_number x y is (first_numbered y (before ++ x ∷ rest) all) other)
      ∙ next_follows before x rest (rest_numbered y (before ++ x ∷ rest) all) (omega (arith, h, ap (λ b. (if b then 1 else 0) + times x before) other))

  -- ---- chains

  abbrev pub Follows : (ℕ → Option ℕ) → List Item → Type 0
  Follows next [] = ⊤
  Follows next (x ∷ rest) = (next (number x) ≡ head (numbers_of rest)) × Follows next rest

  follows_from : (before rest : List Item) → AllNumbered (before ++ rest) → ((x : Item) → times x (before ++ rest) ≤ 1)
      → Follows (λ n. next_in n (numbers_of (before ++ rest))) rest
  follows_from before [] all once = tt
  follows_from before (x ∷ rest) all once =
      let whole = append_assoc before (x ∷ []) rest in
      let there = times-append x before (x ∷ rest) in
      let here = times_here x rest in
      let most = once x in (
        next_follows before x rest all (omega (arith, there, here, most)),
        subst (λ list. Follows (λ n. next_in n (numbers_of list)) rest) whole
            (follows_from (before ++ x ∷ []) rest (subst AllNumbered (sym whole) all) (subst (λ list. (y : Item) → times y list ≤ 1) (sym whole) once)),
      )

  pub follows : (list : List Item) → AllNumbered list → ((x : Item) → times x list ≤ 1) → Follows (λ n. next_in n (numbers_of list)) list
  follows list all once = follows_from [] list all once

  pub follows_same : (next other : ℕ → Option ℕ) (list : List Item) → ((x : Item) → 1 ≤ times x list → next (number x) ≡ other (number x))
      → Follows other list → Follows next list
  follows_same next other [] same h = tt
  follows_same next other (x ∷ rest) same h =
      let here = times_here x rest in
      (same x (omega (arith, here)) ∙ h.0, follows_same next other rest (λ y stands. same y (omega (arith, stands))) h.1)

  -- two chains with one first event and the same links are one
  pub one_chain : (next : ℕ → Option ℕ) (xs ys : List Item) → AllNumbered xs → AllNumbered ys → head (numbers_of xs) ≡ head (numbers_of ys)
      → Follows next xs → Follows next ys → xs ≡ ys
  one_chain next [] [] a b first f g = refl
  one_chain next [] (y ∷ ys) a b first f g = absurd (none-some (number y) first)
  one_chain next (x ∷ xs) [] a b first f g = absurd (none-some (number x) (sym first))
  one_chain next (x ∷ xs) (y ∷ ys) a b first f g =
      let number_same = same_Some (number x) (number y) first in
      ap₂ (λ (z : Item) zs. z ∷ zs) (one_event processes x y (first_numbered x xs a) (first_numbered y ys b) number_same)
      (one_chain next xs ys (rest_numbered x xs a) (rest_numbered y ys b) (sym f.0 ∙ ap next number_same ∙ g.0) f.1 g.1)

  -- ---- one of some lists

  abbrev pub NoneFollows : ℕ → List (List Item) → Type 0
  NoneFollows n [] = ⊤
  NoneFollows n (list ∷ rest) = (next_in n (numbers_of list) ≡ None) × NoneFollows n rest

  none_among : (n : ℕ) (lists : List (List Item)) → NoneFollows n lists → next_among n (map numbers_of lists) ≡ None
  none_among n [] h = refl
  none_among n (list ∷ rest) h = ap₂ option_or h.0 (none_among n rest h.1)

  or_none : (o : Option ℕ) → option_or o None ≡ o
  or_none None = refl
  or_none (Some n) = refl

  pub next_only : (n : ℕ) (before : List (List Item)) (list : List Item) (after : List (List Item)) → NoneFollows n before → NoneFollows n after
      → next_among n (map numbers_of (before ++ list ∷ after)) ≡ next_in n (numbers_of list)
  next_only n [] list after b a = ap (option_or (next_in n (numbers_of list))) (none_among n after a) ∙ or_none (next_in n (numbers_of list))
  next_only n (first ∷ before) list after b a = ap₂ option_or b.0 (next_only n before list after b.1 a)

  -- ---- lists in which each event stands once at most

  -- how often an event stands in some lists
  abbrev pub total : Item → List (List Item) → ℕ
  total x [] = 0
  total x (list ∷ rest) = times x list + total x rest

  total-append : (x : Item) (before after : List (List Item)) → total x (before ++ after) ≡ total x before + total x after
  total-append x [] after = omega arith
  total-append x (list ∷ before) after = omega (arith, total-append x before after)

  abbrev pub EachNumbered : List (List Item) → Type 0
  EachNumbered lists = (x : Item) → 1 ≤ total x lists → Numbered processes x

  nones : (x : Item) (lists : List (List Item)) → Numbered processes x → EachNumbered lists → total x lists ≡ 0 → NoneFollows (number x) lists
  nones x [] is all h = tt
  nones x (list ∷ rest) is all h =
      (none_follows x list is (λ y stands. all y (omega (arith, stands))) (omega (arith, h)), nones x rest is (λ y stands. all y (omega (arith, stands))) (omega (arith, h)))

  module _ (before : List (List Item)) (list : List Item) (after : List (List Item)) (all : EachNumbered (before ++ list ∷ after))
      (once : (x : Item) → total x (before ++ list ∷ after) ≤ 1) where
    pub list_numbered : AllNumbered list
    list_numbered x stands = let whole = total-append x before (list ∷ after) in all x (omega (arith, whole, stands))

    -- the links of all lists are those of each
    pub list_follows : Follows (λ n. next_among n (map numbers_of (before ++ list ∷ after))) list
    list_follows =
        follows_same (λ n. next_among n (map numbers_of (before ++ list ∷ after))) (λ n. next_in n (numbers_of list)) list
        (λ x stands.
        let whole = total-append x before (list ∷ after) in
        let most = once x in
        let is = list_numbered x stands in
        next_only (number x) before list after
        (nones x before is (λ y there. let parts = total-append y before (list ∷ after) in all y (omega (arith, parts, there))) (omega (arith, whole, most, stands)))
        (nones x after is (λ y there. let parts = total-append y before (list ∷ after) in all y (omega (arith, parts, there))) (omega (arith, whole, most, stands))))
        (follows list list_numbered (λ x. let whole = total-append x before (list ∷ after) in let most = once x in omega (arith, whole, most)))
