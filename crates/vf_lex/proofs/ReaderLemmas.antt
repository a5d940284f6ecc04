-- The code's macros and conditions, and what they stand for.
use Rattle.std.proofs.Common.{◌≡◌, ℕ, Bool, true, false, cond, List, [], ◌∷◌, ◌++◌, ◌+◌, length, Option, Some, None, refl, ap, sym, ◌∙◌, inl, inr, reverse, if◌then◌else◌}
use Rattle.std.proofs.Math.Path.{fun_ext}
use Rattle.std.specs.Map.{lookup}
use Rattle.std.specs.Option.{option_map, option_to_list, MatchOption}
use Rattle.std.specs.Str.{bytes_eq}
use Rattle.std.proofs.lemmas.Bool.{cases_Bool, both_ways}
use Rattle.std.proofs.lemmas.List.{reverse-append, nil_from_length}
use Rattle.std.proofs.lemmas.Slice.Eq.{bytes_eq-Decides}
use Rattle.indexmap.specs.IndexMap.{insert_entry}
use Rattle.vf_lex.specs.declared.reader.Condition.{Condition}
use Rattle.vf_lex.specs.Around.{Around, with_conditions}
use Rattle.vf_lex.specs.Inner.{text_in}

-- two that differ are told apart in either order
differ : (a b c : List ℕ) → bytes_eq a b ≡ false → c ≡ b → bytes_eq c a ≡ false
differ a b c other same = elim (cases_Bool (bytes_eq c a)) [
  | inl is ↦ absurd (both_ways (bytes_eq a b) other ((bytes_eq-Decides a b).1 (sym ((bytes_eq-Decides c a).0 is) ∙ same)))
  | inr no_match ↦ no_match
]

module _ {K V : Type 0} (items : K → List ℕ) (name : List ℕ) (key : K) (value : V) where
  abbrev finds : K → Bool
  finds k = bytes_eq name (items k)

  abbrev same : K → K → Bool
  same k l = bytes_eq (items k) (items l)

  looked_up : (es : List (K × V))
      → lookup finds (insert_entry same es key value) ≡ cond (finds key) (Some value) (lookup finds es)
  looked_up [] = refl
  looked_up (e ∷ es) =
      elim (cases_Bool (same key e.0)) [
        | inl is ↦
            let items_are : items key ≡ items e.0 = (bytes_eq-Decides (items key) (items e.0)).0 is in
            elim (cases_Bool (finds e.0)) [
              | inl found ↦ rw (is, items_are, found) refl
              | inr other ↦ rw (is, items_are, other) refl
            ]
        | inr other ↦ elim (cases_Bool (finds e.0)) [
          | inl found ↦
              let away : finds key ≡ false = differ (items key) (items e.0) name other
              ((bytes_eq-Decides name (items e.0)).0 found) in
              rw (other, found, away) refl
          | inr lost ↦ rw (other, lost) (looked_up es)
        ]
      ]

module _ {K V : Type 0} (items : K → List ℕ) (text_of : V → List ℕ) where
  abbrev texts : List (K × Option V) → List ℕ → Option (List ℕ)
  texts es other = text_in text_of (lookup (λ k. bytes_eq other (items k)) es)

  chosen : (b : Bool) (text : Option V) (found : Option (Option V))
      → text_in text_of (cond b (Some text) found) ≡ cond b (option_map text_of text) (text_in text_of found)
  chosen true (Some text) found = refl
  chosen true None found = refl
  chosen false text found = refl

  -- the macros after a definition
  pub defined : (old new : List (K × Option V)) (key : K) (name : List ℕ) (text : Option V)
      → new ≡ insert_entry (λ k l. bytes_eq (items k) (items l)) old key text → items key ≡ name
      → ◌≡◌ {A = List ℕ → Option (List ℕ)} (texts new)
      (λ other. if bytes_eq other name then option_map text_of text else texts old other)
  defined old new key name text e is =
      fun_ext (λ other. ap (λ es. texts es other) e
      ∙ ap (λ found. text_in text_of found) (looked_up items other key text old)
      ∙ chosen (bytes_eq other (items key)) text (lookup (λ k. bytes_eq other (items k)) old)
      ∙ ap (λ n. cond (bytes_eq other n) (option_map text_of text) (texts old other)) is)

-- the conditions after an `endif`
pub popped : (now : Around) (old new : List Condition) (result : Option Condition) (before after : ℕ)
    → now.conditions ≡ reverse old → old ≡ new ++ option_to_list result
    → before ≡ length old → MatchOption result ((before ≡ 0) × (after ≡ 0)) (λ _. after + 1 ≡ before)
    → MatchOption result (now.conditions ≡ []) (λ condition. now ≡ with_conditions now (condition ∷ reverse new))
popped now old new None before after is e size none = is ∙ ap reverse (nil_from_length old (sym size ∙ none.0))
popped now old new (Some condition) before after is e size _ =
    ap (λ cs. with_conditions now cs) (is ∙ ap reverse e ∙ reverse-append new (condition ∷ []))
