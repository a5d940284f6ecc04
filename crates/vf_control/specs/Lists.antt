-- Lists in the grammar (docs/LANGUAGE.md, "Grammar"): as relations over the rule of their items, and as functions over its reader.
use Rattle.std.specs.Prelude.{◌≡◌, ℕ, zero, suc, max, List, [], ◌∷◌, ◌++◌, length, Option, Some, codes}
use Rattle.vf_base.specs.declared.names.Place.{Place}
use Rattle.vf_expression.specs.Grammar.{Tokens, sign}
use Rattle.vf_expression.specs.Reading.{Read, ◌>>=◌, found_or, after}

-- which tree stands before the rest, and the depth of the deepest expression directly in it, 0 without one
abbrev pub Part : Type 0 → Type 1
Part A = ℕ → Tokens → Tokens → A → Type 0

module _ {A : Type 0} (One : Part A) where
  -- { X }
  pub data IsMany : ℕ → Tokens → Tokens → List A → Type 0 where
    no_more : {n : ℕ} {ts rest : Tokens} → n ≡ 0 → ts ≡ rest → IsMany n ts rest []
    one_more : {n : ℕ} {ts rest : Tokens} (m k : ℕ) (us : Tokens) (a : A) (others : List A) → One m ts us a → IsMany k us rest others → n ≡ max m k → IsMany n ts rest (a ∷ others)

  -- "," X
  pub data IsNext (n : ℕ) (ts rest : Tokens) (a : A) : Type 0 where
    next : (q : Place) (us : Tokens) → One n us rest a → ts ≡ sign q (codes ",") ∷ us → IsNext n ts rest a

-- X { "," X }
pub data IsList {A : Type 0} (One : Part A) (n : ℕ) (ts rest : Tokens) (items : List A) : Type 0 where
  listed : (m k : ℕ) (us : Tokens) (a : A) (others : List A) → One m ts us a → IsMany (IsNext One) k us rest others → n ≡ max m k → items ≡ a ∷ others → IsList One n ts rest items

-- The items that stand in front, after those that were read, f at most. An item begins where start says so, and one reads it from there.
module _ {A S : Type 0} (start : Tokens → Option S) (one : S → Read A) where
  unfoldable pub many_from : ℕ → List A → ℕ → Tokens → Read (List A)
  many_from zero items n ts = Some (items, n, ts)
  many_from (suc f) items n ts = found_or (start ts) (λ s. one s >>= λ x. many_from f (items ++ x.0 ∷ []) (max n x.1) x.2) (Some (items, n, ts))

-- items with commas between them
unfoldable pub list_at : {A : Type 0} → (Tokens → Read A) → Tokens → Read (List A)
list_at one ts = do
  a ← one ts
  many_from (after (codes ",")) one (length a.2) (a.0 ∷ []) a.1 a.2
