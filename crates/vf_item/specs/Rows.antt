-- Lists in the grammar of modules (docs/LANGUAGE.md, "Grammar"): as relations over the rule of their items, and as functions over its
-- reader. No depth is counted here: an expression or a statement in an item of a module stands in no other.
use Rattle.std.specs.Prelude.{◌≡◌, ℕ, zero, suc, List, [], ◌∷◌, ◌++◌, length, Option, Some, None, codes}
use Rattle.vf_base.specs.declared.names.Place.{Place}
use Rattle.vf_expression.specs.Grammar.{Tokens, sign}
use Rattle.vf_expression.specs.Reading.{◌>>=◌, found_or, after}

-- which tree stands before the rest
abbrev pub Piece : Type 0 → Type 1
Piece A = Tokens → Tokens → A → Type 0

-- a tree that was found, and the tokens after it
abbrev pub Found : Type 0 → Type 0
Found A = Option (A × Tokens)

module _ {A : Type 0} (One : Piece A) where
  -- { X }
  pub data IsRow : Tokens → Tokens → List A → Type 0 where
    row_end : {ts rest : Tokens} → ts ≡ rest → IsRow ts rest []
    row_more : {ts rest : Tokens} (us : Tokens) (a : A) (others : List A) → One ts us a → IsRow us rest others → IsRow ts rest (a ∷ others)

  -- "," X
  pub data IsAfterComma (ts rest : Tokens) (a : A) : Type 0 where
    after_comma : (q : Place) (us : Tokens) → One us rest a → ts ≡ sign q (codes ",") ∷ us → IsAfterComma ts rest a

-- X { "," X }
pub data IsSeries {A : Type 0} (One : Piece A) (ts rest : Tokens) (items : List A) : Type 0 where
  series : (us : Tokens) (a : A) (others : List A) → One ts us a → IsRow (IsAfterComma One) us rest others → items ≡ a ∷ others → IsSeries One ts rest items

-- the items that stand in front, after those that were read, f at most
module _ {A : Type 0} (start : Tokens → Option Tokens) (one : Tokens → Found A) where
  unfoldable pub row_from : ℕ → List A → Tokens → Found (List A)
  row_from zero items ts = Some (items, ts)
  row_from (suc f) items ts = found_or (start ts) (λ us. one us >>= λ x. row_from f (items ++ x.0 ∷ []) x.1) (Some (items, ts))

-- further items, each after a comma
unfoldable pub more_at : {A : Type 0} → (Tokens → Found A) → List A → Tokens → Found (List A)
more_at one items ts = row_from (after (codes ",")) one (length ts) items ts

-- items with commas between them
unfoldable pub series_at : {A : Type 0} → (Tokens → Found A) → Tokens → Found (List A)
series_at one ts = do
  a ← one ts
  more_at one (a.0 ∷ []) a.1
