-- The entries of the table, and the names of the scope.
use Rattle.std.proofs.Common.{◌≡◌, ℕ, Bool, true, false, List, [], ◌∷◌, ◌++◌, map, Option, Some, None, refl, ap, if◌then◌else◌}
use Rattle.std.specs.Prelude.{is_some}
use Rattle.std.specs.Map.{lookup}
use Rattle.std.specs.Str.{bytes_eq}
use Rattle.indexmap.specs.IndexMap.{insert_entry}
use Rattle.vf_scope.specs.declared.scope.Entry.{Entry}
use Rattle.vf_scope.specs.Names.{Names, find}

module _ {K : Type 0} (items : K → List ℕ) where
  abbrev pub names : List (K × Entry) → Names
  names es = map (λ e. (items e.0, e.1)) es

  -- the entry of a name is what the name stands for
  pub found : (es : List (K × Entry)) (name : List ℕ) → lookup (λ key. bytes_eq name (items key)) es ≡ find (names es) name
  found [] name = refl
  found (e ∷ es) name = ap (λ rest. if bytes_eq name (items e.0) then Some e.1 else rest) (found es name)

  -- a name that is not declared comes last
  pub added : (es : List (K × Entry)) (key : K) (entry : Entry) → find (names es) (items key) ≡ None
      → names (insert_entry (λ k l. bytes_eq (items k) (items l)) es key entry) ≡ names es ++ (items key, entry) ∷ []
  added [] key entry h = refl
  added (e ∷ es) key entry h = by (bytes_eq (items key) (items e.0)) (added es key entry) h
    where
      by : (same : Bool) → (find (names es) (items key) ≡ None
          → names (insert_entry (λ k l. bytes_eq (items k) (items l)) es key entry) ≡ names es ++ (items key, entry) ∷ [])
          → (if same then Some e.1 else find (names es) (items key)) ≡ None
          → names (if same then (e.0, entry) ∷ es else e ∷ insert_entry (λ k l. bytes_eq (items k) (items l)) es key entry) ≡ names (e ∷ es) ++ (items key, entry) ∷ []
      by true rest h = absurd (cc h)
      by false rest h = ap (λ rest. (items e.0, e.1) ∷ rest) (rest h)

pub not_found : {A : Type 0} (o : Option A) → is_some o ≡ false → o ≡ None
not_found None h = refl
not_found (Some a) h = absurd (cc h)
