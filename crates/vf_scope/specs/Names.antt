-- The names of a scope (docs/LANGUAGE.md, "Sizes and signs"; IEEE Std 1364-2005, clause 12.7).
use Rattle.std.specs.Prelude.{ℕ, List, [], ◌∷◌, Option, Some, None, if◌then◌else◌}
use Rattle.std.specs.Str.{bytes_eq}
use Rattle.vf_scope.specs.declared.scope.Entry.{Entry}

-- names in the order of declaration, each with what it stands for
abbrev pub Names : Type 0
Names = List (List ℕ × Entry)

-- what a name stands for; none where it is not declared
abbrev pub find : Names → List ℕ → Option Entry
find [] name = None
find (one ∷ rest) name = if bytes_eq name one.0 then Some one.1 else find rest name
