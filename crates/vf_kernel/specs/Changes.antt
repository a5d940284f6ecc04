-- The write of one word, where it changes.
use Rattle.std.specs.Prelude.{ℕ, ◌==◌, List, [], ◌∷◌, if◌then◌else◌}
use Rattle.vf_base.specs.declared.write.Write.{Write}

abbrev pub change_at : ℕ → ℕ → ℕ → List Write
change_at at before after = if before == after then [] else record { at = at; word = after } ∷ []
