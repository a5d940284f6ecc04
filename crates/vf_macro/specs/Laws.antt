-- What holds of the macro texts of all bytes.
use Rattle.std.specs.Prelude.{◌≡◌, ℕ, List}
use Rattle.vf_macro.specs.MacroText.{IsMacroText}

-- bytes begin with at most one macro text and rest
abbrev pub MacroTextsOnce : Type 0
MacroTextsOnce = (bytes text rest other more : List ℕ) → IsMacroText bytes text rest → IsMacroText bytes other more
    → (text ≡ other) × (rest ≡ more)

-- and with one
abbrev pub MacroTextsSome : Type 0
MacroTextsSome = (bytes : List ℕ) → (text : List ℕ) × (rest : List ℕ) × IsMacroText bytes text rest
