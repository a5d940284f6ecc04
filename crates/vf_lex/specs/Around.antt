-- What is known where a text is read on (docs/LANGUAGE.md, "Text and tokens").
use Rattle.std.specs.Prelude.{ℕ, ◌+◌, Bool, true, List, [], ◌∷◌, length, Option, None, is_some, if◌then◌else◌}
use Rattle.std.specs.Str.{bytes_eq}
use Rattle.vf_lex.specs.declared.fault.LexFault.{LexFault}
use Rattle.vf_lex.specs.declared.reader.Condition.{Condition}
use Rattle.vf_lex.specs.declared.token.Token.{Token}

pub record Around : Type 0 where
  -- the text of each name that is a macro
  pub macros : List ℕ → Option (List ℕ)
  -- the conditions that are open, the innermost first
  pub conditions : List Condition
  -- the tokens so far
  pub tokens : List Token
  -- how many bytes of the texts of macros were read: the length of each text, once for each use
  pub macro_bytes : ℕ

-- nothing is defined, open or read
abbrev pub nothing_yet : Around
nothing_yet = record { macros = λ name. None; conditions = []; tokens = []; macro_bytes = 0 }

-- how the reading of a text ends: at its end, or at the first fault
pub data End : Type 0 where
  Ended : Around → End
  Stopped : LexFault → End

-- the text of the innermost open condition's branch is taken
abbrev pub is_taken : List Condition → Bool
is_taken [] = true
is_taken (condition ∷ outer) = condition.taken

abbrev pub is_defined : Around → List ℕ → Bool
is_defined now name = is_some (now.macros name)

-- with one more definition, which takes the place of an earlier one of the name; none takes it away
abbrev pub with_macro : Around → List ℕ → Option (List ℕ) → Around
with_macro now name text = record now { macros = λ other. if bytes_eq other name then text else now.macros other }

abbrev pub with_conditions : Around → List Condition → Around
with_conditions now conditions = record now { conditions = conditions }

-- with the text of one more use of a macro counted
abbrev pub with_use : Around → List ℕ → Around
with_use now body = record now { macro_bytes = now.macro_bytes + length body }
