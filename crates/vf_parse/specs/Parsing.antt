-- What parsing answers (docs/LANGUAGE.md, "Grammar", "Left-out words").
use Rattle.std.specs.Prelude.{◌≡◌, ℕ, [], ◌∷◌, slice_get, Some, Result, Ok, Err}
use Rattle.vf_base.specs.declared.names.Place.{Place}
use Rattle.vf_lex.specs.declared.token.Token.{Token}
use Rattle.vf_tree.specs.declared.modules.Source.{Source}
use Rattle.vf_expression.specs.Grammar.{Tokens}
use Rattle.vf_parse.specs.declared.fault.ParseKind.{ParseKind}
use Rattle.vf_parse.specs.declared.fault.ParseKind.TheVariants as kinds
use Rattle.vf_parse.specs.declared.fault.ParseFault.{ParseFault}
use Rattle.vf_parse.specs.Grammar.{IsSource}
use Rattle.vf_parse.specs.LeftOut.{NoneLeftOut, IsLeftOutAt}
use Rattle.vf_parse.specs.Deep.{IsNowhereDeep, IsDeepAt}

-- the tokens are that design: they are nowhere deep, and the grammar gives them the tree
pub record IsTree (ts : Tokens) (tree : Source) : Type 0 where
  pub shallow : IsNowhereDeep ts
  pub is : IsSource ts tree

-- one of the tokens stands at the place
pub record HasPlace (ts : Tokens) (p : Place) : Type 0 where
  pub index : ℕ
  pub token : Token
  pub at : slice_get ts index ≡ Some token
  pub placed : token.place ≡ p

-- the place of a token, or the start of the text where there is none
abbrev pub IsPlace : Tokens → Place → Type 0
IsPlace [] p = p ≡ record { line = 1; column = 1 }
IsPlace (t ∷ rest) p = HasPlace (t ∷ rest) p

-- too many are open at a token, and none is left out
pub record IsTooDeep (ts : Tokens) (p : Place) : Type 0 where
  pub none : NoneLeftOut ts
  pub deep : IsDeepAt ts p

-- no tree, for no other cause
pub record IsUnexpected (ts : Tokens) (p : Place) : Type 0 where
  pub none : NoneLeftOut ts
  pub shallow : IsNowhereDeep ts
  pub placed : IsPlace ts p
  pub never : (tree : Source) → IsSource ts tree → ⊥

abbrev pub IsRefused : Tokens → ParseKind → Place → Type 0
IsRefused ts kinds.Unexpected p = IsUnexpected ts p
IsRefused ts kinds.LeftOut p = IsLeftOutAt ts p
IsRefused ts kinds.TooDeep p = IsTooDeep ts p
IsRefused ts kinds.Memory p = Unit {0}

abbrev pub Answers : Tokens → Result Source ParseFault → Type 0
Answers ts (Ok tree) = NoneLeftOut ts × IsTree ts tree
Answers ts (Err fault) = IsRefused ts fault.kind fault.place

-- tokens are at most one design
abbrev pub TreesAreOne : Type 0
TreesAreOne = (ts : Tokens) (one other : Source) → IsTree ts one → IsTree ts other → one ≡ other
