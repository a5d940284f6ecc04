-- What stands in front of tokens, and what may follow a tree.
use Rattle.std.proofs.Common.{◌≡◌, ℕ, Bool, true, false, List, [], ◌∷◌, Option, Some, None, refl, ap, subst, sym, ◌∙◌, codes}
use Rattle.std.specs.Str.{bytes_eq}
use Rattle.vf_base.specs.declared.names.Place.{Place}
use Rattle.vf_lex.specs.declared.token.Token.{Token}
use Rattle.vf_tree.specs.declared.words.Name.{Name}
use Rattle.vf_tree.specs.declared.modules.NetOrReg.{NetOrReg}
use Rattle.vf_expression.specs.Operators.{binary_of}
use Rattle.vf_expression.specs.Grammar.{Tokens, sign, word, name}
use Rattle.vf_expression.specs.Reading.{Ends, after, opening_at}
use Rattle.vf_expression.proofs.CallerLemmas.{after_other, opening_other, ends_at, ends_close, ends_comma}
use Rattle.vf_statement.specs.Reading.{after_word, name_at}
use Rattle.vf_statement.proofs.CallerLemmas.{name_is}
use Rattle.vf_item.specs.Rows.{Piece}
use Rattle.vf_item.specs.Grammar.{IsName, named}
use Rattle.vf_item.specs.Reading.{kind_at}

-- ---- a name in front

pub data StartsName (ts : Tokens) : Type 0 where
  starts : (p : Place) (text : List ℕ) (us : Tokens) → ts ≡ name p text ∷ us → StartsName ts

pub name_no_sign : (text : List ℕ) (ts : Tokens) → StartsName ts → after text ts ≡ None
unfolding after
name_no_sign text ts (starts p own us spelled) = rw spelled refl

pub name_no_word : (text : List ℕ) (ts : Tokens) → StartsName ts → after_word text ts ≡ None
unfolding after_word
name_no_word text ts (starts p own us spelled) = rw spelled refl

pub name_no_range : (ts : Tokens) → StartsName ts → opening_at ts ≡ None
unfolding opening_at
name_no_range ts (starts p own us spelled) = rw spelled refl

pub name_no_kind : (ts : Tokens) → StartsName ts → kind_at ts ≡ None
unfolding kind_at
name_no_kind ts (starts p own us spelled) = rw spelled refl

pub name_read : (ts : Tokens) (x : Name × Tokens) → name_at ts ≡ Some x → IsName ts x.1 x.0
name_read ts x e = named x.0.place x.0.text (name_is ts x e) refl

pub name_reads : (ts rest : Tokens) (n : Name) → IsName ts rest n → name_at ts ≡ Some (n, rest)
unfolding name_at
name_reads ts rest n (named p text spelled t) = rw (spelled, t) refl

-- a tree before a name
pub before_name : {A : Type 0} (One : Piece A) (ts us : Tokens) (a : A) (n : Name × Tokens) → One ts us a → name_at us ≡ Some n → One ts (name n.0.place n.0.text ∷ n.1) a
before_name One ts us a n is e = subst (λ vs. One ts vs a) (name_is us n e) is

-- ---- what may follow

-- neither a token that goes on with an expression nor `=`
pub record EndsPiece (rest : Tokens) : Type 0 where
  pub ends : Ends 1 rest
  pub equal : after (codes "=") rest ≡ None

pub piece_comma : (q : Place) (us : Tokens) → EndsPiece (sign q (codes ",") ∷ us)
piece_comma q us = record { ends = ends_comma q us; equal = after_other (codes "=") (codes ",") q us refl }

pub ends_semicolon : (q : Place) (us : Tokens) → Ends 1 (sign q (codes ";") ∷ us)
unfolding binary_of
ends_semicolon q us = ends_at q (codes ";") us refl refl refl

pub piece_semicolon : (q : Place) (us : Tokens) → EndsPiece (sign q (codes ";") ∷ us)
piece_semicolon q us = record { ends = ends_semicolon q us; equal = after_other (codes "=") (codes ";") q us refl }

pub piece_close : (q : Place) (us : Tokens) → EndsPiece (sign q (codes ")") ∷ us)
piece_close q us = record { ends = ends_close q us; equal = after_other (codes "=") (codes ")") q us refl }

-- the comma or parenthesis after a connection
pub data EndsSlot (rest : Tokens) : Type 0 where
  at_comma : (q : Place) (us : Tokens) → rest ≡ sign q (codes ",") ∷ us → EndsSlot rest
  at_close : (q : Place) (us : Tokens) → rest ≡ sign q (codes ")") ∷ us → EndsSlot rest

pub slot_ends : (rest : Tokens) → EndsSlot rest → Ends 1 rest
slot_ends rest (at_comma q us spelled) = subst (λ vs. Ends 1 vs) (sym spelled) (ends_comma q us)
slot_ends rest (at_close q us spelled) = subst (λ vs. Ends 1 vs) (sym spelled) (ends_close q us)
