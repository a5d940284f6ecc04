-- Words, strings and joints of events at the front.
use Rattle.std.proofs.Common.{◌≡◌, ℕ, Bool, true, false, cond, List, [], ◌∷◌, Option, Some, None, refl, ap, subst, sym, ◌∙◌, codes}
use Rattle.std.specs.Str.{bytes_eq}
use Rattle.vf_base.specs.declared.names.Place.{Place}
use Rattle.vf_lexeme.specs.declared.kinds.TokenKind.{TokenKind}
use Rattle.vf_lexeme.specs.declared.kinds.TokenKind.TheVariants as token
use Rattle.vf_tree.specs.declared.statements.EventJoin.{EventJoin}
use Rattle.vf_tree.specs.declared.statements.EventJoin.TheVariants as join
use Rattle.vf_tree.specs.declared.statements.SaveWord.{SaveWord}
use Rattle.vf_tree.specs.declared.statements.EndWord.{EndWord}
use Rattle.vf_expression.specs.Grammar.{Tokens, sign, word}
use Rattle.vf_expression.proofs.CallerLemmas.{guard_some, some_is, chosen, text_is}
use Rattle.vf_control.specs.Lists.{Part}
use Rattle.vf_control.specs.Words.{show_of, save_of, end_of}
use Rattle.vf_control.specs.Grammar.{quoted}
use Rattle.vf_control.specs.Reading.{string_by, string_at, join_by, join_at}

-- a test that let through
pub taken : {A : Type 0} (b : Bool) (o : Option A) (x : A) → cond b o None ≡ Some x → (b ≡ true) × (o ≡ Some x)
taken true o x e = (refl, e)
taken false o x e = absurd cc

-- what was read, by an equation to what is of the rule
pub done : {A : Type 0} (One : Part A) (ts : Tokens) (y x : A × ℕ × Tokens) → Some y ≡ Some x → One y.1 ts y.2 y.0 → One x.1 ts x.2 x.0
done {A = A} One ts y x e is = subst (λ (z : A × ℕ × Tokens). One z.1 ts z.2 z.0) (some_is y x e) is

-- ---- strings

string_kind : (k : TokenKind) (p : Place) (rest : Tokens) (s : List ℕ × Place × Tokens) → string_by k p rest ≡ Some s → record { kind = k; place = p } ∷ rest ≡ quoted s.1 s.0 ∷ s.2
string_kind (token.Quoted text) p rest s e = ap (λ (z : List ℕ × Place × Tokens). quoted z.1 z.0 ∷ z.2) (some_is (text, p, rest) s e)
string_kind (token.Name text) p rest s e = absurd cc
string_kind (token.System text) p rest s e = absurd cc
string_kind (token.Word text) p rest s e = absurd cc
string_kind (token.Number value) p rest s e = absurd cc
string_kind (token.Sign text) p rest s e = absurd cc

pub string_is : (ts : Tokens) (s : List ℕ × Place × Tokens) → string_at ts ≡ Some s → ts ≡ quoted s.1 s.0 ∷ s.2
unfolding string_at
string_is [] s e = absurd cc
string_is (t ∷ rest) s e = string_kind t.kind t.place rest s e

pub string_again : (p : Place) (text : List ℕ) (rest : Tokens) → string_at (quoted p text ∷ rest) ≡ Some (text, p, rest)
unfolding string_at
string_again p text rest = refl

-- ---- joints of events

pub data IsJoined (ts : Tokens) (s : EventJoin × Tokens) : Type 0 where
  or : (p : Place) → ts ≡ word p (codes "or") ∷ s.1 → s.0 ≡ join.Or → IsJoined ts s
  comma : (p : Place) → ts ≡ sign p (codes ",") ∷ s.1 → s.0 ≡ join.Comma → IsJoined ts s

join_kind : (k : TokenKind) (p : Place) (rest : Tokens) (s : EventJoin × Tokens) → join_by k rest ≡ Some s → IsJoined (record { kind = k; place = p } ∷ rest) s
join_kind (token.Word text) p rest s e =
    let g = guard_some (bytes_eq text (codes "or")) (join.Or, rest) s e in
    or p (ap (λ (t : List ℕ). word p t ∷ rest) (text_is text (codes "or") g.0) ∙ ap (λ (y : EventJoin × Tokens). word p (codes "or") ∷ y.1) g.1) (sym (ap (λ (y : EventJoin × Tokens). y.0) g.1))
join_kind (token.Sign text) p rest s e =
    let g = guard_some (bytes_eq text (codes ",")) (join.Comma, rest) s e in
    comma p (ap (λ (t : List ℕ). sign p t ∷ rest) (text_is text (codes ",") g.0) ∙ ap (λ (y : EventJoin × Tokens). sign p (codes ",") ∷ y.1) g.1) (sym (ap (λ (y : EventJoin × Tokens). y.0) g.1))
join_kind (token.Name text) p rest s e = absurd cc
join_kind (token.System text) p rest s e = absurd cc
join_kind (token.Number value) p rest s e = absurd cc
join_kind (token.Quoted text) p rest s e = absurd cc

pub join_is : (ts : Tokens) (s : EventJoin × Tokens) → join_at ts ≡ Some s → IsJoined ts s
unfolding join_at
join_is [] s e = absurd cc
join_is (t ∷ rest) s e = join_kind t.kind t.place rest s e

pub or_again : (p : Place) (rest : Tokens) → join_at (word p (codes "or") ∷ rest) ≡ Some (join.Or, rest)
unfolding join_at
or_again p rest = refl

pub comma_again : (p : Place) (rest : Tokens) → join_at (sign p (codes ",") ∷ rest) ≡ Some (join.Comma, rest)
unfolding join_at
comma_again p rest = refl

pub no_join : (p : Place) (rest : Tokens) → join_at (sign p (codes ")") ∷ rest) ≡ None
unfolding join_at
no_join p rest = refl

-- ---- names of tasks

pub save_no_show : (text : List ℕ) (w : SaveWord) → save_of text ≡ Some w → show_of text ≡ None
unfolding save_of show_of
save_no_show text w e =
    let R : List ℕ → Type 0 = λ t. show_of t ≡ None in
    chosen text (codes "$save") _ _ w R e (λ a. refl) (λ e.
    chosen text (codes "$incsave") _ _ w R e (λ a. refl) (λ e. absurd cc))

pub end_no_show : (text : List ℕ) (w : EndWord) → end_of text ≡ Some w → show_of text ≡ None
unfolding end_of show_of
end_no_show text w e =
    let R : List ℕ → Type 0 = λ t. show_of t ≡ None in
    chosen text (codes "$finish") _ _ w R e (λ a. refl) (λ e.
    chosen text (codes "$stop") _ _ w R e (λ a. refl) (λ e. absurd cc))

pub end_no_save : (text : List ℕ) (w : EndWord) → end_of text ≡ Some w → save_of text ≡ None
unfolding end_of save_of
end_no_save text w e =
    let R : List ℕ → Type 0 = λ t. save_of t ≡ None in
    chosen text (codes "$finish") _ _ w R e (λ a. refl) (λ e.
    chosen text (codes "$stop") _ _ w R e (λ a. refl) (λ e. absurd cc))
