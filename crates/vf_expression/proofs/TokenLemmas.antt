-- Tokens at the front of a list, and steps of reading.
use Rattle.std.proofs.Common.{◌≡◌, ℕ, ◌+◌, ◌<◌, ◌≤◌, ◌⊎◌, Bool, true, false, cond, leb, List, [], ◌∷◌, Option, Some, None, refl, ap, subst, sym, ◌∙◌, codes, inl, inr, arith}
use Rattle.std.specs.Str.{bytes_eq}
use Rattle.std.proofs.lemmas.Bool.{cases_Bool, leb-true, leb-false, le-leb, false_from_ne_true}
use Rattle.std.proofs.lemmas.Slice.Eq.{bytes_eq-Decides}
use Rattle.vf_base.specs.declared.names.Place.{Place}
use Rattle.vf_fours.specs.declared.BinaryOp.{BinaryOp}
use Rattle.vf_fours.specs.declared.BinaryOp.TheVariants as binary
use Rattle.vf_lexeme.specs.declared.kinds.TokenKind.{TokenKind}
use Rattle.vf_lexeme.specs.declared.kinds.TokenKind.TheVariants as token
use Rattle.vf_lex.specs.declared.token.Token.{Token}
use Rattle.vf_expression.specs.declared.read.Part.{Part}
use Rattle.vf_expression.specs.declared.read.Part.TheVariants as parts
use Rattle.vf_expression.specs.Operators.{binary_of, level_of}
use Rattle.vf_expression.specs.Grammar.{Tokens, sign}
use Rattle.vf_expression.specs.Reading.{◌>>=◌, found_or, is_sign, sign_text, after, operator_at, opening_at, part_of, part_at}

-- a step that gave something
pub bind_some : {A B : Type 0} (r : Option A) (f : A → Option B) (y : B) → (r >>= f) ≡ Some y → (x : A) × (r ≡ Some x) × (f x ≡ Some y)
bind_some (Some x) f y e = (x, refl, e)
bind_some None f y e = absurd cc

-- a test that let through
pub guard_some : {A : Type 0} (b : Bool) (x y : A) → cond b (Some x) None ≡ Some y → (b ≡ true) × (x ≡ y)
guard_some true x y e = (refl, cc)
guard_some false x y e = absurd cc

pub some_is : {A : Type 0} (x y : A) → Some x ≡ Some y → x ≡ y
some_is x y e = cc

-- what was found, or nothing
pub found_is : {A B : Type 0} (o : Option A) (f : A → Option B) (other : Option B) (y : B) → found_or o f other ≡ Some y → ((x : A) × (o ≡ Some x) × (f x ≡ Some y)) ⊎ ((o ≡ None) × (other ≡ Some y))
found_is (Some x) f other y e = inl (x, refl, e)
found_is None f other y e = inr (refl, e)

pub same_text : (text : List ℕ) → bytes_eq text text ≡ true
same_text text = (bytes_eq-Decides text text).1 refl

pub text_is : (a b : List ℕ) → bytes_eq a b ≡ true → a ≡ b
text_is a b e = (bytes_eq-Decides a b).0 e

-- a choice by the text of a token
pub chosen : {A : Type 0} (text wanted : List ℕ) (a b : Option A) (x : A) (R : List ℕ → Type 0) → cond (bytes_eq text wanted) a b ≡ Some x → (a ≡ Some x → R wanted) → (b ≡ Some x → R text) → R text
chosen text wanted a b x R e f g =
    elim (cases_Bool (bytes_eq text wanted)) [
      | inl same ↦ subst R (sym (text_is text wanted same)) (f (rw same at e))
      | inr other ↦ g (rw other at e)
    ]

-- ---- a sign at the front

pub kind_is : (text : List ℕ) (k : TokenKind) → is_sign text k ≡ true → k ≡ token.Sign text
kind_is text (token.Sign own) e = ap token.Sign (text_is own text e)
kind_is text (token.Name own) e = absurd cc
kind_is text (token.System own) e = absurd cc
kind_is text (token.Word own) e = absurd cc
kind_is text (token.Number value) e = absurd cc
kind_is text (token.Quoted own) e = absurd cc

pub token_is : (t : Token) (k : TokenKind) → t.kind ≡ k → t ≡ record { kind = k; place = t.place }
token_is t k e = ap (λ (kind : TokenKind). record t { kind = kind }) e

pub after_is : (text : List ℕ) (ts rest : Tokens) → after text ts ≡ Some rest → (q : Place) × (ts ≡ sign q text ∷ rest)
unfolding after
after_is text [] rest e = absurd cc
after_is text (t ∷ ts) rest e =
    let g = guard_some (is_sign text t.kind) ts rest e in
    let same : t ≡ sign t.place text = token_is t (token.Sign text) (kind_is text t.kind g.0) in
    (t.place, ap (λ (x : Token). x ∷ ts) same ∙ ap (λ (us : Tokens). sign t.place text ∷ us) g.1)

pub after_again : (text : List ℕ) (q : Place) (rest : Tokens) → after text (sign q text ∷ rest) ≡ Some rest
unfolding after
after_again text q rest = rw (same_text text) refl

pub after_other : (text own : List ℕ) (q : Place) (rest : Tokens) → bytes_eq own text ≡ false → after text (sign q own ∷ rest) ≡ None
unfolding after
after_other text own q rest e = rw e refl

-- ---- the text of a sign

text_of_kind : (k : TokenKind) (text : List ℕ) → sign_text k ≡ Some text → k ≡ token.Sign text
text_of_kind (token.Sign own) text e = ap token.Sign (some_is own text e)
text_of_kind (token.Name own) text e = absurd cc
text_of_kind (token.System own) text e = absurd cc
text_of_kind (token.Word own) text e = absurd cc
text_of_kind (token.Number value) text e = absurd cc
text_of_kind (token.Quoted own) text e = absurd cc

pub front_is : (t : Token) (text : List ℕ) → sign_text t.kind ≡ Some text → t ≡ sign t.place text
front_is t text e = token_is t (token.Sign text) (text_of_kind t.kind text e)

-- ---- binary operators

pub level_top : (op : BinaryOp) → level_of op < 12
level_top binary.LogicalOr = omega arith
level_top binary.LogicalAnd = omega arith
level_top binary.BitOr = omega arith
level_top binary.BitXor = omega arith
level_top binary.BitXnor = omega arith
level_top binary.BitAnd = omega arith
level_top binary.Equal = omega arith
level_top binary.NotEqual = omega arith
level_top binary.CaseEqual = omega arith
level_top binary.CaseNotEqual = omega arith
level_top binary.Less = omega arith
level_top binary.LessEqual = omega arith
level_top binary.Greater = omega arith
level_top binary.GreaterEqual = omega arith
level_top binary.ShiftLeft = omega arith
level_top binary.ShiftRight = omega arith
level_top binary.ArithmeticShiftLeft = omega arith
level_top binary.ArithmeticShiftRight = omega arith
level_top binary.Add = omega arith
level_top binary.Subtract = omega arith
level_top binary.Multiply = omega arith
level_top binary.Divide = omega arith
level_top binary.Remainder = omega arith

pub level_low : (op : BinaryOp) → 2 ≤ level_of op
level_low binary.LogicalOr = omega arith
level_low binary.LogicalAnd = omega arith
level_low binary.BitOr = omega arith
level_low binary.BitXor = omega arith
level_low binary.BitXnor = omega arith
level_low binary.BitAnd = omega arith
level_low binary.Equal = omega arith
level_low binary.NotEqual = omega arith
level_low binary.CaseEqual = omega arith
level_low binary.CaseNotEqual = omega arith
level_low binary.Less = omega arith
level_low binary.LessEqual = omega arith
level_low binary.Greater = omega arith
level_low binary.GreaterEqual = omega arith
level_low binary.ShiftLeft = omega arith
level_low binary.ShiftRight = omega arith
level_low binary.ArithmeticShiftLeft = omega arith
level_low binary.ArithmeticShiftRight = omega arith
level_low binary.Add = omega arith
level_low binary.Subtract = omega arith
level_low binary.Multiply = omega arith
level_low binary.Divide = omega arith
level_low binary.Remainder = omega arith

pub record IsOperator (m : ℕ) (ts : Tokens) (o : BinaryOp × Tokens) : Type 0 where
  pub at : Place
  pub text : List ℕ
  pub spelled : ts ≡ sign at text ∷ o.1
  pub meant : binary_of text ≡ Some o.0
  pub tight : m ≤ level_of o.0

pub operator_is : (m : ℕ) (ts : Tokens) (o : BinaryOp × Tokens) → operator_at m ts ≡ Some o → IsOperator m ts o
unfolding operator_at
operator_is m [] o e = absurd cc
operator_is m (t ∷ rest) o e =
    let a = bind_some (sign_text t.kind) (λ text. binary_of text >>= λ op. cond (leb m (level_of op)) (Some (op, rest)) None) o e in
    let b = bind_some (binary_of a.0) (λ op. cond (leb m (level_of op)) (Some (op, rest)) None) o a.2 in
    let g = guard_some (leb m (level_of b.0)) (b.0, rest) o b.2 in
    record {
      at = t.place;
      text = a.0;
      spelled = ap (λ (x : Token). x ∷ rest) (front_is t a.0 a.1) ∙ ap (λ (y : BinaryOp × Tokens). sign t.place a.0 ∷ y.1) g.1;
      meant = b.1 ∙ ap (λ (y : BinaryOp × Tokens). Some y.0) g.1;
      tight = rw (← ap (λ (y : BinaryOp × Tokens). level_of y.0) g.1) (leb-true m (level_of b.0) g.0);
    }

pub operator_again : (m : ℕ) (q : Place) (text : List ℕ) (op : BinaryOp) (rest : Tokens) → binary_of text ≡ Some op → m ≤ level_of op → operator_at m (sign q text ∷ rest) ≡ Some (op, rest)
unfolding operator_at
operator_again m q text op rest e h = rw (e, le-leb m (level_of op) h) refl

pub operator_not : (m : ℕ) (q : Place) (text : List ℕ) (op : BinaryOp) (rest : Tokens) → binary_of text ≡ Some op → level_of op < m → operator_at m (sign q text ∷ rest) ≡ None
unfolding operator_at
operator_not m q text op rest e h =
    let f : leb m (level_of op) ≡ false = false_from_ne_true (leb m (level_of op)) (λ is. let le = leb-true m (level_of op) is in absurd (omega arith)) in
    rw (e, f) refl

pub operator_other : (m : ℕ) (q : Place) (text : List ℕ) (rest : Tokens) → binary_of text ≡ None → operator_at m (sign q text ∷ rest) ≡ None
unfolding operator_at
operator_other m q text rest e = rw e refl

none_or : {A : Type 0} (o : Option A) → ((x : A) → o ≡ Some x → ⊥) → o ≡ None
none_or None h = refl
none_or (Some x) h = absurd (h x refl)

never_some : {A : Type 0} (o : Option A) (x : A) → o ≡ None → o ≡ Some x → ⊥
never_some o x a b = absurd cc

-- without an operator of a level there is none of a higher one
pub operator_looser : (m n : ℕ) (ts : Tokens) → operator_at m ts ≡ None → m ≤ n → operator_at n ts ≡ None
operator_looser m n ts e h =
    none_or (operator_at n ts) (λ o found.
    let is = operator_is n ts o found in
    never_some (operator_at m ts) (o.0, o.1) e (ap (operator_at m) is.spelled ∙ operator_again m is.at is.text o.0 o.1 is.meant (omega (arith, is.tight))))

pub operator_top : (ts : Tokens) → operator_at 12 ts ≡ None
operator_top ts =
    none_or (operator_at 12 ts) (λ o found.
    let is = operator_is 12 ts o found in
    absurd (omega (arith, is.tight, level_top o.0)))

-- an operator binds at most at the level above which there is none
pub operator_bound : (m k : ℕ) (ts : Tokens) (o : BinaryOp × Tokens) → operator_at m ts ≡ Some o → operator_at (k + 1) ts ≡ None → level_of o.0 ≤ k
operator_bound m k ts o found e =
    let is = operator_is m ts o found in
    elim (cases_Bool (leb (k + 1) (level_of o.0))) [
      | inl tight ↦
          absurd (never_some (operator_at (k + 1) ts) (o.0, o.1) e (ap (operator_at (k + 1)) is.spelled ∙ operator_again (k + 1) is.at is.text o.0 o.1 is.meant (leb-true (k + 1) (level_of o.0) tight)))
      | inr loose ↦ let lt = leb-false (k + 1) (level_of o.0) loose in omega arith
    ]

-- ---- selects

pub opening_is : (ts : Tokens) (o : Place × Tokens) → opening_at ts ≡ Some o → ts ≡ sign o.0 (codes "[") ∷ o.1
unfolding opening_at
opening_is [] o e = absurd cc
opening_is (t ∷ rest) o e =
    let g = guard_some (is_sign (codes "[") t.kind) (t.place, rest) o e in
    let same : t ≡ sign t.place (codes "[") = token_is t (token.Sign (codes "[")) (kind_is (codes "[") t.kind g.0) in
    ap (λ (x : Token). x ∷ rest) same ∙ ap (λ (y : Place × Tokens). sign y.0 (codes "[") ∷ y.1) g.1

pub opening_other : (q : Place) (text : List ℕ) (rest : Tokens) → bytes_eq text (codes "[") ≡ false → opening_at (sign q text ∷ rest) ≡ None
unfolding opening_at
opening_other q text rest e = rw e refl

-- a sign that is an operator is no other sign
pub operator_differs : (text other : List ℕ) (op : BinaryOp) → binary_of text ≡ Some op → binary_of other ≡ None → bytes_eq text other ≡ false
operator_differs text other op is none =
    false_from_ne_true (bytes_eq text other) (λ same. never_some (binary_of other) op none (ap binary_of (sym (text_is text other same)) ∙ is))

pub record IsPartSign (ts : Tokens) (o : Part × Tokens) : Type 0 where
  pub at : Place
  pub text : List ℕ
  pub spelled : ts ≡ sign at text ∷ o.1
  pub meant : part_of text ≡ Some o.0

pub part_is : (ts : Tokens) (o : Part × Tokens) → part_at ts ≡ Some o → IsPartSign ts o
unfolding part_at
part_is [] o e = absurd cc
part_is (t ∷ rest) o e =
    let a = bind_some (sign_text t.kind) (λ text. part_of text >>= λ part. Some (part, rest)) o e in
    let b = bind_some (part_of a.0) (λ part. Some (part, rest)) o a.2 in
    let same : (b.0, rest) ≡ o = some_is (b.0, rest) o b.2 in
    record {
      at = t.place;
      text = a.0;
      spelled = ap (λ (x : Token). x ∷ rest) (front_is t a.0 a.1) ∙ ap (λ (y : Part × Tokens). sign t.place a.0 ∷ y.1) same;
      meant = b.1 ∙ ap (λ (y : Part × Tokens). Some y.0) same;
    }

-- the text of a sign between the expressions of a select
pub data IsPartText (text : List ℕ) (part : Part) : Type 0 where
  range : text ≡ codes ":" → part ≡ parts.Range → IsPartText text part
  up : text ≡ codes "+:" → part ≡ parts.Up → IsPartText text part
  down : text ≡ codes "-:" → part ≡ parts.Down → IsPartText text part

pub part_text : (text : List ℕ) (part : Part) → part_of text ≡ Some part → IsPartText text part
unfolding part_of
part_text text part e =
    elim (cases_Bool (bytes_eq text (codes ":"))) [
      | inl same ↦ range (text_is text (codes ":") same) (sym (some_is parts.Range part (rw same at e)))
      | inr a ↦ elim (cases_Bool (bytes_eq text (codes "+:"))) [
        | inl same ↦ up (text_is text (codes "+:") same) (sym (some_is parts.Up part (rw (a, same) at e)))
        | inr b ↦ elim (cases_Bool (bytes_eq text (codes "-:"))) [
          | inl same ↦ down (text_is text (codes "-:") same) (sym (some_is parts.Down part (rw (a, b, same) at e)))
          | inr c ↦ let none : None ≡ Some part = rw (a, b, c) at e in absurd cc
        ]
      ]
    ]
