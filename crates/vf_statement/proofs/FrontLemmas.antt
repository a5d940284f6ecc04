-- Reserved words, system names and names at the front of the tokens.
use Rattle.std.proofs.Common.{◌≡◌, ℕ, true, false, List, [], ◌∷◌, ◌⊎◌, Option, Some, None, refl, ap, sym, ◌∙◌, inl, inr, codes}
use Rattle.std.specs.Str.{bytes_eq}
use Rattle.std.proofs.lemmas.Bool.{false_from_ne_true}
use Rattle.vf_base.specs.declared.names.Place.{Place}
use Rattle.vf_lexeme.specs.declared.kinds.TokenKind.{TokenKind}
use Rattle.vf_lexeme.specs.declared.kinds.TokenKind.TheVariants as token
use Rattle.vf_lex.specs.declared.token.Token.{Token}
use Rattle.vf_tree.specs.declared.words.Name.{Name}
use Rattle.vf_expression.specs.Grammar.{Tokens, sign, word, name, system}
use Rattle.vf_expression.specs.Reading.{◌>>=◌, after}
use Rattle.vf_expression.proofs.CallerLemmas.{bind_some, guard_some, some_is, found_is, same_text, text_is, token_is, after_is}
use Rattle.vf_statement.specs.Reading.{is_word, after_word, is_system, after_system, name_by, name_at, label_at}

-- ---- reserved words

word_kind : (text : List ℕ) (k : TokenKind) → is_word text k ≡ true → k ≡ token.Word text
word_kind text (token.Word own) e = ap token.Word (text_is own text e)
word_kind text (token.Name own) e = absurd cc
word_kind text (token.System own) e = absurd cc
word_kind text (token.Sign own) e = absurd cc
word_kind text (token.Number value) e = absurd cc
word_kind text (token.Quoted own) e = absurd cc

pub word_token : (text : List ℕ) (t : Token) → is_word text t.kind ≡ true → t ≡ word t.place text
word_token text t e = token_is t (token.Word text) (word_kind text t.kind e)

pub after_word_is : (text : List ℕ) (ts rest : Tokens) → after_word text ts ≡ Some rest → (q : Place) × (ts ≡ word q text ∷ rest)
unfolding after_word
after_word_is text [] rest e = absurd cc
after_word_is text (t ∷ ts) rest e =
    let g = guard_some (is_word text t.kind) ts rest e in
    (t.place, ap (λ (x : Token). x ∷ ts) (word_token text t g.0) ∙ ap (λ (us : Tokens). word t.place text ∷ us) g.1)

pub after_word_again : (text : List ℕ) (q : Place) (rest : Tokens) → after_word text (word q text ∷ rest) ≡ Some rest
unfolding after_word
after_word_again text q rest = rw (same_text text) refl

pub after_word_other : (text own : List ℕ) (q : Place) (rest : Tokens) → bytes_eq own text ≡ false → after_word text (word q own ∷ rest) ≡ None
unfolding after_word
after_word_other text own q rest e = rw e refl

none_or : {A : Type 0} (o : Option A) → ((x : A) → o ≡ Some x → ⊥) → o ≡ None
none_or None h = refl
none_or (Some x) h = absurd (h x refl)

never_some : {A : Type 0} (o : Option A) (x : A) → o ≡ None → o ≡ Some x → ⊥
never_some o x a b = absurd cc

-- what is read begins with no word or sign that nothing is read from
pub no_word : {A : Type 0} (read : Tokens → Option A) (text : List ℕ) → ((q : Place) (us : Tokens) → read (word q text ∷ us) ≡ None) → (ts : Tokens) (x : A) → read ts ≡ Some x → after_word text ts ≡ None
no_word read text never ts x e =
    none_or (after_word text ts) (λ us found.
    let q = after_word_is text ts us found in
    never_some (read ts) x (ap read q.1 ∙ never q.0 us) e)

pub no_sign : {A : Type 0} (read : Tokens → Option A) (text : List ℕ) → ((q : Place) (us : Tokens) → read (sign q text ∷ us) ≡ None) → (ts : Tokens) (x : A) → read ts ≡ Some x → after text ts ≡ None
no_sign read text never ts x e =
    none_or (after text ts) (λ us found.
    let q = after_is text ts us found in
    never_some (read ts) x (ap read q.1 ∙ never q.0 us) e)

pub not_word : (text : List ℕ) (t : Token) (us : Tokens) → after_word text (t ∷ us) ≡ None → is_word text t.kind ≡ false
unfolding after_word
not_word text t us e =
    false_from_ne_true (is_word text t.kind) (λ same.
    let found : after_word text (t ∷ us) ≡ Some us = rw same refl in
    absurd (never_some (after_word text (t ∷ us)) us e found))

-- ---- system names

system_kind : (text : List ℕ) (k : TokenKind) → is_system text k ≡ true → k ≡ token.System text
system_kind text (token.System own) e = ap token.System (text_is own text e)
system_kind text (token.Name own) e = absurd cc
system_kind text (token.Word own) e = absurd cc
system_kind text (token.Sign own) e = absurd cc
system_kind text (token.Number value) e = absurd cc
system_kind text (token.Quoted own) e = absurd cc

pub after_system_is : (text : List ℕ) (ts rest : Tokens) → after_system text ts ≡ Some rest → (q : Place) × (ts ≡ system q text ∷ rest)
unfolding after_system
after_system_is text [] rest e = absurd cc
after_system_is text (t ∷ ts) rest e =
    let g = guard_some (is_system text t.kind) ts rest e in
    let same : t ≡ system t.place text = token_is t (token.System text) (system_kind text t.kind g.0) in
    (t.place, ap (λ (x : Token). x ∷ ts) same ∙ ap (λ (us : Tokens). system t.place text ∷ us) g.1)

pub after_system_again : (text : List ℕ) (q : Place) (rest : Tokens) → after_system text (system q text ∷ rest) ≡ Some rest
unfolding after_system
after_system_again text q rest = rw (same_text text) refl

pub no_system : {A : Type 0} (read : Tokens → Option A) (text : List ℕ) → ((q : Place) (us : Tokens) → read (system q text ∷ us) ≡ None) → (ts : Tokens) (x : A) → read ts ≡ Some x → after_system text ts ≡ None
no_system read text never ts x e =
    none_or (after_system text ts) (λ us found.
    let q = after_system_is text ts us found in
    never_some (read ts) x (ap read q.1 ∙ never q.0 us) e)

-- ---- names

name_kind : (k : TokenKind) (p : Place) (rest : Tokens) (x : Name × Tokens) → name_by k p rest ≡ Some x → record { kind = k; place = p } ∷ rest ≡ name x.0.place x.0.text ∷ x.1
name_kind (token.Name text) p rest x e = ap (λ (y : Name × Tokens). name y.0.place y.0.text ∷ y.1) (some_is (record { text = text; place = p }, rest) x e)
name_kind (token.System own) p rest x e = absurd cc
name_kind (token.Word own) p rest x e = absurd cc
name_kind (token.Sign own) p rest x e = absurd cc
name_kind (token.Number value) p rest x e = absurd cc
name_kind (token.Quoted own) p rest x e = absurd cc

pub name_is : (ts : Tokens) (x : Name × Tokens) → name_at ts ≡ Some x → ts ≡ name x.0.place x.0.text ∷ x.1
unfolding name_at
name_is [] x e = absurd cc
name_is (t ∷ rest) x e = name_kind t.kind t.place rest x e

pub name_again : (p : Place) (text : List ℕ) (rest : Tokens) → name_at (name p text ∷ rest) ≡ Some (record { text = text; place = p }, rest)
unfolding name_at
name_again p text rest = refl

-- a name that was read after a `:`, or none
pub label_is : (ts : Tokens) (x : Option Name × Tokens) → label_at ts ≡ Some x → ((q r : Place) × (text : List ℕ) × (ts ≡ sign q (codes ":") ∷ name r text ∷ x.1) × (x.0 ≡ Some (record { text = text; place = r }))) ⊎ ((x.0 ≡ None) × (ts ≡ x.1))
unfolding label_at
label_is ts x e =
    elim (found_is (after (codes ":") ts) (λ us. name_at us >>= λ n. Some (Some n.0, n.1)) (Some (None, ts)) x e) [
      | inl us ↦
          let n = bind_some (name_at us.0) (λ n. Some (Some n.0, n.1)) x us.2 in
          let same : (Some n.0.0, n.0.1) ≡ x = some_is (Some n.0.0, n.0.1) x n.2 in
          let q = after_is (codes ":") ts us.0 us.1 in
          let front : ts ≡ sign q.0 (codes ":") ∷ name n.0.0.place n.0.0.text ∷ n.0.1 = q.1 ∙ ap (λ (vs : Tokens). sign q.0 (codes ":") ∷ vs) (name_is us.0 n.0 n.1) in
          inl (q.0, n.0.0.place, n.0.0.text, front ∙ ap (λ (y : Option Name × Tokens). sign q.0 (codes ":") ∷ name n.0.0.place n.0.0.text ∷ y.1) same, ap (λ (y : Option Name × Tokens). y.0) (sym same))
      | inr none ↦
          let same : (None, ts) ≡ x = some_is (None, ts) x none.1 in
          inr (ap (λ (y : Option Name × Tokens). y.0) (sym same), ap (λ (y : Option Name × Tokens). y.1) same)
    ]
