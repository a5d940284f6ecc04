-- Words, names and signs at the front of items.
use Rattle.std.proofs.Common.{◌≡◌, ℕ, Bool, true, false, cond, List, [], ◌∷◌, Option, Some, None, refl, ap, subst, sym, ◌∙◌, codes}
use Rattle.std.specs.Str.{bytes_eq}
use Rattle.vf_base.specs.declared.names.Place.{Place}
use Rattle.vf_lexeme.specs.declared.kinds.TokenKind.{TokenKind}
use Rattle.vf_lexeme.specs.declared.kinds.TokenKind.TheVariants as token
use Rattle.vf_lex.specs.declared.token.Token.{Token}
use Rattle.vf_tree.specs.declared.modules.DirWord.{DirWord}
use Rattle.vf_tree.specs.declared.modules.Dir.{Dir}
use Rattle.vf_tree.specs.declared.modules.NetOrReg.{NetOrReg}
use Rattle.vf_tree.specs.declared.modules.NetWord.{NetWord}
use Rattle.vf_tree.specs.declared.modules.ParamWord.{ParamWord}
use Rattle.vf_expression.specs.Grammar.{Tokens, word}
use Rattle.vf_expression.specs.Reading.{◌>>=◌}
use Rattle.vf_expression.proofs.CallerLemmas.{bind_some, some_is, chosen, token_is}
use Rattle.vf_item.specs.Words.{dir_of, kind_of, net_of, param_of}
use Rattle.vf_item.specs.Reading.{word_text, dir_at, kind_at}

word_kind : (k : TokenKind) (text : List ℕ) → word_text k ≡ Some text → k ≡ token.Word text
word_kind (token.Word own) text e = ap token.Word (some_is own text e)
word_kind (token.Name own) text e = absurd cc
word_kind (token.System own) text e = absurd cc
word_kind (token.Sign own) text e = absurd cc
word_kind (token.Number v) text e = absurd cc
word_kind (token.Quoted own) text e = absurd cc

-- a word at the front, and what it means
pub record IsWordAt {A : Type 0} (meaning : List ℕ → Option A) (ts : Tokens) (a : A) (rest : Tokens) : Type 0 where
  pub at : Place
  pub text : List ℕ
  pub spelled : ts ≡ word at text ∷ rest
  pub meant : meaning text ≡ Some a

pub dir_is : (ts : Tokens) (x : Dir × Tokens) → dir_at ts ≡ Some x → (text : List ℕ) × (ts ≡ word x.0.place text ∷ x.1) × (dir_of text ≡ Some x.0.word)
unfolding dir_at
dir_is [] x e = absurd cc
dir_is (t ∷ rest) x e =
    let a = bind_some (word_text t.kind) (λ text. dir_of text >>= λ d. Some (record { place = t.place; word = d }, rest)) x e in
    let b = bind_some (dir_of a.0) (λ d. Some (record { place = t.place; word = d }, rest)) x a.2 in
    let same : (record { place = t.place; word = b.0 }, rest) ≡ x = some_is _ x b.2 in
    let front : t ≡ word t.place a.0 = token_is t (token.Word a.0) (word_kind t.kind a.0 a.1) in
    subst (λ (y : Dir × Tokens). (text : List ℕ) × (t ∷ rest ≡ word y.0.place text ∷ y.1) × (dir_of text ≡ Some y.0.word)) same (a.0, ap (λ (u : Token). u ∷ rest) front, b.1)

pub kind_is_word : (ts : Tokens) (x : NetOrReg × Tokens) → kind_at ts ≡ Some x → IsWordAt kind_of ts x.0 x.1
unfolding kind_at
kind_is_word [] x e = absurd cc
kind_is_word (t ∷ rest) x e =
    let a = bind_some (word_text t.kind) (λ text. kind_of text >>= λ k. Some (k, rest)) x e in
    let b = bind_some (kind_of a.0) (λ k. Some (k, rest)) x a.2 in
    let same : (b.0, rest) ≡ x = some_is (b.0, rest) x b.2 in
    let front : t ≡ word t.place a.0 = token_is t (token.Word a.0) (word_kind t.kind a.0 a.1) in
    subst (λ (y : NetOrReg × Tokens). IsWordAt kind_of (t ∷ rest) y.0 y.1) same (record { at = t.place; text = a.0; spelled = ap (λ (u : Token). u ∷ rest) front; meant = b.1 })

pub dir_again : (p : Place) (text : List ℕ) (d : DirWord) (rest : Tokens) → dir_of text ≡ Some d → dir_at (word p text ∷ rest) ≡ Some (record { place = p; word = d }, rest)
unfolding dir_at
dir_again p text d rest e = rw e refl

pub kind_again : (p : Place) (text : List ℕ) (k : NetOrReg) (rest : Tokens) → kind_of text ≡ Some k → kind_at (word p text ∷ rest) ≡ Some (k, rest)
unfolding kind_at
kind_again p text k rest e = rw e refl

pub net_no_dir : (text : List ℕ) (w : NetWord) → net_of text ≡ Some w → dir_of text ≡ None
unfolding net_of dir_of
net_no_dir text w e =
    let R : List ℕ → Type 0 = λ t. dir_of t ≡ None in
    chosen text (codes "wire") _ _ w R e (λ a. refl) (λ e.
    chosen text (codes "tri") _ _ w R e (λ a. refl) (λ e. absurd cc))

pub param_no_dir : (text : List ℕ) (w : ParamWord) → param_of text ≡ Some w → dir_of text ≡ None
unfolding param_of dir_of
param_no_dir text w e =
    let R : List ℕ → Type 0 = λ t. dir_of t ≡ None in
    chosen text (codes "parameter") _ _ w R e (λ a. refl) (λ e.
    chosen text (codes "localparam") _ _ w R e (λ a. refl) (λ e. absurd cc))

pub param_no_net : (text : List ℕ) (w : ParamWord) → param_of text ≡ Some w → net_of text ≡ None
unfolding param_of net_of
param_no_net text w e =
    let R : List ℕ → Type 0 = λ t. net_of t ≡ None in
    chosen text (codes "parameter") _ _ w R e (λ a. refl) (λ e.
    chosen text (codes "localparam") _ _ w R e (λ a. refl) (λ e. absurd cc))

-- a direction is neither `parameter` nor `else`
pub dir_no_word : (text other : List ℕ) (d : DirWord) → dir_of text ≡ Some d → bytes_eq (codes "input") other ≡ false → bytes_eq (codes "output") other ≡ false → bytes_eq text other ≡ false
unfolding dir_of
dir_no_word text other d e a b =
    let R : List ℕ → Type 0 = λ t. bytes_eq t other ≡ false in
    chosen text (codes "input") _ _ d R e (λ _. a) (λ e.
    chosen text (codes "output") _ _ d R e (λ _. b) (λ e. absurd cc))

pub net_no_word : (text other : List ℕ) (w : NetWord) → net_of text ≡ Some w → bytes_eq (codes "wire") other ≡ false → bytes_eq (codes "tri") other ≡ false → bytes_eq text other ≡ false
unfolding net_of
net_no_word text other w e a b =
    let R : List ℕ → Type 0 = λ t. bytes_eq t other ≡ false in
    chosen text (codes "wire") _ _ w R e (λ _. a) (λ e.
    chosen text (codes "tri") _ _ w R e (λ _. b) (λ e. absurd cc))

pub param_no_word : (text other : List ℕ) (w : ParamWord) → param_of text ≡ Some w → bytes_eq (codes "parameter") other ≡ false → bytes_eq (codes "localparam") other ≡ false → bytes_eq text other ≡ false
unfolding param_of
param_no_word text other w e a b =
    let R : List ℕ → Type 0 = λ t. bytes_eq t other ≡ false in
    chosen text (codes "parameter") _ _ w R e (λ _. a) (λ e.
    chosen text (codes "localparam") _ _ w R e (λ _. b) (λ e. absurd cc))
