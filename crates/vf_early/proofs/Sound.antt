-- What the reading functions read is what the grammar says.
use Rattle.std.proofs.Common.{◌≡◌, ℕ, zero, suc, ◌+◌, ◌-◌, ◌%◌, ◌^◌, ◌<◌, ◌≤◌, Bool, true, false, cond, ltb, eqb, ◌⊎◌, List, [], ◌∷◌, ◌++◌, length, set, Option, Some, None, refl, ap, subst, sym, ◌∙◌, inl, inr, append_assoc, codes, arith}
use Rattle.std.specs.Str.{bytes_eq}
use Rattle.std.proofs.lemmas.Bool.{cases_Bool, ltb-true, eqb-true}
use Rattle.std.proofs.lemmas.Slice.Eq.{bytes_eq-Decides}
use Rattle.std.proofs.lemmas.List.{append-nil, length-append}
use Rattle.std.proofs.Math.Seq.{set-append_seam}
use Rattle.vf_design.specs.declared.code.Condition.{Condition}
use Rattle.vf_design.specs.declared.code.Instr.{Instr}
use Rattle.vf_design.specs.declared.code.Instr.TheVariants.{Getc, Jump, Unless, Show, Save, IncSave, Finish, Halt}
use Rattle.vf_early.specs.declared.words.Keyword.{Keyword}
use Rattle.vf_early.specs.declared.words.Keyword.TheVariants as words
use Rattle.vf_early.specs.Words.{is_name, number_of}
use Rattle.vf_early.specs.Grammar.{IsOperand, plain, minus, IsCondition, equal, differs, IsSequence, nothing, followed, IsStatementOver, block, loop, guard, getc, show, save, inc_save, finish, IsStatement, IsSource}
use Rattle.vf_early.specs.Reading.{◌>>=◌, Tokens, Read, after, after_all, next, name_at, number_at, string_after, minus_at, operand_at, comparison, condition_at, emitted, emitting, getc_at, show_at, save_at, finish_at, block_from, ended_or, guarded_at, loop_at, guard_at, keyword_of, statement_by, statement_with, statement_at, header_at, ended, closed_at, Source, source_of}

-- a step that gave something
pub bind_some : {A B : Type 0} (r : Option A) (f : A → Option B) (y : B) → (r >>= f) ≡ Some y → (x : A) × (r ≡ Some x) × (f x ≡ Some y)
bind_some (Some x) f y e = (x, refl, e)
bind_some None f y e = absurd cc

-- a test that let through
pub guard_some : {A : Type 0} (b : Bool) (x y : A) → cond b (Some x) None ≡ Some y → (b ≡ true) × (x ≡ y)
guard_some true x y e = (refl, cc)
guard_some false x y e = absurd cc

pub some_is : {A : Type 0} (x y : A) → Some x ≡ Some y → x ≡ y
some_is x y e = cc

pub after_is : (word : List ℕ) (ts rest : Tokens) → after word ts ≡ Some rest → ts ≡ word ∷ rest
unfolding after
after_is word [] rest e = absurd cc
after_is word (t ∷ ts) rest e =
    let g = guard_some (bytes_eq t word) ts rest e in
    let same : t ≡ word = (bytes_eq-Decides t word).0 g.0 in
    cc

pub next_is : (ts : Tokens) (x : List ℕ × Tokens) → next ts ≡ Some x → ts ≡ x.0 ∷ x.1
next_is [] x e = absurd cc
next_is (t ∷ ts) x e = ap (λ (p : List ℕ × Tokens). p.0 ∷ p.1) (some_is (t, ts) x e)

pub emitted_is : (code : List Instr) (i : Instr) (more : List Instr) → emitted code i ≡ Some more → (more ≡ code ++ i ∷ []) × (length code < 65536)
unfolding emitted
emitted_is code i more e =
    let g = guard_some (ltb (length code) 65536) (code ++ i ∷ []) more e in
    (sym g.1, ltb-true (length code) 65536 g.0)

pub after_all_is : (words ts rest : Tokens) → after_all words ts ≡ Some rest → ts ≡ words ++ rest
unfolding after_all
after_all_is [] ts rest e = some_is ts rest e
after_all_is (w ∷ words) ts rest e =
    let a = bind_some (after w ts) (λ us. after_all words us) rest e in
    after_is w ts a.0 a.1 ∙ ap (λ (us : Tokens). w ∷ us) (after_all_is words a.0 rest a.2)

pub emitting_is : (code : List Instr) (i : Instr) (o : Option Tokens) (x : List Instr × Tokens) → emitting code i o ≡ Some x → (o ≡ Some x.1) × (x.0 ≡ code ++ i ∷ [])
emitting_is code i None x e = absurd cc
emitting_is code i (Some rest) x e =
    let a = bind_some (emitted code i) (λ more. Some (more, rest)) x e in
    let same : (a.0, rest) ≡ x = some_is (a.0, rest) x a.2 in
    (ap (λ (y : List Instr × Tokens). Some y.1) same, sym (ap (λ (y : List Instr × Tokens). y.0) same) ∙ (emitted_is code i a.0 a.1).0)

number_is : (ts : Tokens) (x : ℕ × Tokens) → number_at ts ≡ Some x → (word : List ℕ) × (number_of word ≡ Some x.0) × (ts ≡ word ∷ x.1)
unfolding number_at
number_is ts x e =
    let a = bind_some (next ts) (λ a. number_of a.0 >>= λ n. Some (n, a.1)) x e in
    let b = bind_some (number_of a.0.0) (λ n. Some (n, a.0.1)) x a.2 in
    let same : (b.0, a.0.1) ≡ x = some_is (b.0, a.0.1) x b.2 in
    (a.0.0, b.1 ∙ ap (λ (y : ℕ × Tokens). Some y.0) same, next_is ts a.0 a.1 ∙ ap (λ (y : ℕ × Tokens). a.0.0 ∷ y.1) same)

string_is : (ts rest : Tokens) → string_after ts ≡ Some rest → (name : List ℕ) × (ts ≡ (34 ∷ name) ∷ rest)
unfolding string_after
string_is [] rest e = absurd cc
string_is ([] ∷ ts) rest e = absurd cc
string_is ((b ∷ bs) ∷ ts) rest e =
    let g = guard_some (eqb b 34) ts rest e in
    let quote : b ≡ 34 = eqb-true b 34 g.0 in
    (bs, cc)

record IsOperandAt (ts : Tokens) (x : ℕ × Tokens) : Type 0 where
  own : Tokens
  is : IsOperand own x.0
  spelled : ts ≡ own ++ x.1

minus_is : (ts : Tokens) (x : ℕ × Tokens) → minus_at ts ≡ Some x → IsOperandAt (codes "-" ∷ ts) x
unfolding minus_at
minus_is ts x e =
    let a = bind_some (number_at ts) (λ n. Some ((2 ^ 32 - n.0) % 2 ^ 32, n.1)) x e in
    let same : ((2 ^ 32 - a.0.0) % 2 ^ 32, a.0.1) ≡ x = some_is _ x a.2 in
    let n = number_is ts a.0 a.1 in
    record {
      own = codes "-" ∷ n.0 ∷ [];
      is = minus n.0 a.0.0 n.1 refl (sym (ap (λ (y : ℕ × Tokens). y.0) same));
      spelled = ap (λ (us : Tokens). codes "-" ∷ us) (n.2 ∙ ap (λ (y : ℕ × Tokens). n.0 ∷ y.1) same);
    }

operand_is : (ts : Tokens) (x : ℕ × Tokens) → operand_at ts ≡ Some x → IsOperandAt ts x
unfolding operand_at
operand_is [] x e = absurd cc
operand_is (t ∷ ts) x e =
    elim (cases_Bool (bytes_eq t (codes "-"))) [
      | inl sign ↦
          let same : t ≡ codes "-" = (bytes_eq-Decides t (codes "-")).0 sign in
          rw same (minus_is ts x (rw sign at e))
      | inr other ↦
          let n = number_is (t ∷ ts) x (rw other at e) in
          record { own = n.0 ∷ []; is = plain n.0 n.1 refl; spelled = n.2 }
    ]

comparison_is : (t : List ℕ) (e : Bool) → comparison t ≡ Some e → ((e ≡ true) × (t ≡ codes "==")) ⊎ ((e ≡ false) × (t ≡ codes "!="))
unfolding comparison
comparison_is t e h =
    elim (cases_Bool (bytes_eq t (codes "=="))) [
      | inl same ↦ let is : true ≡ e = some_is true e (rw same at h) in inl (sym is, (bytes_eq-Decides t (codes "==")).0 same)
      | inr other ↦ elim (cases_Bool (bytes_eq t (codes "!="))) [
        | inl same ↦ let is : false ≡ e = some_is false e (rw (other, same) at h) in inr (sym is, (bytes_eq-Decides t (codes "!=")).0 same)
        | inr neither ↦ let none : None ≡ Some e = rw (other, neither) at h in absurd cc
      ]
    ]

record IsConditionAt (variable : List ℕ) (ts : Tokens) (x : Condition × Tokens) : Type 0 where
  test : Tokens
  is : IsCondition variable test x.0
  spelled : ts ≡ codes "(" ∷ (test ++ codes ")" ∷ x.1)

condition_of : (variable : List ℕ) (t : List ℕ) (own : Tokens) (condition : Condition) → ((condition.equal ≡ true) × (t ≡ codes "==")) ⊎ ((condition.equal ≡ false) × (t ≡ codes "!=")) → IsOperand own condition.number
    → IsCondition variable (variable ∷ t ∷ own) condition
condition_of variable t own condition (inl p) is = equal own is (ap (λ (x : List ℕ). variable ∷ x ∷ own) p.1) p.0
condition_of variable t own condition (inr p) is = differs own is (ap (λ (x : List ℕ). variable ∷ x ∷ own) p.1) p.0

condition_spelled : (variable : List ℕ) (ts behind : Tokens) (sign : List ℕ) (rest own further : Tokens) → ts ≡ codes "(" ∷ variable ∷ behind → behind ≡ sign ∷ rest → rest ≡ own ++ codes ")" ∷ further
    → ts ≡ codes "(" ∷ ((variable ∷ sign ∷ own) ++ codes ")" ∷ further)
condition_spelled variable ts behind sign rest own further a b c = a ∙ ap (λ (us : Tokens). codes "(" ∷ variable ∷ us) (b ∙ ap (λ (us : Tokens). sign ∷ us) c)

condition_is : (variable : List ℕ) (ts : Tokens) (x : Condition × Tokens) → condition_at variable ts ≡ Some x → IsConditionAt variable ts x
unfolding condition_at
condition_is variable ts x h =
    let a = bind_some (after_all (codes "(" ∷ variable ∷ []) ts) (λ a. next a >>= λ b. comparison b.0 >>= λ e. operand_at b.1 >>= λ n. after (codes ")") n.1 >>= λ c. Some (record { equal = e; number = n.0 }, c)) x h in
    let b = bind_some (next a.0) (λ b. comparison b.0 >>= λ e. operand_at b.1 >>= λ n. after (codes ")") n.1 >>= λ c. Some (record { equal = e; number = n.0 }, c)) x a.2 in
    let e = bind_some (comparison b.0.0) (λ e. operand_at b.0.1 >>= λ n. after (codes ")") n.1 >>= λ c. Some (record { equal = e; number = n.0 }, c)) x b.2 in
    let n = bind_some (operand_at b.0.1) (λ n. after (codes ")") n.1 >>= λ c. Some (record { equal = e.0; number = n.0 }, c)) x e.2 in
    let c = bind_some (after (codes ")") n.0.1) (λ c. Some (record { equal = e.0; number = n.0.0 }, c)) x n.2 in
    let made : Condition × Tokens = (record { equal = e.0; number = n.0.0 }, c.0) in
    let same : made ≡ x = some_is made x c.2 in
    let operand = operand_is b.0.1 n.0 n.1 in
    let close : n.0.1 ≡ codes ")" ∷ c.0 = after_is (codes ")") n.0.1 c.0 c.1 in
    let test = variable ∷ b.0.0 ∷ operand.own in
    let behind : b.0.1 ≡ operand.own ++ codes ")" ∷ c.0 = operand.spelled ∙ ap (λ (us : Tokens). operand.own ++ us) close in
    let whole = condition_spelled variable ts a.0 b.0.0 b.0.1 operand.own c.0 (after_all_is (codes "(" ∷ variable ∷ []) ts a.0 a.1) (next_is a.0 b.0 b.1) behind in
    subst (λ (y : Condition × Tokens). IsConditionAt variable ts y) same
    (record { test = test; is = condition_of variable b.0.0 operand.own made.0 (comparison_is b.0.0 e.0 e.1) operand.is; spelled = whole })

-- a statement's tokens and code, between those before and those after
pub record Reads (P : ℕ → Tokens → List Instr → Type 0) (front : List Instr) (ts : Tokens) (x : List Instr × Tokens) : Type 0 where
  pub own : Tokens
  pub code : List Instr
  pub is : P (length front) own code
  pub spelled : ts ≡ own ++ x.1
  pub written : x.0 ≡ front ++ code

-- ---- statements

keyword_word : Keyword → List ℕ
keyword_word words.Begin = codes "begin"
keyword_word words.While = codes "while"
keyword_word words.If = codes "if"
keyword_word words.Write = codes "$write"
keyword_word words.Save = codes "$save"
keyword_word words.IncSave = codes "$incsave"
keyword_word words.Finish = codes "$finish"

chosen : (t w : List ℕ) (k one : Keyword) (others : Option Keyword) → cond (bytes_eq t w) (Some one) others ≡ Some k → w ≡ keyword_word one → (others ≡ Some k → t ≡ keyword_word k) → t ≡ keyword_word k
chosen t w k one others e named further =
    elim (cases_Bool (bytes_eq t w)) [
      | inl same ↦ let is : one ≡ k = some_is one k (rw same at e) in (bytes_eq-Decides t w).0 same ∙ named ∙ ap keyword_word is
      | inr other ↦ further (rw other at e)
    ]

keyword_is : (t : List ℕ) (k : Keyword) → keyword_of t ≡ Some k → t ≡ keyword_word k
unfolding keyword_of keyword_word
keyword_is t k e =
    chosen t (codes "begin") k words.Begin _ e refl (λ e. chosen t (codes "while") k words.While _ e refl (λ e. chosen t (codes "if") k words.If _ e refl (λ e.
    chosen t (codes "$write") k words.Write _ e refl (λ e. chosen t (codes "$save") k words.Save _ e refl (λ e. chosen t (codes "$incsave") k words.IncSave _ e refl (λ e.
    chosen t (codes "$finish") k words.Finish _ e refl (λ e. absurd cc)))))))

record IsBlock (P : ℕ → Tokens → List Instr → Type 0) (front : List Instr) (ts : Tokens) (x : List Instr × Tokens) : Type 0 where
  inner : Tokens
  code : List Instr
  is : IsSequence P (length front) inner code
  spelled : ts ≡ inner ++ codes "end" ∷ x.1
  written : x.0 ≡ front ++ code

record IsGuarded (P : ℕ → Tokens → List Instr → Type 0) (variable : List ℕ) (front : List Instr) (ts : Tokens) (x : Condition × List Instr × Tokens) : Type 0 where
  test : Tokens
  inner : Tokens
  body : List Instr
  condition : IsCondition variable test x.0
  is : P (length front + 1) inner body
  spelled : ts ≡ codes "(" ∷ (test ++ codes ")" ∷ (inner ++ x.2))
  written : x.1 ≡ front ++ Unless x.0 0 ∷ body

-- the end has come, or more is read
ended_is : (front : List Instr) (o : Option Tokens) (further : Read) (x : List Instr × Tokens) → ended_or front o further ≡ Some x → (o ≡ Some x.1 × front ≡ x.0) ⊎ (further ≡ Some x)
ended_is front (Some rest) further x e =
    let same : (front, rest) ≡ x = some_is (front, rest) x e in
    inl (ap (λ (y : List Instr × Tokens). Some y.1) same, ap (λ (y : List Instr × Tokens). y.0) same)
ended_is front None further x e = inr e

module _ (S : List Instr → Tokens → Read) (variable : List ℕ) (P : ℕ → Tokens → List Instr → Type 0) (sound : (front : List Instr) (ts : Tokens) (x : List Instr × Tokens) → S front ts ≡ Some x → Reads P front ts x) where
  block_is : (n : ℕ) (front : List Instr) (ts : Tokens) (x : List Instr × Tokens) → block_from S variable n front ts ≡ Some x → IsBlock P front ts x
  unfolding block_from
  block_is zero front ts x e = absurd cc
  block_is (suc n) front ts x e =
      elim (ended_is front (after (codes "end") ts) (S front ts >>= λ y. block_from S variable n y.0 y.1) x e) [
        | inl p ↦ record { inner = []; code = []; is = nothing; spelled = after_is (codes "end") ts x.1 p.0; written = sym p.1 ∙ sym (append-nil front) }
        | inr further ↦
            let a = bind_some (S front ts) (λ y. block_from S variable n y.0 y.1) x further in
            let first = sound front ts a.0 a.1 in
            let others = block_is n a.0.0 a.0.1 x a.2 in
            let size : length a.0.0 ≡ length front + length first.code = ap length first.written ∙ length-append front first.code in
            let at : IsSequence P (length front + length first.code) others.inner others.code = subst (λ (k : ℕ). IsSequence P k others.inner others.code) size others.is in
            record {
              inner = first.own ++ others.inner;
              code = first.code ++ others.code;
              is = followed first.own others.inner first.code others.code first.is at refl refl;
              spelled = first.spelled ∙ ap (λ (us : Tokens). first.own ++ us) others.spelled ∙ sym (append_assoc first.own others.inner (codes "end" ∷ x.1));
              written = others.written ∙ ap (λ (is : List Instr). is ++ others.code) first.written ∙ append_assoc front first.code others.code;
            }
      ]

  guarded_is : (front : List Instr) (ts : Tokens) (x : Condition × List Instr × Tokens) → guarded_at S variable front ts ≡ Some x → IsGuarded P variable front ts x
  unfolding guarded_at
  guarded_is front ts x e =
      let c = bind_some (condition_at variable ts) (λ c. emitted front (Unless c.0 0) >>= λ opened. S opened c.1 >>= λ s. Some (c.0, s.0, s.1)) x e in
      let o = bind_some (emitted front (Unless c.0.0 0)) (λ opened. S opened c.0.1 >>= λ s. Some (c.0.0, s.0, s.1)) x c.2 in
      let s = bind_some (S o.0 c.0.1) (λ s. Some (c.0.0, s.0, s.1)) x o.2 in
      let made : Condition × List Instr × Tokens = (c.0.0, s.0.0, s.0.1) in
      let same : made ≡ x = some_is made x s.2 in
      let test = condition_is variable ts c.0 c.1 in
      let opened = (emitted_is front (Unless c.0.0 0) o.0 o.1).0 in
      let first = sound o.0 c.0.1 s.0 s.1 in
      let size : length o.0 ≡ length front + 1 = ap length opened ∙ length-append front (Unless c.0.0 0 ∷ []) in
      subst (λ (y : Condition × List Instr × Tokens). IsGuarded P variable front ts y) same (record {
        test = test.test;
        inner = first.own;
        body = first.code;
        condition = test.is;
        is = subst (λ (k : ℕ). P k first.own first.code) size first.is;
        spelled = test.spelled ∙ ap (λ (us : Tokens). codes "(" ∷ (test.test ++ codes ")" ∷ us)) first.spelled;
        written = first.written ∙ ap (λ (is : List Instr). is ++ first.code) opened ∙ append_assoc front (Unless c.0.0 0 ∷ []) first.code;
      })

  -- the tokens of a statement that begins with a condition
  regroup : (word : List ℕ) (test inner rest : Tokens) → word ∷ codes "(" ∷ (test ++ codes ")" ∷ (inner ++ rest)) ≡ (word ∷ codes "(" ∷ (test ++ codes ")" ∷ inner)) ++ rest
  regroup word test inner rest = ap (λ (us : Tokens). word ∷ codes "(" ∷ us) (sym (append_assoc test (codes ")" ∷ inner) rest))

  loop_is : (front : List Instr) (ts : Tokens) (x : List Instr × Tokens) → loop_at S variable front ts ≡ Some x → Reads (IsStatementOver P variable) front (codes "while" ∷ ts) x
  unfolding loop_at
  loop_is front ts x e =
      let g = bind_some (guarded_at S variable front ts) (λ g. emitted g.1 (Jump (length front)) >>= λ closed. Some (set closed (length front) (Unless g.0 (length closed)), g.2)) x e in
      let c = bind_some (emitted g.0.1 (Jump (length front))) (λ closed. Some (set closed (length front) (Unless g.0.0 (length closed)), g.0.2)) x g.2 in
      let made : List Instr × Tokens = (set c.0 (length front) (Unless g.0.0 (length c.0)), g.0.2) in
      let same : made ≡ x = some_is made x c.2 in
      let r = guarded_is front ts g.0 g.1 in
      let closed : c.0 ≡ front ++ Unless g.0.0 0 ∷ (r.body ++ Jump (length front) ∷ []) =
      (emitted_is g.0.1 (Jump (length front)) c.0 c.1).0 ∙ ap (λ (is : List Instr). is ++ Jump (length front) ∷ []) r.written ∙ append_assoc front (Unless g.0.0 0 ∷ r.body) (Jump (length front) ∷ []) in
      let size : length c.0 ≡ length front + length r.body + 2 =
      ap length closed ∙ length-append front (Unless g.0.0 0 ∷ (r.body ++ Jump (length front) ∷ [])) ∙ omega (arith, length-append r.body (Jump (length front) ∷ [])) in
      let patched : made.0 ≡ front ++ Unless g.0.0 (length front + length r.body + 2) ∷ (r.body ++ Jump (length front) ∷ []) =
      rw (size, closed) (set-append_seam front (Unless g.0.0 0) (r.body ++ Jump (length front) ∷ []) (Unless g.0.0 (length front + length r.body + 2))) in
      subst (λ (y : List Instr × Tokens). Reads (IsStatementOver P variable) front (codes "while" ∷ ts) y) same (record {
        own = codes "while" ∷ codes "(" ∷ (r.test ++ codes ")" ∷ r.inner);
        code = Unless g.0.0 (length front + length r.body + 2) ∷ (r.body ++ Jump (length front) ∷ []);
        is = loop r.test r.inner g.0.0 r.body r.condition r.is refl refl;
        spelled = ap (λ (us : Tokens). codes "while" ∷ us) r.spelled ∙ regroup (codes "while") r.test r.inner g.0.2;
        written = patched;
      })

  guard_is : (front : List Instr) (ts : Tokens) (x : List Instr × Tokens) → guard_at S variable front ts ≡ Some x → Reads (IsStatementOver P variable) front (codes "if" ∷ ts) x
  unfolding guard_at
  guard_is front ts x e =
      let g = bind_some (guarded_at S variable front ts) (λ g. Some (set g.1 (length front) (Unless g.0 (length g.1)), g.2)) x e in
      let made : List Instr × Tokens = (set g.0.1 (length front) (Unless g.0.0 (length g.0.1)), g.0.2) in
      let same : made ≡ x = some_is made x g.2 in
      let r = guarded_is front ts g.0 g.1 in
      let size : length g.0.1 ≡ length front + length r.body + 1 = ap length r.written ∙ length-append front (Unless g.0.0 0 ∷ r.body) ∙ omega arith in
      let patched : made.0 ≡ front ++ Unless g.0.0 (length front + length r.body + 1) ∷ r.body =
      rw (size, r.written) (set-append_seam front (Unless g.0.0 0) r.body (Unless g.0.0 (length front + length r.body + 1))) in
      subst (λ (y : List Instr × Tokens). Reads (IsStatementOver P variable) front (codes "if" ∷ ts) y) same (record {
        own = codes "if" ∷ codes "(" ∷ (r.test ++ codes ")" ∷ r.inner);
        code = Unless g.0.0 (length front + length r.body + 1) ∷ r.body;
        is = guard r.test r.inner g.0.0 r.body r.condition r.is refl refl;
        spelled = ap (λ (us : Tokens). codes "if" ∷ us) r.spelled ∙ regroup (codes "if") r.test r.inner g.0.2;
        written = patched;
      })

  -- a statement of one instruction: the words read in front of it, and the instruction
  short_reads : (front : List Instr) (own ts : Tokens) (code : List Instr) (x : List Instr × Tokens) → IsStatementOver P variable (length front) own code → ts ≡ own ++ x.1 → x.0 ≡ front ++ code → Reads (IsStatementOver P variable) front ts x
  short_reads front own ts code x is spelled written = record { own = own; code = code; is = is; spelled = spelled; written = written }

  getc_is : (front : List Instr) (ts : Tokens) (x : List Instr × Tokens) → getc_at front ts ≡ Some x → Reads (IsStatementOver P variable) front (variable ∷ ts) x
  unfolding getc_at
  getc_is front ts x e =
      let p = emitting_is front Getc (after_all (codes "=" ∷ codes "$fgetc" ∷ codes "(" ∷ codes "32'h8000_0000" ∷ codes ")" ∷ codes ";" ∷ []) ts) x e in
      let spelled = after_all_is (codes "=" ∷ codes "$fgetc" ∷ codes "(" ∷ codes "32'h8000_0000" ∷ codes ")" ∷ codes ";" ∷ []) ts x.1 p.0 in
      short_reads front _ (variable ∷ ts) (Getc ∷ []) x (getc refl refl) (ap (λ (us : Tokens). variable ∷ us) spelled) p.1

  show_is : (front : List Instr) (ts : Tokens) (x : List Instr × Tokens) → show_at variable front ts ≡ Some x → Reads (IsStatementOver P variable) front (codes "$write" ∷ ts) x
  unfolding show_at
  show_is front ts x e =
      let p = emitting_is front Show (after_all (codes "(" ∷ codes "\"%c\"" ∷ codes "," ∷ variable ∷ codes ")" ∷ codes ";" ∷ []) ts) x e in
      let spelled = after_all_is (codes "(" ∷ codes "\"%c\"" ∷ codes "," ∷ variable ∷ codes ")" ∷ codes ";" ∷ []) ts x.1 p.0 in
      short_reads front _ (codes "$write" ∷ ts) (Show ∷ []) x (show refl refl) (ap (λ (us : Tokens). codes "$write" ∷ us) spelled) p.1

  -- the string in parentheses, and the instruction after it
  saved : (instr : Instr) (front : List Instr) (ts : Tokens) (x : List Instr × Tokens) → save_at instr front ts ≡ Some x
      → (name : List ℕ) × (ts ≡ codes "(" ∷ (34 ∷ name) ∷ codes ")" ∷ codes ";" ∷ x.1) × (x.0 ≡ front ++ instr ∷ [])
  unfolding save_at
  saved instr front ts x e =
      let a = bind_some (after (codes "(") ts) (λ a. string_after a >>= λ b. emitting front instr (after_all (codes ")" ∷ codes ";" ∷ []) b)) x e in
      let b = bind_some (string_after a.0) (λ b. emitting front instr (after_all (codes ")" ∷ codes ";" ∷ []) b)) x a.2 in
      let p = emitting_is front instr (after_all (codes ")" ∷ codes ";" ∷ []) b.0) x b.2 in
      let name = string_is a.0 b.0 b.1 in
      let close = after_all_is (codes ")" ∷ codes ";" ∷ []) b.0 x.1 p.0 in
      (name.0, after_is (codes "(") ts a.0 a.1 ∙ ap (λ (us : Tokens). codes "(" ∷ us) (name.1 ∙ ap (λ (us : Tokens). (34 ∷ name.0) ∷ us) close), p.1)

  finish_is : (front : List Instr) (ts : Tokens) (x : List Instr × Tokens) → finish_at front ts ≡ Some x → Reads (IsStatementOver P variable) front (codes "$finish" ∷ ts) x
  unfolding finish_at
  finish_is front ts x e =
      let a = bind_some (after (codes "(") ts) (λ a. number_at a >>= λ n. emitting front (Finish n.0) (after_all (codes ")" ∷ codes ";" ∷ []) n.1)) x e in
      let n = bind_some (number_at a.0) (λ n. emitting front (Finish n.0) (after_all (codes ")" ∷ codes ";" ∷ []) n.1)) x a.2 in
      let p = emitting_is front (Finish n.0.0) (after_all (codes ")" ∷ codes ";" ∷ []) n.0.1) x n.2 in
      let value = number_is a.0 n.0 n.1 in
      let close = after_all_is (codes ")" ∷ codes ";" ∷ []) n.0.1 x.1 p.0 in
      let spelled : ts ≡ codes "(" ∷ value.0 ∷ codes ")" ∷ codes ";" ∷ x.1 = after_is (codes "(") ts a.0 a.1 ∙ ap (λ (us : Tokens). codes "(" ∷ us) (value.2 ∙ ap (λ (us : Tokens). value.0 ∷ us) close) in
      short_reads front _ (codes "$finish" ∷ ts) (Finish n.0.0 ∷ []) x (finish value.0 n.0.0 value.1 refl refl) (ap (λ (us : Tokens). codes "$finish" ∷ us) spelled) p.1

  block_reads : (front : List Instr) (ts : Tokens) (x : List Instr × Tokens) → IsBlock P front ts x → Reads (IsStatementOver P variable) front (codes "begin" ∷ ts) x
  block_reads front ts x b = record {
    own = codes "begin" ∷ (b.inner ++ codes "end" ∷ []);
    code = b.code;
    is = block b.inner b.is refl;
    spelled = ap (λ (us : Tokens). codes "begin" ∷ us) (b.spelled ∙ sym (append_assoc b.inner (codes "end" ∷ []) x.1));
    written = b.written;
  }

  by_keyword : (o : Option Keyword) (t : List ℕ) (front : List Instr) (ts : Tokens) (x : List Instr × Tokens) → keyword_of t ≡ o → statement_by S variable o t front ts ≡ Some x → Reads (IsStatementOver P variable) front (t ∷ ts) x
  unfolding statement_by keyword_word
  by_keyword (Some words.Begin) t front ts x k e = rw (keyword_is t words.Begin k) (block_reads front ts x (block_is (length ts) front ts x e))
  by_keyword (Some words.While) t front ts x k e = rw (keyword_is t words.While k) (loop_is front ts x e)
  by_keyword (Some words.If) t front ts x k e = rw (keyword_is t words.If k) (guard_is front ts x e)
  by_keyword (Some words.Write) t front ts x k e = rw (keyword_is t words.Write k) (show_is front ts x e)
  by_keyword (Some words.Save) t front ts x k e =
      let p = saved Save front ts x e in
      rw (keyword_is t words.Save k) (short_reads front _ (codes "$save" ∷ ts) (Save ∷ []) x (save p.0 refl refl) (ap (λ (us : Tokens). codes "$save" ∷ us) p.1) p.2)
  by_keyword (Some words.IncSave) t front ts x k e =
      let p = saved IncSave front ts x e in
      rw (keyword_is t words.IncSave k) (short_reads front _ (codes "$incsave" ∷ ts) (IncSave ∷ []) x (inc_save p.0 refl refl) (ap (λ (us : Tokens). codes "$incsave" ∷ us) p.1) p.2)
  by_keyword (Some words.Finish) t front ts x k e = rw (keyword_is t words.Finish k) (finish_is front ts x e)
  by_keyword None t front ts x k e =
      elim (cases_Bool (bytes_eq t variable)) [
        | inl same ↦ rw ((bytes_eq-Decides t variable).0 same) (getc_is front ts x (rw same at e))
        | inr other ↦ let none : None ≡ Some x = rw other at e in absurd cc
      ]

  over_is : (front : List Instr) (ts : Tokens) (x : List Instr × Tokens) → statement_with S variable front ts ≡ Some x → Reads (IsStatementOver P variable) front ts x
  unfolding statement_with
  over_is front [] x e = absurd cc
  over_is front (t ∷ ts) x e = by_keyword (keyword_of t) t front ts x refl e

pub statement_is : (variable : List ℕ) (depth : ℕ) (front : List Instr) (ts : Tokens) (x : List Instr × Tokens) → statement_at variable depth front ts ≡ Some x → Reads (IsStatement variable depth) front ts x
unfolding statement_at IsStatement
statement_is variable zero front ts x e = absurd cc
statement_is variable (suc depth) front ts x e = over_is (statement_at variable depth) variable (IsStatement variable depth) (statement_is variable depth) front ts x e

-- ---- the whole text

name_is : (ts : Tokens) (x : List ℕ × Tokens) → name_at ts ≡ Some x → (is_name x.0 ≡ true) × (ts ≡ x.0 ∷ x.1)
unfolding name_at
name_is ts x e =
    let a = bind_some (next ts) (λ a. cond (is_name a.0) (Some a) None) x e in
    let g = guard_some (is_name a.0.0) a.0 x a.2 in
    (ap (λ (y : List ℕ × Tokens). is_name y.0) (sym g.1) ∙ g.0, next_is ts a.0 a.1 ∙ ap (λ (y : List ℕ × Tokens). y.0 ∷ y.1) g.1)

record IsHeader (ts : Tokens) (x : List ℕ × List ℕ × Tokens) : Type 0 where
  top_named : is_name x.0 ≡ true
  variable_named : is_name x.1 ≡ true
  spelled : ts ≡ codes "module" ∷ x.0 ∷ codes ";" ∷ codes "integer" ∷ x.1 ∷ codes ";" ∷ codes "initial" ∷ x.2

header_is : (ts : Tokens) (x : List ℕ × List ℕ × Tokens) → header_at ts ≡ Some x → IsHeader ts x
unfolding header_at
header_is ts x e =
    let a = bind_some (after (codes "module") ts) (λ a. name_at a >>= λ top. after_all (codes ";" ∷ codes "integer" ∷ []) top.1 >>= λ b. name_at b >>= λ variable. after_all (codes ";" ∷ codes "initial" ∷ []) variable.1 >>= λ c. Some (top.0, variable.0, c)) x e in
    let top = bind_some (name_at a.0) (λ top. after_all (codes ";" ∷ codes "integer" ∷ []) top.1 >>= λ b. name_at b >>= λ variable. after_all (codes ";" ∷ codes "initial" ∷ []) variable.1 >>= λ c. Some (top.0, variable.0, c)) x a.2 in
    let b = bind_some (after_all (codes ";" ∷ codes "integer" ∷ []) top.0.1) (λ b. name_at b >>= λ variable. after_all (codes ";" ∷ codes "initial" ∷ []) variable.1 >>= λ c. Some (top.0.0, variable.0, c)) x top.2 in
    let v = bind_some (name_at b.0) (λ variable. after_all (codes ";" ∷ codes "initial" ∷ []) variable.1 >>= λ c. Some (top.0.0, variable.0, c)) x b.2 in
    let c = bind_some (after_all (codes ";" ∷ codes "initial" ∷ []) v.0.1) (λ c. Some (top.0.0, v.0.0, c)) x v.2 in
    let made : List ℕ × List ℕ × Tokens = (top.0.0, v.0.0, c.0) in
    let named = name_is a.0 top.0 top.1 in
    let variable = name_is b.0 v.0 v.1 in
    let e5 : v.0.1 ≡ codes ";" ∷ codes "initial" ∷ c.0 = after_all_is (codes ";" ∷ codes "initial" ∷ []) v.0.1 c.0 c.1 in
    let e4 : b.0 ≡ v.0.0 ∷ codes ";" ∷ codes "initial" ∷ c.0 = variable.1 ∙ ap (λ (us : Tokens). v.0.0 ∷ us) e5 in
    let e3 : top.0.1 ≡ codes ";" ∷ codes "integer" ∷ v.0.0 ∷ codes ";" ∷ codes "initial" ∷ c.0 =
    after_all_is (codes ";" ∷ codes "integer" ∷ []) top.0.1 b.0 b.1 ∙ ap (λ (us : Tokens). codes ";" ∷ codes "integer" ∷ us) e4 in
    let e2 : a.0 ≡ top.0.0 ∷ codes ";" ∷ codes "integer" ∷ v.0.0 ∷ codes ";" ∷ codes "initial" ∷ c.0 = named.1 ∙ ap (λ (us : Tokens). top.0.0 ∷ us) e3 in
    subst (λ (y : List ℕ × List ℕ × Tokens). IsHeader ts y) (some_is made x c.2)
    (record { top_named = named.0; variable_named = variable.0; spelled = after_is (codes "module") ts a.0 a.1 ∙ ap (λ (us : Tokens). codes "module" ∷ us) e2 })

ended_nil : (ts : Tokens) (end : Unit {0}) → ended ts ≡ Some end → ts ≡ []
ended_nil [] end e = refl
ended_nil (t ∷ ts) end e = absurd cc

closed_is : (front : List Instr) (ts : Tokens) (code : List Instr) → closed_at front ts ≡ Some code → (ts ≡ codes "endmodule" ∷ []) × (code ≡ front ++ Halt ∷ []) × (length front < 65536)
unfolding closed_at
closed_is front ts code e =
    let a = bind_some (after (codes "endmodule") ts) (λ rest. ended rest >>= λ end. emitted front Halt) code e in
    let b = bind_some (ended a.0) (λ end. emitted front Halt) code a.2 in
    let p = emitted_is front Halt code b.2 in
    (after_is (codes "endmodule") ts a.0 a.1 ∙ ap (λ (us : Tokens). codes "endmodule" ∷ us) (ended_nil a.0 b.0 b.1), p.0, p.1)

pub source_is : (ts : Tokens) (x : Source) → source_of ts ≡ Some x → IsSource ts x.top x.variable x.code × (length x.code ≤ 65536)
unfolding source_of
source_is ts x e =
    let h = bind_some (header_at ts) (λ h. statement_at h.1 200 [] h.2 >>= λ s. closed_at s.0 s.1 >>= λ code. Some (record { top = h.0; variable = h.1; code = code })) x e in
    let s = bind_some (statement_at h.0.1 200 [] h.0.2) (λ s. closed_at s.0 s.1 >>= λ code. Some (record { top = h.0.0; variable = h.0.1; code = code })) x h.2 in
    let c = bind_some (closed_at s.0.0 s.0.1) (λ code. Some (record { top = h.0.0; variable = h.0.1; code = code })) x s.2 in
    let made : Source = record { top = h.0.0; variable = h.0.1; code = c.0 } in
    let header = header_is ts h.0 h.1 in
    let r = statement_is h.0.1 200 [] h.0.2 s.0 s.1 in
    let close = closed_is s.0.0 s.0.1 c.0 c.1 in
    let spelled : h.0.2 ≡ r.own ++ codes "endmodule" ∷ [] = r.spelled ∙ ap (λ (us : Tokens). r.own ++ us) close.0 in
    let halts : c.0 ≡ r.code ++ Halt ∷ [] = close.1 ∙ ap (λ (is : List Instr). is ++ Halt ∷ []) r.written in
    let source : IsSource ts made.top made.variable made.code = record {
      inner = r.own;
      body = r.code;
      statement = r.is;
      top_named = header.top_named;
      variable_named = header.variable_named;
      spelled = header.spelled ∙ ap (λ (us : Tokens). codes "module" ∷ h.0.0 ∷ codes ";" ∷ codes "integer" ∷ h.0.1 ∷ codes ";" ∷ codes "initial" ∷ us) spelled;
      halts = halts;
    } in
    let size : length c.0 ≡ length s.0.0 + 1 = ap length close.1 ∙ length-append s.0.0 (Halt ∷ []) in
    subst (λ (y : Source). IsSource ts y.top y.variable y.code × (length y.code ≤ 65536)) (some_is made x c.2) (source, omega arith)
