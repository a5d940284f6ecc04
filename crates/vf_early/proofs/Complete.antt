-- What the grammar says is read, whatever follows it.
use Rattle.std.proofs.Common.{◌≡◌, ℕ, zero, suc, ◌+◌, ◌<◌, ◌≤◌, Bool, true, false, List, [], ◌∷◌, ◌++◌, length, set, Option, Some, None, refl, ap, subst, sym, ◌∙◌, append_assoc, codes, arith}
use Rattle.std.specs.Str.{bytes_eq}
use Rattle.std.proofs.lemmas.Bool.{lt-ltb, both_ways, false_from_ne_true}
use Rattle.std.proofs.lemmas.Slice.Eq.{bytes_eq-Decides}
use Rattle.std.proofs.lemmas.List.{append-nil, length-append}
use Rattle.std.proofs.Math.Seq.{set-append_seam}
use Rattle.vf_design.specs.declared.code.Condition.{Condition}
use Rattle.vf_design.specs.declared.code.Instr.{Instr}
use Rattle.vf_design.specs.declared.code.Instr.TheVariants.{Getc, Jump, Unless, Show, Save, IncSave, Finish, Halt}
use Rattle.vf_early.specs.declared.words.Keyword.{Keyword}
use Rattle.vf_early.specs.declared.words.Keyword.TheVariants as words
use Rattle.vf_early.specs.Words.{is_reserved, is_name, is_number, number_of}
use Rattle.vf_early.specs.Grammar.{IsOperand, plain, minus, IsCondition, equal, differs, IsSequence, nothing, followed, IsStatementOver, block, loop, guard, getc, show, save, inc_save, finish, IsStatement, IsSource}
use Rattle.vf_early.specs.Reading.{Tokens, Read, after, after_all, name_at, number_at, string_after, minus_at, operand_at, comparison, condition_at, emitted, emitting, getc_at, show_at, save_at, finish_at, block_from, guarded_at, loop_at, guard_at, keyword_of, statement_by, statement_with, statement_at, header_at, closed_at, source_of}

same_word : (word : List ℕ) → bytes_eq word word ≡ true
same_word word = (bytes_eq-Decides word word).1 refl

pub after_again : (word : List ℕ) (rest : Tokens) → after word (word ∷ rest) ≡ Some rest
unfolding after
after_again word rest = rw (same_word word) refl

after_other : (word t : List ℕ) (rest : Tokens) → bytes_eq t word ≡ false → after word (t ∷ rest) ≡ None
unfolding after
after_other word t rest other = rw other refl

after_all_again : (words rest : Tokens) → after_all words (words ++ rest) ≡ Some rest
unfolding after_all
after_all_again [] rest = refl
after_all_again (word ∷ words) rest = rw (after_again word (words ++ rest), after_all_again words rest) refl

emitted_again : (code : List Instr) (i : Instr) → length code < 65536 → emitted code i ≡ Some (code ++ i ∷ [])
unfolding emitted
emitted_again code i fits = rw (lt-ltb (length code) 65536 fits) refl

emitting_again : (code : List Instr) (i : Instr) (words rest : Tokens) → length code + 1 ≤ 65536 → emitting code i (after_all words (words ++ rest)) ≡ Some (code ++ i ∷ [], rest)
emitting_again code i words rest fits = rw (after_all_again words rest, emitted_again code i (omega arith)) refl

-- a name is another word than one that is no name
name_differs : (name word : List ℕ) → is_name name ≡ true → is_name word ≡ false → bytes_eq name word ≡ false
name_differs name word named other =
    false_from_ne_true (bytes_eq name word) (λ same. both_ways (is_name name) (ap is_name ((bytes_eq-Decides name word).0 same) ∙ other) named)

number_again : (word : List ℕ) (n : ℕ) (rest : Tokens) → number_of word ≡ Some n → number_at (word ∷ rest) ≡ Some (n, rest)
unfolding number_at
number_again word n rest e = rw e refl

number_no_sign : (word : List ℕ) (n : ℕ) → number_of word ≡ Some n → bytes_eq word (codes "-") ≡ false
unfolding number_of is_number
number_no_sign word n e =
    false_from_ne_true (bytes_eq word (codes "-")) (λ same.
    let is : word ≡ codes "-" = (bytes_eq-Decides word (codes "-")).0 same in
    let none : None ≡ Some n = ap number_of (sym is) ∙ e in
    cc)

operand_again : (own : Tokens) (bits : ℕ) (rest : Tokens) → IsOperand own bits → operand_at (own ++ rest) ≡ Some (bits, rest)
unfolding operand_at minus_at
operand_again own bits rest (plain word e spelled) = rw (spelled, number_no_sign word bits e) (number_again word bits rest e)
operand_again own bits rest (minus word n e spelled value) = rw (spelled, value, number_again word n rest e) refl

comparison_equal : comparison (codes "==") ≡ Some true
unfolding comparison
comparison_equal = refl

comparison_differs : comparison (codes "!=") ≡ Some false
unfolding comparison
comparison_differs = refl

condition_again : (variable : List ℕ) (test : Tokens) (condition : Condition) (rest : Tokens) → IsCondition variable test condition → condition_at variable (codes "(" ∷ (test ++ codes ")" ∷ rest)) ≡ Some (condition, rest)
unfolding condition_at
condition_again variable test condition rest (equal own is spelled value) =
    rw (spelled, after_all_again (codes "(" ∷ variable ∷ []) (codes "==" ∷ (own ++ codes ")" ∷ rest)), comparison_equal, operand_again own condition.number (codes ")" ∷ rest) is, after_again (codes ")") rest)
    (ap (λ (e : Bool). Some (record condition { equal = e }, rest)) (sym value))
condition_again variable test condition rest (differs own is spelled value) =
    rw (spelled, after_all_again (codes "(" ∷ variable ∷ []) (codes "!=" ∷ (own ++ codes ")" ∷ rest)), comparison_differs, operand_again own condition.number (codes ")" ∷ rest) is, after_again (codes ")") rest)
    (ap (λ (e : Bool). Some (record condition { equal = e }, rest)) (sym value))

-- ---- statements

-- a statement's first token is not `end`
record Starts (ts : Tokens) : Type 0 where
  first : List ℕ
  others : Tokens
  is : ts ≡ first ∷ others
  no_end : bytes_eq first (codes "end") ≡ false

no_name_end : is_name (codes "end") ≡ false
unfolding is_name is_reserved
no_name_end = refl

over_starts : (P : ℕ → Tokens → List Instr → Type 0) (variable : List ℕ) (base : ℕ) (ts : Tokens) (code : List Instr) → is_name variable ≡ true → IsStatementOver P variable base ts code → Starts ts
over_starts P variable base ts code named (block inner is e) = record { first = codes "begin"; others = inner ++ codes "end" ∷ []; is = e; no_end = refl }
over_starts P variable base ts code named (loop test inner condition body a b e c) = record { first = codes "while"; others = codes "(" ∷ (test ++ codes ")" ∷ inner); is = e; no_end = refl }
over_starts P variable base ts code named (guard test inner condition body a b e c) = record { first = codes "if"; others = codes "(" ∷ (test ++ codes ")" ∷ inner); is = e; no_end = refl }
over_starts P variable base ts code named (getc e c) = record { first = variable; others = codes "=" ∷ codes "$fgetc" ∷ codes "(" ∷ codes "32'h8000_0000" ∷ codes ")" ∷ codes ";" ∷ []; is = e; no_end = name_differs variable (codes "end") named no_name_end }
over_starts P variable base ts code named (show e c) = record { first = codes "$write"; others = codes "(" ∷ codes "\"%c\"" ∷ codes "," ∷ variable ∷ codes ")" ∷ codes ";" ∷ []; is = e; no_end = refl }
over_starts P variable base ts code named (save name e c) = record { first = codes "$save"; others = codes "(" ∷ (34 ∷ name) ∷ codes ")" ∷ codes ";" ∷ []; is = e; no_end = refl }
over_starts P variable base ts code named (inc_save name e c) = record { first = codes "$incsave"; others = codes "(" ∷ (34 ∷ name) ∷ codes ")" ∷ codes ";" ∷ []; is = e; no_end = refl }
over_starts P variable base ts code named (finish word n v e c) = record { first = codes "$finish"; others = codes "(" ∷ word ∷ codes ")" ∷ codes ";" ∷ []; is = e; no_end = refl }

statement_starts : (variable : List ℕ) (depth base : ℕ) (ts : Tokens) (code : List Instr) → is_name variable ≡ true → IsStatement variable depth base ts code → Starts ts
unfolding IsStatement
statement_starts variable zero base ts code named is = absurd is
statement_starts variable (suc depth) base ts code named is = over_starts (IsStatement variable depth) variable base ts code named is

-- a name is no keyword
no_keyword : (variable : List ℕ) → is_name variable ≡ true → keyword_of variable ≡ None
unfolding keyword_of is_name is_reserved
no_keyword variable named =
    rw (
      name_differs variable (codes "begin") named refl,
      name_differs variable (codes "while") named refl,
      name_differs variable (codes "if") named refl,
      name_differs variable (codes "$write") named refl,
      name_differs variable (codes "$save") named refl,
      name_differs variable (codes "$incsave") named refl,
      name_differs variable (codes "$finish") named refl,
    ) refl

module _ (S : List Instr → Tokens → Read) (variable : List ℕ) (P : ℕ → Tokens → List Instr → Type 0) (named : is_name variable ≡ true)
    (complete : (front : List Instr) (own : Tokens) (code : List Instr) (rest : Tokens) → P (length front) own code → length front + length code ≤ 65536 → S front (own ++ rest) ≡ Some (front ++ code, rest))
    (starts : (base : ℕ) (ts : Tokens) (code : List Instr) → P base ts code → Starts ts) where
  block_again : (base : ℕ) (inner : Tokens) (code : List Instr) → IsSequence P base inner code → (n : ℕ) (front : List Instr) (rest : Tokens) → base ≡ length front → length inner < n → length front + length code ≤ 65536
      → block_from S variable n front (inner ++ codes "end" ∷ rest) ≡ Some (front ++ code, rest)
  unfolding block_from
  block_again base inner code is zero front rest at long fits = absurd (omega arith)
  block_again _ _ _ nothing (suc n) front rest at long fits = rw (after_again (codes "end") rest) (ap (λ (is : List Instr). Some (is, rest)) (sym (append-nil front)))
  block_again base inner code (followed ts us cs ds is others e c) (suc n) front rest at long fits =
      let start = starts base ts cs is in
      let behind = us ++ codes "end" ∷ rest in
      let grouped : inner ++ codes "end" ∷ rest ≡ ts ++ behind = ap (λ (x : Tokens). x ++ codes "end" ∷ rest) e ∙ append_assoc ts us (codes "end" ∷ rest) in
      let no_end : after (codes "end") (inner ++ codes "end" ∷ rest) ≡ None =
      ap (after (codes "end")) (grouped ∙ ap (λ (x : Tokens). x ++ behind) start.is) ∙ after_other (codes "end") start.first (start.others ++ behind) start.no_end in
      let size : length code ≡ length cs + length ds = ap length c ∙ length-append cs ds in
      let count : length inner ≡ length ts + length us = ap length e ∙ length-append ts us in
      let some : length ts ≡ suc (length start.others) = ap length start.is in
      let grown : length (front ++ cs) ≡ length front + length cs = length-append front cs in
      let here : P (length front) ts cs = subst (λ (k : ℕ). P k ts cs) at is in
      let read : S front (inner ++ codes "end" ∷ rest) ≡ Some (front ++ cs, behind) = ap (S front) grouped ∙ complete front ts cs behind here (omega arith) in
      let later : block_from S variable n (front ++ cs) behind ≡ Some ((front ++ cs) ++ ds, rest) = block_again (base + length cs) us ds others n (front ++ cs) rest (omega arith) (omega arith) (omega arith) in
      rw (no_end, read) (later ∙ ap (λ (is : List Instr). Some (is, rest)) (append_assoc front cs ds ∙ ap (λ (is : List Instr). front ++ is) (sym c)))

  guarded_again : (front : List Instr) (test inner : Tokens) (condition : Condition) (body : List Instr) (rest : Tokens) → IsCondition variable test condition → P (length front + 1) inner body → length front + length body + 1 ≤ 65536
      → guarded_at S variable front (codes "(" ∷ (test ++ codes ")" ∷ (inner ++ rest))) ≡ Some (condition, front ++ Unless condition 0 ∷ body, rest)
  unfolding guarded_at
  guarded_again front test inner condition body rest is inside fits =
      let opened = front ++ Unless condition 0 ∷ [] in
      let size : length opened ≡ length front + 1 = length-append front (Unless condition 0 ∷ []) in
      let read : S opened (inner ++ rest) ≡ Some (opened ++ body, rest) = complete opened inner body rest (subst (λ (k : ℕ). P k inner body) (sym size) inside) (omega arith) in
      rw (condition_again variable test condition (inner ++ rest) is, emitted_again front (Unless condition 0) (omega arith), read)
      (ap (λ (is : List Instr). Some (condition, is, rest)) (append_assoc front (Unless condition 0 ∷ []) body))

  loop_again : (front : List Instr) (test inner : Tokens) (condition : Condition) (body : List Instr) (rest : Tokens) → IsCondition variable test condition → P (length front + 1) inner body → length front + length body + 2 ≤ 65536
      → loop_at S variable front (codes "(" ∷ (test ++ codes ")" ∷ (inner ++ rest))) ≡ Some (front ++ Unless condition (length front + length body + 2) ∷ (body ++ Jump (length front) ∷ []), rest)
  unfolding loop_at
  loop_again front test inner condition body rest is inside fits =
      let top = length front in
      let opened = front ++ Unless condition 0 ∷ body in
      let open_size : length opened ≡ top + length body + 1 = length-append front (Unless condition 0 ∷ body) ∙ omega arith in
      let closed : opened ++ Jump top ∷ [] ≡ front ++ Unless condition 0 ∷ (body ++ Jump top ∷ []) = append_assoc front (Unless condition 0 ∷ body) (Jump top ∷ []) in
      let size : length (opened ++ Jump top ∷ []) ≡ top + length body + 2 = length-append opened (Jump top ∷ []) ∙ omega arith in
      let patched : set (opened ++ Jump top ∷ []) top (Unless condition (length (opened ++ Jump top ∷ []))) ≡ front ++ Unless condition (top + length body + 2) ∷ (body ++ Jump top ∷ []) =
      rw (size, closed) (set-append_seam front (Unless condition 0) (body ++ Jump top ∷ []) (Unless condition (top + length body + 2))) in
      rw (guarded_again front test inner condition body rest is inside (omega arith), emitted_again opened (Jump top) (omega arith)) (ap (λ (is : List Instr). Some (is, rest)) patched)

  guard_again : (front : List Instr) (test inner : Tokens) (condition : Condition) (body : List Instr) (rest : Tokens) → IsCondition variable test condition → P (length front + 1) inner body → length front + length body + 1 ≤ 65536
      → guard_at S variable front (codes "(" ∷ (test ++ codes ")" ∷ (inner ++ rest))) ≡ Some (front ++ Unless condition (length front + length body + 1) ∷ body, rest)
  unfolding guard_at
  guard_again front test inner condition body rest is inside fits =
      let opened = front ++ Unless condition 0 ∷ body in
      let size : length opened ≡ length front + length body + 1 = length-append front (Unless condition 0 ∷ body) ∙ omega arith in
      let patched : set opened (length front) (Unless condition (length opened)) ≡ front ++ Unless condition (length front + length body + 1) ∷ body =
      rw size (set-append_seam front (Unless condition 0) body (Unless condition (length front + length body + 1))) in
      rw (guarded_again front test inner condition body rest is inside fits) (ap (λ (is : List Instr). Some (is, rest)) patched)

  save_again : (instr : Instr) (front : List Instr) (name : List ℕ) (rest : Tokens) → length front + 1 ≤ 65536 → save_at instr front (codes "(" ∷ (34 ∷ name) ∷ codes ")" ∷ codes ";" ∷ rest) ≡ Some (front ++ instr ∷ [], rest)
  unfolding save_at string_after
  save_again instr front name rest fits = rw (after_again (codes "(") ((34 ∷ name) ∷ codes ")" ∷ codes ";" ∷ rest)) (emitting_again front instr (codes ")" ∷ codes ";" ∷ []) rest fits)

  finish_again : (front : List Instr) (word : List ℕ) (n : ℕ) (rest : Tokens) → number_of word ≡ Some n → length front + 1 ≤ 65536
      → finish_at front (codes "(" ∷ word ∷ codes ")" ∷ codes ";" ∷ rest) ≡ Some (front ++ Finish n ∷ [], rest)
  unfolding finish_at
  finish_again front word n rest value fits =
      rw (after_again (codes "(") (word ∷ codes ")" ∷ codes ";" ∷ rest), number_again word n (codes ")" ∷ codes ";" ∷ rest) value) (emitting_again front (Finish n) (codes ")" ∷ codes ";" ∷ []) rest fits)

  getc_again : (front : List Instr) (rest : Tokens) → length front + 1 ≤ 65536
      → getc_at front (codes "=" ∷ codes "$fgetc" ∷ codes "(" ∷ codes "32'h8000_0000" ∷ codes ")" ∷ codes ";" ∷ rest) ≡ Some (front ++ Getc ∷ [], rest)
  unfolding getc_at
  getc_again front rest fits = emitting_again front Getc (codes "=" ∷ codes "$fgetc" ∷ codes "(" ∷ codes "32'h8000_0000" ∷ codes ")" ∷ codes ";" ∷ []) rest fits

  show_again : (front : List Instr) (rest : Tokens) → length front + 1 ≤ 65536
      → show_at variable front (codes "(" ∷ codes "\"%c\"" ∷ codes "," ∷ variable ∷ codes ")" ∷ codes ";" ∷ rest) ≡ Some (front ++ Show ∷ [], rest)
  unfolding show_at
  show_again front rest fits = emitting_again front Show (codes "(" ∷ codes "\"%c\"" ∷ codes "," ∷ variable ∷ codes ")" ∷ codes ";" ∷ []) rest fits

  -- the reading that the first token chooses
  chosen_again : (o : Option Keyword) (front : List Instr) (t : List ℕ) (ts : Tokens) (x : List Instr × Tokens) → keyword_of t ≡ o → statement_by S variable o t front ts ≡ Some x → statement_with S variable front (t ∷ ts) ≡ Some x
  unfolding statement_with
  chosen_again o front t ts x k e = rw k e

  over_again : (front : List Instr) (own : Tokens) (code : List Instr) (rest : Tokens) → IsStatementOver P variable (length front) own code → length front + length code ≤ 65536 → statement_with S variable front (own ++ rest) ≡ Some (front ++ code, rest)
  unfolding keyword_of statement_by
  over_again front own code rest (block inner is e) fits =
      rw (e, append_assoc inner (codes "end" ∷ []) rest)
      (chosen_again (Some words.Begin) front (codes "begin") (inner ++ codes "end" ∷ rest) _ refl
      (block_again (length front) inner code is (length (inner ++ codes "end" ∷ rest)) front rest refl (omega (arith, length-append inner (codes "end" ∷ rest))) fits))
  over_again front own code rest (loop test inner condition body a b e c) fits =
      let size : length code ≡ suc (length body + 1) = ap length c ∙ ap suc (length-append body (Jump (length front) ∷ [])) in
      rw (e, c, append_assoc test (codes ")" ∷ inner) rest)
      (chosen_again (Some words.While) front (codes "while") (codes "(" ∷ (test ++ codes ")" ∷ (inner ++ rest))) _ refl
      (loop_again front test inner condition body rest a b (omega arith)))
  over_again front own code rest (guard test inner condition body a b e c) fits =
      let size : length code ≡ suc (length body) = ap length c in
      rw (e, c, append_assoc test (codes ")" ∷ inner) rest)
      (chosen_again (Some words.If) front (codes "if") (codes "(" ∷ (test ++ codes ")" ∷ (inner ++ rest))) _ refl
      (guard_again front test inner condition body rest a b (omega arith)))
  over_again front own code rest (getc e c) fits =
      let size : length code ≡ 1 = ap length c in
      rw (e, c) (chosen_again None front variable (codes "=" ∷ codes "$fgetc" ∷ codes "(" ∷ codes "32'h8000_0000" ∷ codes ")" ∷ codes ";" ∷ rest) _ (no_keyword variable named)
      (rw (same_word variable) (getc_again front rest (omega arith))))
  over_again front own code rest (show e c) fits =
      let size : length code ≡ 1 = ap length c in
      rw (e, c) (chosen_again (Some words.Write) front (codes "$write") _ _ refl (show_again front rest (omega arith)))
  over_again front own code rest (save name e c) fits =
      let size : length code ≡ 1 = ap length c in
      rw (e, c) (chosen_again (Some words.Save) front (codes "$save") _ _ refl (save_again Save front name rest (omega arith)))
  over_again front own code rest (inc_save name e c) fits =
      let size : length code ≡ 1 = ap length c in
      rw (e, c) (chosen_again (Some words.IncSave) front (codes "$incsave") _ _ refl (save_again IncSave front name rest (omega arith)))
  over_again front own code rest (finish word n value e c) fits =
      let size : length code ≡ 1 = ap length c in
      rw (e, c) (chosen_again (Some words.Finish) front (codes "$finish") _ _ refl (finish_again front word n rest value (omega arith)))

statement_again : (variable : List ℕ) (named : is_name variable ≡ true) (depth : ℕ) (front : List Instr) (own : Tokens) (code : List Instr) (rest : Tokens) → IsStatement variable depth (length front) own code → length front + length code ≤ 65536
    → statement_at variable depth front (own ++ rest) ≡ Some (front ++ code, rest)
unfolding statement_at IsStatement
statement_again variable named zero front own code rest is fits = absurd is
statement_again variable named (suc depth) front own code rest is fits =
    over_again (statement_at variable depth) variable (IsStatement variable depth) named (statement_again variable named depth) (λ base ts code is. statement_starts variable depth base ts code named is) front own code rest is fits

-- ---- the whole text

name_again : (word : List ℕ) (rest : Tokens) → is_name word ≡ true → name_at (word ∷ rest) ≡ Some (word, rest)
unfolding name_at
name_again word rest named = rw named refl

header_again : (top variable : List ℕ) (rest : Tokens) → is_name top ≡ true → is_name variable ≡ true
    → header_at (codes "module" ∷ top ∷ codes ";" ∷ codes "integer" ∷ variable ∷ codes ";" ∷ codes "initial" ∷ rest) ≡ Some (top, variable, rest)
unfolding header_at
header_again top variable rest a b =
    rw (
      after_again (codes "module") (top ∷ codes ";" ∷ codes "integer" ∷ variable ∷ codes ";" ∷ codes "initial" ∷ rest),
      name_again top (codes ";" ∷ codes "integer" ∷ variable ∷ codes ";" ∷ codes "initial" ∷ rest) a,
      after_all_again (codes ";" ∷ codes "integer" ∷ []) (variable ∷ codes ";" ∷ codes "initial" ∷ rest),
      name_again variable (codes ";" ∷ codes "initial" ∷ rest) b,
      after_all_again (codes ";" ∷ codes "initial" ∷ []) rest,
    ) refl

closed_again : (code : List Instr) → length code < 65536 → closed_at code (codes "endmodule" ∷ []) ≡ Some (code ++ Halt ∷ [])
unfolding closed_at
closed_again code fits = rw (after_again (codes "endmodule") []) (emitted_again code Halt fits)

pub source_again : (ts : Tokens) (top variable : List ℕ) (code : List Instr) → IsSource ts top variable code → length code ≤ 65536 → source_of ts ≡ Some (record { top = top; variable = variable; code = code })
unfolding source_of
source_again ts top variable code s fits =
    let size : length code ≡ length s.body + 1 = ap length s.halts ∙ length-append s.body (Halt ∷ []) in
    rw (
      s.spelled,
      header_again top variable (s.inner ++ codes "endmodule" ∷ []) s.top_named s.variable_named,
      statement_again variable s.variable_named 200 [] s.inner s.body (codes "endmodule" ∷ []) s.statement (omega arith),
      closed_again s.body (omega arith),
    )
    (ap (λ (is : List Instr). Some (record { top = top; variable = variable; code = is })) (sym s.halts))
