-- Each place that the code of a design names is in it.
use Rattle.std.proofs.Common.{◌≡◌, ℕ, zero, suc, ◌+◌, ◌-◌, ◌<◌, ◌≤◌, List, [], ◌∷◌, ◌++◌, length, Some, refl, ap, subst, sym, ◌∙◌, arith}
use Rattle.std.specs.Prelude.{slice_get, IfSome}
use Rattle.std.proofs.lemmas.List.{length-append}
use Rattle.vf_design.specs.declared.code.Instr.{Instr}
use Rattle.vf_design.specs.declared.code.Instr.TheVariants.{Jump, Halt}
use Rattle.vf_design.specs.Program.{NamesPlacesBelow, IsCode}
use Rattle.vf_early.specs.Grammar.{IsSequence, nothing, followed, IsStatementOver, block, loop, guard, getc, show, save, inc_save, finish, IsStatement, IsSource}
use Rattle.vf_early.specs.Reading.{Tokens}

-- each instruction names places below n
abbrev Below : ℕ → List Instr → Type 0
Below n [] = Unit {0}
Below n (i ∷ is) = NamesPlacesBelow n i × Below n is

Below-append : (n : ℕ) (xs ys : List Instr) → Below n xs → Below n ys → Below n (xs ++ ys)
Below-append n [] ys a b = b
Below-append n (x ∷ xs) ys a b = (a.0, Below-append n xs ys a.1 b)

Below-at : (n : ℕ) (code : List Instr) (at : ℕ) → Below n code → IfSome (slice_get code at) (NamesPlacesBelow n)
Below-at n [] at h = tt
Below-at n (i ∷ is) zero h = h.0
Below-at n (i ∷ is) (suc at) h = Below-at n is at h.1

last_at : (xs : List Instr) (y : Instr) → slice_get (xs ++ y ∷ []) (length xs) ≡ Some y
last_at [] y = refl
last_at (x ∷ xs) y = last_at xs y

module _ (P : ℕ → Tokens → List Instr → Type 0) (inside : (base : ℕ) (ts : Tokens) (code : List Instr) → P base ts code → (n : ℕ) → base + length code < n → Below n code) where
  sequence_below : (base : ℕ) (ts : Tokens) (code : List Instr) → IsSequence P base ts code → (n : ℕ) → base + length code < n → Below n code
  sequence_below _ _ _ nothing n h = tt
  sequence_below base ts code (followed first others cs ds is more e c) n h =
      let size : length code ≡ length cs + length ds = ap length c ∙ length-append cs ds in
      subst (λ (x : List Instr). Below n x) (sym c) (Below-append n cs ds (inside base first cs is n (omega arith)) (sequence_below (base + length cs) others ds more n (omega arith)))

  over_below : (variable : List ℕ) (base : ℕ) (ts : Tokens) (code : List Instr) → IsStatementOver P variable base ts code → (n : ℕ) → base + length code < n → Below n code
  over_below variable base ts code (block inner is e) n h = sequence_below base inner code is n h
  over_below variable base ts code (loop test inner condition body a b e c) n h =
      let size : length code ≡ suc (length body + 1) = ap length c ∙ ap suc (length-append body (Jump base ∷ [])) in
      subst (λ (x : List Instr). Below n x) (sym c) (omega arith, Below-append n body (Jump base ∷ []) (inside (base + 1) inner body b n (omega arith)) (omega arith, tt))
  over_below variable base ts code (guard test inner condition body a b e c) n h =
      let size : length code ≡ suc (length body) = ap length c in
      subst (λ (x : List Instr). Below n x) (sym c) (omega arith, inside (base + 1) inner body b n (omega arith))
  over_below variable base ts code (getc e c) n h = subst (λ (x : List Instr). Below n x) (sym c) (tt, tt)
  over_below variable base ts code (show e c) n h = subst (λ (x : List Instr). Below n x) (sym c) (tt, tt)
  over_below variable base ts code (save name e c) n h = subst (λ (x : List Instr). Below n x) (sym c) (tt, tt)
  over_below variable base ts code (inc_save name e c) n h = subst (λ (x : List Instr). Below n x) (sym c) (tt, tt)
  over_below variable base ts code (finish word k v e c) n h = subst (λ (x : List Instr). Below n x) (sym c) (tt, tt)

statement_below : (variable : List ℕ) (depth base : ℕ) (ts : Tokens) (code : List Instr) → IsStatement variable depth base ts code → (n : ℕ) → base + length code < n → Below n code
unfolding IsStatement
statement_below variable zero base ts code is n h = absurd is
statement_below variable (suc depth) base ts code is n h = over_below (IsStatement variable depth) (statement_below variable depth) variable base ts code is n h

pub source_code : (ts : Tokens) (top variable : List ℕ) (code : List Instr) → IsSource ts top variable code → length code ≤ 65536 → IsCode code
source_code ts top variable code s fits =
    let size : length code ≡ length s.body + 1 = ap length s.halts ∙ length-append s.body (Halt ∷ []) in
    let body : Below (length code) s.body = statement_below variable 200 0 s.inner s.body s.statement (length code) (omega arith) in
    let places : Below (length code) code = subst (λ (x : List Instr). Below (length code) x) (sym s.halts) (Below-append (length code) s.body (Halt ∷ []) body (tt, tt)) in
    let end : length code - 1 ≡ length s.body = omega arith in
    let last : slice_get code (length code - 1) ≡ Some Halt = rw end (ap (λ (x : List Instr). slice_get x (length s.body)) s.halts ∙ last_at s.body Halt) in
    record {
      some = omega arith;
      most = fits;
      places = λ at. Below-at (length code) code at places;
      last = rw last refl;
    }
