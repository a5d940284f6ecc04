-- Steps of reading a statement, as the reader takes them.
use Rattle.std.proofs.Common.{◌≡◌, ℕ, zero, suc, ◌+◌, ◌-◌, ◌<◌, List, Some, None, refl, sym, ◌∙◌, codes, arith}
use Rattle.vf_design.specs.declared.code.Instr.{Instr}
use Rattle.vf_early.specs.declared.fault.EarlyFault.{EarlyFault}
use Rattle.vf_early.specs.declared.fault.EarlyFault.TheVariants.{NotBuilt, Memory}
use Rattle.vf_early.specs.Reading.{Fails, Tokens, Read, after, block_from, statement_with, statement_at, ◌>>=◌}

pub statement_never : (variable : List ℕ) (depth : ℕ) (code : List Instr) (tokens : Tokens) → depth ≡ 0 → statement_at variable depth code tokens ≡ None
unfolding statement_at
statement_never variable zero code tokens e = refl
statement_never variable (suc depth) code tokens e = absurd (omega arith)

pub statement_deeper : (variable : List ℕ) (depth : ℕ) (code : List Instr) (tokens : Tokens) → 0 < depth → statement_at variable depth code tokens ≡ statement_with (statement_at variable (depth - 1)) variable code tokens
unfolding statement_at
statement_deeper variable zero code tokens h = absurd (omega arith)
statement_deeper variable (suc depth) code tokens h =
    let e : suc depth - 1 ≡ depth = omega arith in
    rw e refl

module _ (statement : List Instr → Tokens → Read) (variable : List ℕ) where
  pub block_ends : (n i : ℕ) (code : List Instr) (tokens behind : Tokens) (total : Read) → i < n → after (codes "end") tokens ≡ Some behind → block_from statement variable (n - i) code tokens ≡ total → total ≡ Some (code, behind)
  unfolding block_from
  block_ends n i code tokens behind total lt e so_far =
      let k : n - i ≡ suc (n - (i + 1)) = omega arith in
      let one : block_from statement variable (n - i) code tokens ≡ Some (code, behind) = rw (k, e) refl in
      sym so_far ∙ one

  block_next : (n i : ℕ) (code : List Instr) (tokens : Tokens) → i < n → after (codes "end") tokens ≡ None → block_from statement variable (n - i) code tokens ≡ (statement code tokens >>= λ x. block_from statement variable (n - (i + 1)) x.0 x.1)
  unfolding block_from
  block_next n i code tokens lt e =
      let k : n - i ≡ suc (n - (i + 1)) = omega arith in
      rw (k, e) refl

  pub block_step : (n i : ℕ) (code : List Instr) (tokens : Tokens) (more : List Instr) (rest : Tokens) (total : Read) → i < n → after (codes "end") tokens ≡ None → statement code tokens ≡ Some (more, rest)
      → block_from statement variable (n - i) code tokens ≡ total → block_from statement variable (n - (i + 1)) more rest ≡ total
  block_step n i code tokens more rest total lt e read so_far =
      let one : block_from statement variable (n - i) code tokens ≡ block_from statement variable (n - (i + 1)) more rest = block_next n i code tokens lt e ∙ rw read refl in
      sym one ∙ so_far

  pub block_fails : (fault : EarlyFault) (n i : ℕ) (code : List Instr) (tokens : Tokens) (total : Read) → i < n → after (codes "end") tokens ≡ None → Fails fault (statement code tokens)
      → block_from statement variable (n - i) code tokens ≡ total → Fails fault total
  block_fails Memory n i code tokens total lt e read so_far = tt
  block_fails NotBuilt n i code tokens total lt e read so_far =
      let one : block_from statement variable (n - i) code tokens ≡ None = block_next n i code tokens lt e ∙ rw read refl in
      sym so_far ∙ one
