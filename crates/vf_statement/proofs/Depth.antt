-- Steps of reading statements, as the reader takes them.
use Rattle.std.proofs.Common.{◌≡◌, ℕ, zero, suc, ◌+◌, ◌-◌, ◌<◌, Bool, List, [], ◌∷◌, ◌++◌, max, Some, None, refl, sym, ◌∙◌, codes, arith}
use Rattle.vf_tree.specs.declared.statements.Stmt.{Stmt}
use Rattle.vf_tree.specs.declared.statements.Citem.{Citem}
use Rattle.vf_expression.specs.Grammar.{Tokens}
use Rattle.vf_expression.specs.Reading.{Read}
use Rattle.vf_statement.specs.Reading.{after_word, stmts_from, citem_at, citems_from, stmt_over, stmt_at}

pub stmt_never : (d : ℕ) (ts : Tokens) → d ≡ 0 → stmt_at d ts ≡ None
unfolding stmt_at
stmt_never zero ts e = refl
stmt_never (suc d) ts e = absurd (omega arith)

pub stmt_deeper : (d : ℕ) (ts : Tokens) → 0 < d → stmt_at d ts ≡ stmt_over (d - 1) (stmt_at (d - 1)) ts
unfolding stmt_at
stmt_deeper zero ts h = absurd (omega arith)
stmt_deeper (suc d) ts h =
    let e : suc d - 1 ≡ d = omega arith in
    rw e refl

module _ (d : ℕ) (inner : Tokens → Read Stmt) where
  pub stmts_step : (n i : ℕ) (items : List Stmt) (m : ℕ) (ts : Tokens) (x : Stmt × ℕ × Tokens) (others : List Stmt) (k : ℕ) (total : Read (List Stmt)) → i < n → after_word (codes "end") ts ≡ None → inner ts ≡ Some x
      → others ≡ items ++ x.0 ∷ [] → k ≡ max m x.1 → stmts_from d inner (n - i) items m ts ≡ total → stmts_from d inner (n - (i + 1)) others k x.2 ≡ total
  unfolding stmts_from
  stmts_step n i items m ts x others deepest total lt goes read more_is deepest_is so_far =
      let k : n - i ≡ suc (n - (i + 1)) = omega arith in
      let one : stmts_from d inner (n - i) items m ts ≡ stmts_from d inner (n - (i + 1)) (items ++ x.0 ∷ []) (max m x.1) x.2 = rw (k, goes, read) refl in
      rw (more_is, deepest_is) (sym one ∙ so_far)

  pub citems_step : (n i : ℕ) (seen : Bool) (items : List Citem) (m : ℕ) (ts : Tokens) (x : Citem × Bool × ℕ × Tokens) (others : List Citem) (k : ℕ) (total : Read (List Citem)) → i < n → after_word (codes "endcase") ts ≡ None
      → citem_at d inner seen ts ≡ Some x → others ≡ items ++ x.0 ∷ [] → k ≡ max m x.2 → citems_from d inner (n - i) seen items m ts ≡ total → citems_from d inner (n - (i + 1)) x.1 others k x.3 ≡ total
  unfolding citems_from
  citems_step n i seen items m ts x others deepest total lt goes read more_is deepest_is so_far =
      let k : n - i ≡ suc (n - (i + 1)) = omega arith in
      let one : citems_from d inner (n - i) seen items m ts ≡ citems_from d inner (n - (i + 1)) x.1 (items ++ x.0 ∷ []) (max m x.2) x.3 = rw (k, goes, read) refl in
      rw (more_is, deepest_is) (sym one ∙ so_far)
