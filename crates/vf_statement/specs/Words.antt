-- Words at the front of a statement (docs/LANGUAGE.md, "Grammar"; IEEE Std 1364-2005, clauses 9.5, 9.6 and 9.7.6).
use Rattle.std.specs.Prelude.{ℕ, List, Option, Some, None, codes, if◌then◌else◌}
use Rattle.std.specs.Str.{bytes_eq}
use Rattle.vf_tree.specs.declared.expressions.TreeExpr.{TreeExpr}
use Rattle.vf_tree.specs.declared.statements.CaseWord.{CaseWord}
use Rattle.vf_tree.specs.declared.statements.CaseWord.TheVariants as cases
use Rattle.vf_tree.specs.declared.statements.Stmt.{Stmt}
use Rattle.vf_tree.specs.declared.statements.StmtForm.{StmtForm}
use Rattle.vf_tree.specs.declared.statements.StmtForm.TheVariants as form
use Rattle.vf_statement.specs.declared.words.Guard.{Guard}
use Rattle.vf_statement.specs.declared.words.Guard.TheVariants as guard

-- the comparison of a `case`, by its word
unfoldable pub case_of : List ℕ → Option CaseWord
case_of text = if bytes_eq text (codes "case") then Some cases.Case else if bytes_eq text (codes "casez") then Some cases.Casez
    else if bytes_eq text (codes "casex") then Some cases.Casex else None

-- what an expression in parentheses is to the statement after it, by the word before it
unfoldable pub guard_of : List ℕ → Option Guard
guard_of text = if bytes_eq text (codes "while") then Some guard.While else if bytes_eq text (codes "repeat") then Some guard.Repeat
    else if bytes_eq text (codes "wait") then Some guard.Wait else None

abbrev pub guarded : Guard → TreeExpr → Stmt → StmtForm
guarded guard.While cond body = form.While cond body
guarded guard.Repeat cond body = form.Repeat cond body
guarded guard.Wait cond body = form.Wait cond body
