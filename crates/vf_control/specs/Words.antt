-- The words of events and of system tasks (docs/LANGUAGE.md, "Grammar"; IEEE Std 1364-2005, clauses 9.7.2 and 17, Annex C.8).
use Rattle.std.specs.Prelude.{ℕ, List, Option, Some, None, codes, if◌then◌else◌}
use Rattle.std.specs.Str.{bytes_eq}
use Rattle.vf_tree.specs.declared.statements.EdgeWord.{EdgeWord}
use Rattle.vf_tree.specs.declared.statements.EdgeWord.TheVariants as edge
use Rattle.vf_tree.specs.declared.statements.ShowWord.{ShowWord}
use Rattle.vf_tree.specs.declared.statements.ShowWord.TheVariants as show
use Rattle.vf_tree.specs.declared.statements.SaveWord.{SaveWord}
use Rattle.vf_tree.specs.declared.statements.SaveWord.TheVariants as save
use Rattle.vf_tree.specs.declared.statements.EndWord.{EndWord}
use Rattle.vf_tree.specs.declared.statements.EndWord.TheVariants as end

-- the edge of a word
unfoldable pub edge_of : List ℕ → Option EdgeWord
edge_of text = if bytes_eq text (codes "posedge") then Some edge.Posedge else if bytes_eq text (codes "negedge") then Some edge.Negedge else None

-- the task that prints, by its name
unfoldable pub show_of : List ℕ → Option ShowWord
show_of text = if bytes_eq text (codes "$display") then Some show.Display else if bytes_eq text (codes "$write") then Some show.Write
    else if bytes_eq text (codes "$strobe") then Some show.Strobe else if bytes_eq text (codes "$monitor") then Some show.Monitor else None

-- the task that saves the state, by its name
unfoldable pub save_of : List ℕ → Option SaveWord
save_of text = if bytes_eq text (codes "$save") then Some save.Save else if bytes_eq text (codes "$incsave") then Some save.IncSave else None

-- the task that ends the run, by its name
unfoldable pub end_of : List ℕ → Option EndWord
end_of text = if bytes_eq text (codes "$finish") then Some end.Finish else if bytes_eq text (codes "$stop") then Some end.Stop else None
