-- The words of a page, where they are in memory (docs/FARM.md, "Pages").
use Rattle.std.specs.Prelude.{ℕ, List, Option, Some, None, Bool, is_some, replicate}
use Rattle.std.specs.Arc.{arc_value}
use Rattle.std.specs.Global.{Box}
use Rattle.vf_pages.specs.declared.content.Content.{Content}

-- the words in a cell, 0 where they were taken out
abbrev pub words_in_cell : Option (Box (List ℕ)) → List ℕ
words_in_cell None = replicate 64 0
words_in_cell (Some words) = words.value

-- the words that were taken out, or else those in the cell
abbrev pub words_of_either : Option (Box (List ℕ)) → Option (Box (List ℕ)) → List ℕ
words_of_either None cell = words_in_cell cell
words_of_either (Some words) cell = words.value

abbrev pub content_words : Content → List ℕ
content_words c = words_of_either c.taken (arc_value c.cell)

-- the words are taken out, so that no other holder reads them
abbrev pub is_taken : Content → Bool
is_taken c = is_some c.taken
