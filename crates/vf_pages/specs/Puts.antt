-- Putting pages into a list by rising number.
use Rattle.std.specs.Prelude.{ℕ, cond, ◌==◌, nat_lt, List, [], ◌∷◌, Option, Some, None}
use Rattle.vf_pages.specs.Pages.{Page}

-- the page takes the place of the one with its number, or its place by its number
abbrev pub put : Page → List Page → List Page
put e [] = e ∷ []
put e (x ∷ xs) = cond (e.page == x.page) (e ∷ xs) (cond (nat_lt e.page x.page) (e ∷ (x ∷ xs)) (x ∷ put e xs))

abbrev pub puts : List Page → List Page → List Page
puts [] pages = pages
puts (e ∷ es) pages = put e (puts es pages)

-- 1 where the page has the frame
abbrev pub frame_count : ℕ → Option Page → ℕ
frame_count f None = 0
frame_count f (Some o) = cond (f == o.frame) 1 0
