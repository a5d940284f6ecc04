-- How many frames writes need, and how many are free.
use Rattle.std.specs.Prelude.{ℕ, zero, suc, ◌+◌, cond, ◌==◌, nat_le, List, [], ◌∷◌, length, Option, Some, None}
use Rattle.vf_frames.specs.declared.holder.Holder.{Holder}
use Rattle.vf_frames.specs.Holders.{count}
use Rattle.vf_pages.specs.Pages.{Page, entry}

-- 1 for a new page, and 1 for a page whose frame one of the others has too
abbrev pub needs_frame : List Holder → Option Page → ℕ
needs_frame others None = 1
needs_frame others (Some e) = cond (nat_le 1 (count e.frame others)) 1 0

-- how many frames it takes to write these pages
abbrev pub need : List Holder → List Page → List ℕ → ℕ
need others pages [] = 0
need others pages (p ∷ ps) = needs_frame others (entry p pages) + need others pages ps

-- how many of the first n frames none of the holders has
abbrev pub free_frames : ℕ → List Holder → ℕ
free_frames zero hs = 0
free_frames (suc n) hs = cond (count n hs == 0) 1 0 + free_frames n hs

abbrev pub is_new : Option Page → ℕ
is_new None = 1
is_new (Some e) = 0

-- how many of these pages are not held
abbrev pub new_pages : List Page → List ℕ → ℕ
new_pages pages [] = 0
new_pages pages (p ∷ ps) = is_new (entry p pages) + new_pages pages ps

abbrev pub frames_held : Holder → ℕ
frames_held h = length h.frames
