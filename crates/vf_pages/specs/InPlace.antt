-- Pages that are written where they are.
use Rattle.std.specs.Prelude.{◌≡◌, ℕ, cond, ◌&&◌, List, slice_get, slice_set, Some, is_none}
use Rattle.vf_base.specs.declared.write.Write.{Write}
use Rattle.vf_pages.specs.declared.held.Held.{Held}
use Rattle.vf_pages.specs.Pages.{Page, entry}
use Rattle.vf_pages.specs.Views.{page_of}
use Rattle.vf_pages.specs.Writes.{touches, after}

-- a page after writes of page p
abbrev pub rewritten : ℕ → List Write → Page → Page
rewritten p ws e = record { page = e.page; frame = e.frame; words = after ws p e.words }

-- a written page that has no fresh one takes the writes
abbrev pub in_place : List Write → List Page → Page → Page
in_place ws fresh e = cond (touches e.page ws && is_none (entry e.page fresh)) (rewritten e.page ws e) e

-- the page at an index takes the writes of page p, and the others are as before
pub record IsWrittenAt (place p : ℕ) (own : List Write) (before after : List Held) : Type 0 where
  pub old : Held
  pub new : Held
  pub was : slice_get before place ≡ Some old
  pub is : after ≡ slice_set before place new
  pub written : page_of new ≡ rewritten p own (page_of old)
