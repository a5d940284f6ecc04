-- What contracts see of the pages in memory.
use Rattle.std.specs.Prelude.{ℕ, List, map}
use Rattle.vf_pages.specs.declared.held.Held.{Held}
use Rattle.vf_frames.specs.declared.holder.Holder.{Holder}
use Rattle.vf_pages.specs.Pages.{Page, Pages}
use Rattle.vf_pages.specs.Contents.{content_words}

abbrev pub page_of : Held → Page
page_of h = record { page = h.page.0; frame = h.frame.0; words = content_words h.content }

abbrev pub pages_of : List Held → List Page
pages_of hs = map page_of hs

-- what contracts see of the parts of a holder's pages
abbrev pub shown : List ℕ → List Held → Holder → Pages
shown zero held holder = record { zero = zero; pages = pages_of held; holder = holder }
