-- What a list of writes does to words, and which pages it falls on.
use Rattle.std.specs.Prelude.{◌≡◌, ℕ, ◌+◌, ◌*◌, ◌/◌, ◌<◌, Bool, true, false, cond, ◌||◌, ◌==◌, List, [], ◌∷◌, map, slice_index}
use Rattle.std.specs.List.{range_with_len, All}
use Rattle.vf_base.specs.declared.write.Write.{Write}
use Rattle.vf_frames.specs.Numbers.{rises}

abbrev pub address : Write → ℕ
address w = w.at

-- the word at an address after the writes, one after another
abbrev pub written : List Write → ℕ → ℕ → ℕ
written [] a old = old
written (w ∷ ws) a old = written ws a (cond (a == w.at) w.word old)

-- some write falls on page p
abbrev pub touches : ℕ → List Write → Bool
touches p [] = false
touches p (w ∷ ws) = (p == w.at / 64) || touches p ws

abbrev pub with_page : ℕ → List ℕ → List ℕ
with_page p [] = p ∷ []
with_page p (q ∷ qs) = cond (p == q) (q ∷ qs) (p ∷ (q ∷ qs))

-- the pages that writes with rising addresses fall on, each once
abbrev pub written_pages : List Write → List ℕ
written_pages [] = []
written_pages (w ∷ ws) = with_page (w.at / 64) (written_pages ws)

-- the words of page p after the writes
abbrev pub after : List Write → ℕ → List ℕ → List ℕ
after ws p words = map (λ i. written ws (64 * p + i) (slice_index words i)) (range_with_len 0 64)

-- addresses rise, and are below the number of words
abbrev pub AreWrites : ℕ → List Write → Type 0
AreWrites count ws = rises 0 count (map address ws) ≡ true

-- the writes at the front that fall on page p, and those from the first that does not
abbrev pub own : ℕ → List Write → List Write
own p [] = []
own p (w ∷ ws) = cond (w.at / 64 == p) (w ∷ own p ws) []

abbrev pub beyond : ℕ → List Write → List Write
beyond p [] = []
beyond p (w ∷ ws) = cond (w.at / 64 == p) (beyond p ws) (w ∷ ws)

-- every write falls on page p
abbrev pub AllOn : ℕ → List Write → Type 0
AllOn p ws = All (λ w. w.at / 64 ≡ p) ws

-- the writes fall on pages before page p
abbrev pub AllBefore : List Write → ℕ → Type 0
AllBefore ws p = (q : ℕ) → touches q ws ≡ true → q < p
