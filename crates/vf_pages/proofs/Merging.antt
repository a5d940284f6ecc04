-- Pages merged from the back of two lists.
use Rattle.std.proofs.Common.{◌≡◌, ◌≢◌, ℕ, ◌+◌, ◌<◌, ◌≤◌, Bool, true, false, cond, ◌==◌, List, [], ◌∷◌, ◌++◌, refl, sym, ap, ◌∙◌, arith, ne_eqb, eq-eqb, ⊎_elim, append_assoc}
use Rattle.std.specs.Prelude.{Option, Some, None, reverse}
use Rattle.std.proofs.lemmas.Bool.{cases_order}
use Rattle.std.proofs.lemmas.List.{reverse-append, map-append}
use Rattle.vf_frames.specs.Numbers.{rises}
use Rattle.vf_pages.specs.declared.held.Held.{Held}
use Rattle.vf_pages.specs.Pages.{Page, frame_number, pages_in, frames_in, entry, or_entry, occurs}
use Rattle.vf_pages.specs.Views.{page_of, pages_of}
use Rattle.vf_pages.specs.Puts.{put, puts}
use Rattle.vf_pages.proofs.Entries.{rises-parts, rises-from, rises-less, entry-other}
use Rattle.vf_pages.proofs.Puts.{put-same, put-before, put-after, put-rises, puts-snoc}
use Rattle.vf_pages.proofs.Frames.{entry-snoc, occurs-append}

pub rises-wider : (low limit wider : ℕ) (xs : List ℕ) → rises low limit xs ≡ true → limit ≤ wider → rises low wider xs ≡ true
rises-wider low limit wider [] r h = refl
rises-wider low limit wider (x ∷ xs) r h =
    let parts = rises-parts low limit x xs r in
    rises-from low wider x xs parts.0 (omega (arith, parts.1)) (rises-wider (x + 1) limit wider xs parts.2 h)

-- rising pages are below the last
pub rises-front : (low limit : ℕ) (es : List Page) (e : Page) → rises low limit (pages_in (es ++ e ∷ [])) ≡ true → (rises low e.page (pages_in es) ≡ true) × (low ≤ e.page)
rises-front low limit [] e r = (refl, (rises-parts low limit e.page [] r).0)
rises-front low limit (x ∷ xs) e r =
    let parts = rises-parts low limit x.page (pages_in (xs ++ e ∷ [])) r in
    let later = rises-front (x.page + 1) limit xs e parts.2 in
    (rises-from low e.page x.page (pages_in xs) parts.0 (omega (arith, later.1)) later.0, omega (arith, parts.0, later.1))

-- and with a last one above them they rise up to it
pub rises-end : (low : ℕ) (es : List Page) (e : Page) → rises low e.page (pages_in es) ≡ true → low ≤ e.page → rises low (e.page + 1) (pages_in (es ++ e ∷ [])) ≡ true
rises-end low [] e r h = rises-from low (e.page + 1) e.page [] h (omega arith) refl
rises-end low (x ∷ xs) e r h =
    let parts = rises-parts low e.page x.page (pages_in xs) r in
    rises-from low (e.page + 1) x.page (pages_in (xs ++ e ∷ [])) parts.0 (omega (arith, parts.1)) (rises-end (x.page + 1) xs e parts.2 (omega (arith, parts.1)))

-- pages below a page are put before it
put-append : (e : Page) (ps : List Page) (x : Page) (rest : List Page) → e.page < x.page → put e (ps ++ x ∷ rest) ≡ put e ps ++ x ∷ rest
put-append e [] x rest h = put-before e x rest h
put-append e (y ∷ ys) x rest h =
    ⊎_elim
    (λ same. put-same e y (ys ++ x ∷ rest) same ∙ ap (λ ps. ps ++ x ∷ rest) (sym (put-same e y ys same)))
    (λ ne. ⊎_elim
    (λ before. put-before e y (ys ++ x ∷ rest) before ∙ ap (λ ps. ps ++ x ∷ rest) (sym (put-before e y ys before)))
    (λ behind. put-after e y (ys ++ x ∷ rest) behind ∙ ap (λ ps. y ∷ ps) (put-append e ys x rest h) ∙ ap (λ ps. ps ++ x ∷ rest) (sym (put-after e y ys behind)))
    ne)
    (cases_order e.page y.page)

pub puts-append : (low : ℕ) (es ps : List Page) (x : Page) (rest : List Page) → rises low x.page (pages_in es) ≡ true → puts es (ps ++ x ∷ rest) ≡ puts es ps ++ x ∷ rest
puts-append low [] ps x rest r = refl
puts-append low (y ∷ ys) ps x rest r =
    let parts = rises-parts low x.page y.page (pages_in ys) r in
    ap (put y) (puts-append (y.page + 1) ys ps x rest parts.2) ∙ put-append y (puts ys ps) x rest parts.1

-- a page above all others, and one in the place of the last
pub put-last : (low : ℕ) (e : Page) (ps : List Page) → rises low e.page (pages_in ps) ≡ true → put e ps ≡ ps ++ e ∷ []
put-last low e [] r = refl
put-last low e (x ∷ xs) r =
    let parts = rises-parts low e.page x.page (pages_in xs) r in
    put-after e x xs parts.1 ∙ ap (λ ps. x ∷ ps) (put-last (x.page + 1) e xs parts.2)

pub put-over : (low : ℕ) (e : Page) (ps : List Page) (o : Page) → rises low e.page (pages_in ps) ≡ true → e.page ≡ o.page → put e (ps ++ o ∷ []) ≡ ps ++ e ∷ []
put-over low e [] o r h = put-same e o [] h
put-over low e (x ∷ xs) o r h =
    let parts = rises-parts low e.page x.page (pages_in xs) r in
    put-after e x (xs ++ o ∷ []) parts.1 ∙ ap (λ ps. x ∷ ps) (put-over (x.page + 1) e xs o parts.2 h)

-- fresh pages put into pages of which the last has its place at the end
pub puts-end : (es : List Page) (e : Page) (ps left rest : List Page) → rises 0 e.page (pages_in es) ≡ true → put e ps ≡ left ++ e ∷ [] → puts es left ++ e ∷ rest ≡ puts (es ++ e ∷ []) ps ++ rest
puts-end es e ps left rest r h =
    sym (append_assoc (puts es left) (e ∷ []) rest)
    ∙ ap (λ xs. xs ++ rest) (sym (puts-snoc es e ps ∙ ap (puts es) h ∙ puts-append 0 es left e [] r))

-- one page moved from the end of one list to that of the other
pub reverse-last : (behind : List Held) (one : Held) → pages_of (reverse (behind ++ one ∷ [])) ≡ page_of one ∷ pages_of (reverse behind)
reverse-last behind one = ap pages_of (reverse-append behind (one ∷ []))

pub puts-move : (es ps rest : List Page) (x : Page) → rises 0 x.page (pages_in es) ≡ true → puts es ps ++ x ∷ rest ≡ puts es (ps ++ x ∷ []) ++ rest
puts-move es ps rest x r =
    sym (append_assoc (puts es ps) (x ∷ []) rest) ∙ ap (λ xs. xs ++ rest) (sym (puts-append 0 es ps x [] r))

-- the page found in front of a last one with another number
pub entry-front : (q : ℕ) (es : List Page) (e : Page) → q ≢ e.page → entry q (es ++ e ∷ []) ≡ entry q es
entry-front q es e ne = entry-snoc q es e ∙ over (entry q es) (q == e.page) (ne_eqb q e.page ne)
  where
    over : (o : Option Page) (b : Bool) → b ≡ false → or_entry o (cond b (Some e) None) ≡ o
    over None b h = rw h refl
    over (Some x) b h = refl

-- fresh pages put into a list with rising numbers
pub puts-rises : (low limit : ℕ) (es ps : List Page) → rises low limit (pages_in es) ≡ true → rises low limit (pages_in ps) ≡ true → rises low limit (pages_in (puts es ps)) ≡ true
puts-rises low limit [] ps r s = s
puts-rises low limit (e ∷ es) ps r s =
    let parts = rises-parts low limit e.page (pages_in es) r in
    put-rises low limit e (puts es ps) (puts-rises low limit es ps (rises-less low (e.page + 1) limit (pages_in es) (omega (arith, parts.0)) parts.2) s) parts.0 parts.1

-- the frames of two lists, and of a page between them
pub occurs-both : (f : ℕ) (xs ys : List Page) → occurs f (frames_in (xs ++ ys)) ≡ occurs f (frames_in xs) + occurs f (frames_in ys)
occurs-both f xs ys = ap (occurs f) (map-append frame_number xs ys) ∙ occurs-append f (frames_in xs) (frames_in ys)

pub occurs-between : (f : ℕ) (xs : List Page) (e : Page) (ys : List Page) → occurs f (frames_in (xs ++ e ∷ ys)) ≡ occurs f (frames_in (xs ++ ys)) + cond (f == e.frame) 1 0
occurs-between f xs e ys = omega (arith, occurs-both f xs (e ∷ ys), occurs-both f xs ys)

-- a page above all others is not held
pub entry-above : (p low bound : ℕ) (es : List Page) → rises low bound (pages_in es) ≡ true → bound ≤ p → entry p es ≡ None
entry-above p low bound [] r h = refl
entry-above p low bound (x ∷ xs) r h =
    let parts = rises-parts low bound x.page (pages_in xs) r in
    entry-other p x xs (λ same. absurd (omega (arith, parts.1, same))) ∙ entry-above p (x.page + 1) bound xs parts.2 h

pub entry-end : (p : ℕ) (es : List Page) (e : Page) → rises 0 p (pages_in es) ≡ true → p ≡ e.page → entry p (es ++ e ∷ []) ≡ Some e
entry-end p es e r same =
    entry-snoc p es e ∙ over (entry p es) (p == e.page) (entry-above p 0 p es r (omega arith)) (eq-eqb p e.page same)
  where
    over : (o : Option Page) (b : Bool) → o ≡ None → b ≡ true → or_entry o (cond b (Some e) None) ≡ Some e
    over o b h k = rw (h, k) refl

-- rising pages whose last is below a bound
pub rises-to : (limit bound : ℕ) (ps left : List Page) (e : Page) → ps ≡ left ++ e ∷ [] → rises 0 limit (pages_in ps) ≡ true → e.page < bound → rises 0 bound (pages_in ps) ≡ true
rises-to limit bound ps left e last r h =
    let front = rises-front 0 limit left e (ap (λ es. rises 0 limit (pages_in es)) (sym last) ∙ r) in
    ap (λ es. rises 0 bound (pages_in es)) last ∙ rises-wider 0 (e.page + 1) bound (pages_in (left ++ e ∷ [])) (rises-end 0 left e front.0 front.1) (omega arith)

-- what is left once a page has its place at the end of the pages that are not above it
pub taken : (page : ℕ) (ps left rest ps0 rest0 es : List Page) (e : Page) → ((xs : List Page) → rises 0 (page + 1) (pages_in xs) ≡ true → puts xs ps ++ rest ≡ puts xs ps0 ++ rest0)
    → e.page ≡ page → rises 0 page (pages_in es) ≡ true → put e ps ≡ left ++ e ∷ [] → puts es left ++ e ∷ rest ≡ puts (es ++ e ∷ []) ps0 ++ rest0
taken page ps left rest ps0 rest0 es e moved is r end =
    let below : rises 0 e.page (pages_in es) ≡ true = ap (λ n. rises 0 n (pages_in es)) is ∙ r in
    puts-end es e ps left rest below end
    ∙ moved (es ++ e ∷ []) (ap (λ n. rises 0 (n + 1) (pages_in (es ++ e ∷ []))) (sym is) ∙ rises-end 0 es e below (omega arith))
