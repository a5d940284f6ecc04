-- What the pool accounts for while one worker runs a farm, and how many frames the images have.
use Rattle.std.proofs.Common.{◌≡◌, ℕ, zero, suc, ◌+◌, ◌≤◌, ◌==◌, ◌||◌, ◌^◌, Bool, true, false, if◌then◌else◌, List, [], ◌∷◌, ◌++◌, length, Option, Some, None, refl, sym, ap, ◌∙◌, arith, subst, append-nil, sum_by}
use Rattle.std.specs.Prelude.{nat_le}
use Rattle.std.specs.List.{find}
use Rattle.std.proofs.lemmas.Bool.{eq-eqb, false≢true}
use Rattle.std.proofs.lemmas.Bool.Decides.{nat_tests}
use Rattle.std.proofs.lemmas.List.Sums.{sum_by-cons}
use Rattle.vf_frames.specs.declared.holder.Name.{Name}
use Rattle.vf_frames.specs.declared.holder.Holder.{Holder}
use Rattle.vf_frames.specs.Numbers.{has}
use Rattle.vf_frames.specs.Holders.{Accounts, Keeps, total, parts_of}
use Rattle.vf_frames.proofs.CallerLemmas.{Reordered, reordered-sides, accounts-reordered, accounts-swap}
use Rattle.vf_pages.specs.Needs.{frames_held}
use Rattle.vf_jobs.specs.Jobs.{node_no}
use Rattle.vf_jobs.specs.Setup.{Conditions}
use Rattle.vf_journal.specs.Records.{Held, image_of}
use Rattle.vf_records.specs.Account.{records_in}
use Rattle.vf_image.specs.Images.{Checkpoint}
use Rattle.vf_book.specs.Book.{BookView, image_at, holders, Fits, IsBook, AreOf}

-- ---- one call, and the holders that it leaves alone

pub keeps_now : (a b : Option (List ℕ)) (xs ys : List Holder) → Keeps a xs b ys → Accounts a xs → Accounts b ys
keeps_now a b xs ys k c = subst (Accounts b) (append-nil ys) (k [] (subst (Accounts a) (sym (append-nil xs)) c))

-- the simulator's holder changes
pub keeps_sim : (a b : Option (List ℕ)) (h s s' : Holder) (xs : List Holder) → Keeps a (s ∷ []) b (s' ∷ []) → Accounts a (h ∷ s ∷ xs) → Accounts b (h ∷ s' ∷ xs)
keeps_sim a b h s s' xs k c = accounts-swap b s' h xs (k (h ∷ xs) (accounts-swap a h s xs c))

last_first : (s : Holder) (xs : List Holder) → Reordered (xs ++ s ∷ []) (s ∷ xs)
last_first s xs = subst (λ ys. Reordered (xs ++ s ∷ []) (s ∷ ys)) (append-nil xs) (reordered-sides [] xs (s ∷ []) [])

first_last : (s : Holder) (xs : List Holder) → Reordered (s ∷ xs) (xs ++ s ∷ [])
first_last s xs = subst (λ ys. Reordered (s ∷ ys) (xs ++ s ∷ [])) (append-nil xs) (reordered-sides [] (s ∷ []) xs [])

under : (h : Holder) (xs ys : List Holder) → Reordered xs ys → Reordered (h ∷ xs) (h ∷ ys)
under h xs ys r = record { totals = λ f. omega (arith, r.totals f); parts = λ p. (p.0, r.parts p.1) }

-- the hand and the images change, beside the simulator
pub keeps_images : (a b : Option (List ℕ)) (h h' s : Holder) (xs ys : List Holder) → Keeps a (h ∷ xs) b (h' ∷ ys) → Accounts a (h ∷ s ∷ xs) → Accounts b (h' ∷ s ∷ ys)
keeps_images a b h h' s xs ys k c =
    accounts-reordered b (h' ∷ (ys ++ s ∷ [])) (h' ∷ s ∷ ys) (under h' (ys ++ s ∷ []) (s ∷ ys) (last_first s ys))
    (k (s ∷ []) (accounts-reordered a (h ∷ s ∷ xs) (h ∷ (xs ++ s ∷ [])) (under h (s ∷ xs) (xs ++ s ∷ []) (first_last s xs)) c))

-- ---- frames

pub no_frames : (xs : List ℕ) → ((f : ℕ) → has f xs ≡ false) → length xs ≡ 0
no_frames [] free = refl
no_frames (x ∷ xs) free = absurd (false≢true (sym (free x) ∙ ap (λ t. t || has x xs) (eq-eqb x x refl)))

-- the pages of the images of node n, and of those from node n on
pages_at : ℕ → List Held → ℕ
pages_at n held = sum_by (λ (h : Held). if h.node.0 == n then h.pages else 0) held

pages_from : ℕ → List Held → ℕ
pages_from n held = sum_by (λ (h : Held). if nat_le n h.node.0 then h.pages else 0) held

share : (a n p : ℕ) → (if a == n then p else 0) + (if nat_le (suc n) a then p else 0) ≤ (if nat_le n a then p else 0)
share a n p = grind (arith, nat_tests)

split_pages : (n : ℕ) (held : List Held) → pages_at n held + pages_from (suc n) held ≤ pages_from n held
unfolding pages_at pages_from
split_pages n [] = omega arith
split_pages n (h ∷ held) =
    let one = sum_by-cons (λ (x : Held). if x.node.0 == n then x.pages else 0) h held in
    let more = sum_by-cons (λ (x : Held). if nat_le (suc n) x.node.0 then x.pages else 0) h held in
    let all = sum_by-cons (λ (x : Held). if nat_le n x.node.0 then x.pages else 0) h held in
    let rest = split_pages n held in
    let here = share h.node.0 n h.pages in
    omega (arith, one, more, all, rest, here)

every : (a p : ℕ) → (if nat_le 0 a then p else 0) ≡ p
every a p = grind (arith, nat_tests)

all_pages : (held : List Held) → pages_from 0 held ≡ sum_by (λ (h : Held). h.pages) held
unfolding pages_from
all_pages [] = refl
all_pages (h ∷ held) =
    let all = sum_by-cons (λ (x : Held). if nat_le 0 x.node.0 then x.pages else 0) h held in
    let sum = sum_by-cons (λ (x : Held). x.pages) h held in
    let here = every h.node.0 h.pages in
    let rest = all_pages held in
    omega (arith, all, sum, here, rest)

found_pages : (n : ℕ) (held : List Held) (h : Held) → find (λ (x : Held). x.node.0 == n) held ≡ Some h → h.pages ≤ pages_at n held
unfolding pages_at
found_pages n [] h e = cc
found_pages n (x ∷ held) h e =
    let sum = sum_by-cons (λ (y : Held). if y.node.0 == n then y.pages else 0) x held in
    let here = by (x.node.0 == n) (found_pages n held h) e in
    omega (arith, sum, here)
  where
    by : (t : Bool) → (find (λ (y : Held). y.node.0 == n) held ≡ Some h → h.pages ≤ pages_at n held) → (if t then Some x else find (λ (y : Held). y.node.0 == n) held) ≡ Some h
        → h.pages ≤ (if t then x.pages else 0) + pages_at n held
    by true rest is = let same : x ≡ h = cc in let pages = ap (λ (y : Held). y.pages) same in omega (arith, pages)
    by false rest is = let h = rest is in omega (arith, h)

few_frames : (held : List Held) (images : List (Option Checkpoint)) (k : ℕ) → ((n : ℕ) (i : Checkpoint) → image_at images n ≡ Some i → length i.pages.holder.frames ≤ pages_at (k + n) held)
    → total frames_held (holders images) ≤ pages_from k held
few_frames held [] k each = omega arith
few_frames held (None ∷ more) k each =
    let rest = few_frames held more (suc k) (λ n i e. let was = each (suc n) i e in let same = ap (λ m. pages_at m held) (let s : k + suc n ≡ suc k + n = omega arith in s) in omega (arith, was, same)) in
    let split = split_pages k held in
    omega (arith, rest, split)
few_frames held (Some i ∷ more) k each =
    let rest = few_frames held more (suc k) (λ n j e. let was = each (suc n) j e in let same = ap (λ m. pages_at m held) (let s : k + suc n ≡ suc k + n = omega arith in s) in omega (arith, was, same)) in
    let split = split_pages k held in
    let here = each 0 i refl in
    let same = ap (λ m. pages_at m held) (let s : k + 0 ≡ k = omega arith in s) in
    omega (arith, rest, split, here, same)

fit_pages : (c : Conditions) (o : Option Checkpoint) (i : Checkpoint) (n : ℕ) (held : List Held) (found : Option Held) → find (λ (h : Held). h.node.0 == n) held ≡ found → o ≡ Some i → Fits c o found
    → length i.pages.holder.frames ≤ pages_at n held
fit_pages c None i n held found is e fits = cc
fit_pages c (Some j) i n held None is e fits = absurd fits
fit_pages c (Some j) i n held (Some h) is e fits =
    let most = found_pages n held h is in
    let same : j ≡ i = cc in
    let frames = ap (λ (x : Checkpoint). length x.pages.holder.frames) same in
    let framed = fits.frames in
    omega (arith, most, frames, framed)

-- the images have no more frames than their own pages are in all
pub images_framed : (b : BookView) → IsBook b → total frames_held (holders b.images) ≤ sum_by (λ (h : Held). h.pages) (records_in b.account).held
images_framed b book =
    let held = (records_in b.account).held in
    let few = few_frames held b.images 0
    (λ n i e. let same = ap (λ m. pages_at m held) (let s : 0 + n ≡ n = omega arith in s) in
    let fits = fit_pages b.account.setup (image_at b.images n) i n held (image_of (records_in b.account) (node_no n)) refl e (book.held n) in omega (arith, same, fits)) in
    let all = all_pages held in
    omega (arith, few, all)

-- ---- parts

total_parts : (pool : Name) (images : List (Option Checkpoint)) → AreOf pool images → total parts_of (holders images) ≤ length images
total_parts pool [] all = omega arith
total_parts pool (None ∷ more) all = let rest = total_parts pool more (λ n i e. all (suc n) i e) in omega (arith, rest)
total_parts pool (Some i ∷ more) all =
    let rest = total_parts pool more (λ n i e. all (suc n) i e) in
    let one = (all 0 i refl).parts in
    omega (arith, rest, one)

parts_by : (n : Option (List ℕ)) (h : Holder) (xs : List Holder) → Accounts n (h ∷ xs) → h.parts + total parts_of xs ≡ 2 ^ 62
parts_by None h xs c = absurd c
parts_by (Some ns) h xs c = c.parts

-- the hand has the parts that the images have not
pub parts_left : (pool : Name) (n : Option (List ℕ)) (h : Holder) (images : List (Option Checkpoint)) → AreOf pool images → Accounts n (h ∷ holders images) → 2 ^ 62 ≤ h.parts + length images
parts_left pool n h images all c =
    let few = total_parts pool images all in
    let sum = parts_by n h (holders images) c in
    omega (arith, few, sum)

-- where no image is there, there is none to be of another pool
pub none_of : (pool : Name) (images : List (Option Checkpoint)) → holders images ≡ [] → AreOf pool images
none_of pool [] none n i e = cc
none_of pool (None ∷ more) none zero i e = cc
none_of pool (None ∷ more) none (suc n) i e = none_of pool more none n i e
none_of pool (Some j ∷ more) none n i e = cc
