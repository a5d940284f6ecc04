-- How many frames are free, held and needed.
use Rattle.std.proofs.Common.{◌≡◌, ◌≢◌, ℕ, zero, suc, ◌+◌, ◌<◌, ◌≤◌, Bool, true, false, cond, ◌||◌, ◌==◌, nat_le, List, [], ◌∷◌, length, refl, sym, ap, ◌∙◌, arith, ne_eqb, eq-eqb, le-leb, ⊎_elim}
use Rattle.std.specs.Prelude.{Option, Some, None}
use Rattle.std.proofs.lemmas.Bool.{cases_eq, cond_both, eqb-true}
use Rattle.vf_frames.specs.declared.holder.Holder.{Holder}
use Rattle.vf_frames.specs.Numbers.{has, rises}
use Rattle.vf_frames.specs.Holders.{total, count, one_if_has}
use Rattle.vf_pages.specs.Pages.{Page, frames_in, entry, occurs, IsHeld}
use Rattle.vf_pages.specs.Needs.{need, needs_frame, is_new, new_pages, free_frames, frames_held}
use Rattle.vf_pages.proofs.Entries.{rises-parts, rises-has, entry-here, entry-other}
use Rattle.vf_pages.proofs.Frames.{has-from}

-- a sum over the numbers below n
abbrev pub below : ℕ → (ℕ → ℕ) → ℕ
below zero f = 0
below (suc n) f = f n + below n f

below-add : (n : ℕ) (f g : ℕ → ℕ) → below n (λ k. f k + g k) ≡ below n f + below n g
below-add zero f g = refl
below-add (suc n) f g = omega (arith, below-add n f g)

below-le : (n : ℕ) (f g : ℕ → ℕ) → ((k : ℕ) → k < n → f k ≤ g k) → below n f ≤ below n g
below-le zero f g h = omega arith
below-le (suc n) f g h = omega (arith, h n (omega arith), below-le n f g (λ k lt. h k (omega arith)))

below-none : (n : ℕ) → below n (λ k. 0) ≡ 0
below-none zero = refl
below-none (suc n) = omega (arith, below-none n)

hit : (k y v : ℕ) → k ≡ y → cond (k == y) v 0 ≡ v
hit k y v h = rw (eq-eqb k y h) refl

miss : (k y v : ℕ) → k ≢ y → cond (k == y) v 0 ≡ 0
miss k y v h = rw (ne_eqb k y h) refl

below-past : (n y v : ℕ) → n ≤ y → below n (λ k. cond (k == y) v 0) ≡ 0
below-past zero y v h = refl
below-past (suc n) y v h = omega (arith, miss n y v (λ e. absurd (omega arith)), below-past n y v (omega arith))

-- one number is met at most once, and once where it is below n
below-one : (n y v : ℕ) → below n (λ k. cond (k == y) v 0) ≤ v
below-one zero y v = omega arith
below-one (suc n) y v =
    ⊎_elim
    (λ e. omega (arith, hit n y v e, below-past n y v (omega arith)))
    (λ ne. omega (arith, miss n y v ne, below-one n y v))
    (cases_eq n y)

below-once : (n y v : ℕ) → y < n → below n (λ k. cond (k == y) v 0) ≡ v
below-once zero y v h = absurd (omega arith)
below-once (suc n) y v h =
    ⊎_elim
    (λ e. omega (arith, hit n y v e, below-past n y v (omega arith)))
    (λ ne. omega (arith, miss n y v ne, below-once n y v (omega arith)))
    (cases_eq n y)

has-le : (f x : ℕ) (xs : List ℕ) → cond {A = ℕ} (has f (x ∷ xs)) 1 0 ≤ cond (f == x) 1 0 + cond (has f xs) 1 0
has-le f x xs = both (f == x) (has f xs)
  where
    both : (a b : Bool) → cond {A = ℕ} (a || b) 1 0 ≤ cond a 1 0 + cond b 1 0
    both true true = omega arith
    both true false = omega arith
    both false true = omega arith
    both false false = omega arith

-- a list has no more of the first n frames than its length
below-has : (n : ℕ) (xs : List ℕ) → below n (λ f. cond (has f xs) 1 0) ≤ length xs
below-has n [] = omega (arith, below-none n)
below-has n (x ∷ xs) =
    omega (
      arith,
      below-le n (λ f. cond (has f (x ∷ xs)) 1 0) (λ f. cond (f == x) 1 0 + cond (has f xs) 1 0) (λ f _. has-le f x xs),
      below-add n (λ f. cond (f == x) 1 0) (λ f. cond (has f xs) 1 0),
      below-one n x 1,
      below-has n xs,
    )

below-count : (n : ℕ) (hs : List Holder) → below n (λ f. count f hs) ≤ total frames_held hs
below-count n [] = omega (arith, below-none n)
below-count n (h ∷ hs) =
    omega (arith, below-add n (λ f. one_if_has f h) (λ f. count f hs), below-has n h.frames, below-count n hs)

free-or-used : (n : ℕ) (hs : List Holder) → free_frames n hs + below n (λ f. cond (count f hs == 0) 0 1) ≡ n
free-or-used zero hs = refl
free-or-used (suc n) hs = omega (arith, either (count n hs == 0), free-or-used n hs)
  where
    either : (b : Bool) → cond {A = ℕ} b 1 0 + cond b 0 1 ≡ 1
    either true = refl
    either false = refl

-- 1 where none of the others has the page's frame, and 1 where one has
abbrev lone : List Holder → Page → ℕ
lone others e = cond (count e.frame others == 0) 1 0

abbrev lone_pages : List Holder → List Page → ℕ
lone_pages others [] = 0
lone_pages others (e ∷ es) = lone others e + lone_pages others es

abbrev shared : List Holder → Page → ℕ
shared others e = cond (nat_le 1 (count e.frame others)) 1 0

abbrev shared_pages : List Holder → List Page → ℕ
shared_pages others [] = 0
shared_pages others (e ∷ es) = shared others e + shared_pages others es

lone-or-shared : (others : List Holder) (es : List Page) → lone_pages others es + shared_pages others es ≡ length es
lone-or-shared others [] = refl
lone-or-shared others (e ∷ es) = omega (arith, either (count e.frame others), lone-or-shared others es)
  where
    either : (k : ℕ) → cond {A = ℕ} (k == 0) 1 0 + cond (nat_le 1 k) 1 0 ≡ 1
    either zero = refl
    either (suc k) =
        let above = ap (λ b. cond {A = ℕ} b 1 0) (le-leb 1 (suc k) (omega arith)) in
        let ne : suc k ≢ 0 = omega arith in
        let not_none = ap (λ b. cond {A = ℕ} b 1 0) (ne_eqb (suc k) 0 ne) in
        omega (arith, above, not_none)

-- how often the frame has a page whose frame none of the others has
abbrev hits : List Holder → ℕ → List Page → ℕ
hits others f [] = 0
hits others f (e ∷ es) = cond (f == e.frame) (lone others e) 0 + hits others f es

below-hits : (n : ℕ) (others : List Holder) (es : List Page) → below n (λ f. hits others f es) ≤ lone_pages others es
below-hits n others [] = omega (arith, below-none n)
below-hits n others (e ∷ es) =
    omega (arith, below-add n (λ f. cond (f == e.frame) (lone others e) 0) (λ f. hits others f es), below-one n e.frame (lone others e), below-hits n others es)

occurs-hits : (others : List Holder) (f : ℕ) (es : List Page) → count f others ≡ 0 → occurs f (frames_in es) ≤ hits others f es
occurs-hits others f [] h = omega arith
occurs-hits others f (e ∷ es) h =
    ⊎_elim
    (λ same.
    let alone = ap (λ k. cond {A = ℕ} (k == 0) 1 0) (ap (λ g. count g others) (sym same) ∙ h) in
    omega (arith, hit f e.frame 1 same, hit f e.frame (lone others e) same, alone, occurs-hits others f es h))
    (λ ne. omega (arith, miss f e.frame 1 ne, occurs-hits others f es h))
    (cases_eq f e.frame)

used-le : (others : List Holder) (h : Holder) (es : List Page) → IsHeld es h.frames → (f : ℕ) → cond (count f (h ∷ others) == 0) 0 1 ≤ count f others + hits others f es
used-le others h es held f =
    ⊎_elim
    (λ none.
    let own = occurs-hits others f es none in
    omega (arith, small (count f (h ∷ others)), held f, own, none))
    (λ some. omega (arith, one-at-most (count f (h ∷ others)), some))
    (cases_eq (count f others) 0)
  where
    small : (k : ℕ) → cond {A = ℕ} (k == 0) 0 1 ≤ k
    small zero = omega arith
    small (suc k) = cond_both (suc k == 0) 0 1 (λ n. n ≤ suc k) (λ _. omega arith) (λ _. omega arith)

    one-at-most : (k : ℕ) → cond {A = ℕ} (k == 0) 0 1 ≤ 1
    one-at-most k = cond_both (k == 0) 0 1 (λ n. n ≤ 1) (λ _. omega arith) (λ _. omega arith)

occurs-rises : (low limit q : ℕ) (xs : List ℕ) → rises low limit xs ≡ true → (occurs q xs ≤ 1) × (q < low → occurs q xs ≡ 0)
occurs-rises low limit q [] r = (omega arith, λ _. refl)
occurs-rises low limit q (x ∷ xs) r =
    let parts = rises-parts low limit x xs r in
    let later = occurs-rises (x + 1) limit q xs parts.2 in (
      ⊎_elim
          (λ same. omega (arith, hit q x 1 same, later.1 (omega arith)))
          (λ ne. omega (arith, miss q x 1 ne, later.0))
          (cases_eq q x),
      λ lt. omega (arith, miss q x 1 (λ same. absurd (omega (arith, parts.0))), later.1 (omega (arith, parts.0))),
    )

-- of the pages with these numbers, those that are shared
abbrev sharing : List Holder → Option Page → ℕ
sharing others None = 0
sharing others (Some e) = shared others e

abbrev shared_of : List Holder → List Page → List ℕ → ℕ
shared_of others es [] = 0
shared_of others es (p ∷ ps) = sharing others (entry p es) + shared_of others es ps

need-is : (others : List Holder) (es : List Page) (ps : List ℕ) → need others es ps ≡ new_pages es ps + shared_of others es ps
need-is others es [] = refl
need-is others es (p ∷ ps) = omega (arith, parts (entry p es), need-is others es ps)
  where
    parts : (o : Option Page) → needs_frame others o ≡ is_new o + sharing others o
    parts None = refl
    parts (Some e) = omega arith

shared-cons : (others : List Holder) (x : Page) (es : List Page) (ps : List ℕ) → shared_of others (x ∷ es) ps ≤ shared_of others es ps + cond (nat_le 1 (count x.frame others)) (occurs x.page ps) 0
shared-cons others x es [] = omega arith
shared-cons others x es (p ∷ ps) =
    let b : Bool = nat_le 1 (count x.frame others) in
    let n : ℕ = occurs x.page ps in
    let k : ℕ = cond (x.page == p) 1 0 in
    let split : cond b (occurs x.page (p ∷ ps)) 0 ≡ cond b k 0 + cond b n 0 = more b n k in
    let later = shared-cons others x es ps in
    ⊎_elim
    (λ same.
    let here : sharing others (entry p (x ∷ es)) ≡ cond b 1 0 = ap (sharing others) (entry-here p x es same) in
    let met : cond b k 0 ≡ cond b 1 0 = ap (λ m. cond {A = ℕ} b m 0) (hit x.page p 1 (sym same)) in
    omega (arith, here, met, split, later))
    (λ ne.
    let here : sharing others (entry p (x ∷ es)) ≡ sharing others (entry p es) = ap (sharing others) (entry-other p x es ne) in
    omega (arith, here, split, later))
    (cases_eq p x.page)
  where
    more : (b : Bool) (n k : ℕ) → cond b (k + n) 0 ≡ cond b k 0 + cond b n 0
    more true n k = refl
    more false n k = refl

shared-le : (others : List Holder) (low limit : ℕ) (es : List Page) (ps : List ℕ) → rises low limit ps ≡ true → shared_of others es ps ≤ shared_pages others es
shared-le others low limit [] ps r = none ps
  where
    none : (ps : List ℕ) → shared_of others [] ps ≤ 0
    none [] = omega arith
    none (p ∷ ps) = omega (arith, none ps)
shared-le others low limit (x ∷ es) ps r =
    omega (
      arith,
      shared-cons others x es ps,
      shared-le others low limit es ps r,
      at-most (nat_le 1 (count x.frame others)) (occurs x.page ps) (occurs-rises low limit x.page ps r).0,
    )
  where
    at-most : (b : Bool) (n : ℕ) → n ≤ 1 → cond b n 0 ≤ cond b 1 0
    at-most true n h = h
    at-most false n h = omega arith

-- where fewer frames are free than writes need, the pages that there would be do not fit beside the others'
pub beyond-budget : (n : ℕ) (h : Holder) (others : List Holder) (es : List Page) (ps : List ℕ) (low limit : ℕ) → IsHeld es h.frames → rises low limit ps ≡ true → free_frames n (h ∷ others) < need others es ps → n < (length es + new_pages es ps) + total frames_held others
beyond-budget n h others es ps low limit held r lacking =
    omega (
      arith,
      free-or-used n (h ∷ others),
      lacking,
      need-is others es ps,
      shared-le others low limit es ps r,
      lone-or-shared others es,
      below-le n (λ f. cond (count f (h ∷ others) == 0) 0 1) (λ f. count f others + hits others f es) (λ f _. used-le others h es held f),
      below-add n (λ f. count f others) (λ f. hits others f es),
      below-count n others,
      below-hits n others es,
    )

below-occurs : (n : ℕ) (xs : List ℕ) → ((f : ℕ) → 1 ≤ occurs f xs → f < n) → below n (λ f. occurs f xs) ≡ length xs
below-occurs n [] h = below-none n
below-occurs n (x ∷ xs) h =
    omega (
      arith,
      below-add n (λ f. cond (f == x) 1 0) (λ f. occurs f xs),
      below-once n x 1 (h x (omega (arith, hit x x 1 refl))),
      below-occurs n xs (λ f some. h f (omega arith)),
    )

below-ones : (n : ℕ) (g : ℕ → Bool) → below n (λ f. cond (g f) 1 0) ≤ n
below-ones zero g = omega arith
below-ones (suc n) g = omega (arith, cond_both (g n) 1 0 (λ k. k ≤ 1) (λ _. omega arith) (λ _. omega arith), below-ones n g)

-- different frames below n are no more than n
pub held-within : (n : ℕ) (es : List Page) (frames : List ℕ) → IsHeld es frames → ((f : ℕ) → has f frames ≡ true → f < n) → length (frames_in es) ≤ n
held-within n es frames held within =
    omega (
      arith,
      below-occurs n (frames_in es) (λ f some. within f (has-from f (has f frames) (omega (arith, held f)))),
      below-le n (λ f. occurs f (frames_in es)) (λ f. cond (has f frames) 1 0) (λ f _. omega (arith, held f)),
      below-ones n (λ f. has f frames),
    )

apart-add : (a b : Bool) → (a ≡ true → b ≡ true → ⊥) → cond {A = ℕ} a 1 0 + cond b 1 0 ≤ cond (a || b) 1 0
apart-add true true h = absurd (h refl refl)
apart-add true false h = omega arith
apart-add false true h = omega arith
apart-add false false h = omega arith

-- rising numbers below n are as many as the list is long
pub below-rises : (n low : ℕ) (xs : List ℕ) → rises low n xs ≡ true → below n (λ f. cond (has f xs) 1 0) ≡ length xs
below-rises n low [] r = below-none n
below-rises n low (x ∷ xs) r =
    let parts = rises-parts low n x xs r in
    omega (
      arith,
      below-le n (λ f. cond (has f (x ∷ xs)) 1 0) (λ f. cond (f == x) 1 0 + cond (has f xs) 1 0) (λ f _. has-le f x xs),
      below-le n (λ f. cond (f == x) 1 0 + cond (has f xs) 1 0) (λ f. cond (has f (x ∷ xs)) 1 0)
          (λ f _. apart-add (f == x) (has f xs) (λ same there. let later = rises-has (x + 1) n f xs parts.2 there in absurd (omega (arith, later.0, eqb-true f x same)))),
      below-add n (λ f. cond (f == x) 1 0) (λ f. cond (has f xs) 1 0),
      below-once n x 1 parts.1,
      below-rises n (x + 1) xs parts.2,
    )

-- a holder has as many frames as pages
pub held-exactly : (n : ℕ) (es : List Page) (frames : List ℕ) → IsHeld es frames → rises 0 n frames ≡ true → length frames ≡ length (frames_in es)
held-exactly n es frames held r =
    omega (
      arith,
      below-occurs n (frames_in es) (λ f some. (rises-has 0 n f frames r (has-from f (has f frames) (omega (arith, held f)))).1),
      below-le n (λ f. occurs f (frames_in es)) (λ f. cond (has f frames) 1 0) (λ f _. omega (arith, held f)),
      below-le n (λ f. cond (has f frames) 1 0) (λ f. occurs f (frames_in es)) (λ f _. omega (arith, held f)),
      below-rises n 0 frames r,
    )
