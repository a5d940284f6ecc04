-- The holders of images, one of which is given back or put into its place.
use Rattle.std.proofs.Common.{◌≡◌, ◌≢◌, ℕ, zero, suc, ◌<◌, List, [], ◌∷◌, ◌++◌, length, Option, Some, None, refl, sym, ap, ◌∙◌, arith, subst, inl, inr, ◌⊎◌}
use Rattle.std.specs.Prelude.{slice_set, replicate}
use Rattle.std.proofs.lemmas.Bool.{cases_eq}
use Rattle.std.proofs.lemmas.List.{get_or-set_same, get_or-set_other}
use Rattle.vf_frames.specs.declared.holder.Name.{Name}
use Rattle.vf_frames.specs.declared.holder.Holder.{Holder}
use Rattle.vf_frames.specs.Holders.{Keeps, SamePool}
use Rattle.vf_frames.proofs.CallerLemmas.{Reordered, reordered-same, reordered-then, reordered-before, reordered-sides, accounts-reordered, notes-none, notes-then}
use Rattle.vf_pages.specs.Pages.{Pages}
use Rattle.vf_pages.specs.Calls.{GivenBack}
use Rattle.vf_image.specs.Images.{Checkpoint}
use Rattle.vf_book.specs.Book.{image_at, holders, IsOf, AreOf, HandKept}

-- ---- an image in its place

-- an image is taken out of its place: its holder stood among the others
pub holders-taken : (images : List (Option Checkpoint)) (n : ℕ) (i : Checkpoint) → image_at images n ≡ Some i
    → Reordered (holders images) (i.pages.holder ∷ holders (slice_set images n None))
holders-taken [] n i e = cc
holders-taken (None ∷ more) zero i e = cc
holders-taken (Some j ∷ more) zero i e =
    let is : j ≡ i = cc in
    subst (λ (k : Checkpoint). Reordered (j.pages.holder ∷ holders more) (k.pages.holder ∷ holders more)) is (reordered-same (j.pages.holder ∷ holders more))
holders-taken (None ∷ more) (suc n) i e = holders-taken more n i e
holders-taken (Some j ∷ more) (suc n) i e =
    let rest = holders-taken more n i e in
    let left = holders (slice_set more n None) in
    reordered-then (j.pages.holder ∷ holders more) (j.pages.holder ∷ i.pages.holder ∷ left) (i.pages.holder ∷ j.pages.holder ∷ left)
    record { totals = λ f. omega (arith, rest.totals f); parts = λ p. (p.0, rest.parts p.1) }
    (reordered-sides [] (j.pages.holder ∷ []) (i.pages.holder ∷ []) left)

-- a place that has none stays as it is
pub taken-none : (images : List (Option Checkpoint)) (n : ℕ) → image_at images n ≡ None → slice_set images n None ≡ images
taken-none [] n e = refl
taken-none (None ∷ more) zero e = refl
taken-none (Some j ∷ more) zero e = cc
taken-none (None ∷ more) (suc n) e = ap (λ is. None ∷ is) (taken-none more n e)
taken-none (Some j ∷ more) (suc n) e = ap (λ is. Some j ∷ is) (taken-none more n e)

-- an image is put into a place that had none
pub holders-put : (images : List (Option Checkpoint)) (n : ℕ) (i : Checkpoint) → n < length images → image_at images n ≡ None
    → Reordered (i.pages.holder ∷ holders images) (holders (slice_set images n (Some i)))
holders-put [] n i h e = absurd (omega (arith, h))
holders-put (None ∷ more) zero i h e = reordered-same (i.pages.holder ∷ holders more)
holders-put (Some j ∷ more) zero i h e = cc
holders-put (None ∷ more) (suc n) i h e = holders-put more n i (omega (arith, h)) e
holders-put (Some j ∷ more) (suc n) i h e =
    let rest = holders-put more n i (omega (arith, h)) e in
    reordered-then (i.pages.holder ∷ j.pages.holder ∷ holders more) (j.pages.holder ∷ i.pages.holder ∷ holders more) (j.pages.holder ∷ holders (slice_set more n (Some i)))
    (reordered-sides [] (i.pages.holder ∷ []) (j.pages.holder ∷ []) (holders more))
    record { totals = λ f. omega (arith, rest.totals f); parts = λ p. (p.0, rest.parts p.1) }

pub holders-none : (n : ℕ) → holders (replicate n None) ≡ []
holders-none zero = refl
holders-none (suc n) = holders-none n

-- ---- what a pool keeps

-- the image of a place is given back
pub keeps-given : (a b : Option (List ℕ)) (images : List (Option Checkpoint)) (n : ℕ) (i : Checkpoint) (hand hand' : Holder) → image_at images n ≡ Some i
    → Keeps a (i.pages.holder ∷ hand ∷ []) b (hand' ∷ []) → Keeps a (hand ∷ holders images) b (hand' ∷ holders (slice_set images n None))
keeps-given a b images n i hand hand' e k = λ others c.
    let left = holders (slice_set images n None) in
    let h = i.pages.holder in
    let front : Reordered (hand ∷ holders images) (h ∷ hand ∷ left) =
    let taken = holders-taken images n i e in
    reordered-then (hand ∷ holders images) (hand ∷ h ∷ left) (h ∷ hand ∷ left)
    (record { totals = λ f. omega (arith, taken.totals f); parts = λ p. (p.0, taken.parts p.1) })
    (reordered-sides [] (hand ∷ []) (h ∷ []) left) in
    k (left ++ others) (accounts-reordered a (hand ∷ holders images ++ others) (h ∷ hand ∷ left ++ others) (reordered-before (hand ∷ holders images) (h ∷ hand ∷ left) others front) c)

-- one call after another, with whatever images
pub keeps-on : (a b c : Option (List ℕ)) (xs ys zs : List Holder) → Keeps a xs b ys → Keeps b ys c zs → Keeps a xs c zs
keeps-on a b c xs ys zs p q = λ others x. q others (p others x)

pub keeps-same : (a : Option (List ℕ)) (xs : List Holder) → Keeps a xs a xs
keeps-same a xs = λ others x. x

-- a simulator is given back beside the images
pub keeps-ended : (a b : Option (List ℕ)) (hand sim hand' : Holder) (xs : List Holder) → Keeps a (sim ∷ hand ∷ []) b (hand' ∷ []) → Keeps a (hand ∷ sim ∷ xs) b (hand' ∷ xs)
keeps-ended a b hand sim hand' xs k = λ others c.
    k (xs ++ others) (accounts-reordered a (hand ∷ sim ∷ xs ++ others) (sim ∷ hand ∷ xs ++ others) (reordered-sides [] (hand ∷ []) (sim ∷ []) (xs ++ others)) c)

pub pool-same : (name : Name) (numbers : Option (List ℕ)) → SamePool name numbers name numbers
pool-same name numbers = record { name = refl; told = refl }

-- ---- the images are of one pool

pub none-left : (images : List (Option Checkpoint)) (n : ℕ) → image_at (slice_set images n None) n ≡ None
none-left [] n = refl
none-left (x ∷ more) zero = refl
none-left (x ∷ more) (suc n) = none-left more n

pub are_of-given : (pool : Name) (images : List (Option Checkpoint)) (n : ℕ) → AreOf pool images → AreOf pool (slice_set images n None)
are_of-given pool images n all = λ k i e. by k i e (cases_eq k n)
  where
    by : (k : ℕ) (i : Checkpoint) → image_at (slice_set images n None) k ≡ Some i → (k ≡ n) ⊎ (k ≢ n) → IsOf pool i.pages.holder
    by k i e (inl same) = let none = none-left images n in let there = ap (λ m. image_at (slice_set images n None) m) (sym same) ∙ e in cc
    by k i e (inr other) = all k i (sym (get_or-set_other images n k None None other) ∙ e)

pub are_of-put : (pool : Name) (images : List (Option Checkpoint)) (n : ℕ) (j : Checkpoint) → n < length images → AreOf pool images → IsOf pool j.pages.holder → AreOf pool (slice_set images n (Some j))
are_of-put pool images n j inside all one = λ k i e. by k i e (cases_eq k n)
  where
    by : (k : ℕ) (i : Checkpoint) → image_at (slice_set images n (Some j)) k ≡ Some i → (k ≡ n) ⊎ (k ≢ n) → IsOf pool i.pages.holder
    by k i e (inl same) =
        let there = get_or-set_same images n (Some j) None inside in
        let is : j ≡ i = let here = ap (λ m. image_at (slice_set images n (Some j)) m) (sym same) ∙ e in cc in
        subst (λ (x : Checkpoint). IsOf pool x.pages.holder) is one
    by k i e (inr other) = all k i (sym (get_or-set_other images n k (Some j) None other) ∙ e)

pub are_of-renamed : (a b : Name) (images : List (Option Checkpoint)) → b ≡ a → AreOf a images → AreOf b images
are_of-renamed a b images same all = subst (λ pool. AreOf pool images) (sym same) all

-- ---- what a hand keeps

pub hand-same : (h : Holder) → HandKept h h
hand-same h = record { frames = λ f. refl; misses = omega arith; parts = omega arith; name = refl; notes = notes-none _ h.notes tt }

pub hand-then : (a b c : Holder) → HandKept a b → HandKept b c → HandKept a c
hand-then a b c p q = record {
  frames = λ f. q.frames f ∙ p.frames f;
  misses = omega (arith, p.misses, q.misses);
  parts = omega (arith, p.parts, q.parts);
  name = q.name ∙ p.name;
  notes = notes-then _ _ _ a.notes b.notes c.notes p.notes q.notes (λ x y s t. tt);
}

pub hand-given : (of : Pages) (a b : Holder) → GivenBack of a b → HandKept a b
hand-given of a b g = record {
  frames = g.frames;
  misses = omega (arith, g.misses);
  parts = omega (arith, g.parts);
  name = g.name;
  notes = g.notes;
}

-- an image that was taken out of its place is put back
holders-returned : (images : List (Option Checkpoint)) (n : ℕ) (i : Checkpoint) → image_at images n ≡ Some i
    → Reordered (i.pages.holder ∷ holders (slice_set images n None)) (holders images)
holders-returned [] n i e = cc
holders-returned (None ∷ more) zero i e = cc
holders-returned (Some j ∷ more) zero i e =
    let is : j ≡ i = cc in
    subst (λ (k : Checkpoint). Reordered (k.pages.holder ∷ holders more) (j.pages.holder ∷ holders more)) is (reordered-same (j.pages.holder ∷ holders more))
holders-returned (None ∷ more) (suc n) i e = holders-returned more n i e
holders-returned (Some j ∷ more) (suc n) i e =
    let rest = holders-returned more n i e in
    let left = holders (slice_set more n None) in
    reordered-then (i.pages.holder ∷ j.pages.holder ∷ left) (j.pages.holder ∷ i.pages.holder ∷ left) (j.pages.holder ∷ holders more)
    (reordered-sides [] (i.pages.holder ∷ []) (j.pages.holder ∷ []) left)
    record { totals = λ f. omega (arith, rest.totals f); parts = λ p. (p.0, rest.parts p.1) }

-- holders in front of which two others stand
under-one : (h : Holder) (xs ys : List Holder) → Reordered xs ys → Reordered (h ∷ xs) (h ∷ ys)
under-one h xs ys r = record { totals = λ f. omega (arith, r.totals f); parts = λ p. (p.0, r.parts p.1) }

-- a simulator begins at time zero beside the images
pub keeps-begun : (a b : Option (List ℕ)) (hand hand' sim : Holder) (xs : List Holder) → Keeps a (hand ∷ []) b (hand' ∷ sim ∷ []) → Keeps a (hand ∷ xs) b (hand' ∷ sim ∷ xs)
keeps-begun a b hand hand' sim xs k = λ others c. k (xs ++ others) c

pub keeps-refused : (a b : Option (List ℕ)) (hand hand' : Holder) (xs : List Holder) → Keeps a (hand ∷ []) b (hand' ∷ []) → Keeps a (hand ∷ xs) b (hand' ∷ xs)
keeps-refused a b hand hand' xs k = λ others c. k (xs ++ others) c

-- a simulator goes on from the holder in front of some others
goes-from : (a b : Option (List ℕ)) (h hand hand' sim : Holder) (all left : List Holder) → Reordered all (h ∷ left) → Reordered (h ∷ left) all
    → Keeps a (h ∷ hand ∷ []) b (h ∷ hand' ∷ sim ∷ []) → Keeps a (hand ∷ all) b (hand' ∷ sim ∷ all)
goes-from a b h hand hand' sim all left out back k = λ others c.
    let first : Reordered (hand ∷ all) (h ∷ hand ∷ left) =
    reordered-then (hand ∷ all) (hand ∷ h ∷ left) (h ∷ hand ∷ left) (under-one hand all (h ∷ left) out) (reordered-sides [] (hand ∷ []) (h ∷ []) left) in
    let last : Reordered (h ∷ hand' ∷ sim ∷ left) (hand' ∷ sim ∷ all) =
    reordered-then (h ∷ hand' ∷ sim ∷ left) (hand' ∷ sim ∷ h ∷ left) (hand' ∷ sim ∷ all) (reordered-sides [] (h ∷ []) (hand' ∷ sim ∷ []) left)
    (under-one hand' (sim ∷ h ∷ left) (sim ∷ all) (under-one sim (h ∷ left) all back)) in
    accounts-reordered b (h ∷ hand' ∷ sim ∷ left ++ others) (hand' ∷ sim ∷ all ++ others) (reordered-before (h ∷ hand' ∷ sim ∷ left) (hand' ∷ sim ∷ all) others last)
    (k (left ++ others) (accounts-reordered a (hand ∷ all ++ others) (h ∷ hand ∷ left ++ others) (reordered-before (hand ∷ all) (h ∷ hand ∷ left) others first) c))

-- and from two
goes-from-two : (a b : Option (List ℕ)) (h g hand hand' sim : Holder) (all left : List Holder) → Reordered all (h ∷ g ∷ left) → Reordered (h ∷ g ∷ left) all
    → Keeps a (h ∷ g ∷ hand ∷ []) b (h ∷ g ∷ hand' ∷ sim ∷ []) → Keeps a (hand ∷ all) b (hand' ∷ sim ∷ all)
goes-from-two a b h g hand hand' sim all left out back k = λ others c.
    let first : Reordered (hand ∷ all) (h ∷ g ∷ hand ∷ left) =
    reordered-then (hand ∷ all) (hand ∷ h ∷ g ∷ left) (h ∷ g ∷ hand ∷ left) (under-one hand all (h ∷ g ∷ left) out) (reordered-sides [] (hand ∷ []) (h ∷ g ∷ []) left) in
    let last : Reordered (h ∷ g ∷ hand' ∷ sim ∷ left) (hand' ∷ sim ∷ all) =
    reordered-then (h ∷ g ∷ hand' ∷ sim ∷ left) (hand' ∷ sim ∷ h ∷ g ∷ left) (hand' ∷ sim ∷ all) (reordered-sides [] (h ∷ g ∷ []) (hand' ∷ sim ∷ []) left)
    (under-one hand' (sim ∷ h ∷ g ∷ left) (sim ∷ all) (under-one sim (h ∷ g ∷ left) all back)) in
    accounts-reordered b (h ∷ g ∷ hand' ∷ sim ∷ left ++ others) (hand' ∷ sim ∷ all ++ others) (reordered-before (h ∷ g ∷ hand' ∷ sim ∷ left) (hand' ∷ sim ∷ all) others last)
    (k (left ++ others) (accounts-reordered a (hand ∷ all ++ others) (h ∷ g ∷ hand ∷ left ++ others) (reordered-before (hand ∷ all) (h ∷ g ∷ hand ∷ left) others first) c))

-- a simulator goes on from the image of a place
pub keeps-forked : (a b : Option (List ℕ)) (images : List (Option Checkpoint)) (n : ℕ) (i : Checkpoint) (hand hand' sim : Holder) → image_at images n ≡ Some i
    → Keeps a (i.pages.holder ∷ hand ∷ []) b (i.pages.holder ∷ hand' ∷ sim ∷ []) → Keeps a (hand ∷ holders images) b (hand' ∷ sim ∷ holders images)
keeps-forked a b images n i hand hand' sim e k =
    goes-from a b i.pages.holder hand hand' sim (holders images) (holders (slice_set images n None)) (holders-taken images n i e) (holders-returned images n i e) k

-- and from the image of a place over a base in another
pub keeps-forked-over : (a b : Option (List ℕ)) (images : List (Option Checkpoint)) (n m : ℕ) (i base : Checkpoint) (hand hand' sim : Holder)
    → image_at images n ≡ Some i → image_at images m ≡ Some base → m ≢ n
    → Keeps a (i.pages.holder ∷ base.pages.holder ∷ hand ∷ []) b (i.pages.holder ∷ base.pages.holder ∷ hand' ∷ sim ∷ []) → Keeps a (hand ∷ holders images) b (hand' ∷ sim ∷ holders images)
keeps-forked-over a b images n m i base hand hand' sim e e' apart k =
    let rest = slice_set images n None in
    let there : image_at rest m ≡ Some base = get_or-set_other images n m None None apart ∙ e' in
    let left = holders (slice_set rest m None) in
    goes-from-two a b i.pages.holder base.pages.holder hand hand' sim (holders images) left
    (reordered-then (holders images) (i.pages.holder ∷ holders rest) (i.pages.holder ∷ base.pages.holder ∷ left) (holders-taken images n i e) (under-one i.pages.holder (holders rest) (base.pages.holder ∷ left) (holders-taken rest m base there)))
    (reordered-then (i.pages.holder ∷ base.pages.holder ∷ left) (i.pages.holder ∷ holders rest) (holders images) (under-one i.pages.holder (base.pages.holder ∷ left) (holders rest) (holders-returned rest m base there)) (holders-returned images n i e))
    k

-- a simulator becomes the image of a place
pub keeps-put : (a b : Option (List ℕ)) (images : List (Option Checkpoint)) (n : ℕ) (i : Checkpoint) (hand sim : Holder) → n < length images → image_at images n ≡ None
    → Keeps a (sim ∷ []) b (i.pages.holder ∷ []) → Keeps a (hand ∷ sim ∷ holders images) b (hand ∷ holders (slice_set images n (Some i)))
keeps-put a b images n i hand sim inside none k = λ others c.
    let xs = holders images in
    let h = i.pages.holder in
    let put = holders-put images n i inside none in
    accounts-reordered b (h ∷ hand ∷ xs ++ others) (hand ∷ holders (slice_set images n (Some i)) ++ others)
    (reordered-before (h ∷ hand ∷ xs) (hand ∷ holders (slice_set images n (Some i))) others
    (reordered-then (h ∷ hand ∷ xs) (hand ∷ h ∷ xs) (hand ∷ holders (slice_set images n (Some i))) (reordered-sides [] (h ∷ []) (hand ∷ []) xs) (under-one hand (h ∷ xs) (holders (slice_set images n (Some i))) put)))
    (k (hand ∷ xs ++ others) (accounts-reordered a (hand ∷ sim ∷ xs ++ others) (sim ∷ hand ∷ xs ++ others) (reordered-sides [] (hand ∷ []) (sim ∷ []) (xs ++ others)) c))
