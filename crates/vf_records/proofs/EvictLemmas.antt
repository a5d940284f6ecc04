-- The image that the order chooses, image after image.
use Rattle.std.proofs.Common.{◌≡◌, ℕ, zero, suc, ◌+◌, ◌≤◌, Bool, true, false, ◌||◌, not, if◌then◌else◌, List, [], ◌∷◌, length, map, drop, Some, None, refl, ◌∙◌, ap, arith, slice_get, unwrap_or}
use Rattle.std.specs.List.{list_any, filter}
use Rattle.vf_jobs.specs.declared.setup.Order.{Order}
use Rattle.vf_jobs.specs.declared.setup.Order.TheVariants.{Oldest, Deepest, Widest}
use Rattle.vf_jobs.specs.Setup.{Conditions}
use Rattle.vf_journal.specs.Records.{Held, Records, is_pinned}
use Rattle.vf_journal.specs.Journal.{chosen}
use Rattle.vf_records.specs.declared.row.HeldImage.{HeldImage}
use Rattle.vf_records.specs.Account.{farm_of}
use Rattle.vf_records.specs.Evictions.{earlier_in}
use Rattle.vf_records.specs.Tables.{held_of}

pub any_mapped_here : {A B : Type 0} (test : B → Bool) (f : A → B) (xs : List A) (k : ℕ) (x : A) → slice_get xs k ≡ Some x
    → list_any test (map f (drop k xs)) ≡ (test (f x) || list_any test (map f (drop (k + 1) xs)))
any_mapped_here test f [] k x e = cc
any_mapped_here test f (y ∷ xs) zero x e =
    let is : y ≡ x = ap (λ o. unwrap_or o y) e in
    ap (λ z. test (f z) || list_any test (map f xs)) is
any_mapped_here test f (y ∷ xs) (suc k) x e =
    any_mapped_here test f xs k x e ∙ ap (λ n. test (f x) || list_any test (map f (drop n (y ∷ xs)))) (let same : suc (k + 1) ≡ suc k + 1 = omega arith in same)

pub any_mapped_past : {A B : Type 0} (test : B → Bool) (f : A → B) (xs : List A) (k : ℕ) → length xs ≤ k → list_any test (map f (drop k xs)) ≡ false
any_mapped_past test f [] zero h = refl
any_mapped_past test f [] (suc k) h = refl
any_mapped_past test f (x ∷ xs) zero h = absurd (omega (arith, h))
any_mapped_past test f (x ∷ xs) (suc k) h = any_mapped_past test f xs k (omega (arith, h))

-- the images from a number on that are not pinned
abbrev pub free_from : Records → List HeldImage → ℕ → List Held
free_from r images at = filter (λ (h : Held). not (is_pinned r h.node)) (map held_of (drop at images))

free_here : (r : Records) (images : List HeldImage) (k : ℕ) (x : HeldImage) → slice_get images k ≡ Some x
    → free_from r images k ≡ (if not (is_pinned r x.node) then held_of x ∷ free_from r images (k + 1) else free_from r images (k + 1))
free_here r [] k x e = cc
free_here r (y ∷ images) zero x e =
    let is : y ≡ x = ap (λ o. unwrap_or o y) e in
    ap (λ (z : HeldImage). if not (is_pinned r z.node) then held_of z ∷ filter (λ (h : Held). not (is_pinned r h.node)) (map held_of images) else filter (λ (h : Held). not (is_pinned r h.node)) (map held_of images)) is
free_here r (y ∷ images) (suc k) x e =
    free_here r images k x e
    ∙ ap (λ n. if not (is_pinned r x.node) then held_of x ∷ free_from r (y ∷ images) n else free_from r (y ∷ images) n) (let same : suc (k + 1) ≡ suc k + 1 = omega arith in same)

pub free_past : (r : Records) (images : List HeldImage) (k : ℕ) → length images ≤ k → free_from r images k ≡ []
free_past r [] zero h = refl
free_past r [] (suc k) h = refl
free_past r (x ∷ images) zero h = absurd (omega (arith, h))
free_past r (x ∷ images) (suc k) h = free_past r images k (omega (arith, h))

chosen_first : (s : Conditions) (order : Order) (h : Held) (more : List Held) → chosen (farm_of s) order (h ∷ more) ≡ Some (earlier_in s.plan order h (chosen (farm_of s) order more))
chosen_first s Oldest h more = refl
chosen_first s Deepest h more = refl
chosen_first s Widest h more = refl

pub chosen_none : (s : Conditions) (order : Order) → chosen (farm_of s) order [] ≡ None
chosen_none s Oldest = refl
chosen_none s Deepest = refl
chosen_none s Widest = refl

-- one that is not pinned, and one that is
pub chosen_free : (s : Conditions) (r : Records) (images : List HeldImage) (k : ℕ) (x : HeldImage) → slice_get images k ≡ Some x → is_pinned r x.node ≡ false
    → chosen (farm_of s) s.order (free_from r images k) ≡ Some (earlier_in s.plan s.order (held_of x) (chosen (farm_of s) s.order (free_from r images (k + 1))))
chosen_free s r images k x e p =
    ap (chosen (farm_of s) s.order) (free_here r images k x e ∙ ap (λ b. if not b then held_of x ∷ free_from r images (k + 1) else free_from r images (k + 1)) p)
    ∙ chosen_first s s.order (held_of x) (free_from r images (k + 1))

pub chosen_pinned : (s : Conditions) (r : Records) (images : List HeldImage) (k : ℕ) (x : HeldImage) → slice_get images k ≡ Some x → is_pinned r x.node ≡ true
    → chosen (farm_of s) s.order (free_from r images k) ≡ chosen (farm_of s) s.order (free_from r images (k + 1))
chosen_pinned s r images k x e p =
    ap (chosen (farm_of s) s.order) (free_here r images k x e ∙ ap (λ b. if not b then held_of x ∷ free_from r images (k + 1) else free_from r images (k + 1)) p)
