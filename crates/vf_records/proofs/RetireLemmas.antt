-- Images that no job needs are given back, one node after another.
use Rattle.std.proofs.Common.{◌≡◌, ℕ, suc, ◌+◌, ◌<◌, ◌≤◌, Bool, true, false, ◌&&◌, ◌||◌, ◌==◌, nat_lt, not, if◌then◌else◌, List, [], ◌∷◌, ◌++◌, length, map, Option, Some, None, is_some, refl, sym, ◌∙◌, ap, ap₂, arith}
use Rattle.std.specs.List.{filter, find, All}
use Rattle.std.proofs.lemmas.Bool.{false≢true, lt-ltb, le-ltb, eqb-true, eqb-false}
use Rattle.std.proofs.lemmas.List.Elements.{filter_agree, All-head, All-tail}
use Rattle.vf_base.specs.declared.names.NodeNo.{NodeNo}
use Rattle.vf_jobs.specs.Jobs.{node_no}
use Rattle.vf_jobs.specs.Setup.{Conditions}
use Rattle.vf_journal.specs.declared.entry.Entry.{Entry}
use Rattle.vf_journal.specs.declared.entry.Entry.TheVariants.{Retire}
use Rattle.vf_journal.specs.Records.{Held, Records, image_of}
use Rattle.vf_journal.specs.Effects.{is_needed, is_retired, without_image, without_unneeded, down_from}
use Rattle.vf_records.specs.Account.{farm_of}
use Rattle.vf_records.proofs.CopyLemmas.{not_equal, none_below, and_false}

-- ---- filters

pub filter_twice : {A : Type 0} (p q both : A → Bool) → ((x : A) → (q x && p x) ≡ both x) → (xs : List A) → filter p (filter q xs) ≡ filter both xs
filter_twice p q both h [] = refl
filter_twice p q both h (x ∷ xs) = by (filter_twice p q both h xs) (q x) refl
  where
    by : filter p (filter q xs) ≡ filter both xs → (s : Bool) → q x ≡ s
        → filter p (if s then x ∷ filter q xs else filter q xs) ≡ (if both x then x ∷ filter both xs else filter both xs)
    by rest true e = ap (λ b. if b then x ∷ filter p (filter q xs) else filter p (filter q xs)) (ap (λ b. b && p x) (sym e) ∙ h x)
        ∙ ap (λ ys. if both x then x ∷ ys else ys) rest
    by rest false e = rest ∙ ap (λ b. if b then x ∷ filter both xs else filter both xs) (ap (λ b. b && p x) (sym e) ∙ h x)

pub find_kept : {A : Type 0} (p q : A → Bool) → ((x : A) → p x ≡ true → q x ≡ true) → (xs : List A) → find p (filter q xs) ≡ find p xs
find_kept p q h [] = refl
find_kept p q h (x ∷ xs) = by (find_kept p q h xs) (q x) refl
  where
    fails : (s : Bool) → q x ≡ false → p x ≡ s → p x ≡ false
    fails true e k = absurd (false≢true (sym e ∙ h x k))
    fails false e k = k

    by : find p (filter q xs) ≡ find p xs → (s : Bool) → q x ≡ s → find p (if s then x ∷ filter q xs else filter q xs) ≡ (if p x then Some x else find p xs)
    by rest true e = ap (λ o. if p x then Some x else o) rest
    by rest false e = rest ∙ sym (ap (λ b. if b then Some x else find p xs) (fails (p x) e refl))

-- what is not found is not lost
pub without_none : {A : Type 0} (p : A → Bool) (xs : List A) → find p xs ≡ None → filter (λ x. not (p x)) xs ≡ xs
without_none p [] e = refl
without_none p (x ∷ xs) e = by (without_none p xs) (p x) e
  where
    by : (find p xs ≡ None → filter (λ x. not (p x)) xs ≡ xs) → (s : Bool) → (if s then Some x else find p xs) ≡ None
        → (if not s then x ∷ filter (λ x. not (p x)) xs else filter (λ x. not (p x)) xs) ≡ x ∷ xs
    by rest true k = cc
    by rest false k = ap (λ ys. x ∷ ys) (rest k)

pub filter_shorter : {A : Type 0} (p : A → Bool) (xs : List A) → length (filter p xs) ≤ length xs
filter_shorter p [] = omega arith
filter_shorter p (x ∷ xs) = by (filter_shorter p xs) (p x)
  where
    by : length (filter p xs) ≤ length xs → (s : Bool) → length (if s then x ∷ filter p xs else filter p xs) ≤ suc (length xs)
    by rest true = omega (arith, rest)
    by rest false = omega (arith, rest)

pub without_one : {A : Type 0} (p : A → Bool) (xs : List A) → is_some (find p xs) ≡ true → length (filter (λ x. not (p x)) xs) + 1 ≤ length xs
without_one p [] e = absurd (false≢true e)
without_one p (x ∷ xs) e = by (without_one p xs) (filter_shorter (λ x. not (p x)) xs) (p x) e
  where
    by : (is_some (find p xs) ≡ true → length (filter (λ x. not (p x)) xs) + 1 ≤ length xs) → length (filter (λ x. not (p x)) xs) ≤ length xs
        → (s : Bool) → is_some (if s then Some x else find p xs) ≡ true
        → length (if not s then x ∷ filter (λ x. not (p x)) xs else filter (λ x. not (p x)) xs) + 1 ≤ suc (length xs)
    by rest shorter true k = omega (arith, shorter)
    by rest shorter false k = let one = rest k in omega (arith, one)

pub map_filter : {A B : Type 0} (f : A → B) (p : A → Bool) (q : B → Bool) → ((x : A) → p x ≡ q (f x)) → (xs : List A) → map f (filter p xs) ≡ filter q (map f xs)
map_filter f p q h [] = refl
map_filter f p q h (x ∷ xs) = by (map_filter f p q h xs) (p x) refl
  where
    by : map f (filter p xs) ≡ filter q (map f xs) → (s : Bool) → p x ≡ s
        → map f (if s then x ∷ filter p xs else filter p xs) ≡ (if q (f x) then f x ∷ filter q (map f xs) else filter q (map f xs))
    by rest true e = ap (λ ys. f x ∷ ys) rest ∙ ap (λ b. if b then f x ∷ filter q (map f xs) else filter q (map f xs)) (sym e ∙ h x)
    by rest false e = rest ∙ ap (λ b. if b then f x ∷ filter q (map f xs) else filter q (map f xs)) (sym e ∙ h x)

-- ---- the images that stay where those of the nodes from `at` on that no job needs are given back

abbrev pub stays : Conditions → Records → ℕ → Held → Bool
stays s r at h = is_needed (farm_of s) r h.node || nat_lt h.node.0 at

abbrev pub kept_below : Conditions → Records → ℕ → Records
kept_below s r at = record r { held = filter (stays s r at) r.held }

or_true : (b : Bool) → (b || true) ≡ true
or_true true = refl
or_true false = refl

or_false : (b : Bool) → (b || false) ≡ b
or_false true = refl
or_false false = refl

node_eq : (a : NodeNo) (n : ℕ) → a.0 ≡ n → a ≡ node_no n
node_eq a n e = ap node_no e

module _ (s : Conditions) (r : Records) where
  -- an image of a node below is there still
  there : (at : ℕ) (h : Held) → (h.node.0 == at) ≡ true → stays s r (at + 1) h ≡ true
  there at h e = ap (λ b. is_needed (farm_of s) r h.node || b) (lt-ltb h.node.0 (at + 1) (let same = eqb-true h.node.0 at e in omega arith)) ∙ or_true (is_needed (farm_of s) r h.node)

  pub same_image : (at : ℕ) → image_of (kept_below s r (at + 1)) (node_no at) ≡ image_of r (node_no at)
  same_image at = find_kept (λ (h : Held). h.node.0 == at) (stays s r (at + 1)) (there at) r.held

  pub same_retired : (at : ℕ) → is_retired (farm_of s) (kept_below s r (at + 1)) (node_no at) ≡ is_retired (farm_of s) r (node_no at)
  same_retired at = ap (λ (o : Option Held). is_some o && not (is_needed (farm_of s) r (node_no at))) (same_image at)

  -- a needed image stays
  needed_one : (at : ℕ) → is_needed (farm_of s) r (node_no at) ≡ true → (h : Held) → stays s r (at + 1) h ≡ stays s r at h
  needed_one at n h = by (h.node.0 == at) refl
    where
      by : (b : Bool) → (h.node.0 == at) ≡ b → stays s r (at + 1) h ≡ stays s r at h
      by true e =
          let is : is_needed (farm_of s) r h.node ≡ true = ap (is_needed (farm_of s) r) (node_eq h.node at (eqb-true h.node.0 at e)) ∙ n in
          ap (λ b. b || nat_lt h.node.0 (at + 1)) is ∙ sym (ap (λ b. b || nat_lt h.node.0 at) is)
      by false e = ap (λ b. is_needed (farm_of s) r h.node || b) (not_equal h.node.0 at (eqb-false h.node.0 at e))

  -- one that is not needed goes
  gone_one : (at : ℕ) → is_needed (farm_of s) r (node_no at) ≡ false → (h : Held) → (stays s r (at + 1) h && not (h.node.0 == at)) ≡ stays s r at h
  gone_one at n h = by (h.node.0 == at) refl
    where
      and_true : (b : Bool) → (b && true) ≡ b
      and_true true = refl
      and_true false = refl

      by : (b : Bool) → (h.node.0 == at) ≡ b → (stays s r (at + 1) h && not b) ≡ stays s r at h
      by true e =
          let same = eqb-true h.node.0 at e in
          let is : is_needed (farm_of s) r h.node ≡ false = ap (is_needed (farm_of s) r) (node_eq h.node at same) ∙ n in
          and_false (stays s r (at + 1) h) ∙ sym (ap₂ (λ a b. a || b) is (le-ltb h.node.0 at (omega (arith, same))))
      by false e = and_true (stays s r (at + 1) h) ∙ ap (λ b. is_needed (farm_of s) r h.node || b) (not_equal h.node.0 at (eqb-false h.node.0 at e))

  gone : (at : ℕ) → is_needed (farm_of s) r (node_no at) ≡ false → without_image (node_no at) (filter (stays s r (at + 1)) r.held) ≡ filter (stays s r at) r.held
  gone at n = filter_twice (λ (h : Held). not (h.node.0 == at)) (stays s r (at + 1)) (stays s r at) (gone_one at n) r.held

  held_next : (at : ℕ) (retired : Bool) → is_retired (farm_of s) (kept_below s r (at + 1)) (node_no at) ≡ retired
      → (if retired then without_image (node_no at) (filter (stays s r (at + 1)) r.held) else filter (stays s r (at + 1)) r.held) ≡ filter (stays s r at) r.held
  held_next at retired e = by (is_needed (farm_of s) r (node_no at)) refl (image_of (kept_below s r (at + 1)) (node_no at)) refl retired e
    where
      by : (n : Bool) → is_needed (farm_of s) r (node_no at) ≡ n → (o : Option Held) → image_of (kept_below s r (at + 1)) (node_no at) ≡ o
          → (retired : Bool) → is_retired (farm_of s) (kept_below s r (at + 1)) (node_no at) ≡ retired
          → (if retired then without_image (node_no at) (filter (stays s r (at + 1)) r.held) else filter (stays s r (at + 1)) r.held) ≡ filter (stays s r at) r.held
      by true n o i true e =
          absurd (false≢true (sym (and_false (is_some (image_of (kept_below s r (at + 1)) (node_no at)))) ∙ ap (λ b. is_some (image_of (kept_below s r (at + 1)) (node_no at)) && not b) (sym n) ∙ e))
      by true n o i false e = filter_agree (stays s r (at + 1)) (stays s r at) (needed_one at n) r.held
      by false n o i true e = gone at n
      by false n (Some h) i false e = absurd (false≢true (sym e ∙ ap₂ (λ o b. is_some o && not b) i n))
      by false n None i false e = sym (without_none (λ (h : Held). h.node.0 == at) (filter (stays s r (at + 1)) r.held) i) ∙ gone at n

  pub kept_step : (at : ℕ) (retired : Bool) → is_retired (farm_of s) (kept_below s r (at + 1)) (node_no at) ≡ retired
      → (if retired then record (kept_below s r (at + 1)) { held = without_image (node_no at) (kept_below s r (at + 1)).held } else kept_below s r (at + 1)) ≡ kept_below s r at
  kept_step at true e = ap (λ (hs : List Held). record r { held = hs }) (held_next at true e)
  kept_step at false e = ap (λ (hs : List Held). record r { held = hs }) (held_next at false e)

  pub kept_none : kept_below s r 0 ≡ without_unneeded (farm_of s) r
  kept_none =
      ap (λ (hs : List Held). record r { held = hs })
      (filter_agree (stays s r 0) (λ h. is_needed (farm_of s) r h.node) (λ h. ap (λ b. is_needed (farm_of s) r h.node || b) (none_below h.node.0) ∙ or_false (is_needed (farm_of s) r h.node)) r.held)

  all_stay : (at : ℕ) (hs : List Held) → All (λ (h : Held). h.node.0 < at) hs → filter (stays s r at) hs ≡ hs
  all_stay at [] all = refl
  all_stay at (h ∷ hs) all =
      ap (λ b. if b then h ∷ filter (stays s r at) hs else filter (stays s r at) hs)
      (ap (λ b. is_needed (farm_of s) r h.node || b) (lt-ltb h.node.0 at (All-head (λ (h : Held). h.node.0 < at) h hs all)) ∙ or_true (is_needed (farm_of s) r h.node))
      ∙ ap (λ ys. h ∷ ys) (all_stay at hs (All-tail (λ (h : Held). h.node.0 < at) h hs all))

  pub kept_all : (at : ℕ) → All (λ (h : Held). h.node.0 < at) r.held → kept_below s r at ≡ r
  kept_all at all = ap (λ (hs : List Held). record r { held = hs }) (all_stay at r.held all)

  -- ---- the entries

  abbrev pub retirings_below : ℕ → List Entry
  retirings_below at = map (λ n. Retire (node_no n)) (filter (λ n. is_retired (farm_of s) r (node_no n)) (down_from at))

  pub retirings_step : (at : ℕ) (retired : Bool) → is_retired (farm_of s) (kept_below s r (at + 1)) (node_no at) ≡ retired
      → retirings_below (at + 1) ≡ (if retired then Retire (node_no at) ∷ [] else []) ++ retirings_below at
  retirings_step at retired e =
      ap retirings_below (let same : at + 1 ≡ suc at = omega arith in same)
      ∙ ap (λ b. map (λ n. Retire (node_no n)) (if b then at ∷ filter (λ n. is_retired (farm_of s) r (node_no n)) (down_from at) else filter (λ n. is_retired (farm_of s) r (node_no n)) (down_from at)))
      (sym (same_retired at) ∙ e) ∙ parts retired
    where
      parts : (b : Bool) → map (λ n. Retire (node_no n)) (if b then at ∷ filter (λ n. is_retired (farm_of s) r (node_no n)) (down_from at) else filter (λ n. is_retired (farm_of s) r (node_no n)) (down_from at))
          ≡ (if b then Retire (node_no at) ∷ [] else []) ++ retirings_below at
      parts true = refl
      parts false = refl
