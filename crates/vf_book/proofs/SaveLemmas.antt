-- An image that is kept in a book.
use Rattle.std.proofs.Common.{◌≡◌, ◌≢◌, ℕ, ◌<◌, ◌==◌, Bool, true, false, if◌then◌else◌, List, [], ◌∷◌, ◌++◌, length, drop, Option, Some, None, is_some, refl, sym, ap, ◌∙◌, subst, inl, inr, ◌⊎◌}
use Rattle.std.specs.List.{find}
use Rattle.std.specs.Prelude.{slice_set}
use Rattle.std.proofs.lemmas.Bool.{cases_eq, eq-eqb, false≢true}
use Rattle.std.proofs.lemmas.List.{get_or-set_same, get_or-set_other, length-set}
use Rattle.vf_base.specs.declared.names.Job.TheVariants.{Reach}
use Rattle.vf_base.specs.declared.names.NodeNo.{NodeNo}
use Rattle.vf_jobs.specs.Jobs.{node_no}
use Rattle.vf_jobs.specs.Setup.{Conditions}
use Rattle.vf_journal.specs.declared.entry.Entry.TheVariants.{Saved}
use Rattle.vf_journal.specs.Records.{Held, Attempt, Records, Stage, idle, running, deferred, over, image_of, is_over}
use Rattle.vf_journal.specs.Effects.{IsRunning, with_its_copies}
use Rattle.vf_journal.specs.Holding.{saved_image}
use Rattle.vf_journal.proofs.CallerLemmas.{image_last, found_held}
use Rattle.vf_records.specs.Account.{Account, IsAccount, farm_of, solo_of, records_in}
use Rattle.vf_image.specs.Images.{Checkpoint}
use Rattle.vf_book.specs.Book.{image_at, IsHeldAs, Fits, Covered, IsBook, Covers, Lags, Appends}
use Rattle.vf_book.proofs.CallLemmas.{made_of}
use Rattle.vf_book.proofs.ImageLemmas.{fits_some, lags_after}

-- what is found in a list is found in a longer one
found_more : {A : Type 0} (p : A → Bool) (xs ys : List A) → is_some (find p xs) ≡ true → is_some (find p (xs ++ ys)) ≡ true
found_more p [] ys some = absurd (false≢true some)
found_more p (x ∷ xs) ys some = by (λ s. found_more p xs ys s) (p x) some
  where
    by : (is_some (find p xs) ≡ true → is_some (find p (xs ++ ys)) ≡ true) → (b : Bool) → is_some (if b then Some x else find p xs) ≡ true → is_some (if b then Some x else find p (xs ++ ys)) ≡ true
    by rest true some = refl
    by rest false some = rest some

found_last : {A : Type 0} (p : A → Bool) (xs : List A) (x : A) → p x ≡ true → is_some (find p (xs ++ x ∷ [])) ≡ true
found_last p [] x is = ap (λ b. is_some (if b then Some x else None)) is
found_last p (y ∷ ys) x is = by (found_last p ys x is) (p y)
  where
    by : is_some (find p (ys ++ x ∷ [])) ≡ true → (b : Bool) → is_some (if b then Some y else find p (ys ++ x ∷ [])) ≡ true
    by rest true = refl
    by rest false = rest

-- a node whose job runs has no image
not_over : (s : Stage) (attempt : Attempt) → s ≡ running attempt → is_over s ≡ true → ⊥
not_over idle attempt e o = cc
not_over (running x) attempt e o = false≢true o
not_over deferred attempt e o = cc
not_over (over tells) attempt e o = cc

none_of : (a : Account) (node : NodeNo) (attempt : Attempt) → IsAccount a → IsRunning (records_in a) (Reach node) attempt → (found : Option Held) → image_of (records_in a) node ≡ found → found ≡ None
none_of a node attempt kept runs None e = refl
none_of a node attempt kept runs (Some h) e =
    let held = found_held (farm_of a.setup) (records_in a) node h kept.images e in
    absurd (not_over ((records_in a).stages (Reach node)) attempt runs (ap (λ (n : NodeNo). is_over ((records_in a).stages (Reach n))) (sym held.1) ∙ held.0.over))

pub unsaved : (a : Account) (node : NodeNo) (attempt : Attempt) → IsAccount a → IsRunning (records_in a) (Reach node) attempt → image_of (records_in a) node ≡ None
unsaved a node attempt kept runs = none_of a node attempt kept runs (image_of (records_in a) node) refl

fit_none_at : (c : Conditions) (o : Option Checkpoint) (h : Option Held) → h ≡ None → Fits c o h → o ≡ None
fit_none_at c None h e fits = refl
fit_none_at c (Some i) None e fits = absurd fits
fit_none_at c (Some i) (Some h) e fits = cc

module _ (a b : Account) (images : List (Option Checkpoint)) (book : IsBook (made_of a images)) where
  -- so its place is empty
  pub place_empty : (node : NodeNo) → image_of (records_in a) node ≡ None → image_at images node.0 ≡ None
  place_empty node none = fit_none_at a.setup (image_at images node.0) (image_of (records_in a) node) none (book.held node.0)

  module _ (node : NodeNo) (turn pages : ℕ) (base : Option NodeNo) (i : Checkpoint) (inside : node.0 < length images) (none : image_of (records_in a) node ≡ None) (made : Appends (Saved node turn pages base) a b)
      (is : IsHeldAs a.setup i record { node = node; turn = turn; pages = pages; base = base }) where
    here : image_at (slice_set images node.0 (Some i)) node.0 ≡ Some i
    here = get_or-set_same images node.0 (Some i) None inside

    covered_by : (n : ℕ) (h : Held) → (image_of (records_in a) (node_no n) ≡ Some h) ⊎ ((saved_image (Saved node turn pages base) ≡ Some h) × (h.node ≡ node_no n))
        → Covered a.setup (image_at (slice_set images node.0 (Some i)) n) (Some h)
    covered_by n h (inl found) = by (cases_eq n node.0)
      where
        by : (n ≡ node.0) ⊎ (n ≢ node.0) → Covered a.setup (image_at (slice_set images node.0 (Some i)) n) (Some h)
        by (inl e) = let gone = ap (λ m. image_of (records_in a) (node_no m)) (sym e) ∙ found in absurd cc
        by (inr e) = subst (λ o. Covered a.setup o (Some h)) (sym (get_or-set_other images node.0 n (Some i) None e)) (was (image_at images n) (subst (Fits a.setup (image_at images n)) found (book.held n)))
          where
            was : (o : Option Checkpoint) → Fits a.setup o (Some h) → Covered a.setup o (Some h)
            was None fits = fits
            was (Some j) fits = fits
    covered_by n h (inr saved) =
        let image : Held = record { node = node; turn = turn; pages = pages; base = base } in
        let same : image ≡ h = let s : Some image ≡ Some h = saved.0 in cc in
        let at : node.0 ≡ n = ap (λ (x : Held). x.node.0) same ∙ ap (λ (m : NodeNo). m.0) saved.1 in
        subst (λ m. Covered a.setup (image_at (slice_set images node.0 (Some i)) m) (Some h)) at
        (subst (λ o. Covered a.setup o (Some h)) (sym here) (subst (IsHeldAs a.setup i) same is))

    covered_last : (n : ℕ) (found : Option Held) → image_of (records_in b) (node_no n) ≡ found → Covered a.setup (image_at (slice_set images node.0 (Some i)) n) found
    covered_last n None e = nothing (image_at (slice_set images node.0 (Some i)) n)
      where
        nothing : (o : Option Checkpoint) → Covered a.setup o None
        nothing None = tt
        nothing (Some j) = tt
    covered_last n (Some h) e =
        covered_by n h (image_last (farm_of a.setup) (solo_of a.setup) (records_in a) (Saved node turn pages base) (node_no n) h (ap (λ (r : Records). image_of r (node_no n)) (sym made.records) ∙ e))

    -- the images cover what is held when the image is kept
    pub covers_saved : Covers b (slice_set images node.0 (Some i))
    covers_saved = record {
      long = length-set images node.0 (Some i) ∙ book.long ∙ ap (λ (x : Account). length x.setup.plan) (sym made.account);
      held = λ n.
          subst (λ (x : Account). Covered x.setup (image_at (slice_set images node.0 (Some i)) n) (image_of (records_in b) (node_no n))) (sym made.account)
          (covered_last n (image_of (records_in b) (node_no n)) refl);
    }

    abbrev saved : Records
    saved = with_its_copies (farm_of a.setup) (solo_of a.setup) (records_in a) (Saved node turn pages base)

    shown : (n : ℕ) → (n ≡ node.0) ⊎ (n ≢ node.0) → is_some (image_at (slice_set images node.0 (Some i)) n) ≡ true → is_some (image_of saved (node_no n)) ≡ true
    shown n (inl same) some = found_last (λ (h : Held). h.node.0 == n) (records_in a).held record { node = node; turn = turn; pages = pages; base = base } (eq-eqb node.0 n (sym same))
    shown n (inr other) some =
        found_more (λ (h : Held). h.node.0 == n) (records_in a).held (record { node = node; turn = turn; pages = pages; base = base } ∷ [])
        (fits_some a.setup (image_at images n) (image_of (records_in a) (node_no n)) (book.held n) (ap is_some (sym (get_or-set_other images node.0 n (Some i) None other)) ∙ some))

    -- and the images beyond are those that were retired with it
    pub lags_saved : Lags b (slice_set images node.0 (Some i)) (drop (length a.journal) b.journal)
    lags_saved = lags_after a b (slice_set images node.0 (Some i)) (Saved node turn pages base) refl made covers_saved (λ n some. shown n (cases_eq n node.0) some)
