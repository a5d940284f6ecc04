-- Pages over those of a base.
use Rattle.std.proofs.Common.{◌≡◌, ℕ, zero, suc, ◌+◌, Bool, true, false, not, nat_eq, cond, ◌==◌, List, [], ◌∷◌, ◌++◌, length, take, get_or, slice_index, slice_set, filter, append_assoc, eq-eqb, ne_eqb, refl, sym, ap, subst, ◌∙◌, arith, ◌<◌, ◌≤◌, ⊎_elim}
use Rattle.std.proofs.lemmas.Bool.{cases_eq, cases_lt, false≢true, eqb-true, and_parts, and_from}
use Rattle.std.proofs.lemmas.Bool.Decides.{Decides-eqb}
use Rattle.std.proofs.lemmas.Slice.Eq.{slice_eq-Decides}
use Rattle.std.specs.Cmp.Lexicographic.{pointwise}
use Rattle.vf_pages.proofs.Shuffles.{occurs-next, occurs-take}
use Rattle.std.specs.Prelude.{Option, Some, None}
use Rattle.std.proofs.lemmas.List.{append-nil, ext_get_or, get_or-set_same, get_or-set_other}
use Rattle.vf_frames.specs.Numbers.{has, rises, Loses}
use Rattle.vf_pages.specs.declared.held.Held.{Held}
use Rattle.vf_pages.specs.Pages.{Page, occurs, frames_in, pages_in, entry, or_entry, IsHeld}
use Rattle.vf_pages.specs.Puts.{puts}
use Rattle.vf_pages.proofs.Puts.{puts-entry-none, puts-entry-some}
use Rattle.vf_pages.specs.Views.{page_of, pages_of}
use Rattle.vf_pages.specs.Bases.{same_below, is_in_base, changed_from, left_of, is_marked}
use Rattle.vf_pages.proofs.Entries.{rises-parts, rises-from, rises-less, entry-here, entry-other, entry-below}
use Rattle.vf_pages.proofs.Frames.{lose-one, has-from}

-- filtering in memory is filtering what contracts see
map_by : (test : Bool) (h : Held) (hs : List Held) (es : List Page) → pages_of hs ≡ es → pages_of (cond test (h ∷ hs) hs) ≡ cond test (page_of h ∷ es) es
map_by true h hs es e = ap (λ ps. page_of h ∷ ps) e
map_by false h hs es e = e

pub changed-map : (base : List Page) (hs : List Held) → pages_of (filter (λ h. not (is_in_base base (page_of h))) hs) ≡ changed_from base (pages_of hs)
changed-map base [] = refl
changed-map base (h ∷ hs) = map_by (not (is_in_base base (page_of h))) h _ _ (changed-map base hs)

-- how often a frame stands in the pages that are kept and in those that are not looked at yet
abbrev pub counted : ℕ → List Page → List Page → List Page → ℕ
counted f base seen rest = occurs f (frames_in (changed_from base seen)) + occurs f (frames_in rest)

-- one page more, kept or not
changed-snoc : (base seen : List Page) (e : Page) (in_base : Bool) → is_in_base base e ≡ in_base → (f : ℕ)
    → occurs f (frames_in (changed_from base (seen ++ e ∷ []))) ≡ occurs f (frames_in (changed_from base seen)) + cond in_base 0 (cond (f == e.frame) 1 0)
changed-snoc base [] e true is f = ap (λ b. occurs f (frames_in (cond (not b) (e ∷ []) []))) is
changed-snoc base [] e false is f = ap (λ b. occurs f (frames_in (cond (not b) (e ∷ []) []))) is ∙ (let one : cond (f == e.frame) 1 0 + 0 ≡ 0 + cond {A = ℕ} (f == e.frame) 1 0 = omega arith in one)
changed-snoc base (x ∷ xs) e in_base is f = by (is_in_base base x) (changed-snoc base xs e in_base is f)
  where
    by : (b : Bool) → occurs f (frames_in (changed_from base (xs ++ e ∷ []))) ≡ occurs f (frames_in (changed_from base xs)) + cond in_base 0 (cond (f == e.frame) 1 0)
        → occurs f (frames_in (cond (not b) (x ∷ changed_from base (xs ++ e ∷ [])) (changed_from base (xs ++ e ∷ []))))
        ≡ occurs f (frames_in (cond (not b) (x ∷ changed_from base xs) (changed_from base xs))) + cond in_base 0 (cond (f == e.frame) 1 0)
    by true h = h
    by false h = omega (arith, h)

pub record Released_so_far (base whole rest : List Page) (frames : List ℕ) : Type 0 where
  pub seen : List Page
  pub parts : whole ≡ seen ++ rest
  pub counts : (f : ℕ) → counted f base seen rest ≡ cond (has f frames) 1 0

-- a page is passed over, and stays
pub step-kept : (base whole rest : List Page) (e : Page) (frames : List ℕ) → Released_so_far base whole (e ∷ rest) frames → is_in_base base e ≡ false → Released_so_far base whole rest frames
step-kept base whole rest e frames r is = record {
  seen = r.seen ++ e ∷ [];
  parts = r.parts ∙ sym (append_assoc r.seen (e ∷ []) rest);
  counts = λ f. (let more = changed-snoc base r.seen e false is f in let before = r.counts f in
      let both : counted f base (r.seen ++ e ∷ []) rest ≡ counted f base r.seen (e ∷ rest) = omega (arith, more) in both) ∙ r.counts f;
}

-- or its frame was released
pub step-gone : (base whole rest : List Page) (e : Page) (frames left : List ℕ) → Released_so_far base whole (e ∷ rest) frames → is_in_base base e ≡ true
    → Loses e.frame frames left → Released_so_far base whole rest left
step-gone base whole rest e frames left r is loses = record {
  seen = r.seen ++ e ∷ [];
  parts = r.parts ∙ sym (append_assoc r.seen (e ∷ []) rest);
  counts = λ f. (let more = changed-snoc base r.seen e true is f in let before = r.counts f in let lost = lose-one e.frame frames left loses f in
      omega (arith, more, before, lost));
}

-- the frame of the page that is looked at is there
pub there-still : (base whole rest : List Page) (e : Page) (frames : List ℕ) → Released_so_far base whole (e ∷ rest) frames → has e.frame frames ≡ true
there-still base whole rest e frames r =
    let hit = ap (λ b. cond {A = ℕ} b 1 0) (eq-eqb e.frame e.frame refl) in
    has-from e.frame _ (omega (arith, r.counts e.frame, hit))

pub all-looked-at : (base whole : List Page) (frames : List ℕ) → Released_so_far base whole [] frames → IsHeld (changed_from base whole) frames
all-looked-at base whole frames r f =
    let same : whole ≡ r.seen = r.parts ∙ append-nil r.seen in
    let none = r.counts f in
    ap (λ es. occurs f (frames_in (changed_from base es))) same ∙ (let e : occurs f (frames_in (changed_from base r.seen)) ≡ cond (has f frames) 1 0 = omega (arith, none) in e)

pub none-looked-at : (base whole : List Page) (frames : List ℕ) → IsHeld whole frames → Released_so_far base whole whole frames
none-looked-at base whole frames held = record { seen = []; parts = refl; counts = λ f. let h = held f in omega (arith, h) }

-- a frame that stands in one page more is the page's own, or stood there before
pub more-frames : (P : ℕ → Type 0) (f i : ℕ) (hs : List Held) (h : Held) → i < length hs → h ≡ get_or hs i h → (1 ≤ occurs f (frames_in (pages_of (take i hs))) → P f) → P h.frame.0
    → 1 ≤ occurs f (frames_in (pages_of (take (i + 1) hs))) → P f
more-frames P f i hs h within is before here some =
    let next = occurs-next f i hs h within is in
    ⊎_elim (λ same. subst P (sym same) here)
    (λ differ. let off = ap (λ b. cond {A = ℕ} b 1 0) (ne_eqb f h.frame.0 differ) in before (omega (arith, some, next, off)))
    (cases_eq f h.frame.0)

pub item-occurs : (i : ℕ) (hs : List Held) (h : Held) → i < length hs → h ≡ get_or hs i h → 1 ≤ occurs h.frame.0 (frames_in (pages_of hs))
item-occurs i hs h within is =
    let hit = ap (λ b. cond {A = ℕ} b 1 0) (eq-eqb h.frame.0 h.frame.0 refl) in
    omega (arith, occurs-take h.frame.0 (i + 1) hs, occurs-next h.frame.0 i hs h within is, hit)

pub mark-here : (marks : List Bool) (at : ℕ) → at < length marks → is_marked (slice_set marks at true) at ≡ true
mark-here marks at within = get_or-set_same marks at true false within

pub mark-set : (marks : List Bool) (at f : ℕ) → at < length marks → is_marked marks f ≡ true → is_marked (slice_set marks at true) f ≡ true
mark-set marks at f within marked =
    ⊎_elim (λ same. subst (λ n. is_marked (slice_set marks at true) n ≡ true) (sym same) (mark-here marks at within))
    (λ differ. get_or-set_other marks at f true false differ ∙ marked)
    (cases_eq f at)

-- a marked frame stands in no page of those whose frames are not marked
pub none-shared : (f : ℕ) (base : List Page) (marks : List Bool) → is_marked marks f ≡ true → (1 ≤ occurs f (frames_in base) → is_marked marks f ≡ false) → occurs f (frames_in base) ≡ 0
none-shared f base marks on off =
    ⊎_elim (λ lt. omega (arith, lt)) (λ ge. absurd (false≢true (sym (off ge) ∙ on))) (cases_lt (occurs f (frames_in base)) 1)

-- pages that are left still rise
rises_by : (keep : Bool) (x : Page) (es : List Page) (low limit : ℕ) → low ≤ x.page → x.page < limit → rises (x.page + 1) limit (pages_in es) ≡ true
    → rises low limit (pages_in (cond keep (x ∷ es) es)) ≡ true
rises_by true x es low limit first last later = rises-from low limit x.page (pages_in es) first last later
rises_by false x es low limit first last later = rises-less low (x.page + 1) limit (pages_in es) (omega (arith, first)) later

pub changed-rises : (base es : List Page) (low limit : ℕ) → rises low limit (pages_in es) ≡ true → rises low limit (pages_in (changed_from base es)) ≡ true
changed-rises base [] low limit r = refl
changed-rises base (x ∷ xs) low limit r =
    let parts = rises-parts low limit x.page (pages_in xs) r in
    rises_by (not (is_in_base base x)) x (changed_from base xs) low limit parts.0 parts.1 (changed-rises base xs (x.page + 1) limit parts.2)

-- what is left under a number
left_by : (base : List Page) (x : Page) (in_base : Bool) (es : List Page) (q : ℕ) → is_in_base base x ≡ in_base → entry q es ≡ None → q ≡ x.page
    → entry q (cond (not in_base) (x ∷ es) es) ≡ left_of base (Some x)
left_by base x true es q is none same = none ∙ sym (ap (λ b. cond b None (Some x)) is)
left_by base x false es q is none same = entry-here q x es same ∙ sym (ap (λ b. cond b None (Some x)) is)

other_by : (x : Page) (keep : Bool) (es : List Page) (q : ℕ) → (q ≡ x.page → ⊥) → entry q (cond keep (x ∷ es) es) ≡ entry q es
other_by x true es q differ = entry-other q x es differ
other_by x false es q differ = refl

pub entry-changed : (base es : List Page) (low limit q : ℕ) → rises low limit (pages_in es) ≡ true → entry q (changed_from base es) ≡ left_of base (entry q es)
entry-changed base [] low limit q r = refl
entry-changed base (x ∷ xs) low limit q r =
    let parts = rises-parts low limit x.page (pages_in xs) r in
    ⊎_elim
    (λ same. left_by base x (is_in_base base x) (changed_from base xs) q refl (entry-below q (x.page + 1) limit (changed_from base xs) (changed-rises base xs (x.page + 1) limit parts.2) (omega (arith, same))) same
    ∙ ap (left_of base) (sym (entry-here q x xs same)))
    (λ differ. other_by x (not (is_in_base base x)) (changed_from base xs) q differ ∙ entry-changed base xs (x.page + 1) limit q parts.2 ∙ ap (left_of base) (sym (entry-other q x xs differ)))
    (cases_eq q x.page)

-- pages put over others, under a number
puts_by : (own base : List Page) (q : ℕ) (o : Option Page) → entry q own ≡ o → entry q (puts own base) ≡ or_entry o (entry q base)
puts_by own base q None is = puts-entry-none own base q is
puts_by own base q (Some e) is = puts-entry-some own base q e is

pub entry-puts : (own base : List Page) (q : ℕ) → entry q (puts own base) ≡ or_entry (entry q own) (entry q base)
entry-puts own base q = puts_by own base q (entry q own) refl

-- ---- pages with the same words

pub same_at : (xs ys : List ℕ) (n i : ℕ) → same_below xs ys n ≡ true → i < n → slice_index xs i ≡ slice_index ys i
unfolding same_below
same_at xs ys zero i h below = absurd (omega arith)
same_at xs ys (suc n) i h below =
    let parts = and_parts (same_below xs ys n) (slice_index xs n == slice_index ys n) h in
    ⊎_elim
    (λ lt. same_at xs ys n i parts.0 lt)
    (λ ge.
    let last : i ≡ n = omega (arith, ge, below) in
    ap (slice_index xs) last ∙ eqb-true (slice_index xs n) (slice_index ys n) parts.1 ∙ sym (ap (slice_index ys) last))
    (cases_lt i n)

pub same_from : (xs ys : List ℕ) (n : ℕ) → ((i : ℕ) → i < n → slice_index xs i ≡ slice_index ys i) → same_below xs ys n ≡ true
unfolding same_below
same_from xs ys zero each = refl
same_from xs ys (suc n) each =
    and_from (same_below xs ys n) (slice_index xs n == slice_index ys n) (same_from xs ys n (λ i below. each i (omega (arith, below))))
    (eq-eqb (slice_index xs n) (slice_index ys n) (each n (omega arith)))

same_truth : (a b : Bool) → (a ≡ true → b ≡ true) → (b ≡ true → a ≡ true) → a ≡ b
same_truth true b there back = sym (there refl)
same_truth false true there back = back refl
same_truth false false there back = refl

-- whole pages are the same where they are at each index
pub same_pages : (xs ys : List ℕ) → length xs ≡ 64 → length ys ≡ 64 → pointwise nat_eq xs ys ≡ same_below xs ys 64
same_pages xs ys long other =
    let decides = slice_eq-Decides Decides-eqb xs ys (pointwise nat_eq xs ys) refl in
    same_truth (pointwise nat_eq xs ys) (same_below xs ys 64)
    (λ on. same_from xs ys 64 (λ i below. ap (λ zs. slice_index zs i) (decides.0 on)))
    (λ on. decides.1 (ext_get_or 0 xs ys (long ∙ sym other) (λ i below. same_at xs ys 64 i on (omega (arith, below, long)))))
