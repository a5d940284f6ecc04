-- How the counts of frames change with the holders.
use Rattle.std.proofs.Common.{◌≡◌, ◌≢◌, ℕ, ◌+◌, ◌-◌, ◌^◌, ◌<◌, ◌≤◌, Bool, true, false, cond, not, ◌&&◌, ◌||◌, ◌==◌, List, [], ◌∷◌, length, slice_index, slice_set, refl, ap, ◌∙◌, arith, ne_eqb, eq-eqb, ⊎_elim}
use Rattle.std.proofs.lemmas.Bool.{cases_eq, cond_both, or_left, and_left, not_from_true}
use Rattle.std.proofs.lemmas.List.{get_or-set_other, get_or-set_same, length-set}
use Rattle.vf_frames.specs.declared.holder.Holder.{Holder}
use Rattle.vf_frames.specs.Numbers.{has, Gains, Loses}
use Rattle.vf_frames.specs.Holders.{total, count, one_if_has, parts_of, EachHasPart, Counts}

one_if-le : (f : ℕ) (h : Holder) → one_if_has f h ≤ 1
one_if-le f h = cond_both (has f h.frames) 1 0 (λ n. n ≤ 1) (λ _. omega arith) (λ _. omega arith)

-- a frame has no more holders than there are parts
pub count-le-parts : (f : ℕ) (hs : List Holder) → EachHasPart hs → count f hs ≤ total parts_of hs
count-le-parts f [] p = omega arith
count-le-parts f (h ∷ hs) p = omega (arith, one_if-le f h, p.0, count-le-parts f hs p.1)

pub one_if-has : (f : ℕ) (h : Holder) → has f h.frames ≡ true → one_if_has f h ≡ 1
one_if-has f h e = rw e refl

pub one_if-lacks : (f : ℕ) (h : Holder) → has f h.frames ≡ false → one_if_has f h ≡ 0
one_if-lacks f h e = rw e refl

-- the number of a frame that one of two holders has
pub number-held : (ns : List ℕ) (f : ℕ) (hs : List Holder) → Counts ns hs → f < length ns → 1 ≤ count f hs → (0 < slice_index ns f) × (slice_index ns f < 2 ^ 64 - 1)
number-held ns f hs c h one = (omega (arith, c.each f h), omega (arith, c.each f h, c.parts, count-le-parts f hs c.some_part))

-- one holder and the numbers change alike
pub counts-step : (ns ns' : List ℕ) (h h' : Holder) (others : List Holder) → Counts ns (h ∷ others) → length ns' ≡ length ns → ((g : ℕ) → g < length ns → slice_index ns' g + one_if_has g h ≡ slice_index ns g + one_if_has g h') → h'.parts ≡ h.parts → Counts ns' (h' ∷ others)
counts-step ns ns' h h' others c len step parts = record {
  each = λ g below. omega (arith, c.each g (omega arith), step g (omega arith));
  parts = omega (arith, c.parts, parts);
  some_part = (omega (arith, c.some_part.0), c.some_part.1);
}

-- the first two holders in the other order
pub counts-swap : (ns : List ℕ) (a b : Holder) (others : List Holder) → Counts ns (a ∷ b ∷ others) → Counts ns (b ∷ a ∷ others)
counts-swap ns a b others c = record {
  each = λ g below. omega (arith, c.each g below);
  parts = omega (arith, c.parts);
  some_part = (c.some_part.1.0, (c.some_part.0, c.some_part.1.1));
}

other_frame : (g f : ℕ) (b : Bool) → g ≢ f → ((g == f) || b) ≡ b
other_frame g f b ne = rw (ne_eqb g f ne) refl

kept_frame : (g f : ℕ) (b : Bool) → g ≢ f → (not (g == f) && b) ≡ b
kept_frame g f b ne = rw (ne_eqb g f ne) refl

gain-step : (ns : List ℕ) (f : ℕ) (h h' : Holder) → f < length ns → Gains f h.frames h'.frames → (g : ℕ) → slice_index (slice_set ns f (slice_index ns f + 1)) g + one_if_has g h ≡ slice_index ns g + one_if_has g h'
gain-step ns f h h' within gains g =
    let now = gains.each g in
    ⊎_elim
    (λ e. let at : slice_index (slice_set ns f (slice_index ns f + 1)) g ≡ slice_index ns f + 1 = ap (slice_index (slice_set ns f (slice_index ns f + 1))) e ∙ get_or-set_same ns f (slice_index ns f + 1) 0 within in
    let same = ap (slice_index ns) e in
    let before = one_if-lacks g h (ap (λ n. has n h.frames) e ∙ gains.absent) in
    let after = one_if-has g h' (now ∙ or_left (g == f) (has g h.frames) (eq-eqb g f e)) in
    omega (arith, at, same, before, after))
    (λ ne. let at = get_or-set_other ns f g (slice_index ns f + 1) 0 ne in
    let same = ap {B = ℕ} (λ b. cond b 1 0) (now ∙ other_frame g f (has g h.frames) ne) in
    omega (arith, at, same))
    (cases_eq g f)

lose-step : (ns : List ℕ) (f : ℕ) (h h' : Holder) → f < length ns → 0 < slice_index ns f → Loses f h.frames h'.frames → (g : ℕ) → slice_index (slice_set ns f (slice_index ns f - 1)) g + one_if_has g h ≡ slice_index ns g + one_if_has g h'
lose-step ns f h h' within above loses g =
    let now = loses.each g in
    ⊎_elim
    (λ e. let at : slice_index (slice_set ns f (slice_index ns f - 1)) g ≡ slice_index ns f - 1 = ap (slice_index (slice_set ns f (slice_index ns f - 1))) e ∙ get_or-set_same ns f (slice_index ns f - 1) 0 within in
    let same = ap (slice_index ns) e in
    let before = one_if-has g h (ap (λ n. has n h.frames) e ∙ loses.present) in
    let after = one_if-lacks g h' (now ∙ and_left (not (g == f)) (has g h.frames) (not_from_true (g == f) (eq-eqb g f e))) in
    omega (arith, at, same, before, after))
    (λ ne. let at = get_or-set_other ns f g (slice_index ns f - 1) 0 ne in
    let same = ap {B = ℕ} (λ b. cond b 1 0) (now ∙ kept_frame g f (has g h.frames) ne) in
    omega (arith, at, same))
    (cases_eq g f)

pub counts-gain : (ns : List ℕ) (f : ℕ) (h h' : Holder) (others : List Holder) → Counts ns (h ∷ others) → f < length ns → Gains f h.frames h'.frames → h'.parts ≡ h.parts → Counts (slice_set ns f (slice_index ns f + 1)) (h' ∷ others)
counts-gain ns f h h' others c within gains parts =
    counts-step ns _ h h' others c (length-set ns f (slice_index ns f + 1)) (λ g _. gain-step ns f h h' within gains g) parts

pub counts-lose : (ns : List ℕ) (f : ℕ) (h h' : Holder) (others : List Holder) → Counts ns (h ∷ others) → f < length ns → 0 < slice_index ns f → Loses f h.frames h'.frames → h'.parts ≡ h.parts → Counts (slice_set ns f (slice_index ns f - 1)) (h' ∷ others)
counts-lose ns f h h' others c within above loses parts =
    counts-step ns _ h h' others c (length-set ns f (slice_index ns f - 1)) (λ g _. lose-step ns f h h' within above loses g) parts
