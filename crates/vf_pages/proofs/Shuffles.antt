-- Holders in another order, and the frames of some of the pages.
use Rattle.std.proofs.Common.{◌≡◌, ℕ, ◌+◌, ◌<◌, ◌≤◌, Bool, true, false, cond, ◌==◌, List, [], ◌∷◌, ◌++◌, length, get_or, take, drop, refl, sym, ap, ◌∙◌, arith, eq-eqb}
use Rattle.std.specs.Prelude.{Option}
use Rattle.std.proofs.lemmas.Bool.{false_from_ne_true}
use Rattle.std.proofs.lemmas.List.{take_more, take-append-drop, map-append}
use Rattle.vf_frames.specs.declared.holder.Holder.{Holder}
use Rattle.vf_frames.specs.Numbers.{has}
use Rattle.vf_frames.specs.Holders.{Keeps}
use Rattle.vf_frames.proofs.CallerLemmas.{accounts-swap, accounts-behind, accounts-turn, accounts-outer, accounts-last}
use Rattle.vf_pages.specs.declared.held.Held.{Held}
use Rattle.vf_pages.specs.Pages.{frame_number, frames_in, occurs, Covers, IsApart, Takes}
use Rattle.vf_pages.specs.Views.{page_of, pages_of}
use Rattle.vf_pages.proofs.Frames.{has-from, occurs-append, occurs-last}

-- one holder comes to have what a base and what an own holder has
pub keeps-over : (a b c d : Option (List ℕ)) (own base none some more last : Holder) → Keeps a (base ∷ none ∷ []) b (base ∷ some ∷ []) → Keeps b (own ∷ some ∷ []) c (own ∷ more ∷ [])
    → Keeps c (more ∷ []) d (last ∷ []) → Keeps a (own ∷ base ∷ none ∷ []) d (own ∷ base ∷ last ∷ [])
keeps-over a b c d own base none some more last p q r = λ others k.
    let one = p (own ∷ others) (accounts-behind a base own none others (accounts-swap a own base (none ∷ others) k)) in
    let two = q (base ∷ others) (accounts-turn b base some own others one) in
    let three = r (own ∷ base ∷ others) (accounts-swap c own more (base ∷ others) two) in
    accounts-behind d own last base others (accounts-swap d last own (base ∷ others) three)

-- and is opened before
pub keeps-fork-over : (a b c : Option (List ℕ)) (own base from from' none last : Holder) → Keeps a (from ∷ []) b (from' ∷ none ∷ []) → Keeps b (own ∷ base ∷ none ∷ []) c (own ∷ base ∷ last ∷ [])
    → Keeps a (own ∷ base ∷ from ∷ []) c (own ∷ base ∷ from' ∷ last ∷ [])
keeps-fork-over a b c own base from from' none last opened held = λ others k.
    let one = opened (base ∷ own ∷ others) (accounts-turn a own base from others k) in
    let two = accounts-behind b own none base (from' ∷ others) (accounts-outer b from' none base own others one) in
    accounts-last c own base last from' others (held (from' ∷ others) two)

-- a fork: open from one holder, then let the new one have what another has
pub keeps-fork : (a b c : Option (List ℕ)) (of from from' new new' : Holder) → Keeps a (from ∷ []) b (from' ∷ new ∷ []) → Keeps b (of ∷ new ∷ []) c (of ∷ new' ∷ []) → Keeps a (of ∷ from ∷ []) c (of ∷ from' ∷ new' ∷ [])
keeps-fork a b c of from from' new new' opened held = λ others k.
    accounts-behind c of new' from' others
    (held (from' ∷ others) (accounts-turn b from' new of others (opened (of ∷ others) (accounts-swap a of from others k))))

-- release, then join
pub keeps-back : (a b c : Option (List ℕ)) (of left into into' : Holder) → Keeps a (of ∷ []) b (left ∷ []) → Keeps b (into ∷ left ∷ []) c (into' ∷ []) → Keeps a (of ∷ into ∷ []) c (into' ∷ [])
keeps-back a b c of left into into' released joined = λ others k.
    joined others (accounts-swap b left into others (released (into ∷ others) k))

pub keeps-beside : (a b c : Option (List ℕ)) (x h i j : Holder) → Keeps a (x ∷ h ∷ []) b (x ∷ i ∷ []) → Keeps b (x ∷ i ∷ []) c (x ∷ j ∷ []) → Keeps a (x ∷ h ∷ []) c (x ∷ j ∷ [])
keeps-beside a b c x h i j p q = λ others k. q others (p others k)

-- the frames of the first pages, one more
pub occurs-next : (f i : ℕ) (hs : List Held) (h : Held) → i < length hs → h ≡ get_or hs i h → occurs f (frames_in (pages_of (take (i + 1) hs))) ≡ occurs f (frames_in (pages_of (take i hs))) + cond (f == h.frame.0) 1 0
occurs-next f i hs h within is =
    occurs-last f (take i hs) (take (i + 1) hs) h (take_more hs i h within ∙ ap (λ (x : Held). take i hs ++ x ∷ []) (sym is))

pub occurs-take : (f n : ℕ) (hs : List Held) → occurs f (frames_in (pages_of (take n hs))) ≤ occurs f (frames_in (pages_of hs))
occurs-take f n hs =
    let split = ap (λ xs. occurs f (frames_in (pages_of xs))) (take-append-drop n hs) in
    let parts = ap (λ es. occurs f (frames_in es)) (map-append page_of (take n hs) (drop n hs)) ∙ ap (occurs f) (map-append frame_number (pages_of (take n hs)) (pages_of (drop n hs))) in
    omega (arith, split, parts, occurs-append f (frames_in (pages_of (take n hs))) (frames_in (pages_of (drop n hs))))

own-frame : (f : ℕ) → cond {A = ℕ} (f == f) 1 0 ≡ 1
own-frame f = rw (eq-eqb f f refl) refl

-- the next page's frame is in the list of the one who has all, and not yet in that of the one who has those before
pub next-there : (i : ℕ) (hs : List Held) (h : Held) (frames : List ℕ) → i < length hs → h ≡ get_or hs i h → Covers (pages_of hs) frames → has h.frame.0 frames ≡ true
next-there i hs h frames within is covers =
    let f = h.frame.0 in
    has-from f (has f frames) (omega (arith, covers f, occurs-take f (i + 1) hs, occurs-next f i hs h within is, own-frame f))

pub next-absent : (i : ℕ) (hs : List Held) (h : Held) (all old some : List ℕ) → i < length hs → h ≡ get_or hs i h → Covers (pages_of hs) all → IsApart (pages_of hs) old
    → Takes (pages_of (take i hs)) old some → has h.frame.0 some ≡ false
next-absent i hs h all old some within is covers apart takes =
    let f = h.frame.0 in
    false_from_ne_true (has f some) (λ t.
    let one = ap (λ b. cond {A = ℕ} b 1 0) t in
    let most = at-most (has f all) in
    let here : 1 ≤ occurs f (frames_in (pages_of hs)) = omega (arith, occurs-take f (i + 1) hs, occurs-next f i hs h within is, own-frame f) in
    let none = ap (λ b. cond {A = ℕ} b 1 0) (apart f here) in
    absurd (omega (arith, covers f, most, occurs-take f (i + 1) hs, occurs-next f i hs h within is, own-frame f, takes f, none, one)))
  where
    at-most : (b : Bool) → cond {A = ℕ} b 1 0 ≤ 1
    at-most true = omega arith
    at-most false = omega arith
