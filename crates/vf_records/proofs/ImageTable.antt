-- The table of images by their nodes.
use Rattle.std.proofs.Common.{◌≡◌, ℕ, ◌<◌, Bool, true, false, ◌==◌, not, cond, if◌then◌else◌, List, [], ◌∷◌, ◌++◌, length, map, Option, Some, None, is_some, option_map, IfSome, refl, sym, ◌∙◌, ap, subst, arith, slice_set, get_or}
use Rattle.std.specs.List.{find, filter, All}
use Rattle.std.proofs.lemmas.Bool.{false≢true, eqb-true, eqb-false, eq-eqb, ne_eqb}
use Rattle.std.proofs.lemmas.List.{get_or-set_same, get_or-set_other}
use Rattle.std.proofs.lemmas.List.Elements.{All-head, All-tail}
use Rattle.vf_base.specs.declared.names.NodeNo.{NodeNo}
use Rattle.vf_journal.specs.Records.{Held}
use Rattle.vf_records.specs.declared.row.HeldImage.{HeldImage}
use Rattle.vf_records.specs.Tables.{held_of, AreImaged}
use Rattle.vf_records.proofs.RetireLemmas.{find_kept}

-- whether the image is of the node
abbrev pub is_of : ℕ → HeldImage → Bool
is_of n h = h.node.0 == n

pub find_mapped : {A B : Type 0} (f : A → B) (p : B → Bool) (xs : List A) → find p (map f xs) ≡ option_map f (find (λ x. p (f x)) xs)
find_mapped f p [] = refl
find_mapped f p (x ∷ xs) = by (p (f x)) (find_mapped f p xs)
  where
    by : (b : Bool) → find p (map f xs) ≡ option_map f (find (λ x. p (f x)) xs) → cond b (Some (f x)) (find p (map f xs)) ≡ option_map f (cond b (Some x) (find (λ x. p (f x)) xs))
    by true rest = refl
    by false rest = rest

-- the image that the table tells is the one that is held
pub shown_image : (held : List HeldImage) (images : List (Option HeldImage)) (node : NodeNo) (found : Option HeldImage) → AreImaged held images → found ≡ get_or images node.0 None
    → option_map held_of found ≡ find (λ (h : Held). h.node.0 == node.0) (map held_of held)
shown_image held images node found imaged e =
    ap (option_map held_of) (e ∙ imaged node.0) ∙ sym (find_mapped held_of (λ (h : Held). h.node.0 == node.0) held)

all_found : {A : Type 0} (P : A → Type 0) (p : A → Bool) (xs : List A) → All P xs → IfSome (find p xs) P
all_found P p [] all = tt
all_found P p (x ∷ xs) all = by (p x) (all_found P p xs (All-tail P x xs all))
  where
    by : (b : Bool) → IfSome (find p xs) P → IfSome (cond b (Some x) (find p xs)) P
    by true rest = All-head P x xs all
    by false rest = rest

pub shown_all : (P : HeldImage → Type 0) (held : List HeldImage) (images : List (Option HeldImage)) (n : ℕ) (found : Option HeldImage) → AreImaged held images → found ≡ get_or images n None
    → All P held → IfSome found P
shown_all P held images n found imaged e all = subst (λ o. IfSome o P) (sym (e ∙ imaged n)) (all_found P (is_of n) held all)

-- ---- one image more, and one less

find_more : (held : List HeldImage) (last : HeldImage) (n : ℕ) → find (is_of n) (held ++ last ∷ []) ≡ (if (last.node.0 == n) then (elim (find (is_of n) held) as (λ _. Option HeldImage) [ Some h ↦ Some h | None ↦ Some last ]) else find (is_of n) held)
find_more [] last n = refl
find_more (x ∷ xs) last n = by (x.node.0 == n) (last.node.0 == n) (find_more xs last n)
  where
    by : (b s : Bool) → find (is_of n) (xs ++ last ∷ []) ≡ (if s then (elim (find (is_of n) xs) as (λ _. Option HeldImage) [ Some h ↦ Some h | None ↦ Some last ]) else find (is_of n) xs)
        → cond b (Some x) (find (is_of n) (xs ++ last ∷ [])) ≡ (if s then (elim (cond b (Some x) (find (is_of n) xs)) as (λ _. Option HeldImage) [ Some h ↦ Some h | None ↦ Some last ]) else cond b (Some x) (find (is_of n) xs))
    by true true rest = refl
    by true false rest = refl
    by false true rest = rest
    by false false rest = rest

same_back : (a b : ℕ) → (a == b) ≡ false → (b == a) ≡ false
same_back a b h = ne_eqb b a (λ same. false≢true (sym h ∙ eq-eqb a b (sym same)))

pub imaged_more : (held : List HeldImage) (images : List (Option HeldImage)) (last : HeldImage) → AreImaged held images → last.node.0 < length images → find (is_of last.node.0) held ≡ None
    → AreImaged (held ++ last ∷ []) (slice_set images last.node.0 (Some last))
imaged_more held images last imaged inside free n = by (n == last.node.0) refl
  where
    by : (b : Bool) → (n == last.node.0) ≡ b → get_or (slice_set images last.node.0 (Some last)) n None ≡ find (is_of n) (held ++ last ∷ [])
    by true e =
        let same = eqb-true n last.node.0 e in
        ap (λ i. get_or (slice_set images last.node.0 (Some last)) i None) same ∙ get_or-set_same images last.node.0 (Some last) None inside
        ∙ sym (find_more held last n
        ∙ ap (λ b. if b then (elim (find (is_of n) held) as (λ _. Option HeldImage) [ Some h ↦ Some h | None ↦ Some last ]) else find (is_of n) held) (eq-eqb last.node.0 n (sym same))
        ∙ ap (λ o. elim o as (λ _. Option HeldImage) [ Some h ↦ Some h | None ↦ Some last ]) (ap (λ i. find (is_of i) held) same ∙ free))
    by false e =
        get_or-set_other images last.node.0 n (Some last) None (eqb-false n last.node.0 e) ∙ imaged n
        ∙ sym (find_more held last n
        ∙ ap (λ b. if b then (elim (find (is_of n) held) as (λ _. Option HeldImage) [ Some h ↦ Some h | None ↦ Some last ]) else find (is_of n) held) (same_back n last.node.0 e))

find_gone : {A : Type 0} (p : A → Bool) (xs : List A) → find p (filter (λ x. not (p x)) xs) ≡ None
find_gone p [] = refl
find_gone p (x ∷ xs) = by (p x) refl (find_gone p xs)
  where
    by : (b : Bool) → p x ≡ b → find p (filter (λ x. not (p x)) xs) ≡ None → find p (cond (not b) (x ∷ filter (λ x. not (p x)) xs) (filter (λ x. not (p x)) xs)) ≡ None
    by true e rest = rest
    by false e rest = ap (λ s. cond s (Some x) (find p (filter (λ x. not (p x)) xs))) e ∙ rest

pub imaged_less : (held : List HeldImage) (images : List (Option HeldImage)) (node : NodeNo) → AreImaged held images → node.0 < length images
    → AreImaged (filter (λ (h : HeldImage). not (h.node.0 == node.0)) held) (slice_set images node.0 None)
imaged_less held images node imaged inside n = by (n == node.0) refl
  where
    by : (b : Bool) → (n == node.0) ≡ b → get_or (slice_set images node.0 None) n None ≡ find (is_of n) (filter (λ (h : HeldImage). not (h.node.0 == node.0)) held)
    by true e =
        let same = eqb-true n node.0 e in
        ap (λ i. get_or (slice_set images node.0 None) i None) same ∙ get_or-set_same images node.0 None None inside
        ∙ sym (ap (λ i. find (is_of i) (filter (λ (h : HeldImage). not (h.node.0 == node.0)) held)) same ∙ find_gone (is_of node.0) held)
    by false e =
        get_or-set_other images node.0 n None None (eqb-false n node.0 e) ∙ imaged n
        ∙ sym (find_kept (is_of n) (λ (h : HeldImage). not (h.node.0 == node.0))
        (λ h is. ap not (ne_eqb h.node.0 node.0 (λ there. eqb-false n node.0 e (sym (eqb-true h.node.0 n is) ∙ there)))) held)

-- ---- which nodes have an image

-- what is not found of the shown images is not found of the rows
pub none_rows : (held : List HeldImage) (n : ℕ) → find (λ (h : Held). h.node.0 == n) (map held_of held) ≡ None → find (is_of n) held ≡ None
none_rows held n e = by (find (is_of n) held) (sym (find_mapped held_of (λ (h : Held). h.node.0 == n) held) ∙ e)
  where
    by : (o : Option HeldImage) → option_map held_of o ≡ None → o ≡ None
    by None k = refl
    by (Some h) k = cc

pub within_found : (held : List HeldImage) (most n : ℕ) → All (λ (h : HeldImage). h.node.0 < most) held → is_some (find (λ (h : Held). h.node.0 == n) (map held_of held)) ≡ true → n < most
within_found [] most n all e = absurd (false≢true e)
within_found (x ∷ xs) most n all e = by (x.node.0 == n) refl e (λ rest. within_found xs most n (All-tail (λ (h : HeldImage). h.node.0 < most) x xs all) rest)
  where
    by : (b : Bool) → (x.node.0 == n) ≡ b → is_some (cond b (Some (held_of x)) (find (λ (h : Held). h.node.0 == n) (map held_of xs))) ≡ true
        → (is_some (find (λ (h : Held). h.node.0 == n) (map held_of xs)) ≡ true → n < most) → n < most
    by true s k rest =
        let same = eqb-true x.node.0 n s in
        let less = All-head (λ (h : HeldImage). h.node.0 < most) x xs all in
        omega (arith, same, less)
    by false s k rest = rest k
