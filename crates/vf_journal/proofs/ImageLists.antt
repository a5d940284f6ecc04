-- Lists of held images.
use Rattle.std.proofs.Common.{◌≡◌, ℕ, ◌==◌, Bool, true, false, cond, List, [], ◌∷◌, ◌++◌, Option, Some, None, refl, sym, ◌∙◌, ap, ⊎_elim, inl, inr, ◌⊎◌}
use Rattle.std.specs.List.{list_any, find, filter, All}
use Rattle.std.proofs.lemmas.Bool.{false≢true, eq-eqb, ne_eqb, or_cases, or_left, or_right, or_parts, or_from}
use Rattle.std.proofs.lemmas.List.Elements.{All-nil, All-cons, All-head, All-tail}
use Rattle.vf_base.specs.declared.names.NodeNo.{NodeNo}
use Rattle.vf_journal.specs.Records.{Held}
use Rattle.vf_journal.specs.Holding.{AreDistinct}
use Rattle.vf_journal.proofs.JobLemmas.{same_node}

-- ---- what all have

pub all_both : {X : Type 0} (P Q : X → Type 0) (xs : List X) → All P xs → All Q xs → All (λ x. P x × Q x) xs
all_both P Q [] p q = All-nil (λ x. P x × Q x)
all_both P Q (x ∷ xs) p q =
    All-cons (λ x. P x × Q x) x xs (All-head P x xs p, All-head Q x xs q) (all_both P Q xs (All-tail P x xs p) (All-tail Q x xs q))

pub none_any : {X : Type 0} (p : X → Bool) (xs : List X) → list_any p xs ≡ false → All (λ x. p x ≡ false) xs
none_any p [] h = All-nil (λ x. p x ≡ false)
none_any p (x ∷ xs) h = let two = or_parts (p x) (list_any p xs) h in All-cons (λ x. p x ≡ false) x xs two.0 (none_any p xs two.1)

-- one of them passes a test, and has what all have
pub any_holds : {X : Type 0} (P : X → Type 0) (p : X → Bool) (xs : List X) → All P xs → list_any p xs ≡ true → (x : X) × P x × (p x ≡ true)
any_holds P p [] all h = absurd (false≢true h)
any_holds P p (x ∷ xs) all h =
    ⊎_elim (λ here. (x, All-head P x xs all, here)) (λ there. any_holds P p xs (All-tail P x xs all) there) (or_cases (p x) (list_any p xs) h)

pub any_weaker : {X : Type 0} (p q : X → Bool) (xs : List X) → ((x : X) → p x ≡ true → q x ≡ true) → list_any p xs ≡ true → list_any q xs ≡ true
any_weaker p q [] more h = h
any_weaker p q (x ∷ xs) more h =
    ⊎_elim (λ here. or_left (q x) (list_any q xs) (more x here)) (λ there. or_right (q x) (list_any q xs) (any_weaker p q xs more there))
    (or_cases (p x) (list_any p xs) h)

-- ---- filters

filter_by : {X : Type 0} (P Q : X → Type 0) (p : X → Bool) (x : X) (xs : List X) (b : Bool) → p x ≡ b → (P x → p x ≡ true → Q x) → P x → All Q (filter p xs)
    → All Q (cond b (x ∷ filter p xs) (filter p xs))
filter_by P Q p x xs true e keeps here rest = All-cons Q x (filter p xs) (keeps here e) rest
filter_by P Q p x xs false e keeps here rest = rest

-- what passes has more
pub all_filtered : {X : Type 0} (P Q : X → Type 0) (p : X → Bool) → ((x : X) → P x → p x ≡ true → Q x) → (xs : List X) → All P xs → All Q (filter p xs)
all_filtered P Q p keeps [] all = All-nil Q
all_filtered P Q p keeps (x ∷ xs) all =
    filter_by P Q p x xs (p x) refl (keeps x) (All-head P x xs all) (all_filtered P Q p keeps xs (All-tail P x xs all))

pub empty_filter : {X : Type 0} (p : X → Bool) (xs : List X) → filter p xs ≡ [] → All (λ x. p x ≡ false) xs
empty_filter p [] h = All-nil (λ x. p x ≡ false)
empty_filter p (x ∷ xs) h = by (p x) refl h (empty_filter p xs)
  where
    by : (b : Bool) → p x ≡ b → cond b (x ∷ filter p xs) (filter p xs) ≡ [] → (filter p xs ≡ [] → All (λ x. p x ≡ false) xs) → All (λ x. p x ≡ false) (x ∷ xs)
    by true e g rest = cc
    by false e g rest = All-cons (λ x. p x ≡ false) x xs e (rest g)

any_filtered : {X : Type 0} (q p : X → Bool) (xs : List X) → list_any q xs ≡ false → list_any q (filter p xs) ≡ false
any_filtered q p [] h = refl
any_filtered q p (x ∷ xs) h = by (p x) (any_filtered q p xs (or_parts (q x) (list_any q xs) h).1)
  where
    by : (b : Bool) → list_any q (filter p xs) ≡ false → list_any q (cond b (x ∷ filter p xs) (filter p xs)) ≡ false
    by true rest = or_from (q x) (list_any q (filter p xs)) (or_parts (q x) (list_any q xs) h).0 rest
    by false rest = rest

pub distinct_filtered : (p : Held → Bool) (held : List Held) → AreDistinct held → AreDistinct (filter p held)
distinct_filtered p [] h = tt
distinct_filtered p (x ∷ xs) h = by (p x) (distinct_filtered p xs h.1)
  where
    by : (b : Bool) → AreDistinct (filter p xs) → AreDistinct (cond b (x ∷ filter p xs) (filter p xs))
    by true rest = (any_filtered (λ other. other.node.0 == x.node.0) p xs h.0, rest)
    by false rest = rest

abbrev no_image : Option Held
no_image = None

none_either : (b : Bool) → no_image ≡ cond b no_image no_image
none_either true = refl
none_either false = refl

-- the image of a node among those that are kept by their nodes
pub find_filtered : (keep : NodeNo → Bool) (node : NodeNo) (held : List Held)
    → find (λ h. h.node.0 == node.0) (filter (λ h. keep h.node) held) ≡ cond (keep node) (find (λ h. h.node.0 == node.0) held) None
find_filtered keep node [] = none_either (keep node)
find_filtered keep node (x ∷ xs) = by (keep x.node) (x.node.0 == node.0) refl refl (find_filtered keep node xs)
  where
    by : (k s : Bool) → keep x.node ≡ k → (x.node.0 == node.0) ≡ s
        → find (λ (h : Held). h.node.0 == node.0) (filter (λ (h : Held). keep h.node) xs) ≡ cond (keep node) (find (λ (h : Held). h.node.0 == node.0) xs) None
        → find (λ (h : Held). h.node.0 == node.0) (cond k (x ∷ filter (λ (h : Held). keep h.node) xs) (filter (λ (h : Held). keep h.node) xs))
        ≡ cond (keep node) (cond s (Some x) (find (λ (h : Held). h.node.0 == node.0) xs)) None
    by true true ek es rest =
        ap (λ b. cond b (Some x) (find (λ (h : Held). h.node.0 == node.0) (filter (λ (h : Held). keep h.node) xs))) es
        ∙ ap (λ b. cond b (Some x) None) (sym ek ∙ ap keep (same_node x.node node es))
    by true false ek es rest =
        ap (λ b. cond b (Some x) (find (λ (h : Held). h.node.0 == node.0) (filter (λ (h : Held). keep h.node) xs))) es ∙ rest
    by false true ek es rest =
        let none : keep node ≡ false = ap keep (sym (same_node x.node node es)) ∙ ek in
        rest ∙ ap (λ b. cond b (find (λ (h : Held). h.node.0 == node.0) xs) None) none ∙ sym (ap (λ b. cond b (Some x) None) none)
    by false false ek es rest = rest

-- ---- one image more

pub find_more : {X : Type 0} (p : X → Bool) (xs ys : List X) (x : X) → find p xs ≡ Some x → find p (xs ++ ys) ≡ Some x
find_more p [] ys x h = cc
find_more p (y ∷ xs) ys x h = by (p y) h (find_more p xs ys x)
  where
    by : (b : Bool) → cond b (Some y) (find p xs) ≡ Some x → (find p xs ≡ Some x → find p (xs ++ ys) ≡ Some x) → cond b (Some y) (find p (xs ++ ys)) ≡ Some x
    by true g rest = g
    by false g rest = rest g

-- what is found with one more is found before, or it is that one
pub find_last : {X : Type 0} (p : X → Bool) (xs : List X) (last x : X) → find p (xs ++ last ∷ []) ≡ Some x → (find p xs ≡ Some x) ⊎ ((last ≡ x) × (p last ≡ true))
find_last p [] last x h = by (p last) refl h
  where
    by : (b : Bool) → p last ≡ b → cond b (Some last) None ≡ Some x → (None ≡ Some x) ⊎ ((last ≡ x) × (p last ≡ true))
    by true e g = inr (let same : last ≡ x = cc in same, e)
    by false e g = cc
find_last p (y ∷ xs) last x h = by (p y) h (find_last p xs last x)
  where
    by : (b : Bool) → cond b (Some y) (find p (xs ++ last ∷ [])) ≡ Some x → (find p (xs ++ last ∷ []) ≡ Some x → (find p xs ≡ Some x) ⊎ ((last ≡ x) × (p last ≡ true)))
        → (cond b (Some y) (find p xs) ≡ Some x) ⊎ ((last ≡ x) × (p last ≡ true))
    by true g rest = inl g
    by false g rest = rest g

any_last : {X : Type 0} (p : X → Bool) (xs : List X) (last : X) → list_any p xs ≡ false → p last ≡ false → list_any p (xs ++ last ∷ []) ≡ false
any_last p [] last h e = or_from (p last) false e refl
any_last p (x ∷ xs) last h e =
    let two = or_parts (p x) (list_any p xs) h in or_from (p x) (list_any p (xs ++ last ∷ [])) two.0 (any_last p xs last two.1 e)

pub distinct_more : (held : List Held) (last : Held) → AreDistinct held → All (λ h. (last.node.0 == h.node.0) ≡ false) held → AreDistinct (held ++ last ∷ [])
distinct_more [] last h other = (refl, tt)
distinct_more (x ∷ xs) last h other =
    let apart = λ (h : Held). (last.node.0 == h.node.0) ≡ false in
    (any_last (λ other. other.node.0 == x.node.0) xs last h.0 (All-head apart x xs other), distinct_more xs last h.1 (All-tail apart x xs other))

-- ---- the image of a node is the one of this node

same_back : (a b : ℕ) → (a == b) ≡ false → (b == a) ≡ false
same_back a b h = ne_eqb b a (λ same. false≢true (sym h ∙ eq-eqb a b (sym same)))

pub found_itself : (held : List Held) → AreDistinct held → All (λ x. find (λ h. h.node.0 == x.node.0) held ≡ Some x) held
found_itself [] h = All-nil (λ x. find (λ h. h.node.0 == x.node.0) [] ≡ Some x)
found_itself (y ∷ ys) h =
    let P = λ (x : Held). find (λ h. h.node.0 == x.node.0) ys ≡ Some x in
    let Q = λ (x : Held). (x.node.0 == y.node.0) ≡ false in
    let R = λ (x : Held). find (λ h. h.node.0 == x.node.0) (y ∷ ys) ≡ Some x in
    All-cons R y ys (ap (λ b. cond b (Some y) (find (λ h. h.node.0 == y.node.0) ys)) (eq-eqb y.node.0 y.node.0 refl))
    (weaken P Q R ys (λ x p q. ap (λ b. cond b (Some y) (find (λ h. h.node.0 == x.node.0) ys)) (same_back x.node.0 y.node.0 q) ∙ p)
    (found_itself ys h.1) (none_any (λ x. x.node.0 == y.node.0) ys h.0))
  where
    weaken : (P Q R : Held → Type 0) (xs : List Held) → ((x : Held) → P x → Q x → R x) → All P xs → All Q xs → All R xs
    weaken P Q R [] f p q = All-nil R
    weaken P Q R (x ∷ xs) f p q = All-cons R x xs (f x (All-head P x xs p) (All-head Q x xs q)) (weaken P Q R xs f (All-tail P x xs p) (All-tail Q x xs q))
