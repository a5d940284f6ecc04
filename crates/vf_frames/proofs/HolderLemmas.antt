-- Lists of holders that a pool accounts for, in another order and among others.
use Rattle.std.proofs.Common.{◌≡◌, ℕ, ◌+◌, List, [], ◌∷◌, ◌++◌, refl, sym, ◌∙◌, arith}
use Rattle.std.specs.Prelude.{Option, Some, None}
use Rattle.vf_frames.specs.declared.holder.Name.{Name}
use Rattle.vf_frames.specs.declared.holder.Holder.{Holder}
use Rattle.vf_frames.specs.Holders.{total, one_if_has, parts_of, EachHasPart, Counts, Accounts, Keeps, SamePool}

-- the holders of one list are those of another
pub record Reordered (xs ys : List Holder) : Type 0 where
  pub totals : (f : Holder → ℕ) → total f ys ≡ total f xs
  pub parts : EachHasPart xs → EachHasPart ys

pub total-append : (f : Holder → ℕ) (xs ys : List Holder) → total f (xs ++ ys) ≡ total f xs + total f ys
total-append f [] ys = omega arith
total-append f (x ∷ xs) ys = omega (arith, total-append f xs ys)

pub parts-append : (xs ys : List Holder) → EachHasPart xs → EachHasPart ys → EachHasPart (xs ++ ys)
parts-append [] ys p q = q
parts-append (x ∷ xs) ys p q = (p.0, parts-append xs ys p.1 q)

pub parts-split : (xs ys : List Holder) → EachHasPart (xs ++ ys) → EachHasPart xs × EachHasPart ys
parts-split [] ys p = (tt, p)
parts-split (x ∷ xs) ys p = let rest = parts-split xs ys p.1 in ((p.0, rest.0), rest.1)

pub reordered-same : (xs : List Holder) → Reordered xs xs
reordered-same xs = record { totals = λ f. refl; parts = λ p. p }

pub reordered-then : (xs ys zs : List Holder) → Reordered xs ys → Reordered ys zs → Reordered xs zs
reordered-then xs ys zs p q = record { totals = λ f. q.totals f ∙ p.totals f; parts = λ h. q.parts (p.parts h) }

-- reordered in front of others
pub reordered-before : (xs ys others : List Holder) → Reordered xs ys → Reordered (xs ++ others) (ys ++ others)
reordered-before xs ys others p = record {
  totals = λ f. omega (arith, total-append f xs others, total-append f ys others, p.totals f);
  parts = λ h. let split = parts-split xs others h in parts-append ys others (p.parts split.0) split.1;
}

-- two lists that stand side by side change places
pub reordered-sides : (front left right back : List Holder) → Reordered (front ++ (left ++ (right ++ back))) (front ++ (right ++ (left ++ back)))
reordered-sides front left right back = record {
  totals = λ f. omega (
    arith,
    total-append f front (left ++ (right ++ back)),
    total-append f left (right ++ back),
    total-append f right back,
    total-append f front (right ++ (left ++ back)),
    total-append f right (left ++ back),
    total-append f left back,
  );
  parts = λ h.
      let first = parts-split front (left ++ (right ++ back)) h in
      let second = parts-split left (right ++ back) first.1 in
      let third = parts-split right back second.1 in
      parts-append front (right ++ (left ++ back)) first.0 (parts-append right (left ++ back) third.0 (parts-append left back second.0 third.1));
}

-- a holder in the middle is moved to the front, or from there
pub reordered-front : (before : List Holder) (h : Holder) (after : List Holder) → Reordered (before ++ (h ∷ after)) (h ∷ (before ++ after))
reordered-front before h after = reordered-sides [] before (h ∷ []) after

pub reordered-middle : (before : List Holder) (h : Holder) (after : List Holder) → Reordered (h ∷ (before ++ after)) (before ++ (h ∷ after))
reordered-middle before h after = reordered-sides [] (h ∷ []) before after

counts-reordered : (ns : List ℕ) (xs ys : List Holder) → Reordered xs ys → Counts ns xs → Counts ns ys
counts-reordered ns xs ys p c = record {
  each = λ f h. c.each f h ∙ sym (p.totals (one_if_has f));
  parts = p.totals parts_of ∙ c.parts;
  some_part = p.parts c.some_part;
}

-- a pool accounts for its holders in any order
pub accounts-reordered : (a : Option (List ℕ)) (xs ys : List Holder) → Reordered xs ys → Accounts a xs → Accounts a ys
accounts-reordered None xs ys p c = c
accounts-reordered (Some ns) xs ys p c = counts-reordered ns xs ys p c

-- what a call keeps of its holders it keeps of them in any order
pub keeps-reordered : (a b : Option (List ℕ)) (xs xs' ys ys' : List Holder) → Reordered xs' xs → Reordered ys ys' → Keeps a xs b ys → Keeps a xs' b ys'
keeps-reordered a b xs xs' ys ys' p q k = λ others c.
    accounts-reordered b (ys ++ others) (ys' ++ others) (reordered-before ys ys' others q)
    (k others (accounts-reordered a (xs' ++ others) (xs ++ others) (reordered-before xs' xs others p) c))

-- and with others before and after them
pub keeps-among : (a b : Option (List ℕ)) (xs ys front back : List Holder) → Keeps a xs b ys → Accounts a (front ++ (xs ++ back)) → Accounts b (front ++ (ys ++ back))
keeps-among a b xs ys front back k c =
    accounts-reordered b (ys ++ (front ++ back)) (front ++ (ys ++ back)) (reordered-sides [] ys front back)
    (k (front ++ back) (accounts-reordered a (front ++ (xs ++ back)) (xs ++ (front ++ back)) (reordered-sides [] front xs back) c))

-- one call after another
pub keeps-then : (a b c : Option (List ℕ)) (h i j : Holder) → Keeps a (h ∷ []) b (i ∷ []) → Keeps b (i ∷ []) c (j ∷ []) → Keeps a (h ∷ []) c (j ∷ [])
keeps-then a b c h i j p q = λ others x. q others (p others x)

pub pool-then : (a b c : Name) (x y z : Option (List ℕ)) → SamePool a x b y → SamePool b y c z → SamePool a x c z
pool-then a b c x y z p q = record { name = q.name ∙ p.name; told = q.told ∙ p.told }

-- each order of the first holders that a fork needs
pub accounts-swap : (a : Option (List ℕ)) (x y : Holder) (os : List Holder) → Accounts a (x ∷ y ∷ os) → Accounts a (y ∷ x ∷ os)
accounts-swap a x y os c = accounts-reordered a (x ∷ y ∷ os) (y ∷ x ∷ os) (reordered-sides [] (x ∷ []) (y ∷ []) os) c

pub accounts-behind : (a : Option (List ℕ)) (x y z : Holder) (os : List Holder) → Accounts a (x ∷ y ∷ z ∷ os) → Accounts a (x ∷ z ∷ y ∷ os)
accounts-behind a x y z os c = accounts-reordered a (x ∷ y ∷ z ∷ os) (x ∷ z ∷ y ∷ os) (reordered-sides (x ∷ []) (y ∷ []) (z ∷ []) os) c

pub accounts-turn : (a : Option (List ℕ)) (x y z : Holder) (os : List Holder) → Accounts a (x ∷ y ∷ z ∷ os) → Accounts a (z ∷ y ∷ x ∷ os)
accounts-turn a x y z os c = accounts-behind a z x y os (accounts-reordered a (x ∷ y ∷ z ∷ os) (z ∷ x ∷ y ∷ os) (reordered-sides [] (x ∷ y ∷ []) (z ∷ []) os) c)

pub accounts-last : (a : Option (List ℕ)) (x y z w : Holder) (os : List Holder) → Accounts a (x ∷ y ∷ z ∷ w ∷ os) → Accounts a (x ∷ y ∷ w ∷ z ∷ os)
accounts-last a x y z w os c = accounts-reordered a (x ∷ y ∷ z ∷ w ∷ os) (x ∷ y ∷ w ∷ z ∷ os) (reordered-sides (x ∷ y ∷ []) (z ∷ []) (w ∷ []) os) c

pub accounts-outer : (a : Option (List ℕ)) (x y z w : Holder) (os : List Holder) → Accounts a (x ∷ y ∷ z ∷ w ∷ os) → Accounts a (w ∷ y ∷ z ∷ x ∷ os)
accounts-outer a x y z w os c =
    let front = accounts-reordered a (x ∷ y ∷ z ∷ w ∷ os) (w ∷ x ∷ y ∷ z ∷ os) (reordered-sides [] (x ∷ y ∷ z ∷ []) (w ∷ []) os) c in
    accounts-reordered a (w ∷ x ∷ y ∷ z ∷ os) (w ∷ y ∷ z ∷ x ∷ os) (reordered-sides (w ∷ []) (x ∷ []) (y ∷ z ∷ []) os) front
