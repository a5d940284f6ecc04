-- Lists: what is read of them is what the grammar says, and all of it is read, where that holds of their items.
use Rattle.std.proofs.Common.{◌≡◌, ℕ, zero, suc, ◌+◌, ◌-◌, ◌<◌, ◌≤◌, max, List, [], ◌∷◌, ◌++◌, length, Option, Some, None, refl, ap, ap₂, subst, sym, ◌∙◌, inl, inr, append_assoc, codes, arith}
use Rattle.std.proofs.lemmas.List.{append-nil}
use Rattle.vf_base.specs.declared.names.Place.{Place}
use Rattle.vf_expression.specs.Grammar.{Tokens, sign}
use Rattle.vf_expression.specs.Reading.{Read, ◌>>=◌, after}
use Rattle.vf_expression.proofs.CallerLemmas.{bind_some, some_is, found_is, after_is, after_again}
use Rattle.vf_control.specs.Lists.{Part, IsMany, no_more, one_more, IsNext, next, IsList, listed, many_from, list_at}

-- ---- a loop over the items

pub many_step : {A S : Type 0} (start : Tokens → Option S) (one : S → Read A) (n i : ℕ) (items : List A) (m : ℕ) (ts : Tokens) (s : S) (x : A × ℕ × Tokens) (longer : List A) (k : ℕ) (total : Read (List A)) → i < n → start ts ≡ Some s
    → one s ≡ Some x → longer ≡ items ++ x.0 ∷ [] → k ≡ max m x.1 → many_from start one (n - i) items m ts ≡ total → many_from start one (n - (i + 1)) longer k x.2 ≡ total
unfolding many_from
many_step start one n i items m ts s x longer deepest total lt found read longer_is deepest_is so_far =
    let k : n - i ≡ suc (n - (i + 1)) = omega arith in
    let step : many_from start one (n - i) items m ts ≡ many_from start one (n - (i + 1)) (items ++ x.0 ∷ []) (max m x.1) x.2 = rw (k, found, read) refl in
    rw (longer_is, deepest_is) (sym step ∙ so_far)

-- ---- { X }

pub many_shorter : {A : Type 0} (One : Part A) → ((n : ℕ) (ts rest : Tokens) (a : A) → One n ts rest a → length rest < length ts) → (n : ℕ) (ts rest : Tokens) (items : List A) → IsMany One n ts rest items → length rest ≤ length ts
many_shorter One shorter n ts rest _ (no_more deep spelled) = omega (arith, ap length spelled)
many_shorter One shorter n ts rest _ (one_more m k us a others is more deep) = omega (arith, shorter m ts us a is, many_shorter One shorter k us rest others more)

-- what is read after other items
pub record ReadsMany {A : Type 0} (One : Part A) (items : List A) (m : ℕ) (ts : Tokens) (x : List A × ℕ × Tokens) : Type 0 where
  pub others : List A
  pub depth : ℕ
  pub is : IsMany One depth ts x.2 others
  pub joined : x.0 ≡ items ++ others
  pub deepest : x.1 ≡ max m depth

module _ {A S : Type 0} (One : Part A) (start : Tokens → Option S) (one : S → Read A) (sound : (ts : Tokens) (s : S) (x : A × ℕ × Tokens) → start ts ≡ Some s → one s ≡ Some x → One x.1 ts x.2 x.0) where
  stopped : (items : List A) (m : ℕ) (ts : Tokens) (x : List A × ℕ × Tokens) → Some (items, m, ts) ≡ Some x → ReadsMany One items m ts x
  stopped items m ts x e =
      subst (λ (y : List A × ℕ × Tokens). ReadsMany One items m ts y) (some_is (items, m, ts) x e)
      (record { others = []; depth = 0; is = no_more refl refl; joined = sym (append-nil items); deepest = omega arith })

  pub many_read : (f : ℕ) (items : List A) (m : ℕ) (ts : Tokens) (x : List A × ℕ × Tokens) → many_from start one f items m ts ≡ Some x → ReadsMany One items m ts x
  unfolding many_from
  many_read zero items m ts x h = stopped items m ts x h
  many_read (suc f) items m ts x h =
      elim (found_is (start ts) (λ s. one s >>= λ y. many_from start one f (items ++ y.0 ∷ []) (max m y.1) y.2) (Some (items, m, ts)) x h) [
        | inr p ↦ stopped items m ts x p.1
        | inl p ↦
            let a = bind_some (one p.0) (λ y. many_from start one f (items ++ y.0 ∷ []) (max m y.1) y.2) x p.2 in
            let later = many_read f (items ++ a.0.0 ∷ []) (max m a.0.1) a.0.2 x a.2 in
            record {
              others = a.0.0 ∷ later.others;
              depth = max a.0.1 later.depth;
              is = one_more a.0.1 later.depth a.0.2 a.0.0 later.others (sound ts p.0 a.0 p.1 a.1) later.is refl;
              joined = later.joined ∙ append_assoc items (a.0.0 ∷ []) later.others;
              deepest = later.deepest ∙ omega arith;
            }
      ]

-- what an item of a rule is read of
pub record ReadsOne {A S : Type 0} (start : Tokens → Option S) (one : S → Read A) (n : ℕ) (ts rest : Tokens) (a : A) : Type 0 where
  pub from : S
  pub starts : start ts ≡ Some from
  pub reads : one from ≡ Some (a, n, rest)

module _ {A S : Type 0} (One : Part A) (start : Tokens → Option S) (one : S → Read A) (d : ℕ) (Follow : Tokens → Type 0)
    (shorter : (n : ℕ) (ts rest : Tokens) (a : A) → One n ts rest a → length rest < length ts)
    (follows : (n : ℕ) (ts rest : Tokens) (a : A) → One n ts rest a → Follow ts)
    (complete : (n : ℕ) (ts rest : Tokens) (a : A) → One n ts rest a → n ≤ d → Follow rest → ReadsOne start one n ts rest a) where
  pub many_follows : (k : ℕ) (ts rest : Tokens) (items : List A) → IsMany One k ts rest items → Follow rest → Follow ts
  many_follows k ts rest _ (no_more deep spelled) ends = subst Follow (sym spelled) ends
  many_follows k ts rest _ (one_more m j us a others is more deep) ends = follows m ts us a is

  many_ends : (f : ℕ) (items : List A) (m : ℕ) (ts : Tokens) → start ts ≡ None → many_from start one f items m ts ≡ Some (items, m, ts)
  unfolding many_from
  many_ends zero items m ts e = refl
  many_ends (suc f) items m ts e = rw e refl

  -- after any items before
  pub many_reads : (k : ℕ) (ts rest : Tokens) (items : List A) → IsMany One k ts rest items → (f : ℕ) (before : List A) (m : ℕ) → length ts ≤ f → k ≤ d → Follow rest → start rest ≡ None
      → many_from start one f before m ts ≡ Some (before ++ items, max m k, rest)
  unfolding many_from
  many_reads k ts rest _ (no_more deep spelled) f before m fits small ends no_start =
      let same : max m k ≡ m = omega arith in
      rw (spelled, same, append-nil before) (many_ends f before m rest no_start)
  many_reads k ts rest _ (one_more a b us item others is more deep) zero before m fits small ends no_start = absurd (omega (arith, shorter a ts us item is))
  many_reads k ts rest _ (one_more a b us item others is more deep) (suc f) before m fits small ends no_start =
      let long = shorter a ts us item is in
      let here = complete a ts us item is (omega arith) (many_follows b us rest others more ends) in
      let later = many_reads b us rest others more f (before ++ item ∷ []) (max m a) (omega arith) (omega arith) ends no_start in
      let deepest : max (max m a) b ≡ max m k = omega arith in
      let same : (before ++ item ∷ []) ++ others ≡ before ++ item ∷ others = append_assoc before (item ∷ []) others in
      rw (here.starts, here.reads) (later ∙ ap₂ (λ (l : List A) (n : ℕ). Some (l, n, rest)) same deepest)

-- ---- X { "," X }

next_read : {A : Type 0} (One : Part A) (one : Tokens → Read A) → ((ts : Tokens) (x : A × ℕ × Tokens) → one ts ≡ Some x → One x.1 ts x.2 x.0)
    → (ts us : Tokens) (x : A × ℕ × Tokens) → after (codes ",") ts ≡ Some us → one us ≡ Some x → IsNext One x.1 ts x.2 x.0
next_read One one sound ts us x e read =
    let q = after_is (codes ",") ts us e in
    next q.0 us (sound us x read) q.1

pub list_read : {A : Type 0} (One : Part A) (one : Tokens → Read A) → ((ts : Tokens) (x : A × ℕ × Tokens) → one ts ≡ Some x → One x.1 ts x.2 x.0)
    → (ts : Tokens) (x : List A × ℕ × Tokens) → list_at one ts ≡ Some x → IsList One x.1 ts x.2 x.0
unfolding list_at
list_read One one sound ts x e =
    let a = bind_some (one ts) (λ a. many_from (after (codes ",")) one (length a.2) (a.0 ∷ []) a.1 a.2) x e in
    let l = many_read (IsNext One) (after (codes ",")) one (next_read One one sound) (length a.0.2) (a.0.0 ∷ []) a.0.1 a.0.2 x a.2 in
    listed a.0.1 l.depth a.0.2 a.0.0 l.others (sound ts a.0 a.1) l.is l.deepest l.joined

next_shorter : {A : Type 0} (One : Part A) → ((n : ℕ) (ts rest : Tokens) (a : A) → One n ts rest a → length rest < length ts) → (n : ℕ) (ts rest : Tokens) (a : A) → IsNext One n ts rest a → length rest < length ts
next_shorter One shorter n ts rest a (next q us is spelled) = omega (arith, ap length spelled, shorter n us rest a is)

pub list_shorter : {A : Type 0} (One : Part A) → ((n : ℕ) (ts rest : Tokens) (a : A) → One n ts rest a → length rest < length ts) → (n : ℕ) (ts rest : Tokens) (items : List A) → IsList One n ts rest items → length rest < length ts
list_shorter One shorter n ts rest items (listed m k us a others is more deep e) = omega (arith, shorter m ts us a is, many_shorter (IsNext One) (next_shorter One shorter) k us rest others more)

module _ {A : Type 0} (One : Part A) (one : Tokens → Read A) (d : ℕ) (Follow : Tokens → Type 0)
    (shorter : (n : ℕ) (ts rest : Tokens) (a : A) → One n ts rest a → length rest < length ts)
    (comma : (q : Place) (us : Tokens) → Follow (sign q (codes ",") ∷ us))
    (complete : (n : ℕ) (ts rest : Tokens) (a : A) → One n ts rest a → n ≤ d → Follow rest → one ts ≡ Some (a, n, rest)) where
  next_reads : (n : ℕ) (ts rest : Tokens) (a : A) → IsNext One n ts rest a → n ≤ d → Follow rest → ReadsOne (after (codes ",")) one n ts rest a
  next_reads n ts rest a (next q us is spelled) small ends =
      record { from = us; starts = rw (spelled, after_again (codes ",") q us) refl; reads = complete n us rest a is small ends }

  next_follows : (n : ℕ) (ts rest : Tokens) (a : A) → IsNext One n ts rest a → Follow ts
  next_follows n ts rest a (next q us is spelled) = subst Follow (sym spelled) (comma q us)

  pub list_reads : (n : ℕ) (ts rest : Tokens) (items : List A) → IsList One n ts rest items → n ≤ d → Follow rest → after (codes ",") rest ≡ None → list_at one ts ≡ Some (items, n, rest)
  unfolding list_at
  list_reads n ts rest items (listed m k us a others is more deep e) small ends no_comma =
      let later = many_reads (IsNext One) (after (codes ",")) one d Follow (next_shorter One shorter) next_follows next_reads k us rest others more (length us) (a ∷ []) m (omega arith) (omega arith) ends no_comma in
      let first = complete m ts us a is (omega arith) (many_follows (IsNext One) (after (codes ",")) one d Follow (next_shorter One shorter) next_follows next_reads k us rest others more ends) in
      rw (first, e, deep) later
