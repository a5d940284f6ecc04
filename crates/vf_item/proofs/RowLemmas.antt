-- Lists: what is read of them is what the grammar says, and all of it is read, where that holds of their items.
use Rattle.std.proofs.Common.{◌≡◌, ℕ, zero, suc, ◌+◌, ◌-◌, ◌<◌, ◌≤◌, List, [], ◌∷◌, ◌++◌, length, Option, Some, None, refl, ap, subst, sym, ◌∙◌, inl, inr, append_assoc, codes, arith}
use Rattle.std.proofs.lemmas.List.{append-nil}
use Rattle.vf_base.specs.declared.names.Place.{Place}
use Rattle.vf_expression.specs.Grammar.{Tokens, sign}
use Rattle.vf_expression.specs.Reading.{◌>>=◌, found_or, after}
use Rattle.vf_expression.proofs.CallerLemmas.{bind_some, some_is, found_is, after_is, after_again}
use Rattle.vf_item.specs.Rows.{Piece, Found, IsRow, row_end, row_more, IsAfterComma, after_comma, IsSeries, series, row_from, more_at, series_at}

-- what was read, by an equation to what is of the rule
pub done : {A : Type 0} (One : Piece A) (ts : Tokens) (y x : A × Tokens) → Some y ≡ Some x → One ts y.1 y.0 → One ts x.1 x.0
done {A = A} One ts y x e is = subst (λ (z : A × Tokens). One ts z.1 z.0) (some_is y x e) is

-- a tree before a sign
pub closed_by : {A : Type 0} (One : Piece A) (ts : Tokens) (a : A × Tokens) (text : List ℕ) (rest : Tokens) → One ts a.1 a.0 → after text a.1 ≡ Some rest → (q : Place) × One ts (sign q text ∷ rest) a.0
closed_by One ts a text rest is e =
    let q = after_is text a.1 rest e in
    (q.0, subst (λ us. One ts us a.0) q.1 is)

-- ---- a loop over the items

pub row_step : {A : Type 0} (start : Tokens → Option Tokens) (one : Tokens → Found A) (n i : ℕ) (items : List A) (ts us : Tokens) (x : A × Tokens) (longer : List A) (total : Found (List A)) → i < n → start ts ≡ Some us → one us ≡ Some x
    → longer ≡ items ++ x.0 ∷ [] → row_from start one (n - i) items ts ≡ total → row_from start one (n - (i + 1)) longer x.1 ≡ total
unfolding row_from
row_step start one n i items ts us x longer total lt found read longer_is so_far =
    let k : n - i ≡ suc (n - (i + 1)) = omega arith in
    let step : row_from start one (n - i) items ts ≡ row_from start one (n - (i + 1)) (items ++ x.0 ∷ []) x.1 = rw (k, found, read) refl in
    rw longer_is (sym step ∙ so_far)

-- ---- { X }

pub row_shorter : {A : Type 0} (One : Piece A) → ((ts rest : Tokens) (a : A) → One ts rest a → length rest < length ts) → (ts rest : Tokens) (items : List A) → IsRow One ts rest items → length rest ≤ length ts
row_shorter One shorter ts rest _ (row_end spelled) = omega (arith, ap length spelled)
row_shorter One shorter ts rest _ (row_more us a others is more) = omega (arith, shorter ts us a is, row_shorter One shorter us rest others more)

-- what is read after other items
pub record ReadsRow {A : Type 0} (One : Piece A) (items : List A) (ts : Tokens) (x : List A × Tokens) : Type 0 where
  pub others : List A
  pub is : IsRow One ts x.1 others
  pub joined : x.0 ≡ items ++ others

module _ {A : Type 0} (One : Piece A) (start : Tokens → Option Tokens) (one : Tokens → Found A) (sound : (ts us : Tokens) (x : A × Tokens) → start ts ≡ Some us → one us ≡ Some x → One ts x.1 x.0) where
  stopped : (items : List A) (ts : Tokens) (x : List A × Tokens) → Some (items, ts) ≡ Some x → ReadsRow One items ts x
  stopped items ts x e =
      subst (λ (y : List A × Tokens). ReadsRow One items ts y) (some_is (items, ts) x e)
      (record { others = []; is = row_end refl; joined = sym (append-nil items) })

  pub row_read : (f : ℕ) (items : List A) (ts : Tokens) (x : List A × Tokens) → row_from start one f items ts ≡ Some x → ReadsRow One items ts x
  unfolding row_from
  row_read zero items ts x h = stopped items ts x h
  row_read (suc f) items ts x h =
      elim (found_is (start ts) (λ us. one us >>= λ y. row_from start one f (items ++ y.0 ∷ []) y.1) (Some (items, ts)) x h) [
        | inr p ↦ stopped items ts x p.1
        | inl p ↦
            let a = bind_some (one p.0) (λ y. row_from start one f (items ++ y.0 ∷ []) y.1) x p.2 in
            let later = row_read f (items ++ a.0.0 ∷ []) a.0.1 x a.2 in
            record {
              others = a.0.0 ∷ later.others;
              is = row_more a.0.1 a.0.0 later.others (sound ts p.0 a.0 p.1 a.1) later.is;
              joined = later.joined ∙ append_assoc items (a.0.0 ∷ []) later.others;
            }
      ]

-- what an item of a rule is read of
pub record ReadsOne {A : Type 0} (start : Tokens → Option Tokens) (one : Tokens → Found A) (ts rest : Tokens) (a : A) : Type 0 where
  pub from : Tokens
  pub starts : start ts ≡ Some from
  pub reads : one from ≡ Some (a, rest)

module _ {A : Type 0} (One : Piece A) (start : Tokens → Option Tokens) (one : Tokens → Found A) (Follow : Tokens → Type 0)
    (shorter : (ts rest : Tokens) (a : A) → One ts rest a → length rest < length ts)
    (follows : (ts rest : Tokens) (a : A) → One ts rest a → Follow ts)
    (complete : (ts rest : Tokens) (a : A) → One ts rest a → Follow rest → ReadsOne start one ts rest a) where
  pub row_follows : (ts rest : Tokens) (items : List A) → IsRow One ts rest items → Follow rest → Follow ts
  row_follows ts rest _ (row_end spelled) ends = subst Follow (sym spelled) ends
  row_follows ts rest _ (row_more us a others is more) ends = follows ts us a is

  row_ends : (f : ℕ) (items : List A) (ts : Tokens) → start ts ≡ None → row_from start one f items ts ≡ Some (items, ts)
  unfolding row_from
  row_ends zero items ts e = refl
  row_ends (suc f) items ts e = rw e refl

  -- after any items before
  pub row_reads : (ts rest : Tokens) (items : List A) → IsRow One ts rest items → (f : ℕ) (before : List A) → length ts ≤ f → Follow rest → start rest ≡ None → row_from start one f before ts ≡ Some (before ++ items, rest)
  unfolding row_from
  row_reads ts rest _ (row_end spelled) f before fits ends no_start = rw (spelled, append-nil before) (row_ends f before rest no_start)
  row_reads ts rest _ (row_more us item others is more) zero before fits ends no_start = absurd (omega (arith, shorter ts us item is))
  row_reads ts rest _ (row_more us item others is more) (suc f) before fits ends no_start =
      let long = shorter ts us item is in
      let here = complete ts us item is (row_follows us rest others more ends) in
      let later = row_reads us rest others more f (before ++ item ∷ []) (omega arith) ends no_start in
      let same : (before ++ item ∷ []) ++ others ≡ before ++ item ∷ others = append_assoc before (item ∷ []) others in
      rw (here.starts, here.reads) (later ∙ ap (λ (l : List A). Some (l, rest)) same)

-- ---- X { "," X }

pub next_read : {A : Type 0} (One : Piece A) (one : Tokens → Found A) → ((ts : Tokens) (x : A × Tokens) → one ts ≡ Some x → One ts x.1 x.0)
    → (ts us : Tokens) (x : A × Tokens) → after (codes ",") ts ≡ Some us → one us ≡ Some x → IsAfterComma One ts x.1 x.0
next_read One one sound ts us x e read =
    let q = after_is (codes ",") ts us e in
    after_comma q.0 us (sound us x read) q.1

-- further items after those that were read
pub more_read : {A : Type 0} (One : Piece A) (one : Tokens → Found A) → ((ts : Tokens) (x : A × Tokens) → one ts ≡ Some x → One ts x.1 x.0)
    → (items : List A) (ts : Tokens) (x : List A × Tokens) → more_at one items ts ≡ Some x → ReadsRow (IsAfterComma One) items ts x
unfolding more_at
more_read One one sound items ts x e = row_read (IsAfterComma One) (after (codes ",")) one (next_read One one sound) (length ts) items ts x e

pub series_read : {A : Type 0} (One : Piece A) (one : Tokens → Found A) → ((ts : Tokens) (x : A × Tokens) → one ts ≡ Some x → One ts x.1 x.0) → (ts : Tokens) (x : List A × Tokens) → series_at one ts ≡ Some x → IsSeries One ts x.1 x.0
unfolding series_at
series_read One one sound ts x e =
    let a = bind_some (one ts) (λ a. more_at one (a.0 ∷ []) a.1) x e in
    let l = more_read One one sound (a.0.0 ∷ []) a.0.1 x a.2 in
    series a.0.1 a.0.0 l.others (sound ts a.0 a.1) l.is l.joined

pub next_shorter : {A : Type 0} (One : Piece A) → ((ts rest : Tokens) (a : A) → One ts rest a → length rest ≤ length ts) → (ts rest : Tokens) (a : A) → IsAfterComma One ts rest a → length rest < length ts
next_shorter One shorter ts rest a (after_comma q us is spelled) = omega (arith, ap length spelled, shorter us rest a is)

pub weaker : (ts rest : Tokens) → length rest < length ts → length rest ≤ length ts
weaker ts rest h = omega arith

pub series_shorter : {A : Type 0} (One : Piece A) → ((ts rest : Tokens) (a : A) → One ts rest a → length rest < length ts) → (ts rest : Tokens) (items : List A) → IsSeries One ts rest items → length rest < length ts
series_shorter One shorter ts rest items (series us a others is more e) =
    omega (arith, shorter ts us a is, row_shorter (IsAfterComma One) (next_shorter One (λ vs ws b one. weaker vs ws (shorter vs ws b one))) us rest others more)

module _ {A : Type 0} (One : Piece A) (one : Tokens → Found A) (Follow : Tokens → Type 0)
    (within : (ts rest : Tokens) (a : A) → One ts rest a → length rest ≤ length ts)
    (comma : (q : Place) (us : Tokens) → Follow (sign q (codes ",") ∷ us))
    (complete : (ts rest : Tokens) (a : A) → One ts rest a → Follow rest → one ts ≡ Some (a, rest)) where
  next_reads : (ts rest : Tokens) (a : A) → IsAfterComma One ts rest a → Follow rest → ReadsOne (after (codes ",")) one ts rest a
  next_reads ts rest a (after_comma q us is spelled) ends =
      record { from = us; starts = rw (spelled, after_again (codes ",") q us) refl; reads = complete us rest a is ends }

  next_follows : (ts rest : Tokens) (a : A) → IsAfterComma One ts rest a → Follow ts
  next_follows ts rest a (after_comma q us is spelled) = subst Follow (sym spelled) (comma q us)

  pub more_follows : (ts rest : Tokens) (items : List A) → IsRow (IsAfterComma One) ts rest items → Follow rest → Follow ts
  more_follows ts rest items is ends = row_follows (IsAfterComma One) (after (codes ",")) one Follow (next_shorter One within) next_follows next_reads ts rest items is ends

  pub more_reads : (ts rest : Tokens) (items before : List A) → IsRow (IsAfterComma One) ts rest items → Follow rest → after (codes ",") rest ≡ None → more_at one before ts ≡ Some (before ++ items, rest)
  unfolding more_at
  more_reads ts rest items before is ends no_comma = row_reads (IsAfterComma One) (after (codes ",")) one Follow (next_shorter One within) next_follows next_reads ts rest items is (length ts) before (omega arith) ends no_comma

  pub series_reads : (ts rest : Tokens) (items : List A) → IsSeries One ts rest items → Follow rest → after (codes ",") rest ≡ None → series_at one ts ≡ Some (items, rest)
  unfolding series_at
  series_reads ts rest items (series us a others is more e) ends no_comma =
      let first = complete ts us a is (more_follows us rest others more ends) in
      let later : more_at one (a ∷ []) us ≡ Some (a ∷ others, rest) = more_reads us rest others (a ∷ []) more ends no_comma in
      rw (first, e) later
