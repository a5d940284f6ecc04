-- What the reader's answers rest on.
use Rattle.std.proofs.Common.{◌≡◌, ℕ, zero, suc, ◌+◌, ◌<◌, ◌≤◌, Bool, true, false, not, List, [], ◌∷◌, ◌++◌, length, map, take, drop, get_or, Option, Some, None, Ok, Err, IfSome, refl, sym, ◌∙◌, ap, ap₂, subst, arith, cond, position, ◌||◌, nat_lt, slice_get, length-take}
use Rattle.std.specs.List.{list_any, position_or_len}
use Rattle.std.proofs.lemmas.List.{drop_more, drop_all}
use Rattle.vf_plan.specs.declared.fault.PlanFault.{PlanFault}
use Rattle.std.proofs.lemmas.List.{take-append-le, map-append}
use Rattle.std.specs.Str.{bytes_eq}
use Rattle.indexmap.specs.IndexSet.{insert_key}
use Rattle.std.proofs.lemmas.Bool.{ltb-false}
use Rattle.std.proofs.lemmas.Option.{slice_get_within}
use Rattle.serde_json.specs.View.{view, items_view}
use Rattle.vf_base.specs.declared.names.NodeNo.{NodeNo}
use Rattle.serde_json.specs.declared.value.Value.{Value}
use Rattle.vf_plan.specs.declared.plan.Node.{Node}
use Rattle.vf_plan.specs.Reading.{◌>>=◌, node_named, items_len, with_next, nodes_after}
use Rattle.vf_plan.specs.Rules.{IsNodeAfter}

pub items_len_of_view : (values : List Value) → items_len (items_view values) ≡ length values
items_len_of_view [] = refl
items_len_of_view (value ∷ more) = let rest = items_len_of_view more in omega (arith, rest)

-- ---- two lists that look alike are searched alike

module _ {X Y Z : Type 0} (f : X → Z) (g : Y → Z) where
  pub length-alike : (xs : List X) (ys : List Y) → map f xs ≡ map g ys → length xs ≡ length ys
  length-alike [] [] e = refl
  length-alike [] (y ∷ ys) e = let wrong = ap length e in absurd (omega (arith, wrong))
  length-alike (x ∷ xs) [] e = let wrong = ap length e in absurd (omega (arith, wrong))
  length-alike (x ∷ xs) (y ∷ ys) e = ap suc (length-alike xs ys (ap (drop 1) e))

  module _ (test : Z → Bool) where
    pub place-alike : (xs : List X) (ys : List Y) → map f xs ≡ map g ys → position_or_len (λ x. test (f x)) xs ≡ position_or_len (λ y. test (g y)) ys
    place-alike [] [] e = refl
    place-alike [] (y ∷ ys) e = let wrong = ap length e in absurd (omega (arith, wrong))
    place-alike (x ∷ xs) [] e = let wrong = ap length e in absurd (omega (arith, wrong))
    place-alike (x ∷ xs) (y ∷ ys) e =
        ap₂ (λ z n. cond (not (test z)) (1 + n) 0) (ap (λ zs. get_or zs 0 (f x)) e) (place-alike xs ys (ap (drop 1) e))

    pub position-alike : (xs : List X) (ys : List Y) → map f xs ≡ map g ys → position (λ x. test (f x)) xs ≡ position (λ y. test (g y)) ys
    position-alike xs ys e =
        ap₂ (λ place n. cond (nat_lt place n) (Some place) None) (place-alike xs ys e) (length-alike xs ys e)

    pub list_any-alike : (xs : List X) (ys : List Y) → map f xs ≡ map g ys → list_any (λ x. test (f x)) xs ≡ list_any (λ y. test (g y)) ys
    list_any-alike [] [] e = refl
    list_any-alike [] (y ∷ ys) e = let wrong = ap length e in absurd (omega (arith, wrong))
    list_any-alike (x ∷ xs) [] e = let wrong = ap length e in absurd (omega (arith, wrong))
    list_any-alike (x ∷ xs) (y ∷ ys) e =
        ap₂ (λ z b. test z || b) (ap (λ zs. get_or zs 0 (f x)) e) (list_any-alike xs ys (ap (drop 1) e))

-- what is nowhere is not found
module _ {X : Type 0} (test : X → Bool) where
  any-past : (xs : List X) → length xs ≤ position_or_len test xs → list_any test xs ≡ false
  any-past [] h = refl
  any-past (x ∷ xs) h = by (test x) refl (λ g. any-past xs g)
    where
      by : (b : Bool) → test x ≡ b → (length xs ≤ position_or_len test xs → list_any test xs ≡ false) → (test x || list_any test xs) ≡ false
      by true e rest = let place : position_or_len test (x ∷ xs) ≡ 0 = ap (λ b. cond (not b) (1 + position_or_len test xs) 0) e in absurd (omega (arith, h, place))
      by false e rest =
          let place : position_or_len test (x ∷ xs) ≡ 1 + position_or_len test xs = ap (λ b. cond (not b) (1 + position_or_len test xs) 0) e in
          ap (λ b. b || list_any test xs) e ∙ rest (omega (arith, h, place))

  pub any-missing : (xs : List X) → position test xs ≡ None → list_any test xs ≡ false
  any-missing xs h = any-past xs (by (nat_lt (position_or_len test xs) (length xs)) refl h)
    where
      by : (b : Bool) → nat_lt (position_or_len test xs) (length xs) ≡ b → cond b (Some (position_or_len test xs)) None ≡ None → length xs ≤ position_or_len test xs
      by true e g = cc
      by false e g = ltb-false (position_or_len test xs) (length xs) e

-- ---- what holds at each place still holds with one item more

pub each-push : {X : Type 0} (P : ℕ → X → Type 0) (xs : List X) (x : X) → ((n : ℕ) → IfSome (slice_get xs n) (P n)) → P (length xs) x → (n : ℕ) → IfSome (slice_get (xs ++ x ∷ []) n) (P n)
each-push P [] x h here zero = here
each-push P [] x h here (suc n) = tt
each-push P (y ∷ xs) x h here zero = h zero
each-push P (y ∷ xs) x h here (suc n) = each-push (λ k. P (suc k)) xs x (λ k. h (suc k)) here n

pub after-push : (nodes : List Node) (node : Node) → ((n : ℕ) → IfSome (slice_get nodes n) (IsNodeAfter (take n nodes))) → IsNodeAfter nodes node
    → (n : ℕ) → IfSome (slice_get (nodes ++ node ∷ []) n) (IsNodeAfter (take n (nodes ++ node ∷ [])))
after-push nodes node each here = each-push (λ n. IsNodeAfter (take n (nodes ++ node ∷ []))) nodes node moved (subst (λ front. IsNodeAfter front node) (sym (front (length nodes) (omega arith) ∙ all nodes)) here)
  where
    front : (n : ℕ) → n ≤ length nodes → take n (nodes ++ node ∷ []) ≡ take n nodes
    front n h = take-append-le n nodes (node ∷ []) h

    all : (xs : List Node) → take (length xs) xs ≡ xs
    all [] = refl
    all (x ∷ xs) = ap (λ ys. x ∷ ys) (all xs)

    moved : (n : ℕ) → IfSome (slice_get nodes n) (IsNodeAfter (take n (nodes ++ node ∷ [])))
    moved n = by (slice_get nodes n) refl
      where
        by : (o : Option Node) → slice_get nodes n ≡ o → IfSome o (IsNodeAfter (take n (nodes ++ node ∷ [])))
        by None e = tt
        by (Some y) e =
            let within = slice_get_within nodes n y e in
            let given : IsNodeAfter (take n nodes) y = subst (λ o. IfSome o (IsNodeAfter (take n nodes))) e (each n) in
            subst (λ xs. IsNodeAfter xs y) (sym (front n (omega (arith, within)))) given

-- a parent comes before its child
pub parent_before : (nodes : List Node) → ((n : ℕ) → IfSome (slice_get nodes n) (IsNodeAfter (take n nodes))) → (n : ℕ) (node : Node) → slice_get nodes n ≡ Some node → IfSome node.parent (λ p. p.0 < n)
parent_before nodes each n node e = by node.parent behind.parent
  where
    behind : IsNodeAfter (take n nodes) node
    behind = subst (λ o. IfSome o (IsNodeAfter (take n nodes))) e (each n)

    short : length (take n nodes) ≤ n
    short = let long = length-take n nodes in omega (arith, long)

    by : (parent : Option NodeNo) → IfSome parent (λ p. p.0 < length (take n nodes)) → IfSome parent (λ p. p.0 < n)
    by None h = tt
    by (Some p) h = omega (arith, h, short)

-- ---- one value after the other

module _ (version : ℕ) (before : List Node) (values : List Value) (i : ℕ) where
  opened : (value : Value) → i < length values → value ≡ get_or values i value
      → nodes_after version before (items_view (drop i values)) ≡ (with_next version before (view value) >>= λ nodes. nodes_after version nodes (items_view (drop (i + 1) values)))
  unfolding nodes_after
  opened value h is =
      ap (λ vs. nodes_after version before (items_view vs)) (drop_more values i value h ∙ ap (λ v. v ∷ drop (i + 1) values) (sym is))

  pub next_ok : (value : Value) (after : List Node) → i < length values → value ≡ get_or values i value → with_next version before (view value) ≡ Ok after
      → nodes_after version before (items_view (drop i values)) ≡ nodes_after version after (items_view (drop (i + 1) values))
  next_ok value after h is ok = opened value h is ∙ ap (λ r. r >>= λ nodes. nodes_after version nodes (items_view (drop (i + 1) values))) ok

  pub next_err : (value : Value) (fault : PlanFault) → i < length values → value ≡ get_or values i value → with_next version before (view value) ≡ Err fault
      → nodes_after version before (items_view (drop i values)) ≡ Err fault
  next_err value fault h is err = opened value h is ∙ ap (λ r. r >>= λ nodes. nodes_after version nodes (items_view (drop (i + 1) values))) err

  pub read_all : length values ≤ i → nodes_after version before (items_view (drop i values)) ≡ Ok before
  unfolding nodes_after
  read_all h = ap (λ vs. nodes_after version before (items_view vs)) (drop_all i values h)

pub nowhere : {X : Type 0} (P : ℕ → X → Type 0) (xs : List X) → xs ≡ [] → (n : ℕ) → IfSome (slice_get xs n) (P n)
nowhere P xs e n = subst (λ ys. IfSome (slice_get ys n) (P n)) (sym e) (by n)
  where
    by : (k : ℕ) → IfSome (slice_get [] k) (P n)
    by zero = tt
    by (suc k) = tt

module _ {V : Type 0} (f : V → List ℕ) (eq : V → V → Bool) where
  any-same : (names : List V) (name : V) → ((k : V) → eq name k ≡ bytes_eq (f name) (f k)) → list_any (eq name) names ≡ list_any (λ k. bytes_eq (f name) (f k)) names
  any-same [] name same = refl
  any-same (k ∷ names) name same = ap₂ (λ a b. a || b) (same k) (any-same names name same)

  -- a new name goes last, as its node does
  pub named-push : (names after : List V) (name : V) (nodes all : List Node) (node : Node) → ((k : V) → eq name k ≡ bytes_eq (f name) (f k)) → map f names ≡ map (λ (n : Node). n.name) nodes
      → f name ≡ node.name → node_named node.name nodes ≡ None → after ≡ insert_key eq names name → all ≡ nodes ++ node ∷ [] → map f after ≡ map (λ (n : Node). n.name) all
  named-push names after name nodes all node same named is new a n =
      let missing : list_any (eq name) names ≡ false =
      any-same names name same
      ∙ list_any-alike f (λ (n : Node). n.name) (bytes_eq (f name)) names nodes named
      ∙ ap (λ bytes. list_any (λ (n : Node). bytes_eq bytes n.name) nodes) is
      ∙ any-missing (λ (n : Node). bytes_eq node.name n.name) nodes new in
      ap (map f) (a ∙ ap (λ b. cond b names (names ++ name ∷ [])) missing)
      ∙ map-append f names (name ∷ [])
      ∙ ap₂ (λ front last. front ++ last ∷ []) named is
      ∙ sym (map-append (λ (n : Node). n.name) nodes (node ∷ []))
      ∙ ap (map (λ (n : Node). n.name)) (sym n)
