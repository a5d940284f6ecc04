-- What the parts of a well-formed expression are, and what it is worth by theirs.
use Rattle.std.proofs.Common.{◌≡◌, ℕ, zero, suc, ◌+◌, ◌<◌, ◌≤◌, Bool, true, false, ◌&&◌, ◌||◌, List, [], ◌∷◌, length, map, slice_get, slice_index_or, Option, Some, None, cond, refl, sym, ◌∙◌, ap, ap₂, subst, arith}
use Rattle.std.specs.Prelude.{◌==◌, is_some, nat_le, if◌then◌else◌, ℤ}
use Rattle.std.specs.Bool.{beq}
use Rattle.std.specs.Option.{option_map, option_and_then}
use Rattle.std.proofs.lemmas.Bool.{eqb-true, and_parts, leb-true}
use Rattle.std.proofs.lemmas.List.{length-append}
use Rattle.vf_base.specs.declared.names.SigNo.{SigNo}
use Rattle.vf_fours.specs.declared.UnaryOp.{UnaryOp}
use Rattle.vf_fours.specs.declared.BinaryOp.{BinaryOp}
use Rattle.vf_fours.specs.declared.Bit.{Bit}
use Rattle.vf_fours.specs.declared.Bit.TheVariants.{Zero, One, X, Z}
use Rattle.vf_fours.specs.Bits.{FourState}
use Rattle.vf_fours.specs.Operators.{resize_of, truth_of, concat_of, merge_of}
use Rattle.vf_fours.specs.Choices.{is_narrow, is_free, unary_of, binary_of}
use Rattle.vf_elaborated.specs.declared.design.Signal.{Signal}
use Rattle.vf_elaborated.specs.declared.expr.Expr.{Expr, roll-Expr}
use Rattle.vf_elaborated.specs.declared.expr.Expr.TheOpen.{Expr-F}
use Rattle.vf_elaborated.specs.declared.expr.Expr.TheFolds.{map-Expr}
use Rattle.vf_elaborated.specs.Elaborated.{Elaborated}
use Rattle.vf_elaborated.specs.Values.{Elements, Scene, Worth, worth_of, node_worth, read_of, selected_of, low_of, picked_of, joined_bits, past_end_of}
use Rattle.vf_elaborated.specs.Shapes.{Shape, HasShape, shape_of, node_shape, carried, binary_shape, same_shape, on_both, joined_width, join_shape, read_shape, signal_shape, has_shape, is_one_element, is_width, is_scale, WIDEST}
use Rattle.vf_elaborated.specs.WellFormed.{is_expr}
use Rattle.vf_elaborated.specs.Layout.{signals_begin, count_in, IsElement, scene_at}
use Rattle.vf_elaborated.proofs.CallerLemmas.{told_roll, values_shaped, values_fit}
use Rattle.vf_expr.specs.Reads.{element_in, signed_in}
use Rattle.vf_expr.specs.Joins.{IsJoin, join_of}

-- ---- by node

shape_by : (signals : List Signal) (e : Expr) (x : Expr-F Expr) → e ≡ roll-Expr x
    → shape_of signals e ≡ node_shape signals (map-Expr Expr (Option Shape) (shape_of signals) x)
shape_by signals e x is = ap (shape_of signals) is ∙ told_roll (node_shape signals) x

pub worth_by : (signals : List Signal) (scene : Scene) (e : Expr) (x : Expr-F Expr) → e ≡ roll-Expr x
    → worth_of signals e scene ≡ node_worth signals (map-Expr Expr Worth (worth_of signals) x) scene
worth_by signals scene e x is = ap (λ e. worth_of signals e scene) is ∙ ap (λ w. w scene) (told_roll (node_worth signals) x)

formed_by : (signals : List Signal) (e : Expr) (x : Expr-F Expr) → e ≡ roll-Expr x → is_expr signals e ≡ true
    → is_some (node_shape signals (map-Expr Expr (Option Shape) (shape_of signals) x)) ≡ true
formed_by signals e x is h = ap is_some (sym (shape_by signals e x is)) ∙ h

-- ---- answers that are there

record First (o : Option Shape) (f : Shape → Option Shape) : Type 0 where
  shape : Shape
  is : o ≡ Some shape
  gives : is_some (f shape) ≡ true

first : (o : Option Shape) (f : Shape → Option Shape) → is_some (option_and_then f o) ≡ true → First o f
first None f h = absurd (cc h)
first (Some a) f h = record { shape = a; is = refl; gives = h }

record Both (a b : Option Shape) (f : Shape → Shape → Option Shape) : Type 0 where
  left : Shape
  right : Shape
  left_is : a ≡ Some left
  right_is : b ≡ Some right
  gives : is_some (f left right) ≡ true

both : (a b : Option Shape) (f : Shape → Shape → Option Shape) → is_some (on_both f a b) ≡ true → Both a b f
both None b f h = absurd (cc h)
both (Some a) None f h = absurd (cc h)
both (Some a) (Some b) f h = record { left = a; right = b; left_is = refl; right_is = refl; gives = h }

if_some : {A : Type 0} (test : Bool) (o : Option A) → is_some (if test then o else None) ≡ true → (test ≡ true) × (is_some o ≡ true)
if_some true o h = (refl, h)
if_some false o h = absurd (cc h)

there : (o : Option Shape) (s : Shape) → o ≡ Some s → is_some o ≡ true
there o s e = ap is_some e

-- ---- operands of one width

carried_width : (width : ℕ) (signed : Bool) (a : Shape) → is_some (carried width signed a) ≡ true → a.width ≡ width
carried_width width signed a h = eqb-true a.width width (and_parts (a.width == width) (beq a.signed signed) (if_some _ (Some a) h).0).0

operands_by : (op : BinaryOp) (a b : Shape) (f : Shape → Option Shape) (narrow free same : Bool) → free ≡ false → (a.width == b.width) ≡ same
    → is_some (option_and_then f (if narrow then (if free || same then Some (record { width = 1; signed = false }) else None)
    else (if free then Some a else (if same then Some (record { width = a.width; signed = a.signed && b.signed }) else None)))) ≡ true → a.width ≡ b.width
operands_by op a b f narrow true same fixed w h = absurd (cc fixed)
operands_by op a b f narrow false true fixed w h = eqb-true a.width b.width w
operands_by op a b f true false false fixed w h = absurd (cc h)
operands_by op a b f false false false fixed w h = absurd (cc h)

operands : (op : BinaryOp) (a b : Shape) (width : ℕ) (signed : Bool) → is_some (option_and_then (carried width signed) (binary_shape op a b)) ≡ true
    → is_free op ≡ false → a.width ≡ b.width
operands op a b width signed h free = operands_by op a b (carried width signed) (is_narrow op) (is_free op) (a.width == b.width) free refl h

-- ---- choices

merged : (bit : Bit) (a b : FourState) → (bit ≡ One → ⊥) → (bit ≡ Zero → ⊥) → merge_of a b ≡ picked_of bit a b
merged One a b not_one not_zero = absurd (not_one refl)
merged Zero a b not_one not_zero = absurd (not_zero refl)
merged X a b not_one not_zero = refl
merged Z a b not_one not_zero = refl

-- ---- joins

join_by : (width : ℕ) (total : Option ℕ) → is_some (join_shape width total) ≡ true → (n : ℕ) × (total ≡ Some n) × (1 ≤ n) × (n ≤ WIDEST)
join_by width None h = absurd (cc h)
join_by width (Some n) h =
    let parts = and_parts (n == width) (is_width width) (if_some _ (Some (record { width = width; signed = false })) h).0 in
    let same = eqb-true n width parts.0 in
    let bounds = and_parts (nat_le 1 width) (nat_le width WIDEST) parts.1 in
    let least = leb-true 1 width bounds.0 in
    let most = leb-true width WIDEST bounds.1 in
    (n, refl, omega (arith, same, least), omega (arith, same, most))

some_part : (signals : List Signal) (parts : List Expr) (n : ℕ) → joined_width (map (shape_of signals) parts) ≡ Some n → 1 ≤ n → 0 < length parts
some_part signals [] n is least = absurd (let none : 0 ≡ n = cc is in omega (arith, none, least))
some_part signals (e ∷ rest) n is least = omega arith

-- the first part and the others
record Parts (first : Option Shape) (others : Option ℕ) (n : ℕ) : Type 0 where
  shape : Shape
  width : ℕ
  shape_is : first ≡ Some shape
  others_are : others ≡ Some width
  sum : shape.width + width ≡ n

parts_by : (first : Option Shape) (others : Option ℕ) (n : ℕ) → option_and_then (λ (a : Shape). option_map (λ n. a.width + n) others) first ≡ Some n → Parts first others n
parts_by None others n h = absurd (cc h)
parts_by (Some a) None n h = absurd (cc h)
parts_by (Some a) (Some m) n h = record { shape = a; width = m; shape_is = refl; others_are = refl; sum = cc h }

-- ---- reads

read_there : (o : Option Signal) (element : Option (Option Shape)) → is_some (read_shape o element) ≡ true
    → (signal : Signal) × (o ≡ Some signal) × (has_shape element ≡ true) × (is_some (signal_shape signal (is_some element)) ≡ true)
read_there None element h = absurd (cc h)
read_there (Some signal) element h = let parts = if_some (has_shape element) (signal_shape signal (is_some element)) h in (signal, refl, parts.0, parts.1)

signal_below : (signals : List Signal) (sig : ℕ) (signal : Signal) → slice_get signals sig ≡ Some signal → sig < length signals
signal_below [] sig signal h = absurd (cc h)
signal_below (one ∷ rest) zero signal h = omega arith
signal_below (one ∷ rest) (suc sig) signal h = let below = signal_below rest sig signal h in omega (arith, below)

count_by : (o : Option Signal) (signal : Signal) (n : ℕ) → o ≡ Some signal → n < signal.elements → n < count_in o
count_by o signal n e h = subst (λ o. n < count_in o) (sym e) h

whole_by : (o : Option Signal) (elements : Elements) (signal : Signal) → o ≡ Some signal
    → record { bits = slice_index_or elements 0 []; signed = signed_in o } ≡ read_of o elements None
whole_by None elements signal e = absurd (cc e)
whole_by (Some one) elements signal e = refl

-- ---- what is asked of the parts, and what a node is worth by them

module _ (d : Elaborated) (past_end : Bool) (words : List ℕ) where
  abbrev scene : Scene
  scene = scene_at d past_end words

  abbrev worth : Expr → FourState
  worth e = worth_of d.signals e scene

  abbrev Formed : Expr → Type 0
  Formed e = is_expr d.signals e ≡ true

  formed : (e : Expr) (shape : Shape) → shape_of d.signals e ≡ Some shape → Formed e
  formed e shape is = there (shape_of d.signals e) shape is

  long : (e : Expr) (shape : Shape) → shape_of d.signals e ≡ Some shape → length (worth e).bits ≡ shape.width
  long e shape is = (values_shaped d.signals scene e shape (values_fit words (signals_begin d) d.signals) is).width

  -- the bits of two operands are as many where their shapes are as wide
  as_long : (a b : Expr) (x y : Shape) → shape_of d.signals a ≡ Some x → shape_of d.signals b ≡ Some y → x.width ≡ y.width
      → (v w : FourState) → v ≡ worth a → w ≡ worth b → length v.bits ≡ length w.bits
  as_long a b x y a_is b_is same v w v_is w_is =
      ap (λ (v : FourState). length v.bits) v_is ∙ long a x a_is ∙ same ∙ sym (long b y b_is) ∙ sym (ap (λ (w : FourState). length w.bits) w_is)

  -- the parts of a concatenation, the first apart
  first_part : (e : Expr) (rest : List Expr) (j : IsJoin d.signals (e ∷ rest)) → Parts (shape_of d.signals e) (joined_width (map (shape_of d.signals) rest)) j.0
  first_part e rest j = parts_by (shape_of d.signals e) (joined_width (map (shape_of d.signals) rest)) j.0 j.1

  pub part_formed : (e : Expr) (rest : List Expr) → IsJoin d.signals (e ∷ rest) → Formed e
  part_formed e rest j = let p = first_part e rest j in formed e p.shape p.shape_is

  pub rest_formed : (e : Expr) (rest : List Expr) → IsJoin d.signals (e ∷ rest) → IsJoin d.signals rest
  rest_formed e rest j =
      let p = first_part e rest j in
      let sum = p.sum in
      let most = j.2 in
      (p.width, p.others_are, omega (arith, sum, most))

  joined_long : (parts : List Expr) (n : ℕ) → joined_width (map (shape_of d.signals) parts) ≡ Some n → length (joined_bits (map worth parts)) ≡ n
  joined_long [] n is = cc is
  joined_long (e ∷ rest) n is =
      let p = parts_by (shape_of d.signals e) (joined_width (map (shape_of d.signals) rest)) n is in
      let below = joined_long rest p.width p.others_are in
      let above = long e p.shape p.shape_is in
      let sum = p.sum in
      length-append (joined_bits (map worth rest)) (worth e).bits ∙ omega (arith, below, above, sum)

  -- the parts fit together
  pub parts_fit : (e : Expr) (rest : List Expr) → IsJoin d.signals (e ∷ rest) → (a b : FourState) → a ≡ worth e → b ≡ join_of d.signals rest scene
      → length a.bits + length b.bits ≤ 128
  parts_fit e rest j a b a_is b_is =
      let p = first_part e rest j in
      let above = ap (λ (a : FourState). length a.bits) a_is ∙ long e p.shape p.shape_is in
      let below = ap (λ (b : FourState). length b.bits) b_is ∙ joined_long rest p.width p.others_are in
      let sum = p.sum in
      let most = j.2 in
      omega (arith, above, below, sum, most)

  pub parts_worth : (e : Expr) (rest : List Expr) (a b v : FourState) → a ≡ worth e → b ≡ join_of d.signals rest scene → v ≡ concat_of a b
      → v ≡ join_of d.signals (e ∷ rest) scene
  unfolding concat_of
  parts_worth e rest a b v a_is b_is v_is = v_is ∙ ap₂ (λ (a b : FourState). concat_of a b) a_is b_is

  module _ (e : Expr) (h : Formed e) where
    -- a signal by itself
    module _ (sig : SigNo) (is : e ≡ roll-Expr (Expr-F.Read sig None)) where
      pub whole_element : IsElement d sig.0 0
      whole_element =
          let r = read_there (slice_get d.signals sig.0) None (formed_by d.signals e (Expr-F.Read sig None) is h) in
          let one = eqb-true r.0.elements 1 (if_some (r.0.elements == 1) (Some (record { width = r.0.width; signed = r.0.signed })) r.3).0 in
          count_by (slice_get d.signals sig.0) r.0 0 r.1 (omega (arith, one))

      pub whole_worth : (v : FourState) → v ≡ element_in d words sig.0 0 → v ≡ worth e
      whole_worth v v_is =
          let r = read_there (slice_get d.signals sig.0) None (formed_by d.signals e (Expr-F.Read sig None) is h) in
          v_is ∙ whole_by (slice_get d.signals sig.0) (slice_index_or scene.values sig.0 []) r.0 r.1 ∙ sym (worth_by d.signals scene e (Expr-F.Read sig None) is)

    -- an element
    module _ (sig : SigNo) (at : Expr) (is : e ≡ roll-Expr (Expr-F.Read sig (Some at))) where
      pub element_parts : Formed at × (sig.0 < length d.signals)
      element_parts =
          let r = read_there (slice_get d.signals sig.0) (Some (shape_of d.signals at)) (formed_by d.signals e (Expr-F.Read sig (Some at)) is h) in
          (r.2, signal_below d.signals sig.0 r.0 r.1)

      pub element_worth : (a v : FourState) → a ≡ worth at → v ≡ read_of (slice_get d.signals sig.0) (slice_index_or scene.values sig.0 []) (Some a) → v ≡ worth e
      element_worth a v a_is v_is =
          v_is ∙ ap (λ a. read_of (slice_get d.signals sig.0) (slice_index_or scene.values sig.0 []) (Some a)) a_is
          ∙ sym (worth_by d.signals scene e (Expr-F.Read sig (Some at)) is)

    module _ (of low : Expr) (scale shift : ℤ) (width : ℕ) (is : e ≡ roll-Expr (Expr-F.Select of low scale shift width)) where
      pub select_parts : Formed of × Formed low × (is_scale scale ≡ true) × (is_width width ≡ true)
      select_parts =
          let b = both (shape_of d.signals of) (shape_of d.signals low) _ (formed_by d.signals e (Expr-F.Select of low scale shift width) is h) in
          let parts = and_parts (is_scale scale) (is_width width) (if_some _ (Some (record { width = width; signed = false })) b.gives).0 in
          (formed of b.left b.left_is, formed low b.right b.right_is, parts.0, parts.1)

      pub select_worth : (a i v : FourState) → a ≡ worth of → i ≡ worth low → v ≡ selected_of a (low_of scale shift i) width → v ≡ worth e
      select_worth a i v a_is i_is v_is =
          v_is ∙ ap₂ (λ a i. selected_of a (low_of scale shift i) width) a_is i_is ∙ sym (worth_by d.signals scene e (Expr-F.Select of low scale shift width) is)

    module _ (op : UnaryOp) (of : Expr) (width : ℕ) (signed : Bool) (is : e ≡ roll-Expr (Expr-F.One op of width signed)) where
      pub one_parts : Formed of
      one_parts = let f = first (shape_of d.signals of) _ (formed_by d.signals e (Expr-F.One op of width signed) is h) in formed of f.shape f.is

      pub one_worth : (a v : FourState) → a ≡ worth of → v ≡ unary_of op a → v ≡ worth e
      one_worth a v a_is v_is = v_is ∙ ap (unary_of op) a_is ∙ sym (worth_by d.signals scene e (Expr-F.One op of width signed) is)

    module _ (op : BinaryOp) (left right : Expr) (width : ℕ) (signed : Bool) (is : e ≡ roll-Expr (Expr-F.Two op left right width signed)) where
      two_both : Both (shape_of d.signals left) (shape_of d.signals right) (λ a b. option_and_then (carried width signed) (binary_shape op a b))
      two_both = both (shape_of d.signals left) (shape_of d.signals right) _ (formed_by d.signals e (Expr-F.Two op left right width signed) is h)

      pub two_parts : Formed left × Formed right
      two_parts = (formed left two_both.left two_both.left_is, formed right two_both.right two_both.right_is)

      pub two_long : (a b : FourState) → a ≡ worth left → b ≡ worth right → is_free op ≡ false → length a.bits ≡ length b.bits
      two_long a b a_is b_is free =
          as_long left right two_both.left two_both.right two_both.left_is two_both.right_is
          (operands op two_both.left two_both.right width signed two_both.gives free) a b a_is b_is

      pub two_worth : (a b v : FourState) → a ≡ worth left → b ≡ worth right → v ≡ binary_of op a b → v ≡ worth e
      two_worth a b v a_is b_is v_is = v_is ∙ ap₂ (binary_of op) a_is b_is ∙ sym (worth_by d.signals scene e (Expr-F.Two op left right width signed) is)

    module _ (cond_of yes no : Expr) (width : ℕ) (signed : Bool) (is : e ≡ roll-Expr (Expr-F.Pick cond_of yes no width signed)) where
      pick_if : (is_some (shape_of d.signals cond_of) ≡ true) × (is_some (on_both (λ a b. option_and_then (carried width signed) (same_shape a b)) (shape_of d.signals yes) (shape_of d.signals no)) ≡ true)
      pick_if = if_some (is_some (shape_of d.signals cond_of)) _ (formed_by d.signals e (Expr-F.Pick cond_of yes no width signed) is h)

      pick_both : Both (shape_of d.signals yes) (shape_of d.signals no) (λ a b. option_and_then (carried width signed) (same_shape a b))
      pick_both = both (shape_of d.signals yes) (shape_of d.signals no) _ pick_if.1

      pub pick_parts : Formed cond_of × Formed yes × Formed no
      pick_parts = (pick_if.0, formed yes pick_both.left pick_both.left_is, formed no pick_both.right pick_both.right_is)

      pub pick_long : (a b : FourState) → a ≡ worth yes → b ≡ worth no → length a.bits ≡ length b.bits
      pick_long a b a_is b_is =
          let x = pick_both.left in
          let y = pick_both.right in
          let f = first (same_shape x y) (carried width signed) pick_both.gives in
          as_long yes no x y pick_both.left_is pick_both.right_is (carried_width y.width y.signed x (there (same_shape x y) f.shape f.is)) a b a_is b_is

      pub pick_worth : (c : FourState) (bit : Bit) (v : FourState) → c ≡ worth cond_of → bit ≡ truth_of c.bits
          → v ≡ picked_of bit (worth yes) (worth no) → v ≡ worth e
      pick_worth c bit v c_is bit_is v_is =
          v_is ∙ ap (λ bit. picked_of bit (worth yes) (worth no)) (bit_is ∙ ap (λ (c : FourState). truth_of c.bits) c_is)
          ∙ sym (worth_by d.signals scene e (Expr-F.Pick cond_of yes no width signed) is)

      pub pick_one : (c v : FourState) → c ≡ worth cond_of → truth_of c.bits ≡ One → v ≡ worth yes → v ≡ worth e
      pick_one c v c_is one v_is = pick_worth c One v c_is (sym one) v_is

      pub pick_zero : (c v : FourState) → c ≡ worth cond_of → truth_of c.bits ≡ Zero → v ≡ worth no → v ≡ worth e
      pick_zero c v c_is none v_is = pick_worth c Zero v c_is (sym none) v_is

      pub pick_merged : (c : FourState) (bit : Bit) (a b v : FourState) → c ≡ worth cond_of → bit ≡ truth_of c.bits → (bit ≡ One → ⊥) → (bit ≡ Zero → ⊥)
          → a ≡ worth yes → b ≡ worth no → v ≡ merge_of a b → v ≡ worth e
      pick_merged c bit a b v c_is bit_is not_one not_zero a_is b_is v_is =
          pick_worth c bit v c_is bit_is (v_is ∙ ap₂ merge_of a_is b_is ∙ merged bit (worth yes) (worth no) not_one not_zero)

    module _ (parts : List Expr) (width : ℕ) (is : e ≡ roll-Expr (Expr-F.Join parts width)) where
      join_all : (n : ℕ) × (joined_width (map (shape_of d.signals) parts) ≡ Some n) × (1 ≤ n) × (n ≤ WIDEST)
      join_all = join_by width (joined_width (map (shape_of d.signals) parts)) (formed_by d.signals e (Expr-F.Join parts width) is h)

      pub join_parts : (0 < length parts) × IsJoin d.signals parts
      join_parts = let a = join_all in (some_part d.signals parts a.0 a.1 a.2, (a.0, a.1, a.3))

      pub join_worth : (v : FourState) → v ≡ join_of d.signals parts scene → v ≡ worth e
      join_worth v v_is =
          v_is ∙ ap (λ bits. record { bits = joined_bits bits; signed = false }) (sym (worths parts)) ∙ sym (worth_by d.signals scene e (Expr-F.Join parts width) is)
        where
          worths : (es : List Expr) → map (λ (w : Worth). w scene) (map (worth_of d.signals) es) ≡ map (λ e. worth_of d.signals e scene) es
          worths [] = refl
          worths (e ∷ es) = ap (λ rest. worth_of d.signals e scene ∷ rest) (worths es)

    module _ (of : Expr) (width : ℕ) (signed : Bool) (is : e ≡ roll-Expr (Expr-F.Resize of width signed)) where
      pub resize_parts : Formed of × (1 ≤ width) × (width ≤ WIDEST)
      resize_parts =
          let f = first (shape_of d.signals of) _ (formed_by d.signals e (Expr-F.Resize of width signed) is h) in
          let bounds = and_parts (nat_le 1 width) (nat_le width WIDEST) (if_some (is_width width) (Some (record { width = width; signed = signed })) f.gives).0 in
          (formed of f.shape f.is, leb-true 1 width bounds.0, leb-true width WIDEST bounds.1)

      pub resize_worth : (a v : FourState) → a ≡ worth of → v ≡ resize_of a width signed → v ≡ worth e
      resize_worth a v a_is v_is = v_is ∙ ap (λ a. resize_of a width signed) a_is ∙ sym (worth_by d.signals scene e (Expr-F.Resize of width signed) is)

    module _ (of : Expr) (is : e ≡ roll-Expr (Expr-F.PastEnd of)) where
      pub past_end_parts : Formed of
      past_end_parts = let f = first (shape_of d.signals of) _ (formed_by d.signals e (Expr-F.PastEnd of) is h) in formed of f.shape f.is

      pub past_end_worth : (a v : FourState) → a ≡ worth of → v ≡ past_end_of past_end a → v ≡ worth e
      past_end_worth a v a_is v_is = v_is ∙ ap (past_end_of past_end) a_is ∙ sym (worth_by d.signals scene e (Expr-F.PastEnd of) is)
