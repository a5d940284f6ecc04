-- An expression that has a shape is worth values of that shape.
use Rattle.std.proofs.Common.{◌≡◌, ℕ, zero, suc, ◌+◌, ◌<◌, Bool, true, false, ◌&&◌, List, [], ◌∷◌, length, map, slice_get, slice_index_or, Option, Some, None, cond, refl, sym, ◌∙◌, ap, ap₂, subst, arith}
use Rattle.std.proofs.lemmas.Bool.{eqb-true, ltb-true, false≢true, and_parts}
use Rattle.std.proofs.lemmas.List.{length-replicate, length-append}
use Rattle.std.specs.Prelude.{nat_lt, ◌==◌, if◌then◌else◌, ℤ, pos, negsuc, ◌-ℤ◌, is_some, ⊤}
use Rattle.std.specs.Bool.{beq}
use Rattle.std.specs.List.{AllZip}
use Rattle.std.specs.Option.{option_map, option_and_then}
use Rattle.std.proofs.Math.Path.{fun_ext}
use Rattle.vf_fours.specs.declared.Bit.{Bit}
use Rattle.vf_fours.specs.declared.Bit.TheVariants.{Zero, One, X, Z}
use Rattle.vf_fours.specs.Bits.{FourState, merge_bit}
use Rattle.vf_fours.specs.Operators.{select_of, resize_of, bitwise_of, truth_of}
use Rattle.vf_fours.specs.Shapes.{length-tabulate}
use Rattle.vf_elaborated.specs.declared.design.Signal.{Signal}
use Rattle.vf_elaborated.specs.declared.expr.Expr.{Expr, roll-Expr}
use Rattle.vf_elaborated.specs.declared.expr.Expr.TheOpen.{Expr-F}
use Rattle.vf_elaborated.specs.declared.expr.Expr.TheFolds.{map-Expr, fold-roll-Expr, ind-Expr}
use Rattle.vf_elaborated.specs.Nodes.{told}
use Rattle.vf_elaborated.specs.Values.{Elements, Scene, Worth, worth_of, node_worth, index_of, inside, element_of, element_bits, read_of, selected_of, picked_of, joined_bits, low_of}
use Rattle.vf_elaborated.specs.Shapes.{Shape, HasShape, FitsSignal, shape_of, node_shape, carried, same_shape, on_both, joined_width, join_shape, read_shape, signal_shape, has_shape, is_one_element, is_width, is_scale, unary_shape, binary_shape}
use Rattle.vf_elaborated.specs.Laws.{ValuesHaveTheirShapes}
use Rattle.vf_elaborated.proofs.NodeLemmas.{told_is_fold}
use Rattle.vf_elaborated.proofs.OperatorShapes.{some_is, none_is, zip_length, digits_length, tested_shape, unary_shaped, binary_shaped}

-- ---- what is told of a node that is made

pub told_roll : {A : Type 0} (step : Expr-F A → A) (x : Expr-F Expr) → told step (roll-Expr x) ≡ step (map-Expr Expr A (told step) x)
told_roll {A} step x =
    told_is_fold 8 step (roll-Expr x) ∙ (fold-roll-Expr A step x ∙ sym (ap (λ f. step (map-Expr Expr A f x)) (fun_ext (told_is_fold 8 step))))

-- ---- parts of an answer that is there

record Known {A B : Type 0} (o : Option A) (f : A → Option B) (b : B) : Type 0 where
  it : A
  is : o ≡ Some it
  gives : f it ≡ Some b

known : {A B : Type 0} (o : Option A) (f : A → Option B) (b : B) → option_and_then f o ≡ Some b → Known o f b
known None f b h = none_is b h
known (Some a) f b h = record { it = a; is = refl; gives = h }

-- ---- reads

FitsAt : Option Signal → Elements → Type 0
FitsAt None elements = ⊤
FitsAt (Some signal) elements = FitsSignal signal elements

fits_at : (signals : List Signal) (values : List Elements) (sig : ℕ) → AllZip FitsSignal signals values → FitsAt (slice_get signals sig) (slice_index_or values sig [])
unfolding FitsAt
fits_at [] [] sig h = tt
fits_at [] (v ∷ values) sig h = absurd h
fits_at (s ∷ signals) [] sig h = absurd h
fits_at (s ∷ signals) (v ∷ values) zero h = h.0
fits_at (s ∷ signals) (v ∷ values) (suc sig) h = fits_at signals values sig h.1

IsBelow : ℕ → Option ℕ → Type 0
IsBelow n None = ⊤
IsBelow n (Some i) = i < n

inside_below : (n : ℕ) (z : ℤ) → IsBelow n (inside n z)
unfolding IsBelow
inside_below n (negsuc i) = tt
inside_below n (pos i) = by (nat_lt i n) refl
  where
    by : (b : Bool) → nat_lt i n ≡ b → IsBelow n (if b then Some i else None)
    by true e = ltb-true i n e
    by false e = tt

address_below : (signal : Signal) (index : Option ℤ) → IsBelow signal.elements (option_and_then (λ at. inside signal.elements (at -ℤ signal.first)) index)
unfolding IsBelow
address_below signal None = tt
address_below signal (Some at) = inside_below signal.elements (at -ℤ signal.first)

element_length : (signal : Signal) (elements : Elements) (i : Option ℕ) → FitsSignal signal elements → IsBelow signal.elements i
    → length (element_bits signal elements i) ≡ signal.width
unfolding IsBelow
element_length signal elements None fits below = length-replicate signal.width X
element_length signal elements (Some i) fits below = fits.widths i [] (subst (λ n. i < n) (sym fits.count) below)

one_below : (signal : Signal) (address : Option FourState) → is_one_element signal (is_some address) ≡ true → IsBelow signal.elements (element_of signal address)
unfolding IsBelow
one_below signal None h = omega (arith, eqb-true signal.elements 1 h)
one_below signal (Some a) h = address_below signal (index_of a)

signal_shaped : (signal : Signal) (elements : Elements) (address : Option FourState) (s : Shape) → FitsSignal signal elements
    → signal_shape signal (is_some address) ≡ Some s → HasShape (read_of (Some signal) elements address) s
signal_shaped signal elements address s fits h =
    tested_shape (is_one_element signal (is_some address)) _ (read_of (Some signal) elements address) s
    (λ one. record { width = element_length signal elements (element_of signal address) fits (one_below signal address one); signed = refl }) h

read_shaped : (found : Option Signal) (elements : Elements) (address : Option FourState) (element : Option (Option Shape)) (s : Shape) → FitsAt found elements
    → is_some address ≡ is_some element → read_shape found element ≡ Some s → HasShape (read_of found elements address) s
unfolding FitsAt
read_shaped None elements address element s fits same h = none_is s h
read_shaped (Some signal) elements address element s fits same h = by (has_shape element) h
  where
    by : (t : Bool) → (if t then signal_shape signal (is_some element) else None) ≡ Some s → HasShape (read_of (Some signal) elements address) s
    by true g = signal_shaped signal elements address s fits (ap (signal_shape signal) same ∙ g)
    by false g = none_is s g

-- ---- the other nodes

selected_length : (a : FourState) (low : Option ℤ) (width : ℕ) → HasShape (selected_of a low width) (record { width = width; signed = false })
unfolding select_of
selected_length a None width = record { width = length-replicate width X; signed = refl }
selected_length a (Some low) width = record { width = length-tabulate _ width; signed = refl }

resized_shape : (a : FourState) (width : ℕ) (signed : Bool) → HasShape (resize_of a width signed) (record { width = width; signed = signed })
unfolding resize_of
resized_shape a width signed = record { width = length-tabulate _ width; signed = refl }

same_mark : (a b : Bool) → beq a b ≡ true → a ≡ b
same_mark true true e = refl
same_mark true false e = absurd (false≢true e)
same_mark false true e = absurd (false≢true e)
same_mark false false e = refl

both_marks : (a : Bool) → (a && a) ≡ a
both_marks true = refl
both_marks false = refl

-- both arms have the shape, so a choice has it
picked_shape : (t : Bit) (a b : FourState) (s : Shape) → HasShape a s → HasShape b s → HasShape (picked_of t a b) s
unfolding bitwise_of
picked_shape One a b s ha hb = ha
picked_shape Zero a b s ha hb = hb
picked_shape X a b s ha hb = record { width = zip_length merge_bit a.bits b.bits (ha.width ∙ sym hb.width) ∙ ha.width; signed = ap₂ (λ x y. x && y) ha.signed hb.signed ∙ both_marks s.signed }
picked_shape Z a b s ha hb = record { width = zip_length merge_bit a.bits b.bits (ha.width ∙ sym hb.width) ∙ ha.width; signed = ap₂ (λ x y. x && y) ha.signed hb.signed ∙ both_marks s.signed }

module _ (signals : List Signal) (scene : Scene) (fits : AllZip FitsSignal signals scene.values) where
  abbrev IsShaped : Expr → Type 0
  IsShaped e = (s : Shape) → shape_of signals e ≡ Some s → HasShape (worth_of signals e scene) s

  abbrev Part : Type 0
  Part = (e : Expr) × IsShaped e

  abbrev worth_at : Part → FourState
  worth_at part = worth_of signals part.0 scene

  abbrev shape_at : Part → Option Shape
  shape_at part = shape_of signals part.0

  -- the arms of a choice
  arms_shaped : (t : Bit) (a b : Part) (width : ℕ) (signed : Bool) (s : Shape)
      → on_both (λ x y. option_and_then (carried width signed) (same_shape x y)) (shape_at a) (shape_at b) ≡ Some s → HasShape (picked_of t (worth_at a) (worth_at b)) s
  arms_shaped t a b width signed s h =
      let ka = known (shape_at a) _ s h in
      let kb = known (shape_at b) _ s ka.gives in
      let kc = known (same_shape ka.it kb.it) (carried width signed) s kb.gives in
      tested_shape (kc.it.width == width && beq kc.it.signed signed) kc.it _ s
      (λ _. tested_shape (ka.it.width == kb.it.width && beq ka.it.signed kb.it.signed) ka.it _ kc.it
      (λ same.
      let parts = and_parts (ka.it.width == kb.it.width) (beq ka.it.signed kb.it.signed) same in
      let hb = b.1 kb.it kb.is in
      picked_shape t (worth_at a) (worth_at b) ka.it (a.1 ka.it ka.is)
      (record { width = hb.width ∙ sym (eqb-true ka.it.width kb.it.width parts.0); signed = hb.signed ∙ sym (same_mark ka.it.signed kb.it.signed parts.1) }))
      kc.is)
      kc.gives

  -- the parts of a concatenation
  abbrev widths_in : List Part → Option ℕ
  widths_in parts = joined_width (map (shape_of signals) (map (λ (e : Part). e.0) parts))

  abbrev bits_in : List Part → List Bit
  bits_in parts = joined_bits (map (λ (worth : Worth). worth scene) (map (worth_of signals) (map (λ (e : Part). e.0) parts)))

  joined_length : (parts : List Part) (n : ℕ) → widths_in parts ≡ Some n → length (bits_in parts) ≡ n
  joined_length [] n h = some_is 0 n h
  joined_length (part ∷ rest) n h =
      let k = known (shape_at part) (λ (a : Shape). option_map (λ m. a.width + m) (widths_in rest)) n h in
      let r = known (widths_in rest) (λ m. Some (k.it.width + m)) n (mapped (widths_in rest) k.it.width n k.gives) in
      let first = (part.1 k.it k.is).width in
      let others = joined_length rest r.it r.is in
      let all = some_is (k.it.width + r.it) n r.gives in
      length-append (bits_in rest) (worth_at part).bits ∙ omega (arith, first, others, all)
    where
      mapped : (o : Option ℕ) (w n : ℕ) → option_map (λ m. w + m) o ≡ Some n → option_and_then (λ m. Some (w + m)) o ≡ Some n
      mapped None w n e = e
      mapped (Some m) w n e = e

  join_shaped : (bits : List Bit) (width : ℕ) (o : Option ℕ) (s : Shape) → ((n : ℕ) → o ≡ Some n → length bits ≡ n) → join_shape width o ≡ Some s
      → HasShape (record { bits = bits; signed = false }) s
  join_shaped bits width None s is h = none_is s h
  join_shaped bits width (Some n) s is h =
      tested_shape (n == width && is_width width) _ _ s
      (λ t. record { width = is n refl ∙ eqb-true n width (and_parts (n == width) (is_width width) t).0; signed = refl }) h

  shaped : (y : Expr-F Part) → IsShaped (roll-Expr (map-Expr Part Expr (λ e. e.0) y))
  shaped y s h =
      subst (λ w. HasShape (w scene) s) (sym (told_roll (node_worth signals) (map-Expr Part Expr (λ e. e.0) y)))
      (node y s (sym (told_roll (node_shape signals) (map-Expr Part Expr (λ e. e.0) y)) ∙ h))
    where
      node : (y : Expr-F Part) (s : Shape) → node_shape signals (map-Expr Expr (Option Shape) (shape_of signals) (map-Expr Part Expr (λ e. e.0) y)) ≡ Some s
          → HasShape (node_worth signals (map-Expr Expr Worth (worth_of signals) (map-Expr Part Expr (λ e. e.0) y)) scene) s
      node (Expr-F.Const a) s h = subst (HasShape a) (some_is _ s h) (record { width = refl; signed = refl })
      node (Expr-F.Read sig None) s h = read_shaped (slice_get signals sig.0) (slice_index_or scene.values sig.0 []) None None s (fits_at signals scene.values sig.0 fits) refl h
      node (Expr-F.Read sig (Some e)) s h =
          read_shaped (slice_get signals sig.0) (slice_index_or scene.values sig.0 []) (Some (worth_at e)) (Some (shape_at e)) s (fits_at signals scene.values sig.0 fits) refl h
      node (Expr-F.Select of low scale shift width) s h =
          let k = known (shape_at of) _ s h in
          let l = known (shape_at low) _ s k.gives in
          tested_shape (is_scale scale && is_width width) _ _ s (λ _. selected_length (worth_at of) (low_of scale shift (worth_at low)) width) l.gives
      node (Expr-F.One op of width signed) s h =
          let k = known (shape_at of) _ s h in
          tested_shape _ (unary_shape op k.it) _ s (λ _. unary_shaped op (worth_at of) k.it (of.1 k.it k.is)) k.gives
      node (Expr-F.Two op left right width signed) s h =
          let k = known (shape_at left) _ s h in
          let l = known (shape_at right) _ s k.gives in
          let m = known (binary_shape op k.it l.it) (carried width signed) s l.gives in
          tested_shape _ m.it _ s (λ _. binary_shaped (worth_at left) (worth_at right) k.it l.it m.it (left.1 k.it k.is) (right.1 l.it l.is) op m.is) m.gives
      node (Expr-F.Pick cond a b width signed) s h = by (is_some (shape_at cond)) h
        where
          by : (t : Bool) → (if t then on_both (λ x y. option_and_then (carried width signed) (same_shape x y)) (shape_at a) (shape_at b) else None) ≡ Some s
              → HasShape (picked_of (truth_of (worth_at cond).bits) (worth_at a) (worth_at b)) s
          by true g = arms_shaped (truth_of (worth_at cond).bits) a b width signed s g
          by false g = none_is s g
      node (Expr-F.Join parts width) s h = join_shaped (bits_in parts) width (widths_in parts) s (joined_length parts) h
      node (Expr-F.Resize of width signed) s h =
          let k = known (shape_at of) _ s h in
          tested_shape (is_width width) _ _ s (λ _. resized_shape (worth_at of) width signed) k.gives
      node Expr-F.Now s h = subst (HasShape _) (some_is _ s h) (record { width = digits_length 64 scene.time; signed = refl })
      node (Expr-F.PastEnd of) s h =
          let k = known (shape_at of) _ s h in
          subst (HasShape _) (some_is _ s k.gives) (record { width = digits_length 32 _; signed = refl })

pub values_shaped : ValuesHaveTheirShapes
values_shaped signals scene e s fits h =
    ind-Expr (IsShaped signals scene fits) (λ x y is. subst (λ z. IsShaped signals scene fits (roll-Expr z)) is (shaped signals scene fits y)) e s h
