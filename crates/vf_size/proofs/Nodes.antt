-- What is told of a node is told by its parts.
use Rattle.std.proofs.Common.{◌≡◌, ◌*◌, ◌≤◌, Bool, List, [], ◌∷◌, map, length, ap₂, arith, Ok, Err, true, false, refl, sym, ◌∙◌, ap}
use Rattle.vf_base.specs.declared.names.Place.{Place}
use Rattle.vf_fours.specs.declared.UnaryOp.{UnaryOp}
use Rattle.vf_fours.specs.declared.BinaryOp.{BinaryOp}
use Rattle.vf_tree.specs.declared.words.Name.{Name}
use Rattle.vf_tree.specs.declared.words.Number.{Number}
use Rattle.vf_tree.specs.declared.expressions.TreeExpr.{TreeExpr, out-TreeExpr}
use Rattle.vf_tree.specs.declared.expressions.ExprForm.TheVariants as form
use Rattle.vf_tree.specs.declared.expressions.PrimaryForm.TheVariants as primary
use Rattle.vf_tree.specs.declared.expressions.Primary.{Primary, out-Primary}
use Rattle.vf_tree.specs.declared.expressions.Select.{Select, out-Select}
use Rattle.vf_tree.specs.declared.expressions.SelectForm.TheVariants as select
use Rattle.vf_tree.specs.declared.expressions.SignCall.{SignCall}
use Rattle.vf_tree.specs.declared.expressions.ExprForm.TheOpen.{ExprForm-F, PrimaryForm-F, SelectForm-F}
use Rattle.vf_tree.specs.declared.expressions.ExprForm.TheFolds.{fold-roll-ExprForm, fold-roll-PrimaryForm, fold-roll-SelectForm, fold_out-TreeExpr, fold_out-Primary, fold_out-Select}
use Rattle.vf_elaborated.specs.declared.design.Signal.{Signal}
use Rattle.vf_scope.specs.Names.{Names}
use Rattle.vf_elaborated.specs.declared.expr.Expr.TheVariants as expr
use Rattle.vf_size.specs.Rules.{marked_by, shape_of_value, unary_size, binary_size, common, joined, fitted}
use Rattle.vf_size.specs.Faults.{Sized, fails, ◌>>=◌}
use Rattle.vf_size.specs.declared.base.Base.{Base}
use Rattle.vf_size.specs.declared.fault.SizeKind.TheVariants.{Width}
use Rattle.vf_size.specs.Selects.{bit_part, range_part, up_part, down_part}
use Rattle.vf_fours.specs.Bits.{FourState}
use Rattle.vf_elaborated.specs.Shapes.{Shape}
use Rattle.vf_size.specs.Worths.{plain_worth, part_worth}
use Rattle.vf_size.specs.Sizes.{count_of, widths, bound, part_of, plain_shape, memory_shape, bits_of, element_of, by_element, ahead, settled, visit, index_of, worth, low_of, Told, Operand, Choice, one, range, up, down, leaf, unary, binary, pick, end_of_file, unless_constant, name_shape, name_typed, concat, repeat, sign_call, told_of, form_of, primary_of, choice_of, select_of, form_told, primary_told, select_told}

module _ (names : Names) (signals : List Signal) where
  abbrev told : TreeExpr → Operand
  told = told_of names signals

  pub told_form : (e : TreeExpr) → told e ≡ record { place = (out-TreeExpr e).place; told = form_of names signals (out-TreeExpr e).form }
  unfolding form_of primary_of told_of select_of choice_of
  told_form e =
      fold_out-TreeExpr Told (Place → Told) Choice Told Choice Operand (form_told names signals) (primary_told names signals) (select_told names signals) _ _ _ e

  pub choice_form : (s : Select) → select_of names signals s ≡ choice_of names signals (out-Select s).form
  unfolding form_of primary_of told_of select_of choice_of
  choice_form s =
      fold_out-Select Told (Place → Told) Choice Told Choice Operand (form_told names signals) (primary_told names signals) (select_told names signals) _ _ _ s

  -- ---- forms

  pub form_plain : (p : Primary) → form_of names signals (form.Plain p) ≡ primary_of names signals (out-Primary p).form (out-Primary p).place
  unfolding form_of primary_of told_of select_of choice_of
  form_plain p =
      ap (form_of names signals) (sym (form.rolls-Plain p))
      ∙ (fold-roll-ExprForm Told (Place → Told) Choice Told Choice Operand (form_told names signals) (primary_told names signals) (select_told names signals) _ _ _ (ExprForm-F.Plain p)
      ∙ fold_out-Primary Told (Place → Told) Choice Told Choice Operand (form_told names signals) (primary_told names signals) (select_told names signals) _ _ _ p)

  pub form_one : (op : UnaryOp) (of : TreeExpr) → form_of names signals (form.One op of) ≡ unary op (told of).told
  unfolding form_of primary_of told_of select_of choice_of
  form_one op of =
      ap (form_of names signals) (sym (form.rolls-One op of))
      ∙ fold-roll-ExprForm Told (Place → Told) Choice Told Choice Operand (form_told names signals) (primary_told names signals) (select_told names signals) _ _ _ (ExprForm-F.ExprForm::One op of)

  pub form_two : (op : BinaryOp) (left right : TreeExpr) → form_of names signals (form.Two op left right) ≡ binary op (told left).told (told right).told
  unfolding form_of primary_of told_of select_of choice_of
  form_two op left right =
      ap (form_of names signals) (sym (form.rolls-Two op left right))
      ∙ fold-roll-ExprForm Told (Place → Told) Choice Told Choice Operand (form_told names signals) (primary_told names signals) (select_told names signals) _ _ _ (ExprForm-F.Two op left right)

  pub form_pick : (cond a b : TreeExpr) → form_of names signals (form.Pick cond a b) ≡ pick (told cond).told (told a).told (told b).told
  unfolding form_of primary_of told_of select_of choice_of
  form_pick cond a b =
      ap (form_of names signals) (sym (form.rolls-Pick cond a b))
      ∙ fold-roll-ExprForm Told (Place → Told) Choice Told Choice Operand (form_told names signals) (primary_told names signals) (select_told names signals) _ _ _ (ExprForm-F.Pick cond a b)

  -- ---- operands

  pub primary_number : (number : Number) (place : Place) → primary_of names signals (primary.Number number) place ≡ leaf (λ constant. Ok (shape_of_value number.value)) (λ constant. Ok (expr.Const number.value))
  unfolding form_of primary_of told_of select_of choice_of
  primary_number number place =
      ap (λ form. primary_of names signals form place) (sym (primary.rolls-Number number))
      ∙ ap (λ f. f place) (fold-roll-PrimaryForm Told (Place → Told) Choice Told Choice Operand (form_told names signals) (primary_told names signals) (select_told names signals) _ _ _ (PrimaryForm-F.Number number))

  pub primary_name : (name : Name) (selects : List Select) (place : Place) → primary_of names signals (primary.Name name selects) place ≡ leaf (name_shape names signals name (map (select_of names signals) selects)) (name_typed names signals name (map (select_of names signals) selects))
  unfolding form_of primary_of told_of select_of choice_of
  primary_name name selects place =
      ap (λ form. primary_of names signals form place) (sym (primary.rolls-Name name selects))
      ∙ ap (λ f. f place) (fold-roll-PrimaryForm Told (Place → Told) Choice Told Choice Operand (form_told names signals) (primary_told names signals) (select_told names signals) _ _ _ (PrimaryForm-F.Name name selects))

  pub primary_paren : (e : TreeExpr) (place : Place) → primary_of names signals (primary.Paren e) place ≡ (told e).told
  unfolding form_of primary_of told_of select_of choice_of
  primary_paren e place =
      ap (λ form. primary_of names signals form place) (sym (primary.rolls-Paren e))
      ∙ ap (λ f. f place) (fold-roll-PrimaryForm Told (Place → Told) Choice Told Choice Operand (form_told names signals) (primary_told names signals) (select_told names signals) _ _ _ (PrimaryForm-F.Paren e))

  pub primary_concat : (parts : List TreeExpr) (place : Place) → primary_of names signals (primary.Concat parts) place ≡ concat place (map told parts)
  unfolding form_of primary_of told_of select_of choice_of
  primary_concat parts place =
      ap (λ form. primary_of names signals form place) (sym (primary.rolls-Concat parts))
      ∙ ap (λ f. f place) (fold-roll-PrimaryForm Told (Place → Told) Choice Told Choice Operand (form_told names signals) (primary_told names signals) (select_told names signals) _ _ _ (PrimaryForm-F.Concat parts))

  pub primary_repeat : (count : TreeExpr) (parts : List TreeExpr) (place : Place) → primary_of names signals (primary.Repeat count parts) place ≡ repeat place (told count).told (map told parts)
  unfolding form_of primary_of told_of select_of choice_of
  primary_repeat count parts place =
      ap (λ form. primary_of names signals form place) (sym (primary.rolls-Repeat count parts))
      ∙ ap (λ f. f place) (fold-roll-PrimaryForm Told (Place → Told) Choice Told Choice Operand (form_told names signals) (primary_told names signals) (select_told names signals) _ _ _ (PrimaryForm-F.Repeat count parts))

  pub primary_time : (place : Place) → primary_of names signals primary.Time place ≡ leaf (unless_constant place (record { width = 64; signed = false })) (λ constant. Ok expr.Now)
  unfolding form_of primary_of told_of select_of choice_of
  primary_time place =
      ap (λ form. primary_of names signals form place) (sym primary.rolls-Time)
      ∙ ap (λ f. f place) (fold-roll-PrimaryForm Told (Place → Told) Choice Told Choice Operand (form_told names signals) (primary_told names signals) (select_told names signals) _ _ _ PrimaryForm-F.Time)

  pub primary_feof : (e : TreeExpr) (place : Place) → primary_of names signals (primary.Feof e) place ≡ end_of_file place (told e).told
  unfolding form_of primary_of told_of select_of choice_of
  primary_feof e place =
      ap (λ form. primary_of names signals form place) (sym (primary.rolls-Feof e))
      ∙ ap (λ f. f place) (fold-roll-PrimaryForm Told (Place → Told) Choice Told Choice Operand (form_told names signals) (primary_told names signals) (select_told names signals) _ _ _ (PrimaryForm-F.Feof e))

  pub primary_sign : (call : SignCall) (e : TreeExpr) (place : Place) → primary_of names signals (primary.Sign call e) place ≡ sign_call (marked_by call) (told e).told
  unfolding form_of primary_of told_of select_of choice_of
  primary_sign call e place =
      ap (λ form. primary_of names signals form place) (sym (primary.rolls-Sign call e))
      ∙ ap (λ f. f place) (fold-roll-PrimaryForm Told (Place → Told) Choice Told Choice Operand (form_told names signals) (primary_told names signals) (select_told names signals) _ _ _ (PrimaryForm-F.Sign call e))

  -- ---- selects

  pub choice_one : (index : TreeExpr) → choice_of names signals (select.One index) ≡ one (told index)
  unfolding form_of primary_of told_of select_of choice_of
  choice_one index =
      ap (choice_of names signals) (sym (select.rolls-One index))
      ∙ fold-roll-SelectForm Told (Place → Told) Choice Told Choice Operand (form_told names signals) (primary_told names signals) (select_told names signals) _ _ _ (SelectForm-F.SelectForm::One index)

  pub choice_range : (first last : TreeExpr) → choice_of names signals (select.Part first last) ≡ range (told first) (told last)
  unfolding form_of primary_of told_of select_of choice_of
  choice_range first last =
      ap (choice_of names signals) (sym (select.rolls-Part first last))
      ∙ fold-roll-SelectForm Told (Place → Told) Choice Told Choice Operand (form_told names signals) (primary_told names signals) (select_told names signals) _ _ _ (SelectForm-F.Part first last)

  pub choice_up : (from width : TreeExpr) → choice_of names signals (select.Up from width) ≡ up (told from) (told width)
  unfolding form_of primary_of told_of select_of choice_of
  choice_up from width =
      ap (choice_of names signals) (sym (select.rolls-Up from width))
      ∙ fold-roll-SelectForm Told (Place → Told) Choice Told Choice Operand (form_told names signals) (primary_told names signals) (select_told names signals) _ _ _ (SelectForm-F.Up from width)

  pub choice_down : (from width : TreeExpr) → choice_of names signals (select.Down from width) ≡ down (told from) (told width)
  unfolding form_of primary_of told_of select_of choice_of
  choice_down from width =
      ap (choice_of names signals) (sym (select.rolls-Down from width))
      ∙ fold-roll-SelectForm Told (Place → Told) Choice Told Choice Operand (form_told names signals) (primary_told names signals) (select_told names signals) _ _ _ (SelectForm-F.Down from width)

  -- ---- shapes

  pub shape_one : (op : UnaryOp) (of : TreeExpr) (k : Bool) → (form_of names signals (form.One op of)).shape k ≡ ((told of).told.shape k >>= (λ a. Ok (unary_size op a)))
  shape_one op of k = ap (λ t. t.shape k) (form_one op of)

  pub shape_two : (op : BinaryOp) (left right : TreeExpr) (k : Bool) → (form_of names signals (form.Two op left right)).shape k
      ≡ ((told left).told.shape k >>= (λ a. (told right).told.shape k >>= (λ b. Ok (binary_size op a b))))
  shape_two op left right k = ap (λ t. t.shape k) (form_two op left right)

  pub shape_pick : (cond a b : TreeExpr) (k : Bool) → (form_of names signals (form.Pick cond a b)).shape k
      ≡ ((told cond).told.shape k >>= (λ c. (told a).told.shape k >>= (λ x. (told b).told.shape k >>= (λ y. Ok (common x y)))))
  shape_pick cond a b k = ap (λ t. t.shape k) (form_pick cond a b)

  pub shape_name : (name : Name) (selects : List Select) (place : Place) (k : Bool)
      → (primary_of names signals (primary.Name name selects) place).shape k ≡ name_shape names signals name (map (select_of names signals) selects) k
  shape_name name selects place k = ap (λ t. t.shape k) (primary_name name selects place)

  pub shape_repeat : (count : TreeExpr) (parts : List TreeExpr) (place : Place) (k : Bool) → (primary_of names signals (primary.Repeat count parts) place).shape k
      ≡ (count_of place (told count).told >>= (λ n. widths k 0 (map told parts) >>= (λ w. joined place (n * w))))
  shape_repeat count parts place k = ap (λ t. t.shape k) (primary_repeat count parts place)

  pub shape_sign : (call : SignCall) (e : TreeExpr) (place : Place) (k : Bool) → (primary_of names signals (primary.Sign call e) place).shape k
      ≡ ((told e).told.shape k >>= (λ a. Ok (marked_by call a)))
  shape_sign call e place k = ap (λ t. t.shape k) (primary_sign call e place)

  pub part_one : (base : Base) (index : TreeExpr) → part_of base (choice_of names signals (select.One index)) ≡ Ok (bit_part base.left base.right)
  part_one base index = ap (part_of base) (choice_one index)

  pub part_range : (base : Base) (first last : TreeExpr) → part_of base (choice_of names signals (select.Part first last))
      ≡ (bound (told first) >>= (λ a. bound (told last) >>= (λ b. Ok (range_part base.left base.right a b))))
  part_range base first last = ap (part_of base) (choice_range first last)

  pub part_up : (base : Base) (from width : TreeExpr) → part_of base (choice_of names signals (select.Up from width))
      ≡ (bound (told width) >>= (λ n. Ok (up_part base.left base.right n)))
  part_up base from width = ap (part_of base) (choice_up from width)

  pub part_down : (base : Base) (from width : TreeExpr) → part_of base (choice_of names signals (select.Down from width))
      ≡ (bound (told width) >>= (λ n. Ok (down_part base.left base.right n)))
  part_down base from width = ap (part_of base) (choice_down from width)

  -- ---- lists of selects

  abbrev chosen : Select → Choice
  chosen s = choice_of names signals (out-Select s).form

  pub plain_one : (place : Place) (base : Base) (k : Bool) (s : Select) → plain_shape place base k (map (select_of names signals) (s ∷ []))
      ≡ (bits_of place base k (chosen s) >>= (λ part. Ok part.shape))
  plain_one place base k s = ap (λ c. plain_shape place base k (c ∷ [])) (choice_form s)

  pub memory_one : (place : Place) (base : Base) (k : Bool) (s : Select) → memory_shape place base k (map (select_of names signals) (s ∷ []))
      ≡ (element_of place k (chosen s) >>= (λ known. Ok base.shape))
  memory_one place base k s = ap (λ c. memory_shape place base k (c ∷ [])) (choice_form s)

  flat : {A B : Type 0} (single fits known_element known : Sized (Unit {0})) (part : Sized A) (f : A → Sized B)
      → ((single >>= (λ u. fits >>= (λ u. known_element >>= (λ u. known >>= (λ u. part))))) >>= f)
      ≡ (single >>= (λ u. fits >>= (λ u. known_element >>= (λ u. known >>= (λ u. part >>= f)))))
  flat (Err e) fits known_element known part f = refl
  flat (Ok u) (Err e) known_element known part f = refl
  flat (Ok u) (Ok v) (Err e) known part f = refl
  flat (Ok u) (Ok v) (Ok t) (Err e) part f = refl
  flat (Ok u) (Ok v) (Ok t) (Ok r) part f = refl

  pub memory_two : (place : Place) (base : Base) (k : Bool) (s t : Select) → memory_shape place base k (map (select_of names signals) (s ∷ t ∷ []))
      ≡ (by_element place (chosen s) >>= (λ u. ahead place (part_of base (chosen t)) >>= (λ u. visit k (index_of (chosen s)) >>= (λ u. visit k (index_of (chosen t)) >>= (λ u.
      settled place (part_of base (chosen t)) >>= (λ part. Ok part.shape))))))
  memory_two place base k s t =
      ap₂ (λ c d. memory_shape place base k (c ∷ d ∷ [])) (choice_form s) (choice_form t)
      ∙ flat (by_element place (chosen s)) (ahead place (part_of base (chosen t))) (visit k (index_of (chosen s))) (visit k (index_of (chosen t))) (settled place (part_of base (chosen t))) (λ part. Ok part.shape)

  pub worth_one : (place : Place) (base : Base) (v : FourState) (s : Select) (to : Shape) → plain_worth place base v (map (select_of names signals) (s ∷ [])) to
      ≡ (bits_of place base true (chosen s) >>= (λ part. worth (low_of true (chosen s)) >>= (λ index. Ok (fitted part.shape to (part_worth v part index)))))
  worth_one place base v s to = ap (λ c. plain_worth place base v (c ∷ []) to) (choice_form s)

  pub plain_many : (place : Place) (base : Base) (k : Bool) (ss : List Select) → 2 ≤ length ss → plain_shape place base k (map (select_of names signals) ss) ≡ fails Width place
  plain_many place base k [] h = absurd (omega (arith, h))
  plain_many place base k (s ∷ []) h = absurd (omega (arith, h))
  plain_many place base k (s ∷ t ∷ ss) h = refl

  pub memory_many : (place : Place) (base : Base) (k : Bool) (ss : List Select) → 3 ≤ length ss → memory_shape place base k (map (select_of names signals) ss) ≡ fails Width place
  memory_many place base k [] h = absurd (omega (arith, h))
  memory_many place base k (s ∷ []) h = absurd (omega (arith, h))
  memory_many place base k (s ∷ t ∷ []) h = absurd (omega (arith, h))
  memory_many place base k (s ∷ t ∷ u ∷ ss) h = refl
