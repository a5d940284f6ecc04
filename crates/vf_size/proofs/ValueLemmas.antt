-- What constant expressions are worth, node by node.
use Rattle.std.proofs.Common.{◌≡◌, ℕ, zero, suc, ◌*◌, ◌<◌, Bool, true, false, List, [], ◌∷◌, ◌++◌, map, length, slice_get, Option, Some, None, Ok, Err, refl, sym, ◌∙◌, ap, arith}
use Rattle.std.specs.Prelude.{◌==◌, if◌then◌else◌, ℤ}
use Rattle.std.specs.Bool.{beq}
use Rattle.vf_base.specs.declared.names.Place.{Place}
use Rattle.vf_fours.specs.declared.UnaryOp.{UnaryOp}
use Rattle.vf_fours.specs.declared.BinaryOp.{BinaryOp}
use Rattle.vf_fours.specs.Bits.{FourState}
use Rattle.vf_fours.specs.Operators.{resize_of, truth_of, concat_of}
use Rattle.vf_fours.specs.Choices.{unary_of, binary_of, is_wide, is_narrow, is_free}
use Rattle.vf_tree.specs.declared.words.Name.{Name}
use Rattle.vf_tree.specs.declared.words.Number.{Number}
use Rattle.vf_tree.specs.declared.expressions.TreeExpr.{TreeExpr, out-TreeExpr}
use Rattle.vf_tree.specs.declared.expressions.ExprForm.TheVariants as form
use Rattle.vf_tree.specs.declared.expressions.PrimaryForm.TheVariants as primary
use Rattle.vf_tree.specs.declared.expressions.Primary.{Primary, out-Primary}
use Rattle.vf_tree.specs.declared.expressions.Select.{Select}
use Rattle.vf_tree.specs.declared.expressions.SelectForm.TheVariants as select
use Rattle.vf_tree.specs.declared.expressions.SignCall.{SignCall}
use Rattle.vf_elaborated.specs.declared.design.Signal.{Signal}
use Rattle.vf_elaborated.specs.declared.expr.Expr.{Expr, roll-Expr}
use Rattle.vf_elaborated.specs.declared.expr.Expr.TheVariants as expr
use Rattle.vf_elaborated.specs.declared.expr.Expr.TheOpen.{Expr-F}
use Rattle.vf_elaborated.specs.declared.expr.Expr.TheFolds.{map-Expr}
use Rattle.vf_elaborated.specs.Shapes.{Shape}
use Rattle.vf_elaborated.specs.Values.{Worth, worth_of, node_worth, picked_of, joined_bits}
use Rattle.vf_elaborated.proofs.CallerLemmas.{told_roll}
use Rattle.vf_scope.specs.declared.scope.Entry.{Entry}
use Rattle.vf_scope.specs.declared.scope.Entry.TheVariants as entry
use Rattle.vf_scope.specs.Names.{Names, find}
use Rattle.vf_size.specs.declared.part.Part.{Part}
use Rattle.vf_size.specs.declared.fault.SizeKind.TheVariants.{NotConstant}
use Rattle.vf_size.specs.Faults.{Sized, fails, ◌>>=◌}
use Rattle.vf_size.specs.Rules.{shape_of_value, common, unary_made, binary_made, operand_at, left_at, right_at, marked_by, joined, with_mark, with_width, fit, fitted_mark, fitted_width, fitted}
use Rattle.vf_size.specs.Names.{parameter, entry_base, signal_base, declared_as}
use Rattle.std.proofs.lemmas.List.{append-nil}
use Rattle.std.proofs.Common.{append_assoc}
use Rattle.vf_size.specs.Selects.{scale_of}
use Rattle.vf_size.specs.Sizes.{Told, Operand, Choice, own, nowhere, worth, value_of, joined_worth, owns, repeated, widths, count_of, bits_of, low_of, told_of, form_of, primary_of, choice_of, select_of, plain_typed, plain_shape, memory_typed, memory_shape}
use Rattle.vf_size.specs.Worths.{constant_as, part_worth, plain_worth, name_worth, repeated_bits, onto}
use Rattle.vf_size.proofs.Nodes.{told_form, form_plain, form_one, form_two, form_pick, primary_number, primary_name, primary_paren, primary_concat, primary_repeat, primary_time, primary_feof, primary_sign, choice_one, choice_range, choice_up, choice_down}

-- what an expression is worth
abbrev w : Expr → FourState
w x = worth_of [] x nowhere

by_node : (e : Expr) (x : Expr-F Expr) → e ≡ roll-Expr x → w e ≡ node_worth [] (map-Expr Expr Worth (worth_of []) x) nowhere
by_node e x is = ap w is ∙ ap (λ f. f nowhere) (told_roll (node_worth []) x)

w_const : (v : FourState) → w (expr.Const v) ≡ v
w_const v = by_node _ (Expr-F.Const v) (sym (expr.rolls-Const v))

w_one : (op : UnaryOp) (x : Expr) (n : ℕ) (s : Bool) → w (expr.One op x n s) ≡ unary_of op (w x)
w_one op x n s = by_node _ (Expr-F.One op x n s) (sym (expr.rolls-One op x n s))

w_two : (op : BinaryOp) (x y : Expr) (n : ℕ) (s : Bool) → w (expr.Two op x y n s) ≡ binary_of op (w x) (w y)
w_two op x y n s = by_node _ (Expr-F.Two op x y n s) (sym (expr.rolls-Two op x y n s))

w_pick : (c x y : Expr) (n : ℕ) (s : Bool) → w (expr.Pick c x y n s) ≡ picked_of (truth_of (w c).bits) (w x) (w y)
w_pick c x y n s = by_node _ (Expr-F.Pick c x y n s) (sym (expr.rolls-Pick c x y n s))

w_resize : (x : Expr) (n : ℕ) (s : Bool) → w (expr.Resize x n s) ≡ resize_of (w x) n s
w_resize x n s = by_node _ (Expr-F.Resize x n s) (sym (expr.rolls-Resize x n s))

w_select : (v : FourState) (low : Expr) (part : Part)
    → w (expr.Select (expr.Const v) low (scale_of part.descending) part.shift part.shape.width) ≡ part_worth v part (w low)
w_select v low part =
    by_node _ (Expr-F.Select (expr.Const v) low (scale_of part.descending) part.shift part.shape.width)
    (sym (expr.rolls-Select (expr.Const v) low (scale_of part.descending) part.shift part.shape.width))
    ∙ ap (λ v. part_worth v part (w low)) (w_const v)

all_worth : List Expr → FourState
all_worth xs = record { bits = joined_bits (map w xs); signed = false }

w_join : (xs : List Expr) (n : ℕ) → w (expr.Join xs n) ≡ record { bits = joined_bits (map w xs); signed = false }
w_join xs n =
    by_node _ (Expr-F.Join xs n) (sym (expr.rolls-Join xs n))
    ∙ ap (λ bits. record { bits = joined_bits bits; signed = false }) (worths xs)
  where
    worths : (xs : List Expr) → map (λ (worth : Worth). worth nowhere) (map (worth_of []) xs) ≡ map w xs
    worths [] = refl
    worths (x ∷ xs) = ap (λ rest. w x ∷ rest) (worths xs)

-- ---- fitted operands

w_mark : (own : Shape) (s : Bool) (x : Expr) → w (with_mark own s x) ≡ fitted_mark own s (w x)
w_mark own s x = by (beq own.signed s)
  where
    by : (same : Bool) → w (if same then x else expr.Resize x own.width s) ≡ (if same then w x else resize_of (w x) own.width s)
    by true = refl
    by false = w_resize x own.width s

w_width : (own to : Shape) (x : Expr) → w (with_width own to x) ≡ fitted_width own to (w x)
w_width own to x = by (own.width == to.width)
  where
    by : (same : Bool) → w (if same then x else expr.Resize x to.width to.signed) ≡ (if same then w x else resize_of (w x) to.width to.signed)
    by true = refl
    by false = w_resize x to.width to.signed

w_fit : (own to : Shape) (x : Expr) → w (fit own to x) ≡ fitted own to (w x)
w_fit own to x = w_width own to (with_mark own to.signed x) ∙ ap (fitted_width own to) (w_mark own to.signed x)

-- ---- answers one after the other

mapped : (e : Sized Expr) (mk : Expr → Expr) (f : FourState → FourState) → ((x : Expr) → w (mk x) ≡ f (w x)) → worth (e >>= (λ x. Ok (mk x))) ≡ (worth e >>= (λ v. Ok (f v)))
mapped (Err fault) mk f is = refl
mapped (Ok x) mk f is = ap Ok (is x)

after : {A : Type 0} (a : Sized A) (k : A → Sized Expr) (l : A → Sized FourState) → ((x : A) → worth (k x) ≡ l x) → worth (a >>= k) ≡ (a >>= l)
after (Err fault) k l is = refl
after (Ok x) k l is = is x

mapped_two : (d e : Sized Expr) (mk : Expr → Expr → Expr) (f : FourState → FourState → FourState) → ((x y : Expr) → w (mk x y) ≡ f (w x) (w y))
    → worth (d >>= (λ x. e >>= (λ y. Ok (mk x y)))) ≡ (worth d >>= (λ u. worth e >>= (λ v. Ok (f u v))))
mapped_two (Err fault) e mk f is = refl
mapped_two (Ok x) e mk f is = mapped e (mk x) (f (w x)) (is x)

mapped_three : (c d e : Sized Expr) (mk : Expr → Expr → Expr → Expr) (f : FourState → FourState → FourState → FourState)
    → ((x y z : Expr) → w (mk x y z) ≡ f (w x) (w y) (w z))
    → worth (c >>= (λ x. d >>= (λ y. e >>= (λ z. Ok (mk x y z))))) ≡ (worth c >>= (λ t. worth d >>= (λ u. worth e >>= (λ v. Ok (f t u v)))))
mapped_three (Err fault) d e mk f is = refl
mapped_three (Ok x) d e mk f is = mapped_two d e (mk x) (f (w x)) (is x)

joined_after : (xs : Sized (List Expr)) (n : ℕ) (f : FourState → FourState) (mk : Expr → Expr) → ((x : Expr) → w (mk x) ≡ f (w x))
    → worth ((xs >>= (λ all. Ok (expr.Join all n))) >>= (λ x. Ok (mk x))) ≡ (joined_worth xs >>= (λ v. Ok (f v)))
joined_after (Err fault) n f mk is = refl
joined_after (Ok xs) n f mk is = ap Ok (is (expr.Join xs n) ∙ ap f (w_join xs n))

-- ---- widths of operands

pub operand_wide : (op : UnaryOp) (own to : Shape) → is_wide op ≡ true → (operand_at op own to).width ≡ to.width
operand_wide op own to h = ap (λ b. (if b then to else own).width) h

pub left_wide : (op : BinaryOp) (a b to : Shape) → is_narrow op ≡ false → (left_at op a b to).width ≡ to.width
left_wide op a b to h = ap (λ t. (if t then (if is_free op then a else common a b) else to).width) h

pub operands_same : (op : BinaryOp) (a b to : Shape) → is_free op ≡ false → (left_at op a b to).width ≡ (right_at op a b to).width
operands_same op a b to h = by (is_narrow op) (is_free op) h
  where
    by : (narrow free : Bool) → free ≡ false
        → (if narrow then (if free then a else common a b) else to).width ≡ (if free then b else (if narrow then common a b else to)).width
    by narrow true h = absurd (cc h)
    by true false h = refl
    by false false h = refl

-- ---- nodes

module _ (names : Names) (signals : List Signal) where
  abbrev told : TreeExpr → Operand
  told = told_of names signals

  pub value_told : (e : TreeExpr) (to : Shape) → worth ((told e).told.typed true to) ≡ worth ((form_of names signals (out-TreeExpr e).form).typed true to)
  value_told e to = ap (λ (t : Operand). worth (t.told.typed true to)) (told_form names signals e)

  pub value_plain : (p : Primary) (to : Shape) → worth ((form_of names signals (form.Plain p)).typed true to)
      ≡ worth ((primary_of names signals (out-Primary p).form (out-Primary p).place).typed true to)
  value_plain p to = ap (λ (t : Told). worth (t.typed true to)) (form_plain names signals p)

  pub value_one : (op : UnaryOp) (of : TreeExpr) (to : Shape) → worth ((form_of names signals (form.One op of)).typed true to)
      ≡ ((told of).told.shape true >>= (λ a. worth ((told of).told.typed true (operand_at op a to)) >>= (λ v. Ok (fitted (unary_made op to) to (unary_of op v)))))
  value_one op of to =
      ap (λ (t : Told). worth (t.typed true to)) (form_one names signals op of)
      ∙ after ((told of).told.shape true) _ _ (λ a. mapped ((told of).told.typed true (operand_at op a to)) _ (λ v. fitted (unary_made op to) to (unary_of op v))
      (λ x. w_fit (unary_made op to) to _ ∙ ap (fitted (unary_made op to) to) (w_one op x _ _)))

  pub value_two : (op : BinaryOp) (left right : TreeExpr) (to : Shape) → worth ((form_of names signals (form.Two op left right)).typed true to)
      ≡ ((told left).told.shape true >>= (λ a. (told right).told.shape true >>= (λ b.
      worth ((told left).told.typed true (left_at op a b to)) >>= (λ x. worth ((told right).told.typed true (right_at op a b to)) >>= (λ y.
      Ok (fitted (binary_made op to) to (binary_of op x y)))))))
  value_two op left right to =
      ap (λ (t : Told). worth (t.typed true to)) (form_two names signals op left right)
      ∙ after ((told left).told.shape true) _ _ (λ a. after ((told right).told.shape true) _ _ (λ b.
      mapped_two ((told left).told.typed true (left_at op a b to)) ((told right).told.typed true (right_at op a b to)) _ (λ x y. fitted (binary_made op to) to (binary_of op x y))
      (λ x y. w_fit (binary_made op to) to _ ∙ ap (fitted (binary_made op to) to) (w_two op x y _ _))))

  pub value_pick : (cond a b : TreeExpr) (to : Shape) → worth ((form_of names signals (form.Pick cond a b)).typed true to)
      ≡ (value_of (told cond).told >>= (λ c. worth ((told a).told.typed true to) >>= (λ x. worth ((told b).told.typed true to) >>= (λ y. Ok (picked_of (truth_of c.bits) x y)))))
  value_pick cond a b to =
      ap (λ (t : Told). worth (t.typed true to)) (form_pick names signals cond a b)
      ∙ mapped_three (own (told cond).told true) ((told a).told.typed true to) ((told b).told.typed true to) _ (λ c x y. picked_of (truth_of c.bits) x y)
      (λ c x y. w_pick c x y _ _)

  pub value_number : (number : Number) (place : Place) (to : Shape) → worth ((primary_of names signals (primary.Number number) place).typed true to)
      ≡ Ok (fitted (shape_of_value number.value) to number.value)
  value_number number place to =
      ap (λ (t : Told). worth (t.typed true to)) (primary_number names signals number place)
      ∙ ap Ok (w_fit (shape_of_value number.value) to (expr.Const number.value) ∙ ap (fitted (shape_of_value number.value) to) (w_const number.value))

  pub value_paren : (e : TreeExpr) (place : Place) (to : Shape) → worth ((primary_of names signals (primary.Paren e) place).typed true to) ≡ worth ((told e).told.typed true to)
  value_paren e place to = ap (λ (t : Told). worth (t.typed true to)) (primary_paren names signals e place)

  pub value_time : (place : Place) (to : Shape) → worth ((primary_of names signals primary.Time place).typed true to) ≡ fails NotConstant place
  value_time place to = ap (λ (t : Told). worth (t.typed true to)) (primary_time names signals place)

  pub value_feof : (e : TreeExpr) (place : Place) (to : Shape) → worth ((primary_of names signals (primary.Feof e) place).typed true to) ≡ fails NotConstant place
  value_feof e place to = ap (λ (t : Told). worth (t.typed true to)) (primary_feof names signals e place)

  pub value_sign : (call : SignCall) (e : TreeExpr) (place : Place) (to : Shape) → worth ((primary_of names signals (primary.Sign call e) place).typed true to)
      ≡ ((told e).told.shape true >>= (λ a. worth ((told e).told.typed true a) >>= (λ v. Ok (fitted (marked_by call a) to (fitted a (marked_by call a) v)))))
  value_sign call e place to = ap (λ (t : Told). worth (t.typed true to)) (primary_sign names signals call e place) ∙ by ((told e).told.shape true)
    where
      by : (s : Sized Shape) → worth ((s >>= (λ a. Ok (marked_by call a))) >>= (λ m. (s >>= (λ a. (told e).told.typed true a >>= (λ x. Ok (fit a (marked_by call a) x)))) >>= (λ x. Ok (fit m to x))))
          ≡ (s >>= (λ a. worth ((told e).told.typed true a) >>= (λ v. Ok (fitted (marked_by call a) to (fitted a (marked_by call a) v)))))
      by (Err fault) = refl
      by (Ok a) = typed ((told e).told.typed true a)
        where
          typed : (x : Sized Expr) → worth ((x >>= (λ x. Ok (fit a (marked_by call a) x))) >>= (λ x. Ok (fit (marked_by call a) to x)))
              ≡ (worth x >>= (λ v. Ok (fitted (marked_by call a) to (fitted a (marked_by call a) v))))
          typed (Err fault) = refl
          typed (Ok x) = ap Ok (w_fit (marked_by call a) to _ ∙ ap (fitted (marked_by call a) to) (w_fit a (marked_by call a) x))

  pub value_concat : (parts : List TreeExpr) (place : Place) (to : Shape) → worth ((primary_of names signals (primary.Concat parts) place).typed true to)
      ≡ (widths true 0 (map told parts) >>= (λ n. joined place n >>= (λ s. joined_worth (owns true (map told parts)) >>= (λ v. Ok (fitted s to v)))))
  value_concat parts place to = ap (λ (t : Told). worth (t.typed true to)) (primary_concat names signals parts place) ∙ by (widths true 0 (map told parts))
    where
      shaped : (s : Sized Shape) → worth (s >>= (λ s'. (s >>= (λ s. owns true (map told parts) >>= (λ xs. Ok (expr.Join xs s.width)))) >>= (λ x. Ok (fit s' to x))))
          ≡ (s >>= (λ s. joined_worth (owns true (map told parts)) >>= (λ v. Ok (fitted s to v))))
      shaped (Err fault) = refl
      shaped (Ok s) = joined_after (owns true (map told parts)) s.width (fitted s to) (fit s to) (w_fit s to)

      by : (n : Sized ℕ) → worth ((n >>= (λ n. joined place n)) >>= (λ s'. ((n >>= (λ n. joined place n)) >>= (λ s. owns true (map told parts) >>= (λ xs. Ok (expr.Join xs s.width)))) >>= (λ x. Ok (fit s' to x))))
          ≡ (n >>= (λ n. joined place n >>= (λ s. joined_worth (owns true (map told parts)) >>= (λ v. Ok (fitted s to v)))))
      by (Err fault) = refl
      by (Ok n) = shaped (joined place n)

  pub low_one : (index : TreeExpr) → worth (low_of true (choice_of names signals (select.One index))) ≡ value_of (told index).told
  low_one index = ap (λ c. worth (low_of true c)) (choice_one names signals index)

  pub low_up : (from width : TreeExpr) → worth (low_of true (choice_of names signals (select.Up from width))) ≡ value_of (told from).told
  low_up from width = ap (λ c. worth (low_of true c)) (choice_up names signals from width)

  pub low_down : (from width : TreeExpr) → worth (low_of true (choice_of names signals (select.Down from width))) ≡ value_of (told from).told
  low_down from width = ap (λ c. worth (low_of true c)) (choice_down names signals from width)

  pub low_range : (first last : TreeExpr) → worth (low_of true (choice_of names signals (select.Part first last))) ≡ value_of (told last).told
  low_range first last = ap (λ c. worth (low_of true c)) (choice_range names signals first last) ∙ by (value_of (told last).told)
    where
      by : (v : Sized FourState) → worth (v >>= (λ v. Ok (expr.Const v))) ≡ v
      by (Err fault) = refl
      by (Ok v) = ap Ok (w_const v)

  -- ---- names

  plain_by : (place : Place) (v : FourState) (left right : ℤ) (selects : List Choice) (to : Shape)
      → worth (plain_shape place (parameter v left right) true selects >>= (λ s. plain_typed (entry.Constant v left right) place (parameter v left right) true selects >>= (λ x. Ok (fit s to x))))
      ≡ plain_worth place (parameter v left right) v selects to
  plain_by place v left right [] to = ap Ok (w_fit (shape_of_value v) to (expr.Const v) ∙ ap (fitted (shape_of_value v) to) (w_const v))
  plain_by place v left right (bits ∷ []) to = by (bits_of place (parameter v left right) true bits) (low_of true bits)
    where
      by : (part : Sized Part) (low : Sized Expr)
          → worth ((part >>= (λ p. Ok p.shape)) >>= (λ s. (part >>= (λ p. low >>= (λ l. Ok (expr.Select (expr.Const v) l (scale_of p.descending) p.shift p.shape.width)))) >>= (λ x. Ok (fit s to x))))
          ≡ (part >>= (λ p. worth low >>= (λ i. Ok (fitted p.shape to (part_worth v p i)))))
      by (Err fault) low = refl
      by (Ok p) (Err fault) = refl
      by (Ok p) (Ok l) = ap Ok (w_fit p.shape to _ ∙ ap (fitted p.shape to) (w_select v l p))
  plain_by place v left right (bits ∷ more ∷ rest) to = refl

  named_by : (name : Name) (found : Option Entry) (selects : List Choice) (to : Shape)
      → worth ((entry_base signals true name found >>= (λ base. if base.memory then memory_shape name.place base true selects else plain_shape name.place base true selects))
      >>= (λ s. (entry_base signals true name found >>= (λ base. declared_as name found >>= (λ e. if base.memory then memory_typed e name.place base true selects else plain_typed e name.place base true selects)))
      >>= (λ x. Ok (fit s to x))))
      ≡ (entry_base signals true name found >>= (λ base. constant_as name found >>= (λ v. plain_worth name.place base v selects to)))
  named_by name None selects to = refl
  named_by name (Some (entry.Constant v left right)) selects to = plain_by name.place v left right selects to
  named_by name (Some (entry.Signal sig)) selects to = by (slice_get signals sig.0)
    where
      by : (signal : Option Signal)
          → worth ((signal_base true name signal >>= (λ base. if base.memory then memory_shape name.place base true selects else plain_shape name.place base true selects))
          >>= (λ s. (signal_base true name signal >>= (λ base. Ok (entry.Signal sig) >>= (λ e. if base.memory then memory_typed e name.place base true selects else plain_typed e name.place base true selects)))
          >>= (λ x. Ok (fit s to x))))
          ≡ (signal_base true name signal >>= (λ base. fails NotConstant name.place >>= (λ v. plain_worth name.place base v selects to)))
      by None = refl
      by (Some signal) = refl

  pub value_name : (name : Name) (selects : List Select) (place : Place) (to : Shape) → worth ((primary_of names signals (primary.Name name selects) place).typed true to)
      ≡ name_worth names signals name (map (select_of names signals) selects) to
  value_name name selects place to =
      ap (λ (t : Told). worth (t.typed true to)) (primary_name names signals name selects place)
      ∙ named_by name (find names name.text) (map (select_of names signals) selects) to

  -- ---- replications

  append_joined : (xs ys : List Expr) → joined_bits (map w (xs ++ ys)) ≡ joined_bits (map w ys) ++ joined_bits (map w xs)
  append_joined [] ys = sym (append-nil (joined_bits (map w ys)))
  append_joined (x ∷ xs) ys = ap (λ bits. bits ++ (w x).bits) (append_joined xs ys) ∙ append_assoc (joined_bits (map w ys)) (joined_bits (map w xs)) (w x).bits

  repeated_joined : (n : ℕ) (xs : List Expr) → joined_bits (map w (repeated n xs)) ≡ repeated_bits n (joined_bits (map w xs))
  repeated_joined zero xs = refl
  repeated_joined (suc n) xs = append_joined xs (repeated n xs) ∙ ap (λ bits. bits ++ joined_bits (map w xs)) (repeated_joined n xs)

  pub value_repeat : (count : TreeExpr) (parts : List TreeExpr) (place : Place) (to : Shape) → worth ((primary_of names signals (primary.Repeat count parts) place).typed true to)
      ≡ (count_of place (told count).told >>= (λ n. widths true 0 (map told parts) >>= (λ m. joined place (n * m) >>= (λ s.
      joined_worth (owns true (map told parts)) >>= (λ v. Ok (fitted s to (record { bits = repeated_bits n v.bits; signed = false })))))))
  value_repeat count parts place to =
      ap (λ (t : Told). worth (t.typed true to)) (primary_repeat names signals count parts place)
      ∙ by (count_of place (told count).told) (widths true 0 (map told parts)) (owns true (map told parts))
    where
      shaped : (n : ℕ) (s : Sized Shape) (xs : Sized (List Expr))
          → worth (s >>= (λ s'. (s >>= (λ s. Ok n >>= (λ n. xs >>= (λ xs. Ok (expr.Join (repeated n xs) s.width))))) >>= (λ x. Ok (fit s' to x))))
          ≡ (s >>= (λ s. joined_worth xs >>= (λ v. Ok (fitted s to (record { bits = repeated_bits n v.bits; signed = false })))))
      shaped n (Err fault) xs = refl
      shaped n (Ok s) (Err fault) = refl
      shaped n (Ok s) (Ok xs) =
          ap Ok (w_fit s to _ ∙ ap (fitted s to) (w_join (repeated n xs) s.width ∙ ap (λ bits. record { bits = bits; signed = false }) (repeated_joined n xs)))

      by : (n m : Sized ℕ) (xs : Sized (List Expr))
          → worth ((n >>= (λ n. m >>= (λ m. joined place (n * m)))) >>= (λ s'. ((n >>= (λ n. m >>= (λ m. joined place (n * m)))) >>= (λ s. n >>= (λ n. xs >>= (λ xs. Ok (expr.Join (repeated n xs) s.width)))))
          >>= (λ x. Ok (fit s' to x))))
          ≡ (n >>= (λ n. m >>= (λ m. joined place (n * m) >>= (λ s. joined_worth xs >>= (λ v. Ok (fitted s to (record { bits = repeated_bits n v.bits; signed = false })))))))
      by (Err fault) m xs = refl
      by (Ok n) (Err fault) xs = refl
      by (Ok n) (Ok m) xs = shaped n (joined place (n * m)) xs

-- ---- parts of a concatenation

onto_some : (a : FourState) (es : List Operand) → a.signed ≡ false
    → onto true a es ≡ (joined_worth (owns true es) >>= (λ r. Ok (record { bits = r.bits ++ a.bits; signed = false })))
unfolding concat_of
onto_some a [] plain = ap (λ signed. Ok (record { bits = a.bits; signed = signed })) plain
onto_some a (e ∷ rest) plain = by (own e.told true) (owns true rest) (λ v. onto_some (concat_of a v) rest refl)
  where
    by : (x : Sized Expr) (xs : Sized (List Expr)) → ((v : FourState) → onto true (concat_of a v) rest ≡ (joined_worth xs >>= (λ r. Ok (record { bits = r.bits ++ (concat_of a v).bits; signed = false }))))
        → (worth x >>= (λ v. onto true (concat_of a v) rest)) ≡ (joined_worth (x >>= (λ x. xs >>= (λ xs. Ok (x ∷ xs)))) >>= (λ r. Ok (record { bits = r.bits ++ a.bits; signed = false })))
    by (Err fault) xs then_is = refl
    by (Ok x) (Err fault) then_is = then_is (w x)
    by (Ok x) (Ok xs) then_is = then_is (w x) ∙ ap (λ bits. Ok (record { bits = bits; signed = false })) (sym (append_assoc (joined_bits (map w xs)) (w x).bits a.bits))

-- the values of all parts, one below the other
pub onto_all : (a : FourState) (es : List Operand) → 0 < length es → onto false a es ≡ joined_worth (owns true es)
onto_all a [] some = absurd (omega (arith, some))
onto_all a (e ∷ rest) some = by (own e.told true) (owns true rest) (λ v. onto_some (record { bits = v.bits; signed = false }) rest refl)
  where
    by : (x : Sized Expr) (xs : Sized (List Expr))
        → ((v : FourState) → onto true (record { bits = v.bits; signed = false }) rest ≡ (joined_worth xs >>= (λ r. Ok (record { bits = r.bits ++ v.bits; signed = false }))))
        → (worth x >>= (λ v. onto true (record { bits = v.bits; signed = false }) rest)) ≡ joined_worth (x >>= (λ x. xs >>= (λ xs. Ok (x ∷ xs))))
    by (Err fault) xs then_is = refl
    by (Ok x) (Err fault) then_is = then_is (w x)
    by (Ok x) (Ok xs) then_is = then_is (w x)
