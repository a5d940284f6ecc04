-- The size and sign of an expression, and the expression with its sizes settled (docs/LANGUAGE.md, "Sizes and signs"; IEEE Std 1364-2005,
-- clauses 5.4 and 5.5). It is told node by node: what is told of a node by what is told of its parts.
use Rattle.std.specs.Prelude.{ℕ, ◌*◌, ◌+◌, Bool, true, false, List, [], ◌∷◌, ◌++◌, map, zero, suc, Option, Some, None, Ok, Err, if◌then◌else◌, ℤ}
use Rattle.vf_base.specs.declared.names.Place.{Place}
use Rattle.vf_fours.specs.declared.UnaryOp.{UnaryOp}
use Rattle.vf_fours.specs.declared.BinaryOp.{BinaryOp}
use Rattle.vf_fours.specs.Bits.{FourState}
use Rattle.vf_fours.specs.Numbers.{i64_of}
use Rattle.vf_tree.specs.declared.words.Name.{Name}
use Rattle.vf_tree.specs.declared.expressions.TreeExpr.{TreeExpr}
use Rattle.vf_tree.specs.declared.expressions.ExprForm.{ExprForm}
use Rattle.vf_tree.specs.declared.expressions.PrimaryForm.{PrimaryForm}
use Rattle.vf_tree.specs.declared.expressions.Select.{Select}
use Rattle.vf_tree.specs.declared.expressions.SelectForm.{SelectForm}
use Rattle.vf_tree.specs.declared.expressions.ExprForm.TheOpen.{ExprForm-F, PrimaryForm-F, SelectForm-F}
use Rattle.vf_tree.specs.declared.expressions.ExprForm.TheFolds.{fold-TreeExpr, fold-ExprForm, fold-PrimaryForm, fold-Select, fold-SelectForm}
use Rattle.vf_elaborated.specs.declared.design.Signal.{Signal}
use Rattle.vf_elaborated.specs.declared.expr.Expr.{Expr}
use Rattle.vf_elaborated.specs.declared.expr.Expr.TheVariants as expr
use Rattle.vf_elaborated.specs.Shapes.{Shape}
use Rattle.vf_elaborated.specs.Values.{Scene, worth_of, joined_bits}
use Rattle.vf_scope.specs.declared.scope.Entry.{Entry}
use Rattle.vf_scope.specs.Names.{Names}
use Rattle.vf_size.specs.declared.fault.SizeKind.TheVariants.{NotConstant, Width}
use Rattle.vf_size.specs.declared.base.Base.{Base}
use Rattle.vf_size.specs.declared.part.Part.{Part}
use Rattle.vf_size.specs.Faults.{Sized, fails, ◌>>=◌}
use Rattle.vf_size.specs.Rules.{common, shape_of_value, unary_size, binary_size, unary_made, binary_made, operand_at, left_at, right_at, marked_by, capped, joined, times, fit}
use Rattle.vf_size.specs.Names.{base_of, entry_of, read_from}
use Rattle.vf_size.specs.Selects.{scale_of, bit_part, up_part, down_part, range_part}

-- What is told of an expression, where it must be constant or need not: its width and mark by itself, and the expression with its sizes
-- settled, as the context wants it.
pub record Told : Type 0 where
  pub shape : Bool → Sized Shape
  pub typed : Bool → Shape → Sized Expr

-- an expression at its first token
pub record Operand : Type 0 where
  pub place : Place
  pub told : Told

-- by itself
abbrev pub own : Told → Bool → Sized Expr
own e constant = do
  s ← e.shape constant
  e.typed constant s

-- nothing has a value but what is constant
abbrev pub nowhere : Scene
nowhere = record { values = []; time = 0; past_end = false }

abbrev pub worth : Sized Expr → Sized FourState
worth e = do
  x ← e
  Ok (worth_of [] x nowhere)

-- the value of a constant: what it is worth, sized by itself
abbrev pub value_of : Told → Sized FourState
value_of e = worth (own e true)

-- what several are worth in one, the first above the others
abbrev pub joined_worth : Sized (List Expr) → Sized FourState
joined_worth xs = do
  all ← xs
  Ok (record { bits = joined_bits (map (λ x. worth_of [] x nowhere) all); signed = false })

-- what does not look at its context: its value is fitted to it
abbrev pub leaf : (Bool → Sized Shape) → (Bool → Sized Expr) → Told
leaf shape made = record {
  shape = shape;
  typed = λ constant to. do
    s ← shape constant
    x ← made constant
    Ok (fit s to x);
}

-- ---- operators

abbrev pub unary : UnaryOp → Told → Told
unary op of = record {
  shape = λ constant. do
    a ← of.shape constant
    Ok (unary_size op a);
  typed = λ constant to. do
    a ← of.shape constant
    x ← of.typed constant (operand_at op a to)
    Ok (fit (unary_made op to) to (expr.One op x (unary_made op to).width (unary_made op to).signed));
}

abbrev pub binary : BinaryOp → Told → Told → Told
binary op left right = record {
  shape = λ constant. do
    a ← left.shape constant
    b ← right.shape constant
    Ok (binary_size op a b);
  typed = λ constant to. do
    a ← left.shape constant
    b ← right.shape constant
    x ← left.typed constant (left_at op a b to)
    y ← right.typed constant (right_at op a b to)
    Ok (fit (binary_made op to) to (expr.Two op x y (binary_made op to).width (binary_made op to).signed));
}

-- the condition stands by itself
abbrev pub pick : Told → Told → Told → Told
pick cond yes_arm no_arm = record {
  shape = λ constant. do
    c ← cond.shape constant
    a ← yes_arm.shape constant
    b ← no_arm.shape constant
    Ok (common a b);
  typed = λ constant to. do
    c ← own cond constant
    x ← yes_arm.typed constant to
    y ← no_arm.typed constant to
    Ok (expr.Pick c x y to.width to.signed);
}

abbrev pub sign_call : (Shape → Shape) → Told → Told
sign_call mark of = leaf (λ constant. do
  a ← of.shape constant
  Ok (mark a)) (λ constant. do
    a ← of.shape constant
    x ← of.typed constant a
    Ok (fit a (mark a) x))

-- ---- concatenations

-- the bits of the parts together, after n bits of the parts before them
abbrev pub widths : Bool → ℕ → List Operand → Sized ℕ
widths constant n [] = Ok n
widths constant n (e ∷ rest) = do
  a ← e.told.shape constant
  widths constant (capped (n + a.width)) rest

-- the bits of a part by itself, and of all parts
abbrev pub width_of : Sized Shape → ℕ
width_of (Ok s) = s.width
width_of (Err fault) = 0

abbrev pub total : List Operand → ℕ
total [] = 0
total (e ∷ rest) = width_of (e.told.shape true) + total rest

-- the parts, each by itself
abbrev pub owns : Bool → List Operand → Sized (List Expr)
owns constant [] = Ok []
owns constant (e ∷ rest) = do
  x ← own e.told constant
  xs ← owns constant rest
  Ok (x ∷ xs)

abbrev pub concat_shape : Place → List Operand → Bool → Sized Shape
concat_shape place parts constant = do
  n ← widths constant 0 parts
  joined place n

abbrev pub concat : Place → List Operand → Told
concat place parts = leaf (concat_shape place parts) (λ constant. do
  s ← concat_shape place parts constant
  xs ← owns constant parts
  Ok (expr.Join xs s.width))

abbrev pub times_at : Place → Option ℕ → Sized ℕ
times_at place None = fails Width place
times_at place (Some n) = Ok n

-- how many times a replication repeats its parts
abbrev pub count_of : Place → Told → Sized ℕ
count_of place count = do
  v ← value_of count
  times_at place (times v)

abbrev pub repeated : ℕ → List Expr → List Expr
repeated zero xs = []
repeated (suc n) xs = xs ++ repeated n xs

abbrev pub repeat_shape : Place → Told → List Operand → Bool → Sized Shape
repeat_shape place count parts constant = do
  n ← count_of place count
  w ← widths constant 0 parts
  joined place (n * w)

abbrev pub repeat : Place → Told → List Operand → Told
repeat place count parts = leaf (repeat_shape place count parts) (λ constant. do
  s ← repeat_shape place count parts constant
  n ← count_of place count
  xs ← owns constant parts
  Ok (expr.Join (repeated n xs) s.width))

-- ---- names

-- a select over its operands
pub data Choice : Type 0 where
  one : Operand → Choice
  range : Operand → Operand → Choice
  up : Operand → Operand → Choice
  down : Operand → Operand → Choice

abbrev pub number_at : Place → Option ℤ → Sized ℤ
number_at place None = fails Width place
number_at place (Some n) = Ok n

-- a constant that is a number of 64 bits
abbrev pub bound : Operand → Sized ℤ
bound e = do
  v ← value_of e.told
  number_at e.place (i64_of v)

-- which bits a select takes; none where it does not fit the declaration
abbrev pub part_of : Base → Choice → Sized (Option Part)
part_of base (one index) = Ok (bit_part base.left base.right)
part_of base (range first last) = do
  a ← bound first
  b ← bound last
  Ok (range_part base.left base.right a b)
part_of base (up from width) = do
  n ← bound width
  Ok (up_part base.left base.right n)
part_of base (down from width) = do
  n ← bound width
  Ok (down_part base.left base.right n)

-- the index that need not be constant
abbrev pub index_of : Choice → Option Operand
index_of (one index) = Some index
index_of (range first last) = None
index_of (up from width) = Some from
index_of (down from width) = Some from

-- an index that is looked at for its faults alone
abbrev pub visit : Bool → Option Operand → Sized (Unit {0})
visit constant None = Ok tt
visit constant (Some e) = do
  s ← e.told.shape constant
  Ok tt

-- A select that does not fit its declaration is a fault at the name, so it comes before the faults in the selects.
abbrev pub ahead : Place → Sized (Option Part) → Sized (Unit {0})
ahead place (Ok None) = fails Width place
ahead place (Ok (Some part)) = Ok tt
ahead place (Err fault) = Ok tt

abbrev pub settled : Place → Sized (Option Part) → Sized Part
settled place (Ok None) = fails Width place
settled place (Ok (Some part)) = Ok part
settled place (Err fault) = Err fault

-- the bits that a select takes of a value
abbrev pub bits_of : Place → Base → Bool → Choice → Sized Part
bits_of place base constant bits = do
  fits ← ahead place (part_of base bits)
  known ← visit constant (index_of bits)
  settled place (part_of base bits)

-- an element stands by one index
abbrev pub by_element : Place → Choice → Sized (Unit {0})
by_element place (one index) = Ok tt
by_element place (range first last) = fails Width place
by_element place (up from width) = fails Width place
by_element place (down from width) = fails Width place

abbrev pub element_of : Place → Bool → Choice → Sized (Unit {0})
element_of place constant element = do
  single ← by_element place element
  visit constant (index_of element)

-- the bits that a select takes of an element
abbrev pub element_bits_of : Place → Base → Bool → Choice → Choice → Sized Part
element_bits_of place base constant element bits = do
  single ← by_element place element
  fits ← ahead place (part_of base bits)
  known_element ← visit constant (index_of element)
  known ← visit constant (index_of bits)
  settled place (part_of base bits)

-- A name that is no memory stands by itself or by bits of it.
abbrev pub plain_shape : Place → Base → Bool → List Choice → Sized Shape
plain_shape place base constant [] = Ok base.shape
plain_shape place base constant (bits ∷ []) = do
  part ← bits_of place base constant bits
  Ok part.shape
plain_shape place base constant (bits ∷ more ∷ rest) = fails Width place

-- A memory stands by one element, or by bits of one.
abbrev pub memory_shape : Place → Base → Bool → List Choice → Sized Shape
memory_shape place base constant [] = fails Width place
memory_shape place base constant (element ∷ []) = do
  known ← element_of place constant element
  Ok base.shape
memory_shape place base constant (element ∷ bits ∷ []) = do
  part ← element_bits_of place base constant element bits
  Ok part.shape
memory_shape place base constant (element ∷ bits ∷ more ∷ rest) = fails Width place

-- the index of the least bit, which in a part select is the last bound
abbrev pub low_of : Bool → Choice → Sized Expr
low_of constant (one index) = own index.told constant
low_of constant (range first last) = do
  v ← value_of last.told
  Ok (expr.Const v)
low_of constant (up from width) = own from.told constant
low_of constant (down from width) = own from.told constant

abbrev pub plain_typed : Entry → Place → Base → Bool → List Choice → Sized Expr
plain_typed entry place base constant [] = Ok (read_from entry None)
plain_typed entry place base constant (bits ∷ []) = do
  part ← bits_of place base constant bits
  low ← low_of constant bits
  Ok (expr.Select (read_from entry None) low (scale_of part.descending) part.shift part.shape.width)
plain_typed entry place base constant (bits ∷ more ∷ rest) = fails Width place

abbrev pub memory_typed : Entry → Place → Base → Bool → List Choice → Sized Expr
memory_typed entry place base constant [] = fails Width place
memory_typed entry place base constant (element ∷ []) = do
  single ← by_element place element
  x ← low_of constant element
  Ok (read_from entry (Some x))
memory_typed entry place base constant (element ∷ bits ∷ []) = do
  part ← element_bits_of place base constant element bits
  x ← low_of constant element
  low ← low_of constant bits
  Ok (expr.Select (read_from entry (Some x)) low (scale_of part.descending) part.shift part.shape.width)
memory_typed entry place base constant (element ∷ bits ∷ more ∷ rest) = fails Width place

-- the time and the end of the stimulus are no constants
abbrev pub unless_constant : Place → Shape → Bool → Sized Shape
unless_constant place shape constant = if constant then fails NotConstant place else Ok shape

abbrev pub end_of_file : Place → Told → Told
end_of_file place of = leaf (λ constant. do
  s ← unless_constant place (record { width = 32; signed = true }) constant
  a ← of.shape constant
  Ok s) (λ constant. do
    x ← own of constant
    Ok (expr.PastEnd x))

module _ (names : Names) (signals : List Signal) where
  abbrev pub name_shape : Name → List Choice → Bool → Sized Shape
  name_shape name selects constant = do
    base ← base_of names signals constant name
    if base.memory then memory_shape name.place base constant selects else plain_shape name.place base constant selects

  abbrev pub name_typed : Name → List Choice → Bool → Sized Expr
  name_typed name selects constant = do
    base ← base_of names signals constant name
    entry ← entry_of names name
    if base.memory then memory_typed entry name.place base constant selects else plain_typed entry name.place base constant selects

  -- ---- nodes

  abbrev pub Step : (Type 0 → Type 0 → Type 0 → Type 0 → Type 0 → Type 0 → Type 0) → Type 0
  Step F = F Told (Place → Told) Choice Told Choice Operand

  abbrev pub form_told : Step ExprForm-F → Told
  form_told (ExprForm-F.Plain p) = p
  form_told (ExprForm-F.ExprForm::One op of) = unary op of.told
  form_told (ExprForm-F.Two op left right) = binary op left.told right.told
  form_told (ExprForm-F.Pick cond a b) = pick cond.told a.told b.told

  abbrev pub primary_told : Step PrimaryForm-F → Place → Told
  primary_told (PrimaryForm-F.Number number) place = leaf (λ constant. Ok (shape_of_value number.value)) (λ constant. Ok (expr.Const number.value))
  primary_told (PrimaryForm-F.Name name selects) place = leaf (name_shape name selects) (name_typed name selects)
  primary_told (PrimaryForm-F.Paren e) place = e.told
  primary_told (PrimaryForm-F.Concat parts) place = concat place parts
  primary_told (PrimaryForm-F.Repeat count parts) place = repeat place count.told parts
  primary_told PrimaryForm-F.Time place = leaf (unless_constant place (record { width = 64; signed = false })) (λ constant. Ok expr.Now)
  primary_told (PrimaryForm-F.Feof e) place = end_of_file place e.told
  primary_told (PrimaryForm-F.Sign call e) place = sign_call (marked_by call) e.told

  abbrev pub select_told : Step SelectForm-F → Choice
  select_told (SelectForm-F.SelectForm::One index) = one index
  select_told (SelectForm-F.Part first last) = range first last
  select_told (SelectForm-F.Up from width) = up from width
  select_told (SelectForm-F.Down from width) = down from width

  -- what is told of an expression, of its form and of its parts
  unfoldable pub told_of : TreeExpr → Operand
  told_of = fold-TreeExpr Told (Place → Told) Choice Told Choice Operand
      form_told primary_told select_told (λ p. p.form p.place) (λ s. s.form) (λ e. record { place = e.place; told = e.form })

  unfoldable pub form_of : ExprForm → Told
  form_of = fold-ExprForm Told (Place → Told) Choice Told Choice Operand
      form_told primary_told select_told (λ p. p.form p.place) (λ s. s.form) (λ e. record { place = e.place; told = e.form })

  unfoldable pub primary_of : PrimaryForm → Place → Told
  primary_of = fold-PrimaryForm Told (Place → Told) Choice Told Choice Operand
      form_told primary_told select_told (λ p. p.form p.place) (λ s. s.form) (λ e. record { place = e.place; told = e.form })

  unfoldable pub choice_of : SelectForm → Choice
  choice_of = fold-SelectForm Told (Place → Told) Choice Told Choice Operand
      form_told primary_told select_told (λ p. p.form p.place) (λ s. s.form) (λ e. record { place = e.place; told = e.form })

  unfoldable pub select_of : Select → Choice
  select_of = fold-Select Told (Place → Told) Choice Told Choice Operand
      form_told primary_told select_told (λ p. p.form p.place) (λ s. s.form) (λ e. record { place = e.place; told = e.form })

  -- ---- what the calls answer

  -- the size and sign of an expression, each by itself
  abbrev pub shape_of : TreeExpr → Sized Shape
  shape_of e = (told_of e).told.shape false

  abbrev pub size_of : TreeExpr → Sized ℕ
  size_of e = do
    s ← shape_of e
    Ok s.width

  abbrev pub sign_of : TreeExpr → Sized Bool
  sign_of e = do
    s ← shape_of e
    Ok s.signed

  -- the value of a constant expression
  abbrev pub constant_of : TreeExpr → Sized FourState
  constant_of e = value_of (told_of e).told
