-- The width and the sign mark of an expression that is well formed (docs/LANGUAGE.md, "Elaborated designs"; IEEE Std 1364-2005,
-- clauses 5.4 and 5.5). An expression has none where a part has none, where operands differ in width, or where a node carries
-- another width or mark than its value has.
use Rattle.std.specs.Prelude.{◌≡◌, ℕ, ◌+◌, Bool, true, false, ◌&&◌, ◌||◌, ◌==◌, List, [], ◌∷◌, length, Option, Some, None, slice_get, if◌then◌else◌, nat_le, is_some, ℤ, pos, negsuc}
use Rattle.std.specs.Bool.{beq}
use Rattle.std.specs.List.{All}
use Rattle.std.specs.Option.{option_map, option_and_then}
use Rattle.vf_fours.specs.declared.UnaryOp.{UnaryOp}
use Rattle.vf_fours.specs.declared.BinaryOp.{BinaryOp}
use Rattle.vf_fours.specs.Bits.{FourState}
use Rattle.vf_fours.specs.Choices.{is_narrow, is_free, is_wide}
use Rattle.vf_elaborated.specs.declared.design.Signal.{Signal}
use Rattle.vf_elaborated.specs.declared.expr.Expr.{Expr}
use Rattle.vf_elaborated.specs.declared.expr.Expr.TheOpen.{Expr-F}
use Rattle.vf_elaborated.specs.Nodes.{told}
use Rattle.vf_elaborated.specs.Values.{Elements}

pub record Shape : Type 0 where
  pub width : ℕ
  pub signed : Bool

-- the most bits of a value
abbrev pub WIDEST : ℕ
WIDEST = 128

abbrev pub is_width : ℕ → Bool
is_width width = nat_le 1 width && nat_le width WIDEST

-- 1 or -1
abbrev pub is_scale : ℤ → Bool
is_scale (pos n) = n == 1
is_scale (negsuc n) = n == 0

-- the shape, where it is the one that a node carries
abbrev pub carried : ℕ → Bool → Shape → Option Shape
carried width signed shape = if shape.width == width && beq shape.signed signed then Some shape else None

-- a signal by itself, or one element of it; a signal of more than one element stands by one
abbrev pub is_one_element : Signal → Bool → Bool
is_one_element signal by_element = by_element || signal.elements == 1

abbrev pub signal_shape : Signal → Bool → Option Shape
signal_shape signal by_element =
    if is_one_element signal by_element then Some (record { width = signal.width; signed = signal.signed }) else None

-- the parts of a node that may lack: the element of a read
abbrev pub has_shape : Option (Option Shape) → Bool
has_shape None = true
has_shape (Some shape) = is_some shape

abbrev pub read_shape : Option Signal → Option (Option Shape) → Option Shape
read_shape None element = None
read_shape (Some signal) element = if has_shape element then signal_shape signal (is_some element) else None

-- the operands of a narrow operator and of a shift have their own marks; a shift has its left operand's width and mark
abbrev pub unary_shape : UnaryOp → Shape → Shape
unary_shape op a = if is_wide op then a else record { width = 1; signed = false }

abbrev pub binary_shape : BinaryOp → Shape → Shape → Option Shape
binary_shape op a b =
    if is_narrow op then (if is_free op || a.width == b.width then Some (record { width = 1; signed = false }) else None)
    else (if is_free op then Some a
    else (if a.width == b.width then Some (record { width = a.width; signed = a.signed && b.signed }) else None))

-- both arms of a choice have its width and mark
abbrev pub same_shape : Shape → Shape → Option Shape
same_shape a b = carried b.width b.signed a

-- the widths of the parts together, where each has a shape
abbrev pub joined_width : List (Option Shape) → Option ℕ
joined_width [] = Some 0
joined_width (part ∷ rest) = option_and_then (λ (a : Shape). option_map (λ n. a.width + n) (joined_width rest)) part

abbrev pub join_shape : ℕ → Option ℕ → Option Shape
join_shape width None = None
join_shape width (Some n) = if n == width && is_width width then Some (record { width = width; signed = false }) else None

-- what has two parts with a shape
abbrev pub on_both : (Shape → Shape → Option Shape) → Option Shape → Option Shape → Option Shape
on_both f a b = option_and_then (λ x. option_and_then (λ y. f x y) b) a

abbrev pub node_shape : List Signal → Expr-F (Option Shape) → Option Shape
node_shape signals (Expr-F.Const a) = Some (record { width = length a.bits; signed = a.signed })
node_shape signals (Expr-F.Read sig element) = read_shape (slice_get signals sig.0) element
node_shape signals (Expr-F.Select of low scale shift width) =
    on_both (λ a b. if is_scale scale && is_width width then Some (record { width = width; signed = false }) else None) of low
node_shape signals (Expr-F.One op of width signed) = option_and_then (λ a. carried width signed (unary_shape op a)) of
node_shape signals (Expr-F.Two op left right width signed) =
    on_both (λ a b. option_and_then (carried width signed) (binary_shape op a b)) left right
node_shape signals (Expr-F.Pick cond x y width signed) =
    if is_some cond then on_both (λ a b. option_and_then (carried width signed) (same_shape a b)) x y else None
node_shape signals (Expr-F.Join parts width) = join_shape width (joined_width parts)
node_shape signals (Expr-F.Resize of width signed) =
    option_and_then (λ a. if is_width width then Some (record { width = width; signed = signed }) else None) of
node_shape signals Expr-F.Now = Some (record { width = 64; signed = false })
node_shape signals (Expr-F.PastEnd of) = option_and_then (λ a. Some (record { width = 32; signed = true })) of

-- the shape of an expression
abbrev pub shape_of : List Signal → Expr → Option Shape
shape_of signals = told (node_shape signals)

-- a value has that many bits, and that mark
pub record HasShape (a : FourState) (shape : Shape) : Type 0 where
  pub width : length a.bits ≡ shape.width
  pub signed : a.signed ≡ shape.signed

-- a signal has its elements, and each its bits
pub record FitsSignal (signal : Signal) (elements : Elements) : Type 0 where
  pub count : length elements ≡ signal.elements
  pub widths : All (λ bits. length bits ≡ signal.width) elements
