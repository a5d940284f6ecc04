-- The width and mark of an operator's value.
use Rattle.std.proofs.Common.{◌≡◌, ℕ, suc, Bool, true, false, ◌&&◌, List, [], ◌∷◌, length, map, Some, None, refl, sym, ◌∙◌, ap, ap₂, subst, arith}
use Rattle.std.proofs.lemmas.Bool.{eqb-true, false≢true}
use Rattle.std.proofs.lemmas.List.{length-map, length-replicate}
use Rattle.std.specs.Prelude.{◌==◌, if◌then◌else◌, ℤ, unwrap_or, is_some}
use Rattle.std.specs.List.{list_all}
use Rattle.vf_fours.specs.declared.Bit.{Bit}
use Rattle.vf_fours.specs.declared.Bit.TheVariants.{X}
use Rattle.vf_fours.specs.declared.UnaryOp.{UnaryOp}
use Rattle.vf_fours.specs.declared.UnaryOp.TheVariants.{Plus, Minus, LogicalNot, BitNot, ReduceAnd, ReduceNand, ReduceOr, ReduceNor, ReduceXor, ReduceXnor}
use Rattle.vf_fours.specs.declared.BinaryOp.{BinaryOp}
use Rattle.vf_fours.specs.declared.BinaryOp.TheVariants.{LogicalOr, LogicalAnd, BitOr, BitXor, BitXnor, BitAnd, Equal, NotEqual, CaseEqual, CaseNotEqual, Less, LessEqual, Greater, GreaterEqual, ShiftLeft, ShiftRight, ArithmeticShiftLeft, ArithmeticShiftRight, Add, Subtract, Multiply, Divide, Remainder}
use Rattle.vf_fours.specs.Bits.{FourState, is_zero, zip_with, all_known, all_x, not_bit, settled_bit}
use Rattle.vf_fours.specs.Numbers.{digits_of}
use Rattle.vf_fours.specs.Operators.{one_bit, both_signed, arithmetic_shr_of, sar_of, shr_of, bitwise_of, numeric_of, divided_of, shifted_of, neg_of, not_of, plus_of}
use Rattle.vf_fours.specs.Choices.{unary_of, binary_of}
use Rattle.vf_fours.specs.Shapes.{length-tabulate}
use Rattle.vf_elaborated.specs.Shapes.{Shape, HasShape, unary_shape, binary_shape}

pub some_is : {A : Type 0} (x y : A) → Some x ≡ Some y → x ≡ y
some_is x y h = ap (λ o. unwrap_or o x) h

pub none_is : {A P : Type 0} (x : A) → None ≡ Some x → P
none_is x h = absurd (false≢true (ap is_some h))

pub zip_length : (f : Bit → Bit → Bit) (xs ys : List Bit) → length xs ≡ length ys → length (zip_with f xs ys) ≡ length xs
unfolding zip_with
zip_length f [] ys e = refl
zip_length f (x ∷ xs) [] e = absurd (omega (arith, e))
zip_length f (x ∷ xs) (y ∷ ys) e = ap suc (zip_length f xs ys (omega (arith, e)))

pub chosen_length : (b : Bool) (xs ys : List Bit) (width : ℕ) → length xs ≡ width → length ys ≡ width → length (if b then xs else ys) ≡ width
chosen_length true xs ys width ex ey = ex
chosen_length false xs ys width ex ey = ey

pub digits_length : (width n : ℕ) → length (digits_of width n) ≡ width
unfolding digits_of
digits_length width n = length-tabulate _ width

-- ---- the groups of operators

neg_length : (a : FourState) → length (neg_of a).bits ≡ length a.bits
unfolding neg_of
neg_length a = chosen_length (all_known a.bits) _ _ (length a.bits) (digits_length (length a.bits) _) (length-replicate (length a.bits) X)

numeric_length : (f : ℤ → ℤ → ℤ) (a b : FourState) → length (numeric_of f a b).bits ≡ length a.bits
unfolding numeric_of
numeric_length f a b = chosen_length _ _ _ (length a.bits) (digits_length (length a.bits) _) (length-replicate (length a.bits) X)

shifted_length : (f : List Bit → ℕ → List Bit) (a by : FourState) → ((bits : List Bit) (n : ℕ) → length (f bits n) ≡ length bits)
    → length (shifted_of f a by).bits ≡ length a.bits
unfolding shifted_of
shifted_length f a by keeps =
    chosen_length (all_known by.bits) _ _ (length a.bits) (keeps (map settled_bit a.bits) _ ∙ length-map a.bits settled_bit) (length-replicate (length a.bits) X)

bitwise_shape : (f : Bit → Bit → Bit) (a b : FourState) → length a.bits ≡ length b.bits → length (bitwise_of f a b).bits ≡ length a.bits
unfolding bitwise_of
bitwise_shape f a b e = zip_length f a.bits b.bits e

divided_length : (f : ℤ → ℤ → ℤ) (a b : FourState) → length (divided_of f a b).bits ≡ length a.bits
unfolding divided_of
divided_length f a b = by (list_all is_zero b.bits)
  where
    by : (t : Bool) → length (if t then record { bits = all_x (length a.bits); signed = both_signed a b } else numeric_of f a b).bits ≡ length a.bits
    by true = length-replicate (length a.bits) X
    by false = numeric_length f a b

-- ---- shapes

narrow : Shape
narrow = record { width = 1; signed = false }

bit_shape : (b : Bit) (s : Shape) → Some narrow ≡ Some s → HasShape (one_bit b) s
unfolding narrow
bit_shape b s e = subst (HasShape (one_bit b)) (some_is narrow s e) (record { width = refl; signed = refl })

compared_shape : (t : Bool) (b : Bit) (s : Shape) → (if t then Some narrow else None) ≡ Some s → HasShape (one_bit b) s
compared_shape true b s e = bit_shape b s e
compared_shape false b s e = none_is s e

-- a shape that is given where a test passes
pub tested_shape : (t : Bool) (w : Shape) (a : FourState) (s : Shape) → (t ≡ true → HasShape a w) → (if t then Some w else None) ≡ Some s → HasShape a s
tested_shape true w a s h e = subst (HasShape a) (some_is w s e) (h refl)
tested_shape false w a s h e = none_is s e

pub unary_shaped : (op : UnaryOp) (a : FourState) (sa : Shape) → HasShape a sa → HasShape (unary_of op a) (unary_shape op sa)
unfolding unary_of neg_of not_of plus_of
unary_shaped Plus a sa h = record { width = length-map a.bits settled_bit ∙ h.width; signed = h.signed }
unary_shaped Minus a sa h = record { width = neg_length a ∙ h.width; signed = h.signed }
unary_shaped LogicalNot a sa h = record { width = refl; signed = refl }
unary_shaped BitNot a sa h = record { width = length-map a.bits not_bit ∙ h.width; signed = h.signed }
unary_shaped ReduceAnd a sa h = record { width = refl; signed = refl }
unary_shaped ReduceNand a sa h = record { width = refl; signed = refl }
unary_shaped ReduceOr a sa h = record { width = refl; signed = refl }
unary_shaped ReduceNor a sa h = record { width = refl; signed = refl }
unary_shaped ReduceXor a sa h = record { width = refl; signed = refl }
unary_shaped ReduceXnor a sa h = record { width = refl; signed = refl }

module _ (a b : FourState) (sa sb s : Shape) (ha : HasShape a sa) (hb : HasShape b sb) where
  abbrev both : Shape
  both = record { width = sa.width; signed = sa.signed && sb.signed }

  abbrev EqualWidths : Type 0
  EqualWidths = (if sa.width == sb.width then Some both else None) ≡ Some s

  bitwise_shaped : (f : Bit → Bit → Bit) → EqualWidths → HasShape (bitwise_of f a b) s
  unfolding bitwise_of
  bitwise_shaped f e =
      tested_shape (sa.width == sb.width) both (bitwise_of f a b) s
      (λ same. record {
        width = zip_length f a.bits b.bits (ha.width ∙ (eqb-true sa.width sb.width same ∙ sym hb.width)) ∙ ha.width;
        signed = ap₂ (λ x y. x && y) ha.signed hb.signed;
      })
      e

  numeric_shaped : (f : ℤ → ℤ → ℤ) → EqualWidths → HasShape (numeric_of f a b) s
  unfolding numeric_of
  numeric_shaped f e =
      tested_shape (sa.width == sb.width) both (numeric_of f a b) s
      (λ same. record { width = numeric_length f a b ∙ ha.width; signed = ap₂ (λ x y. x && y) ha.signed hb.signed }) e

  divided_signed : (f : ℤ → ℤ → ℤ) → (divided_of f a b).signed ≡ (a.signed && b.signed)
  unfolding divided_of numeric_of
  divided_signed f = by (list_all is_zero b.bits)
    where
      by : (t : Bool) → (if t then record { bits = all_x (length a.bits); signed = both_signed a b } else numeric_of f a b).signed ≡ (a.signed && b.signed)
      by true = refl
      by false = refl

  divided_shaped : (f : ℤ → ℤ → ℤ) → EqualWidths → HasShape (divided_of f a b) s
  divided_shaped f e =
      tested_shape (sa.width == sb.width) both (divided_of f a b) s
      (λ same. record { width = divided_length f a b ∙ ha.width; signed = divided_signed f ∙ ap₂ (λ x y. x && y) ha.signed hb.signed }) e

  shifted_shaped : (f : List Bit → ℕ → List Bit) → ((bits : List Bit) (n : ℕ) → length (f bits n) ≡ length bits) → Some sa ≡ Some s → HasShape (shifted_of f a b) s
  unfolding shifted_of
  shifted_shaped f keeps e =
      subst (HasShape (shifted_of f a b)) (some_is sa s e) (record { width = shifted_length f a b keeps ∙ ha.width; signed = ha.signed })

  arithmetic_shaped : Some sa ≡ Some s → HasShape (arithmetic_shr_of a b) s
  arithmetic_shaped e = by a.signed
    where
      by : (t : Bool) → HasShape (if t then sar_of a b else shr_of a b) s
      by true = shifted_shaped _ (λ bits n. length-tabulate _ (length bits)) e
      by false = shifted_shaped _ (λ bits n. length-tabulate _ (length bits)) e

  pub binary_shaped : (op : BinaryOp) → binary_shape op sa sb ≡ Some s → HasShape (binary_of op a b) s
  unfolding binary_of narrow
  binary_shaped LogicalOr e = bit_shape _ s e
  binary_shaped LogicalAnd e = bit_shape _ s e
  binary_shaped BitOr e = bitwise_shaped _ e
  binary_shaped BitXor e = bitwise_shaped _ e
  binary_shaped BitXnor e = bitwise_shaped _ e
  binary_shaped BitAnd e = bitwise_shaped _ e
  binary_shaped Equal e = compared_shape (sa.width == sb.width) _ s e
  binary_shaped NotEqual e = compared_shape (sa.width == sb.width) _ s e
  binary_shaped CaseEqual e = compared_shape (sa.width == sb.width) _ s e
  binary_shaped CaseNotEqual e = compared_shape (sa.width == sb.width) _ s e
  binary_shaped Less e = compared_shape (sa.width == sb.width) _ s e
  binary_shaped LessEqual e = compared_shape (sa.width == sb.width) _ s e
  binary_shaped Greater e = compared_shape (sa.width == sb.width) _ s e
  binary_shaped GreaterEqual e = compared_shape (sa.width == sb.width) _ s e
  binary_shaped ShiftLeft e = shifted_shaped _ (λ bits n. length-tabulate _ (length bits)) e
  binary_shaped ShiftRight e = shifted_shaped _ (λ bits n. length-tabulate _ (length bits)) e
  binary_shaped ArithmeticShiftLeft e = shifted_shaped _ (λ bits n. length-tabulate _ (length bits)) e
  binary_shaped ArithmeticShiftRight e = arithmetic_shaped e
  binary_shaped Add e = numeric_shaped _ e
  binary_shaped Subtract e = numeric_shaped _ e
  binary_shaped Multiply e = numeric_shaped _ e
  binary_shaped Divide e = divided_shaped _ e
  binary_shaped Remainder e = divided_shaped _ e
