-- What an expression is worth where the signals have these values (docs/LANGUAGE.md, "Values"; IEEE Std 1364-2005, clauses 4 and 5).
-- It is told node by node: what a node is worth where its parts are worth this much.
use Rattle.std.specs.Prelude.{ℕ, ◌^◌, Bool, true, false, ◌||◌, ◌==◌, List, [], ◌∷◌, ◌++◌, Option, Some, None, slice_get, slice_index_or, if◌then◌else◌, nat_lt, map, unwrap_or, ℤ, pos, negsuc, ◌+ℤ◌, ◌-ℤ◌, ◌*ℤ◌}
use Rattle.std.specs.List.{list_any}
use Rattle.std.specs.Option.{option_map, option_and_then}
use Rattle.vf_fours.specs.declared.Bit.{Bit}
use Rattle.vf_fours.specs.declared.Bit.TheVariants.{Zero, One}
use Rattle.vf_fours.specs.Bits.{FourState, all_x, all_known, is_one}
use Rattle.vf_fours.specs.Numbers.{number, integer, digits_of, is_below_zero}
use Rattle.vf_fours.specs.Operators.{resize_of, select_of, merge_of, eqq_of, truth_of, matches_z, matches_x}
use Rattle.vf_fours.specs.Choices.{unary_of, binary_of}
use Rattle.vf_elaborated.specs.declared.design.Signal.{Signal}
use Rattle.vf_elaborated.specs.declared.code.MatchKind.{MatchKind}
use Rattle.vf_elaborated.specs.declared.code.MatchKind.TheVariants as kinds
use Rattle.vf_elaborated.specs.declared.expr.Expr.{Expr}
use Rattle.vf_elaborated.specs.declared.expr.Expr.TheOpen.{Expr-F}
use Rattle.vf_elaborated.specs.Nodes.{told}

-- the elements of a signal by rising address, each as its bits, least first
abbrev pub Elements : Type 0
Elements = List (List Bit)

-- what an expression may look at: the elements of each signal, the time, and whether a read has gone past the end of the stimulus
pub record Scene : Type 0 where
  pub values : List Elements
  pub time : ℕ
  pub past_end : Bool

-- ---- what a value says

-- an index: a number of its own width and mark; none where a bit is x or z (5.2.1)
unfoldable pub index_of : FourState → Option ℤ
index_of a = if all_known a.bits then Some (integer a.signed a.bits) else None

-- The file descriptor of the stimulus is 32'h8000_0000. A descriptor is a value of 32 bits, extended by its own mark or cut.
unfoldable pub is_stimulus : FourState → Bool
is_stimulus a = is_one (eqq_of (resize_of a 32 false) (record { bits = digits_of 32 (2 ^ 31); signed = false }))

-- a delay: 0 where a bit is x or z, else the low 64 bits as an unsigned number (9.7.1)
unfoldable pub delay_of : FourState → ℕ
delay_of a = if all_known a.bits then number (resize_of a 64 false).bits else 0

-- the rounds of a `repeat`: none where a bit is x or z or the value is below 0, else the low 64 bits (9.6)
unfoldable pub rounds_of : FourState → ℕ
rounds_of a =
    if all_known a.bits then (if is_below_zero (integer a.signed a.bits) then 0 else number (resize_of a 64 false).bits) else 0

-- an expression of a case item matches (9.5)
abbrev pub is_match : MatchKind → FourState → FourState → Bool
is_match kinds.Case a b = is_one (eqq_of a b)
is_match kinds.Casez a b = matches_z a b
is_match kinds.Casex a b = matches_x a b

-- a condition is true (9.4)
abbrev pub is_true : FourState → Bool
is_true a = is_one (truth_of a.bits)

-- ---- places in signals

-- the place itself, where it lies below the bound
abbrev pub inside : ℕ → ℤ → Option ℕ
inside bound (pos i) = if nat_lt i bound then Some i else None
inside bound (negsuc i) = None

-- Which element of a signal: the one at the address, where one is written, else the only one. None where the address is
-- unknown or outside the memory.
abbrev pub element_of : Signal → Option FourState → Option ℕ
element_of signal None = Some 0
element_of signal (Some address) = option_and_then (λ at. inside signal.elements (at -ℤ signal.first)) (index_of address)

-- the place of the least bit of a select, counted from the least bit of the value; none where the index is unknown
abbrev pub low_of : ℤ → ℤ → FourState → Option ℤ
low_of scale shift index = option_map (λ i. scale *ℤ i +ℤ shift) (index_of index)

-- ---- nodes

abbrev pub element_bits : Signal → Elements → Option ℕ → List Bit
element_bits signal elements None = all_x signal.width
element_bits signal elements (Some i) = slice_index_or elements i []

-- a signal that is read, or an element of it; no signal has no bits
abbrev pub read_of : Option Signal → Elements → Option FourState → FourState
read_of None elements address = record { bits = []; signed = false }
read_of (Some signal) elements address = record {
  bits = element_bits signal elements (element_of signal address);
  signed = signal.signed;
}

abbrev pub selected_of : FourState → Option ℤ → ℕ → FourState
selected_of a None width = record { bits = all_x width; signed = false }
selected_of a (Some low) width = select_of a low width

abbrev pub picked_of : Bit → FourState → FourState → FourState
picked_of One a b = a
picked_of Zero a b = b
picked_of _ a b = merge_of a b

-- the first part stands above the others
abbrev pub joined_bits : List FourState → List Bit
joined_bits [] = []
joined_bits (a ∷ rest) = joined_bits rest ++ a.bits

-- 0 on the stimulus while no read has gone past its end, else 1
abbrev pub past_end_of : Bool → FourState → FourState
past_end_of past_end a = record {
  bits = digits_of 32 (if is_stimulus a then (if past_end then 1 else 0) else 1);
  signed = true;
}

-- what something is worth in each scene
abbrev pub Worth : Type 0
Worth = Scene → FourState

abbrev pub node_worth : List Signal → Expr-F Worth → Worth
node_worth signals (Expr-F.Const a) scene = a
node_worth signals (Expr-F.Read sig element) scene =
    read_of (slice_get signals sig.0) (slice_index_or scene.values sig.0 []) (option_map (λ worth. worth scene) element)
node_worth signals (Expr-F.Select of low scale shift width) scene = selected_of (of scene) (low_of scale shift (low scene)) width
node_worth signals (Expr-F.One op of width signed) scene = unary_of op (of scene)
node_worth signals (Expr-F.Two op left right width signed) scene = binary_of op (left scene) (right scene)
node_worth signals (Expr-F.Pick cond a b width signed) scene = picked_of (truth_of (cond scene).bits) (a scene) (b scene)
node_worth signals (Expr-F.Join parts width) scene = record { bits = joined_bits (map (λ worth. worth scene) parts); signed = false }
node_worth signals (Expr-F.Resize of width signed) scene = resize_of (of scene) width signed
node_worth signals Expr-F.Now scene = record { bits = digits_of 64 scene.time; signed = false }
node_worth signals (Expr-F.PastEnd of) scene = past_end_of scene.past_end (of scene)

-- what an expression is worth
abbrev pub worth_of : List Signal → Expr → Worth
worth_of signals = told (node_worth signals)

-- ---- which signals an expression reads, those in its indices too

abbrev pub node_reads : ℕ → Expr-F Bool → Bool
node_reads n (Expr-F.Const a) = false
node_reads n (Expr-F.Read sig element) = sig.0 == n || unwrap_or element false
node_reads n (Expr-F.Select of low scale shift width) = of || low
node_reads n (Expr-F.One op of width signed) = of
node_reads n (Expr-F.Two op left right width signed) = left || right
node_reads n (Expr-F.Pick cond a b width signed) = cond || (a || b)
node_reads n (Expr-F.Join parts width) = list_any (λ b. b) parts
node_reads n (Expr-F.Resize of width signed) = of
node_reads n Expr-F.Now = false
node_reads n (Expr-F.PastEnd of) = of

abbrev pub reads_signal : ℕ → Expr → Bool
reads_signal n = told (node_reads n)
