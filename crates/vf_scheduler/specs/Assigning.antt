-- Which bits an assignment gives to which signals (docs/LANGUAGE.md, "The scheduler"; IEEE Std 1364-2005, 9.2 and 5.2).
use Rattle.std.specs.Prelude.{ℕ, suc, ◌-◌, List, [], ◌∷◌, take, drop, Option, Some, None, slice_get, ℤ, pos, negsuc}
use Rattle.std.specs.List.{sum_by, filter_map}
use Rattle.std.specs.Option.{option_map, option_and_then}
use Rattle.vf_fours.specs.declared.Bit.{Bit}
use Rattle.vf_fours.specs.Bits.{FourState}
use Rattle.vf_elaborated.specs.declared.design.Signal.{Signal}
use Rattle.vf_elaborated.specs.declared.code.Target.{Target}
use Rattle.vf_elaborated.specs.declared.code.TargetPiece.{TargetPiece}
use Rattle.vf_elaborated.specs.declared.expr.Expr.{Expr}
use Rattle.vf_elaborated.specs.Values.{element_of, low_of}
use Rattle.vf_scheduler.specs.State.{Update}

-- the place of the least bit of a piece: 0 for a whole; none where its index is unknown
abbrev pub piece_low : (Expr → FourState) → TargetPiece → Option ℤ
piece_low worth piece = low_at piece.low
  where
    low_at : Option Expr → Option ℤ
    low_at None = Some (pos 0)
    low_at (Some e) = low_of piece.scale piece.shift (worth e)

-- The bits of a piece that lie inside a signal of a width, and the place of the least of them. A part that is partly outside has only its
-- inner bits.
abbrev pub inner_bits : ℕ → ℤ → List Bit → List Bit
inner_bits width (pos low) bits = take (width - low) bits
inner_bits width (negsuc n) bits = take width (drop (suc n) bits)

abbrev pub inner_low : ℤ → ℕ
inner_low (pos low) = low
inner_low (negsuc n) = 0

-- where there are such bits
abbrev pub some_update : ℕ → ℕ → ℕ → List Bit → Option Update
some_update sig element low [] = None
some_update sig element low (b ∷ bits) = Some (record { sig = sig; element = element; low = low; bits = b ∷ bits })

-- what a piece does with its bits: nothing at a place that is unknown or outside
abbrev pub piece_update : (Expr → FourState) → List Signal → TargetPiece → List Bit → Option Update
piece_update worth signals piece bits =
    option_and_then (λ signal.
    option_and_then (λ element.
    option_and_then (λ low. some_update piece.sig.0 element (inner_low low) (inner_bits signal.width low bits)) (piece_low worth piece))
    (element_of signal (option_map worth piece.element)))
    (slice_get signals piece.sig.0)

-- each piece with its bits, the most significant first
abbrev pub cut : List TargetPiece → List Bit → List (TargetPiece × List Bit)
cut [] bits = []
cut (piece ∷ rest) bits =
    let below = sum_by (λ (other : TargetPiece). other.width) rest in
    (piece, take piece.width (drop below bits)) ∷ cut rest bits

-- The updates of an assignment, the most significant piece first. All places are told by the state before it.
unfoldable pub updates_of : (Expr → FourState) → List Signal → Target → List Bit → List Update
updates_of worth signals target bits = filter_map (λ (part : TargetPiece × List Bit). piece_update worth signals part.0 part.1) (cut target.0 bits)
