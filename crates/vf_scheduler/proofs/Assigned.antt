-- The updates of an assignment give bits to elements that are there.
use Rattle.std.proofs.Common.{◌≡◌, ℕ, suc, ◌+◌, ◌-◌, ◌<◌, ◌≤◌, Bool, true, false, ◌||◌, ◌&&◌, List, [], ◌∷◌, length, drop, Option, Some, None, refl, sym, subst, arith, slice_get, nat_lt, nat_le, ◌==◌, if◌then◌else◌, ℤ, pos, negsuc, ◌-ℤ◌, option_map, option_and_then, filter_map, IsSomeAnd, IfSome}
use Rattle.std.proofs.lemmas.Bool.{and_parts, ltb-true, leb-true}
use Rattle.std.proofs.lemmas.List.{length-take}
use Rattle.std.specs.List.{cons_option}
use Rattle.vf_fours.specs.declared.Bit.{Bit}
use Rattle.vf_fours.specs.Bits.{FourState}
use Rattle.vf_elaborated.specs.declared.design.Signal.{Signal}
use Rattle.vf_elaborated.specs.declared.code.Target.{Target}
use Rattle.vf_elaborated.specs.declared.code.TargetPiece.{TargetPiece}
use Rattle.vf_elaborated.specs.declared.expr.Expr.{Expr}
use Rattle.vf_elaborated.specs.Elaborated.{Elaborated}
use Rattle.vf_elaborated.specs.Values.{inside, element_of, index_of}
use Rattle.vf_elaborated.specs.Shapes.{is_width, WIDEST}
use Rattle.vf_elaborated.specs.WellFormed.{IsWellFormed, is_signal}
use Rattle.vf_scheduler.specs.State.{Update}
use Rattle.vf_scheduler.specs.Assigning.{piece_low, inner_bits, inner_low, some_update, piece_update, cut, updates_of}
use Rattle.vf_scheduler.specs.Sound.{FitsIn, IsUpdate}
use Rattle.vf_scheduler.proofs.Slots.{Updates}
use Rattle.vf_scheduler.proofs.Codes.{list_all_at}

-- ---- signals

pub record Sized (signal : Signal) : Type 0 where
  pub wide : 1 ≤ signal.width
  pub most : signal.width ≤ WIDEST
  pub some : 1 ≤ signal.elements

pub sized : (d : Elaborated) (sig : ℕ) (signal : Signal) → IsWellFormed d → slice_get d.signals sig ≡ Some signal → Sized signal
sized d sig signal wf e =
    let is = and_parts (is_width signal.width) (nat_le 1 signal.elements && (signal.memory || signal.elements == 1)) (list_all_at is_signal d.signals sig signal wf.signals e) in
    record {
      wide = leb-true 1 signal.width (and_parts (nat_le 1 signal.width) (nat_le signal.width WIDEST) is.0).0;
      most = leb-true signal.width WIDEST (and_parts (nat_le 1 signal.width) (nat_le signal.width WIDEST) is.0).1;
      some = leb-true 1 signal.elements (and_parts (nat_le 1 signal.elements) (signal.memory || signal.elements == 1) is.1).0;
    }

-- ---- where a piece stands

inside_below : (n : ℕ) (z : ℤ) → IfSome (inside n z) (λ i. i < n)
inside_below n (negsuc i) = tt
inside_below n (pos i) = by (nat_lt i n) refl
  where
    by : (b : Bool) → nat_lt i n ≡ b → IfSome (if b then Some i else None) (λ j. j < n)
    by true e = ltb-true i n e
    by false e = tt

element_below : (signal : Signal) (address : Option FourState) → Sized signal → IfSome (element_of signal address) (λ i. i < signal.elements)
element_below signal None is = omega (arith, is.some)
element_below signal (Some a) is = by (index_of a)
  where
    by : (index : Option ℤ) → IfSome (option_and_then (λ at. inside signal.elements (at -ℤ signal.first)) index) (λ i. i < signal.elements)
    by None = tt
    by (Some at) = inside_below signal.elements (at -ℤ signal.first)

bits_inside : (width : ℕ) (low : ℤ) (bits : List Bit) → 1 ≤ length (inner_bits width low bits) → inner_low low + length (inner_bits width low bits) ≤ width
bits_inside width (pos low) bits some = let cut = length-take (width - low) bits in omega (arith, some, cut)
bits_inside width (negsuc n) bits some = let cut = length-take width (drop (suc n) bits) in omega (arith, some, cut)

module _ (d : Elaborated) (wf : IsWellFormed d) (worth : Expr → FourState) where
  some_fits : (sig : ℕ) (signal : Signal) (element low : ℕ) (bits : List Bit) → slice_get d.signals sig ≡ Some signal → element < signal.elements
      → (1 ≤ length bits → low + length bits ≤ signal.width) → IfSome (some_update sig element low bits) (IsUpdate d)
  some_fits sig signal element low [] e below is_in = tt
  some_fits sig signal element low (b ∷ bits) e below is_in =
      let long : 1 ≤ length (b ∷ bits) = omega arith in
      subst (λ o. IsSomeAnd o (FitsIn (record { sig = sig; element = element; low = low; bits = b ∷ bits }))) (sym e)
      (record { element = below; some = long; inside = is_in long })

  piece_fits : (piece : TargetPiece) (bits : List Bit) → IfSome (piece_update worth d.signals piece bits) (IsUpdate d)
  piece_fits piece bits = by_signal (slice_get d.signals piece.sig.0) refl
    where
      by_low : (signal : Signal) (element : ℕ) → slice_get d.signals piece.sig.0 ≡ Some signal → element < signal.elements → (low : Option ℤ)
          → IfSome (option_and_then (λ at. some_update piece.sig.0 element (inner_low at) (inner_bits signal.width at bits)) low) (IsUpdate d)
      by_low signal element e below None = tt
      by_low signal element e below (Some at) =
          some_fits piece.sig.0 signal element (inner_low at) (inner_bits signal.width at bits) e below (bits_inside signal.width at bits)

      by_element : (signal : Signal) → slice_get d.signals piece.sig.0 ≡ Some signal → (element : Option ℕ) → IfSome element (λ i. i < signal.elements)
          → IfSome (option_and_then (λ i.
          option_and_then (λ at. some_update piece.sig.0 i (inner_low at) (inner_bits signal.width at bits)) (piece_low worth piece)) element) (IsUpdate d)
      by_element signal e None below = tt
      by_element signal e (Some i) below = by_low signal i e below (piece_low worth piece)

      by_signal : (o : Option Signal) → slice_get d.signals piece.sig.0 ≡ o
          → IfSome (option_and_then (λ signal.
          option_and_then (λ i.
          option_and_then (λ at. some_update piece.sig.0 i (inner_low at) (inner_bits signal.width at bits)) (piece_low worth piece))
          (element_of signal (option_map worth piece.element))) o) (IsUpdate d)
      by_signal None e = tt
      by_signal (Some signal) e =
          by_element signal e (element_of signal (option_map worth piece.element)) (element_below signal (option_map worth piece.element) (sized d piece.sig.0 signal wf e))

  joined : (u : Option Update) (rest : List Update) → IfSome u (IsUpdate d) → Updates d rest → Updates d (cons_option u rest)
  joined None rest is all = all
  joined (Some u) rest is all = (is, all)

  pieces_fit : (pieces : List TargetPiece) (bits : List Bit)
      → Updates d (filter_map (λ (part : TargetPiece × List Bit). piece_update worth d.signals part.0 part.1) (cut pieces bits))
  pieces_fit [] bits = tt
  pieces_fit (piece ∷ rest) bits = joined _ _ (piece_fits piece _) (pieces_fit rest bits)

  pub assigned_fit : (target : Target) (bits : List Bit) → Updates d (updates_of worth d.signals target bits)
  unfolding updates_of
  assigned_fit target bits = pieces_fit target.0 bits
