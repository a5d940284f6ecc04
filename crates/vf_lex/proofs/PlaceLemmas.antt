-- Places after bytes, and the room to count on.
use Rattle.std.proofs.Common.{◌≡◌, ℕ, ◌+◌, ◌-◌, ◌<◌, ◌≤◌, eqb, List, [], ◌∷◌, length, get_or, drop, refl, ap, sym, ◌∙◌, inl, inr, add-one, drop-cons, arith, length-take}
use Rattle.std.proofs.lemmas.Bool.{cases_Bool, eqb-true}
use Rattle.std.proofs.lemmas.List.{drop_all}
use Rattle.vf_base.specs.declared.names.Place.{Place}
use Rattle.vf_lex.specs.declared.spot.Spot.{Spot}
use Rattle.vf_lex.specs.Answers.{HasRoom}
use Rattle.vf_lex.specs.Places.{place_after, moved_place, moved, nested, before}

pub moved_step : (place : Place) (bytes : List ℕ) (at : ℕ) → at < length bytes
    → moved_place (place_after place (get_or bytes at 0)) (drop (at + 1) bytes) ≡ moved_place place (drop at bytes)
unfolding moved_place
moved_step place bytes at h = sym (ap (moved_place place) (drop-cons bytes at 0 h) ∙ rw (add-one at) refl)

pub moved_none : (place : Place) (bytes : List ℕ) (at : ℕ) → length bytes ≤ at → moved_place place (drop at bytes) ≡ place
unfolding moved_place
moved_none place bytes at h = rw (drop_all at bytes h) refl

record HasGrown (old new : Place) (n : ℕ) : Type 0 where
  line : new.line ≤ old.line + n
  column : new.column ≤ old.column + n

pub line_step : (place : Place) (byte : ℕ) → (place_after place byte).line ≤ place.line + 1
line_step place byte = elim (cases_Bool (eqb byte 10)) [ inl is ↦ rw is (omega arith) | inr other ↦ rw other (omega arith) ]

pub column_step : (place : Place) (byte : ℕ) → (place_after place byte).column ≤ place.column + 1
column_step place byte = elim (cases_Bool (eqb byte 10)) [ inl is ↦ rw is (omega arith) | inr other ↦ rw other (omega arith) ]

grown : (place : Place) (bytes : List ℕ) → HasGrown place (moved_place place bytes) (length bytes)
unfolding moved_place
grown place [] = record { line = omega arith; column = omega arith }
grown place (byte ∷ more) =
    let g = grown (place_after place byte) more in
    record { line = omega (arith, g.line, line_step place byte); column = omega (arith, g.column, column_step place byte) }

-- there is room to count over the rest
pub room_after : (spot : Spot) (text rest : List ℕ) → length rest ≤ length text → HasRoom spot text
    → HasRoom (moved spot (before text rest)) rest
unfolding moved
room_after spot text rest h room = elim (cases_Bool (eqb spot.depth 0)) [
  | inl own ↦
      let g = grown spot.place (before text rest) in
      let size : length (before text rest) ≡ length text - length rest = length-take (length text - length rest) text
      ∙ omega arith in
      let fits = room.1 (eqb-true spot.depth 0 own) in
      rw own (omega arith, λ _. (omega (arith, g.line, size, fits.0), omega (arith, g.column, size, fits.1)))
  | inr used ↦ rw used (room.0, λ zero_is. (absurd cc))
]

pub room_nested : (spot : Spot) (body : List ℕ) → spot.depth < 16 → HasRoom (nested spot) body
room_nested spot body h = (omega arith, λ zero_is. absurd (omega (arith, zero_is)))

pub moved_depth : (spot : Spot) (bytes : List ℕ) → (moved spot bytes).depth ≡ spot.depth
unfolding moved
moved_depth spot bytes = elim (cases_Bool (eqb spot.depth 0))
    [ inl own ↦ rw own (sym (eqb-true spot.depth 0 own)) | inr used ↦ rw used refl ]
