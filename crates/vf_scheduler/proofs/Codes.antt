-- What a well-formed code says of an instruction of it.
use Rattle.std.proofs.Common.{◌≡◌, ℕ, zero, suc, ◌+◌, ◌<◌, Bool, true, false, not, ◌&&◌, List, [], ◌∷◌, length, Some, sym, ◌∙◌, ap, arith, slice_get}
use Rattle.std.proofs.lemmas.Bool.{false≢true, and_parts, or_left, or_right, not-true}
use Rattle.std.proofs.lemmas.Option.{none-some, same_Some}
use Rattle.std.specs.List.{list_all, list_any}
use Rattle.vf_elaborated.specs.declared.design.Process.{Process}
use Rattle.vf_elaborated.specs.declared.code.Instr.{Instr}
use Rattle.vf_elaborated.specs.Elaborated.{Elaborated}
use Rattle.vf_elaborated.specs.WellFormed.{is_process, is_code, is_ended, is_instr, is_drive, ends_code}

pub list_all_at : {A : Type 0} (p : A → Bool) (xs : List A) (i : ℕ) (x : A) → list_all p xs ≡ true → slice_get xs i ≡ Some x → p x ≡ true
list_all_at p [] i x all h = absurd (none-some x h)
list_all_at p (y ∷ rest) zero x all h = ap p (sym (same_Some y x h)) ∙ (and_parts (p y) (list_all p rest) all).0
list_all_at p (y ∷ rest) (suc i) x all h = list_all_at p rest i x (and_parts (p y) (list_all p rest) all).1 h

list_any_at : {A : Type 0} (p : A → Bool) (xs : List A) (i : ℕ) (x : A) → slice_get xs i ≡ Some x → p x ≡ true → list_any p xs ≡ true
list_any_at p [] i x h is = absurd (none-some x h)
list_any_at p (y ∷ rest) zero x h is = or_left (p y) (list_any p rest) (ap p (same_Some y x h) ∙ is)
list_any_at p (y ∷ rest) (suc i) x h is = or_right (p y) (list_any p rest) (list_any_at p rest i x h is)

-- an instruction that others follow is not the last one
pub goes_past : (code : List Instr) (place : ℕ) (instr : Instr) → is_ended code ≡ true → slice_get code place ≡ Some instr → ends_code instr ≡ false
    → place + 1 < length code
goes_past [] place instr ended h more = absurd (none-some instr h)
goes_past (first ∷ []) zero instr ended h more = absurd (false≢true (sym more ∙ (ap ends_code (sym (same_Some first instr h)) ∙ ended)))
goes_past (first ∷ []) (suc place) instr ended h more = absurd (none-some instr h)
goes_past (first ∷ next ∷ rest) zero instr ended h more = omega arith
goes_past (first ∷ next ∷ rest) (suc place) instr ended h more =
    let parts = and_parts (not (is_drive first)) (is_ended (next ∷ rest) && not (list_any is_drive (next ∷ rest))) ended in
    let later = and_parts (is_ended (next ∷ rest)) (not (list_any is_drive (next ∷ rest))) parts.1 in
    omega (arith, goes_past (next ∷ rest) place instr later.0 h more)

-- a continuous assignment is the first instruction
pub drive_first : (code : List Instr) (place : ℕ) (instr : Instr) → is_ended code ≡ true → slice_get code place ≡ Some instr → is_drive instr ≡ true
    → slice_get code 0 ≡ Some instr
drive_first [] place instr ended h drive = h
drive_first (first ∷ []) zero instr ended h drive = h
drive_first (first ∷ []) (suc place) instr ended h drive = absurd (none-some instr h)
drive_first (first ∷ next ∷ rest) zero instr ended h drive = h
drive_first (first ∷ next ∷ rest) (suc place) instr ended h drive =
    let parts = and_parts (not (is_drive first)) (is_ended (next ∷ rest) && not (list_any is_drive (next ∷ rest))) ended in
    let later = and_parts (is_ended (next ∷ rest)) (not (list_any is_drive (next ∷ rest))) parts.1 in
    absurd (false≢true (sym (not-true (list_any is_drive (next ∷ rest)) later.1) ∙ list_any_at is_drive (next ∷ rest) place instr h drive))

-- ---- processes

pub record Coded (d : Elaborated) (code : List Instr) : Type 0 where
  pub ended : is_ended code ≡ true
  pub instrs : list_all (is_instr d (length code)) code ≡ true

pub coded : (d : Elaborated) (process : Process) → is_process d process ≡ true → Coded d process.code
coded d process h =
    let code = and_parts (is_code d process.code) _ h in
    let parts = and_parts (is_ended process.code) (list_all (is_instr d (length process.code)) process.code) (and_parts _ _ code.0).1 in
    record { ended = parts.0; instrs = parts.1 }
