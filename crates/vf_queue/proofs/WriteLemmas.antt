-- Writes into a patch, one after the other.
use Rattle.std.proofs.Common.{◌≡◌, ◌∙◌, refl, ap, ℕ, ◌<◌, List, length, slice_set, OnOk, IsOk, Result, Ok, Err}
use Rattle.std.proofs.lemmas.Bool.{false≢true}
use Rattle.vf_base.specs.declared.write.Write.{Write}
use Rattle.vf_machine.specs.Writes.{AllInside, written}
use Rattle.vf_queue.specs.Writing.{Writes}

pub one_write : (old new : List Write) (at word : ℕ) → ((base : List ℕ) → written base new ≡ slice_set (written base old) at word)
    → ((count : ℕ) → at < count → AllInside count old → AllInside count new)
    → (base : List ℕ) → at < length base → Writes base (λ words. slice_set words at word) old new
one_write old new at word words inside base h = record { words = words base; inside = inside (length base) h }

pub then_write : (base : List ℕ) (f h : List ℕ → List ℕ) (old mid new : List Write) → Writes base f old mid → Writes base h mid new → Writes base (λ words. h (f words)) old new
then_write base f h old mid new first second =
    record { words = second.words ∙ ap h first.words; inside = λ all. second.inside (first.inside all) }

pub writes_as : (base : List ℕ) (f h : List ℕ → List ℕ) (old new : List Write) → f (written base old) ≡ h (written base old) → Writes base f old new → Writes base h old new
writes_as base f h old new same w = record { words = w.words ∙ same; inside = w.inside }

pub ok_both : {T E P Q R : Type 0} (r : Result T E) → (P → Q → R) → OnOk r P → OnOk r Q → OnOk r R
ok_both (Ok x) f p q = f p q
ok_both (Err e) f p q = tt

pub when_ok : {T E P : Type 0} (r : Result T E) → IsOk r → OnOk r P → P
when_ok (Ok x) ok p = p
when_ok (Err e) ok p = absurd (false≢true ok)

pub no_write : (base : List ℕ) (patch : List Write) → Writes base (λ words. words) patch patch
no_write base patch = record { words = refl; inside = λ all. all }
