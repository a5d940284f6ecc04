-- Which addresses a filter lets through.
use Rattle.std.proofs.Common.{◌≡◌, ◌≢◌, ℕ, ◌≤◌, true, ◌*◌, ◌%◌, ◌^◌, List, Option, Some, None, bit_or, w64, refl, sym, ap, ◌∙◌, arith, ⊎_elim}
use Rattle.std.specs.Int.{bit_at}
use Rattle.std.specs.Prelude.{Result, Ok, Err, OnOk, OnErr}
use Rattle.std.proofs.lemmas.Bool.{cases_eq}
use Rattle.std.proofs.lemmas.Option.{none-some}
use Rattle.std.proofs.lemmas.Nat.Bits.{bit_at_set_same, bit_at_set_other}
use Rattle.vf_base.specs.declared.write.Write.{Write}
use Rattle.vf_machine.specs.Writes.{rises_from}
use Rattle.vf_patch.specs.Sorted.{found, IsPut}
use Rattle.vf_patch.specs.Patches.{IsFilter}
use Rattle.vf_patch.proofs.SortedLemmas.{miss}

filter-more : (filter at : ℕ) (old new : List Write) → IsFilter filter old → ((a : ℕ) → at ≢ a → found new a ≡ found old a) → IsFilter (bit_or filter (1 * 2 ^ (at % 64) % 18446744073709551616)) new
filter-more filter at old new h others a some =
    ⊎_elim
    (λ e. ap (bit_at (bit_or filter (1 * 2 ^ (at % 64) % 18446744073709551616))) e ∙ bit_at_set_same w64 filter (at % 64) (omega arith))
    (λ ne. bit_at_set_other w64 filter (at % 64) (omega arith) (a % 64) ne
    ∙ h a (λ none. some (others a (λ e. ne (ap (λ n. n % 64) (sym e))) ∙ none)))
    (cases_eq (a % 64) (at % 64))

by_result : {T E P Q R : Type 0} (r : Result T E) → OnOk r P → OnErr r Q → (P → R) → (Q → R) → R
by_result (Ok x) p q f g = f p
by_result (Err e) p q f g = g q

-- one address more, whether its write was put in or not
pub filter-put : {T E : Type 0} (r : Result T E) (filter at word : ℕ) (old new : List Write) → IsFilter filter old → OnOk r (IsPut at word old new) → OnErr r (new ≡ old) → IsFilter (bit_or filter (1 * 2 ^ (at % 64) % 18446744073709551616)) new
filter-put r filter at word old new h ok err =
    by_result r ok err
    (λ put. filter-more filter at old new h (λ a ne. put.words a ∙ miss at a (Some word) (found old a) ne))
    (λ same. filter-more filter at old new h (λ a ne. ap (λ ws. found ws a) same))

pub rises-put : {T E : Type 0} (r : Result T E) (low at word : ℕ) (old new : List Write) → low ≤ at → rises_from low old ≡ true → OnOk r (IsPut at word old new) → OnErr r (new ≡ old) → rises_from low new ≡ true
rises-put r low at word old new h rises ok err =
    by_result r ok err (λ put. put.rises low h rises) (λ same. ap (rises_from low) same ∙ rises)

none-of : (o : Option ℕ) → (o ≢ None → ⊥) → o ≡ None
none-of None h = refl
none-of (Some x) h = absurd (h (λ e. none-some x (sym e)))

-- what it does not let through is not written
pub filter-none : (filter at : ℕ) (ws : List Write) → IsFilter filter ws → bit_at filter (at % 64) ≡ 0 → found ws at ≡ None
filter-none filter at ws h bit = none-of (found ws at) (λ some. omega (arith, bit, h at some))
