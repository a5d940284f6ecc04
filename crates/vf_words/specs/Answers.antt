-- Answers of the reader against those of its definition.
use Rattle.std.specs.Prelude.{◌≡◌, ◌≢◌, Result, Ok, Err}
use Rattle.vf_words.specs.declared.fault.WordFault.{WordFault}
use Rattle.vf_words.specs.declared.fault.WordFault.TheVariants as faults

-- what was answered, seen by view, is what the definition gives, unless memory ran out
abbrev pub Shows : {X Y : Type 0} → (X → Y) → Result X WordFault → Result Y WordFault → Type 0
Shows view (Ok x) is = is ≡ Ok (view x)
Shows view (Err fault) is = fault ≢ faults.Memory → is ≡ Err fault

abbrev pub Gives : {X : Type 0} → Result X WordFault → Result X WordFault → Type 0
Gives = Shows (λ x. x)
