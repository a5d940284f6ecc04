-- Writes at rising addresses.
use Rattle.std.proofs.Common.{◌≡◌, ℕ, ◌+◌, ◌<◌, ◌≤◌, Bool, true, ◌&&◌, nat_le, nat_lt, List, [], ◌∷◌, ◌++◌, map, refl, ap, ◌∙◌, arith, le-leb, lt-ltb}
use Rattle.std.proofs.lemmas.Bool.{and_from}
use Rattle.std.proofs.lemmas.List.{map-append}
use Rattle.vf_base.specs.declared.write.Write.{Write}
use Rattle.vf_frames.specs.Numbers.{rises}
use Rattle.vf_pages.specs.Writes.{AreWrites, address}
use Rattle.vf_pages.proofs.CallerLemmas.{rises-parts, rises-behind}

wider : (low limit above : ℕ) (xs : List ℕ) → rises low limit xs ≡ true → limit ≤ above → rises low above xs ≡ true
wider low limit above [] r h = refl
wider low limit above (x ∷ xs) r h =
    let parts = rises-parts low limit x xs r in
    and_from (nat_le low x) (nat_lt x above && rises (x + 1) above xs) (le-leb low x parts.0)
    (and_from (nat_lt x above) (rises (x + 1) above xs) (lt-ltb x above (omega (arith, parts.1))) (wider (x + 1) limit above xs parts.2 h))

pub within : (next words : ℕ) (ws : List Write) → AreWrites next ws → next ≤ words → AreWrites words ws
within next words ws r h = wider 0 next words (map address ws) r h

pub added : (next at word : ℕ) (ws : List Write) → AreWrites next ws → next ≤ at → AreWrites (at + 1) (ws ++ record { at = at; word = word } ∷ [])
added next at word ws r h =
    ap (rises 0 (at + 1)) (map-append address ws (record { at = at; word = word } ∷ []))
    ∙ rises-behind 0 next (at + 1) at (map address ws) r (omega arith) h (omega arith)
